-- A capture that is being written: its contents grow in one slice and its bodies in another, so that an entry can be added without moving
-- anything; how many entries there are is written last. The file is the front of the one slice and then the front of the other. Entries
-- that are too many for a file, or too long, are counted and not written, so that the file is refused by 41 or 43 and never cut short.
-- Where it is known before how many entries there will be, contents and bodies grow in one slice.
use Rattle.std.specs.Prelude.{ℕ, ◌+◌, ◌*◌, ◌<◌, ◌≤◌, ◌≡◌, Bool, true, cond, ◌&&◌, List, [], ◌∷◌, map, eqb, leb, ltb, length}
use Rattle.refusal.specs.Refusal.{Refusal, ◌when◌, first}
use Rattle.octets.specs.Bytes.{two}
use Rattle.octets.specs.Stretch.{put, joined}
use Rattle.octets.specs.Each.{Each}
use Rattle.capture.specs.declared.Writer.{Writer}
use Rattle.capture.specs.File.{head_length, entry_length, longest_file, most_entries, kinds, body_in, is_kind, takes_length, Entry}
use Rattle.capture.specs.File.{content_of, body_of, file_of}

-- room for one more entry
pub record Fits (contents bodies : List ℕ) (w : Writer) (body : List ℕ) : Type 0 where
  pub entry_inside : head_length + entry_length * w.entries + entry_length ≤ length contents
  pub body-inside : w.bytes + length body ≤ length bodies
  pub body-short : length body < 65536

abbrev pub added : Writer → List ℕ → Writer
added w body = record { entries = w.entries + 1; bytes = w.bytes + length body }

-- the length of the file, and whether one of so many entries with so many bytes is within a file's limits
abbrev pub file_length : Writer → ℕ
file_length w = head_length + entry_length * w.entries + w.bytes

abbrev pub within : Writer → Bool
within w = leb w.entries most_entries && leb (file_length w) longest_file

-- the order of document 01. (42 and 45 cannot apply to a file that is written here; 44 does not, where every entry is `Right`:
-- `written-sound`.)
abbrev pub write_refusals : Writer → List Refusal
write_refusals w =
    41 when ltb longest_file (file_length w)
    ∷ 43 when ltb most_entries w.entries
    ∷ []

-- the slices have room for any file
pub record Roomy (contents bodies : List ℕ) : Type 0 where
  pub contents_long : head_length + entry_length * most_entries ≤ length contents
  pub bodies_long : longest_file ≤ length bodies

-- counts that are far from overflowing: those of a file whose length is asked for, and those to which a body is added
abbrev pub Summable : Writer → Type 0
Summable w = (w.entries ≤ 4294967296) × (w.bytes ≤ 4294967296 * 65536 + 65536)

pub record Countable (w : Writer) (body : List ℕ) : Type 0 where
  pub few-entries : w.entries < 4294967296
  pub few_bytes : w.bytes < 4294967296 * 65536
  pub body-short : length body < 65536

-- the slices after an entry was added
abbrev pub contents_after : List ℕ → Writer → Entry → List ℕ
contents_after contents w e = cond (within (added w e.body)) (put contents (head_length + entry_length * w.entries) (content_of e)) contents

abbrev pub bodies_after : List ℕ → Writer → Entry → List ℕ
bodies_after bodies w e = cond (within (added w e.body)) (put bodies w.bytes e.body) bodies

-- .. and once all are: how many there are is written, where the file is not refused
abbrev pub contents_finished : List ℕ → Writer → List ℕ
contents_finished contents w = cond (eqb (first (write_refusals w)) 0) (put contents 0 (two w.entries)) contents

-- what stands in the two slices once these entries have been added to a capture that was begun in them
pub record Holds (entries : List Entry) (contents₀ bodies₀ contents bodies : List ℕ) (w : Writer) : Type 0 where
  pub entries-counted : w.entries ≡ length entries
  pub bytes_counted : w.bytes ≡ length (joined (map body_of entries))
  pub contents_now : contents ≡ put contents₀ head_length (joined (map content_of entries))
  pub bodies_now : bodies ≡ put bodies₀ 0 (joined (map body_of entries))

-- Into one slice, of a file that will have `count` entries: room for one more, the slice after it, and what stands in it once these entries
-- have been laid.
abbrev pub bodies_from : ℕ → ℕ
bodies_from count = head_length + entry_length * count

pub record FitsIn (file : List ℕ) (count : ℕ) (w : Writer) (body : List ℕ) : Type 0 where
  pub entry_left : w.entries < count
  pub body-inside : bodies_from count + w.bytes + length body ≤ length file
  pub body-short : length body < 65536

abbrev pub laid : List ℕ → ℕ → Writer → Entry → List ℕ
laid file count w e = put (put file (head_length + entry_length * w.entries) (content_of e)) (bodies_from count + w.bytes) e.body

pub record Laid (entries : List Entry) (count : ℕ) (file₀ file : List ℕ) (w : Writer) : Type 0 where
  pub entries-counted : w.entries ≡ length entries
  pub bytes_counted : w.bytes ≡ length (joined (map body_of entries))
  pub as_long : length file ≡ length file₀
  pub file_now : file ≡ put (put file₀ head_length (joined (map content_of entries))) (bodies_from count) (joined (map body_of entries))

-- An entry may be written if its kind is in the table, and the kind takes the length of its body.
pub record Right (e : Entry) : Type 0 where
  pub its_kind : is_kind (body_in kinds e.kind) ≡ true
  pub its_length : takes_length (body_in kinds e.kind) (length e.body) ≡ true

-- Entries that may be written as a file. (That two bytes can say the length of each body need not be asked: no body is longer than the
-- file.)
pub record Writable (es : List Entry) : Type 0 where
  pub few : length es ≤ most_entries
  pub short : length (file_of es) ≤ longest_file
  pub right : Each Right es
