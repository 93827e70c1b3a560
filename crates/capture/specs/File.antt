-- A capture file (document 01, "Capture file and listing"): contents first, then bodies. Two bytes say how many entries there are; then
-- comes an entry for each, of four bytes: its kind, a zero byte and the length of its body; then the bodies back to back. Kinds 1 to 3 have
-- a session ID as body, and a data entry has a packet. How many bytes stand before the entries, and how many an entry has, are parameters
-- of all that reads a file by place and of its refusals: `head` and `width`. From `file_refusal` on they are those of this form, 2 and 4.
--
--    0                   1                   2                   3
--    0 1 2 3 4 5 6 7 8 9 0 1 2 3 4 5 6 7 8 9 0 1 2 3 4 5 6 7 8 9 0 1
--   +-+-+-+-+-+-+-+-+-+-+-+-+-+-+-+-+
--   |               N               |
--   +-+-+-+-+-+-+-+-+-+-+-+-+-+-+-+-+-+-+-+-+-+-+-+-+-+-+-+-+-+-+-+-+
--   |     kind      |    second     |            length             |   entry 0; then those to entry N - 1
--   +-+-+-+-+-+-+-+-+-+-+-+-+-+-+-+-+-+-+-+-+-+-+-+-+-+-+-+-+-+-+-+-+
--   |              body of entry 0, of `length` bytes               |   then those to entry N - 1
--   +-+-+-+-+-+-+-+-+-+-+-+-+-+-+-+-+-+-+-+-+-+-+-+-+-+-+-+-+-+-+-+-+
use Rattle.std.specs.Prelude.{ℕ, ◌+◌, ◌-◌, ◌*◌, ◌<◌, ◌≡◌, Bool, true, false, not, cond, ◌&&◌, ◌||◌, List, [], ◌∷◌, ◌++◌, map, eqb, ltb, leb}
use Rattle.std.specs.Prelude.{length}
use Rattle.std.specs.Borrow.{Bor}
use Rattle.refusal.specs.Refusal.{Refusal, ◌when◌, first}
use Rattle.octets.specs.Bytes.{byte_at, be16_at, two, four}
use Rattle.octets.specs.Stretch.{part, joined}
use Rattle.octets.specs.Count.{any, sum_to, up_to}

abbrev pub head_length : ℕ
head_length = 2

abbrev pub entry_length : ℕ
entry_length = 4

-- the most bytes and the most entries of a file
abbrev pub longest_file : ℕ
longest_file = 60000

abbrev pub most_entries : ℕ
most_entries = 1000

-- The kinds of entries.
abbrev pub open_psp : ℕ
open_psp = 1

abbrev pub open_dmpt : ℕ
open_dmpt = 2

abbrev pub closing : ℕ
closing = 3

-- a packet that came over IP, and one that came over UDP (document 02, W1)
abbrev pub data_entry : ℕ
data_entry = 4

abbrev pub data_over_udp : ℕ
data_over_udp = 5

-- how long a session ID is, as the body of an entry
abbrev pub id_body : ℕ
id_body = 4

-- What the body of an entry may be: of one length, or of any. A number that the table of kinds does not have is no kind.
pub data Body : Type 0 where
  exactly : ℕ → Body
  any_length : Body
  no_kind : Body

pub record KindRow : Type 0 where
  pub number : ℕ
  pub its_body : Body

abbrev pub kinds : List KindRow
kinds =
    record { number = open_psp; its_body = exactly id_body }
    ∷ record { number = open_dmpt; its_body = exactly id_body }
    ∷ record { number = closing; its_body = exactly id_body }
    ∷ record { number = data_entry; its_body = any_length }
    ∷ record { number = data_over_udp; its_body = any_length }
    ∷ []

abbrev pub body_in : List KindRow → ℕ → Body
body_in [] kind = no_kind
body_in (row ∷ more) kind = cond (eqb kind row.number) row.its_body (body_in more kind)

abbrev pub is_kind : Body → Bool
is_kind (exactly n) = true
is_kind any_length = true
is_kind no_kind = false

-- (of what is no kind there is nothing to ask here: it is refused as such)
abbrev pub takes_length : Body → ℕ → Bool
takes_length (exactly n) size = eqb size n
takes_length any_length size = true
takes_length no_kind size = true

-- Reading: how many entries there are, as the last two bytes before the entries say; and the parts of entry k.
abbrev pub entry_count : ℕ → List ℕ → ℕ
entry_count head file = be16_at file (head - 2)

abbrev pub kind_at : ℕ → ℕ → List ℕ → ℕ → ℕ
kind_at head width file k = byte_at file (head + width * k)

abbrev pub second_at : ℕ → ℕ → List ℕ → ℕ → ℕ
second_at head width file k = byte_at file (head + width * k + 1)

abbrev pub body_length : ℕ → ℕ → List ℕ → ℕ → ℕ
body_length head width file k = be16_at file (head + width * k + 2)

-- where the body of entry k starts, behind all entries and all bodies before it
unfoldable pub body_start : ℕ → ℕ → List ℕ → ℕ → ℕ
body_start head width file k = head + width * entry_count head file + sum_to (body_length head width file) k

-- 44: another kind, a second byte that is not 0, or a length that the kind does not take
abbrev pub wrong_parts : ℕ → ℕ → ℕ → Bool
wrong_parts kind second size =
    not (is_kind (body_in kinds kind)) || not (eqb second 0) || not (takes_length (body_in kinds kind) size)

abbrev pub wrong_entry : ℕ → ℕ → List ℕ → ℕ → Bool
wrong_entry head width file k = wrong_parts (kind_at head width file k) (second_at head width file k) (body_length head width file k)

-- The order of document 01. A file too short for its contents is 42 only where it may have so many entries: else it is 43.
abbrev pub file_refusals : ℕ → ℕ → List ℕ → List Refusal
file_refusals head width file =
    let n = entry_count head file in
    41 when ltb longest_file (length file)
    ∷ 42 when (ltb (length file) head || (leb n most_entries && ltb (length file) (head + width * n)))
    ∷ 43 when ltb most_entries n
    ∷ 44 when any (wrong_entry head width file) n
    ∷ 45 when not (eqb (body_start head width file n) (length file))
    ∷ []

unfoldable pub file_refusal : List ℕ → ℕ
file_refusal file = first (file_refusals head_length entry_length file)

-- An entry; those of a file that is not refused.
pub record Entry : Type 0 where
  pub kind : ℕ
  pub body : List ℕ

-- that which opens a session as PSP
abbrev pub opening : ℕ → Entry
opening session = record { kind = open_psp; body = four session }

unfoldable pub nth_entry : List ℕ → ℕ → Entry
nth_entry file k =
    record {
      kind = kind_at head_length entry_length file k;
      body = part file (body_start head_length entry_length file k) (body_length head_length entry_length file k);
    }

unfoldable pub entries : List ℕ → List Entry
entries file = up_to (nth_entry file) (entry_count head_length file)

-- Writing: an entry's part of the contents, and the file of a list of entries.
abbrev pub content_for : ℕ → ℕ → List ℕ
content_for kind size = kind ∷ 0 ∷ two size

abbrev pub content_of : Entry → List ℕ
content_of e = e.kind ∷ 0 ∷ two (length e.body)

abbrev pub body_of : Entry → List ℕ
body_of e = e.body

unfoldable pub file_of : List Entry → List ℕ
file_of es = two (length es) ++ joined (map content_of es) ++ joined (map body_of es)

-- What the check permits; and an entry's body, handed out as the stretch of the file that it is: `ptr` is where a slice stands in memory,
-- the block and the place in it, and `now` the bytes there. A copy, or equal bytes from elsewhere in the file, will not do.
abbrev pub PermitsCheck : List ℕ → ℕ → Type 0
PermitsCheck file answer = answer ≡ file_refusal file

pub record PermitsBody (file : Bor (List ℕ)) (index : ℕ) (answer : Bor (List ℕ)) : Type 0 where
  pub in_the_file : answer.ref_ptr.0 ≡ file.ref_ptr.0
  pub at_its_place : answer.ref_ptr.1 ≡ file.ref_ptr.1 + body_start head_length entry_length file.now index
  pub its_bytes : answer.now ≡ (nth_entry file.now index).body

-- Where a walk through the entries stands: before entry `index`, whose body starts at `start`. There is no byte behind the last body.
pub record StandsAt (file : List ℕ) (index start : ℕ) : Type 0 where
  pub sound : file_refusal file ≡ 0
  pub not_past : index < entry_count head_length file
  pub its_start : start ≡ body_start head_length entry_length file index
