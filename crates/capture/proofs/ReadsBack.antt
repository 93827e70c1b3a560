-- A sound capture file is the file of its entries (`reads_back`); and the other way round, the file of entries that may be written is sound
-- (`written-sound`), and those entries are read from it (`written_reads`).
use Prim.Native.Nat.{ℕ, zero, suc, ◌+◌, ◌*◌, ◌<◌, ◌≤◌}
use mathlib.Core.Path.{◌≡◌, refl, sym, ap, subst, ◌∙◌}
use mathlib.Core.Bool.{Bool, false, not, ◌||◌}
use mathlib.Core.List.{List, [], ◌∷◌, ◌++◌, map, append-nil}
use native.Mathlib.Omega.{arith}
use lib.Dec.{eqb}
use lib.ListN.{length, length-append}
use lib.Seq.{append_snoc}
use borrow.Author.Tests.{eqb-true, not-false}
use Rattle.octets.specs.Bytes.{byte_at, two, AllBytes}
use Rattle.octets.specs.Each.{Each}
use Rattle.octets.specs.Stretch.{part, joined}
use Rattle.octets.specs.Count.{any, sum_to, up_to}
use Rattle.octets.proofs.Stretches.{length_part, byte_part, part_none, part-part, part-part_front, part-two, part_all, append-same}
use Rattle.octets.proofs.Stretches.{joined-none, joined-map_more, joined_apart, part-joined, length-joined-none}
use Rattle.octets.proofs.Elements.{each-up_to}
use Rattle.octets.proofs.Numbers.{two-read}
use Rattle.octets.proofs.Counts.{or-false-left, or-false-right, none_at, sum-within, length-up_to, up_to_more, none_more, sum_more}
use Rattle.capture.specs.Write.{Right, Writable}
use Rattle.capture.proofs.Writing.{contents_length, file_length_lem}
use Rattle.capture.proofs.Checking.{Sound, is_sound, sound_passes, body-inside as stands-inside, body_long as stands_long}
use Rattle.capture.specs.File.{head_length, entry_length, body_in, kinds, is_kind, takes_length, entry_count, kind_at, second_at}
use Rattle.capture.specs.File.{body_length}
use Rattle.capture.specs.File.{body_start, longest_file, StandsAt}
use Rattle.capture.specs.File.{wrong_parts, wrong_entry, file_refusal, Entry, nth_entry, entries, content_of, body_of, file_of}

-- A file read with its head and width: how many entries there are, where each stands in the contents, and what is read of each.
abbrev count : List ℕ → ℕ
count file = entry_count head_length file

abbrev entry_at : ℕ → ℕ
entry_at k = head_length + entry_length * k

abbrev kind_of : List ℕ → ℕ → ℕ
kind_of file k = kind_at head_length entry_length file k

abbrev second_of : List ℕ → ℕ → ℕ
second_of file k = second_at head_length entry_length file k

abbrev size_of : List ℕ → ℕ → ℕ
size_of file k = body_length head_length entry_length file k

abbrev start_of : List ℕ → ℕ → ℕ
start_of file k = body_start head_length entry_length file k

abbrev wrong : List ℕ → ℕ → Bool
wrong file k = wrong_entry head_length entry_length file k

-- the second byte of an entry that is not wrong is 0
second_zero : (kind second size : ℕ) → wrong_parts kind second size ≡ false → second ≡ 0
second_zero kind second size right =
    let no_kind = not (is_kind (body_in kinds kind)) in
    let other_length = not (takes_length (body_in kinds kind) size) in
    let either = or-false-left (no_kind || not (eqb second 0)) other_length right in
    eqb-true second 0 (not-false (eqb second 0) (or-false-right no_kind (not (eqb second 0)) either))

-- A sound file is read and written again.
module _ (file : List ℕ) (bytes : AllBytes file) (sound : Sound file) where
  module _ (k : ℕ) (not_past : k < count file) where
    -- an entry lies within the file, and so does its body
    entry_inside : entry_at k + entry_length ≤ length file
    entry_inside = omega (arith, sound.contents_inside)

    body-inside : start_of file k + size_of file k ≤ length file
    unfolding body_start
    body-inside = omega (arith, sum-within (size_of file) k (count file) not_past, sound.ends)

    -- .. which is therefore as long as the entry says
    body_long : length (nth_entry file k).body ≡ size_of file k
    unfolding nth_entry
    body_long = length_part file (start_of file k) (size_of file k) body-inside

    -- the kind and the zero byte are written again as they stood, and so is the length of the body
    marks_same : kind_of file k ∷ 0 ∷ [] ≡ part file (entry_at k) 2
    marks_same =
        let zero-byte =
        second_zero (kind_of file k) (second_of file k) (size_of file k) (none_at (wrong file) (count file) k sound.none_wrong not_past) in
        ap (λ (second : ℕ). kind_of file k ∷ second ∷ []) (sym zero-byte) ∙ sym (part-two file (entry_at k) (omega (arith, entry_inside)))

    size_same : two (length (nth_entry file k).body) ≡ part file (entry_at k + 2) 2
    size_same = ap two body_long ∙ two-read file (entry_at k + 2) bytes (omega (arith, entry_inside))

    -- .. so the entry's part of the contents is
    content_same : content_of (nth_entry file k) ≡ part file (entry_at k) entry_length
    unfolding nth_entry
    content_same =
        ap (λ (size : List ℕ). kind_of file k ∷ 0 ∷ size) size_same
        ∙ ap (λ (marks : List ℕ). marks ++ part file (entry_at k + 2) 2) marks_same
        ∙ part-part file (entry_at k) 2 2

  -- the first k entries are written again as their part of the contents
  contents_same : (k : ℕ) → k ≤ count file → joined (map content_of (up_to (nth_entry file) k)) ≡ part file head_length (entry_length * k)
  unfolding up_to
  contents_same zero h = joined-none ∙ sym (part_none file head_length)
  contents_same (suc k) h =
      let more : entry_length * k + entry_length ≡ entry_length * suc k = omega arith in
      joined-map_more content_of (up_to (nth_entry file) k) (nth_entry file k)
      ∙ rw (contents_same k (omega arith), content_same k h) (part-part file head_length (entry_length * k) entry_length)
      ∙ ap (part file head_length) more

  -- .. and their bodies as they stood behind the contents
  bodies-same : (k : ℕ) → k ≤ count file →
      joined (map body_of (up_to (nth_entry file) k)) ≡ part file (entry_at (count file)) (sum_to (size_of file) k)
  unfolding up_to sum_to nth_entry body_start
  bodies-same zero h = joined-none ∙ sym (part_none file (entry_at (count file)))
  bodies-same (suc k) h =
      joined-map_more body_of (up_to (nth_entry file) k) (nth_entry file k)
      ∙ rw (bodies-same k (omega arith)) (part-part file (entry_at (count file)) (sum_to (size_of file) k) (size_of file k))

  -- the two bytes before the contents are written again as they stood
  head_same : two (length (entries file)) ≡ part file 0 head_length
  unfolding entries
  head_same = ap two (length-up_to (nth_entry file) (count file)) ∙ two-read file 0 bytes (omega (arith, sound.contents_inside))

  -- and there is nothing else
  all_same : file_of (entries file) ≡ file
  unfolding file_of entries body_start
  all_same =
      let n = count file in
      let all = sum_to (size_of file) n in
      append-same (append-same head_same (contents_same n (omega arith))) (bodies-same n (omega arith))
      ∙ ap (λ (front : List ℕ). front ++ part file (entry_at n) all) (part-part_front file head_length (entry_length * n))
      ∙ part-part_front file (entry_at n) all
      ∙ ap (part file 0) sound.ends
      ∙ part_all file

-- a sound capture file is the file of its entries
pub reads_back : (file : List ℕ) → AllBytes file → file_refusal file ≡ 0 → file_of (entries file) ≡ file
reads_back file bytes z = all_same file bytes (is_sound file z)

-- .. and of any numbers, bytes or not: the file of its entries is as long as it is, and no body is longer than a file
module _ (file : List ℕ) (passes : file_refusal file ≡ 0) where
  standing : (k : ℕ) → k < entry_count head_length file → StandsAt file k (body_start head_length entry_length file k)
  standing k below = record { sound = passes; not_past = below; its_start = refl }

  bodies_long : (k : ℕ) → k ≤ entry_count head_length file →
      length (joined (map body_of (up_to (nth_entry file) k))) ≡ sum_to (body_length head_length entry_length file) k
  unfolding up_to sum_to
  bodies_long zero h = length-joined-none
  bodies_long (suc k) h =
      let before = up_to (nth_entry file) k in
      ap length (joined-map_more body_of before (nth_entry file k))
      ∙ omega (
        arith,
        length-append (joined (map body_of before)) (body_of (nth_entry file k)),
        stands_long (standing k (omega arith)),
        bodies_long k (omega arith),
      )

  pub length_reads_back : length (file_of (entries file)) ≡ length file
  unfolding entries body_start
  length_reads_back =
      let n = entry_count head_length file in
      omega (
        arith,
        file_length_lem (up_to (nth_entry file) n),
        length-up_to (nth_entry file) n,
        bodies_long n (omega arith),
        (is_sound file passes).ends,
      )

  pub bodies-short : Each (λ e. length e.body ≤ longest_file) (entries file)
  unfolding entries
  bodies-short =
      each-up_to (λ e. length e.body ≤ longest_file) (nth_entry file) (entry_count head_length file)
      (λ k below.
      let stands = standing k below in
      omega (arith, stands_long stands, stands-inside stands refl, (is_sound file passes).short))

-- The other direction: an entry that may be written is not wrong
right_parts : (e : Entry) → Right e → wrong_parts e.kind 0 (length e.body) ≡ false
right_parts e r = rw (r.its_kind, r.its_length) refl

-- The contents and the bodies of a list of entries.
abbrev contents : List Entry → List ℕ
contents es = joined (map content_of es)

abbrev bodies : List Entry → List ℕ
bodies es = joined (map body_of es)

-- how long the bodies are with one more
bodies_more : (before : List Entry) (e : Entry) → length (bodies (before ++ (e ∷ []))) ≡ length (bodies before) + length e.body
bodies_more before e = ap length (joined-map_more body_of before e) ∙ length-append (bodies before) e.body

-- entries are the same where their parts are
entry_same : (kind₁ kind₂ : ℕ) (body₁ body₂ : List ℕ) → kind₁ ≡ kind₂ → body₁ ≡ body₂ →
    ◌≡◌ {A = Entry} (record { kind = kind₁; body = body₁ }) (record { kind = kind₂; body = body₂ })
entry_same kind₁ kind₂ body₁ body₂ p q = rw (p, q) refl

-- Whoever has read the entries `before` from the front of a file: these are they, none is wrong, and their bodies are as long as they say.
record HasRead (file : List ℕ) (before : List Entry) : Type 0 where
  these : up_to (nth_entry file) (length before) ≡ before
  none_wrong : any (wrong file) (length before) ≡ false
  bodies-counted : sum_to (size_of file) (length before) ≡ length (bodies before)

-- The file of a list of entries, read at one of them.
module _ (es : List Entry) (writable : Writable es) where
  -- it says how many entries there are
  count-read : count (file_of es) ≡ length es
  unfolding file_of
  count-read = omega (arith, writable.few)

  module _ (before : List Entry) (e : Entry) (behind : List Entry) (split : es ≡ before ++ e ∷ behind) where
    -- a body is no longer than the file, so two bytes can say its length
    body-short : length e.body < 65536
    body-short =
        let all : bodies es ≡ bodies before ++ e.body ++ bodies behind = ap bodies split ∙ joined_apart body_of before e behind in
        omega (
          arith,
          writable.short,
          file_length_lem es,
          ap length all,
          length-append (bodies before ++ e.body) (bodies behind),
          length-append (bodies before) e.body,
        )

    -- the entry's part of the contents stands in its place
    content_read : part (file_of es) (entry_at (length before)) entry_length ≡ content_of e
    unfolding file_of
    content_read =
        let at : entry_at (length before) ≡ head_length + length (contents before) = omega (arith, contents_length before) in
        ap (λ (l : List Entry). part (two (length es) ++ contents l ++ bodies es) (entry_at (length before)) entry_length) split
        ∙ ap (λ (from : ℕ). part (two (length es) ++ contents (before ++ e ∷ behind) ++ bodies es) from entry_length) at
        ∙ part-joined content_of (two (length es)) (bodies es) before e behind

    -- .. and so does each byte of it
    byte_read : (j place : ℕ) → j < entry_length → place ≡ entry_at (length before) + j →
        byte_at (file_of es) place ≡ byte_at (content_of e) j
    byte_read j place inside at =
        ap (byte_at (file_of es)) at ∙ sym (byte_part (file_of es) (entry_at (length before)) entry_length j inside)
        ∙ ap (λ (l : List ℕ). byte_at l j) content_read

    -- so its kind, its second byte and the length of its body are read as they were written
    kind-read : kind_of (file_of es) (length before) ≡ e.kind
    kind-read = byte_read 0 (entry_at (length before)) (omega arith) (omega arith)

    second_read : second_of (file_of es) (length before) ≡ 0
    second_read = byte_read 1 (entry_at (length before) + 1) (omega arith) refl

    size-read : size_of (file_of es) (length before) ≡ length e.body
    size-read =
        let at = entry_at (length before) + 2 in
        omega (arith, body-short, byte_read 2 at (omega arith) refl, byte_read 3 (at + 1) (omega arith) (omega arith))

    -- the entry is not wrong, where it may be written
    right-read : Right e → wrong (file_of es) (length before) ≡ false
    right-read r = rw (kind-read, second_read, size-read) (right_parts e r)

    module _ (read : HasRead (file_of es) before) where
      -- its body stands behind those of the entries before it
      start-read : start_of (file_of es) (length before) ≡ length (two (length es) ++ contents es) + length (bodies before)
      unfolding body_start
      start-read = omega (arith, count-read, read.bodies-counted, contents_length es)

      -- .. where it is read as it was written
      body-read : part (file_of es) (start_of (file_of es) (length before)) (size_of (file_of es) (length before)) ≡ e.body
      unfolding file_of
      body-read =
          let head = two (length es) ++ contents es in
          let all = bodies (before ++ e ∷ behind) in
          let none-behind : file_of es ≡ head ++ all ++ [] =
          ap (λ (l : List Entry). head ++ bodies l) split ∙ sym (append-nil (head ++ all)) in
          rw (start-read, size-read) (ap (λ (l : List ℕ). part l (length head + length (bodies before)) (length e.body)) none-behind
          ∙ part-joined body_of head [] before e behind)

      -- so the entry is read
      this_read : nth_entry (file_of es) (length before) ≡ e
      unfolding nth_entry
      this_read = entry_same _ e.kind _ e.body kind-read body-read

      -- .. and one more is
      read_more : Right e → HasRead (file_of es) (before ++ (e ∷ []))
      read_more r =
          let k = length before in
          let one : length (before ++ (e ∷ [])) ≡ k + 1 = length-append before (e ∷ []) in
          record {
            these =
                ap (up_to (nth_entry (file_of es))) one ∙ up_to_more (nth_entry (file_of es)) k
                ∙ rw (read.these, this_read) refl;
            none_wrong = ap (any (wrong (file_of es))) one ∙ none_more (wrong (file_of es)) k read.none_wrong (right-read r);
            bodies-counted =
                ap (sum_to (size_of (file_of es))) one ∙ sum_more (size_of (file_of es)) k
                ∙ omega (arith, read.bodies-counted, size-read, bodies_more before e);
          }

  -- before the first there is nothing to read
  read_none : HasRead (file_of es) []
  unfolding up_to any sum_to
  read_none = record { these = refl; none_wrong = refl; bodies-counted = sym length-joined-none }

  -- the entries behind are read one after the other
  read_on : (before behind : List Entry) → es ≡ before ++ behind → Each Right behind → HasRead (file_of es) before → HasRead (file_of es) es
  read_on before [] split right read = subst (HasRead (file_of es)) (sym (split ∙ append-nil before)) read
  read_on before (e ∷ behind) split right read =
      read_on (before ++ (e ∷ [])) behind (split ∙ sym (append_snoc before e behind)) right.1
      (read_more before e behind split read right.0)

  -- so all are
  read_all : HasRead (file_of es) es
  read_all = read_on [] es refl writable.right read_none

-- the entries that may be written are read again from their file
pub written_reads : (es : List Entry) → Writable es → entries (file_of es) ≡ es
unfolding entries
written_reads es writable = ap (up_to (nth_entry (file_of es))) (count-read es writable) ∙ (read_all es writable).these

-- .. which is not refused
pub written-sound : (es : List Entry) → Writable es → file_refusal (file_of es) ≡ 0
unfolding body_start
written-sound es writable =
    let file = file_of es in
    let n = count-read es writable in
    let read = read_all es writable in
    sound_passes file
    (record {
      short = writable.short;
      few = omega (arith, n, writable.few);
      contents_inside = omega (arith, n, file_length_lem es);
      none_wrong = ap (any (wrong file)) n ∙ read.none_wrong;
      ends = omega (arith, n, file_length_lem es, read.bodies-counted, ap (sum_to (size_of file)) n);
    })
