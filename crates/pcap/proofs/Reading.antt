-- What the definitions of a file's header and of its records (specs/File.antt) come to, case by case: a file with and without room for a
-- header, a place with and without a whole record. The functions of `records` are right by these.
use Prim.Native.Nat.{ℕ, ◌+◌, ◌-◌, ◌<◌, ◌≤◌}
use mathlib.Core.Path.{◌≡◌, refl}
use mathlib.Core.Bool.{Bool, true, false, not}
use mathlib.Core.List.{List}
use native.Mathlib.Omega.{arith}
use lib.Dec.{eqb, ltb, leb}
use lib.ListN.{length}
use borrow.Author.Tests.{lt-ltb, le-ltb, ltb-false, leb-true, not-true}
use Rattle.refusal.proofs.Laws.{and_left, and_right, cond-true, cond-false}
use Rattle.octets.specs.Order.{le32_at}
use Rattle.octets.specs.Stretch.{part}
use Rattle.octets.proofs.Counts.{or-false-left}
use Rattle.octets.proofs.Stretches.{length_part}
use Rattle.pcap.specs.File.{file_header, record_header, magic, is_little, wrong_fields, bad_header, first_place}
use Rattle.pcap.specs.File.{left, kept, whole, start, size, after, bytes_at}

-- The header.
module _ (file : List ℕ) where
  pub little_long : file_header ≤ length file → is_little file ≡ eqb (le32_at file 0) magic
  unfolding is_little
  little_long h = rw (le-ltb (length file) file_header h) refl

  pub header_long : file_header ≤ length file → bad_header file ≡ wrong_fields (is_little file) file
  unfolding bad_header
  header_long h = rw (le-ltb (length file) file_header h) refl

  -- a good file has room for its header
  pub header-fits : bad_header file ≡ false → file_header ≤ length file
  unfolding bad_header
  header-fits h = ltb-false (length file) file_header (or-false-left (ltb (length file) file_header) (wrong_fields (is_little file) file) h)

  pub first_bad : bad_header file ≡ true → first_place file ≡ length file
  unfolding first_place
  first_bad h = cond-true _ _ _ h

  pub first_good : bad_header file ≡ false → first_place file ≡ file_header
  unfolding first_place
  first_good h = cond-false _ _ _ h

  -- the first place lies in the file, or is its end
  first-inside_by : (bad : Bool) → bad_header file ≡ bad → first_place file ≤ length file
  first-inside_by true h = omega (arith, first_bad h)
  first-inside_by false h = omega (arith, first_good h, header-fits h)

  pub first-inside : first_place file ≤ length file
  first-inside = first-inside_by (bad_header file) refl

-- A place.
module _ (file : List ℕ) (at : ℕ) (little : Bool) where
  pub whole-short : left file at < record_header → whole file at little ≡ false
  unfolding whole
  whole-short h = rw (lt-ltb (left file at) record_header h) refl

  pub whole_long : record_header ≤ left file at → whole file at little ≡ leb (kept file at little) (left file at - record_header)
  unfolding whole
  whole_long h = rw (le-ltb (left file at) record_header h) refl

  -- a whole record has room for its header, and lies in the file
  whole-header : whole file at little ≡ true → record_header ≤ left file at
  unfolding whole
  whole-header h =
      let short = ltb (left file at) record_header in
      let fits = leb (kept file at little) (left file at - record_header) in
      ltb-false (left file at) record_header (not-true short (and_left (not short) fits h))

  whole-fits : whole file at little ≡ true → kept file at little ≤ left file at - record_header
  unfolding whole
  whole-fits h =
      let short = ltb (left file at) record_header in
      let fits = leb (kept file at little) (left file at - record_header) in
      leb-true (kept file at little) (left file at - record_header) (and_right (not short) fits h)

  pub whole-inside : whole file at little ≡ true → at + record_header + kept file at little ≤ length file
  whole-inside h = omega (arith, whole-header h, whole-fits h)

  pub start-whole : whole file at little ≡ true → start file at little ≡ at + record_header
  unfolding start
  start-whole h = cond-true _ _ _ h

  pub start_none : whole file at little ≡ false → start file at little ≡ length file
  unfolding start
  start_none h = cond-false _ _ _ h

  pub size-whole : whole file at little ≡ true → size file at little ≡ kept file at little
  unfolding size
  size-whole h = cond-true _ _ _ h

  pub size_none : whole file at little ≡ false → size file at little ≡ 0
  unfolding size
  size_none h = cond-false _ _ _ h

  pub after-whole : whole file at little ≡ true → after file at little ≡ at + record_header + kept file at little
  unfolding after
  after-whole h = cond-true _ _ _ h

  pub after_none : whole file at little ≡ false → after file at little ≡ at
  unfolding after
  after_none h = cond-false _ _ _ h

  -- what is handed out lies in the file, a whole record or not, and has the length that is said
  bytes_inside_by : (w : Bool) → whole file at little ≡ w → start file at little + size file at little ≤ length file
  bytes_inside_by true h = omega (arith, whole-inside h, start-whole h, size-whole h)
  bytes_inside_by false h = omega (arith, start_none h, size_none h)

  pub bytes_inside : start file at little + size file at little ≤ length file
  bytes_inside = bytes_inside_by (whole file at little) refl

  pub length_bytes : length (bytes_at file at little) ≡ size file at little
  unfolding bytes_at
  length_bytes = length_part file (start file at little) (size file at little) bytes_inside

  -- .. and is what stands there
  pub bytes_from : {begin long : ℕ} → begin ≡ start file at little → long ≡ size file at little →
      part file begin long ≡ bytes_at file at little
  unfolding bytes_at
  bytes_from b l = (λ i. part file (b i) (l i))
