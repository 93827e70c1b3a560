-- The laws of the frames file: reading undoes writing, writing undoes reading, and how long each is.
use Prim.Native.Nat.{ℕ, zero, suc, ◌+◌, ◌*◌, ◌<◌, ◌≤◌}
use mathlib.Core.Path.{◌≡◌, refl, sym, ap, ◌∙◌}
use mathlib.Core.Bool.{Bool, true, false, ◌&&◌, true≢false}
use mathlib.Core.List.{List, [], ◌∷◌, ◌++◌, map, append-nil, append_assoc}
use native.Mathlib.Omega.{arith}
use native.Mathlib.Nat.{not-suc-le-zero, le_of_suc-le-suc}
use lib.Dec.{leb}
use lib.ListN.{length, length-append}
use borrow.Author.Tests.{leb-true, le-leb}
use Rattle.octets.specs.Bytes.{be16_at, two, AllBytes}
use Rattle.octets.specs.Each.{Each}
use Rattle.octets.specs.Stretch.{part, rest, joined}
use Rattle.octets.proofs.Bytes.{bytes_rest}
use Rattle.octets.proofs.Numbers.{two_reads_back, two-read}
use Rattle.octets.proofs.Stretches.{length_part, part-between, part-part_front, part-and-rest, length_rest, rest-append}
use Rattle.octets.proofs.Stretches.{joined-none, joined-cons, length-joined-none, length-joined}
use Rattle.frames.specs.Frames.{length_bytes, packed, frames_file, stands_whole, front_frame, behind_front, whole_frames, left_behind}

-- the file of no frames, and of one before others
pub pack_none : frames_file [] ≡ []
unfolding frames_file
pack_none = joined-none

pub pack_cons : (f : List ℕ) (fs : List (List ℕ)) → frames_file (f ∷ fs) ≡ packed f ++ frames_file fs
unfolding frames_file
pack_cons f fs = joined-cons (packed f) (map packed fs)

-- what a whole frame at the front says of lengths
pub stands_long : (file : List ℕ) → stands_whole file ≡ true → (length_bytes ≤ length file) × (length_bytes + be16_at file 0 ≤ length file)
stands_long file stands = by (leb length_bytes (length file)) refl
  where
    all : Bool
    all = leb (length_bytes + be16_at file 0) (length file)

    by : (t : Bool) → leb length_bytes (length file) ≡ t → (length_bytes ≤ length file) × (length_bytes + be16_at file 0 ≤ length file)
    by true e =
        let all_there : all ≡ true = sym (ap (λ (t : Bool). t && all) e) ∙ stands in
        (leb-true length_bytes (length file) e, leb-true (length_bytes + be16_at file 0) (length file) all_there)
    by false e = absurd (true≢false (sym stands ∙ ap (λ (t : Bool). t && all) e))

-- A frame that was written stands whole at the front, and behind it what was written behind it.
abbrev pub Sayable : List ℕ → Type 0
Sayable f = length f < 65536

module _ (f behind : List ℕ) (short : Sayable f) where
  abbrev file : List ℕ
  file = packed f ++ behind

  says : be16_at file 0 ≡ length f
  says = two_reads_back (length f) short

  long : length file ≡ length_bytes + length f + length behind
  long = let a = length-append f behind in omega arith

  whole-there : stands_whole file ≡ true
  whole-there =
      rw (le-leb length_bytes (length file) (omega (arith, long)), says)
      (le-leb (length_bytes + length f) (length file) (omega (arith, long)))

  front_there : front_frame file ≡ f
  front_there = ap (part file length_bytes) says ∙ part-between (two (length f)) f behind

  behind_there : behind_front file ≡ behind
  behind_there =
      let place : length_bytes + length f ≡ length (packed f) = omega arith in
      ap (λ (n : ℕ). rest file (length_bytes + n)) says ∙ ap (rest file) place ∙ rest-append (packed f) behind

-- Reading back what was written gives the frames, and leaves nothing.
pub unpack_pack : (n : ℕ) (fs : List (List ℕ)) → Each Sayable fs → length fs ≤ n →
    (whole_frames n (frames_file fs) ≡ fs) × (left_behind n (frames_file fs) ≡ [])
unfolding whole_frames left_behind
unpack_pack zero [] s l = (refl, pack_none)
unpack_pack zero (f ∷ fs) s l = absurd (not-suc-le-zero l)
unpack_pack (suc n) [] s l = (ap (whole_frames (suc n)) pack_none, ap (left_behind (suc n)) pack_none)
unpack_pack (suc n) (f ∷ fs) s l =
    let r = unpack_pack n fs s.1 (le_of_suc-le-suc l) in
    let behind = frames_file fs in
    let front = front_there f behind s.0 in
    let next = behind_there f behind s.0 in (
      ap (whole_frames (suc n)) (pack_cons f fs)
          ∙ rw (whole-there f behind s.0, front, next) (ap (λ (x : List (List ℕ)). f ∷ x) r.0),
      ap (left_behind (suc n)) (pack_cons f fs) ∙ rw (whole-there f behind s.0, next) r.1,
    )

-- A whole frame at the front, written again, and what stands behind it are the file.
packed_front : (file : List ℕ) → AllBytes file → stands_whole file ≡ true → packed (front_frame file) ++ behind_front file ≡ file
packed_front file bytes stands =
    let size = be16_at file 0 in
    let there = stands_long file stands in
    let long : length (front_frame file) ≡ size = length_part file length_bytes size there.1 in
    let said : two (length (front_frame file)) ≡ part file 0 length_bytes = ap two long ∙ two-read file 0 bytes there.0 in
    ap (λ (head : List ℕ). head ++ front_frame file ++ behind_front file) said
    ∙ ap (λ (front : List ℕ). front ++ behind_front file) (part-part_front file length_bytes size)
    ∙ part-and-rest file (length_bytes + size)

-- Writing what was read, with what is left behind it, gives the file.
pub pack_unpack_left : (n : ℕ) (file : List ℕ) → AllBytes file → frames_file (whole_frames n file) ++ left_behind n file ≡ file
unfolding whole_frames left_behind
pack_unpack_left zero file bytes = ap (λ (x : List ℕ). x ++ file) pack_none
pack_unpack_left (suc n) file bytes =
    by (stands_whole file) refl (pack_unpack_left n (behind_front file) (bytes_rest file (length_bytes + be16_at file 0) bytes))
  where
    next : List ℕ
    next = behind_front file

    by : (t : Bool) → stands_whole file ≡ t → frames_file (whole_frames n next) ++ left_behind n next ≡ next →
        frames_file (whole_frames (suc n) file) ++ left_behind (suc n) file ≡ file
    by true e more =
        rw e
        (ap (λ (x : List ℕ). x ++ left_behind n next) (pack_cons (front_frame file) (whole_frames n next))
        ∙ append_assoc (packed (front_frame file)) (frames_file (whole_frames n next)) (left_behind n next)
        ∙ ap (λ (x : List ℕ). packed (front_frame file) ++ x) more
        ∙ packed_front file bytes e)
    by false e more = rw e (ap (λ (x : List ℕ). x ++ file) pack_none)

-- So a file of bytes that leaves nothing behind is what writing its frames gives.
pub pack_unpack : (n : ℕ) (file : List ℕ) → AllBytes file → left_behind n file ≡ [] → frames_file (whole_frames n file) ≡ file
pack_unpack n file bytes none =
    sym (append-nil (frames_file (whole_frames n file)))
    ∙ ap (λ (behind : List ℕ). frames_file (whole_frames n file) ++ behind) (sym none)
    ∙ pack_unpack_left n file bytes

-- How long a file is, and how much is read from one.
pub length_pack : (fs : List (List ℕ)) → length (frames_file fs) ≡ length (joined fs) + length_bytes * length fs
length_pack [] = omega (arith, ap length pack_none, length-joined-none)
length_pack (f ∷ fs) =
    omega (arith, length_pack fs, ap length (pack_cons f fs), length-append (packed f) (frames_file fs), length-joined f fs)

abbrev all_read : ℕ → List ℕ → ℕ
all_read n file = length (joined (whole_frames n file)) + length_bytes * length (whole_frames n file) + length (left_behind n file)

pub length_unpack : (n : ℕ) (file : List ℕ) → all_read n file ≡ length file
unfolding whole_frames left_behind
length_unpack zero file = omega (arith, length-joined-none)
length_unpack (suc n) file = by (stands_whole file) refl (length_unpack n (behind_front file))
  where
    next : List ℕ
    next = behind_front file

    by : (t : Bool) → stands_whole file ≡ t → all_read n next ≡ length next → all_read (suc n) file ≡ length file
    by true e more =
        let size = be16_at file 0 in
        let there = stands_long file e in
        let long = length_part file length_bytes size there.1 in
        let left = length_rest file (length_bytes + size) in
        let all = length-joined (front_frame file) (whole_frames n next) in
        rw e (omega (arith, more, long, left, all, there.1))
    by false e more = rw e (omega (arith, length-joined-none))

pub unpack_few : (n : ℕ) (file : List ℕ) → length (whole_frames n file) ≤ n
unfolding whole_frames
unpack_few zero file = omega arith
unpack_few (suc n) file = by (stands_whole file) refl (unpack_few n (behind_front file))
  where
    by : (t : Bool) → stands_whole file ≡ t → length (whole_frames n (behind_front file)) ≤ n → length (whole_frames (suc n) file) ≤ suc n
    by true e more = rw e (omega (arith, more))
    by false e more = rw e (omega arith)
