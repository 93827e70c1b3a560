-- How a frames file is taken apart: after each turn the frames so far stand at the front of the slices, and the rest of the file is still
-- to be read (`Unpacking`, the loop's invariant).
use Prim.Native.Nat.{ℕ, zero, suc, ◌+◌, ◌-◌, ◌<◌, ◌≤◌}
use mathlib.Core.Path.{◌≡◌, refl, sym, ap, ◌∙◌}
use mathlib.Core.Bool.{true, false}
use mathlib.Core.List.{List, [], ◌∷◌, ◌++◌, append-nil, append_assoc}
use native.Mathlib.Omega.{arith}
use lib.Dec.{leb}
use lib.ListN.{length, set, length-append}
use borrow.Author.Tests.{lt-leb, le-leb}
use Rattle.octets.specs.Bytes.{be16_at}
use Rattle.octets.specs.Stretch.{part, rest, put, joined, lengths_of}
use Rattle.octets.proofs.Stretches.{length_part, length_rest, part-rest, length-put, put-nil, put-put_front, set-put}
use Rattle.octets.proofs.Stretches.{rest-none, rest-rest, joined-none, joined-one_more, lengths_of-none, lengths_of-cons}
use Rattle.octets.proofs.Stretches.{lengths_of-append, length-joined-none, length-lengths_of}
use Rattle.octets.proofs.Numbers.{be16_rest}
use Rattle.frames.specs.Frames.{length_bytes, stands_whole, front_frame, behind_front, whole_frames, left_behind, PermitsUnpack}
use Rattle.frames.proofs.Laws.{stands_long}

-- at a place of the file
module _ (file : List ℕ) (at : ℕ) (inside : at ≤ length file) where
  left_is : length (rest file at) ≡ length file - at
  left_is = length_rest file at

  pub stands-not : length file - at < length_bytes → stands_whole (rest file at) ≡ false
  stands-not h = rw (lt-leb length_bytes (length (rest file at)) (omega (arith, left_is))) refl

  module _ (h : length_bytes ≤ length file - at) (size : ℕ) (e : size ≡ be16_at file at) where
    by_size : stands_whole (rest file at) ≡ leb (length_bytes + size) (length file - at)
    by_size = rw (le-leb length_bytes (length (rest file at)) (omega (arith, left_is)), be16_rest file at, ← e, left_is) refl

    pub stands_cut : length file - at - length_bytes < size → stands_whole (rest file at) ≡ false
    stands_cut l = by_size ∙ lt-leb (length_bytes + size) (length file - at) (omega (arith, l))

    pub stands_all : size ≤ length file - at - length_bytes → stands_whole (rest file at) ≡ true
    stands_all l = by_size ∙ le-leb (length_bytes + size) (length file - at) (omega (arith, h, l))

  module _ (stands : stands_whole (rest file at) ≡ true) where
    pub frame-there : at + length_bytes + be16_at file at ≤ length file
    frame-there = omega (arith, left_is, be16_rest file at, (stands_long (rest file at) stands).1)

    front_is : front_frame (rest file at) ≡ part file (at + length_bytes) (be16_at file at)
    front_is = ap (part (rest file at) length_bytes) (be16_rest file at) ∙ part-rest file at length_bytes (be16_at file at)

    behind_is : behind_front (rest file at) ≡ rest file (at + length_bytes + be16_at file at)
    behind_is =
        let place : at + (length_bytes + be16_at (rest file at) 0) ≡ at + length_bytes + be16_at file at =
        omega (arith, be16_rest file at) in
        rest-rest file at (length_bytes + be16_at (rest file at) 0) ∙ ap (rest file) place

-- as many frames are asked for as there are lengths
pub record Unpacking (file bytes₀ lengths₀ bytes lengths : List ℕ) (count total at : ℕ) : Type 0 where
  pub taken : List (List ℕ)
  pub frames_are : whole_frames (length lengths₀) file ≡ taken ++ whole_frames (length lengths₀ - count) (rest file at)
  pub left_are : left_behind (length lengths₀) file ≡ left_behind (length lengths₀ - count) (rest file at)
  pub counted : count ≡ length taken
  pub few : count ≤ length lengths₀
  pub total_is : total ≡ length (joined taken)
  pub bytes_now : bytes ≡ put bytes₀ 0 (joined taken)
  pub lengths_now : lengths ≡ put lengths₀ 0 (lengths_of taken)
  pub inside : at ≤ length file
  pub short : total ≤ at

pub unpack_begin : (file bytes lengths : List ℕ) → Unpacking file bytes lengths bytes lengths 0 0 0
unpack_begin file bytes lengths =
    let all : length lengths ≡ length lengths - 0 = omega arith in
    let whole : file ≡ rest file 0 = sym (rest-none file) in
    record {
      taken = [];
      frames_are = ap (λ (n : ℕ). whole_frames n file) all ∙ ap (whole_frames (length lengths - 0)) whole;
      left_are = ap (λ (n : ℕ). left_behind n file) all ∙ ap (left_behind (length lengths - 0)) whole;
      counted = refl;
      few = omega arith;
      total_is = sym length-joined-none;
      bytes_now = sym (ap (put bytes 0) joined-none ∙ put-nil bytes 0);
      lengths_now = sym (ap (put lengths 0) lengths_of-none ∙ put-nil lengths 0);
      inside = omega arith;
      short = omega arith;
    }

module _ {file bytes₀ lengths₀ bytes lengths : List ℕ} {count total at : ℕ}
    (u : Unpacking file bytes₀ lengths₀ bytes lengths count total at) (bytes-long : length file ≤ length bytes₀) where
  abbrev most : ℕ
  most = length lengths₀

  pub bytes_same : length bytes ≡ length bytes₀
  bytes_same = ap length u.bytes_now ∙ length-put bytes₀ 0 (joined u.taken) (omega (arith, u.total_is, u.short, u.inside))

  pub lengths-same : length lengths ≡ length lengths₀
  lengths-same =
      ap length u.lengths_now
      ∙ length-put lengths₀ 0 (lengths_of u.taken) (omega (arith, length-lengths_of u.taken, u.counted, u.few))

  -- one frame more
  module _ (room : count < length lengths) (stands : stands_whole (rest file at) ≡ true) where
    pub unpack_turn : (size : ℕ) (bytes' lengths' : List ℕ) → size ≡ be16_at file at →
        bytes' ≡ put bytes total (part file (at + length_bytes) size) → lengths' ≡ set lengths count size →
        Unpacking file bytes₀ lengths₀ bytes' lengths' (count + 1) (total + size) (at + length_bytes + size)
    unfolding whole_frames left_behind
    unpack_turn size bytes' lengths' e b l =
        let f = part file (at + length_bytes) size in
        let there = frame-there file at u.inside stands in
        let long : length f ≡ size = length_part file (at + length_bytes) size (omega (arith, there)) in
        let J = joined u.taken in
        let L = lengths_of u.taken in
        let behind = rest file (at + length_bytes + size) in
        let more : most - count ≡ suc (most - (count + 1)) = omega (arith, lengths-same) in
        let front-next : front_frame (rest file at) ≡ f = front_is file at u.inside stands ∙ ap (part file (at + length_bytes)) (sym e) in
        let behind-next : behind_front (rest file at) ≡ behind =
        behind_is file at u.inside stands ∙ ap (λ (n : ℕ). rest file (at + length_bytes + n)) (sym e) in
        let next-frames : whole_frames (most - count) (rest file at) ≡ f ∷ whole_frames (most - (count + 1)) behind =
        ap (λ (n : ℕ). whole_frames n (rest file at)) more ∙ rw (stands, front-next, behind-next) refl in
        let next-left : left_behind (most - count) (rest file at) ≡ left_behind (most - (count + 1)) behind =
        ap (λ (n : ℕ). left_behind n (rest file at)) more ∙ rw (stands, behind-next) refl in
        let joined-more : joined (u.taken ++ (f ∷ [])) ≡ J ++ f = joined-one_more u.taken f in
        let lengths-more : lengths_of (u.taken ++ (f ∷ [])) ≡ L ++ (size ∷ []) =
        lengths_of-append u.taken (f ∷ [])
        ∙ ap (λ (l : List ℕ). L ++ l) (lengths_of-cons f [] ∙ ap (λ (l : List ℕ). length f ∷ l) lengths_of-none)
        ∙ ap (λ (n : ℕ). L ++ (n ∷ [])) long in
        record {
          taken = u.taken ++ (f ∷ []);
          frames_are = u.frames_are ∙ ap (λ (x : List (List ℕ)). u.taken ++ x) next-frames ∙ sym (append_assoc u.taken (f ∷ []) _);
          left_are = u.left_are ∙ next-left;
          counted = omega (arith, u.counted, length-append u.taken (f ∷ []));
          few = omega (arith, lengths-same);
          total_is = omega (arith, u.total_is, ap length joined-more, length-append J f, long);
          bytes_now =
              b ∙ ap (λ (x : List ℕ). put x total f) u.bytes_now ∙ ap (λ (n : ℕ). put (put bytes₀ 0 J) n f) u.total_is
              ∙ put-put_front bytes₀ J f (omega (arith, u.total_is, u.short, u.inside)) ∙ ap (put bytes₀ 0) (sym joined-more);
          lengths_now =
              l ∙ set-put lengths count size room ∙ ap (λ (x : List ℕ). put x count (size ∷ [])) u.lengths_now
              ∙ ap (λ (n : ℕ). put (put lengths₀ 0 L) n (size ∷ [])) (u.counted ∙ sym (length-lengths_of u.taken))
              ∙ put-put_front lengths₀ L (size ∷ []) (omega (arith, length-lengths_of u.taken, u.counted, u.few))
              ∙ ap (put lengths₀ 0) (sym lengths-more);
          inside = omega (arith, there);
          short = omega (arith, u.short);
        }

  -- no frame more
  module _ (stops : count < length lengths → stands_whole (rest file at) ≡ false) where
    frames_all : whole_frames most file ≡ u.taken
    unfolding whole_frames
    frames_all = u.frames_are ∙ ap (λ (x : List (List ℕ)). u.taken ++ x) (by (most - count) refl) ∙ append-nil u.taken
      where
        by : (n : ℕ) → most - count ≡ n → whole_frames n (rest file at) ≡ []
        by zero e = refl
        by (suc n) e = rw (stops (omega (arith, e, lengths-same))) refl

    left_all : left_behind most file ≡ rest file at
    unfolding left_behind
    left_all = u.left_are ∙ by (most - count) refl
      where
        by : (n : ℕ) → most - count ≡ n → left_behind n (rest file at) ≡ rest file at
        by zero e = refl
        by (suc n) e = rw (stops (omega (arith, e, lengths-same))) refl

    pub unpack_end : PermitsUnpack file bytes₀ lengths₀ (record { count = count; bytes = total; left = length file - at }) bytes lengths
    unpack_end =
        record {
          its_count = u.counted ∙ ap length (sym frames_all);
          its_size = u.total_is ∙ ap (λ (x : List (List ℕ)). length (joined x)) (sym frames_all);
          its_left = sym (length_rest file at) ∙ ap length (sym left_all);
          its_bytes = u.bytes_now ∙ ap (λ (x : List (List ℕ)). put bytes₀ 0 (joined x)) (sym frames_all);
          its_lengths = u.lengths_now ∙ ap (λ (x : List (List ℕ)). put lengths₀ 0 (lengths_of x)) (sym frames_all);
        }
