-- What the reader finds from a frame's start on (`found`): its steps, one for each outcome of its tests; which bytes spoil it; and what it
-- takes bytes apart into where it does find something, `Apart`.
use Prim.Native.Nat.{ℕ, zero, suc, ◌≤◌, ◌<◌}
use mathlib.Core.Path.{◌≡◌, refl, sym, ap, ◌∙◌}
use mathlib.Core.Bool.{Bool, true, false, ◌&&◌}
use mathlib.Core.Logic.{◌⊎◌, inl, inr, ⊎_elim}
use mathlib.Core.List.{List, [], ◌∷◌, ◌++◌, append_assoc, append-nil}
use native.Mathlib.Omega.{arith}
use lib.Dec.{leb}
use lib.ListN.{length, replicate, length-append}
use borrow.Author.Tests.{le-leb, lt-leb, leb-true, leb-false}
use Rattle.refusal.proofs.Laws.{and_left, and_right}
use Rattle.octets.specs.Bytes.{byte_at, AllBytes}
use Rattle.octets.specs.Each.{Each}
use Rattle.octets.specs.Stretch.{part, rest, joined}
use Rattle.octets.specs.Tests.{none}
use Rattle.octets.proofs.Counts.{true-or-false}
use Rattle.octets.proofs.Elements.{each_zip}
use Rattle.octets.proofs.Stretches.{length_rest, part-append, part-and-rest, joined-none, joined-cons}
use Rattle.octets.proofs.Bytes.{bytes_front, bytes_back, bytes-joined}
use Rattle.octets.proofs.Tests.{none-empty}
use Rattle.flow.specs.Flow.{longest}
use Rattle.ts.specs.Packet.{fill_byte, all_fill}
use Rattle.ts.proofs.Filling.{all_fill_lem}
use Rattle.mpeg.specs.Frame.{said_length, good, may_begin, Good}
use Rattle.mpeg.specs.Read.{Found, found, with_frame}
use Rattle.mpeg.proofs.Frames.{GoodFrame, said-part, first_part, may_begin-none}
use Rattle.mpeg.proofs.Frames.{not-good_filled, not-good_over, not-begin_filled, not-begin_long}

abbrev pub found_well : List (List ℕ) → List ℕ → Found
found_well whole front = record { well = true; whole = whole; open_end = front }

-- The steps.
found_last : (bytes : List ℕ) → found zero bytes ≡ record { well = none bytes; whole = []; open_end = [] }
unfolding found
found_last bytes = refl

pub found_filled : (n : ℕ) (b : List ℕ) → all_fill b ≡ true → found (suc n) b ≡ found_well [] []
unfolding found
found_filled n b e = rw e refl

pub found-frame : (n : ℕ) (b : List ℕ) → all_fill b ≡ false → said_length b ≤ length b →
    found (suc n) b ≡ with_frame (part b 0 (said_length b)) (found n (rest b (said_length b)))
unfolding found
found-frame n b e h = rw (e, le-leb _ _ h) refl

pub found_open : (n : ℕ) (b : List ℕ) → all_fill b ≡ false → length b < said_length b →
    found (suc n) b ≡ record { well = may_begin b; whole = []; open_end = b }
unfolding found
found_open n b e h = rw (e, lt-leb _ _ h) refl

-- the outcomes of the tests, for whatever is shown of each
module _ {A : Type 0} (b : List ℕ) (filled : all_fill b ≡ true → A) (frame : all_fill b ≡ false → said_length b ≤ length b → A)
    (begun : all_fill b ≡ false → length b < said_length b → A) where
  by_tests : A
  by_tests =
      ⊎_elim filled
      (λ (e : all_fill b ≡ false).
      ⊎_elim (λ (t : leb (said_length b) (length b) ≡ true). frame e (leb-true _ _ t))
      (λ (t : leb (said_length b) (length b) ≡ false). begun e (leb-false _ _ t))
      (true-or-false (leb (said_length b) (length b))))
      (true-or-false (all_fill b))

pub found_none : (n : ℕ) → found n [] ≡ found_well [] []
unfolding none all_fill
found_none zero = found_last []
found_none (suc n) = found_filled n [] refl

-- more steps than there are bytes change nothing: each frame has at least one
pub more_steps : (n : ℕ) (b : List ℕ) → length b ≤ n → found n b ≡ found (suc n) b
more_steps zero [] h = found_none zero ∙ sym (found_none (suc zero))
more_steps zero (x ∷ b) h = absurd (let z : ⊥ = omega (arith, h) in z)
more_steps (suc n) b h =
    by_tests b
    (λ e. found_filled n b e ∙ sym (found_filled (suc n) b e))
    (λ e k.
    let behind : length (rest b (said_length b)) ≤ n = omega (arith, length_rest b (said_length b)) in
    found-frame n b e k ∙ ap (with_frame (part b 0 (said_length b))) (more_steps n (rest b (said_length b)) behind)
    ∙ sym (found-frame (suc n) b e k))
    (λ e k. found_open n b e k ∙ sym (found_open (suc n) b e k))

-- Bytes that do not begin as a frame: the first is 0xFF and not all are; or it says more than the longest.
module _ (n : ℕ) (b : List ℕ) (some : all_fill b ≡ false) where
  spoils : good (part b 0 (said_length b)) ≡ false → may_begin b ≡ false → (found (suc n) b).well ≡ false
  spoils whole begun =
      ⊎_elim
      (λ (t : leb (said_length b) (length b) ≡ true).
      ap (λ (f : Found). f.well) (found-frame n b some (leb-true _ _ t))
      ∙ ap (λ (g : Bool). g && (found n (rest b (said_length b))).well) whole)
      (λ (t : leb (said_length b) (length b) ≡ false). ap (λ (f : Found). f.well) (found_open n b some (leb-false _ _ t)) ∙ begun)
      (true-or-false (leb (said_length b) (length b)))

  pub spoils_filled : byte_at b 0 ≡ fill_byte → (found (suc n) b).well ≡ false
  spoils_filled e = spoils (not-good_filled (part b 0 (said_length b)) (first_part b ∙ e)) (not-begin_filled b e)

  pub spoils_long : longest < said_length b → (found (suc n) b).well ≡ false
  spoils_long h =
      spoils (not-good_over (part b 0 (said_length b))
      (let q : longest < said_length (part b 0 (said_length b)) = omega (arith, said-part b) in q))
      (not-begin_long b h)

-- What it takes bytes apart into: good frames, then the front of one, or 0xFF to the end.
pub record Apart (bytes : List ℕ) (f : Found) : Type 0 where
  pub fill : ℕ
  pub all : joined f.whole ++ f.open_end ++ replicate fill fill_byte ≡ bytes
  pub good-frames : Each GoodFrame f.whole
  pub may_begin_lem : may_begin f.open_end ≡ true
  pub one_of_them : (f.open_end ≡ []) ⊎ (fill ≡ 0)

apart_none : (well : Bool) (n : ℕ) (bytes : List ℕ) → bytes ≡ replicate n fill_byte →
    Apart bytes (record { well = well; whole = []; open_end = [] })
apart_none well n bytes e =
    record { fill = n; all = rw joined-none (sym e); good-frames = tt; may_begin_lem = may_begin-none; one_of_them = inl refl }

apart_end : (bytes : List ℕ) (well : Bool) → may_begin bytes ≡ true → Apart bytes (record { well = well; whole = []; open_end = bytes })
apart_end bytes well h =
    record { fill = 0; all = rw joined-none (append-nil bytes); good-frames = tt; may_begin_lem = h; one_of_them = inr refl }

apart_frame : (bytes : List ℕ) (n : ℕ) (f : Found) → (f.well ≡ true → Apart (rest bytes n) f) →
    (good (part bytes 0 n) && f.well) ≡ true → Apart bytes (with_frame (part bytes 0 n) f)
apart_frame bytes n f behind h =
    let frame = part bytes 0 n in
    let a : Apart (rest bytes n) f = behind (and_right (good frame) f.well h) in
    let fills = replicate a.fill fill_byte in
    let in_order : frame ++ joined f.whole ++ f.open_end ++ fills ≡ frame ++ (joined f.whole ++ f.open_end ++ fills) =
    simp append_assoc in
    record {
      fill = a.fill;
      all =
          ap (λ (l : List ℕ). l ++ f.open_end ++ fills) (joined-cons frame f.whole) ∙ in_order
          ∙ ap (λ (l : List ℕ). frame ++ l) a.all ∙ part-and-rest bytes n;
      good-frames = (and_left (good frame) f.well h, a.good-frames);
      may_begin_lem = a.may_begin_lem;
      one_of_them = a.one_of_them;
    }

pub found_apart : (n : ℕ) (bytes : List ℕ) → (found n bytes).well ≡ true → Apart bytes (found n bytes)
found_apart zero bytes h =
    let e = found_last bytes in
    rw e (apart_none (none bytes) 0 bytes (none-empty bytes (sym (ap (λ (f : Found). f.well) e) ∙ h)))
found_apart (suc n) bytes h =
    by_tests bytes
    (λ e. rw (found_filled n bytes e) (apart_none true (length bytes) bytes (all_fill_lem bytes e)))
    (λ e k.
    let said = said_length bytes in
    let step = found-frame n bytes e k in
    rw step (apart_frame bytes said (found n (rest bytes said)) (found_apart n (rest bytes said))
    (sym (ap (λ (f : Found). f.well) step) ∙ h)))
    (λ e k.
    let step = found_open n bytes e k in
    rw step (apart_end bytes (may_begin bytes) (sym (ap (λ (f : Found). f.well) step) ∙ h)))

-- The frames' bytes stand at the front, and are bytes where all are.
module _ {bytes : List ℕ} {f : Found} (a : Apart bytes f) where
  abbrev pub pieces : List ℕ
  pieces = joined f.whole ++ f.open_end

  pub pieces-inside : length pieces ≤ length bytes
  pieces-inside = omega (arith, length-append pieces (replicate a.fill fill_byte), ap length a.all)

  pub pieces-part : pieces ≡ part bytes 0 (length pieces)
  pieces-part = sym (ap (λ (l : List ℕ). part l 0 (length pieces)) (sym a.all) ∙ part-append pieces (replicate a.fill fill_byte))

  module _ (all_bytes : AllBytes bytes) where
    pieces-bytes : AllBytes pieces
    pieces-bytes = bytes_front pieces (replicate a.fill fill_byte) (rw a.all all_bytes)

    pub end_bytes : AllBytes f.open_end
    end_bytes = bytes_back (joined f.whole) f.open_end pieces-bytes

    pub frames-good : Each Good f.whole
    frames-good =
        each_zip GoodFrame AllBytes f.whole a.good-frames
        (bytes-joined f.whole (bytes_front (joined f.whole) f.open_end pieces-bytes))
