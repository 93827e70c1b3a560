-- Frames that may be written, and fronts of them (W3): what `good` and `may_begin` say, what makes each true, and what makes each false.
use Prim.Native.Nat.{ℕ, ◌-◌, ◌≤◌, ◌<◌}
use mathlib.Core.Path.{◌≡◌, refl, sym, ap, ◌∙◌}
use mathlib.Core.Bool.{Bool, true, false, not, ◌&&◌, and-eq-true_iff, and-false}
use mathlib.Core.Logic.{⊎_elim}
use mathlib.Core.List.{List, [], ◌++◌}
use native.Mathlib.Omega.{arith}
use lib.Dec.{eqb, ltb, leb}
use lib.ListN.{length, replicate, length-append, length-replicate}
use borrow.Author.Tests.{eq-eqb, ne_eqb, eqb-true, eqb-false, lt-ltb, le-ltb, ltb-true, le-leb, lt-leb, leb-true, leb-false, not-true}
use Rattle.octets.specs.Bytes.{byte_at}
use Rattle.octets.specs.Stretch.{part}
use Rattle.octets.proofs.Counts.{true-or-false}
use Rattle.octets.proofs.Stretches.{byte_part}
use Rattle.octets.proofs.Bytes.{byte_append, byte_below_append, byte_append_zeros}
use Rattle.flow.specs.Flow.{longest}
use Rattle.ts.specs.Packet.{fill_byte, all_fill}
use Rattle.ts.proofs.Filling.{not_all_fill}
use Rattle.mpeg.specs.Frame.{said_length, starts_well, good, may_begin}

abbrev pub GoodFrame : List ℕ → Type 0
GoodFrame frame = good frame ≡ true

-- How bytes start: not with what a packet is filled up with.
pub starts_well_lem : (f : List ℕ) → (byte_at f 0 ≡ fill_byte → ⊥) → starts_well f ≡ true
starts_well_lem f h = ap not (ne_eqb _ _ h)

pub starts_append : (a b : List ℕ) → 0 < length a → starts_well (a ++ b) ≡ starts_well a
starts_append a b some = ap (λ (x : ℕ). not (eqb x fill_byte)) (byte_append a b 0 some)

pub starts_not_fill : (bytes : List ℕ) → 0 < length bytes → starts_well bytes ≡ true → all_fill bytes ≡ false
starts_not_fill bytes some h = not_all_fill bytes some (eqb-false _ _ (not-true _ h))

-- The length that bytes say: where more come behind them, where 0 do, and where only a frame of that length is looked at.
pub said-append : (a b : List ℕ) → 4 ≤ length a → said_length (a ++ b) ≡ said_length a
said-append a b h = omega (arith, byte_append a b 2 (omega arith), byte_append a b 3 (omega arith))

said_below : (a b : List ℕ) → said_length a ≤ said_length (a ++ b)
said_below a b = omega (arith, byte_below_append a b 2, byte_below_append a b 3)

said_zeros : (l : List ℕ) (n : ℕ) → said_length (l ++ replicate n 0) ≡ said_length l
said_zeros l n = omega (arith, byte_append_zeros l n 2, byte_append_zeros l n 3)

pub said-part : (b : List ℕ) → said_length (part b 0 (said_length b)) ≡ said_length b
said-part b =
    let n = said_length b in
    omega (arith, byte_part b 0 n 2 (omega arith), byte_part b 0 n 3 (omega arith))

pub first_part : (b : List ℕ) → byte_at (part b 0 (said_length b)) 0 ≡ byte_at b 0
first_part b = byte_part b 0 (said_length b) 0 (omega arith)

-- A frame that may be written: it is no longer than the longest, as long as it says, and starts well. So it has six bytes or more.
pub record Says (frame : List ℕ) : Type 0 where
  pub short : length frame ≤ longest
  pub its_length : said_length frame ≡ length frame
  pub starts : starts_well frame ≡ true

pub good_says : (frame : List ℕ) → good frame ≡ true → Says frame
unfolding good
good_says frame h =
    let a = (and-eq-true_iff (leb (length frame) longest) (eqb (said_length frame) (length frame) && starts_well frame)).0 h in
    let b = (and-eq-true_iff (eqb (said_length frame) (length frame)) (starts_well frame)).0 a.1 in
    record {
      short = leb-true (length frame) longest a.0;
      its_length = eqb-true (said_length frame) (length frame) b.0;
      starts = b.1;
    }

pub good_is : (f : List ℕ) → length f ≤ longest → said_length f ≡ length f → starts_well f ≡ true → good f ≡ true
unfolding good
good_is f short says starts = rw (le-leb _ _ short, eq-eqb _ _ says, starts) refl

pub good-some : (frame : List ℕ) → good frame ≡ true → 6 ≤ length frame
good-some frame g = omega (arith, (good_says frame g).its_length)

and_none : (a b : Bool) → (a && (b && false)) ≡ false
and_none a b = ap (λ (t : Bool). a && t) (and-false b) ∙ and-false a

pub not-good_filled : (f : List ℕ) → byte_at f 0 ≡ fill_byte → good f ≡ false
unfolding good
not-good_filled f e = rw (ap not (eq-eqb _ _ e)) (and_none (leb (length f) longest) (eqb (said_length f) (length f)))

not-good_long : (f : List ℕ) → longest < length f → good f ≡ false
unfolding good
not-good_long f h = rw (lt-leb _ _ h) refl

pub not-good_says : (f : List ℕ) → (said_length f ≡ length f → ⊥) → good f ≡ false
unfolding good
not-good_says f h = rw (ne_eqb _ _ h) (and-false (leb (length f) longest))

-- .. and none says more than the longest
pub not-good_over : (f : List ℕ) → longest < said_length f → good f ≡ false
not-good_over f h =
    ⊎_elim
    (λ (e : eqb (said_length f) (length f) ≡ true). let q : said_length f ≡ length f = eqb-true _ _ e in not-good_long f (omega arith))
    (λ (e : eqb (said_length f) (length f) ≡ false). not-good_says f (eqb-false _ _ e))
    (true-or-false (eqb (said_length f) (length f)))

-- Bytes that some frame begins with which has more: they are fewer than they say, they say no more than the longest, and start well.
pub record Begins (bytes : List ℕ) : Type 0 where
  pub unfinished : length bytes < said_length bytes
  pub short : said_length bytes ≤ longest
  pub starts : starts_well bytes ≡ true

pub begin_says : (bytes : List ℕ) → may_begin bytes ≡ true → Begins bytes
unfolding may_begin
begin_says bytes h =
    let a = (and-eq-true_iff (ltb (length bytes) (said_length bytes)) (leb (said_length bytes) longest && starts_well bytes)).0 h in
    let b = (and-eq-true_iff (leb (said_length bytes) longest) (starts_well bytes)).0 a.1 in
    record {
      unfinished = ltb-true (length bytes) (said_length bytes) a.0;
      short = leb-true (said_length bytes) longest b.0;
      starts = b.1;
    }

pub may_begin_is : (f : List ℕ) → length f < said_length f → said_length f ≤ longest → starts_well f ≡ true → may_begin f ≡ true
unfolding may_begin
may_begin_is f more short starts = rw (lt-ltb _ _ more, le-leb _ _ short, starts) refl

pub may_begin-none : may_begin [] ≡ true
unfolding may_begin
may_begin-none = refl

pub not-begin_filled : (f : List ℕ) → byte_at f 0 ≡ fill_byte → may_begin f ≡ false
unfolding may_begin
not-begin_filled f e = rw (ap not (eq-eqb _ _ e)) (and_none (ltb (length f) (said_length f)) (leb (said_length f) longest))

pub not-begin_long : (f : List ℕ) → longest < said_length f → may_begin f ≡ false
unfolding may_begin
not-begin_long f h = rw (lt-leb _ _ h) (and-false (ltb (length f) (said_length f)))

pub not-begin-whole : (f : List ℕ) → said_length f ≤ length f → may_begin f ≡ false
unfolding may_begin
not-begin-whole f h = rw (le-ltb _ _ h) refl

-- a front is no whole frame
pub good-not-begun : (l : List ℕ) → may_begin l ≡ true → good l ≡ true → ⊥
good-not-begun l h g = omega (arith, (begin_says l h).unfinished, (good_says l g).its_length)

-- It is completed by 0: what is missing reads as 0 already.
pub completed_good : (l : List ℕ) → may_begin l ≡ true → good (l ++ replicate (said_length l - length l) 0) ≡ true
completed_good l h =
    let b = begin_says l h in
    let m = said_length l - length l in
    let whole = l ++ replicate m 0 in
    let long : length whole ≡ said_length l = omega (arith, length-append l (replicate m 0), length-replicate {A = ℕ} m 0, b.unfinished) in
    let starts : starts_well whole ≡ true = ap (λ (x : ℕ). not (eqb x fill_byte)) (byte_append_zeros l m 0) ∙ b.starts in
    good_is whole (omega (arith, b.short)) (omega (arith, said_zeros l m)) starts

-- The front of a frame that may be written, which is not all of it.
module _ (front back : List ℕ) (some : 0 < length front) (more : 0 < length back) (says : Says (front ++ back)) where
  pub front_starts : starts_well front ≡ true
  front_starts = sym (starts_append front back some) ∙ says.starts

  pub front_open : length front < said_length front
  front_open =
      ⊎_elim
      (λ (h : leb 4 (length front) ≡ true).
      let k = said-append front back (leb-true 4 (length front) h) in
      let g : length front < said_length front = omega (arith, says.its_length, length-append front back) in g)
      (λ (h : leb 4 (length front) ≡ false).
      let k : length front < 4 = leb-false 4 (length front) h in
      let g : length front < said_length front = omega arith in g)
      (true-or-false (leb 4 (length front)))

  pub front_begins : may_begin front ≡ true
  front_begins = may_begin_is front front_open (omega (arith, said_below front back, says.its_length, says.short)) front_starts

  pub front_not-good : good front ≡ false
  front_not-good = not-good_says front (λ e. omega (arith, front_open))
