-- What a judgement says: what is expected after accepting, how large a gap can be, that a late number changes nothing, and that
-- within document 01's bound a judgement on numbers is one on places along the sender's packets.
use Prim.Native.Nat.{ℕ, ◌+◌, ◌-◌, ◌<◌, ◌≤◌}
use mathlib.Core.Path.{◌≡◌, refl, sym, ap}
use mathlib.Core.Bool.{Bool, true, false, cond, true≢false}
use native.Mathlib.Omega.{arith}
use lib.Dec.{ltb}
use borrow.Author.Tests.{ltb-true, lt-ltb, le-ltb}
use Rattle.flow.specs.declared.Flow.{Flow}
use Rattle.flow.specs.Flow.{Judged}
use Rattle.flow.specs.Numbers.{ahead, number_at}
use Rattle.flow.specs.Flow.{half, heard_mark, is_fresh, accepted, too_late, judge}
use Rattle.flow.proofs.Numbers.{ahead_forward, ahead_behind}

-- either accepted, with a gap below 32,768, or late and as it was
pub record Sound (f : Flow) (n : ℕ) (j : Judged) : Type 0 where
  pub gap-small : j.gap < half
  pub accepts : j.late ≡ false → j ≡ accepted f n j.gap
  pub kept : j.late ≡ true → j ≡ too_late f

sound-accepted : (f : Flow) (n d : ℕ) → d < half → Sound f n (accepted f n d)
sound-accepted f n d h = record { gap-small = h; accepts = λ _. refl; kept = λ e. absurd (true≢false (sym e)) }

sound_late : (f : Flow) (n : ℕ) → Sound f n (too_late f)
sound_late f n = record { gap-small = omega arith; accepts = λ e. absurd (true≢false e); kept = λ _. refl }

sound_by : (fresh near : Bool) (f : Flow) (n d : ℕ) → (near ≡ true → d < half) →
    Sound f n (cond fresh (accepted f n 0) (cond near (accepted f n d) (too_late f)))
sound_by true near f n d h = sound-accepted f n 0 (omega arith)
sound_by false true f n d h = sound-accepted f n d (h refl)
sound_by false false f n d h = sound_late f n

pub judge-sound : (f : Flow) (n : ℕ) → Sound f n (judge f n)
judge-sound f n = sound_by (is_fresh f) (ltb (ahead n f.expected) half) f n (ahead n f.expected) (λ e. ltb-true _ _ e)

-- The flow of a sender that began at `start`, once the packet before place m was the last to be accepted.
module _ (f : Flow) (start m : ℕ) (listening : f.heard ≡ heard_mark) (waits : f.expected ≡ number_at start m) where
  -- a packet at the expected place, or at most 32,767 places further on, is accepted, and the gap is the places passed over
  pub judge_forward : (i : ℕ) → m ≤ i → i < m + half → judge f (number_at start i) ≡ accepted f (number_at start i) (i - m)
  judge_forward i from to =
      let d : ahead (number_at start i) (number_at start m) ≡ i - m = ahead_forward start m i from to in
      simp (listening, waits, d, lt-ltb (i - m) half (omega arith))

  -- a packet from 1 to 32,768 places back is late
  pub judge_behind : (i : ℕ) → i < m → m ≤ i + half → judge f (number_at start i) ≡ too_late f
  judge_behind i from to =
      simp (listening, waits, le-ltb (ahead (number_at start i) (number_at start m)) half (ahead_behind start m i from to))

-- A late number changes nothing of the record, and its gap is 0.
pub late_keeps : (f : Flow) (n : ℕ) → (judge f n).late ≡ true → ((judge f n).flow ≡ f) × ((judge f n).gap ≡ 0)
late_keeps f n e =
    let k = (judge-sound f n).kept e in
    (ap (λ (j : Judged). j.flow) k, ap (λ (j : Judged). j.gap) k)
