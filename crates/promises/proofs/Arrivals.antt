-- A flow that hears arrivals within the bound gives what a walk along the sender's packets gives, by the test of which arrived in time. A
-- packet that did not loses what is held: that gives the same as the gap before the next one that is accepted.
use Prim.Native.Nat.{ℕ, zero, suc, ◌+◌, ◌-◌, ◌≤◌, ◌<◌, max}
use mathlib.Core.Path.{◌≡◌, refl, sym, ap, ◌∙◌}
use mathlib.Core.Bool.{Bool, true, false}
use mathlib.Core.List.{List, [], ◌∷◌, ◌++◌, map}
use native.Mathlib.Omega.{arith}
use native.Mathlib.Numerals.{add-one}
use lib.ListN.{length, drop}
use lib.Dec.{leb}
use borrow.Author.Tests.{leb-true, leb-false}
use Rattle.octets.specs.Each.{Each}
use Rattle.octets.proofs.Elements.{length-drop, get_or-drop, drop-drop}
use Rattle.flow.specs.declared.Flow.{Flow}
use Rattle.flow.specs.Numbers.{next, number_at}
use Rattle.flow.specs.Flow.{fresh, judge, heard_mark}
use Rattle.flow.proofs.Numbers.{number_at-next}
use Rattle.flow.proofs.Judging.{judge_forward, judge_behind}
use Rattle.packet.specs.Header.{Packet, ip, sub}
use Rattle.packet.specs.Segments.{Segment, entry_width}
use Rattle.card.specs.Hear.{judged_of}
use Rattle.sender.specs.Rules.{segments_of, packet_at}
use Rattle.promises.specs.Arrivals.{WithinBound, Window, in_time}
use Rattle.promises.proofs.Readings.{frames_read}
use Rattle.promises.proofs.Alone.{psp_terms, read_alone, frames_alone}
use Rattle.promises.proofs.InTime.{in_time-after, in_time-before, in_time_at, in_time-none}
use Rattle.promises.proofs.FromTheFront.{given, left, behind, behind_nothing}
use Rattle.promises.proofs.Passed.{Counts}
use Rattle.promises.proofs.Hearing.{listening, alone_late, frames_heard}

-- a packet that came gives what its segments give; one that is missing gives nothing and leaves nothing held
abbrev pub gives : Bool → List ℕ → List Segment → List (List ℕ)
gives true held segs = given held segs
gives false held segs = []

abbrev pub leaves : Bool → List ℕ → List Segment → List ℕ
leaves true held segs = left held segs
leaves false held segs = []

-- along the packets, the first of which has place n
abbrev pub along : (ℕ → Bool) → ℕ → List ℕ → List Packet → List (List ℕ)
along came n held [] = []
along came n held (p ∷ ps) =
    gives (came n) held (segments_of entry_width p) ++ along came (suc n) (leaves (came n) held (segments_of entry_width p)) ps

-- tests that agree from place n on give the same
same_from : (a b : ℕ → Bool) (n : ℕ) (held : List ℕ) (ps : List Packet) → ((k : ℕ) → n ≤ k → a k ≡ b k) →
    along a n held ps ≡ along b n held ps
same_from a b n held [] agree = refl
same_from a b n held (p ∷ ps) agree =
    rw (agree n (omega arith))
    (ap (λ r. gives (b n) held (segments_of entry_width p) ++ r)
    (same_from a b (suc n) (leaves (b n) held (segments_of entry_width p)) ps (λ k l. agree k (omega arith))))

-- where none came, nothing is given
none_from : (a : ℕ → Bool) (n : ℕ) (held : List ℕ) (ps : List Packet) → ((k : ℕ) → a k ≡ false) → along a n held ps ≡ []
none_from a n held [] none = refl
none_from a n held (p ∷ ps) none = rw (none n) (none_from a (suc n) [] ps none)

-- the packets at the `gap` places from n on are missing, and that at the next place, x, came
passed_over : (a : ℕ → Bool) (gap n x : ℕ) (held : List ℕ) (ps : List Packet) → gap < length ps → x ≡ n + gap →
    ((k : ℕ) → k < x → a k ≡ false) → a x ≡ true →
    along a n held ps
    ≡ given (behind gap held) (segments_of entry_width (packet_at ps gap))
    ++ along a (suc x) (left (behind gap held) (segments_of entry_width (packet_at ps gap))) (drop (suc gap) ps)
passed_over a gap n x held [] there e missing came = absurd (omega arith)
passed_over a zero n x held (p ∷ ps) there e missing came =
    let e' : x ≡ n = omega arith in
    let y : a n ≡ true = rw e' at came in
    rw (e', y)
passed_over a (suc gap) n x held (p ∷ ps) there e missing came =
    rw (missing n (omega arith))
    (rw (behind_nothing gap) at (passed_over a gap (suc n) x [] ps (omega arith) (omega arith) missing came))

-- one more arrival, at the expected place or ahead of it
ahead : (packets : List Packet) (n x : ℕ) (held : List ℕ) (xs : List ℕ) → n ≤ x → x < length packets →
    along (in_time (x ∷ xs)) n held (drop n packets)
    ≡ given (behind (x - n) held) (segments_of entry_width (packet_at packets x))
    ++ along (in_time xs) (suc x) (left (behind (x - n) held) (segments_of entry_width (packet_at packets x))) (drop (suc x) packets)
ahead packets n x held xs from there =
    let a : n + (x - n) ≡ x = omega arith in
    let c : n + suc (x - n) ≡ suc x = omega arith in
    passed_over (in_time (x ∷ xs)) (x - n) n x held (drop n packets) (omega (arith, length-drop n packets)) (omega arith)
    (λ k l. in_time-before x xs k l) (in_time_at x xs)
    ∙ rw (get_or-drop n packets (x - n) (ip []), a, drop-drop (suc (x - n)) n packets, c)
    (ap (λ r. given (behind (x - n) held) (segments_of entry_width (packet_at packets x)) ++ r)
    (same_from (in_time (x ∷ xs)) (in_time xs) (suc x) (left (behind (x - n) held) (segments_of entry_width (packet_at packets x)))
    (drop (suc x) packets)
    (λ k l. in_time-after x xs k l)))

-- a flow that accepted the number of a place expects that of the next place
pub next_place : (start x : ℕ) → next (number_at start x) ≡ number_at start (suc x)
next_place start x = number_at-next start x ∙ ap (number_at start) (add-one x)

module _ (start : ℕ) (packets : List Packet)
    (by_place : (f : Flow) (x : ℕ) → Counts packets x → judged_of f (sub (packet_at packets x)) ≡ judge f (number_at start x)) where
  abbrev those : List ℕ → List Packet
  those xs = map (packet_at packets) xs

  -- `expected` is the place that the flow waits for
  arrivals_along : (f : Flow) (expected : ℕ) (held : List ℕ) (xs : List ℕ) → f.heard ≡ heard_mark → f.expected ≡ number_at start expected →
      Each (Counts packets) xs → WithinBound expected xs →
      frames_alone f held (those xs) ≡ along (in_time xs) expected held (drop expected packets)
  unfolding read_alone
  arrivals_along f expected held [] hears waits sent within =
      sym (none_from (in_time []) expected held (drop expected packets) in_time-none)
  arrivals_along f expected held (x ∷ xs) hears waits sent within =
      pick (λ g held' h w v. arrivals_along g (suc x) held' xs h w sent.1 v)
      (λ v. arrivals_along f expected held xs hears waits sent.1 v)
      (leb expected x) refl
    where
      pick : ((g : Flow) (held' : List ℕ) → g.heard ≡ heard_mark → g.expected ≡ number_at start (suc x) → WithinBound (suc x) xs →
          frames_alone g held' (those xs) ≡ along (in_time xs) (suc x) held' (drop (suc x) packets)) →
          (WithinBound expected xs → frames_alone f held (those xs) ≡ along (in_time xs) expected held (drop expected packets)) →
          (t : Bool) → leb expected x ≡ t →
          frames_alone f held (those (x ∷ xs)) ≡ along (in_time (x ∷ xs)) expected held (drop expected packets)
      pick on stay true e =
          let l : expected ≤ x = leb-true expected x e in
          let m : max expected (suc x) ≡ suc x = omega arith in
          let rest : List ℕ = left (behind (x - expected) held) (segments_of entry_width (packet_at packets x)) in
          frames_heard f held (packet_at packets x) (those xs) (number_at start x) (x - expected) sent.0.1
          (by_place f x sent.0 ∙ judge_forward f start expected hears waits x l within.0)
          ∙ ap (λ r. given (behind (x - expected) held) (segments_of entry_width (packet_at packets x)) ++ r)
          (on (listening (number_at start x) rest) rest refl (next_place start x) (rw m at within.2))
          ∙ sym (ahead packets expected x held xs l sent.0.0)
      pick on stay false e =
          let l : x < expected = leb-false expected x e in
          let m : max expected (suc x) ≡ expected = omega arith in
          alone_late frames_read psp_terms f held (packet_at packets x) (those xs)
          (by_place f x sent.0 ∙ judge_behind f start expected hears waits x l within.1)
          ∙ stay (rw m at within.2)
          ∙ sym (same_from (in_time (x ∷ xs)) (in_time xs) expected held (drop expected packets)
          (λ k i. in_time-after x xs k (omega arith)))

  -- a fresh flow takes any first place
  pub window_along : (xs : List ℕ) → Each (Counts packets) xs → Window xs →
      frames_alone fresh [] (those xs) ≡ along (in_time xs) 0 [] packets
  unfolding read_alone
  window_along [] sent window = sym (none_from (in_time []) 0 [] packets in_time-none)
  window_along (x ∷ xs) sent window =
      let rest : List ℕ = left [] (segments_of entry_width (packet_at packets x)) in
      frames_heard fresh [] (packet_at packets x) (those xs) (number_at start x) 0 sent.0.1 (by_place fresh x sent.0)
      ∙ ap (λ r. given [] (segments_of entry_width (packet_at packets x)) ++ r)
      (arrivals_along (listening (number_at start x) rest) (suc x) rest xs refl (next_place start x) sent.1 window)
      ∙ sym (rw (behind_nothing (x - 0)) at (ahead packets 0 x [] xs (omega arith) sent.0.0))
