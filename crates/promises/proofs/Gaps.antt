-- The numbers and gaps that a flow's calls answer in a run are those told along the sender's packets, for PSP and D-MPT alike. As with
-- demand 3, what the calls answer is what the flow makes of its packets by itself; and within the bound it judges each packet by its place.
use Prim.Native.Nat.{ℕ, suc, ◌-◌, ◌≤◌, ◌<◌, max}
use mathlib.Core.Path.{◌≡◌, refl, ap, ◌∙◌}
use mathlib.Core.Bool.{Bool, true, false, cond}
use mathlib.Core.List.{List, [], ◌∷◌, ◌++◌, map}
use native.Mathlib.Omega.{arith}
use lib.Dec.{leb}
use borrow.Author.Tests.{leb-true, leb-false}
use Rattle.octets.specs.Each.{Each}
use Rattle.flow.specs.declared.Flow.{Flow}
use Rattle.flow.specs.Numbers.{number_at}
use Rattle.flow.specs.Flow.{fresh, judge, heard_mark}
use Rattle.flow.proofs.Judging.{judge_forward, judge_behind}
use Rattle.packet.specs.Header.{Packet, sub}
use Rattle.table.specs.declared.Kind.{Kind}
use Rattle.table.specs.declared.Terms.{Terms}
use Rattle.card.specs.Hear.{judged_of}
use Rattle.card.specs.History.{Card, Call, answer, after}
use Rattle.sender.specs.Rules.{packet_at}
use Rattle.promises.specs.Words.{hands_to}
use Rattle.promises.specs.Arrivals.{WithinBound, Window}
use Rattle.promises.specs.Gaps.{Verdict, verdicts_out, verdicts_from, verdicts_of, GapsAreTold}
use Rattle.promises.proofs.Readings.{Reading, read_out}
use Rattle.promises.proofs.Alone.{terms_for, read_alone}
use Rattle.promises.proofs.Hearing.{alone_late, alone_heard}
use Rattle.promises.proofs.Passed.{Counts, judged_by-place}
use Rattle.promises.proofs.Arrivals.{next_place}
use Rattle.promises.proofs.Runs.{all_counted, run-read}

-- a late packet is answered by 12 and gap 0, and any other by 0 and the gap that the flow finds
abbrev pub verdicts_read : Reading Verdict
verdicts_read =
    record {
      of_answer = λ a. record { code = a.code; gap = a.gap } ∷ [];
      of_late = record { code = 12; gap = 0 } ∷ [];
      of_heard = λ h. record { code = 0; gap = h.judged.gap } ∷ [];
      when_late = λ a code frames gap. rw (code, gap) refl;
      when_heard = λ a h code frames gap. rw (code, gap) refl;
    }

verdicts_read_lem : (kind : Kind) (session flow : ℕ) (c : Card) (calls : List Call) →
    verdicts_out kind session flow c calls ≡ read_out verdicts_read kind session flow c calls
unfolding verdicts_out read_out
verdicts_read_lem kind session flow c [] = refl
verdicts_read_lem kind session flow c (x ∷ more) =
    ap (λ (l : List Verdict).
    cond (hands_to kind session flow x) (record { code = (answer c x).code; gap = (answer c x).gap } ∷ []) [] ++ l)
    (verdicts_read_lem kind session flow (after c x) more)

module _ (terms : Terms) (start : ℕ) (packets : List Packet)
    (by_place : (f : Flow) (x : ℕ) → Counts packets x → judged_of f (sub (packet_at packets x)) ≡ judge f (number_at start x)) where
  abbrev verdicts_alone : Flow → List ℕ → List ℕ → List Verdict
  verdicts_alone f held xs = read_alone verdicts_read terms f held (map (packet_at packets) xs)

  -- `expected` is the place that the flow waits for
  verdicts_along : (f : Flow) (expected : ℕ) (held : List ℕ) (xs : List ℕ) → f.heard ≡ heard_mark → f.expected ≡ number_at start expected →
      Each (Counts packets) xs → WithinBound expected xs → verdicts_alone f held xs ≡ verdicts_from expected xs
  unfolding read_alone verdicts_from
  verdicts_along f expected held [] hears waits sent within = refl
  verdicts_along f expected held (x ∷ xs) hears waits sent within =
      pick (λ g held' h w v. verdicts_along g (suc x) held' xs h w sent.1 v)
      (λ v. verdicts_along f expected held xs hears waits sent.1 v)
      (leb expected x) refl
    where
      pick : ((g : Flow) (held' : List ℕ) → g.heard ≡ heard_mark → g.expected ≡ number_at start (suc x) → WithinBound (suc x) xs →
          verdicts_alone g held' xs ≡ verdicts_from (suc x) xs) →
          (WithinBound expected xs → verdicts_alone f held xs ≡ verdicts_from expected xs) →
          (t : Bool) → leb expected x ≡ t →
          verdicts_alone f held (x ∷ xs)
          ≡ cond t (record { code = 0; gap = x - expected } ∷ verdicts_from (suc x) xs)
          (record { code = 12; gap = 0 } ∷ verdicts_from expected xs)
      pick on stay true e =
          let l : expected ≤ x = leb-true expected x e in
          let m : max expected (suc x) ≡ suc x = omega arith in
          alone_heard verdicts_read terms f held (packet_at packets x) (map (packet_at packets) xs) (number_at start x) (x - expected)
          (by_place f x sent.0 ∙ judge_forward f start expected hears waits x l within.0)
          ∙ ap (λ (r : List Verdict). record { code = 0; gap = x - expected } ∷ r) (on _ _ refl (next_place start x) (rw m at within.2))
      pick on stay false e =
          let l : x < expected = leb-false expected x e in
          let m : max expected (suc x) ≡ expected = omega arith in
          alone_late verdicts_read terms f held (packet_at packets x) (map (packet_at packets) xs)
          (by_place f x sent.0 ∙ judge_behind f start expected hears waits x l within.1)
          ∙ ap (λ (r : List Verdict). record { code = 12; gap = 0 } ∷ r) (stay (rw m at within.2))

  -- a fresh flow takes any first place
  window_verdicts : (xs : List ℕ) → Each (Counts packets) xs → Window xs → verdicts_alone fresh [] xs ≡ verdicts_of xs
  unfolding read_alone verdicts_of
  window_verdicts [] sent window = refl
  window_verdicts (x ∷ xs) sent window =
      alone_heard verdicts_read terms fresh [] (packet_at packets x) (map (packet_at packets) xs) (number_at start x) 0
      (by_place fresh x sent.0)
      ∙ ap (λ (r : List Verdict). record { code = 0; gap = 0 } ∷ r)
      (verdicts_along _ (suc x) _ xs refl (next_place start x) sent.1 window)

pub gaps_are_told : GapsAreTold
gaps_are_told kind line packets up r =
    verdicts_read_lem kind line.session line.flow _ r.calls
    ∙ run-read kind line packets r up.passing verdicts_read
    ∙ window_verdicts (terms_for kind) line.start packets (judged_by-place line.start packets up.numbered) r.arrivals
    (all_counted kind line packets r) r.in_window
