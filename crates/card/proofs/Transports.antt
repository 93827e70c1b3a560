-- For the data call too a packet over UDP with T 0 and version 3 is the one that it would be over IP without its first four bytes: the same
-- answer, table and slices.
use Prim.Native.Nat.{ℕ}
use mathlib.Core.Path.{◌≡◌, ap, ◌∙◌}
use mathlib.Core.List.{List, [], ◌∷◌, ◌++◌}
use mathlib.Core.Bool.{false, not}
use Rattle.refusal.specs.Refusal.{Refusal, ◌when◌, first}
use Rattle.packet.specs.Header.{ip, udp, not_version3, sub, session_id, before_session}
use Rattle.packet.proofs.Transports.{same-sub, same_early}
use Rattle.table.specs.declared.Table.{Table}
use Rattle.table.specs.Broken.{broken}
use Rattle.table.specs.Calls.{is_open}
use Rattle.join.specs.Slices.{Slices}
use Rattle.card.specs.Receive.{Outcome, row_of, too_small, flow_refusals, received_by, received}

module _ (t : Table) (a b c d : ℕ) (bytes : List ℕ) (s : Slices) where
  -- the outcome, by what is judged before the session is sought and by what follows the session ID
  abbrev outcome_by : List Refusal → List ℕ → Outcome
  outcome_by early behind =
      let r = row_of t (ip bytes) in
      let unopened = 5 when not (is_open t (session_id (ip bytes))) ∷ [] in
      received_by (first (1 when too_small s ∷ (13 when broken t ∷ early) ++ unopened ++ flow_refusals t r behind)) t r behind s

  pub same_received : not_version3 (udp (a ∷ b ∷ c ∷ d ∷ bytes)) ≡ false →
      received t (udp (a ∷ b ∷ c ∷ d ∷ bytes)) s ≡ received t (ip bytes) s
  unfolding received
  same_received version =
      ap (λ (early : List Refusal). outcome_by early (sub (udp (a ∷ b ∷ c ∷ d ∷ bytes)))) (same_early a b c d bytes version)
      ∙ ap (outcome_by (before_session (ip bytes))) (same-sub a b c d bytes)
