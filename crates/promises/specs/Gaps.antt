-- The gap, along the sender's packets (document 01, "Opening, closing, listening" and "Demand 3 and the next rule suppose"). In a run as
-- demand 3 has it, of a PSP flow or of a D-MPT session, a packet is late exactly where one sent after it, or itself, has arrived before;
-- and the gap that is reported with any other is how many packets were passed over.
use Rattle.std.specs.Prelude.{ℕ, suc, ◌-◌, ◌<◌, ◌≡◌, cond, List, [], ◌∷◌, ◌++◌, leb, length}
use Rattle.octets.specs.Each.{Each}
use Rattle.flow.specs.Numbers.{number_at}
use Rattle.packet.specs.Header.{Packet, sub, number}
use Rattle.packet.specs.Check.{check}
use Rattle.table.specs.declared.Kind.{Kind}
use Rattle.table.specs.Rows.{number_of}
use Rattle.card.specs.History.{Card, Call, answer, after}
use Rattle.sender.specs.Rules.{Line, packet_at}
use Rattle.promises.specs.Words.{hands_to}
use Rattle.promises.specs.Demand.{RunOf, card_opened}

-- What the calls for a flow are answered: number and gap, in order.
pub record Verdict : Type 0 where
  pub code : ℕ
  pub gap : ℕ

unfoldable pub verdicts_out : Kind → ℕ → ℕ → Card → List Call → List Verdict
verdicts_out kind session flow c [] = []
verdicts_out kind session flow c (x ∷ more) =
    cond (hands_to kind session flow x) (record { code = (answer c x).code; gap = (answer c x).gap } ∷ []) []
    ++ verdicts_out kind session flow (after c x) more

-- What they ought to be, told along the sender's packets: the first arrival is accepted with gap 0. From then on one at or beyond the place
-- expected next is accepted, and its gap is how many packets it passed over; any other is late.
unfoldable pub verdicts_from : ℕ → List ℕ → List Verdict
verdicts_from expected [] = []
verdicts_from expected (x ∷ more) =
    cond (leb expected x) (record { code = 0; gap = x - expected } ∷ verdicts_from (suc x) more)
    (record { code = 12; gap = 0 } ∷ verdicts_from expected more)

unfoldable pub verdicts_of : List ℕ → List Verdict
verdicts_of [] = []
verdicts_of (x ∷ more) = record { code = 0; gap = 0 } ∷ verdicts_from (suc x) more

-- Packets that pass the check of their session's kind and are numbered one up. What is in them does not matter.
pub record NumberedUp (kind : Kind) (line : Line) (packets : List Packet) : Type 0 where
  pub passing : Each (λ p. check (number_of kind) p ≡ 0) packets
  pub numbered : (i : ℕ) → i < length packets → number (sub (packet_at packets i)) ≡ number_at line.start i

-- `gaps_are_told`
abbrev pub GapsAreTold : Type 0
GapsAreTold =
    (kind : Kind) (line : Line) (packets : List Packet) → NumberedUp kind line packets → (r : RunOf kind line packets) →
    verdicts_out kind line.session line.flow (card_opened kind line packets r) r.calls ≡ verdicts_of r.arrivals
