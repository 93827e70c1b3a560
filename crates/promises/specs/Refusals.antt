-- A refusal (document 01, "Refusal numbers"): whatever its number, all counts are 0 and nothing has changed; a refused send gives back the
-- position and the number that it was given, and a refused import or export leaves its output (W5). For every table, packet and slices.
-- (That the number is the right one is for the definitions.)
use Rattle.std.specs.Prelude.{ℕ, ◌≡◌, List}
use Rattle.card.specs.History.{Card, Arrival, Call, hands, answer, after}
use Rattle.sender.specs.Send.{Asked, sent}
use Rattle.pcap.specs.declared.Addresses.{Addresses}
use Rattle.pcap.specs.Import.{imported}
use Rattle.pcap.specs.Export.{exported}

-- `refusals_change_nothing`
pub record RefusalsChangeNothing : Type 0 where
  pub table-and-places : (c : Card) (x : Call) → ((answer c x).code ≡ 0 → ⊥) → after c x ≡ c
  pub counts : (c : Card) (x : Call) → ((answer c x).code ≡ 0 → ⊥) →
      ((answer c x).frames ≡ 0) × ((answer c x).bytes ≡ 0) × ((answer c x).dropped ≡ 0) × ((answer c x).gap ≡ 0)
  pub slices : (c : Card) (a : Arrival) → ((answer c (hands a)).code ≡ 0 → ⊥) →
      ((answer c (hands a)).output ≡ a.output) × ((answer c (hands a)).lengths ≡ a.lengths)
  pub sends : (a : Asked) → ((sent a).answer.code ≡ 0 → ⊥) →
      ((sent a).answer.length ≡ 0) × ((sent a).answer.position ≡ a.position)
      × ((sent a).answer.number ≡ a.number) × ((sent a).output ≡ a.output)
  pub imports : (sessions file output : List ℕ) → ((imported sessions file output).answer.code ≡ 0 → ⊥) →
      ((imported sessions file output).answer.length ≡ 0) × ((imported sessions file output).output ≡ output)
  pub exports : (by : Addresses) (file output : List ℕ) → ((exported by file output).answer.code ≡ 0 → ⊥) →
      ((exported by file output).answer.length ≡ 0) × ((exported by file output).output ≡ output)
