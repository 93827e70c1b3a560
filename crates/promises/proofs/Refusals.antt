-- A refused call changes nothing: each call goes by the number of the first refusal that applies, and where that is not 0 it gives back
-- what it was given, with all counts 0.
use Prim.Native.Nat.{ℕ, zero, suc}
use mathlib.Core.Path.{◌≡◌, refl, ap}
use Rattle.packet.specs.Header.{Packet}
use Rattle.table.specs.declared.Table.{Table}
use Rattle.table.proofs.Keeping.{refused_close_keeps}
use Rattle.join.specs.Slices.{Slices}
use Rattle.card.specs.Receive.{Outcome, refused, received}
use Rattle.card.specs.History.{Card, Arrival, Call, opens, closes, hands, lent_with, answer}
use Rattle.card.proofs.Accepted.{received-refused}
use Rattle.sender.specs.Send as sender
use Rattle.sender.proofs.Sending.{sent-refused}
use Rattle.sender.proofs.Series.{code_is}
use Rattle.pcap.proofs.Outcomes.{import_undone, export_undone}
use Rattle.promises.specs.Refusals.{RefusalsChangeNothing}
use Rattle.promises.proofs.Good.{refused_stays}

-- The data call: a number other than 0 comes with nothing else.
pub record Unchanged (t : Table) (s : Slices) (o : Outcome) : Type 0 where
  pub same-table : o.answer.table ≡ t
  pub same-slices : o.slices ≡ s
  pub no_counts : (o.answer.frames ≡ 0) × (o.answer.bytes ≡ 0) × (o.answer.dropped ≡ 0) × (o.answer.gap ≡ 0)

refused_by : (c : ℕ) (t : Table) (p : Packet) (s : Slices) → (received t p s).answer.code ≡ c → (c ≡ 0 → ⊥) →
    Unchanged t s (received t p s)
unfolding refused
refused_by zero t p s e other = absurd (other refl)
refused_by (suc c) t p s e other =
    rw (received-refused t p s c e)
    (record { same-table = refl; same-slices = refl; no_counts = (refl, refl, refl, refl) })

pub refused_unchanged : (t : Table) (p : Packet) (s : Slices) → ((received t p s).answer.code ≡ 0 → ⊥) →
    Unchanged t s (received t p s)
refused_unchanged t p s other = refused_by (received t p s).answer.code t p s refl other

-- Every call on a card. (That the card is as it was is `refused_stays`.)
none-counted : (c : Card) (x : Call) → ((answer c x).code ≡ 0 → ⊥) →
    ((answer c x).frames ≡ 0) × ((answer c x).bytes ≡ 0) × ((answer c x).dropped ≡ 0) × ((answer c x).gap ≡ 0)
unfolding answer
none-counted c (opens q) other = (refl, refl, refl, refl)
none-counted c (closes id) other = (refl, refl, (refused_close_keeps c.table id other).1, refl)
none-counted c (hands a) other =
    (refused_unchanged c.table a.packet (lent_with c a) other).no_counts

same-slices : (c : Card) (a : Arrival) → ((answer c (hands a)).code ≡ 0 → ⊥) →
    ((answer c (hands a)).output ≡ a.output) × ((answer c (hands a)).lengths ≡ a.lengths)
unfolding answer
same-slices c a other =
    let u = refused_unchanged c.table a.packet (lent_with c a) other in
    (ap (λ (s : Slices). s.output) u.same-slices, ap (λ (s : Slices). s.lengths) u.same-slices)

-- The sender gives back the position and the number.
given_back : (a : sender.Asked) → ((sender.sent a).answer.code ≡ 0 → ⊥) →
    ((sender.sent a).answer.length ≡ 0) × ((sender.sent a).answer.position ≡ a.position)
    × ((sender.sent a).answer.number ≡ a.number) × ((sender.sent a).output ≡ a.output)
unfolding sender.refused
given_back a other =
    rw (← sent-refused a (sender.sent a).answer.code (code_is a) other) (refl, refl, refl, refl)

pub refusals_change_nothing : RefusalsChangeNothing
refusals_change_nothing =
    record {
      table-and-places = refused_stays;
      counts = none-counted;
      slices = same-slices;
      sends = given_back;
      imports = import_undone;
      exports = export_undone;
    }
