-- The order of refusals is that of `seek` and behind it that of the session's row; and a row that is put back as it was leaves the table as
-- it was (`Receiving`).
use Rattle.std.proofs.Common.{◌≡◌, ℕ, List, refl, rules}
use Rattle.refusal.proofs.Numbers.{number_some}
use Rattle.packet.specs.Header.{Packet, packet_by}
use Rattle.table.specs.declared.Table.{Table}
use Rattle.join.specs.Slices.{Slices, as_slices}
use Rattle.card.specs.declared.Received.{Received}
use Rattle.card.specs.Receive.{received, refused, PermitsReceive}
use Rattle.card.proofs.Receiving.{permits, ready, receive_there, receive_nowhere, receive_refused}
use Rattle.card.proofs.receive.Goals as goal

-- who lent the slices for what comes out finds there what the call left in them
found_there : {t : Table} {p : Packet} {s : Slices} {answer : Received} {holding out lengths out' lengths' : List ℕ} →
    record { answer = answer; slices = as_slices holding out lengths } ≡ received t p s → out' ≡ out → lengths' ≡ lengths →
    PermitsReceive t p s (record { answer = answer; slices = as_slices holding out' lengths' })
found_there is o l = rw (o, l) (permits is)

pub take-requires-clause-ready : goal.take-requires-clause-ready
take-requires-clause-ready c =
    let a = c.args in
    let same = c.in-Ok.ensures.same_packet in
    rw (same.0, same.1)
    (ready a.table (packet_by a.transport a.packet.now) (as_slices a.holding.now a.output.now a.lengths.now) _ c.in-Ok.ensures.seeks refl)

pub returns-in-Ok-take : goal.returns-in-Ok-take
returns-in-Ok-take c =
    let a = c.args in
    let same = c.in-Ok.ensures.same_packet in
    found_there {out = c.take.new.output.bytes.now} {lengths = c.take.new.output.lengths.now}
    (rw c.delivered.ensures
    (receive_there a.table (packet_by a.transport a.packet.now) (as_slices a.holding.now a.output.now a.lengths.now)
    c.in-Ok.sought.at c.in-Ok.ensures.seeks _ (rw (same.0, same.1) at c.in-Ok-take.ensures.outcome)))
    (search rules) (search rules)

pub returns-in-Err-take : goal.returns-in-Err-take
unfolding refused
returns-in-Err-take c =
    let a = c.args in
    let same = c.in-Ok.ensures.same_packet in
    found_there {out = c.take.new.output.bytes.now} {lengths = c.take.new.output.lengths.now}
    (rw c.refused-in-Err-take.ensures
    (receive_refused a.table (packet_by a.transport a.packet.now) (as_slices a.holding.now a.output.now a.lengths.now)
    c.in-Ok.sought.at c.in-Ok.ensures.seeks _ _ (rw (same.0, same.1) at c.in-Err-take.ensures.outcome)))
    (search rules) (search rules)

pub returns-in-Err : goal.returns-in-Err
unfolding refused
returns-in-Err c =
    let a = c.args in
    permits
    (rw c.refused.ensures
    (receive_nowhere a.table (packet_by a.transport a.packet.now) (as_slices a.holding.now a.output.now a.lengths.now)
    _ (number_some c.in-Err.refusal) c.in-Err.ensures.seeks))
