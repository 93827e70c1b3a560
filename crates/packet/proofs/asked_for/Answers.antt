use Rattle.std.proofs.Common.{rules}
use Rattle.packet.specs.Header.{packet_by}
use Rattle.packet.proofs.Orders.{cause_handed_on}
use Rattle.packet.proofs.asked_for.Goals as goal

pub returns-in_err-packet : goal.returns-in_err-packet
returns-in_err-packet c =
    let handed_on = cause_handed_on c.args.kind (packet_by c.args.transport c.args.packet.now) _ c.args.k c.if-kind-ne-KIND_PSP.false
    c.in_err-packet.ensures.its_number in
    search (rules, handed_on)
