-- The refusals of `row_refusals` in their order, and then what the flow makes of the packet (`Taking`).
use Rattle.std.proofs.Common.{rules, arith, refl, sym, ap, ◌∙◌}
use Rattle.refusal.proofs.Numbers.{number_some}
use Rattle.flow.specs.Flow.{judged_as, too_late}
use Rattle.packet.specs.Header.{packet_by, flow_id}
use Rattle.packet.specs.Reading.{number_of}
use Rattle.table.specs.Rows.{flow_at}
use Rattle.join.specs.Slices.{with_output}
use Rattle.card.proofs.ByKind.{flow_in_row}
use Rattle.card.proofs.Taking.{row_gives, take-refused, take_late, take_heard}
use Rattle.card.proofs.take.Goals as goal

pub returns-in_err-refuse_packet-clause-outcome : goal.returns-in_err-refuse_packet-clause-outcome
returns-in_err-refuse_packet-clause-outcome c =
    let a = c.args in
    let handed_on =
    take-refused a.row a.at (packet_by (number_of a.packet.transport) a.packet.bytes.now) (with_output a.holding.now a.output.now)
    _ c.sub-sub.ensures.its_bytes _ c.terms_of-terms.ensures _ c.in_err-refuse_packet.ensures
    (number_some c.in_err-refuse_packet.field-0.0) in
    search (rules, handed_on)

pub hear-requires-clause-hearable : goal.hear-requires-clause-hearable
hear-requires-clause-hearable c =
    let a = c.args in
    let passed = sym c.in_ok-refuse_packet.ensures in
    row_gives a.row c.flow_id-k.result (packet_by (number_of a.packet.transport) a.packet.bytes.now)
    (with_output a.holding.now a.output.now) c.requires.ready
    (omega (arith, flow_in_row c.terms_of-terms.result c.sub-sub.result.bytes.now passed, c.flow_id-k.ensures.0))
    _ c.terms_of-terms.ensures _ c.sub-sub.ensures.its_bytes passed

pub returns-in_err-heard-clause-outcome : goal.returns-in_err-heard-clause-outcome
returns-in_err-heard-clause-outcome c =
    let a = c.args in
    let late = c.in_err-heard.ensures.hears in
    let handed_on =
    take_late a.row a.at (packet_by (number_of a.packet.transport) a.packet.bytes.now) (with_output a.holding.now a.output.now)
    _ c.sub-sub.ensures.its_bytes _ c.terms_of-terms.ensures 0 c.in_ok-refuse_packet.ensures refl
    c.flow_id-k.result (c.flow_id-k.ensures.0 ∙ ap flow_id c.sub-sub.ensures.its_bytes)
    (too_late (flow_at a.row c.flow_id-k.result)) late.judges refl _ late.its_number _ late.leaves in
    search (rules, handed_on)

pub returns-clause-outcome : goal.returns-clause-outcome
returns-clause-outcome c =
    let a = c.args in
    let heard = c.in_ok-heard.ensures.hears in
    take_heard a.row a.at (packet_by (number_of a.packet.transport) a.packet.bytes.now) (with_output a.holding.now a.output.now)
    _ c.sub-sub.ensures.its_bytes _ c.terms_of-terms.ensures 0 c.in_ok-refuse_packet.ensures refl
    c.flow_id-k.result (c.flow_id-k.ensures.0 ∙ ap flow_id c.sub-sub.ensures.its_bytes)
    (judged_as c.in_ok-heard.heard.accepted) heard.judges refl _ c.place_of.ensures _ _ heard.places _ c.answer.ensures
