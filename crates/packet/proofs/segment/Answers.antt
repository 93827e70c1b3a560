-- An extent always lies in the packet; where the request is refused, it is the one of no bytes at the packet's start.
use Rattle.std.proofs.Common.{arith, refl, ap, sym, ◌∙◌, ◌+◌}
use Rattle.octets.specs.Stretch.{part}
use Rattle.octets.proofs.Stretches.{sliced_part, part_none}
use Rattle.packet.specs.declared.Extent.{Extent}
use Rattle.packet.specs.Header.{packet_by}
use Rattle.packet.specs.Check.{segment_given}
use Rattle.packet.proofs.Asked.{extent_refused}
use Rattle.refusal.proofs.Numbers.{number_some}
use Rattle.packet.proofs.segment.Goals as goal

pub returns-in-Ok : goal.returns-in-Ok
unfolding segment_given
returns-in-Ok c =
    let bytes = c.args.packet.now in
    let e = c.in-Ok.extent in
    let found = c.in-Ok.ensures.1 in
    record {
      in_the_packet = refl;
      at_its_place = rw (sym found) (omega arith);
      its_bytes =
          sliced_part bytes e.start (e.start + e.size) e.size (omega arith)
          ∙ ap (λ (x : Extent). part bytes x.start x.size) found;
    }

pub returns-in-Err : goal.returns-in-Err
unfolding segment_given
returns-in-Err c =
    let p = packet_by c.args.transport c.args.packet.now in
    let none = extent_refused c.args.kind p c.args.k (λ z. number_some c.in-Err.field-0 (c.in-Err.ensures ∙ z)) in
    record {
      in_the_packet = refl;
      at_its_place = rw none (omega arith);
      its_bytes = rw none (sym (part_none c.args.packet.now 0));
    }
