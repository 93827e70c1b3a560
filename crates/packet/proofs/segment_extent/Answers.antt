-- Where the request is not refused, the segment's entry and its body lie in the packet (`Asked`).
use Rattle.std.proofs.Common.{arith, ap, sym, ◌∙◌, ◌+◌, ℕ}
use Rattle.packet.specs.Header.{packet_by, id_length, lead_of}
use Rattle.packet.specs.Segments.{length_in}
use Rattle.packet.proofs.Asked.{given_facts, extent_found}
use Rattle.packet.proofs.segment_extent.Goals as goal

pub body_place-requires-clause-among : goal.body_place-requires-clause-among
body_place-requires-clause-among c =
    let same = c.in_ok-packet.ensures.same_packet in
    let cut = rw (same.0, same.1) at c.sub-sub.ensures.its_bytes in
    let p = packet_by c.args.transport c.args.packet.now in
    let facts = given_facts c.args.kind p _ c.args.k (sym c.in_ok-packet.ensures.its_number) cut in
    omega (arith, facts.among)

pub body_place-requires-clause-sub_in_bounds : goal.body_place-requires-clause-sub_in_bounds
body_place-requires-clause-sub_in_bounds c =
    let same = c.in_ok-packet.ensures.same_packet in
    let cut = rw (same.0, same.1) at c.sub-sub.ensures.its_bytes in
    let p = packet_by c.args.transport c.args.packet.now in
    (given_facts c.args.kind p _ c.args.k (sym c.in_ok-packet.ensures.its_number) cut).entries

pub overflow_add-start : goal.overflow_add-start
overflow_add-start c =
    let same = c.in_ok-packet.ensures.same_packet in
    let cut = rw (same.0, same.1) at c.sub-sub.ensures.its_bytes in
    let p = packet_by c.args.transport c.args.packet.now in
    let facts = given_facts c.args.kind p _ c.args.k (sym c.in_ok-packet.ensures.its_number) cut in
    let before = rw same.1 at c.lead-before.ensures.0 in
    omega (arith, c.body_place.ensures, before, facts.body)

pub entry-requires : goal.entry-requires
entry-requires c =
    let same = c.in_ok-packet.ensures.same_packet in
    let cut = rw (same.0, same.1) at c.sub-sub.ensures.its_bytes in
    let p = packet_by c.args.transport c.args.packet.now in
    (given_facts c.args.kind p _ c.args.k (sym c.in_ok-packet.ensures.its_number) cut).entry

pub returns : goal.returns
returns c =
    let same = c.in_ok-packet.ensures.same_packet in
    let cut = rw (same.0, same.1) at c.sub-sub.ensures.its_bytes in
    let at = ap (λ (n : ℕ). n + id_length) (c.lead-before.ensures.0 ∙ ap lead_of same.1) in
    let long = c.length_of-size.ensures.0 ∙ ap length_in c.entry.ensures in
    let p = packet_by c.args.transport c.args.packet.now in
    let given = sym c.in_ok-packet.ensures.its_number in
    (given, extent_found c.args.kind p _ c.args.k given cut _ _ _ at c.body_place.ensures long)
