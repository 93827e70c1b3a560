-- `mpeg::reader::survey`: a packet is a turn of the pass (proofs/Passes.antt), and what is unsound once stays so.
use Rattle.std.proofs.Common.{◌≡◌, ◌+◌, ◌*◌, ◌<◌, ◌≤◌, ℕ, length, refl, sym, ap, subst, ◌∙◌, arith, true}
use Rattle.octets.proofs.Stretches.{length_part}
use Rattle.ts.specs.Packet.{mpeg_length}
use Rattle.std.specs.Prelude.{Some}
use Rattle.mpeg.specs.Inside.Standing.{standing_of, spoilt, told}
use Rattle.mpeg.proofs.Fronts.{none_found}
use Rattle.mpeg.proofs.Passes.{Passing, pass_begin, pass_inside, pass_within, within_of, follows_at, pass_turn, pass_through, pass_end}
use Rattle.mpeg.proofs.Passes.{reading-cut}
use Rattle.mpeg.proofs.reader.survey.Goals as goal

pub returns-then-packets-ne0 : goal.returns-then-packets-ne0
returns-then-packets-ne0 c = ap standing_of (sym (reading-cut c.args.packets.now c.if-packets-ne0.true))

pub loop-k-init : goal.loop-k-init
loop-k-init c = pass_begin c.args.packets.now _ (none_found true 16 refl)

pub read_packet-requires : goal.read_packet-requires
read_packet-requires c =
    let more : mpeg_length * c.loop-k.k < length c.args.packets.now = omega arith in
    let inside = pass_inside c.loop-k.invariant c.if-packets-ne0.false more in (
      ap length c.packet_at.ensures ∙ length_part c.args.packets.now (mpeg_length * c.loop-k.k) mpeg_length inside,
      within_of c.loop-k.standing (pass_within c.loop-k.invariant c.if-packets-ne0.false more refl) (omega (arith, inside)),
    )

pub returns-in_err-standing : goal.returns-in_err-standing
returns-in_err-standing c =
    let more : mpeg_length * c.loop-k.k < length c.args.packets.now = omega arith in
    let lost =
    pass_turn c.loop-k.invariant c.if-packets-ne0.false more refl spoilt (follows_at c.packet_at.ensures c.in_err-standing.ensures) in
    ap told c.from_residual.ensures ∙ pass_end lost c.if-packets-ne0.false refl

pub loop-k-preserved : goal.loop-k-preserved
loop-k-preserved c =
    let more : mpeg_length * c.loop-k.k < length c.args.packets.now = omega arith in
    let next : mpeg_length * c.loop-k.k + mpeg_length ≡ mpeg_length * (c.loop-k.k + 1) = omega arith in
    subst (λ (at : ℕ). Passing c.args.packets.now (told (Some c.in_ok-standing.standing)) at) next
    (pass_turn c.loop-k.invariant c.if-packets-ne0.false more refl _ (follows_at c.packet_at.ensures c.in_ok-standing.ensures))

pub returns : goal.returns
returns c =
    let done : length c.args.packets.now ≤ mpeg_length * c.loop-k.k = omega (arith, c.if-packets-ne0.false) in
    c.loop-k.invariant.stands ∙ ap standing_of (pass_through c.loop-k.invariant done)
