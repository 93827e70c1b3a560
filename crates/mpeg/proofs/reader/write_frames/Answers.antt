-- `mpeg::reader::write_frames`: a packet is a turn of the pass that writes (proofs/Passes.antt).
use Rattle.std.proofs.Common.{◌≡◌, ◌+◌, ◌*◌, ◌<◌, ◌≤◌, ℕ, length, refl, sym, ap, subst, ◌∙◌, arith, true}
use mathlib.Core.Bool.{true≢false}
use Rattle.octets.proofs.Stretches.{length_part}
use Rattle.ts.specs.Packet.{mpeg_length}
use Rattle.std.specs.Prelude.{Some}
use Rattle.mpeg.specs.Inside.Standing.{told}
use Rattle.mpeg.proofs.Fronts.{none_found}
use Rattle.mpeg.proofs.Passes.{Pouring, pour_begin, pour_inside, pour_within, within_of, follows_at, pour_kept, behind_small, pour_writable}
use Rattle.mpeg.proofs.Passes.{pour_turn, pour_end, reading-whole}
use Rattle.mpeg.proofs.reader.write_frames.Goals as goal

pub loop-k-init : goal.loop-k-init
loop-k-init c = pour_begin c.args.packets.now c.args.output.now c.args.total _ (none_found true 16 refl)

pub overflow_add-before : goal.overflow_add-before
overflow_add-before c =
    let more : mpeg_length * c.loop-k.k < length c.args.packets.now = omega arith in
    omega (arith, (pour_within c.loop-k.invariant c.requires more).few_bytes)

pub read_packet-requires : goal.read_packet-requires
read_packet-requires c =
    let more : mpeg_length * c.loop-k.k < length c.args.packets.now = omega arith in
    let inside = pour_inside c.loop-k.invariant c.requires more in (
      ap length c.packet_at-packet.ensures ∙ length_part c.args.packets.now (mpeg_length * c.loop-k.k) mpeg_length inside,
      within_of c.loop-k.standing (pour_within c.loop-k.invariant c.requires more) (omega (arith, inside)),
    )

pub returns-in-None : goal.returns-in-None
returns-in-None c =
    let more : mpeg_length * c.loop-k.k < length c.args.packets.now = omega arith in
    absurd (true≢false (sym (pour_kept c.loop-k.invariant c.requires more _ (follows_at c.packet_at-packet.ensures c.in-None.ensures))))

pub overflow_add-behind : goal.overflow_add-behind
overflow_add-behind c =
    let more : mpeg_length * c.loop-k.k < length c.args.packets.now = omega arith in
    omega (arith, behind_small c.loop-k.invariant c.requires more _ (follows_at c.packet_at-packet.ensures c.in-Some.ensures))

pub write_bytes-requires : goal.write_bytes-requires
write_bytes-requires c =
    let more : mpeg_length * c.loop-k.k < length c.args.packets.now = omega arith in
    let inside = pour_inside c.loop-k.invariant c.requires more in (
      ap length c.packet_at-packet.ensures ∙ length_part c.args.packets.now (mpeg_length * c.loop-k.k) mpeg_length inside,
      rw c.packet_at-packet.ensures
          (pour_writable c.loop-k.invariant c.requires more _ (follows_at c.packet_at-packet.ensures c.in-Some.ensures)),
    )

pub loop-k-preserved : goal.loop-k-preserved
loop-k-preserved c =
    let more : mpeg_length * c.loop-k.k < length c.args.packets.now = omega arith in
    let next : mpeg_length * c.loop-k.k + mpeg_length ≡ mpeg_length * (c.loop-k.k + 1) = omega arith in
    subst
    (λ (at : ℕ). Pouring c.args.packets.now c.args.output.now c.args.total (told (Some c.in-Some.next)) at c.write_bytes.new.output) next
    (pour_turn c.loop-k.invariant c.requires more _ (follows_at c.packet_at-packet.ensures c.in-Some.ensures) _
    (rw c.packet_at-packet.ensures at c.write_bytes.ensures))

pub returns : goal.returns
returns c =
    let done : length c.args.packets.now ≤ mpeg_length * c.loop-k.k =
    omega (arith, reading-whole c.args.packets.now c.requires.all_sound) in
    pour_end c.loop-k.invariant c.requires done
