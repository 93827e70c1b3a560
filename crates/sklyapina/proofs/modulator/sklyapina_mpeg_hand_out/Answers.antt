-- `sklyapina_mpeg_hand_out` is right since `mpeg::hand_out`, given the null packet, hands out a packet, and the copy fills all of the bytes
-- that are returned.
use Rattle.std.proofs.Common.{◌≡◌, ℕ, List, length, refl, sym, ap, ◌∙◌, arith}
use Rattle.octets.specs.Stretch.{part, put}
use Rattle.octets.proofs.Stretches.{part_all, put_whole}
use Rattle.ts.specs.Packet.{mpeg_length}
use Rattle.mpeg.proofs.Packets.{handed-bytes, handed_long}
use Rattle.sklyapina.proofs.modulator.sklyapina_mpeg_hand_out.Goals as goal

-- a packet put over bytes that are as many is that packet
copied : (bytes packet : List ℕ) → length bytes ≡ mpeg_length → length packet ≡ mpeg_length →
    put bytes 0 (part packet 0 mpeg_length) ≡ packet
copied bytes packet few many =
    ap (λ (n : ℕ). put bytes 0 (part packet 0 n)) (sym many) ∙ ap (put bytes 0) (part_all packet) ∙ put_whole bytes packet (few ∙ sym many)

pub copy-requires : goal.copy-requires
copy-requires c =
    let handed = handed-bytes _ _ c.hand_out-packet.result c.null_packet-null.ensures c.hand_out-packet.ensures in
    (omega arith, omega (arith, ap length handed, handed_long c.args.queue.now))

pub returns : goal.returns
returns c =
    let handed = handed-bytes _ _ c.hand_out-packet.result c.null_packet-null.ensures c.hand_out-packet.ensures in
    c.copy.ensures ∙ copied _ c.hand_out-packet.result.now refl (ap length handed ∙ handed_long c.args.queue.now) ∙ handed
