-- `mpeg::hand_out` is right since each of its three answers is a stretch at the front of the slice that the definition hands from.
use Rattle.std.proofs.Common.{refl, arith}
use Rattle.octets.proofs.Stretches.{sliced_front}
use Rattle.ts.specs.Packet.{mpeg_length}
use Rattle.mpeg.proofs.Packets.{from-queue, from_null, handed-whole, handed-none, handed}
use Rattle.mpeg.proofs.hand_out.Goals as goal

pub returns-then-queue-ge-MPEG_LENGTH : goal.returns-then-queue-ge-MPEG_LENGTH
returns-then-queue-ge-MPEG_LENGTH c =
    let a = c.args in
    let whole = c.if-queue-ge-MPEG_LENGTH.true in
    handed a.queue a.null a.queue _ mpeg_length (from-queue a.queue a.null whole) (handed-whole a.queue.now whole)
    refl refl (sliced_front a.queue.now mpeg_length)

pub returns-then-null-ge-MPEG_LENGTH : goal.returns-then-null-ge-MPEG_LENGTH
returns-then-null-ge-MPEG_LENGTH c =
    let a = c.args in
    let whole = c.if-null-ge-MPEG_LENGTH.true in
    handed a.queue a.null a.null _ mpeg_length (from_null a.queue a.null (omega (arith, c.if-queue-ge-MPEG_LENGTH.false)))
    (handed-whole a.null.now whole) refl refl (sliced_front a.null.now mpeg_length)

pub returns : goal.returns
returns c =
    let a = c.args in
    handed a.queue a.null a.null _ 0 (from_null a.queue a.null (omega (arith, c.if-queue-ge-MPEG_LENGTH.false)))
    (handed-none a.null.now (omega (arith, c.if-null-ge-MPEG_LENGTH.false))) refl refl (sliced_front a.null.now 0)
