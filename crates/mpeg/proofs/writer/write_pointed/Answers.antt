-- `mpeg::writer::write_pointed` is right since the bytes that wait fill the packet (`full_written`), or 0xFF follows them
-- (`filled_written`).
use Rattle.std.proofs.Common.{◌≡◌, ◌+◌, ◌-◌, ℕ, length, ap, ◌∙◌, arith, replicate, take, drop}
use lib.ListN.{length-replicate}
use Rattle.octets.proofs.Stretches.{put_sliced, length_taken}
use Rattle.ts.specs.Packet.{mpeg_length, head_length, fill_byte}
use Rattle.mpeg.proofs.Packets.{full_written, filled_written}
use Rattle.mpeg.proofs.writer.write_pointed.Goals as goal

pub returns-then-waiting-ge-POINTED_LENGTH-clause-output_after : goal.returns-then-waiting-ge-POINTED_LENGTH-clause-output_after
returns-then-waiting-ge-POINTED_LENGTH-clause-output_after c =
    let a = c.args in
    full_written a.output.now a.frames.now a.place c.requires.0 c.requires.1 _ c.if-waiting-ge-POINTED_LENGTH.true c.copy_long.ensures

pub returns-clause-output_after : goal.returns-clause-output_after
returns-clause-output_after c =
    let a = c.args in
    let from : ℕ = head_length + 1 + (length a.frames.now - a.place) in
    let room : ℕ = mpeg_length - from in
    let long : length (take room (drop from c.copy.new.target)) ≡ room =
    length_taken c.copy.new.target from room (omega arith) in
    let filling = c.fill.ensures.after (λ y h. h) in
    filled_written a.output.now a.frames.now a.place c.requires.0 c.requires.1 _ _ (omega (arith, c.if-waiting-ge-POINTED_LENGTH.false))
    c.copy.ensures
    (put_sliced c.copy.new.target (replicate room fill_byte) from mpeg_length (omega arith)
    (filling ∙ ap (λ (n : ℕ). replicate n fill_byte) long)
    (length-replicate room fill_byte))
