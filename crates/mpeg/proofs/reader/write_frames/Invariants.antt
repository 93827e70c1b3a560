-- After each packet of `mpeg::reader::write_frames` the first bytes of the stream so far stand in the output, as many as are asked for.
use Rattle.std.proofs.Common.{◌*◌}
use Rattle.ts.specs.Packet.{mpeg_length}
use Rattle.mpeg.specs.Inside.Standing.{told}
use Rattle.std.specs.Prelude.{Some}
use Rattle.mpeg.proofs.Passes.{Pouring}
use Rattle.mpeg.proofs.reader.write_frames.Given as goal

abbrev pub invariant-loop-k : goal.invariant-loop-k
invariant-loop-k l = Pouring l.packets l.fn.output l.total (told (Some l.standing)) (mpeg_length * l.k) l.output
