-- After k packets `mpeg::reader::survey` stands where the definition stands.
use Rattle.std.proofs.Common.{◌*◌}
use Rattle.ts.specs.Packet.{mpeg_length}
use Rattle.mpeg.specs.Inside.Standing.{told}
use Rattle.std.specs.Prelude.{Some}
use Rattle.mpeg.proofs.Passes.{Passing}
use Rattle.mpeg.proofs.reader.survey.Given as goal

abbrev pub invariant-loop-k : goal.invariant-loop-k
invariant-loop-k l = Passing l.packets (told (Some l.standing)) (mpeg_length * l.k)
