-- `pspexport::run` is safe since the file lies in the room for it, and a capture has no more entries than are counted in 32 bits.
use Rattle.std.proofs.Common.{arith}
use Rattle.octets.proofs.Stretches.{length_sliced}
use Rattle.pspexport.proofs.Answers.{export_told}
use Rattle.pspexport.proofs.run.Goals as goal

pub slice_bounds-output-end : goal.slice_bounds-output-end
slice_bounds-output-end g c =
    let told = export_told _ _ _ _ _ c.in-Ok.ensures in
    omega (arith, told.file_inside, c.export.auto.output)

pub slice_bounds-write_output-end : goal.slice_bounds-write_output-end
slice_bounds-write_output-end g c =
    let told = export_told _ _ _ _ _ c.in-Ok.ensures in
    length_sliced _ _ (omega (arith, told.file_inside, c.export.auto.output))

pub write_counts-written-requires-clause-opens_bound : goal.write_counts-written-requires-clause-opens_bound
write_counts-written-requires-clause-opens_bound g c =
    let told = export_told _ _ _ _ _ c.in-Ok.ensures in
    (omega (arith, told.opens-few), omega (arith, told.closes-few))
