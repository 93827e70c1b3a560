-- `pspimport::run` is safe since the capture lies in the room for it, and a file of 4 MiB has no more records than are counted in 32 bits.
use Rattle.std.proofs.Common.{arith}
use Rattle.octets.proofs.Stretches.{length_sliced}
use Rattle.pspimport.proofs.Answers.{import_told}
use Rattle.pspimport.proofs.run.Goals as goal

pub slice_bounds-output-end : goal.slice_bounds-output-end
slice_bounds-output-end g c =
    let told = import_told c.args.sessions.now c.args.file.now _ _ _ c.in-Ok.ensures in
    omega (arith, told.capture_inside, c.import.auto.output)

pub slice_bounds-write_output-end : goal.slice_bounds-write_output-end
slice_bounds-write_output-end g c =
    let told = import_told c.args.sessions.now c.args.file.now _ _ _ c.in-Ok.ensures in
    length_sliced _ _ (omega (arith, told.capture_inside, c.import.auto.output))

pub write_counts-written-requires-clause-foreign_bound : goal.write_counts-written-requires-clause-foreign_bound
write_counts-written-requires-clause-foreign_bound g c =
    let told = import_told c.args.sessions.now c.args.file.now _ _ _ c.in-Ok.ensures in
    (omega (arith, told.foreign_few, c.requires), omega (arith, told.misfits_few, c.requires))

pub write_counts-written-requires-clause-fragments_bound : goal.write_counts-written-requires-clause-fragments_bound
write_counts-written-requires-clause-fragments_bound g c =
    let told = import_told c.args.sessions.now c.args.file.now _ _ _ c.in-Ok.ensures in
    (omega (arith, told.fragments_few, c.requires), omega (arith, told.others-few, c.requires))
