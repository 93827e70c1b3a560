-- `trace::trace_entry` is right since its line is that of the entry, and the frames and the rows that it shows are those of the run behind
-- it (`Entries`).
use Rattle.std.proofs.Common.{arith}
use Rattle.replay.proofs.Standing.{table-whole, frames_findable}
use Rattle.trace.proofs.Entries.{entry_traced}
use Rattle.trace.proofs.trace_entry.Goals as goal

pub write_frames-requires : goal.write_frames-requires
write_frames-requires c = (frames_findable c.step-stepped.ensures.steps, omega arith)

pub write_rows-requires-clause-table_value : goal.write_rows-requires-clause-table_value
write_rows-requires-clause-table_value c = table-whole c.step-stepped.ensures.steps.goes_on.stands

pub returns-clause-wrote : goal.returns-clause-wrote
returns-clause-wrote c =
    entry_traced c.step-stepped.ensures.steps c.write_line.ensures.wrote c.write_frames.ensures.wrote c.write_rows.ensures.wrote
