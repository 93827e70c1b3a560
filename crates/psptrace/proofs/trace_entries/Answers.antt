-- `psptrace::trace_entries` begins where a run begins.
use Rattle.replay.proofs.Walking.{stands-first, head_inside}
use Rattle.psptrace.proofs.trace_entries.Goals as goal

pub entry_count-end-requires : goal.entry_count-end-requires
entry_count-end-requires g c = head_inside _ c.requires.0.sound

pub loop-init : goal.loop-init
loop-init g c = (c.begin-walk.ensures.at_first, stands-first c.requires.0 c.begin-walk.ensures)
