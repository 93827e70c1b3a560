-- `pspimport::sessions::take_sessions` takes no more than there is room for.
use Rattle.std.proofs.Common.{◌≤◌, length}
use Rattle.pspimport.proofs.sessions.take_sessions.Given as goal

abbrev pub invariant-loop-i : goal.invariant-loop-i
invariant-loop-i g l = l.taken ≤ length l.sessions
