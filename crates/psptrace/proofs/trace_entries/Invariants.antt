-- `psptrace::trace_entries`: after k turns the run stands before entry k.
use Rattle.std.proofs.Common.{◌≡◌}
use Rattle.replay.specs.Inside.{Stands}
use Rattle.psptrace.proofs.trace_entries.Given as goal

abbrev pub invariant-loop : goal.invariant-loop
invariant-loop g l = (l.walk.index ≡ l.counter) × Stands l.file l.walk l.lent
