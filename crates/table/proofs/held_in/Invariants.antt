use Rattle.std.proofs.Common.{◌≡◌, ◌≤◌, ◌*◌}
use Rattle.octets.specs.Count.{sum_to}
use Rattle.table.specs.Rows.{flow_at}
use Rattle.table.proofs.held_in.Given as goal

abbrev pub invariant-loop-flow : goal.invariant-loop-flow
invariant-loop-flow l = record {
  total : l.held ≡ sum_to (λ k. (flow_at l.row k).held) l.flow-index;
  within : l.held ≤ 65535 * l.flow-index;
}
