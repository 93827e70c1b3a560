use Rattle.std.proofs.Common.{sym, ℕ, arith}
use Rattle.octets.proofs.Counts.{sum-none, sum_more}
use Rattle.table.specs.Rows.{flow_at}
use Rattle.table.proofs.held_in.Goals as goal

pub loop-flow-init : goal.loop-flow-init
loop-flow-init c = record { total = sym (sum-none (λ k. (flow_at c.args.row.now k).held)); within = omega arith }

pub loop-flow-preserved : goal.loop-flow-preserved
loop-flow-preserved c =
    let held : ℕ → ℕ = λ k. (flow_at c.args.row.now k).held in
    record {
      total = rw (c.loop-flow.invariant.total, c.from-held.ensures) (sym (sum_more held c.loop-flow.flow-index));
      within = omega arith;
    }
