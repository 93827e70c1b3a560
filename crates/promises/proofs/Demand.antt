-- Demand 3, over any history: what comes out of the flow is what it makes of its packets by itself, and that is the frames that arrived
-- whole.
use mathlib.Core.Path.{sym, subst, ◌∙◌}
use Rattle.promises.specs.Arrivals.{Kept}
use Rattle.promises.specs.Demand.{kind_on, opened_card, WholeIn, Demand3, FewerLost}
use Rattle.promises.proofs.Readings.{frames_read, frames_read_lem}
use Rattle.promises.proofs.Runs.{all_counted, run-read}
use Rattle.promises.proofs.OneFlow.{flow_demand}
use Rattle.promises.proofs.Fewer.{fewer_by_demand}

pub demand_3 : Demand3
demand_3 s r =
    subst (Kept (WholeIn s r) 0 s.frames)
    (sym (frames_read_lem (kind_on s.line) s.line.session s.line.flow (opened_card s r) r.calls
    ∙ run-read (kind_on s.line) s.line s.packets r s.keeps_rules.passing frames_read))
    (flow_demand s.line s.frames s.unfinished s.packets r.arrivals s.keeps_rules
    (all_counted (kind_on s.line) s.line s.packets r) r.in_window)

-- .. and what follows from it where packets are only lost
pub fewer_lost : FewerLost
fewer_lost = fewer_by_demand demand_3
