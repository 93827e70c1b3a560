-- `replay::Walk::begin` stands behind the contents, where the first body starts.
use Rattle.std.proofs.Common.{refl}
use Rattle.replay.proofs.Walking.{first_body, head_inside}
use Rattle.replay.proofs.Walk.begin.Goals as goal

pub entry_count-requires : goal.entry_count-requires
entry_count-requires c = head_inside _ c.requires

pub returns : goal.returns
returns c = record { at_first = refl; first-start = first_body _ _ c.entry_count.ensures; empty-table = c.empty.ensures }
