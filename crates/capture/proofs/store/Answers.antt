-- `capture::store` is right since the copy of the body is the body.
use Rattle.std.proofs.Common.{ap, ◌∙◌}
use Rattle.octets.specs.Stretch.{put}
use Rattle.octets.proofs.Stretches.{part_all}
use Rattle.capture.proofs.store.Goals as goal

pub returns-clause-bodies_after : goal.returns-clause-bodies_after
returns-clause-bodies_after c = c.copy.ensures ∙ ap (put c.args.bodies.now c.args.writer.bytes) (part_all c.args.body.now)
