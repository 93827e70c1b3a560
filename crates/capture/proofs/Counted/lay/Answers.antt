-- `capture::Counted::lay` is right since the copy of the body is the body, and goes where the definition says.
use Rattle.std.proofs.Common.{List, ℕ, ◌+◌, ap, ◌∙◌}
use Rattle.octets.specs.Stretch.{put}
use Rattle.octets.proofs.Stretches.{part_all}
use Rattle.capture.specs.Write.{bodies_from}
use Rattle.capture.proofs.Counted.lay.Goals as goal

pub returns-clause-file_after : goal.returns-clause-file_after
returns-clause-file_after c =
    let behind = bodies_from c.args.self.now.count + c.args.self.now.writer.bytes in
    c.copy.ensures
    ∙ ap (put c.write_content.new.contents behind) (part_all c.args.body.now)
    ∙ ap (λ (l : List ℕ). put l behind c.args.body.now) c.write_content.ensures
