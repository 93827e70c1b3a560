-- `capture::reader::body_at` is right since the bodies of a sound file fill it exactly (`body-inside`).
use Rattle.std.proofs.Common.{arith, refl, ◌∙◌}
use Rattle.octets.proofs.Stretches.{sliced_part}
use Rattle.capture.proofs.Checking.{entry_inside, body-inside, body_is}
use Rattle.capture.proofs.reader.body_at.Goals as goal

pub length_at-requires : goal.length_at-requires
length_at-requires c = entry_inside c.requires

pub overflow_add-end : goal.overflow_add-end
overflow_add-end c = omega (arith, body-inside c.requires c.length_at.ensures.0)

pub slice_bounds-result-end : goal.slice_bounds-result-end
slice_bounds-result-end c = body-inside c.requires c.length_at.ensures.0

pub returns : goal.returns
returns c =
    record {
      in_the_file = refl;
      at_its_place = omega (arith, c.requires.its_start);
      its_bytes = sliced_part _ _ _ _ (omega arith) ∙ body_is c.requires c.length_at.ensures.0;
    }
