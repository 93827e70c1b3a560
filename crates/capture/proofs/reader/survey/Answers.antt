-- `capture::reader::survey` is right by its two ways out: an entry is wrong, or none is (`Surveying`).
use Rattle.std.proofs.Common.{sym, ◌∙◌}
use Rattle.capture.proofs.Checking.{survey_begin, survey_turn, wrong_by_parts, survey_wrong}
use Rattle.capture.proofs.reader.survey.Goals as goal

pub loop-k-init : goal.loop-k-init
loop-k-init c = survey_begin c.args.file.now c.args.count c.requires.count_in_bounds.1 c.requires.count_value

pub returns-then-wrong_parts : goal.returns-then-wrong_parts
returns-then-wrong_parts c =
    survey_wrong c.args.file.now c.args.count c.loop-k.k c.loop-k-test.true
    (sym (wrong_by_parts c.args.file.now c.loop-k.k c.kind_at.ensures c.length_at-size.ensures.0 c.wrong_parts.ensures)
    ∙ c.if-wrong_parts.true)

pub loop-k-preserved : goal.loop-k-preserved
loop-k-preserved c =
    survey_turn c.loop-k.invariant c.length_at-size.ensures
    (sym (wrong_by_parts c.args.file.now c.loop-k.k c.kind_at.ensures c.length_at-size.ensures.0 c.wrong_parts.ensures)
    ∙ c.if-wrong_parts.false)
