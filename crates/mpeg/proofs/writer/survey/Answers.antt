-- `mpeg::writer::survey`: a turn passes one frame, or finds that it may not be written (proofs/Surveying.antt).
use Rattle.std.proofs.Common.{refl, sym, ap, ◌∙◌, arith, not}
use borrow.Author.Tests.{eq-eqb, ne_eqb}
use Rattle.mpeg.proofs.Surveying.{survey_begin, survey_stop, survey_begun, survey_kept, left_over, survey_left}
use Rattle.mpeg.proofs.writer.survey.Goals as goal
use Rattle.mpeg.proofs.writer.survey.Goals.{then-start-place, else-start-place, else-loop-length-test, then-loop-length-test+then-bad_frame}

pub loop-length-init : goal.loop-length-init
loop-length-init c = (survey_begin c.args.frames.now c.args.lengths.now c.args.place, refl)

pub loop-length-preserved : goal.loop-length-preserved
loop-length-preserved c =
    let s = c.loop-length.invariant.0 in
    let sound = sym c.if-bad_frame.false ∙ c.bad_frame.ensures in (
      elim c.if-start-place.branch [
        | then-start-place w ↦
            survey_begun s c.from-size.result c.loop-length-test.true c.from-size.ensures sound c.if-start-place.begun
            (omega arith) (omega arith)
        | else-start-place w ↦
            survey_kept s c.from-size.result c.loop-length-test.true c.from-size.ensures sound c.if-start-place.begun
            (omega arith) (omega arith)
      ],
      omega (arith, c.loop-length.invariant.1),
    )

-- it stopped at a frame
pub returns-then-passed-lengths : goal.returns-then-passed-lengths
returns-then-passed-lengths c =
    let s = c.loop-length.invariant in (
      elim c.loop-length-test.branch [
        | else-loop-length-test w ↦ absurd (omega (arith, w.loop-length-test, s.1, c.if-passed-lengths.true))
        | then-loop-length-test+then-bad_frame w ↦
            sym
            (survey_stop s.0 w.from-size.result w.loop-length-test.true w.from-size.ensures
            (sym w.if-bad_frame.true ∙ w.bad_frame.ensures))
      ],
      refl,
    )

-- it went through all
pub returns-then-start-frames : goal.returns-then-start-frames
returns-then-start-frames c =
    let s = c.loop-length.invariant in
    (sym (left_over s.0 (omega (arith, s.1, c.if-passed-lengths.false))) ∙ ap not (ne_eqb _ _ c.if-start-frames.true), refl)

pub returns : goal.returns
returns c =
    let s = c.loop-length.invariant in (
      sym (left_over s.0 (omega (arith, s.1, c.if-passed-lengths.false))) ∙ ap not (eq-eqb _ _ c.if-start-frames.false),
      c.saturating_sub.ensures ∙ survey_left s.0 (omega (arith, s.1, c.if-passed-lengths.false)),
    )
