-- `mpeg::writer::bad_frame` is right since a frame that may be written is as long as one can be (`unsized`), and of such a one its two last
-- tests say what the definition says (`judged`).
use Rattle.std.proofs.Common.{◌∙◌}
use Rattle.mpeg.proofs.Surveying.{unsized, judged}
use Rattle.mpeg.proofs.writer.bad_frame.Goals as goal

pub returns-then-size-frames : goal.returns-then-size-frames
returns-then-size-frames c = let a = c.args in unsized a.frames.now a.start a.size c.requires.0 c.if-size-frames.true

pub returns : goal.returns
returns c =
    let a = c.args in
    judged a.frames.now a.start a.size c.requires.0 c.if-size-frames.false c.from-said.result (c.from-said.ensures ∙ c.read_u16.ensures)
