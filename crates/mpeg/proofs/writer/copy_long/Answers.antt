-- `mpeg::writer::copy_long` is right since three stretches that follow each other are one (`copied_long`).
use Rattle.mpeg.proofs.Packets.{copied_long}
use Rattle.mpeg.proofs.writer.copy_long.Goals as goal

pub returns : goal.returns
returns c =
    let a = c.args in
    copied_long a.target.now a.source.now a.at a.from a.count c.requires.0 c.requires.1 c.requires.2 _ _ _
    c.copy.ensures c.copy-2.ensures c.copy-3.ensures
