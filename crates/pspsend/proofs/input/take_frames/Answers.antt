-- `pspsend::input::take_frames` is right by its two ways out: the file is spoilt, which the check finds by itself, or its frames were read.
use Rattle.pspsend.proofs.Taking.{take_whole}
use Rattle.pspsend.proofs.input.take_frames.Goals as goal

pub returns : goal.returns
returns c =
    take_whole _ _ _ _ _ c.unpack-unpacked.result c.requires.0 c.requires.1 c.unpack-unpacked.ensures c.if-unpacked.false
