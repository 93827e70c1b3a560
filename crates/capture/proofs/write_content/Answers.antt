-- `capture::write_content` is right since its stores are one put (`entry_put`).
use Rattle.capture.proofs.Writing.{entry_put}
use Rattle.capture.proofs.write_content.Goals as goal

pub returns : goal.returns
returns c = entry_put _ _ _ _ c.requires.0 _ c.write_u16.ensures
