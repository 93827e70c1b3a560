use Rattle.sender.proofs.Writing.{header-written}
use Rattle.sender.proofs.write_header.Goals as goal

pub returns : goal.returns
returns c =
    let a = c.args in
    header-written a.output.now a.session a.flow a.count a.number c.requires.0 _ c.write_u32.ensures _ c.write_u16.ensures
