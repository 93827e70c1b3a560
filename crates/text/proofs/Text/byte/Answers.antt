use Rattle.std.proofs.Common.{arith}
use Rattle.text.proofs.Writing.{wrote_byte}
use Rattle.text.proofs.Text.byte.Goals as goal

pub returns-clause-wrote : goal.returns-clause-wrote
returns-clause-wrote c = wrote_byte c.args.self.now.room.now c.args.self.now.length c.args.byte (omega arith)
