-- `tool::write_line` writes the parts of the line one behind the other.
use Rattle.tool.proofs.Line.{line-written}
use Rattle.tool.proofs.write_line.Goals as goal

pub returns-clause-wrote : goal.returns-clause-wrote
returns-clause-wrote c = line-written c.args.number c.words.ensures.wrote c.column.ensures.wrote c.byte.ensures.wrote
