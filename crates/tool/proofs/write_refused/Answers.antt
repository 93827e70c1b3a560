-- `tool::write_refused` writes a line, with its word.
use Rattle.tool.specs.Refused.{refused_line}
use Rattle.tool.proofs.write_refused.Goals as goal

pub returns-clause-wrote : goal.returns-clause-wrote
unfolding refused_line
returns-clause-wrote c = c.write_line.ensures.wrote
