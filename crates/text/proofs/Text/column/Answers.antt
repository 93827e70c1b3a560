use Rattle.text.proofs.Writing.{wrote-column}
use Rattle.text.proofs.Text.column.Goals as goal

pub returns-clause-wrote : goal.returns-clause-wrote
returns-clause-wrote c = wrote-column c.args.number c.byte.ensures.wrote c.decimal.ensures.wrote
