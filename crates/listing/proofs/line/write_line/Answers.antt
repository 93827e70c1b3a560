-- `listing::line::write_line` writes the parts of the line one behind the other.
use Rattle.listing.proofs.Lines.{line-written}
use Rattle.listing.proofs.line.write_line.Goals as goal

pub returns-clause-wrote : goal.returns-clause-wrote
returns-clause-wrote c =
    line-written c.args.index c.args.kind _ c.decimal.ensures.wrote c.byte.ensures.wrote c.write_kind.ensures.wrote
    c.write_columns.ensures.wrote c.byte-2.ensures.wrote
