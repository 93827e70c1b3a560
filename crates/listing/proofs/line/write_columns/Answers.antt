-- `listing::line::write_columns` writes the columns one behind the other.
use Rattle.listing.proofs.Lines.{columns-written}
use Rattle.listing.proofs.line.write_columns.Goals as goal

pub returns-clause-wrote : goal.returns-clause-wrote
returns-clause-wrote c =
    columns-written _ c.column.ensures.wrote c.column-2.ensures.wrote c.column-3.ensures.wrote c.column-4.ensures.wrote
    c.column-5.ensures.wrote
