-- `pspexport::counts::write_counts` writes the lines one behind the other.
use Rattle.std.proofs.Common.{rules}
use Rattle.text.proofs.Writing.{wrote_then, wrote_whole}
use Rattle.pspexport.specs.Counts.{counts_of}
use Rattle.pspexport.proofs.counts.write_counts.Goals as goal

pub returns : goal.returns
unfolding counts_of
returns c =
    let begun = c.new-text.ensures in
    wrote_whole c.new-text.result c.write_line-2.new.text (wrote_then c.write_line.ensures.wrote c.write_line-2.ensures.wrote)
    begun.its_bytes begun.empty (search rules)
