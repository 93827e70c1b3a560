-- `pspmpeg::gather::Gathered::append`: after i turns the first i lengths stand behind those before (`Appending`).
use Rattle.std.proofs.Common.{◌≡◌}
use Rattle.pspmpeg.specs.Inside.{SameSlices}
use Rattle.pspmpeg.proofs.Cutting.{Appending}
use Rattle.pspmpeg.proofs.gather.Gathered.append.Given as goal

abbrev pub invariant-loop-i : goal.invariant-loop-i
invariant-loop-i l =
    record {
      same_slices : SameSlices l.fn.self l.self;
      bytes_same : l.self.bytes.now ≡ l.fn.self.bytes.now;
      counts_same : (l.self.count ≡ l.fn.self.count) × (l.self.total ≡ l.fn.self.total);
      appending : Appending l.lent.lengths.now l.fn.self.sizes.now l.self.sizes.now l.count l.more l.sum l.i;
    }
