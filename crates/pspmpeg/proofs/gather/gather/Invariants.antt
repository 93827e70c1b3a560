-- `pspmpeg::gather::gather`: before each entry the frames delivered so far are gathered (`Gathering`).
use Rattle.std.proofs.Common.{◌≡◌}
use Rattle.replay.specs.Inside.{StillLent}
use Rattle.pspmpeg.specs.Inside.{SameSlices}
use Rattle.pspmpeg.proofs.Gathering.{Gathering}
use Rattle.pspmpeg.proofs.gather.gather.Given as goal

abbrev pub invariant-loop : goal.invariant-loop
invariant-loop l =
    record {
      at : l.walk.index ≡ l.counter;
      still_lent : StillLent l.fn.lent l.lent;
      same_slices : SameSlices l.initial.gathered l.gathered;
      gathering : Gathering l.session l.file l.initial.gathered.bytes.now l.initial.gathered.sizes.now l.walk l.lent l.gathered;
    }
