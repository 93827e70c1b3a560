use Rattle.std.proofs.Common.{arith, sym, ap, ◌∙◌, ◌≡◌, ℕ, ◌+◌}
use Rattle.octets.specs.Count.{sum_to}
use Rattle.octets.proofs.Counts.{sum-none, sum_more}
use Rattle.octets.proofs.Stretches.{length_sliced, at_sliced}
use Rattle.sender.specs.Cut.{frame_length, frame_start}
use Rattle.sender.proofs.Frames.index_of.Goals as goal

pub loop-length-init : goal.loop-length-init
loop-length-init c = record { sum = sym (sum-none (frame_length c.args.self.lengths.now)); small = omega arith }

pub loop-length-preserved : goal.loop-length-preserved
loop-length-preserved c =
    let more = sum_more (frame_length c.args.self.lengths.now) c.loop-length.length-index in
    let short = length_sliced c.args.self.lengths.now c.args.position.frame c.requires.0 in
    let here = at_sliced c.args.self.lengths.now c.args.position.frame c.loop-length.length-index (omega (arith, short)) in
    record { sum = rw (c.loop-length.invariant.sum, c.from-start.ensures, here) (sym more); small = omega arith }

pub returns : goal.returns
unfolding frame_start
returns c =
    let short = length_sliced c.args.self.lengths.now c.args.position.frame c.requires.0 in
    let all : c.loop-length.length-index ≡ c.args.position.frame = omega (arith, short) in
    ap (λ (start : ℕ). start + c.args.position.offset)
    (c.loop-length.invariant.sum ∙ ap (sum_to (frame_length c.args.self.lengths.now)) all)
