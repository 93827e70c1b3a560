-- `pspmpeg::gather::Gathered::append` is right since after i turns the first i lengths stand behind those before (`Appending`).
use Rattle.std.proofs.Common.{ℕ, ◌+◌, List, arith, sym, refl, ap, ◌∙◌}
use Rattle.std.proofs.Math.ListN.{set}
use Rattle.octets.specs.Bytes.{byte_at}
use Rattle.octets.specs.Stretch.{part, put}
use Rattle.octets.proofs.Counts.{sum-within}
use Rattle.pspmpeg.proofs.Cutting.{append-begin, append_turn, all_appended, append_adds}
use Rattle.pspmpeg.proofs.gather.Gathered.append.Goals as goal

pub loop-i-init : goal.loop-i-init
loop-i-init c =
    record {
      same_slices = (refl, refl);
      bytes_same = refl;
      counts_same = (refl, refl);
      appending = append-begin _ _ _ _;
    }

pub overflow_add-sum : goal.overflow_add-sum
overflow_add-sum c =
    let i = c.loop-i.invariant.appending in
    let within = sum-within (byte_at c.args.lent.now.lengths.now) c.loop-i.i c.args.more c.loop-i-test.true in
    omega (arith, i.sum_is, c.from-sum.ensures, within, c.requires.bytes_fit, c.fits-self)

pub loop-i-preserved : goal.loop-i-preserved
loop-i-preserved c =
    let i = c.loop-i.invariant in
    record {
      same_slices = i.same_slices;
      bytes_same = i.bytes_same;
      counts_same = i.counts_same;
      appending =
          append_turn i.appending c.requires.lengths-there c.requires.sizes_fit c.loop-i-test.true c.from-sum.result
          c.from-sum.ensures (ap (λ (n : ℕ). set c.loop-i.self.sizes.now (c.args.self.now.count + c.loop-i.i) n) (sym c.from-sum.ensures));
    }

pub copy-requires : goal.copy-requires
copy-requires c =
    let i = c.loop-i.invariant in
    let all = all_appended i.appending c.requires.lengths-there c.requires.sizes_fit c.loop-i-test.false in
    (rw i.bytes_same (omega (arith, i.counts_same.1, all.1, c.requires.bytes_fit)), omega (arith, all.1, c.requires.bytes-there))

pub overflow_add-self-2 : goal.overflow_add-self-2
overflow_add-self-2 c =
    let i = c.loop-i.invariant in omega (arith, i.counts_same.0, c.requires.sizes_fit, c.fits-self)

pub overflow_add-self-3 : goal.overflow_add-self-3
overflow_add-self-3 c =
    let i = c.loop-i.invariant in
    let all = all_appended i.appending c.requires.lengths-there c.requires.sizes_fit c.loop-i-test.false in
    omega (arith, i.counts_same.1, all.1, c.requires.bytes_fit, c.fits-self)

pub returns-clause-adds : goal.returns-clause-adds
returns-clause-adds c =
    let i = c.loop-i.invariant in
    let more = part c.args.lent.now.output.now 0 c.loop-i.sum in
    append_adds c.requires
    (c.copy.ensures ∙ ap (λ (l : List ℕ). put l c.loop-i.self.total more) i.bytes_same
    ∙ ap (λ (n : ℕ). put c.args.self.now.bytes.now n more) i.counts_same.1)
    (all_appended i.appending c.requires.lengths-there c.requires.sizes_fit c.loop-i-test.false)
    (ap (λ (n : ℕ). n + c.args.more) i.counts_same.0) (ap (λ (n : ℕ). n + c.loop-i.sum) i.counts_same.1)
