use Rattle.std.proofs.Common.{◌≡◌, ◌*◌, ◌-◌, sym, ap, ◌∙◌, arith}
use Rattle.octets.specs.Bytes.{be16_at}
use Rattle.octets.proofs.Counts.{sum-none, sum_more}
use Rattle.pcap.specs.Ipv4.{word_sum, folded}
use Rattle.pcap.proofs.headers.checksum.Goals as goal

pub loop-i-init : goal.loop-i-init
loop-i-init c = (sym (sum-none _), omega arith)

pub loop-i-preserved : goal.loop-i-preserved
loop-i-preserved c =
    let more = sum_more (λ k. be16_at c.args.header.now (2 * k)) c.loop-i.i in (
      omega (arith, more, c.loop-i.invariant.0, c.from-sum.ensures, c.read_u16.ensures),
      omega (arith, c.loop-i.invariant.1, c.from-sum.ensures),
    )

pub returns : goal.returns
returns c =
    let all : c.loop-i.i ≡ 10 = omega (arith, c.loop-i-test.false) in
    let sum : c.loop-i.sum ≡ word_sum c.args.header.now 10 = c.loop-i.invariant.0 ∙ ap (word_sum c.args.header.now) all in
    ap (λ n. 65535 - n) (c.fold-2.ensures ∙ ap folded (c.fold.ensures ∙ ap folded sum))
