-- `pcap::import::count` adds one to the count of the cause, and the bytes of what is taken; each way out is one law of `Counting`.
use Rattle.std.proofs.Common.{refl, arith}
use Rattle.pcap.proofs.Counting.{taken, one_more, count-taken, count_foreign, count_misfit, count_fragment, count_other}
use Rattle.pcap.proofs.import.count.Goals as goal

pub overflow_add-result : goal.overflow_add-result
overflow_add-result c =
    omega (arith, (taken c.args.packet.now c.args.tally _ c.in-Ok.ensures refl).0, c.requires.few-packets)

pub overflow_add-result-in-Ok : goal.overflow_add-result-in-Ok
overflow_add-result-in-Ok c =
    omega (arith, (taken c.args.packet.now c.args.tally _ c.in-Ok.ensures refl).1, c.requires.few_bytes)

pub returns-in-Ok : goal.returns-in-Ok
returns-in-Ok c = count-taken c.args.packet.now c.args.tally _ c.in-Ok.ensures refl

pub overflow_add-result-in-Err-NotIpv4 : goal.overflow_add-result-in-Err-NotIpv4
overflow_add-result-in-Err-NotIpv4 c =
    omega (
      arith,
      one_more c.args.packet.now c.args.tally _ (rw c.in-Err-NotIpv4.field-0-is at c.in-Err-NotIpv4.ensures) 1 refl,
      c.requires.few_foreign,
    )

pub returns-in-Err-NotIpv4 : goal.returns-in-Err-NotIpv4
returns-in-Err-NotIpv4 c = count_foreign c.args.packet.now c.args.tally _ (rw c.in-Err-NotIpv4.field-0-is at c.in-Err-NotIpv4.ensures) refl

pub overflow_add-result-in-Err-BadLengths : goal.overflow_add-result-in-Err-BadLengths
overflow_add-result-in-Err-BadLengths c =
    omega (
      arith,
      one_more c.args.packet.now c.args.tally _ (rw c.in-Err-BadLengths.field-0-is at
          c.in-Err-BadLengths.ensures) 2 refl,
      c.requires.few_misfits,
    )

pub returns-in-Err-BadLengths : goal.returns-in-Err-BadLengths
returns-in-Err-BadLengths c = count_misfit c.args.packet.now c.args.tally _ (rw c.in-Err-BadLengths.field-0-is at
    c.in-Err-BadLengths.ensures) refl

pub overflow_add-result-in-Err-Fragment : goal.overflow_add-result-in-Err-Fragment
overflow_add-result-in-Err-Fragment c =
    omega (
      arith,
      one_more c.args.packet.now c.args.tally _ (rw c.in-Err-Fragment.field-0-is at c.in-Err-Fragment.ensures) 3 refl,
      c.requires.few_fragments,
    )

pub returns-in-Err-Fragment : goal.returns-in-Err-Fragment
returns-in-Err-Fragment c = count_fragment c.args.packet.now c.args.tally _ (rw c.in-Err-Fragment.field-0-is at
    c.in-Err-Fragment.ensures) refl

pub overflow_add-result-in-Err-Other : goal.overflow_add-result-in-Err-Other
overflow_add-result-in-Err-Other c =
    omega (
      arith,
      one_more c.args.packet.now c.args.tally _ (rw c.in-Err-Other.field-0-is at c.in-Err-Other.ensures) 4 refl,
      c.requires.few-others,
    )

pub returns-in-Err-Other : goal.returns-in-Err-Other
returns-in-Err-Other c = count_other c.args.packet.now c.args.tally _ (rw c.in-Err-Other.field-0-is at c.in-Err-Other.ensures) refl
