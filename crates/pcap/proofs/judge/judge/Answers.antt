-- `pcap::judge::judge` asks in the order of the causes; each way out is one law of `Judging`.
use Rattle.std.proofs.Common.{◌%◌, ℕ, ap}
use Rattle.pcap.proofs.Judging.{not_ipv4-skipped, bad_lengths-skipped, fragment_skipped}
use Rattle.pcap.proofs.judge.judge.Goals as goal

pub returns-then-not_ipv4 : goal.returns-then-not_ipv4
returns-then-not_ipv4 c = not_ipv4-skipped _ _ c.not_ipv4.ensures c.if-not_ipv4.true

pub returns-then-bad_ipv4_lengths : goal.returns-then-bad_ipv4_lengths
returns-then-bad_ipv4_lengths c =
    bad_lengths-skipped _ _ c.not_ipv4.ensures c.if-not_ipv4.false _ c.bad_ipv4_lengths.ensures c.if-bad_ipv4_lengths.true

pub returns-then-read_u16-ne0 : goal.returns-then-read_u16-ne0
returns-then-read_u16-ne0 c =
    fragment_skipped _ _ c.not_ipv4.ensures c.if-not_ipv4.false _ c.bad_ipv4_lengths.ensures c.if-bad_ipv4_lengths.false _
    (ap (λ (n : ℕ). n % 16384) c.read_u16.ensures) c.if-read_u16-ne0.true
