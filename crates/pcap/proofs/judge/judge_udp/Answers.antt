-- `pcap::judge::judge_udp` asks in the order of the causes; each way out is one law of `Judging`.
use Rattle.std.proofs.Common.{◌+◌, ℕ, ap, ◌∙◌}
use Rattle.octets.specs.Bytes.{be16_at}
use Rattle.pcap.proofs.Judging.{udp-lengths-skipped, port_skipped, udp-taken}
use Rattle.pcap.proofs.judge.judge_udp.Goals as goal

pub returns-then-bad_udp_lengths : goal.returns-then-bad_udp_lengths
returns-then-bad_udp_lengths c =
    udp-lengths-skipped c.args.packet.now c.requires.0 c.requires.1 _ c.bad_udp_lengths.ensures c.if-bad_udp_lengths.true

pub returns-then-read_u16-ne-L2TP_PORT : goal.returns-then-read_u16-ne-L2TP_PORT
returns-then-read_u16-ne-L2TP_PORT c =
    let port = c.read_u16.ensures ∙ ap (λ (x : ℕ). be16_at c.args.packet.now (x + 2)) c.requires.0.its_place in
    port_skipped c.args.packet.now c.requires.0 c.requires.1 _ c.bad_udp_lengths.ensures c.if-bad_udp_lengths.false _ port
    c.if-read_u16-ne-L2TP_PORT.true

pub returns : goal.returns
returns c =
    let port = c.read_u16.ensures ∙ ap (λ (x : ℕ). be16_at c.args.packet.now (x + 2)) c.requires.0.its_place in
    let said = c.from-said.ensures ∙ c.read_u16-2.ensures ∙ ap (λ (x : ℕ). be16_at c.args.packet.now (x + 4)) c.requires.0.its_place in
    udp-taken c.args.packet.now c.requires.0 c.requires.1 _ c.bad_udp_lengths.ensures c.if-bad_udp_lengths.false _ port _
    c.if-read_u16-ne-L2TP_PORT.false said
