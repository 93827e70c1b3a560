-- `pcap::judge::judge_payload` asks for the protocols that are taken; each way out is one law of `Judging`.
use Rattle.pcap.proofs.Judging.{l2tp_taken, protocol-skipped}
use Rattle.pcap.proofs.judge.judge_payload.Goals as goal

pub returns-then-carried-eq-L2TP_PROTOCOL : goal.returns-then-carried-eq-L2TP_PROTOCOL
returns-then-carried-eq-L2TP_PROTOCOL c = l2tp_taken c.args.packet.now c.requires c.if-carried-eq-L2TP_PROTOCOL.true

pub returns-then-carried-ne-UDP_PROTOCOL : goal.returns-then-carried-ne-UDP_PROTOCOL
returns-then-carried-ne-UDP_PROTOCOL c =
    protocol-skipped c.args.packet.now c.requires c.if-carried-eq-L2TP_PROTOCOL.false c.if-carried-ne-UDP_PROTOCOL.true
