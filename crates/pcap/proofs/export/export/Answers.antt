-- `pcap::export::export` asks in the order of document 02, W5; each way out is one law of `Exporting`.
use Rattle.std.proofs.Common.{sym, arith, rules}
use Rattle.refusal.proofs.Numbers.{number_some}
use Rattle.pcap.proofs.Answering.{handed_on}
use Rattle.pcap.proofs.Exporting.{capture_refused, counted_long, output-short, export_done}
use Rattle.pcap.proofs.export.export.Goals as goal

pub returns-in_err-check : goal.returns-in_err-check
returns-in_err-check c =
    rw (handed_on _ c.from_residual.ensures.1)
    (capture_refused c.args.addresses c.args.file.now c.args.output.now _ c.in_err-check.ensures (number_some _))

pub returns-then-output-measured : goal.returns-then-output-measured
returns-then-output-measured c =
    output-short c.args.addresses c.args.file.now c.args.output.now (sym c.in_ok-check.ensures) c.measure-measured.result (search rules)
    (search rules) c.measure-measured.ensures c.if-output-measured.true

pub write_file-requires : goal.write_file-requires
write_file-requires c =
    let long =
    counted_long c.args.addresses c.args.file.now c.args.output.now (sym c.in_ok-check.ensures) c.measure-measured.result (search rules)
    (search rules) c.measure-measured.ensures in
    (sym c.in_ok-check.ensures, omega (arith, long, c.if-output-measured.false))

pub returns : goal.returns
returns c =
    export_done c.args.addresses c.args.file.now c.args.output.now (sym c.in_ok-check.ensures) c.measure-measured.result (search rules)
    (search rules) c.measure-measured.ensures c.if-output-measured.false c.write_file.ensures
