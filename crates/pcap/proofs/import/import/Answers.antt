-- `pcap::import::import` refuses by what the first walk finds, and writes where nothing is refused.
use Rattle.std.proofs.Common.{refl, sym}
use Rattle.refusal.proofs.Numbers.{number_some}
use Rattle.pcap.proofs.Answering.{handed_on}
use Rattle.pcap.proofs.Importing.{import_stopped, import_refused, all_counted, all_fit, import_done}
use Rattle.pcap.proofs.import.import.Goals as goal

pub returns-in_err-tally : goal.returns-in_err-tally
returns-in_err-tally c =
    rw (handed_on _ c.from_residual.ensures.1) (import_stopped c.args.sessions.now c.args.file.now c.args.output.now _
    c.in_err-tally.ensures)

pub returns-in_err-refuse : goal.returns-in_err-refuse
returns-in_err-refuse c =
    rw (handed_on _ c.from_residual-in_err-refuse.ensures.1)
    (import_refused c.args.sessions.now c.args.file.now c.args.output.now _ (sym c.in_ok-tally.ensures) _
    c.in_err-refuse.ensures (number_some _))

pub write-requires-clause-room_for : goal.write-requires-clause-room_for
write-requires-clause-room_for c =
    all_fit c.args.sessions.now c.args.file.now c.args.output.now _ (sym c.in_ok-tally.ensures) _ c.in_ok-refuse.ensures refl

pub write-requires-clause-count_value : goal.write-requires-clause-count_value
write-requires-clause-count_value c =
    all_counted c.args.sessions.now c.args.file.now c.args.output.now _ (sym c.in_ok-tally.ensures) _ c.in_ok-refuse.ensures refl

pub returns : goal.returns
returns c =
    import_done c.args.sessions.now c.args.file.now c.args.output.now _ (sym c.in_ok-tally.ensures) _ c.in_ok-refuse.ensures refl _ _
    c.write.ensures c.capture_length.ensures
