-- `ts::write_header` stores the four bytes of the header, the second with the flag or without.
use Rattle.std.proofs.Common.{◌≡◌, ◌/◌}
use Rattle.ts.specs.Packet.{flagged}
use Rattle.ts.proofs.Fields.{header_stored}
use Rattle.ts.proofs.write_header.Goals as goal
use Rattle.ts.proofs.write_header.Goals.{then-starts, else-starts}

pub returns : goal.returns
returns c =
    let a = c.args in
    let second : c.if-starts.packet ≡ flagged a.starts (a.pid / 256) = elim c.if-starts.branch [
      | then-starts w ↦ rw w.if-starts.true w.packet-is
      | else-starts w ↦ rw w.if-starts.false w.packet-is
    ] in
    header_stored a.packet.now a.starts a.pid a.count c.if-starts.packet c.requires.0 second
