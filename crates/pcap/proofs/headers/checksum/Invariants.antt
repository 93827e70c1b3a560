-- `pcap::headers::checksum`: after i turns it has added up the first i words.
use Rattle.std.proofs.Common.{◌≡◌, ◌≤◌, ◌*◌}
use Rattle.pcap.specs.Ipv4.{word_sum}
use Rattle.pcap.proofs.headers.checksum.Given as goal

abbrev pub invariant-loop-i : goal.invariant-loop-i
invariant-loop-i l = (l.sum ≡ word_sum l.header l.i) × (l.sum ≤ 65535 * l.i)
