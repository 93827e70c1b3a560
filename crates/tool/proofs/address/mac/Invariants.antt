-- `tool::address::mac` is right since after each turn the groups so far are good, and the bytes are theirs (`Grouping`).
use Rattle.tool.proofs.Addresses.{Grouping}
use Rattle.tool.proofs.address.mac.Given as goal

abbrev pub invariant-loop-k : goal.invariant-loop-k
invariant-loop-k l = Grouping l.text l.bytes l.k
