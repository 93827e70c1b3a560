-- `tool::number::digits` is right since after each turn the digits say what is read so far with those that are left (`Reading`).
use Rattle.tool.proofs.Digits.{Reading}
use Rattle.tool.proofs.number.digits.Given as goal

abbrev pub invariant-loop-byte : goal.invariant-loop-byte
invariant-loop-byte l = Reading l.base l.greatest l.text l.value l.byte-index
