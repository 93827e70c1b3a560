-- Each turn of `text::digit_count` takes off one digit (`Counting`).
use Rattle.text.proofs.Writing.{Counting}
use Rattle.text.proofs.digit_count.Given as goal

abbrev pub invariant-loop-left : goal.invariant-loop-left
invariant-loop-left l = Counting l.fn.number l.count l.left

abbrev pub decreases-loop-left : goal.decreases-loop-left
decreases-loop-left l = l.left
