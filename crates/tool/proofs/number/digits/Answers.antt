-- `tool::number::digits` is right since after each turn the digits say what is read so far with those that are left (`Reading`).
use Rattle.std.proofs.Common.{rules, sym, ◌∙◌}
use Rattle.tool.proofs.Digits.{read-begin, read_turn, read_nothing, read_wrong, read_none, read_end}
use Rattle.tool.proofs.number.digits.Goals as goal

pub returns-then-is_empty : goal.returns-then-is_empty
returns-then-is_empty c =
    read_none c.args.base c.args.greatest c.args.text.now c.requires.0 (search (rules, c.is_empty.ensures, c.if-is_empty.true))

pub loop-byte-init : goal.loop-byte-init
loop-byte-init c = read-begin c.args.base c.args.greatest c.args.text.now c.requires.0

pub returns-in_err-digit : goal.returns-in_err-digit
returns-in_err-digit c =
    c.from_residual.ensures
    ∙ read_nothing c.args.base c.args.greatest c.args.text.now c.requires.0 c.loop-byte.invariant c.loop-byte-test.true c.requires.1
    (sym (c.in_err-digit.was) ∙ c.digit_value.ensures)

pub returns-then-base-digit : goal.returns-then-base-digit
returns-then-base-digit c =
    read_wrong c.args.base c.args.greatest c.args.text.now c.requires.0 c.loop-byte.invariant c.loop-byte-test.true c.in_ok-digit.digit
    (sym (c.in_ok-digit.was) ∙ c.digit_value.ensures) c.if-base-digit.true

pub loop-byte-preserved : goal.loop-byte-preserved
loop-byte-preserved c =
    read_turn c.args.base c.args.greatest c.args.text.now c.requires.0 c.loop-byte.invariant c.loop-byte-test.true c.in_ok-digit.digit
    (sym (c.in_ok-digit.was) ∙ c.digit_value.ensures) c.if-base-digit.false

pub returns : goal.returns
returns c =
    read_end c.args.base c.args.greatest c.args.text.now c.requires.0 c.loop-byte.invariant c.loop-byte-test.false
    (search (rules, c.is_empty.ensures, c.if-is_empty.false))
