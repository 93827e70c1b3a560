-- `tool::number::number` is right since it reads the digits as the definition does, by what stands in front.
use Rattle.std.proofs.Common.{sym, ap, ◌∙◌, ◌+◌, ◌*◌}
use Rattle.octets.proofs.Stretches.{sliced_rest}
use Rattle.tool.specs.Number.{said_by}
use Rattle.tool.proofs.Digits.{said_hexadecimal, said-decimal}
use Rattle.tool.proofs.number.number.Goals as goal

pub returns-then-is_hexadecimal : goal.returns-then-is_hexadecimal
returns-then-is_hexadecimal c =
    let text = c.args.text.now in
    c.digits.ensures ∙ ap (said_by 16 (16 * (268435455 + 1))) (sliced_rest text 2)
    ∙ said_hexadecimal text (sym c.is_hexadecimal.ensures ∙ c.if-is_hexadecimal.true)

pub returns : goal.returns
returns c = c.digits-2.ensures ∙ said-decimal c.args.text.now (sym c.is_hexadecimal.ensures ∙ c.if-is_hexadecimal.false)
