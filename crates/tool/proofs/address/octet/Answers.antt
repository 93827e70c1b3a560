-- `tool::address::octet` is right since its tests are those of the definition.
use Rattle.std.proofs.Common.{sym, ◌∙◌}
use Rattle.tool.proofs.Addresses.{octet_bad, octet_none, octet_large, octet_good}
use Rattle.tool.proofs.address.octet.Goals as goal

pub returns-then-is_zero_in_front : goal.returns-then-is_zero_in_front
returns-then-is_zero_in_front c = octet_bad c.args.text.now (sym c.is_zero_in_front.ensures ∙ c.if-is_zero_in_front.true)

pub returns-in_err-value : goal.returns-in_err-value
returns-in_err-value c =
    c.from_residual.ensures
    ∙ octet_none c.args.text.now (sym c.is_zero_in_front.ensures ∙ c.if-is_zero_in_front.false) (sym c.in_err-value.was ∙ c.number.ensures)

pub returns-then-value-gt-GREATEST : goal.returns-then-value-gt-GREATEST
returns-then-value-gt-GREATEST c =
    octet_large c.args.text.now (sym c.is_zero_in_front.ensures ∙ c.if-is_zero_in_front.false) c.in_ok-value.value
    (sym c.in_ok-value.was ∙ c.number.ensures) c.if-value-gt-GREATEST.true

pub returns : goal.returns
returns c =
    octet_good c.args.text.now (sym c.is_zero_in_front.ensures ∙ c.if-is_zero_in_front.false) c.in_ok-value.value
    (sym c.in_ok-value.was ∙ c.number.ensures) c.if-value-gt-GREATEST.false
