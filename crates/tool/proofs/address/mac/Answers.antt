-- `tool::address::mac` is right since after each turn the groups so far are good, and the bytes are theirs (`Grouping`).
use Rattle.std.proofs.Common.{sym, ◌∙◌}
use Rattle.tool.proofs.Addresses.{mac_length, grouping_begin, mac_bad, grouping_turn, mac_good}
use Rattle.tool.proofs.address.mac.Goals as goal

pub returns-then-text-ne-MAC_TEXT : goal.returns-then-text-ne-MAC_TEXT
returns-then-text-ne-MAC_TEXT c = mac_length c.args.text.now c.if-text-ne-MAC_TEXT.true

pub loop-k-init : goal.loop-k-init
loop-k-init c = grouping_begin c.args.text.now

pub returns-in_err-bytes : goal.returns-in_err-bytes
returns-in_err-bytes c =
    c.from_residual.ensures ∙ mac_bad c.loop-k.invariant c.loop-k-test.true (sym c.in_err-bytes.was ∙ c.group.ensures)

pub loop-k-preserved : goal.loop-k-preserved
loop-k-preserved c =
    grouping_turn c.loop-k.invariant c.in_ok-bytes.field-0 c.loop-k-test.true (sym c.in_ok-bytes.was ∙ c.group.ensures)

pub returns : goal.returns
returns c = mac_good c.loop-k.invariant c.loop-k-test.false c.if-text-ne-MAC_TEXT.false
