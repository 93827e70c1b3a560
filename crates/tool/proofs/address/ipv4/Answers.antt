-- `tool::address::ipv4` is right since it finds the dots as the definition does, and reads what stands between them.
use Rattle.std.proofs.Common.{ℕ, Some, ap, sym, ◌∙◌}
use Rattle.tool.proofs.Addresses.{no_first_dot, no_second_dot, no_third_dot, first_none, second_none, third_none, fourth_none, all_four}
use Rattle.tool.proofs.address.ipv4.Goals as goal

pub returns-in_err-first : goal.returns-in_err-first
returns-in_err-first c =
    c.from_residual.ensures
    ∙ no_first_dot c.args.text.now (sym c.in_err-first.was ∙ c.dot.ensures)

pub returns-in_err-second : goal.returns-in_err-second
returns-in_err-second c =
    c.from_residual-in_err-second.ensures
    ∙ no_second_dot c.args.text.now c.in_ok-first.first (sym c.in_ok-first.was ∙ c.dot.ensures) (sym c.in_err-second.was ∙ c.dot-2.ensures)

pub returns-in_err-third : goal.returns-in_err-third
returns-in_err-third c =
    c.from_residual-in_err-third.ensures
    ∙ no_third_dot c.args.text.now c.in_ok-first.first (sym c.in_ok-first.was ∙ c.dot.ensures)
    c.in_ok-second.second (sym c.in_ok-second.was ∙ c.dot-2.ensures) (sym c.in_err-third.was ∙ c.dot-3.ensures)

pub returns-in_err-a : goal.returns-in_err-a
returns-in_err-a c =
    c.from_residual-in_err-a.ensures
    ∙ first_none c.args.text.now c.in_ok-first.first (sym c.in_ok-first.was ∙ c.dot.ensures)
    c.in_ok-second.second (sym c.in_ok-second.was ∙ c.dot-2.ensures) c.in_ok-third.third (sym c.in_ok-third.was ∙ c.dot-3.ensures)
    (sym c.in_err-a.was ∙ c.octet.ensures)

pub returns-in_err-b : goal.returns-in_err-b
returns-in_err-b c =
    c.from_residual-in_err-b.ensures
    ∙ second_none c.args.text.now c.in_ok-first.first (sym c.in_ok-first.was ∙ c.dot.ensures)
    c.in_ok-second.second (sym c.in_ok-second.was ∙ c.dot-2.ensures) c.in_ok-third.third (sym c.in_ok-third.was ∙ c.dot-3.ensures)
    c.in_ok-a.a (sym c.in_ok-a.was ∙ c.octet.ensures) (sym c.in_err-b.was ∙ c.octet-2.ensures)

pub returns-in_err-c : goal.returns-in_err-c
returns-in_err-c c =
    c.from_residual-in_err-c.ensures
    ∙ third_none c.args.text.now c.in_ok-first.first (sym c.in_ok-first.was ∙ c.dot.ensures)
    c.in_ok-second.second (sym c.in_ok-second.was ∙ c.dot-2.ensures) c.in_ok-third.third (sym c.in_ok-third.was ∙ c.dot-3.ensures)
    c.in_ok-a.a (sym c.in_ok-a.was ∙ c.octet.ensures) c.in_ok-b.b (sym c.in_ok-b.was ∙ c.octet-2.ensures)
    (sym c.in_err-c.was ∙ c.octet-3.ensures)

pub returns-in_err-d : goal.returns-in_err-d
returns-in_err-d c =
    c.from_residual-in_err-d.ensures
    ∙ fourth_none c.args.text.now c.in_ok-first.first (sym c.in_ok-first.was ∙ c.dot.ensures)
    c.in_ok-second.second (sym c.in_ok-second.was ∙ c.dot-2.ensures) c.in_ok-third.third (sym c.in_ok-third.was ∙ c.dot-3.ensures)
    c.in_ok-a.a (sym c.in_ok-a.was ∙ c.octet.ensures) c.in_ok-b.b (sym c.in_ok-b.was ∙ c.octet-2.ensures)
    c.in_ok-c.c (sym c.in_ok-c.was ∙ c.octet-3.ensures) (sym c.in_err-d.was ∙ c.octet-4.ensures)

pub returns : goal.returns
returns c =
    ap (λ (n : ℕ). Some n) c.from_be_bytes.ensures
    ∙ all_four c.args.text.now c.in_ok-first.first (sym c.in_ok-first.was ∙ c.dot.ensures)
    c.in_ok-second.second (sym c.in_ok-second.was ∙ c.dot-2.ensures) c.in_ok-third.third (sym c.in_ok-third.was ∙ c.dot-3.ensures)
    c.in_ok-a.a (sym c.in_ok-a.was ∙ c.octet.ensures) c.in_ok-b.b (sym c.in_ok-b.was ∙ c.octet-2.ensures)
    c.in_ok-c.c (sym c.in_ok-c.was ∙ c.octet-3.ensures) c.in_ok-d.d (sym c.in_ok-d.was ∙ c.octet-4.ensures)
