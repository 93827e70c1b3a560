-- `text::Text::decimal`: the last digit that is left is the first of the number.
use Rattle.std.proofs.Common.{arith, rules}
use Rattle.text.proofs.Writing.{spelling_begin, place_behind, spelling_turn, spelling_end}
use Rattle.text.proofs.Text.decimal.Goals as goal

pub loop-rest-init : goal.loop-rest-init
loop-rest-init c =
    record {
      same_room = search;
      same_length = search;
      spelling = spelling_begin _ _ _ _ c.digit_count.ensures.0 (omega arith);
    }

pub overflow_sub-place : goal.overflow_sub-place
overflow_sub-place c = omega (arith, place_behind c.loop-rest.invariant.spelling)

pub loop-rest-preserved : goal.loop-rest-preserved
loop-rest-preserved c =
    record {
      same_room = search rules;
      same_length = search;
      spelling =
          spelling_turn c.loop-rest.invariant.spelling _ c.loop-rest-test.true c.digit_byte.ensures _
          (omega (arith, place_behind c.loop-rest.invariant.spelling));
    }

pub returns-clause-wrote : goal.returns-clause-wrote
returns-clause-wrote c =
    rw c.loop-rest.invariant.same_length
    (spelling_end c.loop-rest.invariant.spelling _ c.loop-rest-test.false c.digit_byte-2.ensures _ c.digit_count.ensures.0)
