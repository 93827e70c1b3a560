-- `text::Text::hex`: a turn writes the two digits of its byte.
use Rattle.std.proofs.Common.{arith}
use Rattle.text.proofs.Writing.{wrote_then, hexing_begin, hexing_turn, hexing_end}
use Rattle.text.proofs.Text.hex.Goals as goal

pub loop-byte-init : goal.loop-byte-init
loop-byte-init c = record { same_room = search; hexing = hexing_begin _ _ _ (omega arith) }

pub loop-byte-preserved : goal.loop-byte-preserved
loop-byte-preserved c =
    record {
      same_room = search;
      hexing =
          hexing_turn c.loop-byte.invariant.hexing _ _ c.loop-byte-test.true c.hex_digit.ensures c.hex_digit-in-loop-byte.ensures
          (wrote_then c.byte.ensures.wrote c.byte-in-loop-byte.ensures.wrote);
    }

pub returns-clause-wrote : goal.returns-clause-wrote
returns-clause-wrote c = hexing_end c.loop-byte.invariant.hexing (omega arith)
