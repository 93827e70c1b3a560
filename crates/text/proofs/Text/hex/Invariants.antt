-- After i turns of `text::Text::hex` the first i bytes are written (`Hexing`).
use Rattle.text.specs.Text.{SameRoom}
use Rattle.text.proofs.Writing.{Hexing}
use Rattle.text.proofs.Text.hex.Given as goal

abbrev pub invariant-loop-byte : goal.invariant-loop-byte
invariant-loop-byte l =
    record {
      same_room : SameRoom l.fn.self l.self;
      hexing : Hexing l.fn.self.room.now l.fn.self.length l.bytes l.self.room.now l.self.length l.byte-index;
    }
