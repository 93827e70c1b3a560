-- Behind the place of `text::Text::decimal` stand the digits that are done (`Spelling`).
use Rattle.std.proofs.Common.{◌≡◌}
use Rattle.text.specs.Text.{SameRoom}
use Rattle.text.proofs.Writing.{Spelling}
use Rattle.text.proofs.Text.decimal.Given as goal

abbrev pub invariant-loop-rest : goal.invariant-loop-rest
invariant-loop-rest l =
    record {
      same_room : SameRoom l.fn.self l.self;
      same_length : l.self.length ≡ l.fn.self.length;
      spelling : Spelling l.fn.self.room.now l.fn.self.length l.number l.self.room.now l.place l.rest;
    }

abbrev pub decreases-loop-rest : goal.decreases-loop-rest
decreases-loop-rest l = l.rest
