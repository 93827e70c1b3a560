-- `text::Text::words` is right since the borrowed stretch of the room has become the words.
use Rattle.std.proofs.Common.{◌+◌, length, refl, arith}
use Rattle.octets.proofs.Stretches.{put_sliced}
use Rattle.text.proofs.Text.words.Goals as goal

pub returns-clause-wrote : goal.returns-clause-wrote
returns-clause-wrote c =
    let a = c.args in
    let text = a.self.now in
    record {
      there =
          put_sliced text.room.now a.words.now text.length (text.length + length a.words.now) (omega arith)
          c.copy_from_slice.ensures.after (omega arith);
      next_place = refl;
      inside = c.requires;
    }
