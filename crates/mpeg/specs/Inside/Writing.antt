-- Inside: what functions promise each other on the way to a result. Nobody has to believe this file: the result is said without it.
-- Here: the parts that specs/Write.antt is made of, as the writer finds them one by one.
use Rattle.std.specs.Prelude.{ℕ, ◌-◌, ◌≤◌, ◌<◌, ◌≡◌, Bool, true, false, not, ◌||◌, Result, Ok, Err, List, ltb, length}
use Rattle.refusal.specs.declared.Refusal.{Refusal}
use Rattle.refusal.specs.Number.{number_of}
use Rattle.octets.specs.Stretch.{part}
use Rattle.ts.specs.Packet.{mpeg_length}
use Rattle.mpeg.specs.declared.writer.Sent.{Sent}
use Rattle.mpeg.specs.declared.writer.Written.{Written}
use Rattle.mpeg.specs.Packet.{pointed_length, filled_to}
use Rattle.mpeg.specs.Frame.{good}
use Rattle.mpeg.specs.Write.{Asked, bad_frames, left_at, PermitsWrite}

-- the first n of these bytes are no frame that may be written, or are not there
unfoldable pub bad_first : List ℕ → ℕ → Bool
bad_first bytes n = ltb (length bytes) n || not (good (part bytes 0 n))

-- What a survey of the frames answers: how many bytes are left of the one that has begun, or that they may not be written.
abbrev pub Surveys : List ℕ → List ℕ → ℕ → Result ℕ Refusal → Type 0
Surveys frames lengths place (Ok left) = (bad_frames lengths frames ≡ false) × (left ≡ left_at lengths place)
Surveys frames lengths place (Err refused) = (bad_frames lengths frames ≡ true) × (number_of refused ≡ 52)

-- what stands behind the pointer of a packet, where these bytes wait: as many of them as fit, and then 0xFF to the end
abbrev pub behind_pointer : List ℕ → List ℕ
behind_pointer waiting = filled_to pointed_length (part waiting 0 pointed_length)

-- What a packet with frames is written from: bytes wait, those that end the frame that has begun are among them, and there is room for a
-- packet.
pub record Waiting (bytes : List ℕ) (place left : ℕ) (output : List ℕ) : Type 0 where
  pub something : place < length bytes
  pub all_there : left ≤ length bytes - place
  pub room : mpeg_length ≤ length output

-- What a call answers by what it has written or refused, and that it is what the definition says.
abbrev pub answered : Asked → Result Sent Refusal → Written
answered a (Ok sent) = record { code = 0; place = sent.place; count = sent.count; null = sent.null }
answered a (Err refused) = record { code = number_of refused; place = a.place; count = a.count; null = false }

abbrev pub Writes : Asked → Result Sent Refusal → List ℕ → Type 0
Writes a result output = PermitsWrite a (record { answer = answered a result; output = output })
