-- Inside: what functions promise each other on the way to a result. Nobody has to believe this file: the result is said without it.
-- Here: what the reader goes by where it writes. The frames that have come, whole or not, are one stream of bytes, to which each packet
-- adds a stretch of its own; and frames that lie back to back say their lengths one after the other.
use Rattle.std.specs.Prelude.{ℕ, zero, suc, ◌+◌, ◌-◌, ◌/◌, ◌<◌, ◌≤◌, ◌≡◌, true, cond, Result, Ok, Err, List, [], ◌∷◌, ◌++◌, eqb, length}
use Rattle.octets.specs.Bytes.{byte_at}
use Rattle.octets.specs.Stretch.{rest, joined}
use Rattle.flow.specs.Flow.{longest}
use Rattle.ts.specs.Packet.{mpeg_length, head_length}
use Rattle.mpeg.specs.Packet.{frames_pid}
use Rattle.mpeg.specs.Frame.{said_length}
use Rattle.mpeg.specs.declared.reader.ReadBack.{ReadBack}
use Rattle.mpeg.specs.declared.reader.Standing.{Standing}
use Rattle.mpeg.specs.Read.{Reading, reading, AskedRead, PermitsRead}
use Rattle.refusal.specs.declared.Refusal.{Refusal}
use Rattle.refusal.specs.Number.{number_of}

-- all bytes of frames that have come: those of the frames found, and those of one that is not finished
unfoldable pub stream : Reading → List ℕ
stream s = joined s.frames ++ s.begun

-- where they stand in a packet: behind the header, or behind the pointer where the flag is set
unfoldable pub bytes_at : List ℕ → ℕ
bytes_at packet = cond (eqb (byte_at packet 1) (frames_pid / 256)) head_length (head_length + 1)

-- A packet's bytes may be written: it has so many of them, and so has the output.
pub record Writable (packet output : List ℕ) (before behind total : ℕ) : Type 0 where
  pub bytes_inside : bytes_at packet + (behind - before) ≤ mpeg_length
  pub room : total ≤ length output

-- The packets were surveyed: no refusal, and the output takes the frames, which have `total` bytes.
pub record Surveyed (packets output : List ℕ) (total : ℕ) : Type 0 where
  pub all_sound : (reading packets).sound ≡ true
  pub all_bytes : total ≡ length (joined (reading packets).frames)
  pub room : total ≤ length output

-- the lengths that so many frames say which lie back to back, and where the last of them ends
unfoldable pub said_lengths : ℕ → List ℕ → List ℕ
said_lengths zero bytes = []
said_lengths (suc n) bytes = said_length bytes ∷ said_lengths n (rest bytes (said_length bytes))

unfoldable pub said_end : ℕ → List ℕ → ℕ
said_end zero bytes = 0
said_end (suc n) bytes = said_length bytes + said_end n (rest bytes (said_length bytes))

-- so many frames do lie there, and none says more than a frame may
pub record Laid (count : ℕ) (bytes : List ℕ) : Type 0 where
  pub inside : said_end count bytes ≤ length bytes
  pub short : (k : ℕ) → k < count → said_length (rest bytes (said_end k bytes)) ≤ longest

-- What a call answers by what it has found or refused, and that it and the two slices are what the definition says.
abbrev pub answered : Result Standing Refusal → ReadBack
answered (Ok found) = record { code = 0; frames = found.frames; bytes = found.bytes }
answered (Err refused) = record { code = number_of refused; frames = 0; bytes = 0 }

abbrev pub Reads : AskedRead → Result Standing Refusal → List ℕ → List ℕ → Type 0
Reads a result output lengths = PermitsRead a (record { answer = answered result; output = output; lengths = lengths })
