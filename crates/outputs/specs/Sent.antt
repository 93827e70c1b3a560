-- What pspsend takes and makes.
--
-- It takes the frames of a frames file, as many as a send takes and one more. A file that does not end with a whole frame is spoilt.
--
-- It makes a capture: an entry that opens the session as PSP, then a data entry for each packet of a series of sends that starts at the
-- first byte of the first frame. It is refused where the first send is, by that number, and where the file would be longer or have more
-- entries than a capture may (document 01, "Capture file and listing"), by 41 or 43.
use Rattle.std.specs.Prelude.{ℕ, ◌+◌, Bool, cond, ◌&&◌, List, [], ◌∷◌, map, eqb, ltb, length, replicate}
use Rattle.refusal.specs.Refusal.{Refusal, ◌when◌, first}
use Rattle.frames.specs.Frames.{whole_frames, left_behind}
use Rattle.packet.specs.Header.{id_length}
use Rattle.sender.specs.declared.Position.{Position}
use Rattle.sender.specs.Send.{most_frames, sent, SendOutcome}
use Rattle.sender.specs.Series.{Job, Turn, asked_for, series_packets}
use Rattle.capture.specs.File.{longest_file, most_entries, data_entry, Entry, opening, file_of}

-- one frame more than a send takes, so that too many are seen to be too many
abbrev pub most : ℕ
most = most_frames + 1

abbrev pub frames_in : List ℕ → List (List ℕ)
frames_in file = whole_frames most file

abbrev pub spoilt : List ℕ → Bool
spoilt file = ltb (length (frames_in file)) most && ltb 0 (length (left_behind most file))

abbrev pub data_of : List ℕ → Entry
data_of packet = record { kind = data_entry; body = packet }

-- every call of the series has the same limit, and an output that is long enough for it
abbrev pub turn_for : ℕ → Turn
turn_for limit = record { limit = limit; output = replicate (limit + id_length) 0 }

abbrev pub at_first : Position
at_first = record { frame = 0; offset = 0 }

abbrev pub sent_from : Job → ℕ → ℕ → Position → SendOutcome
sent_from job limit number at = sent (asked_for job number at (turn_for limit))

-- one call more than there are bytes: every call that is not refused sends at least one byte
unfoldable pub packets_for : Job → ℕ → ℕ → List (List ℕ)
packets_for job limit number = series_packets job number at_first (replicate (length job.bytes + 1) (turn_for limit))

unfoldable pub entries_for : Job → ℕ → ℕ → List Entry
entries_for job limit number = opening job.session ∷ map data_of (packets_for job limit number)

abbrev pub capture_refusals : List Entry → List Refusal
capture_refusals entries =
    41 when ltb longest_file (length (file_of entries))
    ∷ 43 when ltb most_entries (length entries)
    ∷ []

abbrev pub first_answer : Job → ℕ → ℕ → ℕ
first_answer job limit number = (sent_from job limit number at_first).answer.code

unfoldable pub make_refusal : Job → ℕ → ℕ → ℕ
make_refusal job limit number =
    cond (eqb (first_answer job limit number) 0) (first (capture_refusals (entries_for job limit number))) (first_answer job limit number)
