-- Calls one after another, each from the position and the number that the one before gave back. Session, flow and frames are the same in
-- all of them; the limit and the output may be others each time. The series stops at the first call that is refused.
use Rattle.std.specs.Prelude.{ℕ, ◌+◌, ◌<◌, ◌≤◌, ◌≡◌, Bool, false, cond, List, [], ◌∷◌, eqb, length}
use Rattle.octets.specs.Stretch.{part}
use Rattle.packet.specs.Header.{Packet, ip, in_udp, id_length}
use Rattle.sender.specs.declared.Position.{Position}
use Rattle.sender.specs.Send.{Asked, bad_address, bad_limit, bad_frames, SendOutcome, sent}

-- what all calls of a series are given, and what each is given by itself
pub record Job : Type 0 where
  pub session : ℕ
  pub flow : ℕ
  pub bytes : List ℕ
  pub lengths : List ℕ

pub record Turn : Type 0 where
  pub limit : ℕ
  pub output : List ℕ

-- What a job and its calls must have so that nothing but the end of the frames refuses one.
pub record Sound (job : Job) : Type 0 where
  pub addressed : bad_address job.session job.flow ≡ false
  pub four_bytes : job.session < 4294967296
  pub frames-sound : bad_frames (length job.bytes) job.lengths ≡ false

pub record Usable (turn : Turn) : Type 0 where
  pub limited : bad_limit turn.limit ≡ false
  pub output_long : turn.limit + id_length ≤ length turn.output

-- the position before the first byte of frame i
abbrev pub start_of_frame : ℕ → Position
start_of_frame i = record { frame = i; offset = 0 }

abbrev pub asked_for : Job → ℕ → Position → Turn → Asked
asked_for job number at turn =
    record {
      session = job.session;
      flow = job.flow;
      number = number;
      limit = turn.limit;
      bytes = job.bytes;
      lengths = job.lengths;
      position = at;
      output = turn.output;
    }

-- the packet that a call has written: so many bytes at the front of its output
abbrev pub packet_left : SendOutcome → List ℕ
packet_left o = part o.output 0 o.answer.length

-- the packets of a series that starts with this number at this position
unfoldable pub series_packets : Job → ℕ → Position → List Turn → List (List ℕ)
series_packets job number at [] = []
series_packets job number at (turn ∷ more) =
    let o = sent (asked_for job number at turn) in
    cond (eqb o.answer.code 0) (packet_left o ∷ series_packets job o.answer.number o.answer.position more) []

-- the position that it ends at
unfoldable pub series_end : Job → ℕ → Position → List Turn → Position
series_end job number at [] = at
series_end job number at (turn ∷ more) =
    let o = sent (asked_for job number at turn) in
    cond (eqb o.answer.code 0) (series_end job o.answer.number o.answer.position more) at

-- .. and the number that it ends with, which the next series starts with
unfoldable pub series_number : Job → ℕ → Position → List Turn → ℕ
series_number job number at [] = number
series_number job number at (turn ∷ more) =
    let o = sent (asked_for job number at turn) in
    cond (eqb o.answer.code 0) (series_number job o.answer.number o.answer.position more) number

-- The packets of a series as they go out: each over IP as it is, or over UDP with 00 03 00 00 before it (document 02, W1). `ways` says of
-- each from the first on whether it goes over UDP; those behind its end go over IP.
unfoldable pub go_out : List Bool → List (List ℕ) → List Packet
go_out ways [] = []
go_out [] (p ∷ more) = ip p ∷ go_out [] more
go_out (way ∷ ways) (p ∷ more) = cond way (in_udp p) (ip p) ∷ go_out ways more
