-- There and back. Frames are given to our own sender again and again, each call from where the one before ended, with any limits and
-- outputs that 32 and 36 let pass. Its packets go over IP as they are, or over UDP with 00 03 00 00 before them, in any mixture. Handed in
-- on a fresh flow in the order in which they were sent, they come out as the frames that went in, whatever is called for others between
-- them. Over a network within the bound what comes out is, by demand 3, the frames that arrived whole.
use Rattle.std.specs.Prelude.{ℕ, ◌+◌, ◌≤◌, ◌<◌, ◌≡◌, Bool, true, List, [], ◌++◌, map, length}
use Rattle.octets.specs.Stretch.{joined, cut_by}
use Rattle.octets.specs.Each.{Each}
use Rattle.flow.specs.Numbers.{modulus, number_at}
use Rattle.packet.specs.Header.{Packet, id_length, sub, s_set}
use Rattle.card.specs.History.{Call, opens, answer, after, after_all, empty_card}
use Rattle.sender.specs.declared.Position.{Position}
use Rattle.sender.specs.Send.{Asked, sent}
use Rattle.sender.specs.Series.{Job, Turn, Sound, Usable, start_of_frame, series_packets, series_number, go_out}
use Rattle.sender.specs.Rules.{Pieces, Line, KeepsRules}
use Rattle.promises.specs.Words.{packets_to, frames_out, LongEnough, StaysOpen}
use Rattle.promises.specs.Arrivals.{Kept}
use Rattle.promises.specs.Demand.{Sending, opening, kind_on, Run, WholeIn, comes_out}

-- An address and frames that 31 and 33 do not refuse, a number of two bytes, and calls enough to send them: each sends at least one byte,
-- and those behind the last frame are refused by 35 and send nothing. And the ways that the packets take, over IP or over UDP.
pub record Given : Type 0 where
  pub job : Job
  pub number : ℕ
  pub turns : List Turn
  pub ways : List Bool
  pub sound : Sound job
  pub two_bytes : number < modulus
  pub usable : Each Usable turns
  pub enough : length job.bytes ≤ length turns

abbrev pub frames_given : Given → List (List ℕ)
frames_given g = cut_by g.job.lengths g.job.bytes

-- the sender's packets, as they go out, and where they go
abbrev pub packets_given : Given → List Packet
packets_given g = go_out g.ways (series_packets g.job g.number (start_of_frame 0) g.turns)

abbrev pub line_of : Given → Line
line_of g = record { session = g.job.session; flow = g.job.flow; start = g.number }

-- `sender_keeps_rules`: what it sends is a sending as demand 3 supposes it, of these frames and no other, the last one finished, and every
-- packet has a number
pub record IsSent (g : Given) (frames : List Pieces) : Type 0 where
  pub these_frames : map joined frames ≡ frames_given g
  pub by_the_rules : KeepsRules (line_of g) frames [] (packets_given g)
  pub has_numbers : Each (λ p. s_set (sub p) ≡ true) (packets_given g)

pub record SenderKeepsRules : Type 0 where
  pub pieces : Given → List Pieces
  pub are_sent : (g : Given) → IsSent g (pieces g)

-- .. and one sending behind another, numbered on, is a sending; and the number that a series gives back is the one to go on with. So frames
-- may be given to the sender 127 at a time, which is all that 33 lets pass, for ever.
pub record SendingsGoOn : Type 0 where
  pub joined_up : (line : Line) (frames more : List Pieces) (unfinished : Pieces) (packets behind : List Packet) →
      KeepsRules line frames [] packets →
      KeepsRules (record { session = line.session; flow = line.flow; start = number_at line.start (length packets) })
      more unfinished behind →
      KeepsRules line (frames ++ more) unfinished (packets ++ behind)
  pub numbered_on : (job : Job) (number : ℕ) (at : Position) (turns : List Turn) → number < modulus →
      series_number job number at turns ≡ number_at number (length (series_packets job number at turns))

-- .. and no packet is longer than its limit, which counts what follows the session ID
abbrev pub KeepsLimit : Type 0
KeepsLimit = (a : Asked) → (sent a).answer.code ≡ 0 → (sent a).answer.length ≤ a.limit + id_length

-- the packets of the series reach their flow, all of them and in order
pub record InOrder (g : Given) : Type 0 where
  pub holding : List ℕ
  pub before : List Call
  pub calls : List Call
  pub opens_now : (answer (after_all (empty_card holding) before) (opens (opening (line_of g)))).code ≡ 0
  pub stays_open : StaysOpen g.job.session calls
  pub long_enough : LongEnough (kind_on (line_of g)) g.job.session g.job.flow holding calls
  pub all_arrive : packets_to (kind_on (line_of g)) g.job.session g.job.flow calls ≡ packets_given g

-- what was sent, as a sending of these frames
abbrev pub sending_of : (g : Given) (frames : List Pieces) → IsSent g frames → Sending
sending_of g frames is-sent =
    record {
      line = line_of g;
      frames = frames;
      unfinished = [];
      packets = packets_given g;
      keeps_rules = is-sent.by_the_rules;
    }

-- `round_trip`
pub record RoundTrip : Type 0 where
  pub in_order : (g : Given) (o : InOrder g) →
      frames_out (kind_on (line_of g)) g.job.session g.job.flow
      (after (after_all (empty_card o.holding) o.before) (opens (opening (line_of g)))) o.calls
      ≡ frames_given g
  pub over_a_network : (g : Given) (frames : List Pieces) (is-sent : IsSent g frames) (r : Run (sending_of g frames is-sent)) →
      Kept (WholeIn (sending_of g frames is-sent) r) 0 frames (comes_out (sending_of g frames is-sent) r)
