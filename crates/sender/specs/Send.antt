-- The sender, whole (document 01, "The sender" and "Refusal numbers"). One call writes one packet at the front of the output, or is
-- refused. It answers the packet's length, the next position and the next sequence number; a refused one gives back the position and the
-- number that it was given, with length 0. Every byte behind the packet stays as it was, and all of the output where it is refused.
use Rattle.std.specs.Prelude.{ℕ, zero, suc, ◌+◌, ◌-◌, ◌≡◌, Bool, not, ◌&&◌, ◌||◌, List, [], ◌∷◌, ◌++◌, eqb, ltb, length}
use Rattle.std.specs.Prelude.{Result, Ok, Err}
use Rattle.refusal.specs.declared.Refusal.{Refusal as Why}
use Rattle.refusal.specs.Number.{number_of}
use Rattle.refusal.specs.Refusal.{Refusal, ◌when◌, first}
use Rattle.octets.specs.Stretch.{put}
use Rattle.octets.specs.Count.{any, sum_to}
use Rattle.flow.specs.Numbers.{next}
use Rattle.flow.specs.Flow.{longest, top_flow}
use Rattle.packet.specs.Header.{id_length, header_length}
use Rattle.packet.specs.Segments.{entry_width}
use Rattle.sender.specs.declared.Position.{Position}
use Rattle.sender.specs.declared.Sent.{Sent}
use Rattle.sender.specs.declared.Next.{Next}
use Rattle.sender.specs.Cut.{Cut, frame_length, cut}
use Rattle.sender.specs.Packet.{packet_of}

-- The most frames that a call takes, and the most segments of a packet, whose count has 7 bits. (The second is never what stops a cut: each
-- segment but the last ends a frame, so there are no more segments than frames.)
abbrev pub most_frames : ℕ
most_frames = 127

abbrev pub most_segments : ℕ
most_segments = 127

-- the bounds of the limit L, which counts everything behind the session ID
abbrev pub least_limit : ℕ
least_limit = 16

abbrev pub greatest_limit : ℕ
greatest_limit = 4096

-- what a call is given
pub record Asked : Type 0 where
  pub session : ℕ
  pub flow : ℕ
  pub number : ℕ
  pub limit : ℕ
  pub bytes : List ℕ
  pub lengths : List ℕ
  pub position : Position
  pub output : List ℕ

-- The conditions of 31 to 36, over the parts of what is given that each looks at.
abbrev pub bad_address : ℕ → ℕ → Bool
bad_address session flow = eqb session 0 || ltb top_flow flow

abbrev pub bad_limit : ℕ → Bool
bad_limit limit = ltb limit least_limit || ltb greatest_limit limit

-- no frame has this length; frame i has such a one
abbrev pub bad_size : ℕ → Bool
bad_size n = eqb n 0 || ltb longest n

abbrev pub bad_length : List ℕ → ℕ → Bool
bad_length lengths i = bad_size (frame_length lengths i)

abbrev pub bad_frames : ℕ → List ℕ → Bool
bad_frames total lengths =
    ltb most_frames (length lengths)
    || any (bad_length lengths) (length lengths)
    || not (eqb (sum_to (frame_length lengths) (length lengths)) total)

-- a frame above the count; an offset that is not below the frame's length; an offset other than 0 at the end of all frames
abbrev pub outside : List ℕ → Position → Bool
outside lengths at =
    ltb (length lengths) at.frame
    || (ltb at.frame (length lengths) && not (ltb at.offset (frame_length lengths at.frame)))
    || (eqb at.frame (length lengths) && not (eqb at.offset 0))

-- The refusals, in order: 31 to 33 look neither at the position nor at the output, 34 to 36 do.
abbrev pub early_refusals : ℕ → ℕ → ℕ → ℕ → List ℕ → List Refusal
early_refusals session flow limit total lengths =
    31 when bad_address session flow
    ∷ 32 when bad_limit limit
    ∷ 33 when bad_frames total lengths
    ∷ []

abbrev pub later_refusals : ℕ → List ℕ → Position → ℕ → List Refusal
later_refusals limit lengths at output_length =
    34 when outside lengths at
    ∷ 35 when eqb at.frame (length lengths)
    ∷ 36 when ltb output_length (limit + id_length)
    ∷ []

abbrev pub send_refusals : Asked → List Refusal
send_refusals a =
    early_refusals a.session a.flow a.limit (length a.bytes) a.lengths
    ++ later_refusals a.limit a.lengths a.position (length a.output)

-- The cut that a call makes: the room starts at L less the 4 bytes of the header behind the session ID.
abbrev pub start_of : Asked → Cut
start_of a = record { room = a.limit - header_length; position = a.position; segments = [] }

unfoldable pub cut_for : Asked → Cut
cut_for a = cut most_segments entry_width a.bytes a.lengths (start_of a)

abbrev pub packet_for : Asked → List ℕ
packet_for a = packet_of a.session a.flow a.number (cut_for a).segments

-- What a call answers by a Result, as the one record: of a refusal its number, and the position and the number that were given.
abbrev pub told : Position → ℕ → Result Next Why → Sent
told at number (Ok n) = record { code = 0; length = n.length; position = n.position; number = n.number }
told at number (Err why) = record { code = number_of why; length = 0; position = at; number = number }

-- everything that a call answers and leaves
pub record SendOutcome : Type 0 where
  pub answer : Sent
  pub output : List ℕ

unfoldable pub written : Asked → SendOutcome
written a =
    record {
      answer = record { code = 0; length = length (packet_for a); position = (cut_for a).position; number = next a.number };
      output = put a.output 0 (packet_for a);
    }

unfoldable pub refused : ℕ → Asked → SendOutcome
refused code a =
    record {
      answer = record { code = code; length = 0; position = a.position; number = a.number };
      output = a.output;
    }

-- by the number of the first refusal that applies
unfoldable pub sent_by : ℕ → Asked → SendOutcome
sent_by zero a = written a
sent_by (suc c) a = refused (suc c) a

unfoldable pub sent : Asked → SendOutcome
sent a = sent_by (first (send_refusals a)) a

-- What the call permits, whole: a is what it is given, and o what it answers, with the output when it returns.
pub record PermitsSend (a : Asked) (o : SendOutcome) : Type 0 where
  pub its_code : o.answer.code ≡ (sent a).answer.code
  pub its_length : o.answer.length ≡ (sent a).answer.length
  pub its_position : o.answer.position ≡ (sent a).answer.position
  pub its_number : o.answer.number ≡ (sent a).answer.number
  pub its_output : o.output ≡ (sent a).output
