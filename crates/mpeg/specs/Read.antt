-- The reader (W3): it gets the frames back from packets that a writer wrote from a frame's start on. It skips null packets and does not
-- hand out an unfinished last frame. Bytes that no run of the writer gives it refuses; what a run is stands in specs/Run.antt, and that the
-- packets which this reader takes are those of the runs and no others is `runs_are_read` and `read_is_run`.
--
-- It goes from packet to packet, and between two packets it has the frames found so far and the bytes so far of one that is not finished.
use Rattle.std.specs.Prelude.{ℕ, zero, suc, ◌+◌, ◌*◌, ◌/◌, ◌%◌, ◌≡◌, Bool, true, false, not, cond, ◌&&◌, ◌||◌, List, [], ◌∷◌, ◌++◌, eqb}
use Rattle.std.specs.Prelude.{ltb, leb, length}
use Rattle.refusal.specs.Refusal.{Refusal, ◌when◌, first}
use Rattle.octets.specs.Bytes.{byte_at}
use Rattle.octets.specs.Stretch.{part, rest, put, joined, lengths_of}
use Rattle.octets.specs.Count.{up_to}
use Rattle.octets.specs.Tests.{none, same}
use Rattle.ts.specs.Packet.{mpeg_length, head_length, counts, count_of, next_count, header, all_fill, null_packet}
use Rattle.mpeg.specs.declared.reader.ReadBack.{ReadBack}
use Rattle.mpeg.specs.Packet.{pointed_length, frames_pid}
use Rattle.mpeg.specs.Frame.{said_length, good, may_begin}

-- Between two packets: `expected` is the count that the next packet with frames has, or `any_count` before the first of them; `begun` is
-- what has come of a frame that is not finished, and empty where there is none. `sound` is false once bytes have come that no run of the
-- writer gives.
pub record Reading : Type 0 where
  pub sound : Bool
  pub expected : ℕ
  pub begun : List ℕ
  pub frames : List (List ℕ)

abbrev pub any_count : ℕ
any_count = counts

abbrev pub at_start : Reading
at_start = record { sound = true; expected = any_count; begun = []; frames = [] }

abbrev pub unsound : Reading
unsound = record { sound = false; expected = any_count; begun = []; frames = [] }

-- What a packet has from a frame's start on: whole frames, and then a begun one, or 0xFF to the end, or nothing. It is found in steps, a
-- frame in each, and as many steps as there are bytes are enough, since no frame has fewer than 6.
pub record Found : Type 0 where
  pub well : Bool
  pub whole : List (List ℕ)
  pub open_end : List ℕ

abbrev pub with_frame : List ℕ → Found → Found
with_frame frame f = record { well = good frame && f.well; whole = frame ∷ f.whole; open_end = f.open_end }

unfoldable pub found : ℕ → List ℕ → Found
found zero bytes = record { well = none bytes; whole = []; open_end = [] }
found (suc n) bytes =
    cond (all_fill bytes) (record { well = true; whole = []; open_end = [] })
    (cond (leb (said_length bytes) (length bytes))
    (with_frame (part bytes 0 (said_length bytes)) (found n (rest bytes (said_length bytes))))
    (record { well = may_begin bytes; whole = []; open_end = bytes }))

-- whether a packet's header is that of one with frames, with the flag or without, and its count the expected one
abbrev pub has_header : Bool → List ℕ → Bool
has_header points packet = same (part packet 0 head_length) (header points frames_pid (count_of packet))

abbrev pub count_fits : ℕ → List ℕ → Bool
count_fits expected packet = eqb expected any_count || eqb expected (count_of packet)

-- Without the flag: a frame has begun, and the whole payload is of it. It ends it, or more is to come.
abbrev pub went_on : Reading → List ℕ → List ℕ → Reading
went_on s packet frame =
    cond (none s.begun) unsound
    (cond (good frame) (record { sound = true; expected = next_count (count_of packet); begun = []; frames = s.frames ++ (frame ∷ []) })
    (cond (may_begin frame) (record { sound = true; expected = next_count (count_of packet); begun = frame; frames = s.frames })
    unsound))

unfoldable pub without_flag : Reading → List ℕ → Reading
without_flag s packet = went_on s packet (s.begun ++ rest packet head_length)

-- With the flag: so many bytes as the pointer says end the frame that has begun, and behind them come frames, or 0xFF to the end, or
-- nothing. Where none has begun the pointer is 0, and a frame does start: a packet of 0xFF alone the writer does not write.
abbrev pub pointer : List ℕ → ℕ
pointer packet = byte_at packet head_length

abbrev pub pointed : List ℕ → List ℕ
pointed packet = rest packet (head_length + 1)

-- the frame that ends at the pointer
abbrev pub ended : Reading → List ℕ → List ℕ
ended s packet = s.begun ++ part (pointed packet) 0 (pointer packet)

abbrev pub found_in : List ℕ → Found
found_in packet = found pointed_length (rest (pointed packet) (pointer packet))

abbrev pub ends_well : Reading → List ℕ → Bool
ends_well s packet = cond (none s.begun) (eqb (pointer packet) 0 && not (all_fill (pointed packet))) (good (ended s packet))

abbrev pub ended_frames : Reading → List ℕ → List (List ℕ)
ended_frames s packet = cond (none s.begun) [] (ended s packet ∷ [])

unfoldable pub with_flag : Reading → List ℕ → Reading
with_flag s packet =
    cond (leb (pointer packet) pointed_length && (ends_well s packet && (found_in packet).well))
    (record {
      sound = true;
      expected = next_count (count_of packet);
      begun = (found_in packet).open_end;
      frames = s.frames ++ ended_frames s packet ++ (found_in packet).whole;
    })
    unsound

-- one packet: a null packet where no frame has begun, or one with frames whose count fits
unfoldable pub read_packet : Reading → List ℕ → Reading
read_packet s packet =
    cond (not s.sound) unsound
    (cond (same packet null_packet) (cond (none s.begun) s unsound)
    (cond (not (count_fits s.expected packet)) unsound
    (cond (has_header false packet) (without_flag s packet)
    (cond (has_header true packet) (with_flag s packet)
    unsound))))

unfoldable pub read_from : Reading → List (List ℕ) → Reading
read_from s [] = s
read_from s (packet ∷ more) = read_from (read_packet s packet) more

-- the packets that bytes are, and what is read from them; bytes that are no whole packets are given by no run
unfoldable pub packets_in : List ℕ → ℕ → List (List ℕ)
packets_in bytes n = up_to (λ k. part bytes (mpeg_length * k) mpeg_length) n

unfoldable pub reading : List ℕ → Reading
reading bytes =
    cond (eqb (length bytes % mpeg_length) 0) (read_from at_start (packets_in bytes (length bytes / mpeg_length))) unsound

-- What a call is given: the packets, and two slices for what it finds.
pub record AskedRead : Type 0 where
  pub packets : List ℕ
  pub output : List ℕ
  pub lengths : List ℕ

abbrev pub frames_read : AskedRead → List (List ℕ)
frames_read a = (reading a.packets).frames

abbrev pub read_refusals : AskedRead → List Refusal
read_refusals a =
    53 when not (reading a.packets).sound
    ∷ 51 when (ltb (length a.output) (length (joined (frames_read a))) || ltb (length a.lengths) (length (frames_read a)))
    ∷ []

-- everything that a call answers and leaves: the frames back to back at the front of one slice and their lengths at the front of the other
pub record ReadOutcome : Type 0 where
  pub answer : ReadBack
  pub output : List ℕ
  pub lengths : List ℕ

unfoldable pub got_back : AskedRead → ReadOutcome
got_back a =
    record {
      answer = record { code = 0; frames = length (frames_read a); bytes = length (joined (frames_read a)) };
      output = put a.output 0 (joined (frames_read a));
      lengths = put a.lengths 0 (lengths_of (frames_read a));
    }

unfoldable pub not_read : ℕ → AskedRead → ReadOutcome
not_read code a = record { answer = record { code = code; frames = 0; bytes = 0 }; output = a.output; lengths = a.lengths }

unfoldable pub read_by : ℕ → AskedRead → ReadOutcome
read_by zero a = got_back a
read_by (suc c) a = not_read (suc c) a

unfoldable pub read : AskedRead → ReadOutcome
read a = read_by (first (read_refusals a)) a

-- What the call permits, whole.
abbrev pub PermitsRead : AskedRead → ReadOutcome → Type 0
PermitsRead a o = o ≡ read a
