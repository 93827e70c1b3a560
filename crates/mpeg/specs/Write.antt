-- The writer (W3): one call, one packet. It is given frames, back to back with their lengths, how many of their bytes have been sent, and
-- the count; and writes the next packet at the front of the output, or refuses. It answers how many bytes have been sent now, the next
-- count, and whether it was a null packet. A refusal and a null packet give back the place and the count as they were given.
use Rattle.std.specs.Prelude.{ℕ, zero, suc, ◌+◌, ◌-◌, min, ◌≡◌, Bool, true, false, not, cond, ◌||◌, List, [], ◌∷◌, ◌++◌, eqb, ltb, leb}
use Rattle.std.specs.Prelude.{length}
use Rattle.refusal.specs.Refusal.{Refusal, ◌when◌, first}
use Rattle.octets.specs.Stretch.{part, rest, put}
use Rattle.octets.specs.Tests.{none}
use Rattle.ts.specs.Packet.{mpeg_length, payload_length, next_count, header, null_packet}
use Rattle.mpeg.specs.declared.writer.Written.{Written}
use Rattle.mpeg.specs.Packet.{pointed_length, frames_pid, filled_to}
use Rattle.mpeg.specs.Frame.{good}

-- what a call is given
pub record Asked : Type 0 where
  pub bytes : List ℕ
  pub lengths : List ℕ
  pub place : ℕ
  pub count : ℕ
  pub output : List ℕ

-- 52: the lengths do not take the bytes apart into frames that may be written. Either there are too few bytes, or a frame may not be
-- written, or bytes are left over. All frames that are given are judged, those that have been sent too.
unfoldable pub bad_frames : List ℕ → List ℕ → Bool
bad_frames [] bytes = not (eqb (length bytes) 0)
bad_frames (n ∷ more) bytes = ltb (length bytes) n || (not (good (part bytes 0 n)) || bad_frames more (rest bytes n))

abbrev pub write_refusals : Asked → List Refusal
write_refusals a =
    52 when bad_frames a.lengths a.bytes
    ∷ 51 when ltb (length a.output) mpeg_length
    ∷ []

-- r: how many bytes are left of the frame that has begun; 0 where the next byte is a frame's first, however long that frame is, or there is
-- none
unfoldable pub left_at : List ℕ → ℕ → ℕ
left_at [] place = 0
left_at (n ∷ more) place = cond (leb n place) (left_at more (place - n)) (cond (eqb place 0) 0 (n - place))

-- The packet of the bytes that wait, r of which belong to a frame that has begun. With r of 184 or more: no pointer, and 184 bytes of that
-- frame. Else the flag, the pointer, which is r, and as many bytes as wait and fit: the rest of that frame and then whole or begun frames;
-- and then 0xFF to the end.
abbrev pub data_packet : ℕ → ℕ → List ℕ → List ℕ
data_packet count r waiting =
    cond (leb payload_length r)
    (header false frames_pid count ++ part waiting 0 payload_length)
    (header true frames_pid count ++ (r ∷ filled_to pointed_length (part waiting 0 pointed_length)))

-- how many of the bytes that wait it carries
abbrev pub carries : ℕ → List ℕ → ℕ
carries r waiting = cond (leb payload_length r) payload_length (min pointed_length (length waiting))

-- with nothing waiting, the null packet, which carries nothing
unfoldable pub packet_of : ℕ → ℕ → List ℕ → List ℕ
packet_of count r [] = null_packet
packet_of count r (x ∷ waiting) = data_packet count r (x ∷ waiting)

unfoldable pub carried : ℕ → List ℕ → ℕ
carried r [] = 0
carried r (x ∷ waiting) = carries r (x ∷ waiting)

unfoldable pub count_after : ℕ → List ℕ → ℕ
count_after count [] = count
count_after count (x ∷ waiting) = next_count count

-- everything that a call answers and leaves
pub record WriteOutcome : Type 0 where
  pub answer : Written
  pub output : List ℕ

abbrev pub waiting_for : Asked → List ℕ
waiting_for a = rest a.bytes a.place

abbrev pub left_for : Asked → ℕ
left_for a = left_at a.lengths a.place

unfoldable pub wrote : Asked → WriteOutcome
wrote a =
    record {
      answer = record {
        code = 0;
        place = a.place + carried (left_for a) (waiting_for a);
        count = count_after a.count (waiting_for a);
        null = none (waiting_for a);
      };
      output = put a.output 0 (packet_of a.count (left_for a) (waiting_for a));
    }

unfoldable pub refused : ℕ → Asked → WriteOutcome
refused code a = record { answer = record { code = code; place = a.place; count = a.count; null = false }; output = a.output }

-- by the number of the first refusal that applies
unfoldable pub written_by : ℕ → Asked → WriteOutcome
written_by zero a = wrote a
written_by (suc c) a = refused (suc c) a

unfoldable pub written : Asked → WriteOutcome
written a = written_by (first (write_refusals a)) a

-- What the call permits, whole: a is what it is given, and o what it answers, with the output when it returns.
abbrev pub PermitsWrite : Asked → WriteOutcome → Type 0
PermitsWrite a o = o ≡ written a
