-- Runs of the writer (W3). Before each packet whole frames may be added to what waits, and then one packet is written; a run may stop after
-- any packet, or before the first, and its first count is any. It begins with nothing waiting, and so at a frame's start.
use Rattle.std.specs.Prelude.{ℕ, ◌+◌, ◌-◌, ◌≤◌, ◌≡◌, true, false, cond, List, [], ◌∷◌, ◌++◌, leb, length, replicate}
use Rattle.octets.specs.Bytes.{AllBytes}
use Rattle.octets.specs.Each.{Each}
use Rattle.octets.specs.Stretch.{rest, put, joined, lengths_of, cut_by}
use Rattle.ts.specs.Packet.{mpeg_length, null_packet}
use Rattle.mpeg.specs.Frame.{good, Good}
use Rattle.mpeg.specs.Write.{Asked, bad_frames, left_at, packet_of, carried, count_after, written}
use Rattle.mpeg.specs.Read.{Reading, read_from, reading}

-- the frames that have been added so far, how many of their bytes have been sent, and the next count
pub record Backlog : Type 0 where
  pub frames : List (List ℕ)
  pub place : ℕ
  pub count : ℕ

abbrev pub no_backlog : ℕ → Backlog
no_backlog count = record { frames = []; place = 0; count = count }

-- frames that are added before a packet
abbrev pub Burst : Type 0
Burst = List (List ℕ)

abbrev pub added : Backlog → Burst → Backlog
added q burst = record { frames = q.frames ++ burst; place = q.place; count = q.count }

-- what waits, and how much of it belongs to a frame that has begun; the packet that is written next, and how things stand behind it. A call
-- of the writer gives just that: `calls_make_runs`.
abbrev pub waiting_in : Backlog → List ℕ
waiting_in q = rest (joined q.frames) q.place

abbrev pub left_in : Backlog → ℕ
left_in q = left_at (lengths_of q.frames) q.place

unfoldable pub packet_next : Backlog → List ℕ
packet_next q = packet_of q.count (left_in q) (waiting_in q)

unfoldable pub after_next : Backlog → Backlog
after_next q =
    record {
      frames = q.frames;
      place = q.place + carried (left_in q) (waiting_in q);
      count = count_after q.count (waiting_in q);
    }

-- the packets of a run, and how things stand at its end
unfoldable pub run_packets : Backlog → List Burst → List (List ℕ)
run_packets q [] = []
run_packets q (burst ∷ more) = packet_next (added q burst) ∷ run_packets (after_next (added q burst)) more

unfoldable pub run_end : Backlog → List Burst → Backlog
run_end q [] = q
run_end q (burst ∷ more) = run_end (after_next (added q burst)) more

abbrev pub GoodBursts : List Burst → Type 0
GoodBursts bursts = Each (Each Good) bursts

-- all frames of the bursts, in order
unfoldable pub all_frames : List Burst → List (List ℕ)
all_frames [] = []
all_frames (burst ∷ more) = burst ++ all_frames more

-- the frames of which every byte has been sent, with so many bytes sent in all
unfoldable pub sent_whole : List (List ℕ) → ℕ → List (List ℕ)
sent_whole [] place = []
sent_whole (f ∷ more) place = cond (leb (length f) place) (f ∷ sent_whole more (place - length f)) []

-- `runs_are_read`: what a run gives is read, and gives back the frames that it has sent whole
pub record IsRead (count : ℕ) (bursts : List Burst) : Type 0 where
  pub taken : (reading (joined (run_packets (no_backlog count) bursts))).sound ≡ true
  pub given_back : (reading (joined (run_packets (no_backlog count) bursts))).frames
      ≡ sent_whole (all_frames bursts) (run_end (no_backlog count) bursts).place

abbrev pub RunsAreRead : Type 0
RunsAreRead = (count : ℕ) (bursts : List Burst) → GoodBursts bursts → IsRead count bursts

-- `read_is_run`: what is read, some run gives
pub record IsRun (bytes : List ℕ) : Type 0 where
  pub count : ℕ
  pub bursts : List Burst
  pub of_good-frames : GoodBursts bursts
  pub gives : joined (run_packets (no_backlog count) bursts) ≡ bytes

abbrev pub ReadIsRun : Type 0
ReadIsRun = (bytes : List ℕ) → AllBytes bytes → (reading bytes).sound ≡ true → IsRun bytes

-- `all_come_back`: any frames, added in any bursts, and nothing waits when the run stops. All frames come back, in order.
abbrev pub AllComeBack : Type 0
AllComeBack =
    (count : ℕ) (bursts : List Burst) → GoodBursts bursts → waiting_in (run_end (no_backlog count) bursts) ≡ [] →
    (reading (joined (run_packets (no_backlog count) bursts))).frames ≡ all_frames bursts

-- `drained_is_empty`: each call sends at least one byte as long as any wait. So nothing waits after at least as many calls more as the
-- frames have bytes.
abbrev pub drained : List Burst → ℕ → List Burst
drained bursts n = bursts ++ replicate n []

abbrev pub DrainedIsEmpty : Type 0
DrainedIsEmpty =
    (count n : ℕ) (bursts : List Burst) → length (joined (all_frames bursts)) ≤ n →
    waiting_in (run_end (no_backlog count) (drained bursts n)) ≡ []

-- `calls_make_runs`: a call with frames that may be written and room for a packet is a step of a run.
abbrev pub asked_for : Backlog → List ℕ → Asked
asked_for q output =
    record { bytes = joined q.frames; lengths = lengths_of q.frames; place = q.place; count = q.count; output = output }

pub record IsStep (q : Backlog) (output : List ℕ) : Type 0 where
  pub not-refused : (written (asked_for q output)).answer.code ≡ 0
  pub next_place : (written (asked_for q output)).answer.place ≡ (after_next q).place
  pub next_count : (written (asked_for q output)).answer.count ≡ (after_next q).count
  pub its_packet : (written (asked_for q output)).output ≡ put output 0 (packet_next q)

abbrev pub CallsMakeRuns : Type 0
CallsMakeRuns = (q : Backlog) (output : List ℕ) → Each Good q.frames → mpeg_length ≤ length output → IsStep q output

-- `judged_by-frames`: 52 is given exactly where bytes and lengths are not those of frames that may be written.
pub record JudgedByFrames : Type 0 where
  pub frames_pass : (frames : List (List ℕ)) → Each (λ f. good f ≡ true) frames → bad_frames (lengths_of frames) (joined frames) ≡ false
  pub passed_are_frames : (lengths bytes : List ℕ) → bad_frames lengths bytes ≡ false →
      (lengths_of (cut_by lengths bytes) ≡ lengths) × (joined (cut_by lengths bytes) ≡ bytes)
      × Each (λ f. good f ≡ true) (cut_by lengths bytes)

-- `sent_may_go`: frames that have been sent whole may be taken away from the front, with their bytes taken off the place: the same packet
-- comes next, and behind it things stand as before.
abbrev pub behind_sent : List (List ℕ) → Backlog → Backlog
behind_sent sent q = record { frames = sent ++ q.frames; place = length (joined sent) + q.place; count = q.count }

abbrev pub SentMayGo : Type 0
SentMayGo =
    (sent : List (List ℕ)) (q : Backlog) →
    (packet_next (behind_sent sent q) ≡ packet_next q) × (after_next (behind_sent sent q) ≡ behind_sent sent (after_next q))

-- `nulls-between`: a null packet more, handed out where no frame has begun, changes nothing for the reader.
abbrev pub NullsBetween : Type 0
NullsBetween =
    (s : Reading) (before behind : List (List ℕ)) → (read_from s before).sound ≡ true → (read_from s before).begun ≡ [] →
    read_from s (before ++ null_packet ∷ behind) ≡ read_from s (before ++ behind)
