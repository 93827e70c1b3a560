-- Closed instances of what is said of MPEG packets (W3): the statements of crate mpeg, specs/Run.antt, specs/HandOut.antt and
-- specs/Channel.antt, and `unique_mpeg`. Each statement is applied to closed data: its premises are met, and what it says of these data is
-- said with the very bytes. It cites definitions alone, so that it can be held against wrong ones, and against statements that say less.
use Prim.Native.Nat.{ℕ, zero, suc, ◌<◌, ◌≤◌}
use mathlib.Core.Path.{◌≡◌, refl, sym, ap, ◌∙◌}
use mathlib.Core.Bool.{Bool, true, false, cond, true≢false}
use mathlib.Core.List.{List, [], ◌∷◌, ◌++◌}
use native.Mathlib.Omega.{arith}
use denote.Ref.{Bor}
use lib.Dec.{ltb}
use lib.ListN.{length, replicate, length-replicate}
use borrow.Author.Tests.{ltb-true}
use Rattle.octets.specs.Bytes.{AllBytes}
use Rattle.octets.specs.Each.{Each}
use Rattle.octets.specs.Stretch.{part, rest, put, joined, lengths_of, cut_by}
use Rattle.octets.specs.Count.{up_to}
use Rattle.octets.specs.Tests.{none, same}
use Rattle.ts.specs.declared.MpegPacket.{MpegPacket}
use Rattle.ts.specs.Packet.{all_fill, null_packet}
use Rattle.mpeg.specs.Frame.{good, may_begin, Good}
use Rattle.mpeg.specs.Write.{Asked, WriteOutcome, bad_frames, left_at, packet_of, carried, count_after, wrote, written_by, written}
use Rattle.mpeg.specs.Write.{PermitsWrite}
use Rattle.mpeg.specs.Read.{AskedRead, ReadOutcome, Reading, at_start, found, without_flag, with_flag, read_packet, read_from, packets_in}
use Rattle.mpeg.specs.Read.{reading, got_back, read_by, read, PermitsRead}
use Rattle.mpeg.specs.HandOut.{source, handed_length, PermitsHandOut, handed_out, HandsOutPackets, PermitsHandedOut}
use Rattle.mpeg.specs.Run.{Backlog, Burst, no_backlog, waiting_in, packet_next, after_next, run_packets, run_end, GoodBursts, all_frames}
use Rattle.mpeg.specs.Run.{sent_whole, RunsAreRead, ReadIsRun, AllComeBack, DrainedIsEmpty, asked_for, CallsMakeRuns, JudgedByFrames}
use Rattle.mpeg.specs.Run.{behind_sent, SentMayGo, NullsBetween}
use Rattle.mpeg.specs.Channel.{idle, Turn, writes, hands_out, behind_first, after_turn, channel_sends, channel_end, bursts_of}
use Rattle.mpeg.specs.Channel.{NullsBetweenFrames, ChannelIsRead}
use Rattle.promises.specs.Modulator.{UniqueMpeg}

-- Frames of 200, 6 and 7 bytes: each says in its third and fourth byte six fewer.
abbrev long : List ℕ
long = 0x01 ∷ 0x02 ∷ 0x00 ∷ 0xC2 ∷ replicate 196 0xA1

abbrev six : List ℕ
six = 0x05 ∷ 0x06 ∷ 0x00 ∷ 0x00 ∷ 0xC1 ∷ 0xFF ∷ []

abbrev seven : List ℕ
seven = 0x07 ∷ 0x08 ∷ 0x00 ∷ 0x01 ∷ 0xD1 ∷ 0xFF ∷ 0xFF ∷ []

-- Packets: the first frame's front; its last 17 bytes and the second frame; the null packet; the third frame and 176 bytes of a fourth that
-- is like the first; and its last 24. The count goes round.
abbrev p1 : List ℕ
p1 = 0x47 ∷ 0x5F ∷ 0xFE ∷ 0x1E ∷ 0 ∷ 0x01 ∷ 0x02 ∷ 0x00 ∷ 0xC2 ∷ replicate 179 0xA1

abbrev p2 : List ℕ
p2 = 0x47 ∷ 0x5F ∷ 0xFE ∷ 0x1F ∷ 17 ∷ replicate 17 0xA1 ++ six ++ replicate 160 0xFF

abbrev null : List ℕ
null = 0x47 ∷ 0x1F ∷ 0xFF ∷ 0x10 ∷ replicate 184 0xFF

abbrev p4 : List ℕ
p4 = 0x47 ∷ 0x5F ∷ 0xFE ∷ 0x10 ∷ 0 ∷ seven ++ (0x01 ∷ 0x02 ∷ 0x00 ∷ 0xC2 ∷ replicate 172 0xA1)

-- a list is of bytes where a test says so
abbrev small : List ℕ → Bool
small [] = true
small (x ∷ l) = cond (ltb x 256) (small l) false

both_true : (a b : Bool) → cond a b false ≡ true → (a ≡ true) × (b ≡ true)
both_true true b e = (refl, e)
both_true false b e = absurd (true≢false (sym e))

all_small : (l : List ℕ) → small l ≡ true → AllBytes l
all_small [] e i = omega arith
all_small (x ∷ l) e zero = ltb-true x 256 (both_true (ltb x 256) (small l) e).0
all_small (x ∷ l) e (suc i) = all_small l (both_true (ltb x 256) (small l) e).1 i

good_long : Good long
unfolding good
good_long = (refl, all_small long refl)

good_six : Good six
unfolding good
good_six = (refl, all_small six refl)

good_seven : Good seven
unfolding good
good_seven = (refl, all_small seven refl)

-- A run that stops within the fourth frame, and the same run with one packet more, which ends with nothing waiting.
abbrev stopped : List Burst
stopped = (long ∷ six ∷ []) ∷ [] ∷ [] ∷ (seven ∷ long ∷ []) ∷ []

stopped_good : GoodBursts stopped
stopped_good = ((good_long, (good_six, tt)), (tt, (tt, ((good_seven, (good_long, tt)), tt))))

abbrev finished : List Burst
finished = (long ∷ six ∷ []) ∷ [] ∷ [] ∷ (seven ∷ long ∷ []) ∷ [] ∷ []

finished_good : GoodBursts finished
finished_good = ((good_long, (good_six, tt)), (tt, (tt, ((good_seven, (good_long, tt)), (tt, tt)))))

finished_empty : waiting_in (run_end (no_backlog 14) finished) ≡ []
unfolding run_end after_next carried count_after left_at rest joined lengths_of
finished_empty = refl

-- `runs_are_read`, applied
stopped_sent : sent_whole (all_frames stopped) (run_end (no_backlog 14) stopped).place ≡ long ∷ six ∷ seven ∷ []
unfolding run_end after_next carried count_after left_at rest joined lengths_of all_frames sent_whole
stopped_sent = refl

abbrev pub RunsAreReadHere : Type 0
RunsAreReadHere =
    ((reading (joined (run_packets (no_backlog 14) stopped))).sound ≡ true)
    × ((reading (joined (run_packets (no_backlog 14) stopped))).frames ≡ long ∷ six ∷ seven ∷ [])

pub runs_are_read_applied : RunsAreRead → RunsAreReadHere
runs_are_read_applied theorem =
    let is_read = theorem 14 stopped stopped_good in
    (is_read.taken, is_read.given_back ∙ stopped_sent)

-- .. and by computation: the run gives these packets
pub stopped_gives : run_packets (no_backlog 14) stopped ≡ p1 ∷ p2 ∷ null ∷ p4 ∷ []
unfolding run_packets packet_next after_next packet_of carried count_after null_packet left_at part rest joined lengths_of
stopped_gives = refl

-- `read_is_run`, applied to the first two packets: some run of good frames gives them
pub record SomeRunGives (bytes : List ℕ) : Type 0 where
  pub count : ℕ
  pub bursts : List Burst
  pub of_good-frames : GoodBursts bursts
  pub gives : joined (run_packets (no_backlog count) bursts) ≡ bytes

two-small : AllBytes (p1 ++ p2)
two-small = all_small (p1 ++ p2) refl

two-sound : (reading (p1 ++ p2)).sound ≡ true
unfolding part rest joined up_to null_packet same all_fill good may_begin none found without_flag with_flag read_packet read_from
    packets_in reading
two-sound = refl

abbrev pub ReadIsRunHere : Type 0
ReadIsRunHere = SomeRunGives (p1 ++ p2)

pub read_is_run_applied : ReadIsRun → ReadIsRunHere
read_is_run_applied theorem =
    let run = theorem (p1 ++ p2) two-small two-sound in
    record { count = run.count; bursts = run.bursts; of_good-frames = run.of_good-frames; gives = run.gives }

-- `all_come_back`, applied
finished_frames : all_frames finished ≡ long ∷ six ∷ seven ∷ long ∷ []
unfolding all_frames
finished_frames = refl

abbrev pub AllComeBackHere : Type 0
AllComeBackHere = (reading (joined (run_packets (no_backlog 14) finished))).frames ≡ long ∷ six ∷ seven ∷ long ∷ []

pub all_come_back_applied : AllComeBack → AllComeBackHere
all_come_back_applied theorem = theorem 14 finished finished_good finished_empty ∙ finished_frames

-- `drained_is_empty`, applied to one frame of 200 bytes and 200 calls more
calls-enough : length (joined (all_frames ((long ∷ []) ∷ []))) ≤ 200
unfolding joined all_frames
calls-enough = omega arith

abbrev pub DrainedIsEmptyHere : Type 0
DrainedIsEmptyHere = waiting_in (run_end (no_backlog 3) ((long ∷ []) ∷ replicate 200 [])) ≡ []

pub drained_is_empty_applied : DrainedIsEmpty → DrainedIsEmptyHere
drained_is_empty_applied theorem = theorem 3 200 ((long ∷ []) ∷ []) calls-enough

-- `calls_make_runs`, applied: the second packet, into a slice that is two bytes longer
abbrev begun : Backlog
begun = record { frames = long ∷ six ∷ []; place = 183; count = 15 }

has_room : 188 ≤ length {A = ℕ} (replicate 190 0)
has_room = omega (arith, length-replicate {A = ℕ} 190 0)

begun-place : (after_next begun).place ≡ 206
unfolding after_next carried left_at rest joined lengths_of
begun-place = refl

begun-count : (after_next begun).count ≡ 0
unfolding after_next count_after rest joined
begun-count = refl

begun-packet : put (replicate 190 0) 0 (packet_next begun) ≡ p2 ++ (0 ∷ 0 ∷ [])
unfolding packet_next packet_of left_at part rest put joined lengths_of
begun-packet = refl

abbrev pub CallsMakeRunsHere : Type 0
CallsMakeRunsHere =
    ((written (asked_for begun (replicate 190 0))).answer.code ≡ 0)
    × ((written (asked_for begun (replicate 190 0))).answer.place ≡ 206)
    × ((written (asked_for begun (replicate 190 0))).answer.count ≡ 0)
    × ((written (asked_for begun (replicate 190 0))).output ≡ p2 ++ (0 ∷ 0 ∷ []))

pub calls_make_runs_applied : CallsMakeRuns → CallsMakeRunsHere
calls_make_runs_applied theorem =
    let step = theorem begun (replicate 190 0) (good_long, (good_six, tt)) has_room in
    (step.not-refused, step.next_place ∙ begun-place, step.next_count ∙ begun-count, step.its_packet ∙ begun-packet)

-- `judged_by-frames`, applied to two frames, and to their bytes and lengths
abbrev two : List ℕ
two = 0x05 ∷ 0x06 ∷ 0x00 ∷ 0x00 ∷ 0xC1 ∷ 0xFF ∷ 0x07 ∷ 0x08 ∷ 0x00 ∷ 0x01 ∷ 0xD1 ∷ 0xFF ∷ 0xFF ∷ []

two_pass : bad_frames (6 ∷ 7 ∷ []) two ≡ false
unfolding bad_frames good part rest
two_pass = refl

abbrev pub JudgedByFramesHere : Type 0
JudgedByFramesHere =
    (bad_frames (6 ∷ 7 ∷ []) two ≡ false)
    × (lengths_of (cut_by (6 ∷ 7 ∷ []) two) ≡ 6 ∷ 7 ∷ [])
    × (joined (cut_by (6 ∷ 7 ∷ []) two) ≡ two)
    × Each (λ f. good f ≡ true) (cut_by (6 ∷ 7 ∷ []) two)

pub judged_by-frames_applied : JudgedByFrames → JudgedByFramesHere
unfolding joined lengths_of
judged_by-frames_applied theorem =
    let pass = theorem.frames_pass (six ∷ seven ∷ []) (good_six.0, (good_seven.0, tt)) in
    let are-frames = theorem.passed_are_frames (6 ∷ 7 ∷ []) two two_pass in
    (pass, are-frames.0, are-frames.1, are-frames.2)

-- `sent_may_go`, applied: the frame of six bytes has been sent before the long one
abbrev behind_six : Backlog
behind_six = record { frames = six ∷ long ∷ seven ∷ []; place = 189; count = 15 }

abbrev without_six : Backlog
without_six = record { frames = long ∷ seven ∷ []; place = 183; count = 15 }

packet_without : packet_next without_six ≡ 0x47 ∷ 0x5F ∷ 0xFE ∷ 0x1F ∷ 17 ∷ replicate 17 0xA1 ++ seven ++ replicate 159 0xFF
unfolding packet_next packet_of left_at part rest joined lengths_of
packet_without = refl

after_without : behind_sent (six ∷ []) (after_next without_six) ≡ record { frames = six ∷ long ∷ seven ∷ []; place = 213; count = 0 }
unfolding after_next carried count_after left_at rest joined lengths_of
after_without = refl

abbrev pub SentMayGoHere : Type 0
SentMayGoHere =
    (packet_next behind_six ≡ 0x47 ∷ 0x5F ∷ 0xFE ∷ 0x1F ∷ 17 ∷ replicate 17 0xA1 ++ seven ++ replicate 159 0xFF)
    × (after_next behind_six ≡ record { frames = six ∷ long ∷ seven ∷ []; place = 213; count = 0 })

pub sent_may_go_applied : SentMayGo → SentMayGoHere
unfolding joined
sent_may_go_applied theorem =
    let gone = theorem (six ∷ []) without_six in
    (gone.0 ∙ packet_without, gone.1 ∙ after_without)

-- `nulls-between`, applied: a null packet between the second packet and the fourth
two-read : read_from at_start (p1 ∷ p2 ∷ []) ≡ record { sound = true; expected = 0; begun = []; frames = long ∷ six ∷ [] }
unfolding part rest up_to null_packet same all_fill good may_begin none found without_flag with_flag read_packet read_from
two-read = refl

three_read : read_from at_start (p1 ∷ p2 ∷ p4 ∷ [])
    ≡ record { sound = true; expected = 1; begun = 0x01 ∷ 0x02 ∷ 0x00 ∷ 0xC2 ∷ replicate 172 0xA1; frames = long ∷ six ∷ seven ∷ [] }
unfolding part rest up_to null_packet same all_fill good may_begin none found without_flag with_flag read_packet read_from
three_read = refl

two_are_sound : (read_from at_start (p1 ∷ p2 ∷ [])).sound ≡ true
two_are_sound = ap (λ (s : Reading). s.sound) two-read

none_has_begun : (read_from at_start (p1 ∷ p2 ∷ [])).begun ≡ []
none_has_begun = ap (λ (s : Reading). s.begun) two-read

abbrev pub NullsBetweenHere : Type 0
NullsBetweenHere =
    read_from at_start (p1 ∷ p2 ∷ null_packet ∷ p4 ∷ [])
    ≡ record { sound = true; expected = 1; begun = 0x01 ∷ 0x02 ∷ 0x00 ∷ 0xC2 ∷ replicate 172 0xA1; frames = long ∷ six ∷ seven ∷ [] }

pub nulls-between_applied : NullsBetween → NullsBetweenHere
nulls-between_applied theorem = theorem at_start (p1 ∷ p2 ∷ []) (p4 ∷ []) two_are_sound none_has_begun ∙ three_read

-- `hands_out-packets`, applied to a queue of two packets and a byte, and to one that lacks a byte of its first
abbrev at : ℕ → List ℕ → Bor (List ℕ)
at block bytes = record { ref_ptr = (block, 5); now = bytes }

abbrev queue : Bor (List ℕ)
queue = at 7 (p1 ++ p2 ++ (0x47 ∷ []))

abbrev short : Bor (List ℕ)
short = at 7 (0x47 ∷ replicate 186 0xA1)

null_is : (at 8 null).now ≡ null_packet
unfolding null_packet
null_is = refl

first_is : handed_out queue.now ≡ p1
unfolding handed_out part
first_is = refl

short_is : handed_out short.now ≡ null
unfolding handed_out null_packet
short_is = refl

abbrev pub HandsOutPacketsHere : Type 0
HandsOutPacketsHere =
    ((answer : Bor (List ℕ)) → PermitsHandOut queue (at 8 null) answer → answer.now ≡ p1)
    × ((answer : Bor (List ℕ)) → PermitsHandOut short (at 8 null) answer → answer.now ≡ null)

pub hands_out-packets_applied : HandsOutPackets → HandsOutPacketsHere
hands_out-packets_applied theorem = (
  λ answer permitted. theorem queue (at 8 null) answer null_is permitted ∙ first_is,
  λ answer permitted. theorem short (at 8 null) answer null_is permitted ∙ short_is,
)

-- `channel_is_read`, applied. A packet is handed out while the first frame has begun, and a null packet between two frames. The queue is
-- empty at the end, and 24 bytes wait; then their packet is written; then it is handed out too.
abbrev turns : List Turn
turns =
    writes (long ∷ six ∷ []) ∷ hands_out ∷ writes [] ∷ hands_out ∷ hands_out ∷ writes (seven ∷ long ∷ []) ∷ hands_out ∷ []

abbrev one_queued : List Turn
one_queued =
    writes (long ∷ six ∷ []) ∷ hands_out ∷ writes [] ∷ hands_out ∷ hands_out ∷ writes (seven ∷ long ∷ []) ∷ hands_out ∷ writes [] ∷ []

abbrev all_out : List Turn
all_out =
    writes (long ∷ six ∷ []) ∷ hands_out ∷ writes [] ∷ hands_out ∷ hands_out ∷ writes (seven ∷ long ∷ []) ∷ hands_out ∷ writes []
    ∷ hands_out ∷ []

turns-good : GoodBursts (bursts_of turns)
unfolding bursts_of
turns-good = ((good_long, (good_six, tt)), (tt, ((good_seven, (good_long, tt)), tt)))

queued_good : GoodBursts (bursts_of one_queued)
unfolding bursts_of
queued_good = ((good_long, (good_six, tt)), (tt, ((good_seven, (good_long, tt)), (tt, tt))))

out_good : GoodBursts (bursts_of all_out)
unfolding bursts_of
out_good = ((good_long, (good_six, tt)), (tt, ((good_seven, (good_long, tt)), (tt, tt))))

-- the queue has a packet, and then it does not matter how much is left of a frame
has_one : (left : ℕ) → 188 < 188 → left ≡ 0
has_one left l = absurd (omega arith)

turns-between : NullsBetweenFrames (idle 14) turns
unfolding NullsBetweenFrames after_turn behind_first packet_next after_next packet_of carried count_after left_at part rest joined
    lengths_of
turns-between = (has_one 17, (has_one 0, (λ l. refl, (has_one 24, tt))))

queued_between : NullsBetweenFrames (idle 14) one_queued
unfolding NullsBetweenFrames after_turn behind_first packet_next after_next packet_of carried count_after left_at part rest joined
    lengths_of
queued_between = (has_one 17, (has_one 0, (λ l. refl, (has_one 24, tt))))

out_between : NullsBetweenFrames (idle 14) all_out
unfolding NullsBetweenFrames after_turn behind_first packet_next after_next packet_of carried count_after left_at part rest joined
    lengths_of
out_between = (has_one 17, (has_one 0, (λ l. refl, (has_one 24, (has_one 0, tt)))))

turns-queue : (channel_end (idle 14) turns).queue ≡ []
unfolding channel_end after_turn behind_first packet_next after_next packet_of carried count_after left_at part rest joined lengths_of
turns-queue = refl

out_queue : (channel_end (idle 14) all_out).queue ≡ []
unfolding channel_end after_turn behind_first packet_next after_next packet_of carried count_after left_at part rest joined lengths_of
out_queue = refl

out_empty : waiting_in (channel_end (idle 14) all_out).backlog ≡ []
unfolding channel_end after_turn after_next carried count_after left_at rest joined lengths_of
out_empty = refl

turns-sent : sent_whole (all_frames (bursts_of turns)) (channel_end (idle 14) turns).backlog.place ≡ long ∷ six ∷ seven ∷ []
unfolding channel_end after_turn after_next carried count_after left_at rest joined lengths_of bursts_of all_frames sent_whole
turns-sent = refl

out_frames : all_frames (bursts_of all_out) ≡ long ∷ six ∷ seven ∷ long ∷ []
unfolding bursts_of all_frames
out_frames = refl

abbrev pub ChannelIsReadHere : Type 0
ChannelIsReadHere =
    ((reading (joined (channel_sends (idle 14) one_queued))).sound ≡ true)
    × ((reading (joined (channel_sends (idle 14) turns))).frames ≡ long ∷ six ∷ seven ∷ [])
    × ((reading (joined (channel_sends (idle 14) all_out))).frames ≡ long ∷ six ∷ seven ∷ long ∷ [])

pub channel_is_read_applied : ChannelIsRead → ChannelIsReadHere
channel_is_read_applied theorem = (
  (theorem 14 one_queued queued_good queued_between).taken,
  (theorem 14 turns turns-good turns-between).given_back turns-queue ∙ turns-sent,
  (theorem 14 all_out out_good out_between).all_given_back out_queue out_empty ∙ out_frames,
)

-- .. and by computation: the channel sends these packets
pub channel_sends_lem : channel_sends (idle 14) turns ≡ p1 ∷ p2 ∷ null ∷ p4 ∷ []
unfolding channel_sends handed_out null_packet after_turn behind_first packet_next after_next packet_of carried count_after left_at part
    rest joined lengths_of
channel_sends_lem = refl

-- A null packet handed out while a frame has begun: the condition is not met, and the reader refuses what was handed out. Without that turn
-- it takes it.
abbrev inside : List Turn
inside = writes (long ∷ []) ∷ hands_out ∷ hands_out ∷ writes [] ∷ hands_out ∷ []

abbrev not-inside : List Turn
not-inside = writes (long ∷ []) ∷ hands_out ∷ writes [] ∷ hands_out ∷ []

pub null_inside : (NullsBetweenFrames (idle 14) inside → ⊥)
    × ((reading (joined (channel_sends (idle 14) inside))).sound ≡ false)
    × ((reading (joined (channel_sends (idle 14) not-inside))).sound ≡ true)
unfolding NullsBetweenFrames channel_sends handed_out null_packet after_turn behind_first packet_next after_next packet_of carried
    count_after left_at part rest joined lengths_of up_to same all_fill good may_begin none found without_flag with_flag read_packet
    read_from packets_in reading
null_inside = (λ between. not_none 17 (between.1.0 (omega arith)) (omega arith), refl, refl)
  where
    not_none : (left : ℕ) → left ≡ 0 → 0 < left → ⊥
    not_none left e some = omega arith

-- `unique_mpeg`, applied: the packet of the frame of six bytes, the frame of that packet, and the first packet of the queue
abbrev asked : Asked
asked = record { bytes = six; lengths = 6 ∷ []; place = 0; count = 3; output = replicate 190 0 }

abbrev packet : List ℕ
packet = 0x47 ∷ 0x5F ∷ 0xFE ∷ 0x13 ∷ 0 ∷ six ++ replicate 177 0xFF

abbrev wrote_six : WriteOutcome
wrote_six = record { answer = record { code = 0; place = 6; count = 4; null = false }; output = packet ++ (0 ∷ 0 ∷ []) }

writes_six : PermitsWrite asked wrote_six
unfolding written written_by wrote bad_frames good left_at packet_of carried count_after none part rest put
writes_six = refl

abbrev asked_read : AskedRead
asked_read = record { packets = packet; output = replicate 8 0; lengths = 9 ∷ 9 ∷ [] }

abbrev read_six : ReadOutcome
read_six =
    record { answer = record { code = 0; frames = 1; bytes = 6 }; output = six ++ (0 ∷ 0 ∷ []); lengths = 6 ∷ 9 ∷ [] }

reads_six : PermitsRead asked_read read_six
unfolding part rest put joined lengths_of up_to null_packet same all_fill good may_begin none found without_flag with_flag read_packet
    read_from packets_in reading got_back read_by read
reads_six = refl

hands-first : PermitsHandOut queue (at 8 null) (at 7 p1)
unfolding source handed_length part
hands-first = record { in_its_source = refl; at_its_front = refl; its_bytes = refl }

hands_copy : PermitsHandedOut queue.now p1
unfolding part handed_out
hands_copy = refl

abbrev pub UniqueMpegHere : Type 0
UniqueMpegHere =
    ((o : WriteOutcome) → PermitsWrite asked o → o ≡ wrote_six)
    × ((o : ReadOutcome) → PermitsRead asked_read o → o ≡ read_six)
    × ((o : Bor (List ℕ)) → PermitsHandOut queue (at 8 null) o → (o.ref_ptr.0 ≡ 7) × (o.ref_ptr.1 ≡ 5) × (o.now ≡ p1))
    × ((o : MpegPacket) → PermitsHandedOut queue.now o.bytes → o ≡ record { bytes = p1 })

pub unique_mpeg_applied : UniqueMpeg → UniqueMpegHere
unique_mpeg_applied theorem = (
  λ o permitted. (theorem.0 asked).only_one o wrote_six permitted writes_six,
  λ o permitted. (theorem.1 asked_read).only_one o read_six permitted reads_six,
  λ o permitted. (theorem.2 queue (at 8 null)).only_one o (at 7 p1) permitted hands-first,
  λ o permitted. (theorem.3 queue.now).only_one o (record { bytes = p1 }) permitted hands_copy,
)
