-- Closed instances of `stream_comes_back` and `programs_in_a_row`: two frames that say their own length, of 6 and 7 bytes, in a frames
-- file; the capture that `pspsend` makes of it, the packet that `pspmpeg` makes of that, and what comes back. It cites definitions alone,
-- so that it can be held against wrong ones.
use Prim.Native.Nat.{ℕ, zero, suc, ◌<◌}
use mathlib.Core.Path.{◌≡◌, refl, sym, ap, subst, ◌∙◌}
use mathlib.Core.Bool.{false}
use mathlib.Core.List.{List, [], ◌∷◌, ◌++◌}
use native.Mathlib.Omega.{arith}
use lib.ListN.{replicate}
use Rattle.octets.specs.Bytes.{AllBytes}
use Rattle.octets.specs.Each.{Each}
use Rattle.octets.specs.Stretch.{part, rest, put, joined, lengths_of, cut_by}
use Rattle.octets.specs.Count.{any, least, sum_to, up_to}
use Rattle.octets.specs.Tests.{none, same}
use Rattle.flow.specs.Numbers.{ahead, next}
use Rattle.ts.specs.Packet.{all_fill, null_packet}
use Rattle.frames.specs.Frames.{frames_file, whole_frames, left_behind}
use Rattle.packet.specs.Segments.{body_at, segment_at, segments}
use Rattle.packet.specs.Psp.{wanted}
use Rattle.table.specs.Broken.{broken}
use Rattle.table.specs.Calls.{opened}
use Rattle.join.specs.Join.{settled_by, settled, fate_by, fate, at_gap, in_order, psp_fate}
use Rattle.card.specs.Hear.{hear}
use Rattle.card.specs.Receive.{carried_out, refused, received_by, received}
use Rattle.card.specs.History.{answer, after}
use Rattle.sender.specs.Cut.{frame_start, cut}
use Rattle.sender.specs.Packet.{packet_of}
use Rattle.sender.specs.Send as sender
use Rattle.sender.specs.Series.{series_packets}
use Rattle.mpeg.specs.Frame.{good, may_begin, Good}
use Rattle.mpeg.specs.Write as write
use Rattle.mpeg.specs.Read.{found, without_flag, with_flag, read_packet, read_from, packets_in, reading}
use Rattle.mpeg.specs.Run.{packet_next, after_next}
use Rattle.capture.specs.File.{body_start, file_refusal, nth_entry, file_of}
use Rattle.replay.specs.Run.{run_one, begin, standing, answer_at}
use Rattle.outputs.specs.Sent.{frames_in, spoilt, packets_for, entries_for, make_refusal}
use Rattle.outputs.specs.Stream.{frames_at, delivered_before, delivered, drain, all_good, stream_by, stream}
use Rattle.outputs.specs.Back.{got_back}
use Rattle.promises.specs.Programs.{StreamComesBack, job_for, capture_for, ProgramsInARow}

-- 0 and 1 in bytes 2 and 3
abbrev pub six : List ℕ
six = 0x00 ∷ 0x00 ∷ 0x00 ∷ 0x00 ∷ 0xA1 ∷ 0xA2 ∷ []

abbrev pub seven : List ℕ
seven = 0xC0 ∷ 0x01 ∷ 0x00 ∷ 0x01 ∷ 0xC1 ∷ 0xFF ∷ 0xC3 ∷ []

abbrev pub frames_file_lem : List ℕ
frames_file_lem = 0x00 ∷ 0x06 ∷ six ++ (0x00 ∷ 0x07 ∷ seven)

-- It is not spoilt, and has these frames.
pub file_whole : spoilt frames_file_lem ≡ false
unfolding part rest whole_frames left_behind
file_whole = refl

pub its_frames : frames_in frames_file_lem ≡ six ∷ seven ∷ []
unfolding part rest whole_frames
its_frames = refl

-- a list is of bytes where each of its elements is one
all_bytes : (l : List ℕ) → Each (λ byte. byte < 256) l → AllBytes l
all_bytes [] e i = omega arith
all_bytes (x ∷ l) e zero = e.0
all_bytes (x ∷ l) e (suc i) = all_bytes l e.1 i

six_bytes : Each (λ byte. byte < 256) six
six_bytes = (omega arith, (omega arith, (omega arith, (omega arith, (omega arith, (omega arith, tt))))))

seven_bytes : Each (λ byte. byte < 256) seven
seven_bytes = (omega arith, (omega arith, (omega arith, (omega arith, (omega arith, (omega arith, (omega arith, tt)))))))

pub file_bytes : AllBytes frames_file_lem
file_bytes =
    all_bytes frames_file_lem (
      omega arith,
      (
        omega arith,
        (
          omega arith,
          (
            omega arith,
            (omega arith, (omega arith, (omega arith, (omega arith, (omega arith, (omega arith, seven_bytes)))))),
          ),
        ),
      ),
    )

both_good : Each Good (six ∷ seven ∷ [])
unfolding good
both_good = ((refl, all_bytes six six_bytes), ((refl, all_bytes seven seven_bytes), tt))

pub frames-good : Each Good (frames_in frames_file_lem)
frames-good = subst (Each Good) (sym its_frames) both_good

-- On flow 1 of session 0x101, with the limit 16 and the first number 0xFFFF: the first packet has the first frame and the front of the
-- second, and the second packet has its end.
abbrev pub capture : List ℕ
capture =
    0x00 ∷ 0x03 ∷ 1 ∷ 0 ∷ 0 ∷ 4 ∷ 4 ∷ 0 ∷ 0 ∷ 20 ∷ 4 ∷ 0 ∷ 0 ∷ 15
    ∷ 0x00 ∷ 0x00 ∷ 0x01 ∷ 0x01
    ∷ 0x00 ∷ 0x00 ∷ 0x01 ∷ 0x01 ∷ 0x41 ∷ 0x02 ∷ 0xFF ∷ 0xFF ∷ 0xC0 ∷ 0x06 ∷ 0x80 ∷ 0x02 ∷ six ++ (0xC0 ∷ 0x01
    ∷ 0x00 ∷ 0x00 ∷ 0x01 ∷ 0x01 ∷ 0x41 ∷ 0x01 ∷ 0x00 ∷ 0x00 ∷ 0x40 ∷ 0x05 ∷ 0x00 ∷ 0x01 ∷ 0xC1 ∷ 0xFF ∷ 0xC3 ∷ [])

pub is_made : capture_for (job_for 0x101 1 frames_file_lem) 16 0xFFFF ≡ capture
unfolding part rest put joined lengths_of any sum_to next whole_frames series_packets frame_start cut packet_of sender.cut_for
    sender.written sender.refused sender.sent_by sender.sent packets_for entries_for file_of
is_made = refl

pub not-refused : make_refusal (job_for 0x101 1 frames_file_lem) 16 0xFFFF ≡ 0
unfolding part rest put joined lengths_of any sum_to next whole_frames series_packets frame_start cut packet_of sender.cut_for
    sender.written sender.refused sender.sent_by sender.sent packets_for entries_for file_of make_refusal
not-refused = refl

-- The capture is sound, and delivers both frames.
pub capture_sound : file_refusal capture ≡ 0
unfolding any sum_to body_start file_refusal
capture_sound = refl

pub both_delivered : delivered 0x101 capture ≡ six ∷ seven ∷ []
unfolding part rest put joined lengths_of cut_by any least sum_to up_to ahead next body_at segment_at segments wanted broken opened
    settled_by settled fate_by fate at_gap in_order psp_fate hear carried_out refused received_by received answer after body_start
    nth_entry run_one begin standing answer_at frames_at delivered_before
both_delivered = refl

pub delivered-good : Each Good (delivered 0x101 capture)
delivered-good = subst (Each Good) (sym both_delivered) both_good

pub delivered_file : frames_file (delivered 0x101 capture) ≡ frames_file_lem
unfolding joined frames_file
delivered_file = ap frames_file both_delivered

-- One packet has both, and both come back.
pub one_packet : stream 0x101 capture ≡ 0x47 ∷ 0x5F ∷ 0xFE ∷ 0x10 ∷ 0x00 ∷ six ++ seven ++ replicate 170 0xFF
unfolding part rest joined lengths_of good write.left_at write.packet_of write.carried write.count_after none packet_next after_next drain
    all_good stream_by stream
one_packet = rw (capture_sound, both_delivered) refl

pub stream_comes_back_instance : got_back (stream 0x101 capture) ≡ frames_file_lem
unfolding part rest put joined lengths_of cut_by any least sum_to up_to ahead next body_at segment_at segments wanted broken opened
    settled_by settled fate_by fate at_gap in_order psp_fate hear carried_out refused received_by received answer after body_start
    file_refusal nth_entry run_one begin standing answer_at frames_at delivered_before good write.left_at write.packet_of write.carried
    write.count_after none packet_next after_next drain all_good stream_by stream null_packet same all_fill may_begin found without_flag
    with_flag read_packet read_from packets_in reading frames_file got_back
stream_comes_back_instance = refl

pub programs_in_a_row_instance : got_back (stream 0x101 (capture_for (job_for 0x101 1 frames_file_lem) 16 0xFFFF)) ≡ frames_file_lem
unfolding part rest put joined lengths_of cut_by any least sum_to up_to ahead next body_at segment_at segments wanted broken opened
    settled_by settled fate_by fate at_gap in_order psp_fate hear carried_out refused received_by received answer after body_start
    file_refusal nth_entry run_one begin standing answer_at frames_at delivered_before good write.left_at write.packet_of write.carried
    write.count_after none packet_next after_next drain all_good stream_by stream null_packet same all_fill may_begin found without_flag
    with_flag read_packet read_from packets_in reading frames_file got_back whole_frames series_packets frame_start cut packet_of
    sender.cut_for sender.written sender.refused sender.sent_by sender.sent packets_for entries_for file_of
programs_in_a_row_instance = refl

-- `stream_comes_back`, applied
abbrev pub StreamComesBackHere : Type 0
StreamComesBackHere = got_back (stream 0x101 capture) ≡ frames_file_lem

pub stream_comes_back_applied : StreamComesBack → StreamComesBackHere
stream_comes_back_applied theorem = theorem 0x101 capture capture_sound delivered-good ∙ delivered_file

-- `programs_in_a_row`, applied
abbrev pub ProgramsInARowHere : Type 0
ProgramsInARowHere = got_back (stream 0x101 (capture_for (job_for 0x101 1 frames_file_lem) 16 0xFFFF)) ≡ frames_file_lem

pub programs_in_a_row_applied : ProgramsInARow → ProgramsInARowHere
programs_in_a_row_applied theorem =
    theorem 0x101 1 16 0xFFFF frames_file_lem (omega arith) (omega arith) file_bytes file_whole frames-good not-refused
