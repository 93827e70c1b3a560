-- One outcome for each call, applied: for each call one closed input, an outcome that is told and permitted, and whatever is permitted is
-- the same. It cites definitions alone, so that it can be held against wrong ones.
use Prim.Native.Nat.{ℕ}
use mathlib.Core.Path.{◌≡◌, refl}
use mathlib.Core.Bool.{false}
use mathlib.Core.List.{List, [], ◌∷◌, ◌++◌}
use lib.ListN.{take, replicate}
use denote.Ref.{Bor}
use Rattle.octets.specs.Stretch.{part, rest, put, joined, lengths_of}
use Rattle.octets.specs.Count.{any, least, sum_to, up_to}
use Rattle.octets.specs.Those.{those}
use Rattle.flow.specs.declared.Flow.{Flow}
use Rattle.flow.specs.Flow.{Judged}
use Rattle.flow.specs.Numbers.{ahead, next}
use Rattle.flow.specs.Flow.{PermitsFresh, PermitsJudge}
use Rattle.ts.specs.declared.MpegPacket.{MpegPacket}
use Rattle.ts.specs.Packet.{null_packet, PermitsNullPacket}
use Rattle.packet.specs.declared.Extent.{Extent}
use Rattle.packet.specs.Header.{ip, udp}
use Rattle.packet.specs.Segments.{body_at, segment_at, segments}
use Rattle.packet.specs.Psp.{wanted}
use Rattle.packet.specs.Check as packet
use Rattle.table.specs.declared.Kind.TheVariants as kind
use Rattle.table.specs.declared.Row.{Row}
use Rattle.table.specs.declared.Table.{Table}
use Rattle.table.specs.declared.Opening.{Opening}
use Rattle.table.specs.declared.Closing.{Closing}
use Rattle.table.specs.Rows.{PermitsEmpty}
use Rattle.table.specs.Broken.{broken}
use Rattle.table.specs.Calls.{asking, opened, opened_by_number, closed, PermitsOpen, PermitsOpenByNumber, PermitsClose}
use Rattle.join.specs.Slices.{Slices}
use Rattle.join.specs.Join.{settled_by, settled, fate_by, fate, at_gap, in_order, psp_fate}
use Rattle.card.specs.Hear.{hear}
use Rattle.card.specs.Receive.{Outcome, carried_out, refused, received_by, received, PermitsReceive}
use Rattle.sender.specs.Cut.{frame_start, cut}
use Rattle.sender.specs.Packet.{packet_of}
use Rattle.sender.specs.Send as sender
use Rattle.capture.specs.File as capture
use Rattle.pcap.specs.declared.Addresses.{Addresses}
use Rattle.pcap.specs.File.{is_little, wrong_fields, bad_header, whole, start, size, after, bytes_at, records_from, place_from, first_place}
use Rattle.pcap.specs.File.{records, last_place, pcap_of}
use Rattle.pcap.specs.Judge.{skip_of, entry_of}
use Rattle.pcap.specs.Import.{entries_of, skipped, all_entries, imported_by, imported, ImportOutcome, PermitsImport}
use Rattle.pcap.specs.Export.{export_of, exported_by, exported, ExportOutcome, PermitsExport}
use Rattle.pcap.specs.Reader.{PermitsBytes}
use Rattle.promises.specs.Unique.{OneOutcome, UniqueOpen, UniqueClose, UniqueReceive, UniqueSend, UniqueCheck, UniqueSegment}
use Rattle.promises.specs.Unique.{UniqueCapture, UniqueFlow, UniqueNull, UniquePcap}
use Rattle.promises.specs.Marked.{A, B, of6, of9}

-- There is a permitted outcome, it is the one that is told, and no other is permitted.
pub record Told {O : Type 0} (same : O → O → Type 0) (permits : O → Type 0) (told : O) : Type 0 where
  pub there_is : O
  pub is_permitted : permits there_is
  pub is_told : same there_is told
  pub no_other : (o : O) → permits o → same o told

pub so_told : {O : Type 0} {same : O → O → Type 0} {permits : O → Type 0} (told : O) →
    permits told → OneOutcome same permits → Told same permits told
so_told told permitted one =
    record {
      there_is = one.outcome;
      is_permitted = one.permitted;
      is_told = one.only_one one.outcome told one.permitted permitted;
      no_other = λ o p. one.only_one o told p permitted;
    }

abbrev pub Equal : {O : Type 0} → (O → Type 0) → O → Type 0
Equal permits told = Told (λ a b. a ≡ b) permits told

-- A slice that is given back is the same where it points to the same place and has the same bytes.
abbrev pub SameStretch : Bor (List ℕ) → Bor (List ℕ) → Type 0
SameStretch a b = (a.ref_ptr.0 ≡ b.ref_ptr.0) × (a.ref_ptr.1 ≡ b.ref_ptr.1) × (a.now ≡ b.now)

-- Session 0x101 is open as PSP in row 0, and its flow 1 stands as told; 0x103 may be open as D-MPT in row 1.
abbrev zeros : Flow
zeros = record { heard = 0; expected = 0; held = 0 }

abbrev closed_row : Row
closed_row = record { id = 0; kind = 0; flows = replicate 4 zeros }

abbrev table : Flow → Row → Table
table flow row =
    record {
      rows = record { id = 0x101; kind = 1; flows = zeros ∷ flow ∷ zeros ∷ zeros ∷ [] } ∷ row ∷ replicate 4 closed_row;
    }

abbrev holds_2 : Flow
holds_2 = record { heard = 1; expected = 0; held = 2 }

abbrev before : Table
before = table holds_2 closed_row

-- `unique_open`: 0x103 is opened as D-MPT, by the kind and by its number
abbrev opening : Opening
opening = record { code = 0; table = table holds_2 (record { id = 0x103; kind = 2; flows = replicate 4 zeros }) }

opens_so : PermitsOpen before (asking kind.Dmpt 0x103) opening
unfolding any least sum_to broken opened
opens_so = refl

opens_by_number_so : PermitsOpenByNumber before 0x103 2 opening
unfolding any least sum_to broken opened opened_by_number
opens_by_number_so = refl

abbrev pub UniqueOpenHere : Type 0
UniqueOpenHere = Equal (PermitsOpen before (asking kind.Dmpt 0x103)) opening × Equal (PermitsOpenByNumber before 0x103 2) opening

pub unique_open_applied : UniqueOpen → UniqueOpenHere
unique_open_applied theorem = (
  so_told opening opens_so (theorem.0 before (asking kind.Dmpt 0x103)),
  so_told opening opens_by_number_so (theorem.1 before 0x103 2),
)

-- `unique_close`: 0x101 is closed, and 2 bytes are dropped
abbrev closing : Closing
closing = record { code = 0; dropped = 2; table = record { rows = replicate 6 closed_row } }

closes_so : PermitsClose before 0x101 closing
unfolding any least sum_to broken closed
closes_so = refl

abbrev pub UniqueCloseHere : Type 0
UniqueCloseHere = Equal (PermitsClose before 0x101) closing

pub unique_close_applied : UniqueClose → UniqueCloseHere
unique_close_applied theorem = so_told closing closes_so (theorem before 0x101)

-- `unique_receive`: B comes, and its 7 bytes are joined to the 2 that are held
abbrev lent : Slices
lent =
    record {
      holding = replicate 2048 3 ++ (0x21 ∷ 0x22 ∷ replicate 47102 3);
      output = replicate 6144 6;
      lengths = replicate 127 7;
    }

abbrev hearing : Outcome
hearing =
    record {
      answer = record {
        code = 0;
        frames = 1;
        bytes = 9;
        dropped = 0;
        gap = 0;
        table = table (record { heard = 1; expected = 1; held = 0 }) closed_row;
      };
      slices = record {
        holding = replicate 2048 3 ++ (0x21 ∷ 0x22 ∷ replicate 47102 3);
        output = of9 ++ replicate 6135 6;
        lengths = 9 ∷ replicate 126 7;
      };
    }

hears_so : PermitsReceive before (ip B) lent hearing
unfolding part rest put joined lengths_of any least sum_to up_to ahead next body_at segment_at segments wanted broken settled_by settled
    fate_by fate at_gap in_order psp_fate hear carried_out refused received_by received
hears_so =
    record {
      its_number = refl;
      its_frames = refl;
      its_bytes = refl;
      its_dropped = refl;
      its_gap = refl;
      its_table = refl;
      its_holding = refl;
      its_output = refl;
      its_lengths = refl;
    }

abbrev pub UniqueReceiveHere : Type 0
UniqueReceiveHere = Equal (PermitsReceive before (ip B) lent) hearing

pub unique_receive_applied : UniqueReceive → UniqueReceiveHere
unique_receive_applied theorem = so_told hearing hears_so (theorem before (ip B) lent)

-- `unique_send`: the first packet of M12, with 4 bytes behind it that stay as they were
abbrev asked : sender.Asked
asked =
    record {
      session = 0x101;
      flow = 1;
      number = 0xFFFF;
      limit = 16;
      bytes = of6 ++ of9;
      lengths = 6 ∷ 9 ∷ [];
      position = record { frame = 0; offset = 0 };
      output = replicate 24 5;
    }

abbrev sending : sender.SendOutcome
sending =
    record {
      answer = record { code = 0; length = 20; position = record { frame = 1; offset = 2 }; number = 0 };
      output = A ++ replicate 4 5;
    }

sends_so : sender.PermitsSend asked sending
unfolding part put joined any sum_to next frame_start cut packet_of sender.cut_for sender.written sender.refused sender.sent_by sender.sent
sends_so = record { its_code = refl; its_length = refl; its_position = refl; its_number = refl; its_output = refl }

abbrev pub UniqueSendHere : Type 0
UniqueSendHere = Equal (sender.PermitsSend asked) sending

pub unique_send_applied : UniqueSend → UniqueSendHere
unique_send_applied theorem = so_told sending sends_so (theorem asked)

-- `unique_check`: A without its last byte is answered 10
checks_so : packet.PermitsCheck 1 (ip (take 19 A)) 10
unfolding packet.check packet.check_refusals rest any sum_to body_at wanted
checks_so = refl

abbrev pub UniqueCheckHere : Type 0
UniqueCheckHere = Equal (packet.PermitsCheck 1 (ip (take 19 A))) 10

pub unique_check_applied : UniqueCheck → UniqueCheckHere
unique_check_applied theorem = so_told 10 checks_so (theorem 1 (ip (take 19 A)))

-- `unique_segment`: A over UDP lies in block 3 of memory, from place 1,000 on; its second segment starts at its byte 22
abbrev a_lies : Bor (List ℕ)
a_lies = record { ref_ptr = (3, 1000); now = 0x00 ∷ 0x03 ∷ 0x00 ∷ 0x00 ∷ A }

abbrev segment_lies : Bor (List ℕ)
segment_lies = record { ref_ptr = (3, 1022); now = 0x21 ∷ 0x22 ∷ [] }

abbrev extent : Extent
extent = record { start = 22; size = 2 }

segment_so : packet.PermitsSegment 1 2 a_lies 1 segment_lies
unfolding packet.check_refusals packet.cause_refusals packet.segment_cause packet.segment_extent packet.segment_given part rest any sum_to
    body_at wanted
segment_so = record { in_the_packet = refl; at_its_place = refl; its_bytes = refl }

cause_so : packet.PermitsSegmentCause 1 (udp a_lies.now) 1 0
unfolding packet.check_refusals packet.cause_refusals packet.segment_cause rest any sum_to body_at wanted
cause_so = refl

extent_so : packet.PermitsSegmentExtent 1 (udp a_lies.now) 1 extent
unfolding packet.check_refusals packet.cause_refusals packet.segment_cause packet.segment_extent rest any sum_to body_at wanted
extent_so = refl

-- copied into an output of three bytes
abbrev copied : packet.CopyOutcome
copied = record { answer = 2; output = 0x21 ∷ 0x22 ∷ 0x63 ∷ [] }

copied_so : packet.PermitsSegmentCopy 1 (udp a_lies.now) 1 (0x61 ∷ 0x62 ∷ 0x63 ∷ []) copied
unfolding packet.check_refusals packet.cause_refusals packet.segment_cause packet.segment_extent packet.segment_given
    packet.segment_copied part rest put any sum_to body_at wanted
copied_so = refl

abbrev pub UniqueSegmentHere : Type 0
UniqueSegmentHere =
    Told SameStretch (packet.PermitsSegment 1 2 a_lies 1) segment_lies
    × Equal (packet.PermitsSegmentCause 1 (udp a_lies.now) 1) 0
    × Equal (packet.PermitsSegmentExtent 1 (udp a_lies.now) 1) extent
    × Equal (packet.PermitsSegmentCopy 1 (udp a_lies.now) 1 (0x61 ∷ 0x62 ∷ 0x63 ∷ [])) copied

pub unique_segment_applied : UniqueSegment → UniqueSegmentHere
unique_segment_applied theorem =
    let one = theorem 1 2 a_lies 1 in
    let copy = one.3 (0x61 ∷ 0x62 ∷ 0x63 ∷ []) in
    let place = so_told extent extent_so one.2 in
    (so_told segment_lies segment_so one.0, so_told 0 cause_so one.1, place, so_told copied copied_so copy)

-- `unique_capture`: a file that opens session 0x101 and has A; the body of its second entry starts at its byte 14
abbrev file_lies : Bor (List ℕ)
file_lies =
    record {
      ref_ptr = (5, 200);
      now = 0x00 ∷ 0x02 ∷ 1 ∷ 0 ∷ 0 ∷ 4 ∷ 4 ∷ 0 ∷ 0 ∷ 20 ∷ 0x00 ∷ 0x00 ∷ 0x01 ∷ 0x01 ∷ A;
    }

abbrev body_lies : Bor (List ℕ)
body_lies = record { ref_ptr = (5, 214); now = A }

file_so : capture.PermitsCheck file_lies.now 0
unfolding any sum_to capture.body_start capture.file_refusal
file_so = refl

body_so : capture.PermitsBody file_lies 1 body_lies
unfolding part sum_to capture.body_start capture.nth_entry
body_so = record { in_the_file = refl; at_its_place = refl; its_bytes = refl }

abbrev pub UniqueCaptureHere : Type 0
UniqueCaptureHere = Equal (capture.PermitsCheck file_lies.now) 0 × Told SameStretch (capture.PermitsBody file_lies 1) body_lies

pub unique_capture_applied : UniqueCapture → UniqueCaptureHere
unique_capture_applied theorem =
    let one = theorem file_lies 1 in
    (so_told 0 file_so one.0, so_told body_lies body_so one.1)

-- `unique_flow`: number 4 where 65,535 is expected
abbrev expects_last : Flow
expects_last = record { heard = 1; expected = 0xFFFF; held = 2 }

abbrev judged : Judged
judged = record { flow = record { heard = 1; expected = 5; held = 2 }; gap = 5; late = false }

judges_so : PermitsJudge expects_last 4 judged
unfolding ahead next
judges_so = refl

abbrev pub UniqueFlowHere : Type 0
UniqueFlowHere =
    Equal PermitsFresh zeros × Equal (PermitsJudge expects_last 4) judged × Equal PermitsEmpty (record { rows = replicate 6 closed_row })

pub unique_flow_applied : UniqueFlow → UniqueFlowHere
unique_flow_applied theorem = (
  so_told zeros refl theorem.0,
  so_told judged judges_so (theorem.1 expects_last 4),
  so_told (record { rows = replicate 6 closed_row }) refl theorem.2,
)

-- `unique_null`: PID 0x1FFF, the count 0, and then 0xFF
abbrev the_null : List ℕ
the_null = 0x47 ∷ 0x1F ∷ 0xFF ∷ 0x10 ∷ replicate 184 0xFF

null_so : PermitsNullPacket the_null
unfolding null_packet
null_so = refl

abbrev null_struct : MpegPacket
null_struct = record { bytes = the_null }

abbrev pub UniqueNullHere : Type 0
UniqueNullHere = Equal PermitsNullPacket the_null × Equal (λ (p : MpegPacket). PermitsNullPacket p.bytes) null_struct

pub unique_null_applied : UniqueNull → UniqueNullHere
unique_null_applied theorem = (so_told the_null null_so theorem.0, so_told null_struct null_so theorem.1)

-- `unique_pcap`: a file with one record, of four bytes, which is no packet; a session named, and one exported that has nothing to export
abbrev pcap_lies : Bor (List ℕ)
pcap_lies =
    record {
      ref_ptr = (5, 200);
      now =
          0xA1 ∷ 0xB2 ∷ 0xC3 ∷ 0xD4 ∷ 0x00 ∷ 0x02 ∷ 0x00 ∷ 0x04 ∷ (replicate 14 0 ++ (0x00 ∷ 0x01 ∷ []))
          ++ (replicate 8 0 ++ (0x00 ∷ 0x00 ∷ 0x00 ∷ 0x04 ∷ replicate 4 0)) ++ (1 ∷ 2 ∷ 3 ∷ 4 ∷ []);
    }

abbrev taken_in : ImportOutcome
taken_in =
    record {
      answer = record { code = 0; length = 10; packets = 0; foreign = 1; misfits = 0; fragments = 0; others = 0 };
      output = 0 ∷ 1 ∷ 1 ∷ 0 ∷ 0 ∷ 4 ∷ 0 ∷ 0 ∷ 1 ∷ 1 ∷ 7 ∷ [];
    }

abbrev nobody : Addresses
nobody = record { sender = replicate 6 0; receiver = replicate 6 0; source = 0; target = 0 }

abbrev sent_out : ExportOutcome
sent_out =
    record {
      answer = record { code = 0; length = 24; packets = 0; opens = 1; closes = 0 };
      output =
          0xD4 ∷ 0xC3 ∷ 0xB2 ∷ 0xA1 ∷ 0x02 ∷ 0x00 ∷ 0x04 ∷ 0x00 ∷ replicate 8 0
          ++ (0xFF ∷ 0xFF ∷ 0x00 ∷ 0x00 ∷ 0x01 ∷ 0x00 ∷ 0x00 ∷ 0x00 ∷ []);
    }

abbrev opens_alone : List ℕ
opens_alone = 0 ∷ 1 ∷ 1 ∷ 0 ∷ 0 ∷ 4 ∷ 0 ∷ 0 ∷ 1 ∷ 1 ∷ []

abbrev bytes_lie : Bor (List ℕ)
bytes_lie = record { ref_ptr = (5, 240); now = 1 ∷ 2 ∷ 3 ∷ 4 ∷ [] }

taken_in_so : PermitsImport (0x101 ∷ []) pcap_lies.now (replicate 11 7) taken_in
unfolding part put joined those is_little wrong_fields bad_header whole start size after bytes_at
    records_from place_from first_place records last_place skip_of entry_of entries_of skipped all_entries
    capture.file_of imported_by imported
taken_in_so = refl

sent_out_so : PermitsExport nobody opens_alone (replicate 24 7) sent_out
unfolding any sum_to up_to part put joined those capture.body_start capture.nth_entry capture.entries pcap_of export_of
    exported_by exported
sent_out_so = refl

bytes_so : PermitsBytes pcap_lies 24 false bytes_lie
unfolding part whole start size bytes_at
bytes_so = record { in_the_file = refl; at_its_place = refl; its_bytes = refl }

abbrev pub UniquePcapHere : Type 0
UniquePcapHere =
    Equal (PermitsImport (0x101 ∷ []) pcap_lies.now (replicate 11 7)) taken_in
    × Equal (PermitsExport nobody opens_alone (replicate 24 7)) sent_out
    × Told SameStretch (PermitsBytes pcap_lies 24 false) bytes_lie

pub unique_pcap_applied : UniquePcap → UniquePcapHere
unique_pcap_applied theorem = (
  so_told taken_in taken_in_so (theorem.0 (0x101 ∷ []) pcap_lies.now (replicate 11 7)),
  so_told sent_out sent_out_so (theorem.1 nobody opens_alone (replicate 24 7)),
  so_told bytes_lie bytes_so (theorem.2 pcap_lies 24 false),
)
