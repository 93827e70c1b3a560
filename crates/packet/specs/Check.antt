-- The packet check without a table, and segment k of a packet (document 01, end of "Refusal numbers"; document 02, W1 and W2). The check
-- answers 24 for another kind than 1 and 2 or another transport, else the first of 2, 3, 15, 4, 6, 7 and 9 to 11 that applies, else 0.
-- Segment k is a stretch of the caller's own packet, an empty one where the request is refused; its cause is 24 for another kind than
-- PSP, else the check's number, then 14 where the packet has no segment k, else 0.
use Rattle.std.specs.Prelude.{ℕ, zero, suc, ◌+◌, ◌≡◌, Result, Ok, Err, Bool, cond, not, ◌&&◌, List, [], ◌∷◌, ◌++◌, eqb, leb, length}
use Rattle.std.specs.Borrow.{Bor}
use Rattle.refusal.specs.declared.Refusal as error
use Rattle.refusal.specs.Refusal.{Refusal, ◌when◌, first}
use Rattle.refusal.specs.Number.{number_of}
use Rattle.octets.specs.Stretch.{part, put}
use Rattle.packet.specs.declared.Extent.{Extent}
use Rattle.packet.specs.Header.{Packet, packet_by, lead, id_length, sub, before_session, segment_count}
use Rattle.packet.specs.Segments.{entry_width, body_at, length_at}
use Rattle.packet.specs.Psp.{psp_refusals}
use Rattle.packet.specs.Dmpt.{dmpt_refusals}

-- the kinds as the host program numbers them
abbrev pub kind_psp : ℕ
kind_psp = 1

abbrev pub kind_dmpt : ℕ
kind_dmpt = 2

abbrev pub kind_unknown : ℕ → Bool
kind_unknown kind = not (eqb kind kind_psp) && not (eqb kind kind_dmpt)

unfoldable pub check_refusals : ℕ → Packet → List Refusal
check_refusals kind p =
    24 when kind_unknown kind
    ∷ before_session p
    ++ cond (eqb kind kind_psp) (psp_refusals entry_width (sub p)) (dmpt_refusals (sub p))

unfoldable pub check : ℕ → Packet → ℕ
check kind p = first (check_refusals kind p)

-- Only PSP packets have segments.
abbrev pub segmentless : ℕ → Bool
segmentless kind = not (eqb kind kind_psp)

unfoldable pub cause_refusals : ℕ → Packet → ℕ → List Refusal
cause_refusals kind p k =
    24 when segmentless kind
    ∷ check_refusals kind p
    ++ (14 when leb (segment_count (sub p)) k ∷ [])

unfoldable pub segment_cause : ℕ → Packet → ℕ → ℕ
segment_cause kind p k = first (cause_refusals kind p k)

-- Where segment k lies in the packet: its first place, counted from the packet's first byte, and its length. A refused request is given
-- an empty stretch, and that at the packet's start, so that there is one answer. By the number of the first refusal that applies:
abbrev pub extent_by : ℕ → Packet → ℕ → Extent
extent_by zero p k =
    record {
      start = lead p + id_length + body_at entry_width (sub p) k;
      size = length_at entry_width (sub p) k;
    }
extent_by (suc c) p k = record { start = 0; size = 0 }

unfoldable pub segment_extent : ℕ → Packet → ℕ → Extent
segment_extent kind p k = extent_by (segment_cause kind p k) p k

-- the bytes given for segment k
unfoldable pub segment_given : ℕ → Packet → ℕ → List ℕ
segment_given kind p k = part p.bytes (segment_extent kind p k).start (segment_extent kind p k).size

-- Segment k copied: how long it is, whatever room there is, and the output with the segment at its front, as much of it as fits. A refused
-- request has an empty segment: the answer is 0, and the output is as it was.
pub record CopyOutcome : Type 0 where
  pub answer : ℕ
  pub output : List ℕ

unfoldable pub segment_copied : ℕ → Packet → ℕ → List ℕ → CopyOutcome
segment_copied kind p k output =
    record {
      answer = length (segment_given kind p k);
      output = put output 0 (part (segment_given kind p k) 0 (length output));
    }

-- What the calls permit, whole. A slice that is given back is a reference: `ptr` says where it points, as a block of memory and a place
-- in that block, and `now` the bytes there. So it is not enough to give back equal bytes from elsewhere in the packet, or a copy.
-- The extent and the copy are for callers that cannot be given a reference.
abbrev pub PermitsCheck : ℕ → Packet → ℕ → Type 0
PermitsCheck kind p answer = answer ≡ check kind p

abbrev pub PermitsSegmentCause : ℕ → Packet → ℕ → ℕ → Type 0
PermitsSegmentCause kind p k answer = answer ≡ segment_cause kind p k

abbrev pub PermitsSegmentExtent : ℕ → Packet → ℕ → Extent → Type 0
PermitsSegmentExtent kind p k answer = answer ≡ segment_extent kind p k

-- .. and what the code answers before C is told of it: the extent, where nothing refuses the request; else the refusal.
abbrev pub FindsSegment : ℕ → Packet → ℕ → Result Extent error.Refusal → Type 0
FindsSegment kind p k (Ok extent) = (segment_cause kind p k ≡ 0) × (extent ≡ segment_extent kind p k)
FindsSegment kind p k (Err refusal) = number_of refusal ≡ segment_cause kind p k

abbrev pub PermitsSegmentCopy : ℕ → Packet → ℕ → List ℕ → CopyOutcome → Type 0
PermitsSegmentCopy kind p k output o = o ≡ segment_copied kind p k output

pub record PermitsSegment (kind transport : ℕ) (packet : Bor (List ℕ)) (k : ℕ) (answer : Bor (List ℕ)) : Type 0 where
  pub in_the_packet : answer.ref_ptr.0 ≡ packet.ref_ptr.0
  pub at_its_place : answer.ref_ptr.1 ≡ packet.ref_ptr.1 + (segment_extent kind (packet_by transport packet.now) k).start
  pub its_bytes : answer.now ≡ segment_given kind (packet_by transport packet.now) k
