-- A closed instance of same-packet, at the edges: A with every bit set that nobody reads; a segment and where it lies, and one that there
-- is not; 7 bytes from the session ID on, and 4,100; and a session ID whose top bit is set, which over IP is no T. And the statement,
-- applied. It cites definitions alone, so that it can be held against wrong ones.
use Prim.Native.Nat.{ℕ}
use mathlib.Core.Path.{◌≡◌, refl, ap, ◌∙◌}
use mathlib.Core.Bool.{false}
use mathlib.Core.List.{List, [], ◌∷◌, ◌++◌}
use lib.ListN.{take, set, replicate}
use Rattle.octets.specs.Stretch.{part, rest, put, joined, lengths_of}
use Rattle.octets.specs.Count.{any, least, sum_to, up_to}
use Rattle.flow.specs.Numbers.{ahead, next}
use Rattle.flow.specs.Flow.{fresh}
use Rattle.packet.specs.Header.{Packet, ip, udp, in_udp, not_version3}
use Rattle.packet.specs.Segments.{body_at, segment_at, segments}
use Rattle.packet.specs.Psp.{wanted}
use Rattle.packet.specs.Check.{check_refusals, check, cause_refusals, segment_cause, segment_extent, segment_given}
use Rattle.table.specs.declared.Table.{Table}
use Rattle.table.specs.Rows.{closed_row}
use Rattle.table.specs.Broken.{broken}
use Rattle.join.specs.Slices.{Slices}
use Rattle.join.specs.Join.{settled_by, settled, fate_by, fate, at_gap, in_order, psp_fate}
use Rattle.card.specs.Hear.{hear}
use Rattle.card.specs.Receive.{Outcome, carried_out, refused, received_by, received}
use Rattle.promises.specs.Transports.{moved_on, SamePacket}
use Rattle.promises.specs.Marked.{A, of6}

-- the longest packet: two whole frames, of 2,048 bytes and of 2,040
abbrev as_long : List ℕ
as_long =
    0x00 ∷ 0x00 ∷ 0x01 ∷ 0x01 ∷ 0x41 ∷ 0x02 ∷ 0x00 ∷ 0x00 ∷ 0xC8 ∷ 0x00 ∷ 0xC7 ∷ 0xF8 ∷ (replicate 2048 0x56 ++ replicate 2040 0x57)

-- every bit but T's and the version's
abbrev all_set : List ℕ → Packet
all_set packet = udp (0x7F ∷ 0xF3 ∷ 0xFF ∷ 0xFF ∷ packet)

same_check_instance : (check 1 (all_set A) ≡ 0) × (check 1 (ip A) ≡ 0)
    × (check 1 (in_udp (take 7 A)) ≡ 2) × (check 1 (ip (take 7 A)) ≡ 2)
    × (check 1 (in_udp as_long) ≡ 0) × (check 1 (ip as_long) ≡ 0)
    × (check 1 (in_udp (set A 0 0x80)) ≡ 0) × (check 1 (ip (set A 0 0x80)) ≡ 0)
unfolding check check_refusals body_at rest wanted any sum_to
same_check_instance = (refl, refl, refl, refl, refl, refl, refl, refl)

same_segment_instance : (segment_given 1 (all_set A) 1 ≡ 0x21 ∷ 0x22 ∷ []) × (segment_given 1 (ip A) 1 ≡ 0x21 ∷ 0x22 ∷ [])
    × (segment_extent 1 (all_set A) 1 ≡ record { start = 22; size = 2 }) × (segment_extent 1 (ip A) 1 ≡ record { start = 18; size = 2 })
    × (segment_cause 1 (all_set A) 2 ≡ 14) × (segment_cause 1 (ip A) 2 ≡ 14)
unfolding segment_given segment_extent segment_cause cause_refusals check_refusals body_at part rest wanted any sum_to
same_segment_instance = (refl, refl, refl, refl, refl, refl)

-- `same-packet`, applied to A with every such bit set. On a fresh flow it gives its frame of 6, and 2 bytes are held.
abbrev before : Table
before =
    record {
      rows =
          record { id = 0x101; kind = 1; flows = replicate 4 fresh }
          ∷ closed_row
          ∷ closed_row
          ∷ closed_row
          ∷ closed_row
          ∷ closed_row
          ∷ [];
    }

abbrev lent : Slices
lent = record { holding = replicate 49152 0; output = replicate 6144 0; lengths = replicate 127 0 }

abbrev comes_to : Outcome
comes_to =
    record {
      answer = record {
        code = 0;
        frames = 1;
        bytes = 6;
        dropped = 0;
        gap = 0;
        table = record {
          rows =
              record { id = 0x101; kind = 1; flows = fresh ∷ record { heard = 1; expected = 0; held = 2 } ∷ fresh ∷ fresh ∷ [] }
              ∷ closed_row
              ∷ closed_row
              ∷ closed_row
              ∷ closed_row
              ∷ closed_row
              ∷ [];
        };
      };
      slices = record {
        holding = replicate 2048 0 ++ (0x21 ∷ 0x22 ∷ replicate 47102 0);
        output = of6 ++ replicate 6138 0;
        lengths = 6 ∷ replicate 126 0;
      };
    }

version_3 : not_version3 (all_set A) ≡ false
version_3 = refl

over_ip : received before (ip A) lent ≡ comes_to
unfolding part rest put joined lengths_of any least sum_to up_to ahead next body_at segment_at segments wanted broken settled_by settled
    fate_by fate at_gap in_order psp_fate hear carried_out refused received_by received
over_ip = refl

segment_1_there : segment_cause 1 (ip A) 1 ≡ 0
unfolding segment_cause cause_refusals check_refusals body_at rest wanted any sum_to
segment_1_there = refl

abbrev pub SamePacketHere : Type 0
SamePacketHere =
    (received before (all_set A) lent ≡ comes_to)
    × (check 1 (all_set A) ≡ 0)
    × (segment_cause 1 (all_set A) 2 ≡ 14)
    × (segment_given 1 (all_set A) 1 ≡ 0x21 ∷ 0x22 ∷ [])
    × (segment_extent 1 (all_set A) 1 ≡ record { start = 22; size = 2 })

pub same-packet_applied : SamePacket → SamePacketHere
same-packet_applied theorem =
    let same = theorem 0x7F 0xF3 0xFF 0xFF A version_3 in (
      same.same_received before lent ∙ over_ip,
      same.same_check 1 ∙ same_check_instance.1,
      same.same_cause 1 2 ∙ same_segment_instance.5,
      same.same_segment 1 1 ∙ same_segment_instance.1,
      same.same_place 1 1 segment_1_there ∙ ap moved_on same_segment_instance.3,
    )
