-- Closed instances of the limits and of refusals: a call that delivers 127 frames, one that delivers the longest frame and more, and
-- refused calls. And the two statements, applied to closed cards. It cites definitions alone, so that it can be held against wrong ones.
use Prim.Native.Nat.{ℕ, zero, suc, ◌<◌, ◌≤◌}
use mathlib.Core.Path.{◌≡◌, refl}
use mathlib.Core.List.{List, [], ◌∷◌, ◌++◌}
use native.Mathlib.Omega.{arith}
use lib.ListN.{length, replicate}
use Rattle.octets.specs.Stretch.{part, rest, put, joined, lengths_of, cut_by}
use Rattle.octets.specs.Count.{any, least, sum_to, up_to}
use Rattle.octets.specs.Each.{Each}
use Rattle.flow.specs.Numbers.{ahead, next}
use Rattle.flow.specs.declared.Flow.{Flow}
use Rattle.flow.specs.Flow.{fresh}
use Rattle.packet.specs.Header.{Packet, packet_by, ip, udp, in_udp}
use Rattle.packet.specs.Segments.{body_at, segment_at, segments}
use Rattle.packet.specs.Psp.{wanted}
use Rattle.table.specs.declared.Kind.TheVariants as kind
use Rattle.table.specs.Rows.{closed_row}
use Rattle.table.specs.Broken.{broken}
use Rattle.table.specs.Calls.{asking, opened, closed}
use Rattle.join.specs.Join.{settled_by, settled, fate_by, fate, at_gap, in_order, psp_fate}
use Rattle.card.specs.Hear.{hear}
use Rattle.card.specs.Receive.{carried_out, refused, received_by, received}
use Rattle.card.specs.History.{Card, Arrival, Call, opens, closes, hands, frames_of, answer, after}
use Rattle.sender.specs.Send as sender
use Rattle.promises.specs.Limits.{WithinLimits}
use Rattle.pcap.specs.declared.Addresses.{Addresses}
use Rattle.pcap.specs.File.{bad_header}
use Rattle.pcap.specs.Import.{imported_by, imported}
use Rattle.pcap.specs.Export.{exported_by, exported}
use Rattle.promises.specs.Refusals.{RefusalsChangeNothing}
use Rattle.promises.specs.Marked.{A, B, whole3, of6, of9, beginning, hand, handed-card, opened_card}

-- 127 whole frames of one byte in one packet, which is all that the count can say
abbrev entries : ℕ → List ℕ
entries zero = []
entries (suc n) = 0xC0 ∷ 0x01 ∷ entries n

abbrev as_many : List ℕ
as_many = 0x00 ∷ 0x00 ∷ 0x01 ∷ 0x01 ∷ 0x41 ∷ 0x7F ∷ 0x00 ∷ 0x00 ∷ (entries 127 ++ replicate 127 0x77)

-- behind 2,047 held bytes the longest packet, of 4,100 bytes over IP and 4,104 over UDP: one byte that ends the frame, a frame of 2,048,
-- and one of 2,037
abbrev as_long : List ℕ
as_long =
    0x00 ∷ 0x00 ∷ 0x01 ∷ 0x01 ∷ 0x41 ∷ 0x03 ∷ 0x00 ∷ 0x01 ∷ 0x40 ∷ 0x01 ∷ 0xC8 ∷ 0x00 ∷ 0xC7 ∷ 0xF5
    ∷ (0x55 ∷ (replicate 2048 0x56 ++ replicate 2037 0x57))

abbrev lent : Packet → Call
lent packet = hands (record { packet = packet; output = replicate 6144 6; lengths = replicate 127 7 })

within_limits_instance : ((answer opened_card (hand as_many)).frames ≡ 127)
    × (frames_of (answer opened_card (hand as_many)) ≡ replicate 127 (0x77 ∷ []))
    × ((answer (handed-card opened_card (beginning 2047 ∷ [])) (hand as_long)).frames ≡ 3)
    × ((answer (handed-card opened_card (beginning 2047 ∷ [])) (hand as_long)).bytes ≡ 6133)
    × ((answer (handed-card opened_card (beginning 2047 ∷ [])) (lent (in_udp as_long))).bytes ≡ 6133)
unfolding part rest put joined lengths_of cut_by any least sum_to up_to ahead next body_at segment_at segments wanted broken opened
    settled_by settled fate_by fate at_gap in_order psp_fate hear carried_out refused received_by received answer after handed-card
within_limits_instance = (refl, refl, refl, refl, refl)

-- a packet that comes again; one over UDP with T set, and one by a transport that there is not; an open of an open session, a close of a
-- closed one: the slices are as they were lent
refusals_instance : ((answer (handed-card opened_card (A ∷ B ∷ [])) (lent (ip B))).code ≡ 12)
    × ((answer (handed-card opened_card (A ∷ B ∷ [])) (lent (ip B))).output ≡ replicate 6144 6)
    × ((answer (handed-card opened_card (A ∷ B ∷ [])) (lent (ip B))).lengths ≡ replicate 127 7)
    × ((answer opened_card (lent (udp (0x80 ∷ 0x03 ∷ 0x00 ∷ 0x00 ∷ B)))).code ≡ 15)
    × ((answer opened_card (lent (udp (0x80 ∷ 0x03 ∷ 0x00 ∷ 0x00 ∷ B)))).output ≡ replicate 6144 6)
    × (after opened_card (lent (udp (0x80 ∷ 0x03 ∷ 0x00 ∷ 0x00 ∷ B))) ≡ opened_card)
    × ((answer opened_card (lent (packet_by 3 B))).code ≡ 24)
    × (after opened_card (lent (packet_by 3 B)) ≡ opened_card)
    × ((answer opened_card (opens (asking kind.Psp 0x101))).code ≡ 22)
    × ((answer opened_card (closes 0x102)).code ≡ 25)
    × ((after opened_card (opens (asking kind.Psp 0x101))).table ≡ opened_card.table)
    × ((after opened_card (closes 0x102)).table ≡ opened_card.table)
unfolding part rest put joined lengths_of cut_by any least sum_to up_to ahead next body_at segment_at segments wanted broken opened closed
    settled_by settled fate_by fate at_gap in_order psp_fate hear carried_out refused received_by received answer after handed-card
refusals_instance = (refl, refl, refl, refl, refl, refl, refl, refl, refl, refl, refl, refl)

-- `within_limits`, applied to cards on which flow 1 of session 0x101 stands as told: the packet of 127 frames on a fresh flow; the longest
-- one behind 2,047 held bytes; and one that is 32,767 ahead.
abbrev card : Flow → List ℕ → Card
card flow places =
    record {
      table = record {
        rows =
            record { id = 0x101; kind = 1; flows = fresh ∷ flow ∷ fresh ∷ fresh ∷ [] }
            ∷ closed_row
            ∷ closed_row
            ∷ closed_row
            ∷ closed_row
            ∷ closed_row
            ∷ [];
      };
      holding = replicate 2048 0 ++ places;
    }

abbrev just_open : Card
just_open = card fresh (replicate 47104 0)

abbrev holds_2047 : Card
holds_2047 = card (record { heard = 1; expected = 1; held = 2047 }) (replicate 2047 0x44 ++ replicate 45057 0)

abbrev holds_2 : Card
holds_2 = card (record { heard = 1; expected = 0; held = 2 }) (0x21 ∷ 0x22 ∷ replicate 47102 0)

abbrev Sized : List ℕ → Type 0
Sized frame = (1 ≤ length frame) × (length frame ≤ 2048)

abbrev pub WithinLimitsHere : Type 0
WithinLimitsHere =
    ((answer just_open (hand as_many)).frames ≤ 127)
    × ((answer holds_2047 (hand as_long)).bytes ≤ 6144)
    × ((answer holds_2 (hand (whole3 0x7FFF))).gap < 32768)
    × Each Sized (frames_of (answer holds_2047 (hand as_long)))

pub within_limits_applied : WithinLimits → WithinLimitsHere
within_limits_applied theorem = (
  (theorem just_open (hand as_many)).frames-few,
  (theorem holds_2047 (hand as_long)).bytes-few,
  (theorem holds_2 (hand (whole3 0x7FFF))).gap-small,
  (theorem holds_2047 (hand as_long)).frames-sized,
)

-- What it excludes: an empty frame, and one of 2,049 bytes behind another one.
not-empty : Sized [] → ⊥
not-empty sized = omega (arith, sized.0)

not_2049 : Sized (replicate 2049 0) → ⊥
not_2049 sized = omega (arith, sized.1)

sized_excludes : (Each Sized ([] ∷ []) → ⊥) × (Each Sized (of6 ∷ replicate 2049 0 ∷ []) → ⊥)
sized_excludes = ((λ each. not-empty each.0), (λ each. not_2049 each.1.0))

-- They are as many, as long and as far as that: the limits are no higher than they must be.
limits_reached : ((answer just_open (hand as_many)).frames ≡ 127)
    × ((answer holds_2047 (hand as_long)).bytes ≡ 6133)
    × ((answer holds_2 (hand (whole3 0x7FFF))).gap ≡ 32767)
unfolding part rest put joined lengths_of any least sum_to up_to ahead next body_at segment_at segments wanted broken settled_by settled
    fate_by fate at_gap in_order psp_fate hear carried_out refused received_by received answer
limits_reached = (refl, refl, refl)

-- `refusals_change_nothing`, applied: a packet that is late (12), an open of the session that is open (22), a close of one that is not
-- (25), a send with a limit of 15 (32), an import of no bytes (61), and an export of a capture that is cut (42).
abbrev late : Arrival
late = record { packet = ip (whole3 0x8000); output = replicate 6144 6; lengths = replicate 127 7 }

is_late : (answer holds_2 (hands late)).code ≡ 0 → ⊥
unfolding rest any least sum_to ahead body_at wanted broken refused received_by received answer
is_late e = omega (arith, e)

is_open_lem : (answer holds_2 (opens (asking kind.Psp 0x101))).code ≡ 0 → ⊥
unfolding any least broken sum_to opened answer
is_open_lem e = omega (arith, e)

is_closed : (answer holds_2 (closes 0x102)).code ≡ 0 → ⊥
unfolding any least broken sum_to closed answer
is_closed e = omega (arith, e)

abbrev limit_15 : sender.Asked
limit_15 =
    record {
      session = 0x101;
      flow = 1;
      number = 7;
      limit = 15;
      bytes = of6 ++ of9;
      lengths = 6 ∷ 9 ∷ [];
      position = record { frame = 1; offset = 2 };
      output = replicate 20 6;
    }

is_unsent : (sender.sent limit_15).answer.code ≡ 0 → ⊥
unfolding any sum_to sender.refused sender.sent_by sender.sent
is_unsent e = omega (arith, e)

not-imported : (imported (0x101 ∷ []) [] (replicate 20 6)).answer.code ≡ 0 → ⊥
unfolding bad_header imported_by imported
not-imported e = omega (arith, e)

abbrev nobody : Addresses
nobody = record { sender = replicate 6 0; receiver = replicate 6 0; source = 0; target = 0 }

not-exported : (exported nobody (0 ∷ 1 ∷ []) (replicate 20 6)).answer.code ≡ 0 → ⊥
unfolding exported_by exported
not-exported e = omega (arith, e)

abbrev pub RefusalsChangeNothingHere : Type 0
RefusalsChangeNothingHere =
    (after holds_2 (hands late) ≡ holds_2)
    × (after holds_2 (opens (asking kind.Psp 0x101)) ≡ holds_2)
    × ((answer holds_2 (hands late)).frames ≡ 0)
    × ((answer holds_2 (hands late)).bytes ≡ 0)
    × ((answer holds_2 (closes 0x102)).dropped ≡ 0)
    × ((answer holds_2 (hands late)).gap ≡ 0)
    × ((answer holds_2 (hands late)).output ≡ replicate 6144 6)
    × ((answer holds_2 (hands late)).lengths ≡ replicate 127 7)
    × ((sender.sent limit_15).answer.length ≡ 0)
    × ((sender.sent limit_15).answer.position ≡ record { frame = 1; offset = 2 })
    × ((sender.sent limit_15).answer.number ≡ 7)
    × ((sender.sent limit_15).output ≡ replicate 20 6)
    × ((imported (0x101 ∷ []) [] (replicate 20 6)).answer.length ≡ 0)
    × ((imported (0x101 ∷ []) [] (replicate 20 6)).output ≡ replicate 20 6)
    × ((exported nobody (0 ∷ 1 ∷ []) (replicate 20 6)).answer.length ≡ 0)
    × ((exported nobody (0 ∷ 1 ∷ []) (replicate 20 6)).output ≡ replicate 20 6)

pub refusals_change_nothing_applied : RefusalsChangeNothing → RefusalsChangeNothingHere
refusals_change_nothing_applied theorem =
    let counts = theorem.counts holds_2 (hands late) is_late in
    let slices = theorem.slices holds_2 late is_late in
    let sends = theorem.sends limit_15 is_unsent in
    let imports = theorem.imports (0x101 ∷ []) [] (replicate 20 6) not-imported in
    let exports = theorem.exports nobody (0 ∷ 1 ∷ []) (replicate 20 6) not-exported in (
      theorem.table-and-places holds_2 (hands late) is_late,
      theorem.table-and-places holds_2 (opens (asking kind.Psp 0x101)) is_open_lem,
      counts.0,
      counts.1,
      (theorem.counts holds_2 (closes 0x102) is_closed).2,
      counts.3,
      slices.0,
      slices.1,
      sends.0,
      sends.1,
      sends.2,
      sends.3,
      imports.0,
      imports.1,
      exports.0,
      exports.1,
    )
