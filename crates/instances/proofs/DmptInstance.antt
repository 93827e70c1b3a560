-- A closed instance of what D-MPT delivers, on a card with other sessions; and the statement, applied to it. It cites definitions alone, so
-- that it can be held against wrong ones.
use Prim.Native.Nat.{ℕ, ◌*◌}
use mathlib.Core.Path.{◌≡◌, refl, ◌∙◌}
use mathlib.Core.Bool.{true, false}
use mathlib.Core.List.{List, [], ◌∷◌, ◌++◌}
use lib.ListN.{length, replicate}
use Rattle.octets.specs.Stretch.{part, rest, put, joined, lengths_of, cut_by}
use Rattle.octets.specs.Count.{any, least, sum_to, up_to}
use Rattle.flow.specs.Numbers.{ahead, next}
use Rattle.flow.specs.Flow.{fresh}
use Rattle.packet.specs.Header.{ip, in_udp, sub, s_set}
use Rattle.packet.specs.Segments.{body_at, segment_at, segments}
use Rattle.packet.specs.Psp.{wanted}
use Rattle.packet.specs.Dmpt.{mpeg_at, mpegs}
use Rattle.table.specs.declared.Kind.TheVariants as kind
use Rattle.table.specs.Rows.{is_dmpt, terms_at, closed_row}
use Rattle.table.specs.Broken.{broken}
use Rattle.table.specs.Calls.{asking, opened}
use Rattle.join.specs.Join.{settled_by, settled, fate_by, fate, at_gap, in_order, psp_fate}
use Rattle.pass.specs.Pass.{pass_all, dmpt_fate}
use Rattle.card.specs.Hear.{hear}
use Rattle.card.specs.Receive.{row_of, carried_out, refused, received_by, received}
use Rattle.card.specs.History.{Card, Arrival, Call, opens, hands, frames_of, answer, after, after_all, empty_card}
use Rattle.promises.specs.Words.{chosen}
use Rattle.promises.specs.Dmpt.{carrying, nulls, DmptDelivers}
use Rattle.promises.specs.Marked.{hand}

-- Session 0x103 is open as D-MPT beside 0x101 and 0x102, which holds half a frame. Its packet has S clear, and yet some number; and it has
-- two MPEG packets, the first of PID 0x1FFE and the second of PID 0x1FFF, with a bit set above that is none of the PID's.
abbrev pub others-half : List ℕ
others-half = 0x00 ∷ 0x00 ∷ 0x01 ∷ 0x02 ∷ 0x41 ∷ 0x01 ∷ 0x12 ∷ 0x34 ∷ 0x80 ∷ 0x03 ∷ 0x61 ∷ 0x62 ∷ 0x63 ∷ []

abbrev pub mpeg_some : List ℕ
mpeg_some = 0x47 ∷ 0x1F ∷ 0xFE ∷ (replicate 184 0xA1 ++ (0xA2 ∷ []))

abbrev pub mpeg_null : List ℕ
mpeg_null = 0x47 ∷ 0x5F ∷ 0xFF ∷ replicate 185 0xB1

abbrev pub dmpt_packet : List ℕ
dmpt_packet = 0x00 ∷ 0x00 ∷ 0x01 ∷ 0x03 ∷ 0x00 ∷ 0x05 ∷ 0x12 ∷ 0x34 ∷ (mpeg_some ++ mpeg_null)

abbrev pub dmpt_card : Card
dmpt_card =
    after_all (empty_card (replicate 49152 0))
    (opens (asking kind.Psp 0x102) ∷ hand others-half ∷ opens (asking kind.Dmpt 0x103) ∷ opens (asking kind.Psp 0x101) ∷ [])

-- This card, told: 0x102 has heard its packet and holds 3 bytes in the place of its flow 1, and the others are fresh.
abbrev pub dmpt_told : Card
dmpt_told =
    record {
      table = record {
        rows =
            record { id = 0x102; kind = 1; flows = fresh ∷ record { heard = 1; expected = 0x1235; held = 3 } ∷ fresh ∷ fresh ∷ [] }
            ∷ record { id = 0x103; kind = 2; flows = replicate 4 fresh }
            ∷ record { id = 0x101; kind = 1; flows = replicate 4 fresh }
            ∷ closed_row
            ∷ closed_row
            ∷ closed_row
            ∷ [];
      };
      holding = replicate 2048 0 ++ (0x61 ∷ 0x62 ∷ 0x63 ∷ replicate 47101 0);
    }

-- The packet is for a D-MPT session ..
pub dmpt_goes : (dmpt_card ≡ dmpt_told) × (is_dmpt (terms_at dmpt_card.table (row_of dmpt_card.table (ip dmpt_packet))).kind ≡ true)
unfolding part rest put joined lengths_of any least sum_to up_to ahead next body_at segment_at segments wanted broken opened settled_by
    settled fate_by fate at_gap in_order psp_fate hear carried_out refused received_by received after after_all
dmpt_goes = (refl, refl)

-- .. and accepted: the first MPEG packet is found, the second is dropped, and the card is as it was; over UDP too.
abbrev pub hand-udp : List ℕ → Call
hand-udp packet = hands (record { packet = in_udp packet; output = replicate 6144 0; lengths = replicate 127 0 })

pub dmpt_instance : ((answer dmpt_card (hand dmpt_packet)).code ≡ 0)
    × (frames_of (answer dmpt_card (hand dmpt_packet)) ≡ mpeg_some ∷ [])
    × ((answer dmpt_card (hand dmpt_packet)).dropped ≡ 188)
    × ((answer dmpt_card (hand dmpt_packet)).gap ≡ 0)
    × (after dmpt_card (hand dmpt_packet) ≡ dmpt_told)
    × (frames_of (answer dmpt_card (hand-udp dmpt_packet)) ≡ mpeg_some ∷ [])
    × (after dmpt_card (hand-udp dmpt_packet) ≡ dmpt_told)
unfolding part rest put joined lengths_of cut_by any least sum_to up_to ahead next body_at segment_at segments wanted mpeg_at mpegs broken
    opened settled_by settled fate_by fate at_gap in_order psp_fate pass_all dmpt_fate hear carried_out refused received_by received
    answer after after_all
dmpt_instance = (refl, refl, refl, refl, refl, refl, refl)

pub dmpt_carries : (carrying (mpegs (sub (ip dmpt_packet))) ≡ mpeg_some ∷ []) × (nulls (mpegs (sub (ip dmpt_packet))) ≡ mpeg_null ∷ [])
unfolding part rest up_to mpeg_at mpegs chosen
dmpt_carries = (refl, refl)

-- `dmpt_delivers`, applied to the card as it is told
abbrev two_come : Arrival
two_come = record { packet = ip dmpt_packet; output = replicate 6144 0; lengths = replicate 127 0 }

told_dmpt : is_dmpt (terms_at dmpt_told.table (row_of dmpt_told.table (ip dmpt_packet))).kind ≡ true
unfolding any least
told_dmpt = refl

told-accepts : (answer dmpt_told (hands two_come)).code ≡ 0
unfolding part rest put joined lengths_of any least sum_to up_to mpeg_at mpegs broken pass_all dmpt_fate hear carried_out refused
    received_by received answer
told-accepts = refl

without_number : s_set (sub (ip dmpt_packet)) ≡ false
unfolding rest
without_number = refl

null_bytes : 188 * length (nulls (mpegs (sub (ip dmpt_packet)))) ≡ 188
unfolding part rest up_to mpeg_at mpegs chosen
null_bytes = refl

abbrev pub DmptDeliversHere : Type 0
DmptDeliversHere =
    (frames_of (answer dmpt_told (hands two_come)) ≡ mpeg_some ∷ [])
    × ((answer dmpt_told (hands two_come)).dropped ≡ 188)
    × ((after dmpt_told (hands two_come)).holding ≡ dmpt_told.holding)
    × ((answer dmpt_told (hands two_come)).gap ≡ 0)
    × ((after dmpt_told (hands two_come)).table ≡ dmpt_told.table)

pub dmpt_delivers_applied : DmptDelivers → DmptDeliversHere
dmpt_delivers_applied theorem =
    let delivers = theorem dmpt_told two_come told_dmpt told-accepts in (
      delivers.frames_are ∙ dmpt_carries.0,
      delivers.dropped_are ∙ null_bytes,
      delivers.holds_nothing,
      (delivers.without_number without_number).0,
      (delivers.without_number without_number).1,
    )
