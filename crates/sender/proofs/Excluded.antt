-- What the rules of any sender allow and what they exclude, by computation: packets A and B of document 01 keep them, and for each rule
-- there are packets that do not. Without that rule the line would be refused.
use Prim.Native.Nat.{ℕ, zero, suc, ◌<◌}
use mathlib.Core.Path.{◌≡◌, refl, ap}
use mathlib.Core.Bool.{true, false}
use mathlib.Core.List.{List, [], ◌∷◌}
use native.Mathlib.Omega.{arith}
use native.Mathlib.Nat.{not-suc-le-zero, le_of_suc-le-suc}
use lib.ListN.{length, take, replicate}
use Rattle.octets.specs.Stretch.{part, rest, joined}
use Rattle.octets.specs.Count.{any, sum_to, up_to}
use Rattle.flow.specs.Numbers.{number_at}
use Rattle.packet.specs.Header.{Packet, ip, sub, number}
use Rattle.packet.specs.Segments.{Segment, body_at, segment_at, segments}
use Rattle.packet.specs.Psp.{wanted}
use Rattle.packet.specs.Check.{check_refusals, check}
use Rattle.packet.proofs.Examples.{A, B}
use Rattle.sender.specs.Rules.{Pieces, whole_frame, begun_frame, in_turn, all_segments, Line, packet_at, KeepsRules}
use Rattle.sender.proofs.Reading.{nth}

-- the frames of 6 and 9 bytes, the second in two pieces
abbrev six : List ℕ
six = 0x11 ∷ 0x12 ∷ 0x13 ∷ 0x14 ∷ 0x15 ∷ 0x16 ∷ []

abbrev front : List ℕ
front = 0x21 ∷ 0x22 ∷ []

abbrev behind : List ℕ
behind = 0x23 ∷ 0x24 ∷ 0x25 ∷ 0x26 ∷ 0x27 ∷ 0x28 ∷ 0x29 ∷ []

-- B on a frame's first segment and on no other, E on its last and on no other
marks : (whole_frame true (front ∷ six ∷ behind ∷ [])
    ≡ record { begins = true; ends = false; body = front } ∷ record { begins = false; ends = false; body = six }
    ∷ record { begins = false; ends = true; body = behind } ∷ [])
    × (begun_frame true (front ∷ six ∷ [])
    ≡ record { begins = true; ends = false; body = front } ∷ record { begins = false; ends = false; body = six } ∷ [])
    × (in_turn ((six ∷ []) ∷ (front ∷ behind ∷ []) ∷ [])
    ≡ record { begins = true; ends = true; body = six } ∷ record { begins = true; ends = false; body = front }
    ∷ record { begins = false; ends = true; body = behind } ∷ [])
unfolding whole_frame begun_frame in_turn
marks = (refl, refl, refl)

a_and_b : KeepsRules (record { session = 0x101; flow = 1; start = 0xFFFF }) ((six ∷ []) ∷ (front ∷ behind ∷ []) ∷ []) [] (ip A ∷ ip B ∷ [])
unfolding check check_refusals segments segment_at body_at wanted part rest joined any sum_to up_to whole_frame begun_frame in_turn
    all_segments number_at
a_and_b =
    record {
      sizes = ((omega arith, omega arith), ((omega arith, omega arith), tt));
      passing = (refl, (refl, tt));
      addressed = ((refl, refl), ((refl, refl), tt));
      numbered = counts;
      in_order = refl;
    }
  where
    counts : (i : ℕ) → i < 2 → number (sub (packet_at (ip A ∷ ip B ∷ []) i)) ≡ number_at 0xFFFF i
    counts zero l = refl
    counts (suc zero) l = refl
    counts (suc (suc i)) l = absurd (not-suc-le-zero (le_of_suc-le-suc (le_of_suc-le-suc l)))

module _ (line : Line) (frames : List Pieces) (unfinished : Pieces) (packets : List Packet) where
  -- a frame without bytes, and one of 2,049
  no_empty-frame : KeepsRules line ([] ∷ frames) unfinished packets → ⊥
  unfolding joined
  no_empty-frame k = not-suc-le-zero k.sizes.0.0

  no_long_frame : KeepsRules line ((replicate 2049 7 ∷ []) ∷ frames) unfinished packets → ⊥
  unfolding joined
  no_long_frame k = omega (arith, k.sizes.0.1)

  -- a packet whose last byte is cut, in the second place too
  no_cut-packet : KeepsRules line frames unfinished (ip A ∷ ip (take 19 A) ∷ packets) → ⊥
  unfolding check check_refusals wanted body_at rest any sum_to
  no_cut-packet k = omega (arith, k.passing.1.0)

  -- another session, another flow, in the second place too
  no_other-session : KeepsRules (record { session = 0x102; flow = line.flow; start = line.start }) frames unfinished (ip A ∷ packets) → ⊥
  no_other-session k = omega (arith, k.addressed.0.0)

  no_other-flow : KeepsRules (record { session = line.session; flow = 2; start = line.start }) frames unfinished
      (ip A ∷ ip B ∷ packets) → ⊥
  unfolding rest
  no_other-flow k = omega (arith, k.addressed.1.0.1)

  -- a first number that is not the start, a second that is not one up, and one that is not begun again at 0
  no_other-start : KeepsRules (record { session = line.session; flow = line.flow; start = 0 }) frames unfinished (ip A ∷ packets) → ⊥
  unfolding rest number_at
  no_other-start k = omega (arith, k.numbered 0 (omega arith))

  no_number_twice : KeepsRules (record { session = line.session; flow = line.flow; start = 0xFFFF }) frames unfinished
      (ip A ∷ ip A ∷ packets) → ⊥
  unfolding rest number_at
  no_number_twice k = omega (arith, k.numbered 1 (omega arith))

-- segments that are of no frame, and other bytes in as many segments
no_segments_beside : (line : Line) → KeepsRules line [] [] (ip A ∷ []) → ⊥
unfolding segments segment_at body_at part rest sum_to up_to begun_frame in_turn all_segments
no_segments_beside line k = omega (arith, ap length k.in_order)

no_other-bytes : (line : Line) → KeepsRules line ((front ∷ []) ∷ []) (front ∷ []) (ip A ∷ []) → ⊥
unfolding segments segment_at body_at part rest sum_to up_to whole_frame begun_frame in_turn all_segments
no_other-bytes line k = omega (arith, ap (λ (l : List Segment). length (nth l 0).body) k.in_order)
