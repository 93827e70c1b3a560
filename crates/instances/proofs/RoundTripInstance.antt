-- A closed instance of the round trip: premises met, both sides computed. The statements on our sender and on the round trip are applied to
-- it. It cites definitions alone, so that it can be held against wrong ones, and against statements that say less.
use Rattle.table.specs.declared.Kind.TheVariants as kind
use Prim.Native.Nat.{ℕ, zero, suc, ◌<◌, ◌≤◌}
use mathlib.Core.Path.{◌≡◌, refl, sym, ap, subst, ◌∙◌}
use mathlib.Core.Bool.{true, false}
use mathlib.Core.List.{List, [], ◌∷◌, ◌++◌, map}
use native.Mathlib.Omega.{arith}
use lib.ListN.{length, get_or, replicate, length-replicate}
use Rattle.octets.specs.Stretch.{part, rest, put, joined, lengths_of, cut_by}
use Rattle.octets.specs.Count.{any, least, sum_to, up_to}
use Rattle.octets.specs.Each.{Each}
use Rattle.flow.specs.Numbers.{ahead, next, number_at}
use Rattle.packet.specs.Segments.{body_at, segment_at, segments}
use Rattle.packet.specs.Header.{Packet, ip, in_udp, sub, s_set, session_id, flow_id, number}
use Rattle.packet.specs.Psp.{wanted}
use Rattle.packet.specs.Check.{check_refusals, check}
use Rattle.table.specs.Broken.{broken}
use Rattle.table.specs.Calls.{asking, opened}
use Rattle.join.specs.Join.{settled_by, settled, fate_by, fate, at_gap, in_order, psp_fate}
use Rattle.card.specs.Hear.{hear}
use Rattle.card.specs.Receive.{carried_out, refused, received_by, received}
use Rattle.card.specs.History.{Call, opens, hands, answer, after, after_all, empty_card}
use Rattle.sender.specs.Cut.{frame_start, cut}
use Rattle.sender.specs.Packet.{packet_of}
use Rattle.sender.specs.Send as sender
use Rattle.sender.specs.Series.{Usable, start_of_frame, asked_for, series_packets, series_number, go_out}
use Rattle.sender.specs.Rules.{Pieces, whole_frame, begun_frame, in_turn, all_segments, Line, packet_at, KeepsRules}
use Rattle.promises.specs.Words.{packets_to, frames_out, LongEnough}
use Rattle.promises.specs.Arrivals.{InTime, places_from, carriers, Kept, no_more, kept, lost}
use Rattle.promises.specs.Demand.{Sending, Run, WholeIn, comes_out}
use Rattle.promises.specs.Marked.{A, B, hand, of6, of9, held2, m12, limit16}
use Rattle.promises.specs.RoundTrip.{Given, frames_given, packets_given, IsSent, SenderKeepsRules, SendingsGoOn, KeepsLimit, InOrder}
use Rattle.promises.specs.RoundTrip.{sending_of, RoundTrip}

-- The frames of the last marked case, of 6 and 9 bytes, are sent with the limit 16 and with calls enough, fifteen, of which two send a
-- packet: A and B, as in the other cases. A goes over UDP and B over IP. They are handed in on an empty card, on which their session is
-- opened.
pub round_trip_sends : series_packets m12 0xFFFF (start_of_frame 0) (replicate 15 limit16) ≡ A ∷ B ∷ []
unfolding part put joined any sum_to next series_packets frame_start cut packet_of sender.cut_for sender.written sender.refused
    sender.sent_by sender.sent
round_trip_sends = refl

pub all_usable : (n : ℕ) → Each Usable (replicate n limit16)
all_usable zero = tt
all_usable (suc n) = (record { limited = refl; output_long = omega (arith, length-replicate {A = ℕ} 20 0) }, all_usable n)

pub round_trip_sound : sender.bad_frames 15 (6 ∷ 9 ∷ []) ≡ false
unfolding any sum_to
round_trip_sound = refl

abbrev pub given_m12 : Given
given_m12 =
    record {
      job = m12;
      number = 0xFFFF;
      turns = replicate 15 limit16;
      ways = true ∷ [];
      sound = record { addressed = refl; four_bytes = omega arith; frames-sound = round_trip_sound };
      two_bytes = omega arith;
      usable = all_usable 15;
      enough = omega (arith, length-replicate 15 limit16);
    }

pub round_trip_opens : (answer (after_all (empty_card (replicate 49152 0)) []) (opens (asking kind.Psp 0x101))).code ≡ 0
unfolding any least broken opened answer after_all
round_trip_opens = refl

abbrev pub hand-udp : List ℕ → Call
hand-udp packet = hands (record { packet = in_udp packet; output = replicate 6144 0; lengths = replicate 127 0 })

pub round_trip_long : LongEnough kind.Psp 0x101 1 (replicate 49152 0) (hand-udp A ∷ hand B ∷ [])
unfolding rest
round_trip_long =
    let out : 6144 ≤ length {A = ℕ} (replicate 6144 0) = omega (arith, length-replicate {A = ℕ} 6144 0) in
    let lengths : 127 ≤ length {A = ℕ} (replicate 127 0) = omega (arith, length-replicate {A = ℕ} 127 0) in
    (omega (arith, length-replicate {A = ℕ} 49152 0), ((λ e. (out, lengths)), ((λ e. (out, lengths)), tt)))

pub round_trip_arrive : packets_to kind.Psp 0x101 1 (hand-udp A ∷ hand B ∷ []) ≡ packets_given given_m12
unfolding rest packets_to go_out
round_trip_arrive = sym (ap (go_out (true ∷ [])) round_trip_sends)

abbrev pub in_order-m12 : InOrder given_m12
in_order-m12 =
    record {
      holding = replicate 49152 0;
      before = [];
      calls = hand-udp A ∷ hand B ∷ [];
      opens_now = round_trip_opens;
      stays_open = (refl, (refl, tt));
      long_enough = round_trip_long;
      all_arrive = round_trip_arrive;
    }

-- What comes out is what was given.
pub round_trip_instance :
    (frames_out kind.Psp 0x101 1
    (after (after_all (empty_card in_order-m12.holding) in_order-m12.before) (opens (asking kind.Psp 0x101))) in_order-m12.calls
    ≡ of6 ∷ of9 ∷ [])
    × (frames_given given_m12 ≡ of6 ∷ of9 ∷ [])
unfolding part rest put joined lengths_of cut_by any least sum_to up_to ahead next body_at segment_at segments wanted broken opened
    settled_by settled fate_by fate at_gap in_order psp_fate hear carried_out refused received_by received answer after after_all
    frames_out
round_trip_instance = (refl, refl)

-- What the rules say of A and B, whatever the frames are that they carry.
abbrev pub from_FFFF : Line
from_FFFF = record { session = 0x101; flow = 1; start = 0xFFFF }

abbrev pub A-and-B : List Packet
A-and-B = in_udp A ∷ ip B ∷ []

abbrev pub RulesSay : List Pieces → Type 0
RulesSay pieces =
    Each (λ f. (1 ≤ length (joined f)) × (length (joined f) ≤ 2048)) pieces
    × Each (λ p. check 1 p ≡ 0) A-and-B
    × Each (λ p. (session_id p ≡ 0x101) × (flow_id (sub p) ≡ 1)) A-and-B
    × ((i : ℕ) → i < 2 → number (sub (packet_at A-and-B i)) ≡ number_at 0xFFFF i)
    × (all_segments 2 A-and-B ≡ in_turn pieces ++ begun_frame true [])

pub rules_say : (pieces : List Pieces) → KeepsRules from_FFFF pieces [] A-and-B → RulesSay pieces
rules_say pieces keeps = (keeps.sizes, keeps.passing, keeps.addressed, keeps.numbered, keeps.in_order)

-- `sender_keeps_rules`, applied
pub packets_given_lem : packets_given given_m12 ≡ A-and-B
unfolding go_out
packets_given_lem = ap (go_out (true ∷ [])) round_trip_sends

abbrev pub SenderKeepsRulesHere : Type 0
SenderKeepsRulesHere =
    (pieces : List Pieces)
    × (map joined pieces ≡ of6 ∷ of9 ∷ [])
    × RulesSay pieces
    × Each (λ p. s_set (sub p) ≡ true) (packets_given given_m12)

pub sender_keeps_rules_applied : SenderKeepsRules → SenderKeepsRulesHere
sender_keeps_rules_applied theorem =
    let pieces = theorem.pieces given_m12 in
    let is-sent = theorem.are_sent given_m12 in
    let by_the_rules = subst (λ packets. KeepsRules from_FFFF pieces [] packets) packets_given_lem is-sent.by_the_rules in
    (pieces, is-sent.these_frames ∙ round_trip_instance.1, rules_say pieces by_the_rules, is-sent.has_numbers)

-- `sendings_go_on`, applied: one packet with a frame of 2 bytes, and behind it, with the number 0, one with a frame of 1 byte and the
-- beginning of another. And the number that comes behind A and B.
abbrev pub first_frame : List Pieces
first_frame = ((0x11 ∷ 0x12 ∷ []) ∷ []) ∷ []

abbrev pub first-packet : List Packet
first-packet = ip (0x00 ∷ 0x00 ∷ 0x01 ∷ 0x01 ∷ 0x41 ∷ 0x01 ∷ 0xFF ∷ 0xFF ∷ 0xC0 ∷ 0x02 ∷ 0x11 ∷ 0x12 ∷ []) ∷ []

abbrev pub next_frame : List Pieces
next_frame = ((0x21 ∷ []) ∷ []) ∷ []

abbrev pub begun : Pieces
begun = (0x31 ∷ []) ∷ []

abbrev pub next-packet : List Packet
next-packet =
    in_udp (0x00 ∷ 0x00 ∷ 0x01 ∷ 0x01 ∷ 0x41 ∷ 0x02 ∷ 0x00 ∷ 0x00 ∷ 0xC0 ∷ 0x01 ∷ 0x80 ∷ 0x01 ∷ 0x21 ∷ 0x31 ∷ []) ∷ []

pub first_keeps : KeepsRules from_FFFF first_frame [] first-packet
unfolding part rest joined any sum_to up_to body_at segment_at segments wanted check check_refusals number_at whole_frame begun_frame
    in_turn all_segments
first_keeps =
    record {
      sizes = ((omega arith, omega arith), tt);
      passing = (refl, tt);
      addressed = ((refl, refl), tt);
      numbered = counts;
      in_order = refl;
    }
  where
    counts : (i : ℕ) → i < 1 → number (sub (packet_at first-packet i)) ≡ number_at 0xFFFF i
    counts zero l = refl
    counts (suc i) l = absurd (omega arith)

pub next_keeps : KeepsRules (record { session = 0x101; flow = 1; start = number_at 0xFFFF 1 }) next_frame begun next-packet
unfolding part rest joined any sum_to up_to body_at segment_at segments wanted check check_refusals number_at whole_frame begun_frame
    in_turn all_segments
next_keeps =
    record {
      sizes = ((omega arith, omega arith), tt);
      passing = (refl, tt);
      addressed = ((refl, refl), tt);
      numbered = counts;
      in_order = refl;
    }
  where
    counts : (i : ℕ) → i < 1 → number (sub (packet_at next-packet i)) ≡ number_at (number_at 0xFFFF 1) i
    counts zero l = refl
    counts (suc i) l = absurd (omega arith)

pub number_behind : number_at 0xFFFF (length (series_packets m12 0xFFFF (start_of_frame 0) (replicate 15 limit16))) ≡ 1
unfolding number_at
number_behind = ap (λ packets. number_at 0xFFFF (length packets)) round_trip_sends

abbrev pub SendingsGoOnHere : Type 0
SendingsGoOnHere =
    KeepsRules from_FFFF (((0x11 ∷ 0x12 ∷ []) ∷ []) ∷ ((0x21 ∷ []) ∷ []) ∷ []) ((0x31 ∷ []) ∷ []) (first-packet ++ next-packet)
    × (series_number m12 0xFFFF (start_of_frame 0) (replicate 15 limit16) ≡ 1)

pub sendings_go_on_applied : SendingsGoOn → SendingsGoOnHere
sendings_go_on_applied theorem = (
  theorem.joined_up from_FFFF first_frame next_frame begun first-packet next-packet first_keeps next_keeps,
  theorem.numbered_on m12 0xFFFF (start_of_frame 0) (replicate 15 limit16) (omega arith) ∙ number_behind,
)

-- `keeps_limit`, applied to the call that sends A: 16 bytes behind the session ID, which has 4
abbrev pub asked_for-A : sender.Asked
asked_for-A = asked_for m12 0xFFFF (start_of_frame 0) limit16

pub A_is_sent : (sender.sent asked_for-A).answer.code ≡ 0
unfolding part put joined any sum_to next frame_start cut packet_of sender.cut_for sender.written sender.refused sender.sent_by sender.sent
A_is_sent = refl

abbrev pub KeepsLimitHere : Type 0
KeepsLimitHere = (sender.sent asked_for-A).answer.length ≤ 20

pub keeps_limit_applied : KeepsLimit → KeepsLimitHere
keeps_limit_applied theorem = theorem asked_for-A A_is_sent

-- `round_trip`, applied: in order, as above; and over a network that loses B. Then the frame of 6 bytes comes out, and the one of 9 does
-- not.
abbrev pub pieces-m12 : List Pieces
pieces-m12 = (of6 ∷ []) ∷ (held2 ∷ (0x23 ∷ 0x24 ∷ 0x25 ∷ 0x26 ∷ 0x27 ∷ 0x28 ∷ 0x29 ∷ []) ∷ []) ∷ []

pub keeps_m12 : KeepsRules from_FFFF pieces-m12 [] A-and-B
unfolding part rest joined any sum_to up_to body_at segment_at segments wanted check check_refusals number_at whole_frame begun_frame
    in_turn all_segments
keeps_m12 =
    record {
      sizes = ((omega arith, omega arith), ((omega arith, omega arith), tt));
      passing = (refl, (refl, tt));
      addressed = ((refl, refl), ((refl, refl), tt));
      numbered = counts;
      in_order = refl;
    }
  where
    counts : (i : ℕ) → i < 2 → number (sub (packet_at A-and-B i)) ≡ number_at 0xFFFF i
    counts zero l = refl
    counts (suc zero) l = refl
    counts (suc (suc i)) l = absurd (omega arith)

pub is_sent-m12 : IsSent given_m12 pieces-m12
unfolding part rest joined cut_by
is_sent-m12 =
    record {
      these_frames = refl;
      by_the_rules = subst (λ packets. KeepsRules from_FFFF pieces-m12 [] packets) (sym packets_given_lem) keeps_m12;
      has_numbers = subst (λ packets. Each (λ p. s_set (sub p) ≡ true) packets) (sym packets_given_lem) (refl, (refl, tt));
    }

abbrev pub sending-m12 : Sending
sending-m12 = sending_of given_m12 pieces-m12 is_sent-m12

pub B-lost_long : LongEnough kind.Psp 0x101 1 (replicate 49152 0) (hand-udp A ∷ [])
unfolding rest
B-lost_long = (round_trip_long.0, (round_trip_long.1.0, tt))

pub B-lost_only : packets_to kind.Psp 0x101 1 (hand-udp A ∷ []) ≡ map (packet_at (packets_given given_m12)) (0 ∷ [])
unfolding rest packets_to
B-lost_only = sym (ap (λ packets. map (packet_at packets) (0 ∷ [])) packets_given_lem)

pub B-lost-numbered : Each (λ p. s_set (sub p) ≡ true) (packets_to kind.Psp 0x101 1 (hand-udp A ∷ []))
unfolding rest packets_to
B-lost-numbered = (refl, tt)

abbrev pub B-lost : Run sending-m12
B-lost =
    record {
      holding = replicate 49152 0;
      before = [];
      calls = hand-udp A ∷ [];
      arrivals = 0 ∷ [];
      opens_now = round_trip_opens;
      stays_open = (refl, tt);
      long_enough = B-lost_long;
      only_these = B-lost_only;
      all_numbered = B-lost-numbered;
      in_window = tt;
    }

pub their_packets-m12 : (carriers pieces-m12 (packets_given given_m12) 0 ≡ 0 ∷ [])
    × (carriers pieces-m12 (packets_given given_m12) 1 ≡ 0 ∷ 1 ∷ [])
unfolding part rest sum_to up_to body_at segment_at segments places_from carriers
their_packets-m12 =
    (ap (λ packets. carriers pieces-m12 packets 0) packets_given_lem, ap (λ packets. carriers pieces-m12 packets 1) packets_given_lem)

pub first-is_whole : WholeIn sending-m12 B-lost 0
first-is_whole = subst (Each (InTime (0 ∷ []))) (sym their_packets-m12.0) (arrived, tt)
  where
    arrived : InTime (0 ∷ []) 0
    arrived = record { arrival = 0; there = omega arith; of_it = refl; none_later = λ j l. absurd (omega arith) }

pub second_is_not : WholeIn sending-m12 B-lost 1 → ⊥
second_is_not w = never (subst (Each (InTime (0 ∷ []))) their_packets-m12.1 w).1.0
  where
    at : (n : ℕ) → n < 1 → get_or {A = ℕ} (0 ∷ []) n 0 ≡ 1 → ⊥
    at zero l e = absurd (omega (arith, e))
    at (suc n) l e = absurd (omega arith)

    never : InTime (0 ∷ []) 1 → ⊥
    never t = at t.arrival t.there t.of_it

pub first_alone : {whole : ℕ → Type 0} {a b : Pieces} {out : List (List ℕ)} → whole 0 → (whole 1 → ⊥) → Kept whole 0 (a ∷ b ∷ []) out →
    out ≡ joined a ∷ []
first_alone w n (kept v (kept u no_more)) = absurd (n u)
first_alone w n (kept v (lost m no_more)) = refl
first_alone w n (lost m more) = absurd (m w)

pub six_bytes_alone : (out : List (List ℕ)) → Kept (WholeIn sending-m12 B-lost) 0 pieces-m12 out → out ≡ of6 ∷ []
unfolding joined
six_bytes_alone out k = first_alone first-is_whole second_is_not k

abbrev pub RoundTripHere : Type 0
RoundTripHere =
    (frames_out kind.Psp 0x101 1
    (after (after_all (empty_card (replicate 49152 0)) []) (opens (asking kind.Psp 0x101))) (hand-udp A ∷ hand B ∷ [])
    ≡ of6 ∷ of9 ∷ [])
    × (comes_out sending-m12 B-lost ≡ of6 ∷ [])

pub round_trip_applied : RoundTrip → RoundTripHere
round_trip_applied theorem = (
  theorem.in_order given_m12 in_order-m12 ∙ round_trip_instance.1,
  six_bytes_alone (comes_out sending-m12 B-lost) (theorem.over_a_network given_m12 pieces-m12 is_sent-m12 B-lost),
)
