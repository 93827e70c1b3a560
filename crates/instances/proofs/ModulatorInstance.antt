-- A closed instance of `core_to_modulator` and of `sent_may_travel`, with two flows mixed and a frame lost: the premises are met, the
-- conclusion is computed, and the statements are applied. It cites definitions alone, so that it can be held against wrong ones.
use Rattle.table.specs.declared.Kind.TheVariants as kind
use Prim.Native.Nat.{ℕ, zero, suc, ◌+◌, ◌<◌, ◌≤◌}
use mathlib.Core.Path.{◌≡◌, refl, sym, subst, ◌∙◌}
use mathlib.Core.Bool.{true, false}
use mathlib.Core.List.{List, [], ◌∷◌, ◌++◌, map}
use native.Mathlib.Omega.{arith}
use lib.ListN.{length, replicate, length-replicate}
use Rattle.octets.specs.Bytes.{AllBytes}
use Rattle.octets.specs.Stretch.{part, rest, put, joined, lengths_of, cut_by}
use Rattle.octets.specs.Each.{Each}
use Rattle.octets.specs.Count.{any, least, sum_to, up_to}
use Rattle.octets.specs.Tests.{none, same}
use Rattle.flow.specs.Numbers.{ahead, next, number_at}
use Rattle.ts.specs.Packet.{all_fill, null_packet}
use Rattle.packet.specs.Segments.{body_at, segment_at, segments}
use Rattle.packet.specs.Psp.{wanted}
use Rattle.packet.specs.Check.{check_refusals, check}
use Rattle.packet.specs.Header.{Packet, ip, in_udp, sub, s_set, number}
use Rattle.table.specs.Broken.{broken}
use Rattle.table.specs.Calls.{asking, opened, closed}
use Rattle.join.specs.Join.{settled_by, settled, fate_by, fate, at_gap, in_order, psp_fate}
use Rattle.card.specs.Hear.{hear}
use Rattle.card.specs.Receive.{carried_out, refused, received_by, received}
use Rattle.card.specs.History.{Card, Call, opens, hands, answer, after, after_all, empty_card}
use Rattle.sender.specs.Rules.{Pieces, packet_at, whole_frame, begun_frame, in_turn, all_segments, KeepsRules}
use Rattle.mpeg.specs.Frame.{good, may_begin, Good}
use Rattle.mpeg.specs.Write.{left_at, packet_of, carried, count_after}
use Rattle.mpeg.specs.Read.{found, without_flag, with_flag, read_packet, read_from, packets_in, reading}
use Rattle.mpeg.specs.Run.{Burst, no_backlog, waiting_in, packet_next, after_next, run_packets, run_end, all_frames}
use Rattle.promises.specs.Words.{packets_to, LongEnough, chosen}
use Rattle.promises.specs.Arrivals.{Kept}
use Rattle.promises.specs.Demand.{Sending, Run, opened_card, WholeIn}
use Rattle.promises.specs.Modulator.{deliveries, session_frames, flow_frames, Modulation, leaves, CoreToModulator, SentOn, SentMayTravel}

-- a packet of session 0x101 from byte 4 on, handed in with room
abbrev to_101 : List ℕ → List ℕ
to_101 behind = 0x00 ∷ 0x00 ∷ 0x01 ∷ 0x01 ∷ behind

abbrev hand : Packet → Call
hand packet = hands (record { packet = packet; output = replicate 6144 0; lengths = replicate 127 0 })

room : (6144 ≤ length {A = ℕ} (replicate 6144 0)) × (127 ≤ length {A = ℕ} (replicate 127 0))
room = (omega (arith, length-replicate {A = ℕ} 6144 0), omega (arith, length-replicate {A = ℕ} 127 0))

-- Three frames that say their own length, 6, 8 and 7 bytes: 0, 2 and 1 in bytes 2 and 3. The second is cut in two, and its second packet is
-- lost. (That one has S clear, which demand 3 does not mind in a packet that does not arrive.)
abbrev pub six : List ℕ
six = 0x00 ∷ 0x00 ∷ 0x00 ∷ 0x00 ∷ 0xA1 ∷ 0xA2 ∷ []

abbrev pub seven : List ℕ
seven = 0xC0 ∷ 0x01 ∷ 0x00 ∷ 0x01 ∷ 0xC1 ∷ 0xFF ∷ 0xC3 ∷ []

abbrev pub frames : List Pieces
frames = (six ∷ []) ∷ ((0x00 ∷ 0x00 ∷ 0x00 ∷ []) ∷ (0x02 ∷ 0xB1 ∷ 0xB2 ∷ 0xB3 ∷ 0xB4 ∷ []) ∷ []) ∷ (seven ∷ []) ∷ []

abbrev pub packets : List Packet
packets =
    in_udp (to_101 (0x41 ∷ 0x02 ∷ 0xFF ∷ 0xFF ∷ 0xC0 ∷ 0x06 ∷ 0x80 ∷ 0x03 ∷ six ++ (0x00 ∷ 0x00 ∷ 0x00 ∷ [])))
    ∷ ip (to_101 (0x01 ∷ 0x01 ∷ 0x00 ∷ 0x00 ∷ 0x40 ∷ 0x05 ∷ 0x02 ∷ 0xB1 ∷ 0xB2 ∷ 0xB3 ∷ 0xB4 ∷ []))
    ∷ ip (to_101 (0x41 ∷ 0x01 ∷ 0x00 ∷ 0x01 ∷ 0xC0 ∷ 0x07 ∷ seven))
    ∷ []

pub keeps : KeepsRules (record { session = 0x101; flow = 1; start = 0xFFFF }) frames [] packets
unfolding part rest joined any sum_to up_to body_at segment_at segments wanted check check_refusals number_at whole_frame begun_frame
    in_turn all_segments
keeps =
    record {
      sizes = ((omega arith, omega arith), ((omega arith, omega arith), ((omega arith, omega arith), tt)));
      passing = (refl, (refl, (refl, tt)));
      addressed = ((refl, refl), ((refl, refl), ((refl, refl), tt)));
      numbered = counts;
      in_order = refl;
    }
  where
    counts : (i : ℕ) → i < 3 → number (sub (packet_at packets i)) ≡ number_at 0xFFFF i
    counts zero l = refl
    counts (suc zero) l = refl
    counts (suc (suc zero)) l = refl
    counts (suc (suc (suc i))) l = absurd (omega arith)

abbrev pub sending : Sending
sending =
    record {
      line = record { session = 0x101; flow = 1; start = 0xFFFF };
      frames = frames;
      unfinished = [];
      packets = packets;
      keeps_rules = keeps;
    }

-- On flow 2 of the same session another sender has a frame of 10 bytes, which says 4, in one packet. It comes between the two of flow 1
-- that arrive. On flows 0 and 3 nothing is sent.
abbrev pub ten : List ℕ
ten = 0x80 ∷ 0x00 ∷ 0x00 ∷ 0x04 ∷ 0xD1 ∷ 0xD2 ∷ 0xD3 ∷ 0xD4 ∷ 0xD5 ∷ 0xD6 ∷ []

abbrev pub packet_on_2 : Packet
packet_on_2 = in_udp (to_101 (0x42 ∷ 0x01 ∷ 0x12 ∷ 0x34 ∷ 0xC0 ∷ 0x0A ∷ ten))

pub keeps_on_2 : KeepsRules (record { session = 0x101; flow = 2; start = 0x1234 }) ((ten ∷ []) ∷ []) [] (packet_on_2 ∷ [])
unfolding part rest joined any sum_to up_to body_at segment_at segments wanted check check_refusals number_at whole_frame begun_frame
    in_turn all_segments
keeps_on_2 =
    record {
      sizes = ((omega arith, omega arith), tt);
      passing = (refl, tt);
      addressed = ((refl, refl), tt);
      numbered = counts;
      in_order = refl;
    }
  where
    counts : (i : ℕ) → i < 1 → number (sub (packet_at (packet_on_2 ∷ []) i)) ≡ number_at 0x1234 i
    counts zero l = refl
    counts (suc i) l = absurd (omega arith)

abbrev pub sending_on_2 : Sending
sending_on_2 =
    record {
      line = record { session = 0x101; flow = 2; start = 0x1234 };
      frames = (ten ∷ []) ∷ [];
      unfinished = [];
      packets = packet_on_2 ∷ [];
      keeps_rules = keeps_on_2;
    }

pub keeps_nothing : (flow : ℕ) → KeepsRules (record { session = 0x101; flow = flow; start = 0 }) [] [] []
unfolding whole_frame begun_frame in_turn all_segments
keeps_nothing flow = record { sizes = tt; passing = tt; addressed = tt; numbered = λ i l. absurd (omega arith); in_order = refl }

abbrev pub nothing_on : ℕ → Sending
nothing_on flow =
    record {
      line = record { session = 0x101; flow = flow; start = 0 };
      frames = [];
      unfinished = [];
      packets = [];
      keeps_rules = keeps_nothing flow;
    }

abbrev pub calls : List Call
calls = hand (packet_at packets 0) ∷ hand packet_on_2 ∷ hand (packet_at packets 2) ∷ []

pub opens_now : (answer (after_all (empty_card (replicate 49152 0)) []) (opens (asking kind.Psp 0x101))).code ≡ 0
unfolding any least sum_to up_to broken opened answer after after_all
opens_now = refl

pub long_enough : (flow : ℕ) → LongEnough kind.Psp 0x101 flow (replicate 49152 0) calls
long_enough flow = (omega (arith, length-replicate {A = ℕ} 49152 0), ((λ e. room), ((λ e. room), ((λ e. room), tt))))

-- what arrives on each flow
pub on_1 : packets_to kind.Psp 0x101 1 calls ≡ map (packet_at packets) (0 ∷ 2 ∷ [])
unfolding rest packets_to
on_1 = refl

pub on_2 : packets_to kind.Psp 0x101 2 calls ≡ packet_on_2 ∷ []
unfolding rest packets_to
on_2 = refl

pub on_0 : packets_to kind.Psp 0x101 0 calls ≡ []
unfolding rest packets_to
on_0 = refl

pub on_3 : packets_to kind.Psp 0x101 3 calls ≡ []
unfolding rest packets_to
on_3 = refl

pub numbered_on_1 : Each (λ p. s_set (sub p) ≡ true) (packets_to kind.Psp 0x101 1 calls)
unfolding rest packets_to
numbered_on_1 = (refl, (refl, tt))

pub numbered_on_2 : Each (λ p. s_set (sub p) ≡ true) (packets_to kind.Psp 0x101 2 calls)
unfolding rest packets_to
numbered_on_2 = (refl, tt)

abbrev pub run : Run sending
run =
    record {
      holding = replicate 49152 0;
      before = [];
      calls = calls;
      arrivals = 0 ∷ 2 ∷ [];
      opens_now = opens_now;
      stays_open = (refl, (refl, (refl, tt)));
      long_enough = long_enough 1;
      only_these = on_1;
      all_numbered = numbered_on_1;
      in_window = (omega arith, omega arith, tt);
    }

abbrev pub run_on_2 : Run sending_on_2
run_on_2 =
    record {
      holding = replicate 49152 0;
      before = [];
      calls = calls;
      arrivals = 0 ∷ [];
      opens_now = opens_now;
      stays_open = (refl, (refl, (refl, tt)));
      long_enough = long_enough 2;
      only_these = on_2;
      all_numbered = numbered_on_2;
      in_window = tt;
    }

abbrev pub nothing_comes : (flow : ℕ) → packets_to kind.Psp 0x101 flow calls ≡ [] → Run (nothing_on flow)
nothing_comes flow none =
    record {
      holding = replicate 49152 0;
      before = [];
      calls = calls;
      arrivals = [];
      opens_now = opens_now;
      stays_open = (refl, (refl, (refl, tt)));
      long_enough = long_enough flow;
      only_these = none;
      all_numbered = subst (λ (l : List Packet). Each (λ p. s_set (sub p) ≡ true) l) (sym none) tt;
      in_window = tt;
    }

abbrev pub card : Card
card = opened_card sending run

-- The session delivers the first frame of flow 1, then that of flow 2, then the last of flow 1.
pub comes_out : six ∷ ten ∷ seven ∷ [] ≡ session_frames kind.Psp 0x101 card calls
unfolding part rest put joined lengths_of cut_by any least sum_to up_to ahead next body_at segment_at segments wanted broken opened closed
    settled_by settled fate_by fate at_gap in_order psp_fate hear carried_out refused received_by received answer after after_all deliveries
comes_out = refl

pub comes_out_on_1 : flow_frames sending run ≡ six ∷ seven ∷ []
unfolding part rest put joined lengths_of cut_by any least sum_to up_to ahead next body_at segment_at segments wanted broken opened closed
    settled_by settled fate_by fate at_gap in_order psp_fate hear carried_out refused received_by received answer after after_all
    deliveries chosen
comes_out_on_1 = refl

-- What comes out of the first call is added before the first packet, what comes out of the others before the third; the second and the
-- fourth are null packets.
abbrev pub bursts : List Burst
bursts = (six ∷ []) ∷ [] ∷ (ten ∷ seven ∷ []) ∷ [] ∷ []

pub all_given : all_frames bursts ≡ session_frames kind.Psp 0x101 card calls
unfolding all_frames
all_given = comes_out

pub nothing_waits : waiting_in (run_end (no_backlog 15) bursts) ≡ []
unfolding rest joined lengths_of left_at carried count_after after_next run_end
nothing_waits = refl

abbrev pub modulation : Modulation (session_frames kind.Psp 0x101 card calls)
modulation = record { count = 15; bursts = bursts; all_given = all_given; nothing_waits = nothing_waits }

-- a list is of bytes where each of its elements is one
all_bytes : (l : List ℕ) → Each (λ byte. byte < 256) l → AllBytes l
all_bytes [] e i = omega arith
all_bytes (x ∷ l) e zero = e.0
all_bytes (x ∷ l) e (suc i) = all_bytes l e.1 i

six_good : Good six
unfolding good
six_good = (refl, all_bytes six (omega arith, (omega arith, (omega arith, (omega arith, (omega arith, (omega arith, tt)))))))

seven_good : Good seven
unfolding good
seven_good =
    (refl, all_bytes seven (omega arith, (omega arith, (omega arith, (omega arith, (omega arith, (omega arith, (omega arith, tt))))))))

ten_good : Good ten
unfolding good
ten_good = (
  refl,
  all_bytes ten (
    omega arith,
    (
      omega arith,
      (omega arith, (omega arith, (omega arith, (omega arith, (omega arith, (omega arith, (omega arith, (omega arith, tt)))))))),
    ),
  ),
)

pub may_travel : Each Good (session_frames kind.Psp 0x101 card calls)
may_travel = subst (λ (out : List (List ℕ)). Each Good out) comes_out (six_good, (ten_good, (seven_good, tt)))

-- The modem gets all three.
pub core_to_modulator_instance : ((reading (leaves (session_frames kind.Psp 0x101 card calls) modulation)).sound ≡ true)
    × ((reading (leaves (session_frames kind.Psp 0x101 card calls) modulation)).frames ≡ six ∷ ten ∷ seven ∷ [])
unfolding part rest joined lengths_of up_to null_packet same all_fill good may_begin left_at packet_of carried count_after none found
    without_flag with_flag read_packet read_from packets_in reading packet_next after_next run_packets
core_to_modulator_instance = (refl, refl)

-- `core_to_modulator`, applied
pub record CoreToModulatorHere : Type 0 where
  pub taken : (reading (leaves (session_frames kind.Psp 0x101 card calls) modulation)).sound ≡ true
  pub got : (reading (leaves (session_frames kind.Psp 0x101 card calls) modulation)).frames ≡ six ∷ ten ∷ seven ∷ []
  pub on_flow_1 : Kept (WholeIn sending run) 0 frames (six ∷ seven ∷ [])

pub core_to_modulator_applied : CoreToModulator → CoreToModulatorHere
core_to_modulator_applied theorem =
    let arrives = theorem.all_arrive kind.Psp 0x101 card calls modulation may_travel in
    record {
      taken = arrives.taken;
      got = arrives.these_frames ∙ sym comes_out;
      on_flow_1 =
          subst (λ (out : List (List ℕ)). Kept (WholeIn sending run) 0 frames out) comes_out_on_1
          (theorem.of_each-flow sending run);
    }

-- `sent_may_travel`, applied: every frame that was sent is a good one, that which is lost too
pub all_good_lem : Each (λ f. Good (joined f)) frames
unfolding joined good
all_good_lem = (
  six_good,
  (
    (
      refl,
      all_bytes (0x00 ∷ 0x00 ∷ 0x00 ∷ 0x02 ∷ 0xB1 ∷ 0xB2 ∷ 0xB3 ∷ 0xB4 ∷ [])
          (omega arith, (omega arith, (omega arith, (omega arith, (omega arith, (omega arith, (omega arith, (omega arith, tt)))))))),
    ),
    (seven_good, tt),
  ),
)

pub good_on_2 : Each (λ f. Good (joined f)) ((ten ∷ []) ∷ [])
unfolding joined
good_on_2 = (ten_good, tt)

sent_on : (flow : ℕ) → flow < 4 → SentOn kind.Psp 0x101 flow card calls
sent_on zero l =
    record {
      sending = nothing_on 0;
      run = nothing_comes 0 on_0;
      its_kind = refl;
      its_session = refl;
      its_flow = refl;
      its_card = refl;
      its_calls = refl;
      may_travel = tt;
    }
sent_on (suc zero) l =
    record {
      sending = sending;
      run = run;
      its_kind = refl;
      its_session = refl;
      its_flow = refl;
      its_card = refl;
      its_calls = refl;
      may_travel = all_good_lem;
    }
sent_on (suc (suc zero)) l =
    record {
      sending = sending_on_2;
      run = run_on_2;
      its_kind = refl;
      its_session = refl;
      its_flow = refl;
      its_card = refl;
      its_calls = refl;
      may_travel = good_on_2;
    }
sent_on (suc (suc (suc zero))) l =
    record {
      sending = nothing_on 3;
      run = nothing_comes 3 on_3;
      its_kind = refl;
      its_session = refl;
      its_flow = refl;
      its_card = refl;
      its_calls = refl;
      may_travel = tt;
    }
sent_on (suc (suc (suc (suc flow)))) l = absurd (omega arith)

abbrev pub SentMayTravelHere : Type 0
SentMayTravelHere = Each Good (six ∷ ten ∷ seven ∷ [])

pub sent_may_travel_applied : SentMayTravel → SentMayTravelHere
sent_may_travel_applied theorem =
    subst (λ (out : List (List ℕ)). Each Good out) (sym comes_out) (theorem kind.Psp 0x101 card calls sent_on)

-- Bytes that no run gives: a packet of 0xFF alone under the PID of frames; 0xFF between two frames; a null packet while a frame has begun;
-- a count that is not the next one; and a first packet that goes on with a frame.
abbrev flagged : ℕ → List ℕ → List ℕ
flagged count behind = 0x47 ∷ 0x5F ∷ 0xFE ∷ (0x10 + count) ∷ behind

abbrev fill : ℕ → List ℕ
fill n = replicate n 0xFF

-- a frame of 200 bytes: 194 in bytes 2 and 3
abbrev front : List ℕ
front = 0xC0 ∷ 0x00 ∷ 0x00 ∷ 0xC2 ∷ replicate 179 0x11

pub no_run-gives : ((reading (flagged 0 (0x00 ∷ fill 183))).sound ≡ false)
    × ((reading (flagged 0 (0x00 ∷ six ++ fill 1 ++ six ++ fill 170))).sound ≡ false)
    × ((reading (flagged 0 (0x00 ∷ front) ++ null_packet ++ flagged 1 (0x11 ∷ replicate 17 0x11 ++ fill 166))).sound ≡ false)
    × ((reading (flagged 0 (0x00 ∷ six ++ fill 177) ++ flagged 2 (0x00 ∷ six ++ fill 177))).sound ≡ false)
    × ((reading (0x47 ∷ 0x1F ∷ 0xFE ∷ 0x10 ∷ replicate 184 0x11)).sound ≡ false)
unfolding part rest joined up_to null_packet same all_fill good may_begin none found without_flag with_flag read_packet read_from
    packets_in reading
no_run-gives = (refl, refl, refl, refl, refl)

-- .. and beside them bytes that one does give: the same frame of 200 bytes without the null packet, and both counts in order
pub a_run-gives : ((reading (flagged 0 (0x00 ∷ front) ++ flagged 1 (0x11 ∷ replicate 17 0x11 ++ fill 166))).sound ≡ true)
    × ((reading (flagged 0 (0x00 ∷ six ++ fill 177) ++ flagged 1 (0x00 ∷ six ++ fill 177))).sound ≡ true)
unfolding part rest joined up_to null_packet same all_fill good may_begin none found without_flag with_flag read_packet read_from
    packets_in reading
a_run-gives = (refl, refl)
