-- A closed instance of demand 3, of what the gaps tell, and of one lost fewer: the premises are met, and the conclusion is computed. And
-- each of the statements, applied to it with nothing but its premises, says the same. It cites definitions alone, so that it can be held
-- against wrong ones, and against statements that say less.
use Rattle.table.specs.declared.Kind.TheVariants as kind
use Prim.Native.Nat.{ℕ, zero, suc, ◌<◌, ◌≤◌}
use mathlib.Core.Path.{◌≡◌, refl, sym, ap, subst, ◌∙◌}
use mathlib.Core.Bool.{Bool, true, false, true≢false}
use mathlib.Core.List.Memᴰ
use mathlib.Core.List.{List, [], ◌∷◌, map, Memᴰ}
use mathlib.Core.List.{Sublistᴰ}
use native.Mathlib.Omega.{arith}
use native.Mathlib.Nat.{not-suc-le-zero}
use lib.ListN.{length, get_or, take, drop, replicate, length-replicate}
use Rattle.octets.specs.Stretch.{part, rest, put, joined, lengths_of, cut_by}
use Rattle.octets.specs.Count.{any, least, sum_to, up_to}
use Rattle.octets.specs.Each.{Each}
use Rattle.flow.specs.Numbers.{ahead, next, number_at}
use Rattle.packet.specs.Segments.{body_at, segment_at, segments}
use Rattle.packet.specs.Psp.{wanted}
use Rattle.packet.specs.Check.{check_refusals, check}
use Rattle.packet.specs.Header.{Packet, packet_by, ip, udp, in_udp, sub, s_set, number}
use Rattle.table.specs.Broken.{broken}
use Rattle.table.specs.Calls.{asking, opened, closed}
use Rattle.join.specs.Join.{settled_by, settled, fate_by, fate, at_gap, in_order, psp_fate}
use Rattle.card.specs.Hear.{hear}
use Rattle.card.specs.Receive.{carried_out, refused, received_by, received}
use Rattle.card.specs.History.{Call, opens, closes, hands, answer, after, after_all, empty_card}
use Rattle.sender.specs.Rules.{Pieces, packet_at, whole_frame, begun_frame, in_turn, all_segments, KeepsRules}
use Rattle.promises.specs.Words.{hands_to, packets_to, frames_out, Room, LongEnough}
use Rattle.promises.specs.Arrivals.{InTime, in_time, InTimeIsMeant, places_from, carriers, Kept, no_more, kept, lost}
use Rattle.promises.specs.Demand.{Sending, Run, opened_card, comes_out, WholeIn, Demand3, Rising, ComeOut, FewerLost}
use Rattle.promises.specs.Gaps.{Verdict, verdicts_out, verdicts_from, verdicts_of, NumberedUp, GapsAreTold}

-- Demand 3. Four frames, cut into pieces: the first is cut in two, the third too, and a fifth is begun. They go in four packets that are
-- numbered from 0xFFFE on, so that the third has number 0; over IP and over UDP in turn, so that both frames that are cut are cut over the
-- two transports.
abbrev pub frames : List Pieces
frames =
    ((0x11 ∷ 0x12 ∷ []) ∷ (0x13 ∷ []) ∷ [])
    ∷ ((0x21 ∷ []) ∷ [])
    ∷ ((0x31 ∷ []) ∷ (0x32 ∷ 0x33 ∷ []) ∷ [])
    ∷ ((0x41 ∷ 0x42 ∷ []) ∷ [])
    ∷ []

-- a packet of session 0x101, or 0x102, flow 1 or 2, from byte 4 on
abbrev pub to_101 : List ℕ → List ℕ
to_101 behind = 0x00 ∷ 0x00 ∷ 0x01 ∷ 0x01 ∷ behind

abbrev pub to_102 : List ℕ → List ℕ
to_102 behind = 0x00 ∷ 0x00 ∷ 0x01 ∷ 0x02 ∷ behind

abbrev pub packet0 : Packet
packet0 = ip (to_101 (0x41 ∷ 0x01 ∷ 0xFF ∷ 0xFE ∷ 0x80 ∷ 0x02 ∷ 0x11 ∷ 0x12 ∷ []))

abbrev pub packet1 : Packet
packet1 = in_udp (to_101 (0x41 ∷ 0x03 ∷ 0xFF ∷ 0xFF ∷ 0x40 ∷ 0x01 ∷ 0xC0 ∷ 0x01 ∷ 0x80 ∷ 0x01 ∷ 0x13 ∷ 0x21 ∷ 0x31 ∷ []))

abbrev pub packet2 : Packet
packet2 = ip (to_101 (0x41 ∷ 0x01 ∷ 0x00 ∷ 0x00 ∷ 0x40 ∷ 0x02 ∷ 0x32 ∷ 0x33 ∷ []))

-- (with every bit set that nobody reads before the session ID)
abbrev pub packet3 : Packet
packet3 = udp (0x7F ∷ 0xF3 ∷ 0xFF ∷ 0xFF ∷ to_101 (0x41 ∷ 0x02 ∷ 0x00 ∷ 0x01 ∷ 0xC0 ∷ 0x02 ∷ 0x80 ∷ 0x01 ∷ 0x41 ∷ 0x42 ∷ 0x51 ∷ []))

abbrev pub packets : List Packet
packets = packet0 ∷ packet1 ∷ packet2 ∷ packet3 ∷ []

pub keeps : KeepsRules (record { session = 0x101; flow = 1; start = 0xFFFE }) frames ((0x51 ∷ []) ∷ []) packets
unfolding part rest joined any sum_to up_to body_at segment_at segments wanted check check_refusals number_at whole_frame begun_frame
    in_turn all_segments
keeps =
    record {
      sizes = ((omega arith, omega arith), ((omega arith, omega arith), ((omega arith, omega arith), ((omega arith, omega arith), tt))));
      passing = (refl, (refl, (refl, (refl, tt))));
      addressed = ((refl, refl), ((refl, refl), ((refl, refl), ((refl, refl), tt))));
      numbered = counts;
      in_order = refl;
    }
  where
    counts : (i : ℕ) → i < 4 → number (sub (packet_at packets i)) ≡ number_at 0xFFFE i
    counts zero l = refl
    counts (suc zero) l = refl
    counts (suc (suc zero)) l = refl
    counts (suc (suc (suc zero))) l = refl
    counts (suc (suc (suc (suc i)))) l = absurd (omega arith)

abbrev pub sending : Sending
sending =
    record {
      line = record { session = 0x101; flow = 1; start = 0xFFFE };
      frames = frames;
      unfinished = (0x51 ∷ []) ∷ [];
      packets = packets;
      keeps_rules = keeps;
    }

-- One run: the fourth packet overtakes the third, which then comes late, and comes again itself. Between them other calls: session 0x102 is
-- open before, holds half a frame in its own flow 1, begins another and is closed; an open of 0x101 is refused; a scrap of five bytes is
-- refused; so are a control message over UDP and a packet by a transport that there is not, which would be of this flow; flow 2 of 0x101
-- begins a frame of its own.
abbrev pub hand : Packet → Call
hand packet = hands (record { packet = packet; output = replicate 6144 0; lengths = replicate 127 0 })

abbrev pub others-half : List ℕ
others-half = to_102 (0x41 ∷ 0x01 ∷ 0x12 ∷ 0x34 ∷ 0x80 ∷ 0x03 ∷ 0x61 ∷ 0x62 ∷ 0x63 ∷ [])

abbrev pub others-next : List ℕ
others-next = to_102 (0x41 ∷ 0x01 ∷ 0x12 ∷ 0x35 ∷ 0x80 ∷ 0x03 ∷ 0x64 ∷ 0x65 ∷ 0x66 ∷ [])

abbrev pub flow_2_half : List ℕ
flow_2_half = to_101 (0x42 ∷ 0x01 ∷ 0x00 ∷ 0x07 ∷ 0x80 ∷ 0x02 ∷ 0x71 ∷ 0x72 ∷ [])

abbrev pub overtaken_calls : List Call
overtaken_calls =
    hand packet0
    ∷ hand (ip others-next)
    ∷ hand packet1
    ∷ closes 0x102
    ∷ opens (asking kind.Dmpt 0x101)
    ∷ hands (record { packet = ip (to_101 (0x41 ∷ [])); output = []; lengths = [] })
    ∷ hand (udp (0x80 ∷ 0x03 ∷ 0x00 ∷ 0x00 ∷ packet2.bytes))
    ∷ hand (packet_by 3 packet2.bytes)
    ∷ hand (in_udp flow_2_half)
    ∷ hand packet3
    ∷ hand packet2
    ∷ hand packet3
    ∷ []

pub long_holding : 49152 ≤ length {A = ℕ} (replicate 49152 0)
long_holding = omega (arith, length-replicate {A = ℕ} 49152 0)

pub long_slices : (mine : Bool) → mine ≡ true → (6144 ≤ length {A = ℕ} (replicate 6144 0)) × (127 ≤ length {A = ℕ} (replicate 127 0))
long_slices mine e = (omega (arith, length-replicate {A = ℕ} 6144 0), omega (arith, length-replicate {A = ℕ} 127 0))

abbrev pub before : List Call
before = opens (asking kind.Psp 0x102) ∷ hand (in_udp others-half) ∷ []

pub opens_101 : (answer (after_all (empty_card (replicate 49152 0)) before) (opens (asking kind.Psp 0x101))).code ≡ 0
unfolding part rest put joined lengths_of any least sum_to up_to ahead next body_at segment_at segments wanted broken opened settled_by
    settled fate_by fate at_gap in_order psp_fate hear carried_out refused received_by received answer after after_all
opens_101 = refl

pub overtaken_long : LongEnough kind.Psp 0x101 1 (replicate 49152 0) overtaken_calls
unfolding rest
overtaken_long = (
  long_holding,
  (long_slices true, (long_slices false, (long_slices true, ((λ e. tt), ((λ e. tt), ((λ e. absurd (true≢false (sym e))), behind)))))),
)
  where
    -- the two packets of nobody and the half on flow 2, then the last three of the flow
    behind : Each (λ x. hands_to kind.Psp 0x101 1 x ≡ true → Room x) (drop 6 overtaken_calls)
    behind = (long_slices false, (long_slices false, (long_slices false, (long_slices true, (long_slices true, (long_slices true, tt))))))

pub overtaken_only : packets_to kind.Psp 0x101 1 overtaken_calls ≡ map (packet_at packets) (0 ∷ 1 ∷ 3 ∷ 2 ∷ 3 ∷ [])
unfolding rest packets_to
overtaken_only = refl

pub overtaken_numbered : Each (λ p. s_set (sub p) ≡ true) (packets_to kind.Psp 0x101 1 overtaken_calls)
unfolding rest packets_to
overtaken_numbered = (refl, (refl, (refl, (refl, (refl, tt)))))

-- the bound, for each arrival after the first: less than 32,768 places ahead of the place expected next, and at most 32,768 behind it
pub overtaken_window : (1 < 32769) × (1 ≤ 32769) × ((3 < 32770) × (2 ≤ 32771)
    × ((2 < 32772) × (4 ≤ 32770) × ((3 < 32772) × (4 ≤ 32771) × Unit {0})))
overtaken_window = (omega arith, omega arith, (omega arith, omega arith, (omega arith, omega arith, (omega arith, omega arith, tt))))

abbrev pub overtaken : Run sending
overtaken =
    record {
      holding = replicate 49152 0;
      before = before;
      calls = overtaken_calls;
      arrivals = 0 ∷ 1 ∷ 3 ∷ 2 ∷ 3 ∷ [];
      opens_now = opens_101;
      stays_open = (refl, (refl, (refl, (refl, (refl, (refl, (refl, (refl, (refl, (refl, (refl, (refl, tt))))))))))));
      long_enough = overtaken_long;
      only_these = overtaken_only;
      all_numbered = overtaken_numbered;
      in_window = overtaken_window;
    }

-- The first, second and fourth frame come out, as they were; the third does not, for its second packet came after a later one.
pub demand_3_instance : comes_out sending overtaken ≡ (0x11 ∷ 0x12 ∷ 0x13 ∷ []) ∷ (0x21 ∷ []) ∷ (0x41 ∷ 0x42 ∷ []) ∷ []
unfolding part rest put joined lengths_of cut_by any least sum_to up_to ahead next body_at segment_at segments wanted broken opened closed
    settled_by settled fate_by fate at_gap in_order psp_fate hear carried_out refused received_by received answer after after_all frames_out
demand_3_instance = refl

pub their_packets : (carriers frames packets 0 ≡ 0 ∷ 1 ∷ []) × (carriers frames packets 1 ≡ 1 ∷ [])
    × (carriers frames packets 2 ≡ 1 ∷ 2 ∷ []) × (carriers frames packets 3 ≡ 3 ∷ [])
unfolding part rest sum_to up_to body_at segment_at segments places_from carriers
their_packets = (refl, refl, refl, refl)

-- What `Kept` says of the frame that is next: its bytes are there where it is whole, and nothing of it where it is not. Behind the last
-- frame there is nothing.
pub there_if_whole : {whole : ℕ → Type 0} {i : ℕ} {f : Pieces} {fs : List Pieces} {out : List (List ℕ)} → whole i →
    Kept whole i (f ∷ fs) out → (more : List (List ℕ)) × (out ≡ joined f ∷ more) × Kept whole (suc i) fs more
there_if_whole w (kept {out = more} v rest) = (more, refl, rest)
there_if_whole w (lost n rest) = absurd (n w)

pub gone_if_not : {whole : ℕ → Type 0} {i : ℕ} {f : Pieces} {fs : List Pieces} {out : List (List ℕ)} → (whole i → ⊥) →
    Kept whole i (f ∷ fs) out → Kept whole (suc i) fs out
gone_if_not n (kept w rest) = absurd (n w)
gone_if_not n (lost m rest) = rest

pub nothing_behind : {whole : ℕ → Type 0} {i : ℕ} {out : List (List ℕ)} → Kept whole i [] out → out ≡ []
nothing_behind no_more = refl

-- The packet of arrival number n is in time, where no arrival before is of a later one.
none_later : (n : ℕ) (xs : List ℕ) (k : ℕ) → Each (λ x. x ≤ k) (take n xs) → (j : ℕ) → j < n → get_or xs j 0 ≤ k
none_later zero xs k e j l = absurd (omega arith)
none_later (suc n) [] k e j l = omega arith
none_later (suc n) (x ∷ xs) k e zero l = e.0
none_later (suc n) (x ∷ xs) k e (suc j) l = none_later n xs k e.1 j (omega arith)

pub in_time_at : (xs : List ℕ) (n : ℕ) → n < length xs → Each (λ x. x ≤ get_or xs n 0) (take n xs) → InTime xs (get_or xs n 0)
in_time_at xs n there e = record { arrival = n; there = there; of_it = refl; none_later = none_later n xs (get_or xs n 0) e }

-- Packet 2 is not: it is arrival number 3 alone, and number 2 is of packet 3. Nor is any packet where none arrives.
pub not-in_time : InTime overtaken.arrivals 2 → ⊥
not-in_time t = at t.arrival t.there t.of_it t.none_later
  where
    at : (n : ℕ) → n < 5 → get_or overtaken.arrivals n 0 ≡ 2 → ((j : ℕ) → j < n → get_or overtaken.arrivals j 0 ≤ 2) → ⊥
    at zero l e none = absurd (omega (arith, e))
    at (suc zero) l e none = absurd (omega (arith, e))
    at (suc (suc zero)) l e none = absurd (omega (arith, e))
    at (suc (suc (suc zero))) l e none = absurd (omega (arith, none 2 (omega arith)))
    at (suc (suc (suc (suc zero)))) l e none = absurd (omega (arith, e))
    at (suc (suc (suc (suc (suc n))))) l e none = absurd (omega arith)

pub none_arrives : InTime [] 0 → ⊥
none_arrives t = not-suc-le-zero t.there

pub overtaken_whole : WholeIn sending overtaken 0 × WholeIn sending overtaken 1 × (WholeIn sending overtaken 2 → ⊥)
    × WholeIn sending overtaken 3
unfolding part rest sum_to up_to body_at segment_at segments places_from carriers
overtaken_whole = ((first, (second, tt)), (second, tt), (λ w. not-in_time w.1.0), (fourth, tt))
  where
    first : InTime overtaken.arrivals 0
    first = in_time_at overtaken.arrivals 0 (omega arith) tt

    second : InTime overtaken.arrivals 1
    second = in_time_at overtaken.arrivals 1 (omega arith) (omega arith, tt)

    fourth : InTime overtaken.arrivals 3
    fourth = in_time_at overtaken.arrivals 2 (omega arith) (omega arith, (omega arith, tt))

-- `demand_3`, applied: these three, and no other list, are the frames that arrived whole.
abbrev pub first_second_fourth : List (List ℕ)
first_second_fourth = (0x11 ∷ 0x12 ∷ 0x13 ∷ []) ∷ (0x21 ∷ []) ∷ (0x41 ∷ 0x42 ∷ []) ∷ []

pub exactly_three : (out : List (List ℕ)) → Kept (WholeIn sending overtaken) 0 frames out → out ≡ first_second_fourth
unfolding joined
exactly_three out k =
    let (w0, w1, n2, w3) = overtaken_whole in
    let (behind-0, e0, k1) = there_if_whole w0 k in
    let (behind-1, e1, k2) = there_if_whole w1 k1 in
    let (behind-3, e3, k4) = there_if_whole w3 (gone_if_not n2 k2) in
    rw (e0, e1, e3, nothing_behind k4) refl

abbrev pub Demand3Here : Type 0
Demand3Here = comes_out sending overtaken ≡ first_second_fourth

pub demand_3_applied : Demand3 → Demand3Here
demand_3_applied theorem = exactly_three (comes_out sending overtaken) (theorem sending overtaken)

pub in_time_lem : (in_time overtaken.arrivals 0 ≡ true) × (in_time overtaken.arrivals 1 ≡ true) × (in_time overtaken.arrivals 2 ≡ false)
    × (in_time overtaken.arrivals 3 ≡ true)
unfolding in_time
in_time_lem = (refl, refl, refl, refl)

-- `in_time_is_meant`, applied
abbrev pub InTimeIsMeantHere : Type 0
InTimeIsMeantHere = InTime overtaken.arrivals 3 × (in_time overtaken.arrivals 3 ≡ true)

pub in_time_is_meant_applied : InTimeIsMeant → InTimeIsMeantHere
in_time_is_meant_applied theorem =
    let both = theorem (0 ∷ 1 ∷ 3 ∷ 2 ∷ 3 ∷ []) 3 in
    (both.0 in_time_lem.3, both.1 (in_time_at overtaken.arrivals 2 (omega arith) (omega arith, (omega arith, tt))))

-- The five packets of the flow are answered so: the first two in order, the fourth past the third, and then both late.
abbrev pub overtaken_verdicts : List Verdict
overtaken_verdicts =
    record { code = 0; gap = 0 }
    ∷ record { code = 0; gap = 0 }
    ∷ record { code = 0; gap = 1 }
    ∷ record { code = 12; gap = 0 }
    ∷ record { code = 12; gap = 0 }
    ∷ []

pub gaps_instance : verdicts_out kind.Psp 0x101 1 (opened_card sending overtaken) overtaken_calls ≡ overtaken_verdicts
unfolding part rest put joined lengths_of cut_by any least sum_to up_to ahead next body_at segment_at segments wanted broken opened closed
    settled_by settled fate_by fate at_gap in_order psp_fate hear carried_out refused received_by received answer after after_all
    verdicts_out
gaps_instance = refl

pub gaps_expected : verdicts_of overtaken.arrivals ≡ overtaken_verdicts
unfolding verdicts_of verdicts_from
gaps_expected = refl

-- `gaps_are_told`, applied to PSP (to D-MPT: GapsInstance.antt)
numbered_up : NumberedUp kind.Psp sending.line packets
numbered_up = record { passing = keeps.passing; numbered = keeps.numbered }

abbrev pub GapsAreToldHere : Type 0
GapsAreToldHere = verdicts_out kind.Psp 0x101 1 (opened_card sending overtaken) overtaken_calls ≡ overtaken_verdicts

pub gaps_are_told_applied : GapsAreTold → GapsAreToldHere
gaps_are_told_applied theorem = theorem kind.Psp sending.line packets numbered_up overtaken ∙ gaps_expected

-- One lost fewer: in the worse run the third packet is lost, in the better one nothing is. The frame that it carries an end of comes out of
-- the second only, and the others come out of both.
abbrev pub worse_calls : List Call
worse_calls = hand packet0 ∷ hand packet1 ∷ hand packet3 ∷ []

abbrev pub better_calls : List Call
better_calls = hand packet0 ∷ hand packet1 ∷ hand packet2 ∷ hand packet3 ∷ []

pub worse_only : packets_to kind.Psp 0x101 1 worse_calls ≡ map (packet_at packets) (0 ∷ 1 ∷ 3 ∷ [])
unfolding rest packets_to
worse_only = refl

pub better_only : packets_to kind.Psp 0x101 1 better_calls ≡ map (packet_at packets) (0 ∷ 1 ∷ 2 ∷ 3 ∷ [])
unfolding rest packets_to
better_only = refl

pub worse_numbered : Each (λ p. s_set (sub p) ≡ true) (packets_to kind.Psp 0x101 1 worse_calls)
unfolding rest packets_to
worse_numbered = (refl, (refl, (refl, tt)))

pub better_numbered : Each (λ p. s_set (sub p) ≡ true) (packets_to kind.Psp 0x101 1 better_calls)
unfolding rest packets_to
better_numbered = (refl, (refl, (refl, (refl, tt))))

pub worse_long : LongEnough kind.Psp 0x101 1 (replicate 49152 0) worse_calls
unfolding rest
worse_long = (long_holding, (long_slices true, (long_slices true, (long_slices true, tt))))

pub better_long : LongEnough kind.Psp 0x101 1 (replicate 49152 0) better_calls
unfolding rest
better_long =
    (long_holding, (long_slices true, (long_slices true, (long_slices true, (long_slices true, tt)))))

abbrev pub worse : Run sending
worse =
    record {
      holding = replicate 49152 0;
      before = before;
      calls = worse_calls;
      arrivals = 0 ∷ 1 ∷ 3 ∷ [];
      opens_now = opens_101;
      stays_open = (refl, (refl, (refl, tt)));
      long_enough = worse_long;
      only_these = worse_only;
      all_numbered = worse_numbered;
      in_window = (omega arith, omega arith, (omega arith, omega arith, tt));
    }

abbrev pub better : Run sending
better =
    record {
      holding = replicate 49152 0;
      before = before;
      calls = better_calls;
      arrivals = 0 ∷ 1 ∷ 2 ∷ 3 ∷ [];
      opens_now = opens_101;
      stays_open = (refl, (refl, (refl, (refl, tt))));
      long_enough = better_long;
      only_these = better_only;
      all_numbered = better_numbered;
      in_window = (omega arith, omega arith, (omega arith, omega arith, (omega arith, omega arith, tt)));
    }

pub fewer_lost_instance : (comes_out sending worse ≡ (0x11 ∷ 0x12 ∷ 0x13 ∷ []) ∷ (0x21 ∷ []) ∷ (0x41 ∷ 0x42 ∷ []) ∷ [])
    × (comes_out sending better ≡ (0x11 ∷ 0x12 ∷ 0x13 ∷ []) ∷ (0x21 ∷ []) ∷ (0x31 ∷ 0x32 ∷ 0x33 ∷ []) ∷ (0x41 ∷ 0x42 ∷ []) ∷ [])
unfolding part rest put joined lengths_of cut_by any least sum_to up_to ahead next body_at segment_at segments wanted broken opened closed
    settled_by settled fate_by fate at_gap in_order psp_fate hear carried_out refused received_by received answer after after_all frames_out
fewer_lost_instance = (refl, refl)

-- Packet 2 did not arrive in the worse run, and all did in the better.
pub worse_whole : WholeIn sending worse 0 × WholeIn sending worse 1 × (WholeIn sending worse 2 → ⊥) × WholeIn sending worse 3
unfolding part rest sum_to up_to body_at segment_at segments places_from carriers
worse_whole = ((first, (second, tt)), (second, tt), (λ w. never w.1.0), (fourth, tt))
  where
    first : InTime worse.arrivals 0
    first = in_time_at worse.arrivals 0 (omega arith) tt

    second : InTime worse.arrivals 1
    second = in_time_at worse.arrivals 1 (omega arith) (omega arith, tt)

    fourth : InTime worse.arrivals 3
    fourth = in_time_at worse.arrivals 2 (omega arith) (omega arith, (omega arith, tt))

    at : (n : ℕ) → n < 3 → get_or worse.arrivals n 0 ≡ 2 → ⊥
    at zero l e = absurd (omega (arith, e))
    at (suc zero) l e = absurd (omega (arith, e))
    at (suc (suc zero)) l e = absurd (omega (arith, e))
    at (suc (suc (suc n))) l e = absurd (omega arith)

    never : InTime worse.arrivals 2 → ⊥
    never t = at t.arrival t.there t.of_it

pub better_whole : WholeIn sending better 0 × WholeIn sending better 1 × WholeIn sending better 2 × WholeIn sending better 3
unfolding part rest sum_to up_to body_at segment_at segments places_from carriers
better_whole = ((first, (second, tt)), (second, tt), (second, (third, tt)), (fourth, tt))
  where
    first : InTime better.arrivals 0
    first = in_time_at better.arrivals 0 (omega arith) tt

    second : InTime better.arrivals 1
    second = in_time_at better.arrivals 1 (omega arith) (omega arith, tt)

    third : InTime better.arrivals 2
    third = in_time_at better.arrivals 2 (omega arith) (omega arith, (omega arith, tt))

    fourth : InTime better.arrivals 3
    fourth = in_time_at better.arrivals 3 (omega arith) (omega arith, (omega arith, (omega arith, tt)))

-- What `ComeOut` says of these two: so it is for the numbers 0, 1, 3 and for all four.
pub worse_comes_out : ComeOut sending worse (0 ∷ 1 ∷ 3 ∷ [])
unfolding joined
worse_comes_out =
    record {
      in_order = (omega arith, (omega arith, (omega arith, tt)));
      were_sent = (omega arith, (omega arith, (omega arith, tt)));
      all_whole = (worse_whole.0, (worse_whole.1, (worse_whole.3, tt)));
      no_other = no_other;
      their_bytes = fewer_lost_instance.0;
    }
  where
    no_other : (i : ℕ) → i < 4 → WholeIn sending worse i → Memᴰ i (0 ∷ 1 ∷ 3 ∷ [])
    no_other zero l w = Memᴰ.head refl
    no_other (suc zero) l w = Memᴰ.tail (Memᴰ.head refl)
    no_other (suc (suc zero)) l w = absurd (worse_whole.2 w)
    no_other (suc (suc (suc zero))) l w = Memᴰ.tail (Memᴰ.tail (Memᴰ.head refl))
    no_other (suc (suc (suc (suc i)))) l w = absurd (omega arith)

pub better_comes_out : ComeOut sending better (0 ∷ 1 ∷ 2 ∷ 3 ∷ [])
unfolding joined
better_comes_out =
    record {
      in_order = (omega arith, (omega arith, (omega arith, (omega arith, tt))));
      were_sent = (omega arith, (omega arith, (omega arith, (omega arith, tt))));
      all_whole = (better_whole.0, (better_whole.1, (better_whole.2, (better_whole.3, tt))));
      no_other = no_other;
      their_bytes = fewer_lost_instance.1;
    }
  where
    no_other : (i : ℕ) → i < 4 → WholeIn sending better i → Memᴰ i (0 ∷ 1 ∷ 2 ∷ 3 ∷ [])
    no_other zero l w = Memᴰ.head refl
    no_other (suc zero) l w = Memᴰ.tail (Memᴰ.head refl)
    no_other (suc (suc zero)) l w = Memᴰ.tail (Memᴰ.tail (Memᴰ.head refl))
    no_other (suc (suc (suc zero))) l w = Memᴰ.tail (Memᴰ.tail (Memᴰ.tail (Memᴰ.head refl)))
    no_other (suc (suc (suc (suc i)))) l w = absurd (omega arith)

-- And so it is for no other numbers: two lists that rise and have the same members are the same.
at_least : (from : ℕ) (xs : List ℕ) → Rising from xs → (k : ℕ) → Memᴰ k xs → from ≤ k
at_least from [] r k m = elim m [ ]
at_least from (x ∷ xs) r k (Memᴰ.head e) = omega (arith, r.0, e)
at_least from (x ∷ xs) r k (Memᴰ.tail m) = omega (arith, r.0, at_least (suc x) xs r.1 k m)

not_first : {x k : ℕ} {xs : List ℕ} → x < k → Memᴰ k (x ∷ xs) → Memᴰ k xs
not_first l (Memᴰ.head e) = absurd (omega (arith, l, e))
not_first l (Memᴰ.tail m) = m

same_members : (from : ℕ) (xs ys : List ℕ) → Rising from xs → Rising from ys → ((k : ℕ) → Memᴰ k xs → Memᴰ k ys) →
    ((k : ℕ) → Memᴰ k ys → Memᴰ k xs) → xs ≡ ys
same_members from [] [] r s there back = refl
same_members from [] (y ∷ ys) r s there back = absurd (Memᴰ.not-nil (back y (Memᴰ.head refl)))
same_members from (x ∷ xs) [] r s there back = absurd (Memᴰ.not-nil (there x (Memᴰ.head refl)))
same_members from (x ∷ xs) (y ∷ ys) r s there back =
    let above = at_least y (y ∷ ys) (omega arith, s.1) x (there x (Memᴰ.head refl)) in
    let below = at_least x (x ∷ xs) (omega arith, r.1) y (back y (Memᴰ.head refl)) in
    let same : x ≡ y = omega (arith, above, below) in
    let behind = subst (λ z. Rising (suc z) ys) (sym same) s.1 in
    let more = same_members (suc x) xs ys r.1 behind
    (λ k m. not_first (omega (arith, same, at_least (suc x) xs r.1 k m)) (there k (Memᴰ.tail m)))
    (λ k m. not_first (omega (arith, same, at_least (suc y) ys s.1 k m)) (back k (Memᴰ.tail m))) in
    rw (same, more) refl

each_of : (P : ℕ → Type 0) (xs : List ℕ) → Each P xs → (k : ℕ) → Memᴰ k xs → P k
each_of P [] e k m = elim m [ ]
each_of P (x ∷ xs) e k (Memᴰ.head s) = subst P (sym s) e.0
each_of P (x ∷ xs) e k (Memᴰ.tail m) = each_of P xs e.1 k m

pub no_other_numbers : (r : Run sending) (xs ys : List ℕ) → ComeOut sending r xs → ComeOut sending r ys → xs ≡ ys
no_other_numbers r xs ys a b =
    same_members 0 xs ys a.in_order b.in_order
    (λ k m. b.no_other k (each_of (λ i. i < 4) xs a.were_sent k m) (each_of (WholeIn sending r) xs a.all_whole k m))
    (λ k m. a.no_other k (each_of (λ i. i < 4) ys b.were_sent k m) (each_of (WholeIn sending r) ys b.all_whole k m))

-- `fewer_lost`, applied
pub only_lost : Rising 0 better.arrivals
only_lost = (omega arith, (omega arith, (omega arith, (omega arith, tt))))

pub one_fewer : Sublistᴰ worse.arrivals better.arrivals
one_fewer = Sublistᴰ.cons-cons refl (Sublistᴰ.cons-cons refl (Sublistᴰ.cons (Sublistᴰ.cons-cons refl Sublistᴰ.slnil)))

abbrev pub all_four : List (List ℕ)
all_four = (0x11 ∷ 0x12 ∷ 0x13 ∷ []) ∷ (0x21 ∷ []) ∷ (0x31 ∷ 0x32 ∷ 0x33 ∷ []) ∷ (0x41 ∷ 0x42 ∷ []) ∷ []

abbrev pub FewerLostHere : Type 0
FewerLostHere =
    (comes_out sending worse ≡ first_second_fourth)
    × (comes_out sending better ≡ all_four)
    × Sublistᴰ {A = ℕ} (0 ∷ 1 ∷ 3 ∷ []) (0 ∷ 1 ∷ 2 ∷ 3 ∷ [])

pub fewer_lost_applied : FewerLost → FewerLostHere
unfolding joined
fewer_lost_applied theorem =
    let said = theorem sending worse better only_lost one_fewer in
    let of_worse = no_other_numbers worse said.of_worse (0 ∷ 1 ∷ 3 ∷ []) said.come_out worse_comes_out in
    let of_better = no_other_numbers better said.of_better (0 ∷ 1 ∷ 2 ∷ 3 ∷ []) said.come_out_too better_comes_out in (
      said.come_out.their_bytes ∙ ap (map (λ i. joined (get_or frames i []))) of_worse,
      said.come_out_too.their_bytes ∙ ap (map (λ i. joined (get_or frames i []))) of_better,
      subst (λ xs. Sublistᴰ xs (0 ∷ 1 ∷ 2 ∷ 3 ∷ [])) of_worse (subst (λ ys. Sublistᴰ said.of_worse ys) of_better said.among),
    )
