-- Whatever is called in a history, what is read off the calls for one flow, of a session of either kind, is what the flow by itself makes
-- of its packets: each call either hands it its next packet, or leaves it as it was.
use Prim.Native.Nat.{ℕ, ◌<◌, ◌≤◌}
use mathlib.Core.Path.{◌≡◌, refl, sym, ap, ◌∙◌}
use mathlib.Core.Bool.{Bool, true, false, cond}
use mathlib.Core.List.{List, [], ◌∷◌, ◌++◌}
use native.Mathlib.Omega.{arith}
use lib.ListN.{length}
use borrow.Author.Tests.{le-ltb}
use Rattle.refusal.specs.Refusal.{first}
use Rattle.refusal.proofs.Laws.{none-applies, none_first, none_apart}
use Rattle.octets.specs.Each.{Each}
use Rattle.flow.specs.declared.Flow.{Flow}
use Rattle.flow.specs.Flow.{flows}
use Rattle.packet.specs.Header.{Packet, sub, before_session}
use Rattle.packet.specs.Segments.{entry_width}
use Rattle.packet.specs.Psp.{psp_refusals}
use Rattle.packet.specs.Dmpt.{dmpt_refusals}
use Rattle.packet.specs.Check.{kind_psp, kind_dmpt, check_refusals, check}
use Rattle.table.specs.declared.Kind.{Kind}
use Rattle.table.specs.declared.Kind.TheVariants as kind
use Rattle.table.specs.declared.Terms.{Terms}
use Rattle.table.specs.Rows.{number_of}
use Rattle.join.specs.Slices.{most_frames, most_bytes, as_slices}
use Rattle.card.specs.Hear.{judged_of, record_after}
use Rattle.card.specs.Receive.{holding_size, too_small, packet_refusals}
use Rattle.card.specs.History.{Card, Arrival, Call, opens, closes, hands, answer, after}
use Rattle.octets.proofs.Stretches.{cut-part-none}
use Rattle.promises.specs.Words.{of_flow, hands_to, closes_it, packets_to, Room, StaysOpen}
use Rattle.promises.proofs.Readings.{Reading, read_out}
use Rattle.promises.proofs.Alone.{terms_for, heard_alone, read_alone}
use Rattle.promises.proofs.Good.{Good, good-after, holding-kept, refused_stays}
use Rattle.promises.proofs.Refusals.{refusals_change_nothing}
use Rattle.promises.proofs.Standing.{Stands}
use Rattle.promises.proofs.Steps.{stands_stay, stands_heard, hands-code}

-- the two stretches of the check, by the session's kind
pub two_stretches : (kind : Kind) (packet : Packet) → check (number_of kind) packet ≡ 0 → (first (before_session packet) ≡ 0)
    × (first (packet_refusals (terms_for kind) (sub packet)) ≡ 0)
unfolding check check_refusals
two_stretches kind.Psp packet z =
    let n = none-applies (check_refusals kind_psp packet) refl z in
    let both = none_apart (before_session packet) (psp_refusals entry_width (sub packet)) n.1 in
    (none_first (before_session packet) both.0, none_first (psp_refusals entry_width (sub packet)) both.1)
two_stretches kind.Dmpt packet z =
    let n = none-applies (check_refusals kind_dmpt packet) refl z in
    let both = none_apart (before_session packet) (dmpt_refusals (sub packet)) n.1 in
    (none_first (before_session packet) both.0, none_first (dmpt_refusals (sub packet)) both.1)

enough : (holding out lengths : List ℕ) → holding_size ≤ length holding → most_bytes ≤ length out → most_frames ≤ length lengths →
    too_small (as_slices holding out lengths) ≡ false
enough holding out lengths h o l =
    rw (le-ltb (length holding) holding_size h, le-ltb (length out) most_bytes o, le-ltb (length lengths) most_frames l) refl

module _ (kind : Kind) (session flow : ℕ) (inside : flow < flows) where
  abbrev terms : Terms
  terms = terms_for kind

  -- what is known of a card in the middle of such a history
  record Hears (c : Card) (f : Flow) (held : List ℕ) : Type 0 where
    good : Good c
    large : holding_size ≤ length c.holding
    stands : Stands c session flow terms f held

  -- a call for others leaves it so
  stays : (c : Card) (x : Call) (f : Flow) (held : List ℕ) → Hears c f held → hands_to kind session flow x ≡ false →
      closes_it session x ≡ false → Hears (after c x) f held
  stays c x f held h other live =
      record {
        good = good-after c x h.good;
        large = omega (arith, h.large, holding-kept c x h.good);
        stands = stands_stay c x session flow terms f held h.good inside h.stands other live;
      }

  -- its own packet: late, and passed over; or heard
  module _ (c : Card) (a : Arrival) (f : Flow) (held : List ℕ) (h : Hears c f held)
      (of_it : of_flow kind session flow a.packet ≡ true)
      (room : Room (hands a)) (passes : check (number_of kind) a.packet ≡ 0) where
    abbrev packet : Packet
    packet = a.packet

    abbrev x : Call
    x = hands a

    its_code : (answer c x).code ≡ cond (judged_of f (sub packet)).late 12 0
    its_code =
        let p = two_stretches kind packet passes in
        hands-code c a session flow terms f held h.good h.stands of_it
        (enough c.holding a.output a.lengths h.large room.0 room.1) p.0 p.1

    -- what is read off a late packet, and off one that is heard
    module _ {A : Type 0} (w : Reading A) where
      read_late : (judged_of f (sub packet)).late ≡ true → (after c x ≡ c) × (w.of_answer (answer c x) ≡ w.of_late)
      read_late late =
          let by : ((answer c x).code ≡ 12) = its_code ∙ ap (λ (b : Bool). cond b 12 0) late in
          let refused : ((answer c x).code ≡ 0 → ⊥) = λ z. twelve (sym z ∙ by) in
          let none = refusals_change_nothing.counts c x refused in (
            refused_stays c x refused,
            w.when_late (answer c x) by (rw none.0 (cut-part-none (answer c x).lengths (answer c x).output)) none.3,
          )
        where
          twelve : ◌≡◌ {A = ℕ} 0 12 → ⊥
          twelve e = omega arith

      read_heard : (judged_of f (sub packet)).late ≡ false →
          Hears (after c x) (record_after (heard_alone terms f held packet)) (heard_alone terms f held packet).fate.held
          × (w.of_answer (answer c x) ≡ w.of_heard (heard_alone terms f held packet))
      read_heard in_time_lem =
          let by : ((answer c x).code ≡ 0) = its_code ∙ ap (λ (b : Bool). cond b 12 0) in_time_lem in
          let heard = stands_heard c a session flow terms f held h.good inside h.stands of_it by in (
            record {
              good = good-after c x h.good;
              large = omega (arith, h.large, holding-kept c x h.good);
              stands = heard.0;
            },
            w.when_heard (answer c x) (heard_alone terms f held packet) by heard.1 heard.2,
          )

  module _ {A : Type 0} (w : Reading A) where
    abbrev Goes : List Call → Type 0
    Goes calls =
        (c : Card) (f : Flow) (held : List ℕ) → Hears c f held →
        read_out w kind session flow c calls ≡ read_alone w terms f held (packets_to kind session flow calls)

    hands_goes : (a : Arrival) (more : List Call) → (hands_to kind session flow (hands a) ≡ true → Room (hands a)) →
        Goes more → (t : Bool) → of_flow kind session flow a.packet ≡ t →
        Each (λ p. check (number_of kind) p ≡ 0)
        (cond t (a.packet ∷ packets_to kind session flow more) (packets_to kind session flow more)) →
        (c : Card) (f : Flow) (held : List ℕ) → Hears c f held →
        cond t (w.of_answer (answer c (hands a))) [] ++ read_out w kind session flow (after c (hands a)) more
        ≡ read_alone w terms f held (cond t (a.packet ∷ packets_to kind session flow more) (packets_to kind session flow more))
    unfolding read_alone
    hands_goes a more room goes false e passing c f held h =
        goes (after c (hands a)) f held (stays c (hands a) f held h e refl)
    hands_goes a more room goes true e passing c f held h = judged (judged_of f (sub a.packet)).late refl
      where
        judged : (late : Bool) → (judged_of f (sub a.packet)).late ≡ late →
            w.of_answer (answer c (hands a)) ++ read_out w kind session flow (after c (hands a)) more
            ≡ cond late (w.of_late ++ read_alone w terms f held (packets_to kind session flow more))
            (w.of_heard (heard_alone terms f held a.packet) ++ read_alone w terms (record_after (heard_alone terms f held a.packet))
            (heard_alone terms f held a.packet).fate.held (packets_to kind session flow more))
        judged true late =
            let none = read_late c a f held h e (room e) passing.0 w late in
            rw (none.0, none.1) (ap (λ (l : List A). w.of_late ++ l) (goes c f held h))
        judged false late =
            let heard = read_heard c a f held h e (room e) passing.0 w late in
            rw heard.1 (ap (λ (l : List A). w.of_heard (heard_alone terms f held a.packet) ++ l)
            (goes (after c (hands a)) (record_after (heard_alone terms f held a.packet))
            (heard_alone terms f held a.packet).fate.held heard.0))

    goes_all : (calls : List Call) → StaysOpen session calls → Each (λ x. hands_to kind session flow x ≡ true → Room x) calls →
        Each (λ p. check (number_of kind) p ≡ 0) (packets_to kind session flow calls) → Goes calls
    unfolding read_out packets_to read_alone
    goes_all [] live room passing c f held h = refl
    goes_all (opens q ∷ more) live room passing c f held h =
        goes_all more live.1 room.1 passing (after c (opens q)) f held (stays c (opens q) f held h refl refl)
    goes_all (closes id ∷ more) live room passing c f held h =
        goes_all more live.1 room.1 passing (after c (closes id)) f held (stays c (closes id) f held h refl live.0)
    goes_all (hands a ∷ more) live room passing c f held h =
        hands_goes a more room.0 (λ c' f' held' h'. goes_all more live.1 room.1
        (rest-passing (of_flow kind session flow a.packet) passing) c' f' held' h')
        (of_flow kind session flow a.packet) refl passing c f held h
      where
        rest-passing : (t : Bool) → Each (λ p. check (number_of kind) p ≡ 0)
            (cond t (a.packet ∷ packets_to kind session flow more) (packets_to kind session flow more)) →
            Each (λ p. check (number_of kind) p ≡ 0) (packets_to kind session flow more)
        rest-passing true p = p.1
        rest-passing false p = p

-- The whole history.
pub history_read : {A : Type 0} (w : Reading A) (kind : Kind) (session flow : ℕ) (c : Card) (calls : List Call) (f : Flow) (held : List ℕ) →
    flow < flows → Good c →
    holding_size ≤ length c.holding → Stands c session flow (terms_for kind) f held → StaysOpen session calls →
    Each (λ x. hands_to kind session flow x ≡ true → Room x) calls →
    Each (λ p. check (number_of kind) p ≡ 0) (packets_to kind session flow calls) →
    read_out w kind session flow c calls ≡ read_alone w (terms_for kind) f held (packets_to kind session flow calls)
history_read w kind session flow c calls f held inside good large stands live room passing =
    goes_all kind session flow inside w calls live room passing c f held (record { good = good; large = large; stands = stands })
