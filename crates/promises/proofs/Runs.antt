-- Runs, of a flow of either kind: what is read off the flow's calls is what it makes of the arrivals by itself; and each packet that
-- arrives was sent and has a number.
use Prim.Native.Nat.{ℕ, zero, suc, ◌<◌, ◌≤◌}
use mathlib.Core.Path.{◌≡◌, refl, sym, ap, subst, ◌∙◌}
use mathlib.Core.Bool.{Bool, true, false, cond, true≢false}
use mathlib.Core.List.{List, [], ◌∷◌, ◌++◌, map}
use native.Mathlib.Omega.{arith}
use lib.ListN.{length}
use Rattle.octets.specs.Each.{Each}
use Rattle.octets.proofs.Elements.{each_at}
use Rattle.flow.specs.Flow.{fresh, flows}
use Rattle.packet.specs.Header.{Packet, ip, sub, s_set}
use Rattle.packet.specs.Check.{check}
use Rattle.table.specs.declared.Kind.{Kind}
use Rattle.table.specs.declared.Terms.{Terms}
use Rattle.table.specs.Rows.{number_of}
use Rattle.table.specs.Calls.{asking}
use Rattle.table.proofs.Keeping.{kind_back}
use Rattle.card.specs.Receive.{holding_size}
use Rattle.card.specs.History.{Card, Call, opens, closes, hands, answer, after, after_all, empty_card}
use Rattle.card.proofs.ByKind.{flow_in_row}
use Rattle.sender.specs.Rules.{Line, packet_at}
use Rattle.promises.specs.Words.{of_flow, packets_to}
use Rattle.promises.specs.Demand.{RunOf, card_opened}
use Rattle.promises.proofs.Readings.{Reading, read_out}
use Rattle.promises.proofs.Alone.{terms_for, read_alone}
use Rattle.promises.proofs.Good.{Good, good-empty, good_all, good-after, holding-kept, holding-kept_all}
use Rattle.promises.proofs.Standing.{Stands, stands-opened}
use Rattle.promises.proofs.Steps.{of_session_lem}
use Rattle.promises.proofs.Passed.{Counts}
use Rattle.promises.proofs.Histories.{two_stretches, history_read}

not-empty : {x : Packet} {l : List Packet} → ◌≡◌ {A = List Packet} (x ∷ l) [] → ⊥
not-empty e = let z = ap length e in omega arith

-- nothing is read off a flow that gets no packet
none_out : {A : Type 0} (w : Reading A) (kind : Kind) (session flow : ℕ) (c : Card) (calls : List Call) →
    packets_to kind session flow calls ≡ [] → read_out w kind session flow c calls ≡ []
unfolding packets_to read_out
none_out w kind session flow c [] e = refl
none_out w kind session flow c (opens q ∷ more) e = none_out w kind session flow (after c (opens q)) more e
none_out w kind session flow c (closes id ∷ more) e = none_out w kind session flow (after c (closes id)) more e
none_out w kind session flow c (hands a ∷ more) e =
    by (of_flow kind session flow a.packet) e (none_out w kind session flow (after c (hands a)) more)
  where
    by : (t : Bool) → cond t (a.packet ∷ packets_to kind session flow more) (packets_to kind session flow more) ≡ [] →
        (packets_to kind session flow more ≡ [] → read_out w kind session flow (after c (hands a)) more ≡ []) →
        cond t (w.of_answer (answer c (hands a))) [] ++ read_out w kind session flow (after c (hands a)) more ≡ []
    by true e' behind = absurd (not-empty e')
    by false e' behind = behind e'

-- What arrives was sent: past the end of the packets stands an empty list, and a flow gets no such packet.
gets-own : (kind : Kind) (session flow : ℕ) (calls : List Call) →
    Each (λ p. of_flow kind session flow p ≡ true) (packets_to kind session flow calls)
unfolding packets_to
gets-own kind session flow [] = tt
gets-own kind session flow (opens q ∷ more) = gets-own kind session flow more
gets-own kind session flow (closes id ∷ more) = gets-own kind session flow more
gets-own kind session flow (hands a ∷ more) = by (of_flow kind session flow a.packet) refl (gets-own kind session flow more)
  where
    by : (t : Bool) → of_flow kind session flow a.packet ≡ t →
        Each (λ p. of_flow kind session flow p ≡ true) (packets_to kind session flow more) →
        Each (λ p. of_flow kind session flow p ≡ true)
        (cond t (a.packet ∷ packets_to kind session flow more) (packets_to kind session flow more))
    by true e own = (e, own)
    by false e own = own

sent-there : (kind : Kind) (session flow : ℕ) (packets : List Packet) (x : ℕ) → of_flow kind session flow (packet_at packets x) ≡ true →
    x < length packets
sent-there kind session flow [] x e = absurd (true≢false (sym e))
sent-there kind session flow (p ∷ packets) zero e = omega arith
sent-there kind session flow (p ∷ packets) (suc x) e = omega (arith, sent-there kind session flow packets x e)

were_sent : (kind : Kind) (session flow : ℕ) (packets : List Packet) (arrivals : List ℕ) →
    Each (λ p. of_flow kind session flow p ≡ true) (map (packet_at packets) arrivals) →
    Each (λ x. x < length packets) arrivals
were_sent kind session flow packets [] own = tt
were_sent kind session flow packets (x ∷ more) own =
    (sent-there kind session flow packets x own.0, were_sent kind session flow packets more own.1)

-- .. and what arrives has a number
counted : (packets : List Packet) (arrivals : List ℕ) → Each (λ x. x < length packets) arrivals →
    Each (λ p. s_set (sub p) ≡ true) (map (packet_at packets) arrivals) → Each (Counts packets) arrivals
counted packets [] sent set = tt
counted packets (x ∷ more) sent set = ((sent.0, set.0), counted packets more sent.1 set.1)

module _ (kind : Kind) (line : Line) (packets : List Packet) (r : RunOf kind line packets) where
  -- the card before the session's opening, and when it has been opened
  abbrev first : Card
  first = after_all (empty_card r.holding) r.before

  first_good : Good first
  first_good = good_all (empty_card r.holding) r.before (good-empty r.holding)

  abbrev start : Card
  start = card_opened kind line packets r

  good : Good start
  good = good-after first (opens (asking kind line.session)) first_good

  large : holding_size ≤ length start.holding
  large =
      omega (
        arith,
        r.long_enough.0,
        holding-kept first (opens (asking kind line.session)) first_good,
        holding-kept_all (empty_card r.holding) r.before (good-empty r.holding),
      )

  -- what arrives is for the flow, was sent, and has a number
  all_its_own : Each (λ p. of_flow kind line.session line.flow p ≡ true) (map (packet_at packets) r.arrivals)
  all_its_own =
      subst (λ (l : List Packet). Each (λ p. of_flow kind line.session line.flow p ≡ true) l) r.only_these
      (gets-own kind line.session line.flow r.calls)

  pub all_sent : Each (λ x. x < length packets) r.arrivals
  all_sent = were_sent kind line.session line.flow packets r.arrivals all_its_own

  pub all_counted : Each (Counts packets) r.arrivals
  all_counted =
      counted packets r.arrivals all_sent
      (subst (λ (l : List Packet). Each (λ p. s_set (sub p) ≡ true) l) r.only_these r.all_numbered)

  module _ (passing : Each (λ p. check (number_of kind) p ≡ 0) packets) where
    passing_at : (arrivals : List ℕ) → Each (λ x. x < length packets) arrivals →
        Each (λ p. check (number_of kind) p ≡ 0) (map (packet_at packets) arrivals)
    passing_at [] l = tt
    passing_at (x ∷ more) l = (each_at (λ p. check (number_of kind) p ≡ 0) packets x (ip []) passing l.0, passing_at more l.1)

    in_a_row : (x : ℕ) → x < length packets → of_flow kind line.session line.flow (packet_at packets x) ≡ true → line.flow < flows
    in_a_row x l own =
        let p = packet_at packets x in
        let passes = two_stretches kind p (each_at (λ q. check (number_of kind) q ≡ 0) packets x (ip []) passing l) in
        omega (arith, (of_session_lem kind line.session line.flow p own).1, flow_in_row (terms_for kind) (sub p) passes.1)

    -- what is read off the flow in the run is what it makes of the arrivals by itself
    module _ {A : Type 0} (w : Reading A) where
      alone : (arrivals : List ℕ) → Each (λ x. x < length packets) arrivals →
          Each (λ p. of_flow kind line.session line.flow p ≡ true) (map (packet_at packets) arrivals) →
          packets_to kind line.session line.flow r.calls ≡ map (packet_at packets) arrivals →
          read_out w kind line.session line.flow start r.calls
          ≡ read_alone w (terms_for kind) fresh [] (map (packet_at packets) arrivals)
      unfolding read_alone
      alone [] sent own these = none_out w kind line.session line.flow start r.calls these
      alone (x ∷ more) sent own these =
          let inside = in_a_row x sent.0 own.0 in
          let stands =
          subst (λ (terms : Terms). Stands start line.session line.flow terms fresh []) (ap terms_for (kind_back kind))
          (stands-opened first (asking kind line.session) line.flow first_good inside r.opens_now) in
          history_read w kind line.session line.flow start r.calls fresh [] inside good large stands r.stays_open
          r.long_enough.1
          (subst (λ (l : List Packet). Each (λ p. check (number_of kind) p ≡ 0) l) (sym these) (passing_at (x ∷ more) sent))
          ∙ ap (read_alone w (terms_for kind) fresh []) these

      pub run-read : read_out w kind line.session line.flow start r.calls
          ≡ read_alone w (terms_for kind) fresh [] (map (packet_at packets) r.arrivals)
      run-read = alone r.arrivals all_sent all_its_own r.only_these
