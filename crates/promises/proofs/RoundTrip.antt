-- There and back. The sender's packets keep the rules that demand 3 supposes, so demand 3 says what comes of them: over a network the
-- frames that arrived whole; and where all arrive in order all of them, since each packet then arrives before any sent after it.
use Prim.Native.Nat.{ℕ, ◌+◌, ◌-◌, ◌<◌}
use mathlib.Core.Path.{◌≡◌, refl, sym, ap, subst, ◌∙◌}
use mathlib.Core.Bool.{Bool, true, false, cond}
use mathlib.Core.List.{List, [], ◌∷◌, ◌++◌, append-nil, append_assoc}
use native.Mathlib.Omega.{arith}
use native.Mathlib.Numerals.{add-one}
use lib.Dec.{eqb, ltb}
use lib.ListN.{length, length-append, get_or-append}
use lib.Seq.{get_or-append-add}
use borrow.Author.Tests.{eqb-true, ltb-true, ltb-false}
use Rattle.octets.specs.Each.{Each}
use Rattle.octets.proofs.Elements.{each_both}
use Rattle.flow.specs.Numbers.{modulus, number_at}
use Rattle.flow.proofs.Numbers.{next_below, number_at-first, number_at-from-next, number_at_on}
use Rattle.packet.specs.Header.{Packet, ip, sub, s_set, number}
use Rattle.packet.specs.Segments.{entry_width}
use Rattle.packet.specs.Check.{kind_psp, check}
use Rattle.sender.specs.declared.Position.{Position}
use Rattle.sender.specs.Send.{Asked, sent}
use Rattle.sender.specs.Series.{Job, Turn, asked_for, packet_left, series_packets, series_number}
use Rattle.sender.specs.Rules.{Line, packet_at, KeepsRules, Pieces, FrameSized, Addressed, segments_of, whole_frame, begun_frame, in_turn}
use Rattle.sender.specs.Rules.{all_segments}
use Rattle.sender.proofs.Keeping.{sent-length, sent-number}
use Rattle.sender.proofs.Series.{code_is, sends_all}
use Rattle.sender.proofs.Ways.{keeps_ways, numbers_ways}
use Rattle.promises.specs.Demand.{Sending, Run}
use Rattle.promises.specs.RoundTrip.{packets_given, line_of, SenderKeepsRules, SendingsGoOn, KeepsLimit, sending_of, RoundTrip}
use Rattle.promises.proofs.AllArrive.{in_a_row, all_packets, in_bound, all_whole, all_kept}
use Rattle.promises.proofs.Demand.{demand_3}

-- What the sender sends is a sending of these frames.
pub sender_keeps_rules : SenderKeepsRules
sender_keeps_rules =
    record {
      pieces = λ g. (sends_all g.job g.sound g.turns g.number g.two_bytes g.usable g.enough).0;
      are_sent = λ g.
          let all = sends_all g.job g.sound g.turns g.number g.two_bytes g.usable g.enough in
          record {
            these_frames = all.1;
            by_the_rules = keeps_ways (line_of g) all.0 [] g.ways _ all.2;
            has_numbers = numbers_ways g.ways _ all.3;
          };
    }

-- No packet is longer than its limit.
pub keeps_limit : KeepsLimit
keeps_limit a z = sent-length a (sym (code_is a) ∙ z)

-- One sending behind another: the segments of both, ..
segments_both : (packets behind : List Packet) →
    all_segments entry_width (packets ++ behind) ≡ all_segments entry_width packets ++ all_segments entry_width behind
unfolding all_segments
segments_both [] behind = refl
segments_both (p ∷ packets) behind =
    rw (segments_both packets behind)
    (sym (append_assoc (segments_of entry_width p) (all_segments entry_width packets) (all_segments entry_width behind)))

frames_both : (frames more : List Pieces) → in_turn (frames ++ more) ≡ in_turn frames ++ in_turn more
unfolding in_turn
frames_both [] more = refl
frames_both (f ∷ frames) more = rw (frames_both frames more) (sym (append_assoc (whole_frame true f) (in_turn frames) (in_turn more)))

-- .. and their numbers
numbered_both : (start : ℕ) (packets behind : List Packet) →
    ((i : ℕ) → i < length packets → number (sub (packet_at packets i)) ≡ number_at start i) →
    ((i : ℕ) → i < length behind → number (sub (packet_at behind i)) ≡ number_at (number_at start (length packets)) i) →
    (i : ℕ) → i < length (packets ++ behind) → number (sub (packet_at (packets ++ behind) i)) ≡ number_at start i
numbered_both start packets behind front back i l = by (ltb i (length packets)) refl
  where
    by : (t : Bool) → ltb i (length packets) ≡ t → number (sub (packet_at (packets ++ behind) i)) ≡ number_at start i
    by true e =
        let here = ltb-true i (length packets) e in
        rw (get_or-append packets behind (ip []) i here) (front i here)
    by false e =
        let past = ltb-false i (length packets) e in
        let j = i - length packets in
        let split : i ≡ length packets + (i - length packets) = omega arith in
        rw split
        (ap (λ (p : Packet). number (sub p)) (get_or-append-add packets behind j (ip []))
        ∙ back j (omega (arith, length-append packets behind))
        ∙ number_at_on start (length packets) j)

both_keep : (line : Line) (frames more : List Pieces) (unfinished : Pieces) (packets behind : List Packet) →
    KeepsRules line frames [] packets →
    KeepsRules (record { session = line.session; flow = line.flow; start = number_at line.start (length packets) }) more
    unfinished behind →
    KeepsRules line (frames ++ more) unfinished (packets ++ behind)
unfolding begun_frame
both_keep line frames more unfinished packets behind first then =
    record {
      sizes = each_both FrameSized frames more first.sizes then.sizes;
      passing = each_both (λ p. check kind_psp p ≡ 0) packets behind first.passing then.passing;
      addressed = each_both (Addressed line) packets behind first.addressed then.addressed;
      numbered = numbered_both line.start packets behind first.numbered then.numbered;
      in_order =
          rw (segments_both packets behind, first.in_order, then.in_order, frames_both frames more, append-nil (in_turn frames))
          (sym (append_assoc (in_turn frames) (in_turn more) (begun_frame true unfinished)));
    }

-- The number that a series gives back is that of the packet which would come next: each call that is not refused gives back the next of its
-- own.
series_number_lem : (job : Job) (turns : List Turn) (number : ℕ) (at : Position) → number < modulus →
    series_number job number at turns ≡ number_at number (length (series_packets job number at turns))
unfolding series_number series_packets
series_number_lem job [] number at b = sym (number_at-first number b)
series_number_lem job (turn ∷ more) number at b =
    by (eqb (sent asked).answer.code 0) refl (series_number_lem job more (sent asked).answer.number (sent asked).answer.position)
  where
    asked : Asked
    asked = asked_for job number at turn

    by : (t : Bool) → eqb (sent asked).answer.code 0 ≡ t →
        ((sent asked).answer.number < modulus → series_number job (sent asked).answer.number (sent asked).answer.position more
        ≡ number_at (sent asked).answer.number
        (length (series_packets job (sent asked).answer.number (sent asked).answer.position more))) →
        cond t (series_number job (sent asked).answer.number (sent asked).answer.position more) number
        ≡ number_at number (length
        (cond t (packet_left (sent asked) ∷ series_packets job (sent asked).answer.number (sent asked).answer.position more) []))
    by false e behind = sym (number_at-first number b)
    by true e behind =
        let given = sent-number asked (sym (code_is asked) ∙ eqb-true (sent asked).answer.code 0 e) in
        let later = length (series_packets job (sent asked).answer.number (sent asked).answer.position more) in
        behind (rw given (next_below number)) ∙ ap (λ (n : ℕ). number_at n later) given ∙ number_at-from-next number later
        ∙ ap (number_at number) (add-one later)

pub sendings_go_on : SendingsGoOn
sendings_go_on = record { joined_up = both_keep; numbered_on = λ job number at turns b. series_number_lem job turns number at b }

-- What comes out: all frames, where all packets arrive in order; and over a network what demand 3 says.
pub round_trip : RoundTrip
round_trip =
    record {
      in_order = λ g o.
          let is-sent = sender_keeps_rules.are_sent g in
          let s : Sending = sending_of g (sender_keeps_rules.pieces g) is-sent in
          let r : Run s =
          record {
            holding = o.holding;
            before = o.before;
            calls = o.calls;
            arrivals = in_a_row 0 (length (packets_given g));
            opens_now = o.opens_now;
            stays_open = o.stays_open;
            long_enough = o.long_enough;
            only_these = o.all_arrive ∙ sym (all_packets (packets_given g));
            all_numbered = subst (Each (λ p. s_set (sub p) ≡ true)) (sym o.all_arrive) is-sent.has_numbers;
            in_window = in_bound (length (packets_given g));
          } in
          all_kept (all_whole (sender_keeps_rules.pieces g) (packets_given g)) (demand_3 s r) ∙ is-sent.these_frames;
      over_a_network = λ g frames is-sent r. demand_3 (sending_of g frames is-sent) r;
    }
