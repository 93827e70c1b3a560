-- From the core to the modulator: a reader gets back whatever frames that keep W3's rules the writer was given; what a session delivers is
-- on one of its flows, each frame; and what comes out of a flow is known by demand 3.
use Prim.Native.Nat.{ℕ, ◌<◌}
use mathlib.Core.Path.{◌≡◌, refl, sym, ap, subst, ◌∙◌}
use mathlib.Core.Bool.{Bool, true, false, cond, ◌&&◌}
use mathlib.Core.Logic.{◌⊎◌, inl, inr}
use mathlib.Core.List.{List, [], ◌∷◌, ◌++◌, map-append}
use lib.Dec.{eqb}
use borrow.Author.Tests.{eqb-true, eqb-false, eq-eqb}
use Rattle.octets.specs.Stretch.{joined}
use Rattle.octets.specs.Each.{Each}
use Rattle.octets.proofs.Counts.{true-or-false}
use Rattle.octets.proofs.Elements.{each_both, each_front, each_back}
use Rattle.octets.proofs.Stretches.{cut-part-none}
use Rattle.flow.specs.Flow.{flows}
use Rattle.packet.specs.Header.{sub}
use Rattle.table.specs.declared.Kind.{Kind}
use Rattle.table.specs.declared.Kind.TheVariants as kind
use Rattle.card.specs.Hear.{flow_in}
use Rattle.card.specs.History.{Card, Arrival, Call, opens, closes, hands, lent_with, frames_of, answer, after}
use Rattle.card.proofs.Accepted.{accepted}
use Rattle.card.proofs.ByKind.{flow_in_row}
use Rattle.card.specs.Receive.{row_of}
use Rattle.table.specs.Rows.{terms_at}
use Rattle.sender.specs.Rules.{Pieces}
use Rattle.ts.proofs.Unique.{packet_with, same-packet}
use Rattle.mpeg.specs.Frame.{Good}
use Rattle.mpeg.specs.Run.{Burst, GoodBursts, all_frames}
use Rattle.mpeg.specs.Write as write
use Rattle.mpeg.specs.Read as read
use Rattle.mpeg.specs.HandOut.{handed_out}
use Rattle.mpeg.proofs.Unique.{write_permitted, write_unique, read-permitted, read_unique, hand_out_there, hand_out_permitted}
use Rattle.mpeg.proofs.Unique.{hand_out_unique, handed_out-permitted, handed_out_unique}
use Rattle.mpeg.proofs.RunsRead.{runs_are_read, all_come_back}
use Rattle.promises.specs.Arrivals.{Kept, no_more, kept, lost}
use Rattle.promises.specs.Words.{of_session, hands_to, frames_out, chosen}
use Rattle.promises.specs.Demand.{kind_on, opened_card, WholeIn}
use Rattle.promises.specs.Modulator.{Delivery, delivered_on, delivers_to, deliveries, frames_in, on_flow, session_frames}
use Rattle.promises.specs.Modulator.{SentOn, SentMayTravel, CoreToModulator, UniqueMpeg}
use Rattle.promises.proofs.Pieces.{chosen-joined}
use Rattle.promises.proofs.Refusals.{refusals_change_nothing}
use Rattle.promises.proofs.Demand.{demand_3}

-- what is kept of frames that keep the rules keeps them
kept-good : {whole : ℕ → Type 0} {i : ℕ} {frames : List Pieces} {out : List (List ℕ)} → Kept whole i frames out →
    Each (λ f. Good (joined f)) frames → Each Good out
kept-good no_more g = tt
kept-good (kept w k) g = (g.0, kept-good k g.1)
kept-good (lost w k) g = kept-good k g.1

-- bursts of which all frames are good
bursts-good : (bursts : List Burst) → Each Good (all_frames bursts) → GoodBursts bursts
unfolding all_frames
bursts-good [] g = tt
bursts-good (burst ∷ more) g = (each_front Good burst (all_frames more) g, bursts-good more (each_back Good burst (all_frames more) g))

-- What is delivered on a flow is what comes out of it: the frames of one call are all on the packet's flow.
on_its_flow : (flow k : ℕ) (own : Bool) → eqb k flow ≡ own → (frames : List (List ℕ)) →
    frames_in (on_flow flow (delivered_on k frames)) ≡ cond own frames []
unfolding chosen
on_its_flow flow k true e [] = refl
on_its_flow flow k false e [] = refl
on_its_flow flow k true e (f ∷ frames) = rw e (ap (λ (fs : List (List ℕ)). f ∷ fs) (on_its_flow flow k true e frames))
on_its_flow flow k false e (f ∷ frames) = rw e (on_its_flow flow k false e frames)

on_flow-joined : (flow : ℕ) (a b : List Delivery) →
    frames_in (on_flow flow (a ++ b)) ≡ frames_in (on_flow flow a) ++ frames_in (on_flow flow b)
on_flow-joined flow a b =
    ap frames_in (chosen-joined (λ (d : Delivery). eqb d.flow flow) a b)
    ∙ map-append (λ (d : Delivery). d.frame) (on_flow flow a) (on_flow flow b)

of_one_call : (kind : Kind) (session flow : ℕ) (c : Card) (x : Call) →
    frames_in (on_flow flow (delivers_to kind session c x)) ≡ cond (hands_to kind session flow x) (frames_of (answer c x)) []
unfolding chosen
of_one_call kind session flow c (opens q) = refl
of_one_call kind session flow c (closes id) = refl
of_one_call kind session flow c (hands a) = by (of_session session a.packet)
  where
    k : ℕ
    k = flow_in kind (sub a.packet)

    frames : List (List ℕ)
    frames = frames_of (answer c (hands a))

    by : (its : Bool) → frames_in (on_flow flow (cond its (delivered_on k frames) [])) ≡ cond (its && eqb k flow) frames []
    by true = on_its_flow flow k (eqb k flow) refl frames
    by false = refl

frames-on_flow : (kind : Kind) (session flow : ℕ) (c : Card) (calls : List Call) →
    frames_in (on_flow flow (deliveries kind session c calls)) ≡ frames_out kind session flow c calls
unfolding deliveries frames_out chosen
frames-on_flow kind session flow c [] = refl
frames-on_flow kind session flow c (x ∷ more) =
    on_flow-joined flow (delivers_to kind session c x) (deliveries kind session (after c x) more)
    ∙ ap (λ (fs : List (List ℕ)). fs ++ frames_in (on_flow flow (deliveries kind session (after c x) more)))
    (of_one_call kind session flow c x)
    ∙ ap (λ (fs : List (List ℕ)). cond (hands_to kind session flow x) (frames_of (answer c x)) [] ++ fs)
    (frames-on_flow kind session flow (after c x) more)

-- The theorem.
pub core_to_modulator : CoreToModulator
core_to_modulator =
    record {
      all_arrive = λ kind session c calls m travels.
          let frames = session_frames kind session c calls in
          let good = subst (λ (out : List (List ℕ)). Each Good out) (sym m.all_given) travels in
          let bursts = bursts-good m.bursts good in
          record {
            taken = (runs_are_read m.count m.bursts bursts).taken;
            these_frames = all_come_back m.count m.bursts bursts m.nothing_waits ∙ m.all_given;
          };
      of_each-flow = λ s r.
          subst (λ (out : List (List ℕ)). Kept (WholeIn s r) 0 s.frames out)
          (sym (frames-on_flow (kind_on s.line) s.line.session s.line.flow (opened_card s r) r.calls)) (demand_3 s r);
    }

-- A packet that delivers names one of the four flows, so each frame is on one of them.
accepted_in_row : (c : Card) (a : Arrival) → (answer c (hands a)).code ≡ 0 → flow_in kind.Psp (sub a.packet) < flows
unfolding answer
accepted_in_row c a z =
    flow_in_row (terms_at c.table (row_of c.table a.packet)) (sub a.packet)
    (accepted c.table a.packet (lent_with c a) z).passed

refused-gives-none : (c : Card) (a : Arrival) → ((answer c (hands a)).code ≡ 0 → ⊥) → frames_of (answer c (hands a)) ≡ []
refused-gives-none c a refused =
    rw (refusals_change_nothing.counts c (hands a) refused).0
    (cut-part-none (answer c (hands a)).lengths (answer c (hands a)).output)

abbrev InRow : Delivery → Type 0
InRow d = d.flow < flows

each_on : (k : ℕ) → k < flows → (frames : List (List ℕ)) → Each InRow (delivered_on k frames)
each_on k l [] = tt
each_on k l (f ∷ frames) = (l, each_on k l frames)

call_in_row : (kind : Kind) (session : ℕ) (c : Card) (x : Call) → Each InRow (delivers_to kind session c x)
call_in_row kind session c (opens q) = tt
call_in_row kind session c (closes id) = tt
call_in_row kind session c (hands a) = by (of_session session a.packet) (true-or-false (eqb (answer c (hands a)).code 0))
  where
    k : ℕ
    k = flow_in kind (sub a.packet)

    by : (its : Bool) → (eqb (answer c (hands a)).code 0 ≡ true) ⊎ (eqb (answer c (hands a)).code 0 ≡ false) →
        Each InRow (cond its (delivered_on k (frames_of (answer c (hands a)))) [])
    by true (inl e) = each_on k (accepted_in_row c a (eqb-true (answer c (hands a)).code 0 e)) (frames_of (answer c (hands a)))
    by true (inr e) = rw (refused-gives-none c a (eqb-false (answer c (hands a)).code 0 e)) tt
    by false e = tt

all_in_row : (kind : Kind) (session : ℕ) (c : Card) (calls : List Call) → Each InRow (deliveries kind session c calls)
unfolding deliveries
all_in_row kind session c [] = tt
all_in_row kind session c (x ∷ more) =
    each_both InRow (delivers_to kind session c x) (deliveries kind session (after c x) more) (call_in_row kind session c x)
    (all_in_row kind session (after c x) more)

-- so what holds of the frames on each of the four holds of all
flow_by_flow : (ds : List Delivery) → Each InRow ds → ((k : ℕ) → k < flows → Each Good (frames_in (on_flow k ds))) →
    Each Good (frames_in ds)
unfolding chosen
flow_by_flow [] rows each = tt
flow_by_flow (d ∷ ds) (l, rows) each = (
  first_of (rw (eq-eqb d.flow d.flow refl) at (each d.flow l)),
  flow_by_flow ds rows (λ k m. behind k (eqb d.flow k) (each k m)),
)
  where
    first_of : Each Good (frames_in (d ∷ on_flow d.flow ds)) → Good d.frame
    first_of g = g.0

    behind : (k : ℕ) (own : Bool) → Each Good (frames_in (cond own (d ∷ on_flow k ds) (on_flow k ds))) →
        Each Good (frames_in (on_flow k ds))
    behind k true g = g.1
    behind k false g = g

-- what comes out of a flow on which good frames were sent is good
flow_travels : (kind : Kind) (session flow : ℕ) (c : Card) (calls : List Call) → SentOn kind session flow c calls →
    Each Good (frames_out kind session flow c calls)
flow_travels kind session flow c calls on =
    let line = on.sending.line in
    let start = opened_card on.sending on.run in
    let same : frames_out (kind_on line) line.session line.flow start on.run.calls ≡ frames_out kind session flow c calls =
    ap (λ (k : Kind). frames_out k line.session line.flow start on.run.calls) on.its_kind
    ∙ ap (λ (id : ℕ). frames_out kind id line.flow start on.run.calls) on.its_session
    ∙ ap (λ (k : ℕ). frames_out kind session k start on.run.calls) on.its_flow
    ∙ ap (λ (d : Card). frames_out kind session flow d on.run.calls) on.its_card
    ∙ ap (frames_out kind session flow c) on.its_calls in
    subst (λ (out : List (List ℕ)). Each Good out) same (kept-good (demand_3 on.sending on.run) on.may_travel)

pub sent_may_travel : SentMayTravel
sent_may_travel kind session c calls sent =
    flow_by_flow (deliveries kind session c calls) (all_in_row kind session c calls)
    (λ k l. rw (frames-on_flow kind session k c calls) (flow_travels kind session k c calls (sent k l)))

pub unique_mpeg : UniqueMpeg
unique_mpeg = (
  λ a. record { outcome = write.written a; permitted = write_permitted a; only_one = write_unique a },
  λ a. record { outcome = read.read a; permitted = read-permitted a; only_one = read_unique a },
  λ queue null. record {
    outcome = hand_out_there queue null;
    permitted = hand_out_permitted queue null;
    only_one = hand_out_unique queue null;
  },
  λ queue. record {
    outcome = packet_with (handed_out queue);
    permitted = handed_out-permitted queue;
    only_one = λ a b p q. same-packet a b (handed_out_unique queue a.bytes b.bytes p q);
  },
)
