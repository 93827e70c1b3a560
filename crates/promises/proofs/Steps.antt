-- How a call changes a card, seen from one flow of one session: its own packet is heard by it, and nothing else that is called touches its
-- record, its bytes or its row, short of its session's close. Everything that is said of histories rests on these steps.
use Prim.Native.Nat.{ℕ, ◌+◌, ◌<◌, ◌≤◌}
use mathlib.Core.Path.{◌≡◌, refl, sym, ap, subst, ◌∙◌}
use mathlib.Core.Bool.{true, false, not, cond, true≢false}
use mathlib.Core.Logic.{⊎_elim}
use mathlib.Core.List.{List, [], ◌∷◌, ◌++◌}
use lib.Dec.{eqb, ltb}
use lib.ListN.{length}
use borrow.Author.Tests.{eqb-true, eqb-false, eq-eqb, lt-ltb, le-ltb}
use Rattle.octets.proofs.Counts.{true-or-false, least-same}
use Rattle.refusal.specs.Refusal.{Refusal, first, ◌when◌}
use Rattle.refusal.proofs.Laws.{and_left, and_right, first-passed}
use Rattle.flow.specs.declared.Flow.{Flow}
use Rattle.flow.specs.Flow.{flows, longest}
use Rattle.packet.specs.Header.{Packet, lead, sub, session_id, before_session, shortest_packet}
use Rattle.packet.proofs.Passing.{EarlyPassed}
use Rattle.table.specs.declared.Kind.{Kind}
use Rattle.table.specs.declared.Terms.{Terms}
use Rattle.table.specs.declared.Row.{Row}
use Rattle.table.specs.declared.Table.{Table}
use Rattle.table.specs.Rows.{rows, row_at, flow_at, terms_of, terms_at, open_in, find}
use Rattle.table.specs.Calls.{is_open}
use Rattle.table.proofs.Keeping.{flows-whole}
use Rattle.join.specs.Slices.{Slices}
use Rattle.card.specs.Hear.{flow_in, judged_of, hear, record_after}
use Rattle.card.specs.Receive.{too_small, row_of, flow_to, flow_of, heard_by, early_refusals, packet_refusals, flow_refusals, data_refusals}
use Rattle.card.specs.Receive.{received}
use Rattle.card.specs.History.{Card, Arrival, Call, opens as opens_call, closes as closes_call, hands, lent_with, frames_of, answer, after}
use Rattle.card.proofs.Accepted.{received-code, accepted}
use Rattle.card.proofs.ByKind.{numbered-packet}
use Rattle.card.proofs.Step.{StepOf, one_flow_step}
use Rattle.promises.specs.Words.{readable, of_session, of_flow, hands_to, closes_it}
use Rattle.promises.proofs.Good.{Good, refused_stays}
use Rattle.promises.proofs.Standing.{Stands, stands_by, found_id, open_stays, close_stays}

-- A packet handed in. Its session's row, and the flow there, are told by the packet.
pub of_session_lem : (kind : Kind) (session flow : ℕ) (p : Packet) → of_flow kind session flow p ≡ true →
    (session_id p ≡ session) × (flow_in kind (sub p) ≡ flow)
of_session_lem kind session flow p e =
    let its = and_left (of_session session p) (eqb (flow_in kind (sub p)) flow) e in (
      eqb-true (session_id p) session (and_right (readable p) (eqb (session_id p) session) its),
      eqb-true (flow_in kind (sub p)) flow (and_right (of_session session p) (eqb (flow_in kind (sub p)) flow) e),
    )

-- a packet that is not refused without its session is readable
pub passed-readable : (p : Packet) → EarlyPassed p → readable p ≡ true
passed-readable p passed =
    rw (passed.known, le-ltb (length p.bytes) (lead p + shortest_packet) passed.not_short, passed.right-version) refl

pub is_of : (kind : Kind) (session flow : ℕ) (p : Packet) → readable p ≡ true → session_id p ≡ session → flow_in kind (sub p) ≡ flow →
    of_flow kind session flow p ≡ true
is_of kind session flow p read id k =
    rw (read, eq-eqb (session_id p) session id, eq-eqb (flow_in kind (sub p)) flow k) refl

-- two sessions that are open in one row are one
one_row : (t : Table) (a b : ℕ) → find t a < rows → find t b < rows → find t a ≡ find t b → a ≡ b
one_row t a b l m e =
    sym (found_id t a l) ∙ ap (λ (r : ℕ). (row_at t r).id) e ∙ found_id t b m

-- an accepted packet of another flow
module _ (c : Card) (a : Arrival) (g : Good c) (z : (answer c (hands a)).code ≡ 0) where
  abbrev lent : Slices
  lent = lent_with c a

  abbrev packet : Packet
  packet = a.packet

  abbrev its_row : ℕ
  its_row = row_of c.table packet

  abbrev its_flow : ℕ
  its_flow = flow_to c.table its_row (sub packet)

  step : StepOf its_row its_flow (heard_by c.table its_row (sub packet) lent) c.table lent (received c.table packet lent)
  unfolding answer
  step = one_flow_step c.table packet lent g.shaped z

  abbrev d : Card
  d = after c (hands a)

  same_id : (r : ℕ) → ((row_at d.table r).id ≡ (row_at c.table r).id) × ((row_at d.table r).kind ≡ (row_at c.table r).kind)
      × (terms_at d.table r ≡ terms_at c.table r)
  unfolding after
  same_id r =
      ⊎_elim
      (λ (e : eqb r its_row ≡ true). rw (eqb-true r its_row e) step.its_session)
      (λ (e : eqb r its_row ≡ false).
      let there = step.other_rows r (eqb-false r its_row e) in
      (ap (λ (x : Row). x.id) there, ap (λ (x : Row). x.kind) there, ap terms_of there))
      (true-or-false (eqb r its_row))

  same-sessions : (session r : ℕ) → open_in d.table session r ≡ open_in c.table session r
  same-sessions session r = rw ((same_id r).0, (same_id r).1) refl

  module _ (session flow : ℕ) (terms : Terms) (f : Flow) (held : List ℕ) (inside : flow < flows)
      (s : Stands c session flow terms f held) where
    abbrev r : ℕ
    r = find c.table session

    -- the kind is the row's
    its_kind : r ≡ its_row → flow_in terms.kind (sub packet) ≡ its_flow
    its_kind e = ap (λ (x : Terms). flow_in x.kind (sub packet)) (sym s.of_terms) ∙ ap (λ (i : ℕ). flow_to c.table i (sub packet)) e

    -- of another flow, or of another session
    apart : of_flow terms.kind session flow packet ≡ false → r ≡ its_row → flow ≡ its_flow → ⊥
    unfolding answer
    apart not-of e q =
        let ok = accepted c.table packet lent z in
        let same : session_id packet ≡ session = sym (one_row c.table session (session_id packet) s.is_there ok.found e) in
        let its_own = is_of terms.kind session flow packet (passed-readable packet ok.early) same (its_kind e ∙ sym q) in
        true≢false (sym its_own ∙ not-of)

    same_record : of_flow terms.kind session flow packet ≡ false → flow_at (row_at d.table r) flow ≡ flow_at (row_at c.table r) flow
    unfolding after
    same_record not-of =
        ⊎_elim
        (λ (e : eqb r its_row ≡ true).
        let here = eqb-true r its_row e in
        rw here (step.other_flows flow (apart not-of here)))
        (λ (e : eqb r its_row ≡ false). ap (λ (x : Row). flow_at x flow) (step.other_rows r (eqb-false r its_row e)))
        (true-or-false (eqb r its_row))

    few : f.held ≤ longest
    few = subst (λ (x : Flow). x.held ≤ longest) s.its_record (flows-whole c.table g.whole r flow s.is_there inside).fits

    hands_stays : of_flow terms.kind session flow packet ≡ false → Stands d session flow terms f held
    unfolding after
    hands_stays not-of =
        stands_by c d session flow terms f held s (λ i l. same-sessions session i)
        ((same_id r).2, same_record not-of, step.other_places r flow f.held s.is_there inside (apart not-of) few)

    -- of this flow: what it hears is told by its own record and bytes
    heard_is : of_flow terms.kind session flow packet ≡ true →
        heard_by c.table its_row (sub packet) lent ≡ hear terms f held (sub packet)
    heard_is of_it =
        let id = of_session_lem terms.kind session flow packet of_it in
        rw (id.0, ap (λ (x : Terms). flow_in x.kind (sub packet)) s.of_terms ∙ id.1, s.of_terms, s.its_record, s.its_bytes) refl

    heard_stands : of_flow terms.kind session flow packet ≡ true →
        let h = hear terms f held (sub packet) in
        Stands d session flow terms (record_after h) h.fate.held
        × (frames_of (answer c (hands a)) ≡ h.fate.delivered)
        × ((answer c (hands a)).gap ≡ h.judged.gap)
    unfolding after answer
    heard_stands of_it =
        let id = of_session_lem terms.kind session flow packet of_it in
        let found : find d.table session ≡ r =
        least-same (open_in d.table session) (open_in c.table session) rows (λ i l. same-sessions session i) in
        let here : its_row ≡ r = ap (find c.table) id.0 in
        let known = rw (heard_is of_it, here, ap (λ (x : Terms). flow_in x.kind (sub packet)) s.of_terms ∙ id.1) at step in (
          record {
            is_there = rw found s.is_there;
            of_terms = rw found ((same_id r).2 ∙ s.of_terms);
            its_record = rw found known.its_record;
            its_bytes = rw found known.its_place;
          },
          known.frames_found_lem,
          known.gap_is,
        )

-- A call that neither hands it a packet nor closes its session leaves a flow as it was. ..
by_number : (c : Card) (x : Call) (session flow : ℕ) (terms : Terms) (f : Flow) (held : List ℕ) → Stands c session flow terms f held →
    ((answer c x).code ≡ 0 → Stands (after c x) session flow terms f held) → Stands (after c x) session flow terms f held
by_number c x session flow terms f held s accepts =
    ⊎_elim
    (λ (e : eqb (answer c x).code 0 ≡ true). accepts (eqb-true (answer c x).code 0 e))
    (λ (e : eqb (answer c x).code 0 ≡ false). rw (refused_stays c x (eqb-false (answer c x).code 0 e)) s)
    (true-or-false (eqb (answer c x).code 0))

pub stands_stay : (c : Card) (x : Call) (session flow : ℕ) (terms : Terms) (f : Flow) (held : List ℕ) → Good c → flow < flows →
    Stands c session flow terms f held → hands_to terms.kind session flow x ≡ false → closes_it session x ≡ false →
    Stands (after c x) session flow terms f held
unfolding answer
stands_stay c (opens_call q) session flow terms f held g l s other stays =
    by_number c (opens_call q) session flow terms f held s (λ z. open_stays c q session flow terms f held g s z)
stands_stay c (closes_call id) session flow terms f held g l s other stays =
    by_number c (closes_call id) session flow terms f held s
    (λ z. close_stays c id session flow terms f held g s (eqb-false id session stays) z)
stands_stay c (hands a) session flow terms f held g l s other stays =
    by_number c (hands a) session flow terms f held s (λ z. hands_stays c a g z session flow terms f held l s other)

-- .. One that hands it a packet and is not refused has it hear that packet, and its caller finds the frames and the gap. ..
pub stands_heard : (c : Card) (a : Arrival) (session flow : ℕ) (terms : Terms) (f : Flow) (held : List ℕ) → Good c → flow < flows →
    Stands c session flow terms f held → of_flow terms.kind session flow a.packet ≡ true → (answer c (hands a)).code ≡ 0 →
    let h = hear terms f held (sub a.packet) in
    Stands (after c (hands a)) session flow terms (record_after h) h.fate.held
    × (frames_of (answer c (hands a)) ≡ h.fate.delivered)
    × ((answer c (hands a)).gap ≡ h.judged.gap)
stands_heard c a session flow terms f held g l s of_it z = heard_stands c a g z session flow terms f held l s of_it

-- .. And with slices that are long enough, a packet that passes the check is refused only where it is late.
pub hands-code : (c : Card) (a : Arrival) (session flow : ℕ) (terms : Terms) (f : Flow) (held : List ℕ) → Good c →
    Stands c session flow terms f held → of_flow terms.kind session flow a.packet ≡ true → too_small (lent_with c a) ≡ false →
    first (before_session a.packet) ≡ 0 → first (packet_refusals terms (sub a.packet)) ≡ 0 →
    (answer c (hands a)).code ≡ cond (judged_of f (sub a.packet)).late 12 0
unfolding answer
hands-code c a session flow terms f held g s of_it large early passed =
    let t = c.table in
    let behind = sub a.packet in
    let id = of_session_lem terms.kind session flow a.packet of_it in
    let there : ltb (find t session) rows ≡ true = lt-ltb (find t session) rows s.is_there in
    let late = (judged_of f behind).late in
    let last : first (packet_refusals terms behind ++ (12 when late ∷ [])) ≡ cond late 12 0 =
    first-passed (packet_refusals terms behind) (12 when late ∷ []) (numbered-packet terms behind) passed in
    let r = row_of t a.packet in
    let on : List Refusal = 5 when not (is_open t (session_id a.packet)) ∷ flow_refusals t r behind in
    let none : first (early_refusals t a.packet) ≡ 0 = rw g.whole early in
    let order : first (data_refusals t a.packet (lent_with c a)) ≡ first on =
    rw large (first-passed (early_refusals t a.packet) on refl none) in
    let live : is_open t (session_id a.packet) ≡ true = rw id.0 there in
    let on-terms : terms_at t r ≡ terms = rw id.0 s.of_terms in
    let its : flow_of t r behind ≡ f = rw (id.0, ap (λ (x : Terms). flow_in x.kind behind) s.of_terms ∙ id.1) s.its_record in
    let passes : first (flow_refusals t r behind) ≡ cond late 12 0 =
    ap (λ (x : Terms). first (packet_refusals x behind ++ (12 when (judged_of (flow_of t r behind) behind).late ∷ []))) on-terms
    ∙ rw its last in
    let by-flow : first on ≡ cond late 12 0 = rw live passes in
    received-code t a.packet (lent_with c a) ∙ order ∙ by-flow
