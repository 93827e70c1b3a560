-- A card shows an open session as that session stands by itself, and a session's own calls go by this alone: the number of an answer is
-- told by what the session has, and so are the counts, what comes out, and how the session stands afterwards. Whatever others call, it goes
-- on so.
use Prim.Native.Nat.{ℕ, zero, suc, ◌<◌, ◌≤◌}
use mathlib.Core.Path.{◌≡◌, refl, sym, ap, subst, ◌∙◌}
use mathlib.Core.Bool.{Bool, true, false, cond}
use mathlib.Core.Logic.{⊎_elim}
use mathlib.Core.List.{List, [], ◌∷◌, ◌++◌}
use native.Mathlib.Omega.{arith}
use lib.Dec.{eqb, ltb}
use lib.ListN.{length}
use borrow.Author.Tests.{eqb-true, eqb-false, eq-eqb, ne_eqb, lt-ltb}
use Rattle.octets.specs.Stretch.{part, put, joined, lengths_of}
use Rattle.octets.proofs.Counts.{true-or-false}
use Rattle.octets.proofs.Stretches.{part_none, part-put, length-lengths_of}
use Rattle.refusal.specs.Refusal.{Refusal, first, ◌when◌}
use Rattle.refusal.proofs.Laws.{and_right, first_stopped}
use Rattle.flow.specs.declared.Flow.{Flow}
use Rattle.flow.specs.Flow.{flows}
use Rattle.packet.specs.Header.{Packet, sub, session_id}
use Rattle.table.specs.declared.Request.{Request}
use Rattle.table.specs.declared.Terms.{Terms}
use Rattle.table.specs.declared.Table.{Table}
use Rattle.table.specs.Rows.{rows, row_at, flow_at, find}
use Rattle.join.specs.Slices.{Slices}
use Rattle.card.specs.Hear.{Heard, flow_in, judged_of, record_after}
use Rattle.card.specs.Receive.{row_of, flow_to, flow_of, heard_by, packet_refusals, flow_refusals, carried_out, refused}
use Rattle.card.specs.History.{Card, Arrival, Call, opens, hands, lent_with, data_answer, answer, after}
use Rattle.card.proofs.Accepted.{Accepted, accepted, flow-there, received-code, received-accepted, received-refused}
use Rattle.card.proofs.Taking.{large-enough}
use Rattle.card.proofs.ByKind.{flow_in_row}
use Rattle.card.proofs.Limits.{accepted_bounded}
use Rattle.promises.specs.Words.{readable, of_session, of_flow, hands_to, closes_it}
use Rattle.promises.specs.Isolation.{told_by}
use Rattle.promises.proofs.Good.{Good, refused_stays}
use Rattle.promises.proofs.Standing.{Stands, stands-opened}
use Rattle.promises.proofs.Steps.{stands_stay, stands_heard}
use Rattle.promises.proofs.Session.{Session, begun, flow_of_it, behind_id, refusal, hears, hearing, told_of, told_at, session_at}

-- Every flow of the session stands in the card as the session has it.
abbrev pub Shows : Card → ℕ → Session → Type 0
Shows c session a = (k : ℕ) → k < flows → Stands c session k a.terms (a.flow k) (a.held k)

-- They do when it opens, ..
pub shown_begun : (c : Card) (q : Request) → Good c → (answer c (opens q)).code ≡ 0 →
    Shows (after c (opens q)) q.id (begun q)
shown_begun c q g z = λ k l. stands-opened c q k g l z

-- .. and after any call that is not its own.
pub shown_still : (c : Card) (x : Call) (session : ℕ) (a : Session) → Good c → Shows c session a →
    ((k : ℕ) → hands_to a.terms.kind session k x ≡ false) →
    closes_it session x ≡ false → Shows (after c x) session a
shown_still c x session a g v others stays =
    λ k l. stands_stay c x session k a.terms (a.flow k) (a.held k) g l (v k l) (others k) stays

-- A stretch of refusals and 12: where the stretch refuses, 12 does not count.
late_counts : (xs : List Refusal) (late late' : Bool) → (first xs ≡ 0 → late ≡ late') →
    first (xs ++ (12 when late ∷ [])) ≡ first (xs ++ (12 when late' ∷ []))
late_counts xs late late' same =
    ⊎_elim
    (λ (e : eqb (first xs) 0 ≡ true). ap (λ (b : Bool). first (xs ++ (12 when b ∷ []))) (same (eqb-true (first xs) 0 e)))
    (λ (e : eqb (first xs) 0 ≡ false).
    first_stopped xs (12 when late ∷ []) (eqb-false (first xs) 0 e)
    ∙ sym (first_stopped xs (12 when late' ∷ []) (eqb-false (first xs) 0 e)))
    (true-or-false (eqb (first xs) 0))

-- Of a step carried out the session is told what the flow heard: it finds the bytes and the lengths at the front of the slices.
carried-told : (r k : ℕ) (h : Heard) (t : Table) (s : Slices) → length (joined h.fate.delivered) ≤ length s.output →
    length h.fate.delivered ≤ length s.lengths → told_by (data_answer (carried_out r k h t s)) ≡ told_of h
unfolding carried_out
carried-told r k h t s bytes frames =
    let d = h.fate.delivered in
    let n = length-lengths_of d in
    let read : part (put s.lengths 0 (lengths_of d)) 0 (length d) ≡ lengths_of d =
    ap (part (put s.lengths 0 (lengths_of d)) 0) (sym n) ∙ part-put s.lengths 0 (lengths_of d) (omega (arith, n)) in
    rw (part-put s.output 0 (joined d) (omega arith), read) refl

-- A packet of the session.
module _ (c : Card) (x : Arrival) (session : ℕ) (a : Session) (g : Good c) (v : Shows c session a)
    (of_it : of_session session x.packet ≡ true) where
  abbrev packet : Packet
  packet = x.packet

  abbrev behind : List ℕ
  behind = sub packet

  its_id : session_id packet ≡ session
  its_id = eqb-true (session_id packet) session (and_right (readable packet) (eqb (session_id packet) session) of_it)

  -- the flow that it names, as the session has it
  abbrev its : ℕ
  its = flow_of_it a behind

  -- The session has all that decides the number of the answer.
  behind_alone : first (flow_refusals c.table (find c.table session) behind) ≡ first (behind_id a behind)
  behind_alone =
      let t = c.table in
      let r = find t session in
      let on = (v 0 (omega arith)).of_terms in
      ap (λ (y : Terms). first (packet_refusals y behind ++ (12 when (judged_of (flow_of t r behind) behind).late ∷ []))) on
      ∙ late_counts (packet_refusals a.terms behind) _ _
      (λ z. ap (λ (f : Flow). (judged_of f behind).late)
      (ap (λ (y : Terms). flow_at (row_at t r) (flow_in y.kind behind)) on ∙ (v its (flow_in_row a.terms behind z)).its_record))

  pub code_alone : (answer c (hands x)).code ≡ refusal (length c.holding) a packet (length x.output) (length x.lengths)
  unfolding answer
  code_alone =
      let live : ltb (find c.table session) rows ≡ true = lt-ltb (find c.table session) rows (v 0 (omega arith)).is_there in
      received-code c.table packet (lent_with c x) ∙ rw (g.whole, its_id, live, behind_alone) refl

  -- What is heard of an accepted one is what its flow by itself makes of it, ..
  module _ (z : (answer c (hands x)).code ≡ 0) where
    abbrev lent : Slices
    lent = lent_with c x

    taken : Accepted c.table packet lent
    unfolding answer
    taken = accepted c.table packet lent z

    -- the row's kind is the session's
    its_kind : flow_to c.table (row_of c.table packet) behind ≡ its
    its_kind =
        ap (λ (i : ℕ). flow_to c.table (find c.table i) behind) its_id
        ∙ ap (λ (y : Terms). flow_in y.kind behind) (v 0 (omega arith)).of_terms

    inside : its < flows
    inside = subst (λ (k : ℕ). k < flows) its_kind (flow-there c.table packet lent taken)

    heard_alone : heard_by c.table (row_of c.table packet) behind lent ≡ hears a behind
    heard_alone =
        let s = v its inside in
        rw (its_kind, its_id, s.of_terms, s.its_record, s.its_bytes) refl

    told_heard : told_by (answer c (hands x)) ≡ told_of (hears a behind)
    unfolding answer
    told_heard =
        let b = accepted_bounded c.table packet lent taken in
        let room = large-enough lent taken.large in
        rw (received-accepted c.table packet lent z)
        (carried-told (row_of c.table packet) (flow_to c.table (row_of c.table packet) behind)
        (heard_by c.table (row_of c.table packet) behind lent) c.table lent
        (omega (arith, b.all, b.bytes-few, room.output-enough)) (omega (arith, b.frames-few, room.lengths-enough))
        ∙ ap told_of heard_alone)

    -- .. and the other flows stay as they were.
    shown_heard : Shows (after c (hands x)) session (hearing (its) (hears a behind) a)
    shown_heard j l = pick (eqb j (its)) refl
      where
        its_flow : j ≡ its → of_flow a.terms.kind session j packet ≡ true
        its_flow e = rw (of_it, eq-eqb (its) j (sym e)) refl

        another : eqb j (its) ≡ false → of_flow a.terms.kind session j packet ≡ false
        another e = rw (of_it, ne_eqb (its) j (λ q. eqb-false j (its) e (sym q))) refl

        pick : (b : Bool) → eqb j (its) ≡ b →
            Stands (after c (hands x)) session j a.terms (cond b (record_after (hears a behind)) (a.flow j))
            (cond b (hears a behind).fate.held (a.held j))
        pick true e =
            let q = eqb-true j (its) e in
            rw (← q) (stands_heard c x session j a.terms (a.flow j) (a.held j) g l (v j l) (its_flow q) z).0
        pick false e =
            stands_stay c (hands x) session j a.terms (a.flow j) (a.held j) g l (v j l) (another e) refl

  -- By the number: what the session is told, and how it stands afterwards.
  pub told_at_lem : (n : ℕ) → (answer c (hands x)).code ≡ n → told_by (answer c (hands x)) ≡ told_at n a behind
  unfolding answer refused
  told_at_lem zero z = told_heard z
  told_at_lem (suc n) e =
      rw (received-refused c.table packet (lent_with c x) n e, part_none x.output 0, part_none x.lengths 0) refl

  pub shown_at : (n : ℕ) → (answer c (hands x)).code ≡ n → Shows (after c (hands x)) session (session_at n a behind)
  shown_at zero z = shown_heard z
  shown_at (suc n) e = rw (refused_stays c (hands x) (λ z. omega (arith, e, z))) v
