-- A capture's entries, run one behind the other. What is delivered on a session is said by the list of the entries, and not by their
-- places; and what the data entries of one flow of an open session deliver is what comes out of the calls that they stand for.
use Prim.Native.Nat.{ℕ, zero, suc, ◌<◌, ◌≤◌}
use mathlib.Core.Path.{◌≡◌, refl, sym, ap, ◌∙◌}
use mathlib.Core.Bool.{true, false, not, cond, ◌&&◌}
use mathlib.Core.Logic.{◌⊎◌, inl, inr}
use mathlib.Core.List.{List, [], ◌∷◌, ◌++◌, map, append-nil, append_assoc}
use native.Mathlib.Omega.{arith}
use lib.Dec.{eqb}
use lib.ListN.{length}
use borrow.Author.Tests.{eqb-true, eqb-false, eq-eqb, lt-ltb}
use Rattle.refusal.specs.Refusal.{first}
use Rattle.octets.specs.Count.{up_to}
use Rattle.octets.specs.Each.{Each}
use Rattle.octets.proofs.Counts.{true-or-false}
use Rattle.flow.specs.declared.Flow.{Flow}
use Rattle.flow.specs.Flow.{flows}
use Rattle.packet.specs.Header.{ip, sub, session_id, flow_id, before_session}
use Rattle.packet.specs.Check.{kind_psp, check}
use Rattle.packet.proofs.Passing.{early_passed}
use Rattle.table.specs.declared.Kind.TheVariants as kind
use Rattle.table.specs.declared.Terms.{Terms}
use Rattle.table.specs.Rows.{rows, is_dmpt, find}
use Rattle.table.specs.Calls.{is_open}
use Rattle.join.specs.Slices.{most_bytes, most_frames}
use Rattle.card.specs.Hear.{record_after, hear}
use Rattle.card.specs.History.{Arrival, Call, hands, lent_with, frames_of, answer}
use Rattle.card.proofs.Step.{one_flow_step}
use Rattle.capture.specs.File.{Entry, head_length, entry_count, nth_entry, entries}
use Rattle.replay.specs.Run.{Running, answer_to, run_one, begin, standing, answer_at}
use Rattle.outputs.specs.Sent.{data_of}
use Rattle.outputs.specs.Stream.{open_as_psp, is_for, frames_at, delivered_before, delivered}
use Rattle.promises.specs.Words.{of_flow, hands_to, packets_to, frames_out, Room, StaysOpen}
use Rattle.promises.proofs.Alone.{terms_for}
use Rattle.promises.proofs.Good.{Good, good-after, refused_stays}
use Rattle.promises.proofs.Refusals.{refusals_change_nothing}
use Rattle.promises.proofs.Standing.{Stands}
use Rattle.promises.proofs.Steps.{passed-readable, is_of, stands_heard}
use Rattle.promises.proofs.Histories.{two_stretches}

-- what an entry delivers on a session; how things stand behind entries, and what they deliver
abbrev one_delivers : ℕ → Running → Entry → List (List ℕ)
one_delivers session r e = cond (is_for session r.card.table e) (frames_of (answer_to r e)) []

abbrev behind_all : Running → List Entry → Running
behind_all r [] = r
behind_all r (e ∷ more) = behind_all (run_one r e) more

abbrev pub all_deliver : ℕ → Running → List Entry → List (List ℕ)
all_deliver session r [] = []
all_deliver session r (e ∷ more) = one_delivers session r e ++ all_deliver session (run_one r e) more

-- one entry more
behind_more : (r : Running) (es : List Entry) (e : Entry) → behind_all r (es ++ (e ∷ [])) ≡ run_one (behind_all r es) e
behind_more r [] e = refl
behind_more r (x ∷ es) e = behind_more (run_one r x) es e

deliver_more : (session : ℕ) (r : Running) (es : List Entry) (e : Entry) →
    all_deliver session r (es ++ (e ∷ [])) ≡ all_deliver session r es ++ one_delivers session (behind_all r es) e
deliver_more session r [] e = append-nil (one_delivers session r e)
deliver_more session r (x ∷ es) e =
    ap (λ (l : List (List ℕ)). one_delivers session r x ++ l) (deliver_more session (run_one r x) es e)
    ∙ sym (append_assoc (one_delivers session r x) (all_deliver session (run_one r x) es)
    (one_delivers session (behind_all (run_one r x) es) e))

-- So a capture is run, and delivers, as its list of entries.
standing_is : (file : List ℕ) (k : ℕ) → standing file k ≡ behind_all begin (up_to (nth_entry file) k)
unfolding standing up_to
standing_is file zero = refl
standing_is file (suc k) =
    ap (λ (r : Running). run_one r (nth_entry file k)) (standing_is file k)
    ∙ sym (behind_more begin (up_to (nth_entry file) k) (nth_entry file k))

before_is : (session : ℕ) (file : List ℕ) (k : ℕ) → delivered_before session file k ≡ all_deliver session begin (up_to (nth_entry file) k)
unfolding delivered_before frames_at answer_at up_to
before_is session file zero = refl
before_is session file (suc k) =
    let es = up_to (nth_entry file) k in
    ap (λ (l : List (List ℕ)). l ++ one_delivers session (standing file k) (nth_entry file k)) (before_is session file k)
    ∙ ap (λ (r : Running). all_deliver session begin es ++ one_delivers session r (nth_entry file k)) (standing_is file k)
    ∙ sym (deliver_more session begin es (nth_entry file k))

pub delivered_is : (session : ℕ) (file : List ℕ) → delivered session file ≡ all_deliver session begin (entries file)
unfolding entries
delivered_is session file = before_is session file (entry_count head_length file)

-- Packets for one flow of a session that is open as PSP.
abbrev pub lent : Running → List ℕ → Arrival
lent r p = record { packet = ip p; output = r.output; lengths = r.lengths }

-- the calls that their entries stand for
abbrev pub calls_for : Running → List (List ℕ) → List Call
calls_for r [] = []
calls_for r (p ∷ more) = hands (lent r p) ∷ calls_for (run_one r (data_of p)) more

module _ (session flow : ℕ) where
  abbrev terms : Terms
  terms = terms_for kind.Psp

  -- a packet that passes the check, for this flow
  pub record Its (p : List ℕ) : Type 0 where
    pub passes : check kind_psp (ip p) ≡ 0
    pub of_session_lem : session_id (ip p) ≡ session
    pub of_flow_lem : flow_id (sub (ip p)) ≡ flow

  -- the session is open as PSP, and the slices have room
  pub record Ready (r : Running) : Type 0 where
    pub good : Good r.card
    pub its_record : Flow
    pub held : List ℕ
    pub stands : Stands r.card session flow terms its_record held
    pub room : (most_bytes ≤ length r.output) × (most_frames ≤ length r.lengths)

  is_early : (p : List ℕ) → Its p → first (before_session (ip p)) ≡ 0
  is_early p i = (two_stretches kind.Psp (ip p) i.passes).0

  is_its : (p : List ℕ) → Its p → of_flow kind.Psp session flow (ip p) ≡ true
  is_its p i =
      is_of kind.Psp session flow (ip p) (passed-readable (ip p) (early_passed (ip p) (is_early p i))) i.of_session_lem i.of_flow_lem

  is_open_lem : (r : Running) → Ready r → open_as_psp r.card.table session ≡ true
  is_open_lem r h =
      let t = r.card.table in
      ap (λ (x : Terms). is_open t session && not (is_dmpt x.kind)) h.stands.of_terms
      ∙ rw (lt-ltb (find t session) rows h.stands.is_there) refl

  is_for_lem : (r : Running) (p : List ℕ) → Ready r → Its p → is_for session r.card.table (data_of p) ≡ true
  is_for_lem r p h i =
      rw (eq-eqb (first (before_session (ip p))) 0 (is_early p i), eq-eqb (session_id (ip p)) session i.of_session_lem) (is_open_lem r h)

  -- the packets that the flow gets, and that none of the calls closes the session
  pub packets_are : (ps : List (List ℕ)) (r : Running) → Each Its ps → packets_to kind.Psp session flow (calls_for r ps) ≡ map ip ps
  unfolding packets_to
  packets_are [] r i = refl
  packets_are (p ∷ ps) r i = rw (is_its p i.0) (ap (λ l. ip p ∷ l) (packets_are ps (run_one r (data_of p)) i.1))

  pub stays_open : (ps : List (List ℕ)) (r : Running) → StaysOpen session (calls_for r ps)
  stays_open [] r = tt
  stays_open (p ∷ ps) r = (refl, stays_open ps (run_one r (data_of p)))

  module _ (inside : flow < flows) where
    -- the session stays open
    module _ (r : Running) (p : List ℕ) (h : Ready r) (i : Its p) where
      abbrev x : Call
      x = hands (lent r p)

      next-refused : ((answer r.card x).code ≡ 0 → ⊥) → Ready (run_one r (data_of p))
      unfolding run_one
      next-refused refused =
          let same = refusals_change_nothing.slices r.card (lent r p) refused in
          record {
            good = good-after r.card x h.good;
            its_record = h.its_record;
            held = h.held;
            stands = rw (refused_stays r.card x refused) h.stands;
            room = rw (same.0, same.1) h.room;
          }

      same-room : (answer r.card x).code ≡ 0 →
          (length (answer r.card x).output ≡ length r.output) × (length (answer r.card x).lengths ≡ length r.lengths)
      unfolding answer
      same-room z =
          let long = (one_flow_step r.card.table (ip p) (lent_with r.card (lent r p)) h.good.shaped z).same-lengths in
          (long.1, long.2)

      next_heard : (answer r.card x).code ≡ 0 → Ready (run_one r (data_of p))
      unfolding run_one
      next_heard z =
          let heard = hear terms h.its_record h.held (sub (ip p)) in
          let long = same-room z in
          record {
            good = good-after r.card x h.good;
            its_record = record_after heard;
            held = heard.fate.held;
            stands =
                (stands_heard r.card (lent r p) session flow terms h.its_record h.held h.good inside h.stands
                (is_its p i) z).0;
            room = (omega (arith, long.0, h.room.0), omega (arith, long.1, h.room.1));
          }

      next_ready : Ready (run_one r (data_of p))
      next_ready = by (true-or-false (eqb (answer r.card x).code 0))
        where
          by : (eqb (answer r.card x).code 0 ≡ true) ⊎ (eqb (answer r.card x).code 0 ≡ false) → Ready (run_one r (data_of p))
          by (inl e) = next_heard (eqb-true (answer r.card x).code 0 e)
          by (inr e) = next-refused (eqb-false (answer r.card x).code 0 e)

    -- what they deliver, and that they have room
    pub frames_out_lem : (ps : List (List ℕ)) (r : Running) → Ready r → Each Its ps →
        all_deliver session r (map data_of ps) ≡ frames_out kind.Psp session flow r.card (calls_for r ps)
    unfolding frames_out run_one
    frames_out_lem [] r h i = refl
    frames_out_lem (p ∷ ps) r h i =
        rw (is_for_lem r p h i.0, is_its p i.0)
        (ap (λ (l : List (List ℕ)). frames_of (answer r.card (hands (lent r p))) ++ l)
        (frames_out_lem ps (run_one r (data_of p)) (next_ready r p h i.0) i.1))

    pub all_room : (ps : List (List ℕ)) (r : Running) → Ready r → Each Its ps →
        Each (λ x. hands_to kind.Psp session flow x ≡ true → Room x) (calls_for r ps)
    all_room [] r h i = tt
    all_room (p ∷ ps) r h i = ((λ e. h.room), all_room ps (run_one r (data_of p)) (next_ready r p h i.0) i.1)
