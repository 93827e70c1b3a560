-- The data call is where its session is sought and what the session's row makes of the packet: the returns of `seek`, each with the line of
-- the order that it answers; and the outcome put together, all of it compared at once, as one record.
use Prim.Native.Nat.{ℕ, zero, suc, ◌<◌, ◌≤◌}
use mathlib.Core.Path.{◌≡◌, refl, sym, ap, ◌∙◌}
use mathlib.Core.Bool.{Bool, true, false, not}
use mathlib.Core.List.{List, [], ◌∷◌}
use native.Mathlib.Omega.{arith}
use borrow.Author.Tests.{lt-ltb, le-ltb}
use lib.Seq.{set-get_or}
use Rattle.refusal.specs.Refusal.{Refusal, ◌when◌, first}
use Rattle.refusal.proofs.Laws.{first-passed, first_stopped, none-applies, none_first, none_apart}
use Rattle.packet.specs.Header.{Packet, sub, session_id, before_session}
use Rattle.packet.proofs.Passing.{sub-length}
use Rattle.table.specs.declared.Row.{Row}
use Rattle.table.specs.declared.Table.{Table}
use Rattle.table.specs.Rows.{rows, no_row, row_at, find, with_row}
use Rattle.table.specs.Broken.{broken}
use Rattle.table.specs.Calls.{is_open}
use Rattle.table.proofs.Keeping.{rows-sound}
use Rattle.join.specs.Slices.{Slices}
use Rattle.card.specs.Receive.{Outcome, row_of, too_small, early_refusals, row_refusals, flow_refusals}
use Rattle.card.specs.Receive.{carried_out, refused, received_by, received, PermitsReceive}
use Rattle.card.specs.Inside.{seek_refusals, Found, not_found, Seeks, TakenOutcome, not_taken, taken_as, takes, Ready}
use Rattle.card.proofs.Accepted.{early_over}

-- an outcome that is the definition's is permitted, field by field
pub permits : {t : Table} {p : Packet} {s : Slices} {o : Outcome} → o ≡ received t p s → PermitsReceive t p s o
permits e =
    record {
      its_number = ap (λ (o : Outcome). o.answer.code) e;
      its_frames = ap (λ (o : Outcome). o.answer.frames) e;
      its_bytes = ap (λ (o : Outcome). o.answer.bytes) e;
      its_dropped = ap (λ (o : Outcome). o.answer.dropped) e;
      its_gap = ap (λ (o : Outcome). o.answer.gap) e;
      its_table = ap (λ (o : Outcome). o.answer.table) e;
      its_holding = ap (λ (o : Outcome). o.slices.holding) e;
      its_output = ap (λ (o : Outcome). o.slices.output) e;
      its_lengths = ap (λ (o : Outcome). o.slices.lengths) e;
    }

-- The returns of `seek`.
module _ (t : Table) (p : Packet) (small : Bool) where
  not_found_lem : (c : ℕ) (found : Found) → c ≡ first (seek_refusals t p small) → (c ≡ 0 → ⊥) → found ≡ not_found c → Seeks t p small found
  not_found_lem c found given some e = rw e (record { its_number = given; its_row = λ z. absurd (some z); in_table = omega arith })

  module _ (large : small ≡ false) where
    pub seek_broken : (found : Found) → broken t ≡ true → found ≡ not_found 13 → Seeks t p small found
    seek_broken found bad e = not_found_lem 13 found (simp (large, bad)) (λ z. omega arith) e

    module _ (whole : broken t ≡ false) (early : ℕ) (judged : early ≡ first (before_session p)) where
      abbrev unopened : List Refusal
      unopened = 5 when not (is_open t (session_id p)) ∷ []

      pub seek_early : (found : Found) → (early ≡ 0 → ⊥) → found ≡ not_found early → Seeks t p small found
      seek_early found some e =
          let stops = first_stopped (before_session p) unopened (λ z. some (judged ∙ z)) in
          not_found_lem early found (simp (large, whole) (judged ∙ sym stops)) some e

      module _ (passed : early ≡ 0) (id r : ℕ) (session : id ≡ session_id p) (sought : r ≡ find t id) where
        row_is : r ≡ row_of t p
        row_is = sought ∙ ap (find t) session

        by_session : first (seek_refusals t p small) ≡ first unopened
        by_session = simp (large, whole) (first-passed (before_session p) unopened refl (sym judged ∙ passed))

        pub seek_closed : (found : Found) → rows ≤ r → found ≡ not_found 5 → Seeks t p small found
        seek_closed found none e =
            let shut = le-ltb (row_of t p) rows (omega (arith, row_is)) in
            not_found_lem 5 found (rw by_session (simp shut)) (λ z. omega arith) e

        pub seek_there : r < rows → Seeks t p small (record { code = 0; row = r })
        seek_there there =
            let live = lt-ltb (row_of t p) rows (omega (arith, row_is)) in
            record { its_number = sym (by_session ∙ simp live); its_row = λ z. row_is; in_table = there }

-- Where nothing was refused, the row has what it asks for.
seek_order : (t : Table) (p : Packet) (small : Bool) → first (seek_refusals t p small) ≡ 0 →
    (small ≡ false) × (first (early_refusals t p) ≡ 0)
seek_order t p small z =
    let unopened = 5 when not (is_open t (session_id p)) ∷ [] in
    let none = none-applies (seek_refusals t p small) refl z in
    (none.0, none_first (early_refusals t p) (none_apart (early_refusals t p) unopened none.1).0)

pub ready : (t : Table) (p : Packet) (s : Slices) (found : Found) → Seeks t p (too_small s) found → found.code ≡ 0 →
    Ready (row_at t found.row) p s
ready t p s found seeks z =
    let order = seek_order t p (too_small s) (sym seeks.its_number ∙ z) in
    let over = early_over t p order.1 in
    record {
      large = order.0;
      sound = rows-sound t over.whole found.row seeks.in_table;
      short = omega (arith, sub-length p over.passed.not_short, over.passed.not_long);
    }

-- The outcome: the row's answer, and the table with the row put back.
abbrev pub gathered : Table → ℕ → TakenOutcome → Outcome
gathered t r o =
    record {
      answer = record {
        code = o.taken.code;
        frames = o.taken.frames;
        bytes = o.taken.bytes;
        dropped = o.taken.dropped;
        gap = o.taken.gap;
        table = with_row t r o.taken.row;
      };
      slices = o.slices;
    }

put_back : (t : Table) (r : ℕ) → with_row t r (row_at t r) ≡ t
put_back t r = ap (λ (l : List Row). record { rows = l }) (set-get_or t.rows r no_row)

gathered-refused : (c : ℕ) (t : Table) (r : ℕ) (s : Slices) →
    gathered t r (record { taken = not_taken c (row_at t r); slices = s }) ≡ refused c t s
unfolding refused
gathered-refused c t r s = rw (put_back t r) refl

gathered_by : (n : ℕ) (t : Table) (r : ℕ) (after : List ℕ) (s : Slices) →
    gathered t r (taken_as n r (row_at t r) after s) ≡ received_by n t r after s
unfolding received_by carried_out
gathered_by zero t r after s = refl
gathered_by (suc c) t r after s = gathered-refused (suc c) t r s

module _ (t : Table) (p : Packet) (s : Slices) where
  abbrev behind : List Refusal
  behind = flow_refusals t (row_of t p) (sub p)

  -- the order is that of `seek`, and behind it that of the row
  sought : first (seek_refusals t p (too_small s)) ≡ 0 → received t p s ≡ received_by (first behind) t (row_of t p) (sub p) s
  unfolding received
  sought z = ap (λ (n : ℕ). received_by n t (row_of t p) (sub p) s) (first-passed (seek_refusals t p (too_small s)) behind refl z)

  unsought : (c : ℕ) → suc c ≡ first (seek_refusals t p (too_small s)) → received t p s ≡ refused (suc c) t s
  unfolding received received_by
  unsought c given =
      ap (λ (n : ℕ). received_by n t (row_of t p) (sub p) s)
      (first_stopped (seek_refusals t p (too_small s)) behind (λ z. omega (arith, given, z)) ∙ sym given)

  refused_by : (c : ℕ) → c ≡ first (seek_refusals t p (too_small s)) → (c ≡ 0 → ⊥) → refused c t s ≡ received t p s
  refused_by zero given some = absurd (some refl)
  refused_by (suc c) given some = sym (unsought c given)

  -- the session is not sought in vain, and its row answers
  pub receive_there : (r : ℕ) → Seeks t p (too_small s) (record { code = 0; row = r }) → (o : TakenOutcome) → o ≡ takes r (row_at t r) p s →
      gathered t r o ≡ received t p s
  unfolding takes
  receive_there r seeks o e =
      let there = seeks.its_row refl in
      ap (gathered t r) e
      ∙ gathered_by (first (row_refusals (row_at t r) (sub p))) t r (sub p) s
      ∙ rw there (sym (sought (sym seeks.its_number)))

  -- .. or it is
  pub receive_nowhere : (n : ℕ) → (n ≡ 0 → ⊥) → Seeks t p (too_small s) (not_found n) → refused n t s ≡ received t p s
  receive_nowhere n some seeks = refused_by n seeks.its_number some

  -- a row that refuses leaves the table as it was
  pub receive_refused : (r : ℕ) → Seeks t p (too_small s) (record { code = 0; row = r }) → (n : ℕ) (s' : Slices) →
      ◌≡◌ {A = TakenOutcome} (record { taken = not_taken n (row_at t r); slices = s' }) (takes r (row_at t r) p s) →
      refused n t s' ≡ received t p s
  receive_refused r seeks n s' e = sym (gathered-refused n t r s') ∙ receive_there r seeks _ e
