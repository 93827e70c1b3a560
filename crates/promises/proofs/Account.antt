-- The byte account by the numbers that the calls answer, where each call may bring another holding slice; and that no such history breaks a
-- table. With it stands what the places hold (`places_hold`): together they are `byte_account`.
use Prim.Native.Nat.{ℕ, zero, suc, ◌+◌}
use mathlib.Core.Path.{◌≡◌, refl, sym, ap, ◌∙◌}
use mathlib.Core.Bool.{cond}
use mathlib.Core.List.{List, [], ◌∷◌}
use native.Mathlib.Omega.{arith}
use lib.Dec.{eqb}
use lib.ListN.{length}
use Rattle.refusal.specs.Refusal.{first}
use Rattle.refusal.proofs.Laws.{when_accepted, when_refused}
use Rattle.octets.specs.Stretch.{joined}
use Rattle.packet.specs.Header.{Packet, sub}
use Rattle.table.specs.declared.Table.{Table}
use Rattle.table.specs.Rows.{row_at, find, held_in, empty}
use Rattle.table.specs.Calls.{close_refusals, closed_by, closed}
use Rattle.join.specs.Join.{Fate}
use Rattle.card.specs.Receive.{Outcome, row_of, heard_by, refused}
use Rattle.table.proofs.Keeping.{closes as closes-there}
use Rattle.card.specs.History.{Card, Arrival, Call, opens, closes, hands, lent_with, handed, answer, after_all, empty_card}
use Rattle.card.proofs.Accepted.{received-refused}
use Rattle.card.proofs.Step.{frames_in, one_flow_step}
use Rattle.promises.specs.Account.{Lent, card_for, table_after, table_after_all, counted_by, bytes_taken, bytes_delivered, bytes_dropped}
use Rattle.promises.specs.Account.{held_in_all, delivered_by, dropped_by, ByteAccount}
use Rattle.promises.specs.Limits.{NeverBroken}
use Rattle.promises.proofs.Good.{Good, good-empty, good-after, good_all}
use Rattle.promises.proofs.Measures.{by_length}
use Rattle.promises.proofs.Holdings.{in_places, in_table, missing, kept_in_row, kept_in_all, table_keeps, empty_keeps}
use Rattle.promises.proofs.OneCall.{no_frames, dropped_in, call_balances}
use Rattle.promises.proofs.Bytes.{dropped_measured, none_missing_at, row_holds, places_hold}

-- The counts of an answer are those of the bytes: of a close ..
close_counts : (n : ℕ) (t : Table) (id : ℕ) →
    (closed_by n t id).dropped ≡ cond (eqb (closed_by n t id).code 0) (held_in (row_at t (find t id))) 0
close_counts zero t id = refl
close_counts (suc n) t id = sym (when_refused (suc n) (λ e. omega arith) (held_in (row_at t (find t id))) 0)

-- .. and of a packet
module _ (c : Card) (a : Arrival) (good : Good c) where
  abbrev packet : Packet
  packet = a.packet

  abbrev outcome : Outcome
  outcome = handed c a

  abbrev fate : Fate
  fate = (heard_by c.table (row_of c.table packet) (sub packet) (lent_with c a)).fate

  packet-counts : (n : ℕ) → outcome.answer.code ≡ n →
      (outcome.answer.bytes ≡ length (joined (frames_in outcome)))
      × (outcome.answer.dropped ≡ length (cond (eqb outcome.answer.code 0) fate.dropped []))
  unfolding refused
  packet-counts zero e =
      let step = one_flow_step c.table packet (lent_with c a) good.shaped e in (
        step.bytes_are ∙ sym (ap (λ (l : List (List ℕ)). length (joined l)) step.frames_found_lem),
        step.dropped_are ∙ sym (ap (λ (l : List ℕ). length l) (when_accepted outcome.answer.code e fate.dropped [])),
      )
  packet-counts (suc n) e =
      rw (received-refused c.table packet (lent_with c a) n e) (
        sym (ap (λ (l : List ℕ). length l) (no_frames a.lengths a.output)),
        sym (ap (λ (l : List ℕ). length l) (when_refused (suc n) (λ z. omega arith) fate.dropped [])),
      )

-- .. and so of every call
counts-told : (c : Card) (x : Call) → Good c →
    (bytes_delivered c x ≡ length (delivered_by c x)) × (bytes_dropped c x ≡ dropped_in length in_table c x)
unfolding answer closed
counts-told c (opens q) good = (sym (ap (λ (l : List ℕ). length l) (no_frames [] [])), refl)
counts-told c (closes id) good =
    (sym (ap (λ (l : List ℕ). length l) (no_frames [] [])), close_counts (first (close_refusals c.table id)) c.table id)
counts-told c (hands a) good = packet-counts c a good _ refl

-- Only the table goes from one call to the next, and `Good` looks at nothing else.
abbrev GoodTable : Table → Type 0
GoodTable t = (holding : List ℕ) → Good (record { table = t; holding = holding })

lent_good : (t : Table) (l : Lent) → GoodTable t → GoodTable (table_after t l)
lent_good t l good holding =
    let next = good-after (card_for t l) l.call (good l.holding) in
    record { shaped = next.shaped; whole = next.whole }

history_told : (t : Table) (calls : List Lent) → GoodTable t →
    counted_by bytes_taken t calls + held_in_all t
    ≡ counted_by bytes_delivered t calls + counted_by bytes_dropped t calls + held_in_all (table_after_all t calls)
unfolding counted_by table_after_all
history_told t [] good = refl
history_told t (l ∷ more) good =
    let c = card_for t l in
    let told = counts-told c l.call (good l.holding) in
    omega (
      arith,
      call_balances table_keeps c (good l.holding) l.call,
      told.0,
      told.1,
      history_told (table_after t l) more (lent_good t l good),
    )

-- Call by call: what a row is said to hold stands in its places, so a close drops as many bytes as it answers.
dropped_as_told : (c : Card) (x : Call) → kept_in_all missing c ≡ 0 → dropped_in length in_table c x ≡ length (dropped_by c x)
unfolding answer closed
dropped_as_told c (opens q) none = refl
dropped_as_told c (closes id) none =
    by (first (close_refusals c.table id)) refl
    ∙ sym (dropped_measured length by_length c (closes id))
  where
    by : (n : ℕ) → first (close_refusals c.table id) ≡ n →
        cond (eqb (closed_by n c.table id).code 0) (kept_in_row in_table c (find c.table id)) 0
        ≡ cond (eqb (closed_by n c.table id).code 0) (kept_in_row (in_places length) c (find c.table id)) 0
    by zero e = sym (row_holds c (find c.table id) (closes-there c.table id e).there none)
    by (suc n) e = when_refused (suc n) (λ z. omega arith) _ 0 ∙ sym (when_refused (suc n) (λ z. omega arith) _ 0)
dropped_as_told c (hands a) none = refl

answered : (holding : List ℕ) (calls : List Call) (x : Call) →
    let c = after_all (empty_card holding) calls in
    ((answer c x).bytes ≡ length (delivered_by c x)) × ((answer c x).dropped ≡ length (dropped_by c x))
answered holding calls x =
    let c = after_all (empty_card holding) calls in
    let told = counts-told c x (good_all (empty_card holding) calls (good-empty holding)) in
    (told.0, told.1 ∙ dropped_as_told c x (none_missing_at holding calls))

pub byte_account : ByteAccount
byte_account =
    record {
      all_told = λ calls. omega (arith, history_told empty calls good-empty, empty_keeps table_keeps []);
      places_hold = places_hold;
      as_answered = answered;
    }

-- No call breaks a table, whatever holding slice it brings.
good_at_last : (t : Table) (calls : List Lent) → GoodTable t → GoodTable (table_after_all t calls)
unfolding table_after_all
good_at_last t [] good = good
good_at_last t (l ∷ more) good = good_at_last (table_after t l) more (lent_good t l good)

pub never_broken : NeverBroken
never_broken =
    record {
      unbroken = λ calls. (good_at_last empty calls good-empty []).whole;
      six_rows = λ calls. (good_at_last empty calls good-empty []).shaped.six;
      four-flows = λ calls. (good_at_last empty calls good-empty []).shaped.four;
    }
