-- Running one entry: the call that it stands for, and what that call comes to.
use Prim.Native.Nat.{ℕ}
use mathlib.Core.Path.{◌≡◌, refl, sym, ap, subst, ◌∙◌}
use mathlib.Core.Bool.{false, true≢false}
use mathlib.Core.List.{List}
use native.Mathlib.Omega.{arith}
use borrow.Author.Tests.{ne_eqb}
use Rattle.octets.specs.Bytes.{be32_at}
use Rattle.packet.specs.Header.{packet_by}
use Rattle.table.specs.declared.Table.{Table}
use Rattle.table.specs.declared.Kind as session
use Rattle.table.specs.declared.Kind.TheVariants as session-kind
use Rattle.table.specs.Calls.{asking, opened, closed}
use Rattle.join.specs.Slices.{Slices, as_slices}
use Rattle.card.specs.declared.Received.{Received}
use Rattle.card.specs.Receive.{Outcome, PermitsReceive}
use Rattle.card.specs.History.{Arrival, Card, Call, opens, closes, hands, handed, answer, after}
use Rattle.capture.specs.declared.Kind.{Kind}
use Rattle.capture.specs.declared.Kind.TheVariants as kind
use Rattle.capture.specs.declared.UnknownKind.{UnknownKind}
use Rattle.capture.specs.Kind.{Reads}
use Rattle.capture.specs.File.{Entry, open_psp, open_dmpt, closing, body_in, kinds, is_kind}
use Rattle.std.proofs.Common.{Result, Ok, Err}
use Rattle.replay.specs.declared.Lent.{Lent}
use Rattle.replay.specs.Run.{Running, asks, transport_of, packet_of, call_of, output_after, lengths_after, run_one}
use Rattle.replay.specs.Inside.{as_running, answered, Counts, RunsTo}

-- what is not read as an open or a close has the number of none
pub no_call : (number : ℕ) (r : Result Kind UnknownKind) → Reads number r →
    (r ≡ Ok kind.OpenPsp → ⊥) → (r ≡ Ok kind.OpenDmpt → ⊥) → (r ≡ Ok kind.Close → ⊥) →
    (number ≡ open_psp → ⊥) × (number ≡ open_dmpt → ⊥) × (number ≡ closing → ⊥)
no_call number (Ok kind.OpenPsp) reads psp dmpt close = absurd (psp refl)
no_call number (Ok kind.OpenDmpt) reads psp dmpt close = absurd (dmpt refl)
no_call number (Ok kind.Close) reads psp dmpt close = absurd (close refl)
no_call number (Ok kind.Data) reads psp dmpt close = (λ e. omega arith, λ e. omega arith, λ e. omega arith)
no_call number (Ok kind.DataOverUdp) reads psp dmpt close = (λ e. omega arith, λ e. omega arith, λ e. omega arith)
no_call number (Err unknown) reads psp dmpt close =
    let P : ℕ → Type 0 = λ n. is_kind (body_in kinds n) ≡ false in
    (λ e. true≢false (subst P e reads.0), λ e. true≢false (subst P e reads.0), λ e. true≢false (subst P e reads.0))

abbrev entry_of : ℕ → List ℕ → Entry
entry_of kind body = record { kind = kind; body = body }

abbrev as_run : Card → List ℕ → List ℕ → Running
as_run card output lengths = record { card = card; output = output; lengths = lengths }

-- what an entry comes to, by the call that it stands for
ran_as : (before : Running) (e : Entry) (x : Call) (r : Received) (lent : Lent) → call_of before e ≡ x →
    Counts r (answer before.card x) →
    as_running r.table lent
    ≡ record {
      card = after before.card x;
      output = output_after x before.output (answer before.card x);
      lengths = lengths_after x before.lengths (answer before.card x);
    } →
    RunsTo before e r lent
unfolding run_one
ran_as before e x r lent same counts stands =
    record {
      its_counts = subst (λ (y : Call). Counts r (answer before.card y)) (sym same) counts;
      stands =
          stands
          ∙ ap (λ (y : Call). as_run (after before.card y) (output_after y before.output (answer before.card y))
          (lengths_after y before.lengths (answer before.card y))) (sym same);
    }

module _ (t : Table) (lent : Lent) (kind : ℕ) (body : List ℕ) where
  abbrev before : Running
  before = as_running t lent

  abbrev arrival : Arrival
  arrival = record { packet = packet_of (entry_of kind body); output = lent.output.now; lengths = lent.lengths.now }

  abbrev slices : Slices
  slices = as_slices lent.holding.now lent.output.now lent.lengths.now

  -- an entry that opens, as PSP or as D-MPT
  opened_as : (asked : session.Kind) (id : ℕ) (r : Received) →
      call_of before (entry_of kind body) ≡ opens (asks asked (entry_of kind body)) →
      id ≡ be32_at body 0 →
      r ≡ answered (opened t (asking asked id)).code 0 (opened t (asking asked id)).table →
      RunsTo before (entry_of kind body) r lent
  unfolding answer after
  opened_as asked id r x i e =
      let e' : r ≡ answered (opened t (asking asked (be32_at body 0))).code 0 (opened t (asking asked (be32_at body 0))).table =
      e ∙ ap (λ (y : ℕ). answered (opened t (asking asked y)).code 0 (opened t (asking asked y)).table) i in
      subst (λ (y : Received). RunsTo before (entry_of kind body) y lent) (sym e')
      (ran_as before (entry_of kind body) (opens (asks asked (entry_of kind body))) _ lent x
      (record { its_code = refl; its_frames = refl; its_bytes = refl; its_dropped = refl; its_gap = refl }) refl)

  pub opens_psp : kind ≡ open_psp → (id : ℕ) (r : Received) → id ≡ be32_at body 0 →
      r ≡ answered (opened t (asking session-kind.Psp id)).code 0 (opened t (asking session-kind.Psp id)).table →
      RunsTo before (entry_of kind body) r lent
  opens_psp psp id r = opened_as session-kind.Psp id r (rw psp refl)

  pub opens_dmpt : kind ≡ open_dmpt → (id : ℕ) (r : Received) → id ≡ be32_at body 0 →
      r ≡ answered (opened t (asking session-kind.Dmpt id)).code 0 (opened t (asking session-kind.Dmpt id)).table →
      RunsTo before (entry_of kind body) r lent
  opens_dmpt dmpt id r = opened_as session-kind.Dmpt id r (rw dmpt refl)

  pub closes_row : kind ≡ closing → (id : ℕ) (r : Received) → id ≡ be32_at body 0 →
      r ≡ answered (closed t id).code (closed t id).dropped (closed t id).table →
      RunsTo before (entry_of kind body) r lent
  unfolding answer after
  closes_row close id r i e =
      let call : call_of before (entry_of kind body) ≡ closes (be32_at body 0) = rw close refl in
      let e' : r ≡ answered (closed t (be32_at body 0)).code (closed t (be32_at body 0)).dropped (closed t (be32_at body 0)).table =
      e ∙ ap (λ (x : ℕ). answered (closed t x).code (closed t x).dropped (closed t x).table) i in
      subst (λ (x : Received). RunsTo before (entry_of kind body) x lent) (sym e')
      (ran_as before (entry_of kind body) (closes (be32_at body 0)) _ lent call
      (record { its_code = refl; its_frames = refl; its_bytes = refl; its_dropped = refl; its_gap = refl }) refl)

  -- what neither opens nor closes is a packet
  module _ (other : kind ≡ open_psp → ⊥) (not-dmpt : kind ≡ open_dmpt → ⊥) (not-close : kind ≡ closing → ⊥) where
    data_call : call_of before (entry_of kind body) ≡ hands arrival
    data_call = rw (ne_eqb kind open_psp other, ne_eqb kind open_dmpt not-dmpt, ne_eqb kind closing not-close) refl

    abbrev left : Received → Lent → Outcome
    left r lent' = record { answer = r; slices = as_slices lent'.holding.now lent'.output.now lent'.lengths.now }

    abbrev came : Outcome
    came = handed before.card arrival

    abbrev at-end : List ℕ → Card
    at-end holding = record { table = came.answer.table; holding = holding }

    pub hands-packet : (transport : ℕ) → transport ≡ transport_of kind → (r : Received) (lent' : Lent) →
        PermitsReceive t (packet_by transport body) slices (left r lent') →
        RunsTo before (entry_of kind body) r lent'
    unfolding answer after
    hands-packet transport named r lent' permitted =
        let p : PermitsReceive t (packet_of (entry_of kind body)) slices (left r lent') =
        subst (λ (n : ℕ). PermitsReceive t (packet_by n body) slices (left r lent')) named permitted in
        ran_as before (entry_of kind body) (hands arrival) r lent' data_call
        (record {
          its_code = p.its_number;
          its_frames = p.its_frames;
          its_bytes = p.its_bytes;
          its_dropped = p.its_dropped;
          its_gap = p.its_gap;
        })
        (ap (λ (x : Table). as_running x lent') p.its_table
        ∙ ap (λ (x : List ℕ). as_run (at-end x) lent'.output.now lent'.lengths.now) p.its_holding
        ∙ ap (λ (x : List ℕ). as_run (at-end came.slices.holding) x lent'.lengths.now) p.its_output
        ∙ ap (as_run (at-end came.slices.holding) came.slices.output) p.its_lengths)
