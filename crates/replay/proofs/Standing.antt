-- How a run stands: its table is never broken, and behind a step the entry's frames lie in the slices, few and short.
use Prim.Native.Nat.{ℕ, zero, suc, ◌≤◌}
use mathlib.Core.Path.{◌≡◌, refl, sym, ap, subst, ◌∙◌}
use mathlib.Core.Bool.{Bool, true, false, cond}
use mathlib.Core.List.{List, []}
use native.Mathlib.Numerals.{add-one}
use native.Mathlib.Omega.{arith}
use lib.Dec.{eqb}
use Rattle.octets.specs.Bytes.{be32_at, byte_at}
use Rattle.octets.specs.Count.{sum_to}
use Rattle.octets.proofs.Counts.{sum-none}
use Rattle.table.specs.declared.Request.{Request}
use Rattle.table.specs.declared.Kind.TheVariants as kind
use Rattle.table.specs.Broken.{broken}
use Rattle.table.proofs.Keeping.{empty-unbroken, opened_keeps, closed_keeps}
use Rattle.join.specs.Slices.{most_frames, most_bytes, as_slices}
use Rattle.card.specs.Receive.{frames_found}
use Rattle.card.specs.History.{Call, opens, closes, hands, frames_of, answer, after}
use Rattle.card.proofs.Keeping.{received_keeps}
use Rattle.octets.proofs.Stretches.{cut-part-none}
use Rattle.card.proofs.Limits.{within_limits, lengths-add_up}
use Rattle.capture.specs.File.{Entry, open_psp, open_dmpt, closing, nth_entry}
use Rattle.replay.specs.declared.Lent.{Lent}
use Rattle.replay.specs.declared.Walk.{Walk}
use Rattle.replay.specs.declared.Stepped.{Stepped}
use Rattle.replay.specs.Run.{Running, asks, packet_of, call_of, output_after, lengths_after, answer_to, run_one, begin, standing, answer_at}
use Rattle.replay.specs.Inside.{as_running, Stands, Steps, Findable}

-- what holds of every call that an entry may stand for holds of the call that it stands for
either : (P : Call → Type 0) (b : Bool) {x y : Call} → P x → P y → P (cond b x y)
either P true p q = p
either P false p q = q

by_call : (r : Running) (e : Entry) (P : Call → Type 0) → ((q : Request) → P (opens q)) → ((id : ℕ) → P (closes id)) →
    P (hands (record { packet = packet_of e; output = r.output; lengths = r.lengths })) → P (call_of r e)
by_call r e P on-open on-close on-data =
    either P (eqb e.kind open_psp) (on-open (asks kind.Psp e))
    (either P (eqb e.kind open_dmpt) (on-open (asks kind.Dmpt e))
    (either P (eqb e.kind closing) (on-close (be32_at e.body 0)) on-data))

-- no entry breaks the table
run_keeps : (r : Running) (e : Entry) → broken r.card.table ≡ false → broken (run_one r e).card.table ≡ false
unfolding run_one after
run_keeps r e whole =
    by_call r e (λ (x : Call). broken (after r.card x).table ≡ false)
    (λ q. opened_keeps r.card.table q whole)
    (λ id. closed_keeps r.card.table id whole)
    (received_keeps r.card.table (packet_of e) (as_slices r.card.holding r.output r.lengths) whole)

never_broken : (file : List ℕ) (k : ℕ) → broken (standing file k).card.table ≡ false
unfolding standing begin
never_broken file zero = empty-unbroken
never_broken file (suc k) = run_keeps (standing file k) (nth_entry file k) (never_broken file k)

-- the frames of a call are those that its caller finds, also where the slices were not lent to it: then there are none
none_either : (lengths output more-lengths more-output : List ℕ) → frames_found 0 lengths output ≡ frames_found 0 more-lengths more-output
none_either lengths output more-lengths more-output = cut-part-none lengths output ∙ sym (cut-part-none more-lengths more-output)

frames-same : (r : Running) (e : Entry) →
    frames_found (answer_to r e).frames (run_one r e).lengths (run_one r e).output ≡ frames_of (answer_to r e)
unfolding run_one answer
frames-same r e =
    by_call r e
    (λ (x : Call). frames_found (answer r.card x).frames (lengths_after x r.lengths (answer r.card x))
    (output_after x r.output (answer r.card x)) ≡ frames_of (answer r.card x))
    (λ q. none_either r.lengths r.output [] [])
    (λ id. none_either r.lengths r.output [] [])
    refl

frames_of_entry : (file : List ℕ) (k : ℕ) →
    frames_found (answer_at file k).frames (standing file (suc k)).lengths (standing file (suc k)).output ≡ frames_of (answer_at file k)
unfolding standing answer_at
frames_of_entry file k = frames-same (standing file k) (nth_entry file k)

-- they are few and short
abbrev Short : ℕ → List ℕ → Type 0
Short count lengths = (count ≤ most_frames) × (sum_to (byte_at lengths) count ≤ most_bytes)

none-short : (lengths : List ℕ) → Short 0 lengths
none-short lengths = (omega arith, omega (arith, sum-none (byte_at lengths)))

pub frames-short : (r : Running) (e : Entry) → Short (answer_to r e).frames (run_one r e).lengths
unfolding run_one answer
frames-short r e =
    let s = as_slices r.card.holding r.output r.lengths in
    let few = within_limits r.card.table (packet_of e) s in
    by_call r e (λ (x : Call). Short (answer r.card x).frames (lengths_after x r.lengths (answer r.card x)))
    (λ q. none-short r.lengths)
    (λ id. none-short r.lengths)
    (few.most_frames_lem, omega (arith, few.most_bytes_lem, lengths-add_up r.card.table (packet_of e) s))

-- wherever a walk stands its table is whole
pub table-whole : {file : List ℕ} {w : Walk} {lent : Lent} → Stands file w lent → broken w.table ≡ false
table-whole {file} {w} s = ap (λ (r : Running). broken r.card.table) s.its_run ∙ never_broken file w.index

-- Behind a step: the card is the one that the run has there, and the entry's frames are those that are found in the slices.
module _ {file : List ℕ} {w further : Walk} {s : Stepped} {lent : Lent} (stepped : Steps file w s further lent) where
  run_is : as_running further.table lent ≡ standing file (suc w.index)
  run_is = stepped.goes_on.stands.its_run ∙ ap (standing file) (stepped.goes_on.one_on ∙ add-one w.index)

  pub card_behind : record { table = further.table; holding = lent.holding.now } ≡ (standing file (suc w.index)).card
  card_behind = ap (λ (r : Running). r.card) run_is

  pub frames_found_lem : frames_found s.answer.frames lent.lengths.now lent.output.now ≡ frames_of (answer_at file w.index)
  frames_found_lem =
      ap (λ (n : ℕ). frames_found n lent.lengths.now lent.output.now) stepped.its_counts.its_frames
      ∙ ap (λ (r : Running). frames_found (answer_at file w.index).frames r.lengths r.output) run_is
      ∙ frames_of_entry file w.index

  pub frames_findable : Findable lent.output.now lent.lengths.now s.answer.frames
  unfolding standing answer_at
  frames_findable =
      let short : Short (answer_at file w.index).frames (standing file (suc w.index)).lengths =
      frames-short (standing file w.index) (nth_entry file w.index) in
      let as-found : Short s.answer.frames lent.lengths.now =
      subst (λ (n : ℕ). Short n lent.lengths.now) (sym stepped.its_counts.its_frames)
      (subst (Short (answer_at file w.index).frames) (sym (ap (λ (r : Running). r.lengths) run_is)) short) in
      record {
        few = as-found.0;
        all_short = as-found.1;
        lengths_long = omega (arith, stepped.goes_on.stands.sized.lengths-size);
        output_long = omega (arith, stepped.goes_on.stands.sized.output-size);
      }
