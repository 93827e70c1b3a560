-- A walk through the entries of a sound file: what holds before an entry, and one entry further on.
use Prim.Native.Nat.{ℕ, suc, ◌+◌, ◌*◌, ◌<◌, ◌≤◌}
use mathlib.Core.Path.{◌≡◌, refl, sym, ap, subst, ◌∙◌}
use mathlib.Core.Bool.{true}
use mathlib.Core.List.{List}
use native.Mathlib.Numerals.{add-one}
use native.Mathlib.Omega.{arith}
use lib.ListN.{length, replicate, length-replicate}
use Rattle.table.specs.declared.Table.{Table}
use Rattle.table.specs.Rows.{empty}
use Rattle.join.specs.Slices.{most_bytes, most_frames}
use Rattle.card.specs.declared.Received.{Received}
use Rattle.card.specs.Receive.{holding_size}
use Rattle.capture.specs.File.{Entry, head_length, entry_length, body_in, kinds, takes_length, entry_count, kind_at, body_start}
use Rattle.capture.specs.File.{file_refusal, nth_entry, StandsAt}
use Rattle.capture.proofs.Checking.{is_sound, start_first, start-next, body-inside, body_long, entry_right}
use Rattle.replay.specs.declared.Lent.{Lent}
use Rattle.replay.specs.declared.Walk.{Walk}
use Rattle.replay.specs.Run.{Running, answer_to, run_one, begin, standing, answer_at}
use Rattle.replay.specs.Inside.{as_running, Counts, StillLent, RunsTo, Sized, Stands, Begins, Unused, Steps}

module _ {file : List ℕ} {w : Walk} {lent : Lent} (s : Stands file w lent)
    (more : w.index < entry_count head_length file) where
  pub stands_at : StandsAt file w.index w.start
  stands_at = record { sound = s.sound; not_past = more; its_start = s.its_start }

  module _ (kind : ℕ) (body : List ℕ) (k : kind ≡ kind_at head_length entry_length file w.index)
      (b : body ≡ (nth_entry file w.index).body) where
    pub takes_length_lem : takes_length (body_in kinds kind) (length body) ≡ true
    takes_length_lem =
        ap (λ (x : ℕ). takes_length (body_in kinds x) (length body)) k
        ∙ ap (λ (l : List ℕ). takes_length (body_in kinds (kind_at head_length entry_length file w.index)) (length l)) b
        ∙ entry_right stands_at

    -- the entry is the one that the file has there
    entry_same : record { kind = kind; body = body } ≡ nth_entry file w.index
    unfolding nth_entry
    entry_same = rw (k, b) refl

    pub body-fits : w.start + length body < 18446744073709551616
    body-fits = omega (arith, body-inside stands_at (ap length b ∙ body_long stands_at), (is_sound file s.sound).short)

    module _ (r : Received) (lent' : Lent)
        (ran : RunsTo (as_running w.table lent) (record { kind = kind; body = body }) r lent') where
      pub counts_are : Counts r (answer_at file w.index)
      unfolding answer_at
      counts_are =
          subst (λ (x : Running). Counts r (answer_to x (nth_entry file w.index))) s.its_run
          (subst (λ (e : Entry). Counts r (answer_to (as_running w.table lent) e)) entry_same ran.its_counts)

      run_is : as_running r.table lent' ≡ standing file (w.index + 1)
      unfolding standing
      run_is =
          let one_on : as_running r.table lent' ≡ standing file (suc w.index) =
          ran.stands
          ∙ ap (run_one (as_running w.table lent)) entry_same
          ∙ ap (λ (x : Running). run_one x (nth_entry file w.index)) s.its_run in
          one_on ∙ ap (standing file) (sym (add-one w.index))

      -- one entry further on
      abbrev further : Walk
      further = record { index = w.index + 1; start = w.start + length body; table = r.table }

      there : StillLent lent lent' →
          Stands file further lent'
      there same =
          record {
            sound = s.sound;
            within = omega (arith, more);
            its_start = omega (arith, s.its_start, start-next file w.index, ap length b, body_long stands_at);
            its_run = run_is;
            sized =
                record {
                  holding_size = same.holding-size ∙ s.sized.holding_size;
                  output-size = same.output-size ∙ s.sized.output-size;
                  lengths-size = same.lengths-size ∙ s.sized.lengths-size;
                };
          }

      pub steps : StillLent lent lent' →
          Steps file w (record { kind = kind; answer = r }) further lent'
      steps same =
          record {
            its_kind = k;
            its_counts = counts_are;
            goes_on = record { stands = there same; one_on = refl };
          }

-- The slices that are lent stay the same ones from call to call.
pub lent_first : {lent : Lent} → StillLent lent lent
lent_first =
    record {
      holding-same = refl;
      output-same = refl;
      lengths-same = refl;
      holding-size = refl;
      output-size = refl;
      lengths-size = refl;
    }

pub lent_then : {first then last : Lent} → StillLent first then → StillLent then last → StillLent first last
lent_then a b =
    record {
      holding-same = b.holding-same ∙ a.holding-same;
      output-same = b.output-same ∙ a.output-same;
      lengths-same = b.lengths-same ∙ a.lengths-same;
      holding-size = b.holding-size ∙ a.holding-size;
      output-size = b.output-size ∙ a.output-size;
      lengths-size = b.lengths-size ∙ a.lengths-size;
    }

-- Before the first entry the run stands as it begins, with slices as long as any call needs.
pub unused_sized : {file : List ℕ} {lent : Lent} → Unused file lent → Sized lent
unused_sized u =
    record {
      holding_size = ap length u.holding-zero ∙ length-replicate {A = ℕ} holding_size 0;
      output-size = ap length u.output-zero ∙ length-replicate {A = ℕ} most_bytes 0;
      lengths-size = ap length u.lengths-zero ∙ length-replicate {A = ℕ} most_frames 0;
    }

abbrev running : List ℕ → List ℕ → List ℕ → Running
running holding output lengths = record { card = record { table = empty; holding = holding }; output = output; lengths = lengths }

pub stands-first : {file : List ℕ} {lent : Lent} {w : Walk} → Unused file lent → Begins file w → Stands file w lent
unfolding standing begin
stands-first {file} {lent} {w} f b =
    record {
      sound = f.sound;
      within = omega (arith, b.at_first);
      sized = unused_sized f;
      its_start = b.first-start ∙ ap (body_start head_length entry_length file) (sym b.at_first);
      its_run =
          ap (λ (t : Table). as_running t lent) b.empty-table
          ∙ ap (λ (l : List ℕ). running l lent.output.now lent.lengths.now) f.holding-zero
          ∙ ap (λ (l : List ℕ). running (replicate holding_size 0) l lent.lengths.now) f.output-zero
          ∙ ap (running (replicate holding_size 0) (replicate most_bytes 0)) f.lengths-zero
          ∙ ap (standing file) (sym b.at_first);
    }

-- where a sound file's first body starts, and that this is a small number
pub first_body : (file : List ℕ) (count : ℕ) → count ≡ entry_count head_length file →
    head_length + entry_length * count ≡ body_start head_length entry_length file 0
first_body file count e = ap (λ (n : ℕ). head_length + entry_length * n) e ∙ sym (start_first file)

pub head_inside : (file : List ℕ) → file_refusal file ≡ 0 → head_length ≤ length file
head_inside file z = omega (arith, (is_sound file z).contents_inside)
