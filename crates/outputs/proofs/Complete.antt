-- A capture that is not refused carries every frame, whole and in order, and its packets keep the rules that demand 3 supposes of any
-- sender. It passes the check of capture files, and its entries are read from it as they were meant.
use Prim.Native.Nat.{ℕ, ◌+◌, ◌<◌, ◌≤◌}
use mathlib.Core.Path.{◌≡◌, refl, sym, ap, ◌∙◌}
use mathlib.Core.Bool.{Bool, true, false, cond}
use mathlib.Core.List.{List, [], ◌∷◌, map}
use native.Mathlib.Omega.{arith}
use lib.Dec.{eqb}
use lib.ListN.{length, replicate, length-replicate}
use borrow.Author.Tests.{eqb-true, eq-eqb, ltb-false}
use Rattle.refusal.specs.Refusal.{first}
use Rattle.refusal.proofs.Laws.{none-applies}
use Rattle.octets.specs.Each.{Each}
use Rattle.octets.specs.Stretch.{joined, cut_by}
use Rattle.octets.proofs.Elements.{each-replicate}
use Rattle.packet.specs.Header.{ip, sub, s_set}
use Rattle.sender.specs.Send.{send_refusals}
use Rattle.sender.specs.Series.{Job, Turn, Sound, Usable, asked_for}
use Rattle.sender.specs.Rules.{Pieces, KeepsRules}
use Rattle.sender.proofs.Sending as sending
use Rattle.sender.proofs.Series.{line, code_is, sends_all}
use Rattle.capture.specs.File.{longest_file, most_entries, file_refusal, entries, file_of}
use Rattle.capture.specs.Write.{Right, Writable}
use Rattle.capture.proofs.ReadsBack.{written-sound, written_reads}
use Rattle.outputs.specs.Sent.{data_of, turn_for, at_first, packets_for, entries_for, capture_refusals, first_answer, make_refusal}

-- the calls of the series
abbrev pub turns_for : Job → ℕ → List Turn
turns_for job limit = replicate (length job.bytes + 1) (turn_for limit)

packets-right : (packets : List (List ℕ)) → Each Right (map data_of packets)
packets-right [] = tt
packets-right (p ∷ more) = (record { its_kind = refl; its_length = refl }, packets-right more)

module _ (job : Job) (limit number : ℕ) (made : make_refusal job limit number ≡ 0) where
  first-passed : first_answer job limit number ≡ 0
  unfolding make_refusal
  first-passed = by (eqb (first_answer job limit number) 0) refl made
    where
      by : (t : Bool) → eqb (first_answer job limit number) 0 ≡ t →
          cond t (first (capture_refusals (entries_for job limit number))) (first_answer job limit number) ≡ 0 →
          first_answer job limit number ≡ 0
      by true e z = eqb-true (first_answer job limit number) 0 e
      by false e z = z

  passed : first (send_refusals (asked_for job number at_first (turn_for limit))) ≡ 0
  passed = sym (code_is (asked_for job number at_first (turn_for limit))) ∙ first-passed

  pub sound : job.session < 4294967296 → Sound job
  sound four_bytes =
      let p = sending.job (asked_for job number at_first (turn_for limit)) passed in
      record { addressed = p.addressed; four_bytes = four_bytes; frames-sound = p.frames-sound }

  usable : Usable (turn_for limit)
  usable =
      record {
        limited = (sending.job (asked_for job number at_first (turn_for limit)) passed).limited;
        output_long = (sending.standing (asked_for job number at_first (turn_for limit)) passed).output_long;
      }

  pub all_usable : Each Usable (turns_for job limit)
  all_usable = each-replicate Usable (length job.bytes + 1) (turn_for limit) usable

  pub enough : length job.bytes ≤ length (turns_for job limit)
  enough = omega (arith, length-replicate {A = Turn} (length job.bytes + 1) (turn_for limit))

  pub made_whole : job.session < 4294967296 → number < 65536 →
      (frames : List Pieces) × (map joined frames ≡ cut_by job.lengths job.bytes)
      × KeepsRules (line job number) frames [] (map ip (packets_for job limit number))
      × Each (λ p. s_set (sub p) ≡ true) (map ip (packets_for job limit number))
  unfolding packets_for
  made_whole four_bytes two_bytes = sends_all job (sound four_bytes) (turns_for job limit) number two_bytes all_usable enough

  -- The capture passes the check of capture files, and its entries are read from it as they were meant.
  in_limits : first (capture_refusals (entries_for job limit number)) ≡ 0
  unfolding make_refusal
  in_limits =
      sym (ap (λ (t : Bool). cond t (first (capture_refusals (entries_for job limit number))) (first_answer job limit number))
      (eq-eqb (first_answer job limit number) 0 first-passed)) ∙ made

  writable : Writable (entries_for job limit number)
  unfolding entries_for
  writable =
      let n = none-applies (capture_refusals (entries_for job limit number)) refl in_limits in
      record {
        few = ltb-false most_entries (length (entries_for job limit number)) n.1.0;
        short = ltb-false longest_file (length (file_of (entries_for job limit number))) n.0;
        right = (record { its_kind = refl; its_length = refl }, packets-right (packets_for job limit number));
      }

  pub made_reads : (file_refusal (file_of (entries_for job limit number)) ≡ 0)
      × (entries (file_of (entries_for job limit number)) ≡ entries_for job limit number)
  made_reads = (written-sound (entries_for job limit number) writable, written_reads (entries_for job limit number) writable)
