-- What stands in the output before a call is of no account: two calls that differ in it alone answer the same and leave the same packet, as
-- long as both outputs are long enough.
use Prim.Native.Nat.{ℕ, ◌+◌, ◌≤◌}
use mathlib.Core.Path.{◌≡◌, refl, sym, ap, ◌∙◌}
use mathlib.Core.Bool.{Bool, true, false}
use mathlib.Core.List.{List, ◌++◌}
use lib.Dec.{eqb}
use lib.ListN.{length}
use borrow.Author.Tests.{eqb-true, eqb-false, le-ltb}
use Rattle.refusal.specs.Refusal.{Refusal, first}
use Rattle.refusal.proofs.Laws.{first-passed, first_stopped}
use Rattle.packet.specs.Header.{id_length}
use Rattle.sender.specs.declared.Position.{Position}
use Rattle.sender.specs.Send.{greatest_limit, early_refusals, later_refusals, send_refusals, SendOutcome, cut_for, written, sent}
use Rattle.sender.specs.Series.{Job, asked_for, packet_left}
use Rattle.sender.proofs.Judging.{early_passed, limit-small}
use Rattle.sender.proofs.Sending.{sent-written}
use Rattle.sender.proofs.Keeping.{sent-packet}
use Rattle.sender.proofs.Series.{code_is}

module _ (job : Job) (number : ℕ) (at : Position) (limit : ℕ) (s t : List ℕ)
    (s-long : limit ≤ greatest_limit → limit + id_length ≤ length s) (t-long : limit ≤ greatest_limit → limit + id_length ≤ length t) where
  abbrev early : List Refusal
  early = early_refusals job.session job.flow limit (length job.bytes) job.lengths

  abbrev one : SendOutcome
  one = sent (asked_for job number at (record { limit = limit; output = s }))

  abbrev other : SendOutcome
  other = sent (asked_for job number at (record { limit = limit; output = t }))

  pub alike_refused : first (send_refusals (asked_for job number at (record { limit = limit; output = s })))
      ≡ first (send_refusals (asked_for job number at (record { limit = limit; output = t })))
  alike_refused = by (eqb (first early) 0) refl
    where
      by : (b : Bool) → eqb (first early) 0 ≡ b →
          first (early ++ later_refusals limit job.lengths at (length s))
          ≡ first (early ++ later_refusals limit job.lengths at (length t))
      by false e =
          let stops = eqb-false (first early) 0 e in
          first_stopped early (later_refusals limit job.lengths at (length s)) stops
          ∙ sym (first_stopped early (later_refusals limit job.lengths at (length t)) stops)
      by true e =
          let z = eqb-true (first early) 0 e in
          let small =
          limit-small job.session job.flow limit (length job.bytes) job.lengths
          (early_passed job.session job.flow limit (length job.bytes) job.lengths z) in
          let same : first (later_refusals limit job.lengths at (length s)) ≡ first (later_refusals limit job.lengths at (length t)) =
          rw (le-ltb (length s) (limit + id_length) (s-long small), le-ltb (length t) (limit + id_length) (t-long small)) refl in
          first-passed early (later_refusals limit job.lengths at (length s)) refl z ∙ same
          ∙ sym (first-passed early (later_refusals limit job.lengths at (length t)) refl z)

  pub alike_code : one.answer.code ≡ other.answer.code
  alike_code =
      code_is (asked_for job number at (record { limit = limit; output = s })) ∙ alike_refused
      ∙ sym (code_is (asked_for job number at (record { limit = limit; output = t })))

  module _ (z : first (send_refusals (asked_for job number at (record { limit = limit; output = s }))) ≡ 0) where
    pub alike_answer : one.answer ≡ other.answer
    unfolding written cut_for
    alike_answer =
        ap (λ (o : SendOutcome). o.answer) (sym (sent-written (asked_for job number at (record { limit = limit; output = s })) z))
        ∙ ap (λ (o : SendOutcome). o.answer)
        (sent-written (asked_for job number at (record { limit = limit; output = t })) (sym alike_refused ∙ z))

    pub alike_packet : packet_left one ≡ packet_left other
    unfolding cut_for
    alike_packet =
        sent-packet (asked_for job number at (record { limit = limit; output = s })) z
        ∙ sym (sent-packet (asked_for job number at (record { limit = limit; output = t })) (sym alike_refused ∙ z))
