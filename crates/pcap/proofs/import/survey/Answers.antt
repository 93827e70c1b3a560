use Rattle.std.proofs.Common.{refl, sym, ap, List, ℕ, length, arith}
use Rattle.pcap.specs.Inside.Importing.{Found}
use Rattle.pcap.proofs.Answering.{handed_on}
use Rattle.pcap.proofs.Walk.{step_falls}
use Rattle.pcap.proofs.Counting.{survey_begin, survey_countable, survey_turn, survey_end}
use Rattle.pcap.proofs.import.survey.Goals as goal

pub loop-packet-init : goal.loop-packet-init
loop-packet-init c = rw c.open-walk.ensures (refl, survey_begin _ _ _ refl refl)

pub count-tally-requires : goal.count-tally-requires
count-tally-requires c =
    let there = c.in-Some.ensures in
    survey_countable c.loop-packet.invariant.1 there.0 _ there.1.its_bytes (omega (
      arith,
      ap (λ (l : List ℕ). length l)
          c.loop-packet.invariant.0,
    ))

pub loop-packet-smaller : goal.loop-packet-smaller
loop-packet-smaller c = rw c.advance-walk.ensures (step_falls _ _ _ c.in-Some.ensures.0)

pub loop-packet-preserved : goal.loop-packet-preserved
loop-packet-preserved c =
    let there = c.in-Some.ensures in
    rw c.advance-walk.ensures
    (c.loop-packet.invariant.0, survey_turn c.loop-packet.invariant.1 there.0 _ there.1.its_bytes _ _ c.count-tally.ensures refl)

pub returns-in_err-cause : goal.returns-in_err-cause
returns-in_err-cause c =
    let found = survey_end c.loop-packet.invariant.1 _ c.in_default.ensures c.in_err-cause.ensures in
    rw (handed_on _ c.from_residual.ensures.1) (rw c.loop-packet.invariant.0 at (ap (λ (f : Found). f.cause) (sym found)))

pub returns : goal.returns
returns c =
    rw c.loop-packet.invariant.0 at (sym (survey_end c.loop-packet.invariant.1 _ c.in_default.ensures c.in_ok-cause.ensures))
