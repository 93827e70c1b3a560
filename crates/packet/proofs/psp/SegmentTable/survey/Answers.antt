-- After k turns there are the sum and the faults of the first k entries; of an entry in the middle one comparison says what the three of
-- `bad_entry` say (`middle_bad`).
use Rattle.std.proofs.Common.{arith, ◌≡◌, ◌+◌, ◌-◌, ◌≤◌}
use Rattle.packet.proofs.Entries.{middle_bad, survey_first, survey_turn, survey_end}
use Rattle.packet.proofs.psp.SegmentTable.survey.Goals as goal

pub returns-then-count-eq1-clause-total_value : goal.returns-then-count-eq1-clause-total_value
returns-then-count-eq1-clause-total_value c =
    let alone : c.args.count ≤ 1 = omega arith in
    let first = survey_first c.requires.0 c.requires.1 c.entry-first.ensures c.from-total.ensures c.bad_entry-bad.ensures in
    (survey_end first alone).summed.sum

pub returns-then-count-eq1-clause-bad_value : goal.returns-then-count-eq1-clause-bad_value
returns-then-count-eq1-clause-bad_value c =
    let alone : c.args.count ≤ 1 = omega arith in
    let first = survey_first c.requires.0 c.requires.1 c.entry-first.ensures c.from-total.ensures c.bad_entry-bad.ensures in
    (survey_end first alone).faults

pub loop-k-init : goal.loop-k-init
loop-k-init c = survey_first c.requires.0 c.requires.1 c.entry-first.ensures c.from-total.ensures c.bad_entry-bad.ensures

pub loop-k-preserved : goal.loop-k-preserved
loop-k-preserved c =
    survey_turn c.loop-k.invariant (omega arith) c.requires.1 c.entry-middle.ensures c.from-total-in-loop-k.ensures
    (middle_bad c.args.count c.loop-k.k c.entry-middle.result (omega arith) (omega arith) (omega arith))

pub returns-clause-total_value : goal.returns-clause-total_value
returns-clause-total_value c =
    let at_last : c.loop-k.k ≡ c.args.count - 1 = omega arith in
    let whole : c.args.count ≤ c.args.count - 1 + 1 = omega arith in
    let before = rw at_last at c.loop-k.invariant in
    (survey_end
    (survey_turn before (omega arith) c.requires.1 c.entry-last.ensures c.from-total-2.ensures c.bad_entry-bad-2.ensures)
    whole).summed.sum

pub returns-clause-bad_value : goal.returns-clause-bad_value
returns-clause-bad_value c =
    let at_last : c.loop-k.k ≡ c.args.count - 1 = omega arith in
    let whole : c.args.count ≤ c.args.count - 1 + 1 = omega arith in
    let before = rw at_last at c.loop-k.invariant in
    (survey_end
    (survey_turn before (omega arith) c.requires.1 c.entry-last.ensures c.from-total-2.ensures c.bad_entry-bad-2.ensures)
    whole).faults
