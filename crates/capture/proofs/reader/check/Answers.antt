-- `capture::reader::check` asks in the order of document 01; each way out is one law of `Checking`.
use Rattle.std.proofs.Common.{arith, sym, ◌∙◌}
use Rattle.std.proofs.lemmas.Grind.{common_steps}
use Rattle.capture.proofs.Checking.{too_long, no_head, too_many_entries, contents_cut, entry_wrong, not_filled, sound_file}
use Rattle.capture.proofs.reader.check.Goals as goal

pub returns-then-file-gt-LONGEST_FILE : goal.returns-then-file-gt-LONGEST_FILE
returns-then-file-gt-LONGEST_FILE c = too_long _ c.if-file-gt-LONGEST_FILE.true

pub returns-then-file-lt-HEAD_LENGTH : goal.returns-then-file-lt-HEAD_LENGTH
returns-then-file-lt-HEAD_LENGTH c = no_head _ c.if-file-gt-LONGEST_FILE.false c.if-file-lt-HEAD_LENGTH.true

pub returns-then-count-gt-MOST_ENTRIES : goal.returns-then-count-gt-MOST_ENTRIES
returns-then-count-gt-MOST_ENTRIES c =
    too_many_entries _ c.if-file-gt-LONGEST_FILE.false c.if-file-lt-HEAD_LENGTH.false _ c.entry_count-count.ensures
    c.if-count-gt-MOST_ENTRIES.true

pub returns-then-file-count : goal.returns-then-file-count
returns-then-file-count c =
    contents_cut _ c.if-file-gt-LONGEST_FILE.false c.if-file-lt-HEAD_LENGTH.false _ c.entry_count-count.ensures
    c.if-count-gt-MOST_ENTRIES.false c.if-file-count.true

pub returns-in_err-end : goal.returns-in_err-end
returns-in_err-end c =
    let e =
    entry_wrong _ c.if-file-gt-LONGEST_FILE.false c.if-file-lt-HEAD_LENGTH.false _ c.entry_count-count.ensures
    c.if-count-gt-MOST_ENTRIES.false c.if-file-count.false c.in_err-end.field-0.0 (sym c.in_err-end.was ∙ c.survey.ensures) in
    grind (arith, common_steps)

pub returns-then-end-file : goal.returns-then-end-file
returns-then-end-file c =
    not_filled _ c.if-file-gt-LONGEST_FILE.false c.if-file-lt-HEAD_LENGTH.false _ c.entry_count-count.ensures
    c.if-count-gt-MOST_ENTRIES.false c.if-file-count.false c.in_ok-end.end (sym c.in_ok-end.was ∙ c.survey.ensures) c.if-end-file.true

pub returns : goal.returns
returns c =
    sound_file _ c.if-file-gt-LONGEST_FILE.false c.if-file-lt-HEAD_LENGTH.false _ c.entry_count-count.ensures
    c.if-count-gt-MOST_ENTRIES.false c.if-file-count.false c.in_ok-end.end (sym c.in_ok-end.was ∙ c.survey.ensures) c.if-end-file.false
