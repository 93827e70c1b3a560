-- `pspmpeg::gather::gather` is right since before each entry the frames delivered so far are gathered (`Gathering`).
use Rattle.std.proofs.Common.{◌<◌, refl, ◌∙◌, arith}
use Rattle.capture.specs.File.{head_length, entry_count}
use Rattle.replay.proofs.Walking.{lent_first, lent_then, stands-first, head_inside}
use Rattle.pspmpeg.proofs.Gathering.{gather_begin, bytes_same, sizes-same, next_fits, gather_turn, gather_end}
use Rattle.pspmpeg.proofs.gather.gather.Goals as goal

pub entry_count-end-requires : goal.entry_count-end-requires
entry_count-end-requires c = head_inside _ c.requires.unused.sound

pub loop-init : goal.loop-init
loop-init c =
    record {
      at = c.begin-walk.ensures.at_first;
      still_lent = lent_first;
      same_slices = (refl, refl);
      gathering =
          gather_begin (stands-first c.requires.unused c.begin-walk.ensures) c.begin-walk.ensures.at_first refl refl;
    }

pub gather_entry-requires-clause-fits : goal.gather_entry-requires-clause-fits
gather_entry-requires-clause-fits c =
    let not_past : c.loop.walk.index < entry_count head_length c.args.file.now =
    omega (arith, c.loop.invariant.at, c.loop-test.true, c.entry_count-end.ensures) in
    next_fits c.loop.invariant.gathering c.requires.longest_file_in_bounds.0 c.requires.longest_file_in_bounds.1 not_past

pub loop-preserved : goal.loop-preserved
loop-preserved c =
    let not_past : c.loop.walk.index < entry_count head_length c.args.file.now =
    omega (arith, c.loop.invariant.at, c.loop-test.true, c.entry_count-end.ensures) in
    let did = c.gather_entry.ensures in
    let same = did.same_slices in
    record {
      at = omega (arith, c.loop.invariant.at, did.goes_on.one_on);
      still_lent = lent_then c.loop.invariant.still_lent did.still_lent;
      same_slices = (same.0 ∙ c.loop.invariant.same_slices.0, same.1 ∙ c.loop.invariant.same_slices.1);
      gathering =
          gather_turn c.loop.invariant.gathering c.requires.longest_file_in_bounds.0 c.requires.longest_file_in_bounds.1 not_past
          did.goes_on did.adds;
    }

pub returns-clause-total_le_longest_file : goal.returns-clause-total_le_longest_file
returns-clause-total_le_longest_file c =
    let end =
    gather_end c.loop.invariant.gathering c.requires.longest_file_in_bounds.0 c.requires.longest_file_in_bounds.1
    (omega (arith, c.loop.invariant.at, c.loop-test.false, c.entry_count-end.ensures)) in
    (end.1, end.2)

pub returns-clause-inside : goal.returns-clause-inside
returns-clause-inside c =
    let long = c.requires.longest_file_in_bounds in
    let i = c.loop.invariant.gathering in
    let end = gather_end i long.0 long.1 (omega (arith, c.loop.invariant.at, c.loop-test.false, c.entry_count-end.ensures)) in
    (omega (arith, end.1, bytes_same i long.0 long.1, long.0), omega (arith, end.2, sizes-same i long.0 long.1, long.1))
