use Rattle.std.proofs.Common.{◌≤◌, arith}
use Rattle.packet.proofs.Entries.{entry_within}
use Rattle.join.proofs.Running.{run-begin, run_turn, whole_entry, whole-size}
use Rattle.join.proofs.write_lengths.Goals as goal

pub loop-frames-init : goal.loop-frames-init
loop-frames-init c =
    let a = c.args in
    run-begin a.most a.table.width a.table.sub.bytes.now a.k a.count a.at a.lengths.now c.requires.most_le_longest.1

pub entry-requires : goal.entry-requires
entry-requires c =
    entry_within c.args.table.width _ c.args.count _ c.args.table.at_least (omega arith) c.requires.entries

pub loop-frames-preserved : goal.loop-frames-preserved
loop-frames-preserved c =
    let a = c.args in
    let small = c.requires.most_le_longest.0 in
    let size = c.whole_length-size in
    let short : size.result ≤ a.most = omega (arith, c.if-most-size.false) in
    run_turn c.loop-frames.invariant small c.requires.most_le_longest.3 (omega arith) c.entry.ensures
    (whole_entry a.most c.entry.result size.result small size.ensures short)
    (whole-size a.most c.entry.result size.result small size.ensures short)
