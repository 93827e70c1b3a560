-- `mpeg::writer::write_next` is right since it refuses in the definition's order, and else what it writes is the null packet or one with
-- frames.
use Rattle.std.proofs.Common.{ℕ, List, sym}
use Rattle.std.proofs.lemmas.Result.{err_from_is_err_and}
use Rattle.mpeg.specs.Write.{Asked}
use Rattle.mpeg.proofs.Writing.{write_bad, write_small, write_null, waits, write_frames}
use Rattle.mpeg.proofs.writer.write_next.Goals as goal

-- what the call was given
abbrev asked : List ℕ → List ℕ → ℕ → ℕ → List ℕ → Asked
asked bytes lengths place count output = record { bytes = bytes; lengths = lengths; place = place; count = count; output = output }

pub returns-in_err-left : goal.returns-in_err-left
returns-in_err-left c =
    let refused = err_from_is_err_and c.from_residual.result c.from_residual.ensures.1 in
    rw (refused.1, refused.2, c.in_err-left.ensures.1)
    (write_bad (asked c.args.frames.now c.args.lengths.now c.args.place c.args.count c.args.output.now)
    (sym c.in_err-left.ensures.0))

pub returns-then-output-lt-MPEG_LENGTH : goal.returns-then-output-lt-MPEG_LENGTH
returns-then-output-lt-MPEG_LENGTH c =
    write_small (asked c.args.frames.now c.args.lengths.now c.args.place c.args.count c.args.output.now)
    (sym c.in_ok-left.ensures.0) c.if-output-lt-MPEG_LENGTH.true

pub returns-then-frames-place : goal.returns-then-frames-place
returns-then-frames-place c =
    write_null (asked c.args.frames.now c.args.lengths.now c.args.place c.args.count c.args.output.now)
    (sym c.in_ok-left.ensures.0) c.if-output-lt-MPEG_LENGTH.false c.null_packet-null.result _ c.if-frames-place.true
    c.null_packet-null.ensures c.copy.ensures

pub write_data-carried-requires : goal.write_data-carried-requires
write_data-carried-requires c =
    waits (asked c.args.frames.now c.args.lengths.now c.args.place c.args.count c.args.output.now)
    (sym c.in_ok-left.ensures.0) c.if-output-lt-MPEG_LENGTH.false c.if-frames-place.false _ c.in_ok-left.ensures.1

pub returns : goal.returns
returns c =
    write_frames (asked c.args.frames.now c.args.lengths.now c.args.place c.args.count c.args.output.now)
    (sym c.in_ok-left.ensures.0) c.if-output-lt-MPEG_LENGTH.false c.if-frames-place.false _ c.in_ok-left.ensures.1
    c.write_data-carried.result c.next_count.result _ c.write_data-carried.ensures.value c.next_count.ensures
    c.write_data-carried.ensures.output_after
