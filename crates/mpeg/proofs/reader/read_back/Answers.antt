-- `mpeg::reader::read_back` is right since it refuses as the order says, and else both slices have what the definition says.
use Rattle.std.proofs.Common.{◌≡◌, refl, sym, ap, ◌∙◌, List, ℕ}
use Rattle.std.proofs.lemmas.Result.{err_from_is_err_and}
use Rattle.std.specs.Prelude.{Some}
use Rattle.refusal.specs.declared.Refusal.TheVariants as refusal
use Rattle.mpeg.specs.Inside.Standing.{spoilt, standing_of, told}
use Rattle.mpeg.specs.Read.{AskedRead, reading}
use Rattle.mpeg.proofs.Answers.{answers_53, answers_51, was_surveyed, lengths-room, are_laid, answers-frames}
use Rattle.mpeg.proofs.reader.read_back.Goals as goal

-- what the call was given
abbrev asked : List ℕ → List ℕ → List ℕ → AskedRead
asked packets output lengths = record { packets = packets; output = output; lengths = lengths }

pub returns-in_err-found : goal.returns-in_err-found
returns-in_err-found c =
    let refused = err_from_is_err_and c.from_residual.result c.from_residual.ensures.1 in
    let value = rw c.in_err-found.ensures.ok_part at c.in_err-found.ensures.value in
    let same : c.in_err-found.field-0.0 ≡ refusal.NoRunGivesIt = cc value in
    let lost : spoilt ≡ standing_of (reading c.args.packets.now) = ap told (sym c.in_err-found.ensures.ok_part) ∙ c.survey.ensures in
    rw (refused.1, refused.2, same) (answers_53 (asked c.args.packets.now c.args.output.now c.args.lengths.now) spoilt lost refl)

pub returns-then-output-found : goal.returns-then-output-found
returns-then-output-found c =
    let found : told (Some c.in_ok-found.found) ≡ standing_of (reading c.args.packets.now) =
    ap told (sym c.in_ok-found.ensures.ok_part) ∙ c.survey.ensures in
    answers_51 (asked c.args.packets.now c.args.output.now c.args.lengths.now) _ found refl c.if-output-found.true

pub write_frames-requires : goal.write_frames-requires
write_frames-requires c =
    let found : told (Some c.in_ok-found.found) ≡ standing_of (reading c.args.packets.now) =
    ap told (sym c.in_ok-found.ensures.ok_part) ∙ c.survey.ensures in
    was_surveyed (asked c.args.packets.now c.args.output.now c.args.lengths.now) _ found refl c.if-output-found.false

pub write_lengths-requires : goal.write_lengths-requires
write_lengths-requires c =
    let found : told (Some c.in_ok-found.found) ≡ standing_of (reading c.args.packets.now) =
    ap told (sym c.in_ok-found.ensures.ok_part) ∙ c.survey.ensures in (
      lengths-room (asked c.args.packets.now c.args.output.now c.args.lengths.now) _ found refl c.if-output-found.false,
      are_laid (asked c.args.packets.now c.args.output.now c.args.lengths.now) _ found refl c.if-output-found.false _
          c.write_frames.ensures,
    )

pub returns : goal.returns
returns c =
    let found : told (Some c.in_ok-found.found) ≡ standing_of (reading c.args.packets.now) =
    ap told (sym c.in_ok-found.ensures.ok_part) ∙ c.survey.ensures in
    answers-frames (asked c.args.packets.now c.args.output.now c.args.lengths.now) _ found refl c.if-output-found.false
    _ c.write_frames.ensures _ c.write_lengths.ensures
