-- `mpeg::reader::frames_in`: each way out of a turn is a law of proofs/Finding.antt.
use Rattle.std.proofs.Common.{[], refl, ap, ◌∙◌}
use Rattle.octets.proofs.Stretches.{sliced_rest}
use Rattle.ts.specs.Packet.{all_fill}
use Rattle.mpeg.specs.Inside.Standing.{front_of}
use Rattle.mpeg.proofs.Finding.{finding_begin, finding_end, finding_filled, finding_spoilt, finding_long, finding_open, finding_turn}
use Rattle.mpeg.proofs.reader.frames_in.Goals as goal

pub loop-from-init : goal.loop-from-init
loop-from-init c = finding_begin c.requires

pub returns-then-not-all_fill : goal.returns-then-not-all_fill
returns-then-not-all_fill c =
    finding_spoilt c.requires c.loop-from.invariant c.loop-from-test.true refl c.if-packed-from.true c.all_fill.result
    (c.all_fill.ensures ∙ ap all_fill (sliced_rest c.args.packed.now c.loop-from.from)) c.if-not-all_fill.true

pub returns-then-packed-from : goal.returns-then-packed-from
returns-then-packed-from c =
    finding_filled c.requires c.loop-from.invariant c.loop-from-test.true c.all_fill.result
    (c.all_fill.ensures ∙ ap all_fill (sliced_rest c.args.packed.now c.loop-from.from)) c.if-not-all_fill.false refl

pub returns-then-said-gt-LONGEST : goal.returns-then-said-gt-LONGEST
returns-then-said-gt-LONGEST c =
    finding_long c.requires c.loop-from.invariant c.loop-from-test.true c.if-packed-from.false
    (c.with_bytes-front.ensures.1 [] refl ∙ ap front_of (sliced_rest c.args.packed.now c.loop-from.from)) c.said_length-said.ensures refl
    c.if-said-gt-LONGEST.true

pub returns-then-front-said : goal.returns-then-front-said
returns-then-front-said c =
    finding_open c.requires c.loop-from.invariant c.loop-from-test.true c.if-packed-from.false
    (c.with_bytes-front.ensures.1 [] refl ∙ ap front_of (sliced_rest c.args.packed.now c.loop-from.from)) c.said_length-said.ensures
    c.if-front-said.true c.if-said-gt-LONGEST.false

pub loop-from-preserved : goal.loop-from-preserved
loop-from-preserved c =
    finding_turn c.requires c.loop-from.invariant c.loop-from-test.true c.if-packed-from.false
    (c.with_bytes-front.ensures.1 [] refl ∙ ap front_of (sliced_rest c.args.packed.now c.loop-from.from)) c.said_length-said.ensures
    c.if-front-said.false c.if-said-gt-LONGEST.false

pub returns : goal.returns
returns c = finding_end c.loop-from.invariant c.loop-from-test.false refl
