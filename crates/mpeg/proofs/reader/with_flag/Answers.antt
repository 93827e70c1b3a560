-- `mpeg::reader::with_flag`: each way out is a law of proofs/OnePacket.antt.
use Rattle.std.proofs.Common.{List, ℕ, ◌++◌, ◌+◌, refl, ap, ◌∙◌, arith}
use Rattle.octets.proofs.Stretches.{sliced_rest, sliced_part}
use Rattle.ts.specs.Packet.{head_length, all_fill}
use Rattle.mpeg.specs.Packet.{pointed_length}
use Rattle.mpeg.specs.Read.{found}
use Rattle.mpeg.specs.Inside.Standing.{Told, front_of}
use Rattle.mpeg.specs.Inside.Fronts.{standing_with}
use Rattle.mpeg.proofs.OnePacket.{flag_outside, flag_none-spoilt, flag_none-found, flag_some-spoilt, flag_some-found}
use Rattle.mpeg.proofs.reader.with_flag.Goals as goal

pub returns-then-pointer-gt-POINTED_LENGTH : goal.returns-then-pointer-gt-POINTED_LENGTH
returns-then-pointer-gt-POINTED_LENGTH c = λ s may is.
    flag_outside c.args.packet.now c.from-pointer.ensures s c.if-pointer-gt-POINTED_LENGTH.true refl

pub returns-then-pointer-all_fill : goal.returns-then-pointer-all_fill
returns-then-pointer-all_fill c = λ s may is.
    flag_none-spoilt c.args.packet.now c.from-pointer.ensures c.if-pointer-gt-POINTED_LENGTH.false s is
    (rw c.count.ensures at c.next_count-expected.ensures) c.if-standing-eq0.true
    (c.all_fill.ensures ∙ ap all_fill (sliced_rest c.args.packet.now (head_length + 1))) c.if-pointer-all_fill.true refl

pub returns-then-standing-eq0 : goal.returns-then-standing-eq0
returns-then-standing-eq0 c = λ s may is.
    flag_none-found c.args.packet.now c.from-pointer.ensures c.if-pointer-gt-POINTED_LENGTH.false s is
    (rw c.count.ensures at c.next_count-expected.ensures) c.if-standing-eq0.true
    (c.all_fill.ensures ∙ ap all_fill (sliced_rest c.args.packet.now (head_length + 1))) c.if-pointer-all_fill.false
    (c.frames_in.ensures
    ∙ ap (λ (l : List ℕ). standing_with c.next_count-expected.result c.args.standing.frames c.args.standing.bytes (found pointed_length l))
    (sliced_rest c.args.packet.now (head_length + 1)))

pub returns-then-said-front : goal.returns-then-said-front
returns-then-said-front c = λ s may is.
    flag_some-spoilt c.args.packet.now c.from-pointer.ensures c.if-pointer-gt-POINTED_LENGTH.false s is
    (rw c.count.ensures at c.next_count-expected.ensures) may c.if-standing-eq0.false
    (c.with_bytes-front.ensures.1 s.begun (ap (λ (st : Told). st.begun) is)
    ∙ ap (λ (l : List ℕ). front_of (s.begun ++ l))
    (sliced_part c.args.packet.now (head_length + 1) (head_length + 1 + c.from-pointer.result) c.from-pointer.result (omega arith)))
    c.said_length-said.ensures c.if-said-front.true refl

pub returns : goal.returns
returns c = λ s may is.
    flag_some-found c.args.packet.now c.from-pointer.ensures c.if-pointer-gt-POINTED_LENGTH.false s is
    (rw c.count.ensures at c.next_count-expected.ensures) may c.if-standing-eq0.false
    (c.with_bytes-front.ensures.1 s.begun (ap (λ (st : Told). st.begun) is)
    ∙ ap (λ (l : List ℕ). front_of (s.begun ++ l))
    (sliced_part c.args.packet.now (head_length + 1) (head_length + 1 + c.from-pointer.result) c.from-pointer.result (omega arith)))
    c.said_length-said.ensures c.if-said-front.false
    (c.frames_in-2.ensures
    ∙ ap (λ (l : List ℕ). standing_with c.next_count-expected.result (c.args.standing.frames + 1)
    (c.args.standing.bytes + c.said_length-said.result) (found pointed_length l))
    (sliced_rest c.args.packet.now (head_length + 1 + c.from-pointer.result)))
