-- `mpeg::reader::without_flag`: each way out is a law of proofs/OnePacket.antt.
use Rattle.std.proofs.Common.{List, ℕ, ◌++◌, refl, ap, ◌∙◌}
use Rattle.octets.proofs.Stretches.{sliced_rest}
use Rattle.ts.specs.Packet.{head_length}
use Rattle.mpeg.specs.Inside.Standing.{Told, front_of}
use Rattle.mpeg.proofs.OnePacket.{flagless_none, flagless_spoilt, flagless_ended, flagless_more}
use Rattle.mpeg.proofs.reader.without_flag.Goals as goal

pub returns-then-standing-eq0 : goal.returns-then-standing-eq0
returns-then-standing-eq0 c = λ s may is. flagless_none _ s is c.if-standing-eq0.true refl

pub returns-then-said-front : goal.returns-then-said-front
returns-then-said-front c = λ s may is.
    flagless_spoilt c.args.packet.now s may is c.if-standing-eq0.false
    (c.with_bytes-front.ensures.1 s.begun (ap (λ (st : Told). st.begun) is)
    ∙ ap (λ (l : List ℕ). front_of (s.begun ++ l)) (sliced_rest c.args.packet.now head_length))
    c.said_length-said.ensures c.if-said-front.true refl

pub returns-then-said-front-2 : goal.returns-then-said-front-2
returns-then-said-front-2 c = λ s may is.
    flagless_ended c.args.packet.now s may is c.if-standing-eq0.false
    (c.with_bytes-front.ensures.1 s.begun (ap (λ (st : Told). st.begun) is)
    ∙ ap (λ (l : List ℕ). front_of (s.begun ++ l)) (sliced_rest c.args.packet.now head_length))
    c.said_length-said.ensures c.if-said-front.false (rw c.count.ensures at c.next_count-expected.ensures) c.if-said-front-2.true refl

pub returns : goal.returns
returns c = λ s may is.
    flagless_more c.args.packet.now s may is c.if-standing-eq0.false
    (c.with_bytes-front.ensures.1 s.begun (ap (λ (st : Told). st.begun) is)
    ∙ ap (λ (l : List ℕ). front_of (s.begun ++ l)) (sliced_rest c.args.packet.now head_length))
    c.said_length-said.ensures c.if-said-front.false (rw c.count.ensures at c.next_count-expected.ensures) c.if-said-front-2.false
