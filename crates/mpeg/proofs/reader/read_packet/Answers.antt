-- `mpeg::reader::read_packet`: each way out is a law of proofs/OnePacket.antt.
use Rattle.std.proofs.Common.{refl}
use Rattle.mpeg.proofs.OnePacket.{null_inside, null_between, data_without, data_with, data_other}
use Rattle.mpeg.proofs.reader.read_packet.Goals as goal

pub returns-then-standing-ne0 : goal.returns-then-standing-ne0
returns-then-standing-ne0 c = λ s may is. null_inside refl _ c.is_null.ensures s is c.if-is_null.true c.if-standing-ne0.true refl

pub returns-then-is_null : goal.returns-then-is_null
returns-then-is_null c = λ s may is. null_between refl _ c.is_null.ensures s is c.if-is_null.true c.if-standing-ne0.false

pub returns-then-has_header : goal.returns-then-has_header
returns-then-has_header c = λ s may is.
    data_without refl _ c.is_null.ensures s is c.if-is_null.false c.has_header.ensures c.if-has_header.true
    (c.without_flag.ensures s may is)

pub returns-then-has_header-2 : goal.returns-then-has_header-2
returns-then-has_header-2 c = λ s may is.
    data_with refl _ c.is_null.ensures s is c.if-is_null.false c.has_header.ensures c.if-has_header.false c.has_header-2.ensures
    c.if-has_header-2.true (c.with_flag.ensures s may is)

pub returns : goal.returns
returns c = λ s may is.
    data_other refl _ c.is_null.ensures s is c.if-is_null.false c.has_header.ensures c.if-has_header.false c.has_header-2.ensures
    c.if-has_header-2.false refl
