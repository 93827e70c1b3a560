-- `frames::whole_at` is right since a frame stands whole where its length does and that many bytes do.
use Rattle.std.proofs.Common.{sym, ◌∙◌, arith}
use Rattle.octets.proofs.Numbers.{be16_rest}
use Rattle.frames.proofs.Unpacking.{stands-not, stands_cut, stands_all}
use Rattle.frames.proofs.whole_at.Goals as goal

pub returns-then-left-lt-LENGTH_BYTES : goal.returns-then-left-lt-LENGTH_BYTES
returns-then-left-lt-LENGTH_BYTES c = stands-not c.args.file.now c.args.at c.requires (omega (arith, c.if-left-lt-LENGTH_BYTES.true))

pub returns-then-left-from : goal.returns-then-left-from
returns-then-left-from c =
    stands_cut c.args.file.now c.args.at c.requires (omega (arith, c.if-left-lt-LENGTH_BYTES.false)) c.from.result
    (c.from.ensures ∙ c.read_u16-length.ensures) (omega (arith, c.if-left-from.true))

pub returns : goal.returns
returns c = (
  stands_all c.args.file.now c.args.at c.requires (omega (arith, c.if-left-lt-LENGTH_BYTES.false)) c.from.result
      (c.from.ensures ∙ c.read_u16-length.ensures) (omega (arith, c.if-left-from.false)),
  c.read_u16-length.ensures ∙ sym (be16_rest c.args.file.now c.args.at),
)
