-- `mpeg::reader::write_lengths`: each frame says its length (proofs/Lengths.antt).
use Rattle.std.proofs.Common.{◌+◌, ℕ, ap, ◌∙◌, arith}
use Rattle.mpeg.specs.Frame.{beside_field}
use Rattle.mpeg.proofs.Lengths.{tell_begin, field_inside, said-small, end_small, tell_turn}
use Rattle.mpeg.proofs.reader.write_lengths.Goals as goal

pub loop-k-init : goal.loop-k-init
loop-k-init c = tell_begin c.args.output.now c.args.lengths.now c.args.count

pub overflow_add-from : goal.overflow_add-from
overflow_add-from c = omega (arith, field_inside c.loop-k.invariant c.requires.0 c.requires.1 c.loop-k-test.true)

pub read_u16-requires : goal.read_u16-requires
read_u16-requires c = field_inside c.loop-k.invariant c.requires.0 c.requires.1 c.loop-k-test.true

pub overflow_add-said : goal.overflow_add-said
overflow_add-said c = omega (arith, c.read_u16.ensures, said-small c.loop-k.invariant c.requires.0 c.requires.1 c.loop-k-test.true)

pub overflow_add-from-in-loop-k : goal.overflow_add-from-in-loop-k
overflow_add-from-in-loop-k c =
    omega (
      arith,
      end_small c.loop-k.invariant c.requires.0 c.requires.1 c.loop-k-test.true _
          (c.from-from.ensures ∙ ap (λ (n : ℕ). n + beside_field) c.read_u16.ensures),
    )

pub loop-k-preserved : goal.loop-k-preserved
loop-k-preserved c =
    rw c.from-from.ensures
    (tell_turn c.loop-k.invariant c.requires.0 c.requires.1 c.loop-k-test.true _ (ap (λ (n : ℕ). n + beside_field) c.read_u16.ensures))
