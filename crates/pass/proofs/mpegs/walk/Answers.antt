use Rattle.std.proofs.Common.{◌≡◌, ℕ, ◌+◌, ◌-◌, ◌*◌, ◌<◌, List, take, drop, refl, ◌∙◌, arith, rules}
use Rattle.octets.proofs.Stretches.{sliced_part}
use Rattle.ts.specs.Packet.{mpeg_length}
use Rattle.packet.specs.Header.{header_length}
use Rattle.packet.specs.Dmpt.{mpeg_count, mpeg_at, mpegs}
use Rattle.packet.proofs.Passing.{mpeg_inside}
use Rattle.pass.specs.Pass.{dmpt_fate}
use Rattle.pass.proofs.Carrying.{carry_begin, carry_room, carry_fits, carry_turn, carry_within, carry_end}
use Rattle.pass.proofs.Loads.{mpeg_load, mpegs_fit, mpeg_length_lem}
use Rattle.pass.proofs.mpegs.walk.Goals as goal

-- an MPEG packet as the code has cut it out
cut : (sub : List ℕ) (k : ℕ) →
    (let from = header_length + mpeg_length * k in
    take (from + mpeg_length - from) (drop from sub) ≡ mpeg_at sub k)
unfolding mpeg_at
cut sub k =
    let from = header_length + mpeg_length * k in sliced_part sub from (from + mpeg_length) mpeg_length (omega arith)

pub loop-k-init : goal.loop-k-init
loop-k-init c =
    let a = c.args in
    record {
      same_slices = (refl, refl);
      carrying =
          carry_begin (mpeg_load a.sub.bytes.now) a.output.now.bytes.now a.output.now.lengths.now c.default-tally.result (search rules);
    }

pub pass_on-tally-requires-clause-room : goal.pass_on-tally-requires-clause-room
pass_on-tally-requires-clause-room c =
    let sub = c.args.sub.bytes.now in
    let fitting = mpegs_fit sub c.args.sub.whole_header c.requires.sub_bound.0 in
    carry_room (mpeg_load sub) fitting c.requires.room.0 c.requires.room.1 c.loop-k.invariant.carrying

pub pass_on-tally-requires-clause-fits : goal.pass_on-tally-requires-clause-fits
pass_on-tally-requires-clause-fits c =
    let sub = c.args.sub.bytes.now in
    let k = c.loop-k.k in
    let whole = c.args.sub.whole_header in
    let there : k < mpeg_count sub = omega (arith, c.mpeg_count-k-end.ensures) in
    rw (cut sub k, mpeg_length_lem sub k (mpeg_inside sub k whole there))
    (carry_fits (mpeg_load sub) (mpegs_fit sub whole c.requires.sub_bound.0) c.requires.room.0 c.requires.room.1
    c.loop-k.invariant.carrying there)

pub loop-k-preserved : goal.loop-k-preserved
loop-k-preserved c =
    let sub = c.args.sub.bytes.now in
    let fitting = mpegs_fit sub c.args.sub.whole_header c.requires.sub_bound.0 in
    let there : c.loop-k.k < mpeg_count sub = omega (arith, c.mpeg_count-k-end.ensures) in
    let i = c.loop-k.invariant in
    let passed = c.pass_on-tally.ensures in
    record {
      same_slices = (passed.same_slices.0 ∙ i.same_slices.0, passed.same_slices.1 ∙ i.same_slices.1);
      carrying =
          carry_turn (mpeg_load sub) fitting c.requires.room.0 c.requires.room.1 i.carrying there _ _ _
          (rw (c.pid_of-goes.ensures, cut sub c.loop-k.k) at passed.placed);
    }

pub returns-clause-placed : goal.returns-clause-placed
unfolding dmpt_fate mpegs
returns-clause-placed c =
    let sub = c.args.sub.bytes.now in
    let fitting = mpegs_fit sub c.args.sub.whole_header c.requires.sub_bound.0 in
    carry_end (mpeg_load sub) fitting c.requires.room.0 c.requires.room.1 c.loop-k.invariant.carrying
    (omega (arith, c.mpeg_count-k-end.ensures))

pub returns-clause-within : goal.returns-clause-within
returns-clause-within c =
    let sub = c.args.sub.bytes.now in
    let fitting = mpegs_fit sub c.args.sub.whole_header c.requires.sub_bound.0 in
    carry_within (mpeg_load sub) fitting c.requires.room.0 c.requires.room.1 c.loop-k.invariant.carrying
