-- `join::settle` is right since its two tests are those of `settled`, and each way out shows the fate that they lead to.
use Rattle.std.proofs.Common.{◌≡◌, ℕ, ◌+◌, ◌≤◌, List, ◌++◌, length, refl, ◌∙◌, arith, length-append}
use Rattle.octets.specs.Stretch.{part, put}
use Rattle.octets.proofs.Stretches.{length_part, part_all, put_more, put_behind, set-put}
use Rattle.join.specs.Slices.{with_output}
use Rattle.join.proofs.Placing.{placed_dropping, placed_delivering, placed_keeping, settled_long, settled-whole, settled_open}
use Rattle.join.proofs.settle.Goals as goal

-- what is held and the segment's bytes are so long together
joined_length : (holding body : List ℕ) (place held : ℕ) → place + held ≤ length holding →
    length (part holding place held ++ body) ≡ held + length body
joined_length holding body place held inside =
    omega (arith, length-append (part holding place held) body, length_part holding place held inside)

-- what is held and then the segment's bytes, copied one behind the other, are one stretch
two-copies : {once twice : List ℕ} (out held body : List ℕ) (at n : ℕ) → length held ≡ n → at + n ≤ length out → once ≡ put out at held →
    twice ≡ put once (at + n) (part body 0 (length body)) → twice ≡ put out at (held ++ body)
two-copies out held body at n m room first second =
    put_more out at held body (at + n) (rw m room) first (rw m refl) (rw (part_all body) at second)

pub returns-then-too_long-clause-placed : goal.returns-then-too_long-clause-placed
returns-then-too_long-clause-placed c =
    let a = c.args in
    let joined = part a.holding.now a.place a.tally.held ++ a.body.now in
    let n = joined_length a.holding.now a.body.now a.place a.tally.held (omega arith) in
    rw (settled_long a.most a.ends joined (omega arith), c.dropping.ensures)
    (placed_dropping a.place a.tally (with_output a.holding.now a.output.now) joined _ refl refl refl (omega arith))

pub returns-then-ends-clause-placed : goal.returns-then-ends-clause-placed
returns-then-ends-clause-placed c =
    let a = c.args in
    let held = part a.holding.now a.place a.tally.held in
    let joined = held ++ a.body.now in
    let m = length_part a.holding.now a.place a.tally.held (omega arith) in
    let n = joined_length a.holding.now a.body.now a.place a.tally.held (omega arith) in
    rw (settled-whole a.most a.ends joined (omega arith) c.if-ends.true, c.delivering.ensures)
    (placed_delivering a.place a.tally (with_output a.holding.now a.output.now) joined _ _ refl
    (two-copies a.output.now.bytes.now held a.body.now a.tally.bytes a.tally.held m (omega arith)
    c.copy.ensures c.copy-then-ends.ensures)
    (rw n (set-put a.output.now.lengths.now a.tally.frames (a.tally.held + length a.body.now) (omega arith)))
    refl refl (omega arith) refl)

pub returns-clause-placed : goal.returns-clause-placed
returns-clause-placed c =
    let a = c.args in
    let joined = part a.holding.now a.place a.tally.held ++ a.body.now in
    let n = joined_length a.holding.now a.body.now a.place a.tally.held (omega arith) in
    let copied = rw (part_all a.body.now) at c.copy-2.ensures in
    rw (settled_open a.most a.ends joined (omega arith) c.if-ends.false)
    (placed_keeping a.place a.tally (with_output a.holding.now a.output.now) joined _ _
    (copied ∙ put_behind a.holding.now a.place a.tally.held a.body.now (omega arith))
    refl refl (omega arith) refl refl refl)
