-- `card::place_packet` is right since each kind of packet has its own walk: D-MPT, PSP without a number, PSP with one. A D-MPT flow holds
-- nothing; and what is held on a PSP flow is, for its walk without a number, any bytes, as many as these.
use Rattle.std.proofs.Common.{◌≡◌, false, true, ap, sym, ◌∙◌, arith}
use Rattle.octets.specs.Stretch.{part}
use Rattle.octets.proofs.Stretches.{length_part}
use Rattle.packet.specs.Header.{s_set}
use Rattle.packet.specs.Segments.{segments}
use Rattle.packet.specs.Dmpt.{mpegs}
use Rattle.table.specs.Rows.{is_dmpt}
use Rattle.pass.proofs.Carrying.{unnumbered_holds_none, dmpt_holds_none, placed_anywhere}
use Rattle.card.specs.Hear.{width_in}
use Rattle.card.proofs.ByKind.{fate_dmpt, fate-unnumbered}
use Rattle.card.proofs.place_packet.Goals as goal

pub returns-in-Dmpt-clause-placed : goal.returns-in-Dmpt-clause-placed
returns-in-Dmpt-clause-placed c =
    let a = c.args in
    let taken : is_dmpt a.terms.kind ≡ true = ap is_dmpt c.in-Dmpt.is in
    rw (fate_dmpt a.terms a.gap a.place a.held a.holding.now a.sub.bytes.now taken (c.requires.hearable.bare taken))
    (placed_anywhere c.walk.ensures.placed (dmpt_holds_none _ (mpegs a.sub.bytes.now)) a.holding.now a.place)

pub returns-then-not-numbered-clause-placed : goal.returns-then-not-numbered-clause-placed
returns-then-not-numbered-clause-placed c =
    let a = c.args in
    let not-dmpt : is_dmpt a.terms.kind ≡ false = ap is_dmpt c.in-Psp.is in
    let clear : s_set a.sub.bytes.now ≡ false = sym c.s_set-numbered.ensures ∙ c.if-not-numbered.true in
    let held = part a.holding.now a.place a.held in
    let few = length_part a.holding.now a.place a.held (omega arith) in
    let none = unnumbered_holds_none a.terms.longest held (segments (width_in a.terms.kind) a.sub.bytes.now) in
    rw (fate-unnumbered a.terms a.gap held a.sub.bytes.now not-dmpt clear)
    (placed_anywhere (c.walk-then-not-numbered.ensures.by_index held few) none a.holding.now a.place)
