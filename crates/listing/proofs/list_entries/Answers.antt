-- `listing::list_entries` is right since a line more is a longer listing, and the last line ends it (`Listings`).
use Rattle.std.proofs.Common.{◌<◌, arith}
use Rattle.capture.specs.File.{head_length, entry_count}
use Rattle.replay.proofs.Walking.{stands-first, head_inside}
use Rattle.listing.proofs.Listings.{listing-begin, line_room_lem, listing_turn, listing_end}
use Rattle.listing.proofs.list_entries.Goals as goal

pub entry_count-end-requires : goal.entry_count-end-requires
entry_count-end-requires c = head_inside _ c.requires.0.sound

pub loop-init : goal.loop-init
loop-init c =
    let begun = c.begin-walk.ensures in
    (begun.at_first, listing-begin (stands-first c.requires.0 begun) begun.at_first (omega arith))

pub list_entry-requires-clause-stands : goal.list_entry-requires-clause-stands
list_entry-requires-clause-stands c =
    (c.loop.invariant.1.stands, omega (arith, c.loop.invariant.0, c.loop-test.true, c.entry_count-end.ensures))

pub list_entry-requires-clause-line_room_in_bounds : goal.list_entry-requires-clause-line_room_in_bounds
list_entry-requires-clause-line_room_in_bounds c =
    let more : c.loop.walk.index < entry_count head_length c.args.file.now =
    omega (arith, c.loop.invariant.0, c.loop-test.true, c.entry_count-end.ensures) in
    line_room_lem c.loop.invariant.1 more (omega (arith, c.requires.1, c.write_heading.ensures.wrote.next_place))

pub loop-preserved : goal.loop-preserved
loop-preserved c =
    let more : c.loop.walk.index < entry_count head_length c.args.file.now =
    omega (arith, c.loop.invariant.0, c.loop-test.true, c.entry_count-end.ensures) in
    let did = c.list_entry.ensures in (
      omega (arith, c.loop.invariant.0, did.goes_on.one_on),
      listing_turn c.loop.invariant.1 more did.wrote did.same_room did.goes_on,
    )

pub returns-clause-wrote : goal.returns-clause-wrote
returns-clause-wrote c =
    listing_end c.loop.invariant.1 c.args.text.now c.write_heading.ensures.wrote
    (omega (arith, c.loop.invariant.0, c.loop-test.false, c.entry_count-end.ensures))
