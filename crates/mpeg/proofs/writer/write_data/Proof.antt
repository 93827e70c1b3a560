-- A walk, since with answers the wrong program no_pointer_at_183 was refused for the names of its goals alone.
-- `mpeg::writer::write_data` is right since the parts of the packet are put one behind the other, without a pointer (`unpointed_written`)
-- or with one (`pointed-written`).
use Prim.Native.Nat.{◌<◌}
use mathlib.Core.Path.{◌∙◌}
use native.Mathlib.Omega.{arith}
use lib.ListN.{length-set}
use Rattle.ts.specs.Packet.{payload_length}
use Rattle.mpeg.proofs.Packets.{unpointed_carries, unpointed_written, pointed-carries, pointed-written}
use borrow.Author.Rules.{rules}
use Rattle.mpeg.proofs.writer.write_data.Statement.{statement}
use Rattle.mpeg.proofs.writer.write_data.Tie as tie

-- The places: behind the header without the flag, where a pointer is written, and behind the header with the flag; and the way back from
-- each.
abbrev headed : tie.After-write_header → tie.Start
headed h = h.before.before.before.before.before

abbrev begin : tie.Else-left-ge-PAYLOAD_LENGTH → tie.Start
begin c = c.before.before.before

abbrev flagged : tie.After-write_header-2 → tie.Else-left-ge-PAYLOAD_LENGTH
flagged h = h.before.before

near : (c : tie.Else-left-ge-PAYLOAD_LENGTH) → (begin c).args.left < payload_length
near c = omega (arith, c.if-left-ge-PAYLOAD_LENGTH.false)

write-header-requires : tie.Need-write_header-requires
write-header-requires c κs = search rules

copy-long-requires : tie.Need-copy_long-requires
copy-long-requires c κs = search rules

same_length : tie.Need-shape_of-output-then-left-ge-PAYLOAD_LENGTH
same_length c = search rules

returns : tie.Need-returns-then-left-ge-PAYLOAD_LENGTH
returns c =
    let h = c.before.before.before.before.before.before in
    let s = headed h in
    let a = s.args in
    let far = h.if-left-ge-PAYLOAD_LENGTH.true in (
      unpointed_carries a.output.now a.frames.now a.place a.left a.count s.requires far,
      unpointed_written a.output.now a.frames.now a.place a.left a.count s.requires far _ _
          h.write_header.ensures c.copy_long.ensures,
    )

write-header-requires-2 : tie.Need-write_header-requires-2
write-header-requires-2 c κs = search rules

cast-output : tie.Need-overflow_cast-output
cast-output c = search rules

slice-write-output : tie.Need-bounds-output-4
slice-write-output c = search rules

write-pointed-requires : tie.Need-write_pointed-requires
write-pointed-requires c κs =
    let s = begin c.before.before.before.before.before in
    let long = c.write_header-2.auto.packet in
    (omega (arith, s.requires.something), simp length-set (omega (arith, long, s.requires.room)))

same-length-2 : tie.Need-shape_of-output
same-length-2 c =
    simp length-set at c.write_pointed.auto.output
    ∙ c.write_header-2.auto.packet

returns-2 : tie.Need-returns
returns-2 c =
    let h = c.before.before.before.before.before.before in
    let e = flagged h in
    let s = begin e in
    let a = s.args in
    let behind = c.write_pointed in (
      pointed-carries a.output.now a.frames.now a.place a.left a.count s.requires (near e) behind.result
          behind.ensures.0,
      pointed-written a.output.now a.frames.now a.place a.left a.count s.requires (near e) _ _
          h.write_header-2.ensures behind.ensures.1,
    )

pub write_data_spec : {M : Type 1} → statement M
write_data_spec =
    tie.close
    (tie.spec
    write-header-requires
    copy-long-requires
    same_length
    returns
    write-header-requires-2
    cast-output
    slice-write-output
    write-pointed-requires
    same-length-2
    returns-2)
