-- What no call passes: its frames, bytes and gap by the laws of the data call, and each frame's size by those of the join rule, since
-- the caller finds in the output the very frames that were delivered. A table of any shape will do: nothing here is read from it
-- afterwards.
use Prim.Native.Nat.{ℕ, zero, suc}
use mathlib.Core.Path.{◌≡◌, refl}
use mathlib.Core.List.{[]}
use native.Mathlib.Omega.{arith}
use lib.ListN.{length}
use Rattle.octets.specs.Each.{Each}
use Rattle.octets.specs.Stretch.{put, joined, lengths_of}
use Rattle.octets.proofs.Stretches.{cut-part-none, cut-put}
use Rattle.packet.specs.Header.{Packet, sub}
use Rattle.table.specs.declared.Table.{Table}
use Rattle.table.specs.Rows.{terms_at}
use Rattle.join.specs.Slices.{Slices}
use Rattle.card.specs.Hear.{hear, judged_of}
use Rattle.card.specs.Receive.{row_of, flow_of, held_by, heard_by, carried_out, refused, received, frames_found}
use Rattle.card.specs.History.{opens, closes, hands, lent_with, answer}
use Rattle.card.proofs.Taking.{large-enough}
use Rattle.card.proofs.Accepted.{accepted, received-accepted, received-refused}
use Rattle.card.proofs.Limits as card-limits
use Rattle.card.proofs.Step.{frames_in}
use Rattle.promises.specs.Limits.{WithinLimits}
use Rattle.promises.proofs.Sizes.{Sized, packet-sized}

-- The frames that the caller of the data call finds.
sized_by : (c : ℕ) (t : Table) (packet : Packet) (s : Slices) → (received t packet s).answer.code ≡ c →
    Each Sized (frames_in (received t packet s))
unfolding carried_out refused hear
sized_by zero t packet s e =
    let a = accepted t packet s e in
    let b = card-limits.accepted_bounded t packet s a in
    let r = row_of t packet in
    let after = sub packet in
    let frames = (heard_by t r after s).fate.delivered in
    let found : frames_found (length frames) (put s.lengths 0 (lengths_of frames)) (put s.output 0 (joined frames)) ≡ frames =
    cut-put frames s.lengths s.output (omega (arith, b.frames-few, (large-enough s a.large).lengths-enough)) in
    rw (received-accepted t packet s e, found)
    (packet-sized (terms_at t r) (judged_of (flow_of t r after) after).gap (held_by t r after s) after (omega arith) a.passed)
sized_by (suc c) t packet s e = rw (received-refused t packet s c e, cut-part-none s.lengths s.output) tt

pub found-sized : (t : Table) (packet : Packet) (s : Slices) → Each Sized (frames_in (received t packet s))
found-sized t packet s = sized_by (received t packet s).answer.code t packet s refl

-- Every call. An open and a close deliver nothing.
pub within_limits : WithinLimits
unfolding answer
within_limits c (opens q) =
    record { frames-few = omega arith; bytes-few = omega arith; gap-small = omega arith; frames-sized = rw (cut-part-none [] []) tt }
within_limits c (closes id) =
    record { frames-few = omega arith; bytes-few = omega arith; gap-small = omega arith; frames-sized = rw (cut-part-none [] []) tt }
within_limits c (hands a) =
    let l = card-limits.within_limits c.table a.packet (lent_with c a) in
    record {
      frames-few = l.most_frames_lem;
      bytes-few = l.most_bytes_lem;
      gap-small = l.most-gap;
      frames-sized = found-sized c.table a.packet (lent_with c a);
    }
