-- The fields of a packet's header, written.
use Prim.Native.Nat.{ℕ, ◌+◌, ◌/◌, ◌%◌, ◌≤◌}
use mathlib.Core.Path.{◌≡◌}
use mathlib.Core.Bool.{Bool}
use mathlib.Core.List.{List}
use lib.ListN.{length, set}
use Rattle.octets.specs.Stretch.{put}
use Rattle.octets.proofs.Stretches.{set-four-put}
use Rattle.ts.specs.Packet.{head_length, sync_byte, flagged, payload_only, counts, header}

-- the header's four bytes, stored one behind the other
pub header_stored : (d : List ℕ) (starts : Bool) (number count first : ℕ) → head_length ≤ length d → first ≡ flagged starts (number / 256) →
    set (set (set (set d 0 sync_byte) 1 first) 2 (number % 256)) 3 (payload_only + count % counts) ≡ put d 0 (header starts number count)
header_stored d starts number count first h e =
    rw e (set-four-put d sync_byte (flagged starts (number / 256)) (number % 256) (payload_only + count % counts) h)
