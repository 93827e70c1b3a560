-- The reader's smallest steps: one byte of a frame that comes in two stretches, its front, and a header. Each is a law over the packets and
-- a place in them.
use Prim.Native.Nat.{ℕ, ◌+◌, ◌*◌}
use mathlib.Core.Path.{◌≡◌, refl, sym, ap, ◌∙◌}
use mathlib.Core.Bool.{Bool, ◌&&◌, ◌||◌}
use mathlib.Core.List.{List, []}
use native.Mathlib.Omega.{arith}
use lib.Dec.{eqb}
use lib.ListN.{length}
use Rattle.octets.specs.Bytes.{byte_at}
use Rattle.octets.proofs.Stretches.{length-joined-none}
use Rattle.octets.proofs.Tests.{same-four}
use Rattle.ts.specs.Packet.{mpeg_length, sync_byte, payload_only, counts, count_of}
use Rattle.mpeg.specs.declared.reader.Front.{Front}
use Rattle.mpeg.specs.Frame.{beside_field, said_length}
use Rattle.mpeg.specs.Read.{count_fits}
use Rattle.mpeg.specs.Inside.Standing.{Told, front_of, standing_of}
use Rattle.mpeg.specs.Inside.Fronts.{headed}

-- A header, byte for byte.
pub headed_is : (packet : List ℕ) (second expected : ℕ) {count : ℕ} → length packet ≡ mpeg_length → count ≡ count_of packet →
    (eqb (byte_at packet 0) sync_byte && eqb (byte_at packet 1) second && eqb (byte_at packet 2) 0xFE
    && eqb (byte_at packet 3) (payload_only + count) && (eqb expected counts || eqb expected count))
    ≡ headed second expected packet
headed_is packet second expected {count} h e =
    let bytes = same-four packet sync_byte second 0xFE (payload_only + count_of packet) (omega arith) in
    sym (ap (λ (t : Bool). t && count_fits expected packet) bytes ∙ rw e refl)

-- where the reader stands with no frame begun and nothing found
pub none_found : (sound : Bool) (expected : ℕ) {front : Front} → front ≡ front_of [] →
    ◌≡◌ {A = Told} (record { sound = sound; expected = expected; begun = front; frames = 0; bytes = 0 })
    (standing_of (record { sound = sound; expected = expected; begun = []; frames = [] }))
none_found sound expected e = rw (e, length-joined-none) refl

-- the length that the code reads from a front is the one that the frame says
pub says_of : {front : Front} {said : ℕ} (bytes : List ℕ) → front ≡ front_of bytes → said ≡ front.high * 256 + front.low + beside_field →
    said ≡ said_length bytes
says_of bytes is says = says ∙ ap (λ (f : Front). f.high * 256 + f.low + beside_field) is
