-- The MPEG packets of a D-MPT packet, read where they lie in it.
use Prim.Native.Nat.{ℕ, ◌+◌, ◌*◌, ◌<◌}
use mathlib.Core.Path.{◌≡◌, ap, ◌∙◌}
use mathlib.Core.List.{List}
use native.Mathlib.Omega.{arith}
use Rattle.octets.specs.Bytes.{byte_at}
use Rattle.octets.proofs.Stretches.{byte_part}
use Rattle.ts.specs.Packet.{mpeg_length}
use Rattle.packet.specs.Header.{header_length}
use Rattle.packet.specs.Dmpt.{mpeg_at}

-- byte i of MPEG packet k
pub mpeg_byte : (sub : List ℕ) (k i : ℕ) → i < mpeg_length → byte_at (mpeg_at sub k) i ≡ byte_at sub (header_length + mpeg_length * k + i)
unfolding mpeg_at
mpeg_byte sub k i h = byte_part sub (header_length + mpeg_length * k) mpeg_length i h

pub mpeg_first : (sub : List ℕ) (k : ℕ) → byte_at (mpeg_at sub k) 0 ≡ byte_at sub (header_length + mpeg_length * k)
mpeg_first sub k =
    mpeg_byte sub k 0 (omega arith)
    ∙ ap (byte_at sub) (let e : header_length + mpeg_length * k + 0 ≡ header_length + mpeg_length * k = omega arith in e)
