-- Inside: what functions promise each other on the way to a result. Nobody has to believe this file: the result is said without it.
-- Here: the front of a frame with more bytes behind it, a header, and the frames that a packet has from a frame's start on, in the numbers
-- that the reader keeps (specs/Inside/Standing.antt).
use Rattle.std.specs.Prelude.{ℕ, ◌+◌, ◌^◌, ◌<◌, ◌≤◌, ◌≡◌, Bool, true, cond, ◌&&◌, List, [], ◌∷◌, ◌++◌, length}
use Rattle.octets.specs.Bytes.{byte_at}
use Rattle.octets.specs.Stretch.{part, joined}
use Rattle.octets.specs.Tests.{same}
use Rattle.ts.specs.Packet.{head_length, sync_byte, payload_only, count_of}
use Rattle.mpeg.specs.declared.reader.Front.{Front}
use Rattle.mpeg.specs.declared.reader.Standing.{Standing}
use Rattle.mpeg.specs.Packet.{pointed_length}
use Rattle.mpeg.specs.Read.{Found, count_fits}
use Rattle.mpeg.specs.Inside.Standing.{front_of, Told, spoilt}

-- Byte `place` of a frame with these bytes more, whichever `size` bytes it has before them: `known` is that byte where it is among those.
abbrev pub ByteOf : List ℕ → ℕ → ℕ → ℕ → ℕ → Type 0
ByteOf more size place known byte =
    (begun : List ℕ) → size ≡ length begun → known ≡ byte_at begun place → byte ≡ byte_at (begun ++ more) place

-- the front with these bytes more, whichever bytes it is the front of
abbrev pub FrontWith : List ℕ → Front → Front → Type 0
FrontWith more before behind = (begun : List ℕ) → before ≡ front_of begun → behind ≡ front_of (begun ++ more)

-- a header with frames, whose second byte has the flag or has it not, and a count that fits
abbrev pub headed : ℕ → ℕ → List ℕ → Bool
headed second expected packet =
    same (part packet 0 head_length) (sync_byte ∷ second ∷ 0xFE ∷ (payload_only + count_of packet) ∷ []) && count_fits expected packet

-- where it stands behind a packet in which it found this, with so many frames and bytes found before
unfoldable pub standing_with : ℕ → ℕ → ℕ → Found → Told
standing_with expected frames bytes f =
    cond f.well
    (record {
      sound = true;
      expected = expected;
      begun = front_of f.open_end;
      frames = frames + length f.whole;
      bytes = bytes + length (joined f.whole);
    })
    spoilt

-- these bytes end a packet, and frames start with them; so little has been found that no count of it wraps with theirs
pub record Starts (packed : List ℕ) (standing : Standing) : Type 0 where
  pub short : length packed ≤ pointed_length
  pub few_bytes : standing.bytes + length packed < 2 ^ 64
  pub few-frames : standing.frames ≤ standing.bytes
