-- A DOCSIS frame as W3 lets it travel: it says its own length, so that a reader finds its end, and its first byte is not 0xFF, so that a
-- reader tells it from what a packet is filled up with.
use Rattle.std.specs.Prelude.{ℕ, ◌+◌, ◌≡◌, Bool, true, not, ◌&&◌, List, eqb, ltb, leb, length}
use Rattle.octets.specs.Bytes.{byte_at, be16_at, AllBytes}
use Rattle.flow.specs.Flow.{longest}
use Rattle.ts.specs.Packet.{fill_byte}

-- where a frame says its length, and how much longer it is than it says there: by its header
abbrev pub field_at : ℕ
field_at = 2

abbrev pub beside_field : ℕ
beside_field = 6

-- The length that a frame says. Where only its front is there, bytes that are missing read as 0: then it is the least length that a frame
-- can have that begins with these bytes.
abbrev pub said_length : List ℕ → ℕ
said_length bytes = be16_at bytes field_at + beside_field

abbrev pub starts_well : List ℕ → Bool
starts_well bytes = not (eqb (byte_at bytes 0) fill_byte)

-- the frame may be written: at most 2,048 bytes, as many as it says, and the first is not 0xFF
unfoldable pub good : List ℕ → Bool
good frame = leb (length frame) longest && (eqb (said_length frame) (length frame) && starts_well frame)

-- some frame that may be written begins with these bytes and has more
unfoldable pub may_begin : List ℕ → Bool
may_begin bytes = ltb (length bytes) (said_length bytes) && (leb (said_length bytes) longest && starts_well bytes)

-- a frame of bytes that may be written
abbrev pub Good : List ℕ → Type 0
Good frame = (good frame ≡ true) × AllBytes frame
