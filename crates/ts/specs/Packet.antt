-- The MPEG transport packet (ISO/IEC 13818-1, section 2.4.3.2), as D-MPT carries it (DEPI I05, section 8.2) and as the modulator takes it
-- (DRFI, section 7): 188 bytes, of which the first four are a header, and behind it the payload.
--
--    0                   1                   2                   3
--    0 1 2 3 4 5 6 7 8 9 0 1 2 3 4 5 6 7 8 9 0 1 2 3 4 5 6 7 8 9 0 1
--   +-+-+-+-+-+-+-+-+-+-+-+-+-+-+-+-+-+-+-+-+-+-+-+-+-+-+-+-+-+-+-+-+
--   |     0x47      |E|S|P|           PID           | c | a | count |   then the payload, of 184 bytes
--   +-+-+-+-+-+-+-+-+-+-+-+-+-+-+-+-+-+-+-+-+-+-+-+-+-+-+-+-+-+-+-+-+
--
-- Each byte is drawn from its top bit on. S, the payload-start flag, says that something starts in the payload. E (an error on the way) and
-- P (priority) are written as 0. c is 00, not scrambled, and a is 01, payload and nothing else, so that 0x10 stands beside the count, which
-- goes round from 0 to 15.
use Rattle.std.specs.Prelude.{ℕ, ◌+◌, ◌-◌, ◌*◌, ◌/◌, ◌%◌, ◌≡◌, Bool, true, false, cond, ◌&&◌, List, [], ◌∷◌, ◌++◌, eqb, replicate}
use Rattle.octets.specs.Bytes.{byte_at}

-- the packet, its header, and what is left behind it
abbrev pub mpeg_length : ℕ
mpeg_length = 188

abbrev pub head_length : ℕ
head_length = 4

abbrev pub payload_length : ℕ
payload_length = mpeg_length - head_length

-- byte 0
abbrev pub sync_byte : ℕ
sync_byte = 0x47

-- The payload-start flag, and byte 1 with it, or without.
abbrev pub start_flag : ℕ
start_flag = 0x40

abbrev pub flagged : Bool → ℕ → ℕ
flagged starts byte = cond starts (start_flag + byte) byte

-- the PID of a packet; how many there are, and that of a packet that carries nothing
abbrev pub pids : ℕ
pids = 8192

abbrev pub pid : List ℕ → ℕ
pid packet = byte_at packet 1 % 32 * 256 + byte_at packet 2

abbrev pub null_pid : ℕ
null_pid = 0x1FFF

-- what stands beside the count
abbrev pub payload_only : ℕ
payload_only = 0x10

-- the count of a packet; how many there are, and the next one
abbrev pub counts : ℕ
counts = 16

abbrev pub count_of : List ℕ → ℕ
count_of packet = byte_at packet 3 % counts

abbrev pub next_count : ℕ → ℕ
next_count count = (count % counts + 1) % counts

-- the header of a packet with this flag, PID and count
abbrev pub header : Bool → ℕ → ℕ → List ℕ
header starts pid count = sync_byte ∷ flagged starts (pid / 256) ∷ (pid % 256) ∷ (payload_only + count % counts) ∷ []

-- what a payload has where nothing else is to be sent; every byte is that
abbrev pub fill_byte : ℕ
fill_byte = 0xFF

unfoldable pub all_fill : List ℕ → Bool
all_fill [] = true
all_fill (x ∷ xs) = eqb x fill_byte && all_fill xs

-- the packet that carries nothing: PID 0x1FFF, no flag, 0x10, and nothing but 0xFF
unfoldable pub null_packet : List ℕ
null_packet = header false null_pid 0 ++ replicate payload_length fill_byte

-- What the call for it permits, whole.
abbrev pub PermitsNullPacket : List ℕ → Type 0
PermitsNullPacket answer = answer ≡ null_packet
