-- What a packet has that frames travel in to the modulator (W3; DRFI, section 7): their PID, the pointer, and 0xFF where no frame's bytes
-- are. The packet itself is that of crate `ts`.
use Rattle.std.specs.Prelude.{ℕ, ◌-◌, List, ◌++◌, length, replicate}
use Rattle.ts.specs.Packet.{payload_length, fill_byte}

-- the PID that frames travel under
abbrev pub frames_pid : ℕ
frames_pid = 0x1FFE

-- The flag says: the first byte of the payload is a pointer, to where the frame that has begun ends and the next one may start. So much
-- room is left behind the pointer, in a packet that has one.
abbrev pub pointed_length : ℕ
pointed_length = payload_length - 1

-- n bytes: these, and behind them 0xFF
abbrev pub filled_to : ℕ → List ℕ → List ℕ
filled_to n bytes = bytes ++ replicate (n - length bytes) fill_byte
