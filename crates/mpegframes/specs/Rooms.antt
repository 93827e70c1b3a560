-- The rooms of mpegframes. What it writes is specs/Back.antt's of crate outputs.
use Rattle.std.specs.Prelude.{ℕ, ◌+◌, ◌*◌}
use Rattle.frames.specs.Frames.{length_bytes}

-- the most bytes that the program reads; and room for what it writes: no more bytes than were read, and no more frames than bytes
abbrev pub most_read : ℕ
most_read = 65536

abbrev pub text_room : ℕ
text_room = most_read + length_bytes * most_read
