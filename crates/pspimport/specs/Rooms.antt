-- The rooms of pspimport.
use Rattle.std.specs.Prelude.{ℕ}

-- the most bytes of a pcap file that the program reads: 4 MiB
abbrev pub most_read : ℕ
most_read = 4194304

-- How many session IDs are kept: one more than a capture has entries, so that too many are seen to be too many (63).
abbrev pub most_sessions : ℕ
most_sessions = 1001
