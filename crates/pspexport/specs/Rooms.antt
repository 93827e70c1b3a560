-- The room of pspexport for what it writes. A capture has at most 60,000 bytes and 1,000 entries, and each of these becomes a record with
-- at most 58 bytes before its data, behind the 24 of the file's header. That is less.
use Rattle.std.specs.Prelude.{ℕ}

abbrev pub output_room : ℕ
output_room = 131072
