-- Capture files (document 01, "Capture file and listing"). A file that is not refused is the file of its entries: what is read from it,
-- written again, is the same file, byte for byte. And the other way round: entries of the kinds that there are, with bodies of the right
-- lengths, not too many and not too long, written and then read, are the same entries.
use Rattle.std.specs.Prelude.{ℕ, ◌≡◌, List}
use Rattle.octets.specs.Bytes.{AllBytes}
use Rattle.capture.specs.File.{Entry, file_refusal, entries, file_of}
use Rattle.capture.specs.Write.{Writable}

-- `reads_back`
pub record ReadsBack : Type 0 where
  pub read_then_written : (file : List ℕ) → AllBytes file → file_refusal file ≡ 0 → file_of (entries file) ≡ file
  pub written_passes : (es : List Entry) → Writable es → file_refusal (file_of es) ≡ 0
  pub written_then_read : (es : List Entry) → Writable es → entries (file_of es) ≡ es
