-- A closed instance of reads-back: the paper's capture of 84 bytes, read and written again; and its entries, written and read. And the
-- statement, applied. It cites definitions alone, so that it can be held against wrong ones.
use Prim.Native.Nat.{ℕ, zero, suc}
use mathlib.Core.Path.{◌≡◌, refl, sym}
use mathlib.Core.Bool.{Bool, true, false, ◌&&◌, true≢false}
use mathlib.Core.List.{List, [], ◌∷◌, ◌++◌}
use native.Mathlib.Omega.{arith}
use lib.Dec.{ltb}
use borrow.Author.Tests.{ltb-true}
use Rattle.octets.specs.Bytes.{AllBytes}
use Rattle.octets.specs.Stretch.{part, joined}
use Rattle.octets.specs.Count.{any, sum_to, up_to}
use Rattle.capture.specs.File.{body_start, file_refusal, Entry, nth_entry, entries, file_of}
use Rattle.capture.specs.Write.{Writable}
use Rattle.promises.specs.Captures.{ReadsBack}
use Rattle.promises.specs.Marked.{A, B}

-- open PSP 0x101, A, B, B, close
abbrev session : List ℕ
session = 0x00 ∷ 0x00 ∷ 0x01 ∷ 0x01 ∷ []

abbrev contents : List ℕ
contents = 0x00 ∷ 0x05 ∷ 1 ∷ 0 ∷ 0 ∷ 4 ∷ 4 ∷ 0 ∷ 0 ∷ 20 ∷ 4 ∷ 0 ∷ 0 ∷ 17 ∷ 4 ∷ 0 ∷ 0 ∷ 17 ∷ 3 ∷ 0 ∷ 0 ∷ 4 ∷ []

abbrev file : List ℕ
file = contents ++ session ++ A ++ B ++ B ++ session

abbrev its_entries : List Entry
its_entries =
    record { kind = 1; body = session }
    ∷ record { kind = 4; body = A }
    ∷ record { kind = 4; body = B }
    ∷ record { kind = 4; body = B }
    ∷ record { kind = 3; body = session }
    ∷ []

reads_back_instance : (file_refusal file ≡ 0) × (entries file ≡ its_entries) × (file_of its_entries ≡ file)
unfolding part joined any sum_to up_to body_start file_refusal nth_entry entries file_of
reads_back_instance = (refl, refl, refl)

-- and a file with the kinds that it lacks: the session opened as D-MPT, and an empty packet over UDP
abbrev udp_file : List ℕ
udp_file = 0x00 ∷ 0x03 ∷ 2 ∷ 0 ∷ 0 ∷ 4 ∷ 5 ∷ 0 ∷ 0 ∷ 0 ∷ 4 ∷ 0 ∷ 0 ∷ 17 ∷ session ++ B

abbrev udp-entries : List Entry
udp-entries = record { kind = 2; body = session } ∷ record { kind = 5; body = [] } ∷ record { kind = 4; body = B } ∷ []

reads_back_udp : (file_refusal udp_file ≡ 0) × (entries udp_file ≡ udp-entries) × (file_of udp-entries ≡ udp_file)
unfolding part joined any sum_to up_to body_start file_refusal nth_entry entries file_of
reads_back_udp = (refl, refl, refl)

-- `reads_back`, applied: the first file, which is of bytes, and the entries of the second, which may be written
abbrev below_256 : List ℕ → Bool
below_256 [] = true
below_256 (b ∷ more) = ltb b 256 && below_256 more

both : (one other : Bool) → one && other ≡ true → (one ≡ true) × (other ≡ true)
both true other e = (refl, e)
both false other e = absurd (true≢false (sym e))

of_bytes : (bytes : List ℕ) → below_256 bytes ≡ true → AllBytes bytes
of_bytes [] below i = omega arith
of_bytes (b ∷ more) below zero = ltb-true b 256 (both (ltb b 256) (below_256 more) below).0
of_bytes (b ∷ more) below (suc i) = of_bytes more (both (ltb b 256) (below_256 more) below).1 i

file_passes : file_refusal file ≡ 0
unfolding any sum_to body_start file_refusal
file_passes = refl

may_be_written : Writable udp-entries
unfolding joined file_of
may_be_written =
    record {
      few = omega arith;
      short = omega arith;
      right = (
        record { its_kind = refl; its_length = refl },
        (record { its_kind = refl; its_length = refl }, (record { its_kind = refl; its_length = refl }, tt)),
      );
    }

abbrev pub ReadsBackHere : Type 0
ReadsBackHere = (file_of (entries file) ≡ file) × (file_refusal (file_of udp-entries) ≡ 0) × (entries (file_of udp-entries) ≡ udp-entries)

pub reads_back_applied : ReadsBack → ReadsBackHere
reads_back_applied theorem = (
  theorem.read_then_written file (of_bytes file refl) file_passes,
  theorem.written_passes udp-entries may_be_written,
  theorem.written_then_read udp-entries may_be_written,
)
