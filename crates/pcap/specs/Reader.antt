-- The reader: a walk over the caller's file that hands out each record's bytes without copying them (document 02, W5). A slice that is
-- handed out is a reference: `ptr` says where it stands in memory, the block and the place in it, and `now` the bytes there. So a copy, or
-- equal bytes from elsewhere in the file, will not do.
use Rattle.std.specs.Prelude.{ℕ, zero, suc, ◌+◌, ◌≡◌, Bool, true, false, cond, List, [], ◌∷◌, Option, Some, None}
use Rattle.std.specs.Borrow.{Bor}
use Rattle.pcap.specs.File.{is_little, whole, start, after, first_place, bytes_at}
use Rattle.pcap.specs.declared.reader.Reader.{Reader}

pub record PermitsBytes (file : Bor (List ℕ)) (at : ℕ) (little : Bool) (answer : Bor (List ℕ)) : Type 0 where
  pub in_the_file : answer.ref_ptr.0 ≡ file.ref_ptr.0
  pub at_its_place : answer.ref_ptr.1 ≡ file.ref_ptr.1 + start file.now at little
  pub its_bytes : answer.now ≡ bytes_at file.now at little

-- the record at a place, where a whole one stands there
abbrev pub PermitsRecord : Bor (List ℕ) → ℕ → Bool → Option (Bor (List ℕ)) → Type 0
PermitsRecord file at little (Some bytes) = (whole file.now at little ≡ true) × PermitsBytes file at little bytes
PermitsRecord file at little None = whole file.now at little ≡ false

-- a walk at the first record of a file, of which the walk holds that very reference
abbrev pub opened : Bor (List ℕ) → Reader
opened f = record { file = f; at = first_place f.now; little = is_little f.now }

-- the walk at the next record: the same reference, and the next place
abbrev pub moved : Reader → Reader
moved r = record { file = r.file; at = after r.file.now r.at r.little; little = r.little }

-- the bytes that a walk hands out from where it is, n records at most: what a caller sees who asks for more, takes the bytes and moves on
unfoldable pub handed_out : ℕ → Reader → List (List ℕ)
handed_out zero r = []
handed_out (suc n) r =
    cond (whole r.file.now r.at r.little) (bytes_at r.file.now r.at r.little ∷ handed_out n (moved r)) []
