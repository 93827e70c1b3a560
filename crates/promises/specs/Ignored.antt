-- What nobody reads (document 01, "Packet layout": X and the reserved bits are ignored). Two packets that differ in such bits alone
-- (`SameRead`, crate packet) are one packet for every call: for the data call, whatever the table and the slices; for the check, by the
-- kind that it is asked for; and where a segment is asked for. Only where it is read as PSP is the count of segments asked to be the same.
use Rattle.std.specs.Prelude.{ℕ, ◌≡◌, true, false, eqb}
use Rattle.packet.specs.Header.{Packet}
use Rattle.packet.specs.Ignored.{SameRead, SameCount}
use Rattle.packet.specs.Check.{kind_psp, check, segment_cause, segment_extent, segment_given}
use Rattle.table.specs.declared.Table.{Table}
use Rattle.table.specs.Rows.{is_dmpt, terms_at}
use Rattle.join.specs.Slices.{Slices}
use Rattle.card.specs.Receive.{row_of, received}

pub record OnePacket (p p' : Packet) : Type 0 where
  pub received_alike : (t : Table) (s : Slices) → (is_dmpt (terms_at t (row_of t p)).kind ≡ false → SameCount p p') →
      received t p s ≡ received t p' s
  pub checked_alike : (kind : ℕ) → (eqb kind kind_psp ≡ true → SameCount p p') → check kind p ≡ check kind p'
  pub causes_alike : (kind k : ℕ) → SameCount p p' → segment_cause kind p k ≡ segment_cause kind p' k
  pub places_alike : (kind k : ℕ) → SameCount p p' → segment_extent kind p k ≡ segment_extent kind p' k
  pub segments_alike : (kind k : ℕ) → SameCount p p' → segment_given kind p k ≡ segment_given kind p' k

-- `ignored_bits`
abbrev pub IgnoredBits : Type 0
IgnoredBits = (p p' : Packet) → SameRead p p' → OnePacket p p'
