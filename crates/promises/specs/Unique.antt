-- How tight the contracts are (document 01, "How tight the promises are"): for each input there is one permitted answer and one permitted
-- content of table, places and outputs, refused calls included. `Permits..` are the very predicates that the contracts of the calls in the
-- code cite. That something is permitted says that no contract is empty; that any two permitted outcomes are equal, that none leaves its
-- outcome open.
use Rattle.std.specs.Prelude.{ℕ, ◌≡◌, Bool, List}
use Rattle.std.specs.Borrow.{Bor}
use Rattle.flow.specs.declared.Flow.{Flow}
use Rattle.flow.specs.Flow.{PermitsFresh, PermitsJudge}
use Rattle.ts.specs.declared.MpegPacket.{MpegPacket}
use Rattle.ts.specs.Packet.{PermitsNullPacket}
use Rattle.packet.specs.Check as packet
use Rattle.packet.specs.Header.{Packet, packet_by}
use Rattle.table.specs.declared.Request.{Request}
use Rattle.table.specs.declared.Table.{Table}
use Rattle.table.specs.Rows.{PermitsEmpty}
use Rattle.table.specs.Calls.{PermitsOpen, PermitsOpenByNumber, PermitsClose}
use Rattle.join.specs.Slices.{Slices}
use Rattle.card.specs.Receive.{PermitsReceive}
use Rattle.sender.specs.Send.{Asked, PermitsSend}
use Rattle.capture.specs.File as capture
use Rattle.pcap.specs.declared.Addresses.{Addresses}
use Rattle.pcap.specs.Import.{PermitsImport}
use Rattle.pcap.specs.Export.{PermitsExport}
use Rattle.pcap.specs.Reader.{PermitsBytes}

-- one outcome is permitted, where two outcomes count as one if they are the `same`
pub record OneOutcome {O : Type 0} (same : O → O → Type 0) (permits : O → Type 0) : Type 0 where
  pub outcome : O
  pub permitted : permits outcome
  pub only_one : (a b : O) → permits a → permits b → same a b

abbrev pub One : {O : Type 0} → (O → Type 0) → Type 0
One permits = OneOutcome (λ a b. a ≡ b) permits

-- A slice that is given back is the same where it points to the same place in memory, block and place in it, and has the same bytes. (Its
-- third part is the name under which the prover follows it; no program has it.)
abbrev pub SameSlice : Bor (List ℕ) → Bor (List ℕ) → Type 0
SameSlice a b = (a.ref_ptr.0 ≡ b.ref_ptr.0) × (a.ref_ptr.1 ≡ b.ref_ptr.1) × (a.now ≡ b.now)

-- `unique_open`, `unique_close`, `unique_receive`, `unique_send`
abbrev pub UniqueOpen : Type 0
UniqueOpen = ((t : Table) (q : Request) → One (PermitsOpen t q)) × ((t : Table) (id kind : ℕ) → One (PermitsOpenByNumber t id kind))

abbrev pub UniqueClose : Type 0
UniqueClose = (t : Table) (id : ℕ) → One (PermitsClose t id)

abbrev pub UniqueReceive : Type 0
UniqueReceive = (t : Table) (p : Packet) (s : Slices) → One (PermitsReceive t p s)

abbrev pub UniqueSend : Type 0
UniqueSend = (a : Asked) → One (PermitsSend a)

-- `unique_check`, and `unique_segment` with its cause, where it lies, and its copy into an output
abbrev pub UniqueCheck : Type 0
UniqueCheck = (kind : ℕ) (p : Packet) → One (packet.PermitsCheck kind p)

abbrev pub UniqueSegment : Type 0
UniqueSegment =
    (kind transport : ℕ) (slice : Bor (List ℕ)) (k : ℕ) →
    let p = packet_by transport slice.now in
    OneOutcome SameSlice (packet.PermitsSegment kind transport slice k)
    × One (packet.PermitsSegmentCause kind p k) × One (packet.PermitsSegmentExtent kind p k)
    × ((output : List ℕ) → One (packet.PermitsSegmentCopy kind p k output))

-- `unique_capture`: the check of a capture file, and an entry's body
abbrev pub UniqueCapture : Type 0
UniqueCapture =
    (file : Bor (List ℕ)) (index : ℕ) →
    One (capture.PermitsCheck file.now) × OneOutcome SameSlice (capture.PermitsBody file index)

-- `unique_flow`: the two calls on a flow's record, and the empty table
abbrev pub UniqueFlow : Type 0
UniqueFlow = One PermitsFresh × ((f : Flow) (number : ℕ) → One (PermitsJudge f number)) × One PermitsEmpty

-- `unique_null`: the null packet, as bytes and as the struct that crosses to C
abbrev pub UniqueNull : Type 0
UniqueNull = One PermitsNullPacket × One (λ (p : MpegPacket). PermitsNullPacket p.bytes)

-- `unique_pcap`: an import, an export, and the bytes of the record at a place
abbrev pub UniquePcap : Type 0
UniquePcap =
    ((sessions file output : List ℕ) → One (PermitsImport sessions file output))
    × ((by : Addresses) (file output : List ℕ) → One (PermitsExport by file output))
    × ((file : Bor (List ℕ)) (at : ℕ) (little : Bool) → OneOutcome SameSlice (PermitsBytes file at little))
