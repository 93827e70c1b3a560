-- Captures from and to pcap files (document 02, W5). What is exported comes back as it was, and any reader finds it well formed; an import
-- invents nothing and leaves nothing uncounted; and a file's byte order is nothing.
use Rattle.std.specs.Prelude.{ℕ, ◌+◌, ◌<◌, ◌≤◌, ◌≡◌, Bool, true, false, List, [], ◌++◌, map, length}
use Rattle.std.specs.Borrow.{Bor}
use Rattle.octets.specs.Stretch.{part, put}
use Rattle.octets.specs.Each.{Each}
use Rattle.octets.specs.Those.{those}
use Rattle.capture.specs.File.{Entry, opening, entries, file_of, file_refusal}
use Rattle.pcap.specs.declared.Addresses.{Addresses}
use Rattle.pcap.specs.File.{bad_header, records, last_place, pcap_of}
use Rattle.pcap.specs.WellFormed.{WellFormedFile}
use Rattle.pcap.specs.Import.{entries_of, Stretch, ImportOutcome, imported}
use Rattle.pcap.specs.Export.{is_data, ExportOutcome, exported}
use Rattle.pcap.specs.Reader.{opened, handed_out}

-- an Ethernet address has six bytes
pub record Addressed (by : Addresses) : Type 0 where
  pub sender_whole : length by.sender ≡ 6
  pub receiver_whole : length by.receiver ≡ 6

-- the file that an export has written; the capture that an import has written; and the data entries of a capture
abbrev pub pcap_in : ExportOutcome → List ℕ
pcap_in o = part o.output 0 o.answer.length

abbrev pub capture_in : ImportOutcome → List ℕ
capture_in o = part o.output 0 o.answer.length

abbrev pub data_in : List ℕ → List Entry
data_in capture = those is_data (entries capture)

-- `pcap_comes_back`: whatever is exported, and then imported into an output that is long enough, is a capture of the data entries, kinds
-- and bytes, in their order; nothing was skipped, and behind it the output is as it was.
abbrev pub PcapComesBack : Type 0
PcapComesBack =
    (by : Addresses) (capture output room : List ℕ) → Addressed by → (exported by capture output).answer.code ≡ 0 →
    length (file_of (data_in capture)) ≤ length room →
    imported [] (pcap_in (exported by capture output)) room
    ≡ record {
      answer = record {
        code = 0;
        length = length (file_of (data_in capture));
        packets = length (data_in capture);
        foreign = 0;
        misfits = 0;
        fragments = 0;
        others = 0;
      };
      output = put room 0 (file_of (data_in capture));
    }

-- `export_well_formed`: an export is a file that any reader finds well formed, with as many packets as the capture has data entries.
abbrev pub ExportWellFormed : Type 0
ExportWellFormed =
    (by : Addresses) (capture output : List ℕ) → Addressed by → (exported by capture output).answer.code ≡ 0 →
    WellFormedFile (pcap_in (exported by capture output)) (length (data_in capture))

-- `import_never_invents`: what an import writes is a sound capture of the opens that were named and then of data, and the body of each data
-- entry is a stretch of the file.
pub record NothingInvented (sessions file : List ℕ) (o : ImportOutcome) : Type 0 where
  pub sound : file_refusal (capture_in o) ≡ 0
  pub its_entries : entries (capture_in o) ≡ map opening sessions ++ entries_of (records file)
  pub are_data : Each (λ e. is_data e ≡ true) (entries_of (records file))
  pub from_the_file : Each (Stretch file) (entries_of (records file))

abbrev pub ImportNeverInvents : Type 0
ImportNeverInvents =
    (sessions file output : List ℕ) → (imported sessions file output).answer.code ≡ 0 →
    NothingInvented sessions file (imported sessions file output)

-- `import_adds_up`: each record has become an entry or is counted under one cause.
abbrev pub ImportAddsUp : Type 0
ImportAddsUp =
    (sessions file output : List ℕ) → (imported sessions file output).answer.code ≡ 0 →
    let a = (imported sessions file output).answer in
    a.packets + a.foreign + a.misfits + a.fragments + a.others ≡ length (records file)

-- `either_order`: packets that a record's length can tell, written as a pcap file in either byte order, are the records of that file; so
-- the order makes no difference to an import.
pub record EitherOrder : Type 0 where
  pub reads_back : (little : Bool) (packets : List (List ℕ)) → Each (λ p. length p < 4294967296) packets →
      (bad_header (pcap_of little packets) ≡ false) × (records (pcap_of little packets) ≡ packets)
      × (last_place (pcap_of little packets) ≡ length (pcap_of little packets))
  pub imports_alike : (packets : List (List ℕ)) → Each (λ p. length p < 4294967296) packets → (sessions output : List ℕ) →
      imported sessions (pcap_of true packets) output ≡ imported sessions (pcap_of false packets) output

-- `reader_hands_out`: a walk over a file hands out its records, all of them and in order.
abbrev pub ReaderHandsOut : Type 0
ReaderHandsOut = (file : Bor (List ℕ)) → handed_out (length file.now) (opened file) ≡ records file.now
