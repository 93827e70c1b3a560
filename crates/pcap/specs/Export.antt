-- The export (document 02, W5): the data entries of a capture become a pcap file, each in a packet of its own with Ethernet, IPv4 and, for
-- what came over UDP, UDP headers. The file is little-endian, with snap length 65,535 and time 0. Opens and closes are not exported but
-- counted. Refusals: 41 to 45 of the capture, then 64, the output is shorter than the file. An export that is refused changes nothing.
use Rattle.std.specs.Prelude.{ℕ, zero, suc, ◌+◌, ◌≡◌, Bool, true, cond, ◌||◌, List, [], ◌∷◌, ◌++◌, map, eqb, ltb, length, Result, Ok, Err}
use Rattle.refusal.specs.declared.Refusal.{Refusal as Why}
use Rattle.refusal.specs.Number.{number_of}
use Rattle.refusal.specs.Refusal.{Refusal, ◌when◌, first}
use Rattle.octets.specs.Stretch.{put}
use Rattle.octets.specs.Those.{those}
use Rattle.capture.specs.File.{head_length, entry_length, open_psp, open_dmpt, closing, data_entry, data_over_udp, Entry, entries}
use Rattle.capture.specs.File.{file_refusals}
use Rattle.pcap.specs.declared.Addresses.{Addresses}
use Rattle.pcap.specs.declared.export.Exported.{Exported}
use Rattle.pcap.specs.File.{pcap_of}
use Rattle.pcap.specs.Ethernet.{ethernet_header}
use Rattle.pcap.specs.Ipv4.{ipv4_length, l2tp_protocol, udp_protocol, ipv4_header}
use Rattle.pcap.specs.Udp.{udp_header}

-- Kinds of entries.
abbrev pub is_open : Entry → Bool
is_open e = eqb e.kind open_psp || eqb e.kind open_dmpt

abbrev pub is_close : Entry → Bool
is_close e = eqb e.kind closing

abbrev pub is_over_udp : Entry → Bool
is_over_udp e = eqb e.kind data_over_udp

abbrev pub is_data : Entry → Bool
is_data e = eqb e.kind data_entry || is_over_udp e

-- the packet of a data entry, as a record has it
abbrev pub behind_ipv4 : Entry → List ℕ
behind_ipv4 e = cond (is_over_udp e) (udp_header (length e.body)) [] ++ e.body

unfoldable pub packet_of : Addresses → Entry → List ℕ
packet_of by e =
    ethernet_header by
    ++ ipv4_header by (ipv4_length + length (behind_ipv4 e)) (cond (is_over_udp e) udp_protocol l2tp_protocol)
    ++ behind_ipv4 e

-- the file of a capture's entries
unfoldable pub export_of : Addresses → List Entry → List ℕ
export_of by es = pcap_of true (map (packet_of by) (those is_data es))

abbrev pub export_refusals : Addresses → List ℕ → ℕ → List Refusal
export_refusals by file room =
    file_refusals head_length entry_length file
    ++ (64 when ltb room (length (export_of by (entries file))) ∷ [])

-- What an export answers, in numbers: that of its refusal, or 0, and its counts, which are 0 where it is refused. And what a call's answer
-- tells of it.
pub record Answer : Type 0 where
  pub code : ℕ
  pub length : ℕ
  pub packets : ℕ
  pub opens : ℕ
  pub closes : ℕ

abbrev pub told : Result Exported Why → Answer
told (Ok e) = record { code = 0; length = e.length; packets = e.packets; opens = e.opens; closes = e.closes }
told (Err why) = record { code = number_of why; length = 0; packets = 0; opens = 0; closes = 0 }

-- everything that a call answers and leaves
pub record ExportOutcome : Type 0 where
  pub answer : Answer
  pub output : List ℕ

unfoldable pub exported_by : ℕ → Addresses → List ℕ → List ℕ → ExportOutcome
exported_by zero by file output =
    record {
      answer = record {
        code = 0;
        length = length (export_of by (entries file));
        packets = length (those is_data (entries file));
        opens = length (those is_open (entries file));
        closes = length (those is_close (entries file));
      };
      output = put output 0 (export_of by (entries file));
    }
exported_by (suc c) by file output =
    record { answer = record { code = suc c; length = 0; packets = 0; opens = 0; closes = 0 }; output = output }

unfoldable pub exported : Addresses → List ℕ → List ℕ → ExportOutcome
exported by file output = exported_by (first (export_refusals by file (length output))) by file output

-- What the call permits, whole: what it is given, and o what it answers, with the output when it returns.
abbrev pub PermitsExport : Addresses → List ℕ → List ℕ → ExportOutcome → Type 0
PermitsExport by file output o = o ≡ exported by file output
