-- Captures from and to pcap files (W5). An export that is not refused stands at the front of its output, and its records are the packets of
-- the capture's data entries: so an import of it takes them all. What an import has written is the file of its entries, which may be
-- written, so that it is sound and has these entries; each has come from a record, and each record is counted.
use Prim.Native.Nat.{ℕ, zero, suc, ◌+◌, ◌≤◌, ◌<◌}
use mathlib.Core.Path.{◌≡◌, refl, sym, ap, subst, ◌∙◌}
use mathlib.Core.Bool.{Bool, true, false, cond}
use mathlib.Core.List.{List, [], ◌∷◌, map}
use native.Mathlib.Omega.{arith}
use lib.Dec.{ltb}
use lib.ListN.{length}
use borrow.Author.Tests.{le-ltb}
use Rattle.refusal.specs.Refusal.{first}
use Rattle.refusal.proofs.Laws.{none_first}
use Rattle.octets.specs.Stretch.{part, put}
use Rattle.octets.specs.Count.{up_to}
use Rattle.octets.specs.Each.{Each}
use Rattle.octets.specs.Those.{those}
use Rattle.octets.proofs.Elements.{each_both}
use Rattle.octets.proofs.Those.{those-few, joined-those-short}
use Rattle.octets.proofs.Counts.{length-up_to}
use Rattle.capture.specs.File.{head_length, longest_file, most_entries, Entry, body_of, entry_count, nth_entry, entries, opening, file_of}
use Rattle.capture.specs.File.{file_refusal}
use Rattle.capture.specs.Write.{Right, Writable}
use Rattle.capture.proofs.Checking.{is_sound}
use Rattle.capture.proofs.Writing.{file_length_lem}
use Rattle.capture.proofs.ReadsBack.{length_reads_back, bodies-short, written_reads, written-sound}
use Rattle.pcap.specs.declared.Addresses.{Addresses}
use Rattle.pcap.specs.File.{bad_header, records, last_place, pcap_of}
use Rattle.pcap.specs.Judge.{is_udp, data_at, data_length, entry_of}
use Rattle.pcap.specs.Import.{is_for, entries_of, skipped, all_entries, import_refusals, imported_by, imported}
use Rattle.pcap.specs.Export.{is_data, export_of}
use Rattle.pcap.specs.WellFormed.{WellFormedFile}
use Rattle.pcap.proofs.WellFormed.{export_formed}
use Rattle.pcap.proofs.Walk.{walk_hands_out}
use Rattle.pcap.proofs.ReadsBack.{header_reads_back, records_read_back, walk_ends}
use Rattle.pcap.proofs.ComesBack.{export_header, export_ends, export_comes_back, export_none-skipped}
use Rattle.pcap.proofs.Account.{adds_up, stretches}
use Rattle.pcap.proofs.Outcomes.{import_code, import_done, importable, import_at_front, export_code, exportable, export_at_front}
use Rattle.promises.specs.Pcap.{Addressed, capture_in, data_in, PcapComesBack, ExportWellFormed, NothingInvented}
use Rattle.promises.specs.Pcap.{ImportNeverInvents, ImportAddsUp, EitherOrder, ReaderHandsOut}

-- The data entries of a sound capture are no more than it has, and the file of them is no longer.
module _ (capture : List ℕ) (passes : file_refusal capture ≡ 0) where
  few_data : length (data_in capture) ≤ most_entries
  unfolding entries
  few_data =
      let n = entry_count head_length capture in
      let all = up_to (nth_entry capture) n in
      omega (arith, those-few is_data all, length-up_to (nth_entry capture) n, (is_sound capture passes).few)

  short_data : length (file_of (data_in capture)) ≤ longest_file
  short_data =
      let all = entries capture in
      omega (
        arith,
        file_length_lem (data_in capture),
        file_length_lem all,
        those-few is_data all,
        joined-those-short is_data body_of all,
        length_reads_back capture passes,
        (is_sound capture passes).short,
      )

-- An import of an export of a sound capture.
module _ (by : Addresses) (addressed : Addressed by) (capture room : List ℕ) (passes : file_refusal capture ≡ 0)
    (enough : length (file_of (data_in capture)) ≤ length room) where
  abbrev es : List Entry
  es = entries capture

  abbrev file : List ℕ
  file = export_of by es

  short : Each (λ e. length e.body ≤ 60000) es
  short = bodies-short capture passes

  comes_back : entries_of (records file) ≡ data_in capture
  comes_back = export_comes_back by addressed.sender_whole addressed.receiver_whole es short

  all_there : all_entries [] file ≡ data_in capture
  unfolding all_entries
  all_there = comes_back

  none-skipped : (cause : ℕ) → 0 < cause → skipped cause (records file) ≡ 0
  none-skipped = export_none-skipped by addressed.sender_whole addressed.receiver_whole es short

  no_refusal : first (import_refusals [] file (length room)) ≡ 0
  no_refusal =
      let ends = export_ends by addressed.sender_whole addressed.receiver_whole es short in
      let size = ap (λ (l : List Entry). length (file_of l)) all_there in
      let short-enough = le-ltb longest_file (length (file_of (all_entries [] file))) (omega (arith, size, short_data capture passes)) in
      let few-enough =
      le-ltb most_entries (length (all_entries [] file)) (omega (arith, ap length all_there, few_data capture passes)) in
      none_first (import_refusals [] file (length room)) (
        export_header by addressed.sender_whole addressed.receiver_whole es short,
        (
          le-ltb (last_place file) (length file) (omega (arith, ends)),
          (
            rw (short-enough, few-enough) refl,
            (
              le-ltb (length room) (length (file_of (all_entries [] file))) (omega (arith, size, enough)),
              tt,
            ),
          ),
        ),
      )

  imported_back : imported [] file room
      ≡ record {
        answer = record {
          code = 0;
          length = length (file_of (data_in capture));
          packets = length (data_in capture);
          foreign = 0;
          misfits = 0;
          fragments = 0;
          others = 0;
        };
        output = put room 0 (file_of (data_in capture));
      }
  unfolding imported_by
  imported_back =
      import_done [] file room no_refusal
      ∙ rw (
        all_there,
        comes_back,
        none-skipped 1 (omega arith),
        none-skipped 2 (omega arith),
        none-skipped 3 (omega arith),
        none-skipped 4 (omega arith),
      ) refl

pub pcap_comes_back : PcapComesBack
pcap_comes_back by capture output room addressed done enough =
    let z = sym (export_code by capture output) ∙ done in
    ap (λ (file : List ℕ). imported [] file room) (export_at_front by capture output z)
    ∙ imported_back by addressed capture room (exportable by capture output z).sound enough

pub export_well_formed : ExportWellFormed
export_well_formed by capture output addressed done =
    let z = sym (export_code by capture output) ∙ done in
    let passes = (exportable by capture output z).sound in
    subst (λ (file : List ℕ). WellFormedFile file (length (data_in capture))) (sym (export_at_front by capture output z))
    (export_formed by addressed.sender_whole addressed.receiver_whole (entries capture) (bodies-short capture passes))

-- What an import has written.
opens-right : (sessions : List ℕ) → Each Right (map opening sessions)
opens-right [] = tt
opens-right (id ∷ more) = (record { its_kind = refl; its_length = refl }, opens-right more)

right_by : (udp : Bool) (body : List ℕ) → Right (record { kind = cond udp 5 4; body = body })
right_by true body = record { its_kind = refl; its_length = refl }
right_by false body = record { its_kind = refl; its_length = refl }

data_by : (udp : Bool) (body : List ℕ) → is_data (record { kind = cond udp 5 4; body = body }) ≡ true
data_by true body = refl
data_by false body = refl

-- whatever holds of the entry of every record holds of the entries of a file
module _ (P : Entry → Type 0) (always : (r : List ℕ) → P (entry_of r)) where
  each_entry : (packets : List (List ℕ)) → Each P (map entry_of packets)
  each_entry [] = tt
  each_entry (r ∷ more) = (always r, each_entry more)

  each_of : (packets : List (List ℕ)) → Each P (entries_of packets)
  unfolding entries_of
  each_of packets = each_entry (those (is_for 0) packets)

entries-right : (packets : List (List ℕ)) → Each Right (entries_of packets)
unfolding entry_of
entries-right = each_of Right (λ r. right_by (is_udp r) (part r (data_at r) (data_length r)))

entries_data : (packets : List (List ℕ)) → Each (λ e. is_data e ≡ true) (entries_of packets)
unfolding entry_of
entries_data = each_of (λ e. is_data e ≡ true) (λ r. data_by (is_udp r) (part r (data_at r) (data_length r)))

module _ (sessions file output : List ℕ) (done : (imported sessions file output).answer.code ≡ 0) where
  not-refused : first (import_refusals sessions file (length output)) ≡ 0
  not-refused = sym (import_code sessions file output) ∙ done

  abbrev all : List Entry
  all = all_entries sessions file

  writable : Writable all
  unfolding all_entries
  writable =
      let able = importable sessions file output not-refused in
      record {
        few = able.few;
        short = able.short;
        right = each_both Right (map opening sessions) (entries_of (records file)) (opens-right sessions) (entries-right (records file));
      }

  written : capture_in (imported sessions file output) ≡ file_of all
  written = import_at_front sessions file output not-refused

  nothing_invented : NothingInvented sessions file (imported sessions file output)
  unfolding all_entries
  nothing_invented =
      record {
        sound = ap file_refusal written ∙ written-sound all writable;
        its_entries = ap entries written ∙ written_reads all writable;
        are_data = entries_data (records file);
        from_the_file = stretches file;
      }

  all_counted :
      let a = (imported sessions file output).answer in
      a.packets + a.foreign + a.misfits + a.fragments + a.others ≡ length (records file)
  unfolding imported_by
  all_counted = rw (import_done sessions file output not-refused) (omega (arith, adds_up (records file)))

pub import_never_invents : ImportNeverInvents
import_never_invents = nothing_invented

pub import_adds_up : ImportAddsUp
import_adds_up = all_counted

-- Either byte order.
module _ (packets : List (List ℕ)) (short : Each (λ p. length p < 4294967296) packets) where
  same_records : records (pcap_of true packets) ≡ records (pcap_of false packets)
  same_records = records_read_back true packets short ∙ sym (records_read_back false packets short)

  -- an import looks at a file's header, at where its records end and at the records
  abbrev with-good-header : Bool → Type 0
  with-good-header little =
      (bad_header (pcap_of little packets) ≡ false) × (ltb (last_place (pcap_of little packets)) (length (pcap_of little packets)) ≡ false)

  good : (little : Bool) → with-good-header little
  good little = (
    header_reads_back little packets,
    le-ltb (last_place (pcap_of little packets)) (length (pcap_of little packets)) (omega (arith, walk_ends little packets short)),
  )

  module _ (sessions output : List ℕ) where
    same_code : (room : ℕ) →
        first (import_refusals sessions (pcap_of true packets) room) ≡ first (import_refusals sessions (pcap_of false packets) room)
    unfolding all_entries
    same_code room = rw ((good true).0, (good true).1, (good false).0, (good false).1, same_records) refl

    same_by : (c : ℕ) → imported_by c sessions (pcap_of true packets) output ≡ imported_by c sessions (pcap_of false packets) output
    unfolding imported_by all_entries
    same_by zero = rw same_records refl
    same_by (suc c) = refl

    alike : imported sessions (pcap_of true packets) output ≡ imported sessions (pcap_of false packets) output
    unfolding imported
    alike =
        ap (λ (c : ℕ). imported_by c sessions (pcap_of true packets) output) (same_code (length output))
        ∙ same_by (first (import_refusals sessions (pcap_of false packets) (length output)))

pub either_order : EitherOrder
either_order =
    record {
      reads_back = λ little packets short.
          (header_reads_back little packets, records_read_back little packets short, walk_ends little packets short);
      imports_alike = λ packets short sessions output. alike packets short sessions output;
    }

pub reader_hands_out : ReaderHandsOut
reader_hands_out = walk_hands_out
