-- The file of a capture is written entry by entry, and is as long as was measured; and the ways out of an export.
use Prim.Native.Nat.{ℕ, zero, suc, ◌+◌, ◌*◌, ◌<◌, ◌≤◌}
use mathlib.Core.Path.{◌≡◌, refl, sym, ap, ◌∙◌}
use mathlib.Core.Bool.{Bool, true, false, cond}
use mathlib.Core.List.{List, [], ◌∷◌, ◌++◌, map, map-map}
use native.Mathlib.Omega.{arith}
use lib.Dec.{ltb}
use lib.ListN.{length, length-append}
use borrow.Author.Tests.{lt-ltb, le-ltb}
use Rattle.refusal.specs.Refusal.{Refusal, ◌when◌, first}
use Rattle.refusal.proofs.Laws.{first-passed, first_stopped}
use Rattle.octets.specs.Count.{sum_to, up_to}
use Rattle.octets.specs.Stretch.{put, joined}
use Rattle.octets.specs.Those.{those}
use Rattle.octets.proofs.Counts.{sum_more, sum_agree, sum-within, sum_below, up_to-none, up_to_more}
use Rattle.octets.proofs.Stretches.{joined-none, length-put, put-nil, put_more, put-put_front}
use Rattle.octets.proofs.Those.{those-none, length-those, joined-those_more, length-joined-those}
use Rattle.capture.specs.File.{head_length, entry_length, longest_file, entry_count, kind_at, body_length, body_start, file_refusals}
use Rattle.capture.specs.File.{file_refusal}
use Rattle.capture.specs.File.{Entry, nth_entry, entries, StandsAt}
use Rattle.capture.proofs.Checking.{is_sound, start_first, start-next, body-inside, body_long}
use Rattle.pcap.specs.declared.Addresses.{Addresses}
use Rattle.pcap.specs.declared.export.Exported.{Exported}
use Rattle.pcap.specs.File.{file_header, file_header_in, record_in, pcap_of}
use Rattle.pcap.specs.Export.{is_open, is_close, is_data, packet_of, export_of, export_refusals}
use Rattle.pcap.specs.Export.{Answer, ExportOutcome, exported_by, exported}
use Rattle.pcap.specs.Inside.Exporting.{record_of, record_length, measured_to}
use Rattle.pcap.proofs.Packets.{length_record, length-packet}
use Rattle.pcap.proofs.Measuring.{measured, measured_same}

-- The records of the first k entries, and the file of all.
abbrev record_for : Addresses → Entry → List ℕ
record_for by e = record_in true (packet_of by e)

abbrev records_to : Addresses → List ℕ → ℕ → List ℕ
records_to by file k = joined (map (record_for by) (those is_data (up_to (nth_entry file) k)))

pub export_is : (by : Addresses) (file : List ℕ) →
    export_of by (entries file) ≡ file_header_in true ++ records_to by file (entry_count head_length file)
unfolding export_of pcap_of entries
export_is by file =
    ap (λ (l : List (List ℕ)). file_header_in true ++ joined l)
    (map-map (record_in true) (packet_of by) (those is_data (up_to (nth_entry file) (entry_count head_length file))))

records_none : (by : Addresses) (file : List ℕ) → records_to by file 0 ≡ []
records_none by file =
    ap (λ (l : List Entry). joined (map (record_for by) (those is_data l))) (up_to-none (nth_entry file))
    ∙ ap (λ (l : List Entry). joined (map (record_for by) l)) (those-none is_data)
    ∙ joined-none

records_more : (by : Addresses) (file : List ℕ) (k : ℕ) →
    records_to by file (k + 1) ≡ records_to by file k ++ record_of by (nth_entry file k)
records_more by file k =
    ap (λ (l : List Entry). joined (map (record_for by) (those is_data l))) (up_to_more (nth_entry file) k)
    ∙ joined-those_more is_data (record_for by) (up_to (nth_entry file) k) (nth_entry file k)

length-cond : (t : Bool) (x : List ℕ) → length (cond t x []) ≡ cond t (length x) 0
length-cond true x = refl
length-cond false x = refl

-- how long the record of entry k is, by what the contents say of it
abbrev sizes : List ℕ → ℕ → ℕ
sizes file k = record_length (kind_at head_length entry_length file k) (body_length head_length entry_length file k)

pub stands : (file : List ℕ) (k : ℕ) → file_refusal file ≡ 0 → k < entry_count head_length file →
    StandsAt file k (body_start head_length entry_length file k)
stands file k sound below = record { sound = sound; not_past = below; its_start = refl }

module _ (by : Addresses) (sender : length by.sender ≡ 6) (receiver : length by.receiver ≡ 6) where
  record_long : (e : Entry) → cond (is_data e) (length (record_for by e)) 0 ≡ record_length e.kind (length e.body)
  record_long e =
      let long = length_record true (packet_of by e) in
      let packet = length-packet by sender receiver e in
      ap (λ (n : ℕ). cond (is_data e) n 0) (omega (arith, long, packet))

  module _ (file : List ℕ) (sound : file_refusal file ≡ 0) where
    size_is : (k : ℕ) → k < entry_count head_length file →
        cond (is_data (nth_entry file k)) (length (record_for by (nth_entry file k))) 0 ≡ sizes file k
    unfolding nth_entry
    size_is k below =
        record_long (nth_entry file k)
        ∙ ap (record_length (kind_at head_length entry_length file k)) (body_long (stands file k sound below))

    pub length_records : (k : ℕ) → k ≤ entry_count head_length file → length (records_to by file k) ≡ sum_to (sizes file) k
    length_records k few =
        length-joined-those is_data (record_for by) (nth_entry file) k
        ∙ sum_agree (λ i. cond (is_data (nth_entry file i)) (length (record_for by (nth_entry file i))) 0) (sizes file) k
        (λ i below. size_is i (omega arith))

    length_export : length (export_of by (entries file)) ≡ file_header + sum_to (sizes file) (entry_count head_length file)
    length_export =
        let records = records_to by file (entry_count head_length file) in
        ap length (export_is by file)
        ∙ length-append (file_header_in true) records
        ∙ ap (λ (n : ℕ). file_header + n) (length_records (entry_count head_length file) (omega arith))

    -- what was measured is how long the file is, and how many of each kind there are
    pub measured_is : measured_to file (entry_count head_length file)
        ≡ measured (length (export_of by (entries file))) (length (those is_data (entries file))) (length (those is_open (entries file)))
        (length (those is_close (entries file)))
    unfolding measured_to entries nth_entry
    measured_is =
        let n = entry_count head_length file in
        measured_same (sym length_export) (sym (length-those is_data (nth_entry file) n)) (sym (length-those is_open (nth_entry file) n))
        (sym (length-those is_close (nth_entry file) n))

    -- there is room for the header, and for the record of each entry behind those before it
    module _ (room : ℕ) (fits : length (export_of by (entries file)) ≤ room) where
      pub header-room : file_header ≤ room
      header-room = omega (arith, length_export, fits)

      pub records_room : (k : ℕ) → k ≤ entry_count head_length file → file_header + length (records_to by file k) ≤ room
      records_room k few =
          omega (arith, length_export, fits, length_records k few, sum_below (sizes file) k (entry_count head_length file) few)

      pub record_room : (k : ℕ) → k < entry_count head_length file → file_header + length (records_to by file k) + sizes file k ≤ room
      record_room k below =
          omega (
            arith,
            length_export,
            fits,
            length_records k (omega arith),
            sum-within (sizes file) k (entry_count head_length file) below,
          )

-- The loop: after k turns the records of the first k entries stand behind the header, in an output that begins with it.
pub record Exporting (by : Addresses) (file headed output : List ℕ) (at start k : ℕ) : Type 0 where
  pub within : k ≤ entry_count head_length file
  pub its_start : start ≡ body_start head_length entry_length file k
  pub at_end : at ≡ file_header + length (records_to by file k)
  pub written : output ≡ put headed file_header (records_to by file k)

pub export_begin : (by : Addresses) (file headed : List ℕ) (count : ℕ) → count ≡ entry_count head_length file →
    Exporting by file headed headed file_header (head_length + entry_length * count) 0
export_begin by file headed count e =
    record {
      within = omega arith;
      its_start = ap (λ (n : ℕ). head_length + entry_length * n) e ∙ sym (start_first file);
      at_end = omega (arith, ap length (records_none by file));
      written = sym (ap (put headed file_header) (records_none by file) ∙ put-nil headed file_header);
    }

-- an entry by its parts
entry_is : {kind : ℕ} {body : List ℕ} (file : List ℕ) (k : ℕ) → kind ≡ kind_at head_length entry_length file k →
    body ≡ (nth_entry file k).body →
    record { kind = kind; body = body } ≡ nth_entry file k
unfolding nth_entry
entry_is {kind} {body} file k e b = rw (e, b) refl

module _ {by : Addresses} {file headed output : List ℕ} {at start k : ℕ} (x : Exporting by file headed output at start k)
    (sender : length by.sender ≡ 6) (receiver : length by.receiver ≡ 6) (sound : file_refusal file ≡ 0)
    (fits : length (export_of by (entries file)) ≤ length headed) where
  pub output_long : length output ≡ length headed
  output_long =
      ap length x.written
      ∙ length-put headed file_header (records_to by file k) (records_room by sender receiver file sound (length headed) fits k x.within)

  module _ (below : k < entry_count head_length file) {kind : ℕ} {body : List ℕ} (ek : kind ≡ kind_at head_length entry_length file k)
      (eb : body ≡ (nth_entry file k).body) where
    body-size : length body ≡ body_length head_length entry_length file k
    body-size = ap length eb ∙ body_long (stands file k sound below)

    size_same : record_length kind (length body) ≡ sizes file k
    size_same =
        ap (λ (n : ℕ). record_length n (length body)) ek
        ∙ ap (record_length (kind_at head_length entry_length file k)) body-size

    pub entry_fits : (at + record_length kind (length body) ≤ length output) × (length body ≤ 65000)
    entry_fits = (
      omega (
        arith,
        x.at_end,
        size_same,
        output_long,
        record_room by sender receiver file sound (length headed) fits k below,
      ),
      omega (arith, body-size, body-inside (stands file k sound below) refl, (is_sound file sound).short),
    )

    pub body-ends : start + length body ≤ longest_file
    body-ends =
        omega (arith, x.its_start, body-size, body-inside (stands file k sound below) refl, (is_sound file sound).short)

    pub export_turn : {output' : List ℕ} {at' : ℕ} → output' ≡ put output at (record_of by (record { kind = kind; body = body })) →
        at' ≡ at + record_length kind (length body) → Exporting by file headed output' at' (start + length body) (k + 1)
    export_turn {output'} {at'} did moved =
        let one = record_of by (nth_entry file k) in
        let few : k ≤ entry_count head_length file = omega arith in
        let room = records_room by sender receiver file sound (length headed) fits k few in
        let next = length_records by sender receiver file sound (k + 1) (omega arith) in
        record {
          within = omega (arith, below);
          its_start = omega (arith, x.its_start, start-next file k, body-size);
          at_end =
              omega (
                arith,
                moved,
                x.at_end,
                size_same,
                length_records by sender receiver file sound k few,
                next,
                sum_more (sizes file) k,
              );
          written =
              put_more headed file_header (records_to by file k) one at room x.written x.at_end
              (did ∙ ap (λ (e : Entry). put output at (record_of by e)) (entry_is file k ek eb))
              ∙ ap (put headed file_header) (sym (records_more by file k));
        }

  pub export_end : (before : List ℕ) → entry_count head_length file ≤ k → file_header ≤ length before →
      headed ≡ put before 0 (file_header_in true) → output ≡ put before 0 (export_of by (entries file))
  export_end before past room stood =
      let all : k ≡ entry_count head_length file = omega (arith, x.within, past) in
      x.written
      ∙ ap (λ (n : ℕ). put headed file_header (records_to by file n)) all
      ∙ ap (λ (l : List ℕ). put l file_header (records_to by file (entry_count head_length file))) stood
      ∙ put-put_front before (file_header_in true) (records_to by file (entry_count head_length file)) room
      ∙ ap (put before 0) (sym (export_is by file))

-- The ways out of an export, in their order.
abbrev pub outcome : Answer → List ℕ → ExportOutcome
outcome answer output = record { answer = answer; output = output }

abbrev refused_with : ℕ → Answer
refused_with code = record { code = code; length = 0; packets = 0; opens = 0; closes = 0 }

abbrev answer_of : Exported → Answer
answer_of m = record { code = 0; length = m.length; packets = m.packets; opens = m.opens; closes = m.closes }

module _ (by : Addresses) (file output : List ℕ) where
  -- 64, behind those of the capture
  last : List Refusal
  last = 64 when ltb (length output) (length (export_of by (entries file))) ∷ []

  pub capture_refused : (code : ℕ) → code ≡ file_refusal file → (code ≡ 0 → ⊥) →
      outcome (refused_with code) output ≡ exported by file output
  unfolding file_refusal exported exported_by last
  capture_refused zero e some = absurd (some refl)
  capture_refused (suc c) e some =
      let stopped = first_stopped (file_refusals head_length entry_length file) last (λ z. some (e ∙ z)) in
      ap (λ (n : ℕ). exported_by n by file output) (e ∙ sym stopped)

  module _ (sound : file_refusal file ≡ 0) (m : Exported) (sender : length by.sender ≡ 6) (receiver : length by.receiver ≡ 6)
      (em : m ≡ measured_to file (entry_count head_length file)) where
    passed : first (export_refusals by file (length output)) ≡ first last
    unfolding file_refusal last
    passed = first-passed (file_refusals head_length entry_length file) last refl sound

    all_counted : m
        ≡ measured (length (export_of by (entries file))) (length (those is_data (entries file))) (length (those is_open (entries file)))
        (length (those is_close (entries file)))
    all_counted = em ∙ measured_is by sender receiver file sound

    pub counted_long : m.length ≡ length (export_of by (entries file))
    counted_long = ap (λ (x : Exported). x.length) all_counted

    pub output-short : length output < m.length → outcome (refused_with 64) output ≡ exported by file output
    unfolding exported exported_by last
    output-short short =
        let applies = lt-ltb (length output) (length (export_of by (entries file))) (omega (arith, short, counted_long)) in
        let number : first (export_refusals by file (length output)) ≡ 64 = passed ∙ rw applies refl in
        ap (λ (n : ℕ). exported_by n by file output) (sym number)

    pub export_done : {output' : List ℕ} → m.length ≤ length output → output' ≡ put output 0 (export_of by (entries file)) →
        outcome (answer_of m) output' ≡ exported by file output
    unfolding exported exported_by last
    export_done {output'} room did =
        let passes = le-ltb (length output) (length (export_of by (entries file))) (omega (arith, room, counted_long)) in
        let number : first (export_refusals by file (length output)) ≡ 0 = passed ∙ rw passes refl in
        ap (outcome (answer_of m)) did
        ∙ ap (λ (x : Exported). outcome (answer_of x) (put output 0 (export_of by (entries file)))) all_counted
        ∙ ap (λ (n : ℕ). exported_by n by file output) (sym number)
