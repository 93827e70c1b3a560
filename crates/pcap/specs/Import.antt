-- The import (document 02, W5): a pcap file becomes a capture. First come entries that open the sessions which the caller names, as PSP and
-- as named, then a data entry for each record that is not skipped, in the file's order. Refusals: 61, the file's header; 62, a record runs
-- past the end; 63, the capture would break 41 or 43; 64, the output is shorter than the capture. One that is refused changes nothing.
use Rattle.std.specs.Prelude.{ℕ, zero, suc, ◌+◌, ◌≤◌, ◌≡◌, Bool, ◌||◌, List, [], ◌∷◌, ◌++◌, map, eqb, ltb, length, Result, Ok, Err}
use Rattle.refusal.specs.declared.Refusal.{Refusal as Why}
use Rattle.refusal.specs.Number.{number_of}
use Rattle.refusal.specs.Refusal.{Refusal, ◌when◌, first}
use Rattle.octets.specs.Stretch.{part, put}
use Rattle.octets.specs.Those.{those}
use Rattle.capture.specs.File.{longest_file, most_entries, Entry, opening, file_of}
use Rattle.pcap.specs.declared.import.Imported.{Imported}
use Rattle.pcap.specs.File.{bad_header, records, last_place}
use Rattle.pcap.specs.Judge.{skip_of, entry_of}

-- the entries of the records that are not skipped; and how many records are skipped for a cause
abbrev pub is_for : ℕ → List ℕ → Bool
is_for cause r = eqb (skip_of r) cause

unfoldable pub entries_of : List (List ℕ) → List Entry
entries_of packets = map entry_of (those (is_for 0) packets)

unfoldable pub skipped : ℕ → List (List ℕ) → ℕ
skipped cause packets = length (those (is_for cause) packets)

-- That an entry's body is a stretch of a file, as it is of each entry that is made of a file's records: no byte comes from anywhere else.
pub record Stretch (file : List ℕ) (e : Entry) : Type 0 where
  pub from : ℕ
  pub inside : from + length e.body ≤ length file
  pub its_bytes : e.body ≡ part file from (length e.body)

-- the entries of the capture
unfoldable pub all_entries : List ℕ → List ℕ → List Entry
all_entries sessions file = map opening sessions ++ entries_of (records file)

abbrev pub import_refusals : List ℕ → List ℕ → ℕ → List Refusal
import_refusals sessions file room =
    let es = all_entries sessions file in
    61 when bad_header file
    ∷ 62 when ltb (last_place file) (length file)
    ∷ 63 when (ltb longest_file (length (file_of es)) || ltb most_entries (length es))
    ∷ 64 when ltb room (length (file_of es))
    ∷ []

-- What an import answers, in numbers: that of its refusal, or 0, and its counts, which are 0 where it is refused. And what a call's answer
-- tells of it.
pub record Answer : Type 0 where
  pub code : ℕ
  pub length : ℕ
  pub packets : ℕ
  pub foreign : ℕ
  pub misfits : ℕ
  pub fragments : ℕ
  pub others : ℕ

abbrev pub told : Result Imported Why → Answer
told (Ok i) =
    record {
      code = 0;
      length = i.length;
      packets = i.packets;
      foreign = i.foreign;
      misfits = i.misfits;
      fragments = i.fragments;
      others = i.others;
    }
told (Err why) = record { code = number_of why; length = 0; packets = 0; foreign = 0; misfits = 0; fragments = 0; others = 0 }

-- everything that a call answers and leaves
pub record ImportOutcome : Type 0 where
  pub answer : Answer
  pub output : List ℕ

unfoldable pub imported_by : ℕ → List ℕ → List ℕ → List ℕ → ImportOutcome
imported_by zero sessions file output =
    record {
      answer = record {
        code = 0;
        length = length (file_of (all_entries sessions file));
        packets = length (entries_of (records file));
        foreign = skipped 1 (records file);
        misfits = skipped 2 (records file);
        fragments = skipped 3 (records file);
        others = skipped 4 (records file);
      };
      output = put output 0 (file_of (all_entries sessions file));
    }
imported_by (suc c) sessions file output =
    record {
      answer = record { code = suc c; length = 0; packets = 0; foreign = 0; misfits = 0; fragments = 0; others = 0 };
      output = output;
    }

unfoldable pub imported : List ℕ → List ℕ → List ℕ → ImportOutcome
imported sessions file output = imported_by (first (import_refusals sessions file (length output))) sessions file output

-- What the call permits, whole: what it is given, and o what it answers, with the output when it returns.
abbrev pub PermitsImport : List ℕ → List ℕ → List ℕ → ImportOutcome → Type 0
PermitsImport sessions file output o = o ≡ imported sessions file output
