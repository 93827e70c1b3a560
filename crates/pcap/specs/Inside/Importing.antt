-- Inside: what functions promise each other on the way to a result. Nobody has to believe this file: the result is said without it.
-- Here: how a record is judged step by step, what the first walk counts, and what the second one has laid. What an import answers and
-- leaves is specs/Import.antt's.
use Rattle.std.specs.Prelude.{ℕ, ◌+◌, ◌*◌, ◌<◌, ◌≤◌, ◌≡◌, false, cond, ◌||◌, List, [], ◌∷◌, ◌++◌, map, eqb, ltb, length, Result, Ok, Err}
use Rattle.refusal.specs.declared.Refusal.{Refusal}
use Rattle.refusal.specs.Number.{number_of}
use Rattle.refusal.specs.Refusal.{◌when◌, first}
use Rattle.octets.specs.Stretch.{joined}
use Rattle.capture.specs.declared.Writer.{Writer}
use Rattle.capture.specs.declared.Counted.{Counted}
use Rattle.capture.specs.Adding.{SameFile}
use Rattle.capture.specs.File.{head_length, entry_length, id_body, longest_file, most_entries, Entry, body_of}
use Rattle.capture.specs.Write.{bodies_from, Laid}
use Rattle.pcap.specs.declared.import.Tally.{Tally}
use Rattle.pcap.specs.File.{is_little, records, last_place, stops}
use Rattle.pcap.specs.Ipv4.{ipv4_at, ipv4_length, payload_at, payload_length}
use Rattle.pcap.specs.Judge.{not_ipv4, bad_ipv4_lengths, is_fragment}
use Rattle.pcap.specs.Import.{entries_of, skipped}

-- a whole IPv4 packet: no cause that comes before its protocol applies; where its payload begins, and how long that is
pub record Uncut (r : List ℕ) (at room : ℕ) : Type 0 where
  pub is_ipv4 : not_ipv4 r ≡ false
  pub lengths-good : bad_ipv4_lengths r ≡ false
  pub not-cut : is_fragment r ≡ false
  pub headed : ipv4_at + ipv4_length ≤ length r
  pub its_place : at ≡ payload_at r
  pub its_length : room ≡ payload_length r
  pub inside : at + room ≤ length r

-- The import's first walk: what records come to, and two tallies together. Each count is one that 64 bits hold.
abbrev pub tally_of : List (List ℕ) → Tally
tally_of packets =
    record {
      packets = length (entries_of packets);
      bytes = length (joined (map body_of (entries_of packets)));
      foreign = skipped 1 packets;
      misfits = skipped 2 packets;
      fragments = skipped 3 packets;
      others = skipped 4 packets;
    }

abbrev pub plus : Tally → Tally → Tally
plus a b =
    record {
      packets = a.packets + b.packets;
      bytes = a.bytes + b.bytes;
      foreign = a.foreign + b.foreign;
      misfits = a.misfits + b.misfits;
      fragments = a.fragments + b.fragments;
      others = a.others + b.others;
    }

abbrev pub count_limit : ℕ
count_limit = 18446744073709551616

pub record Countable (t : Tally) : Type 0 where
  pub few-packets : t.packets < count_limit
  pub few_bytes : t.bytes < count_limit
  pub few_foreign : t.foreign < count_limit
  pub few_misfits : t.misfits < count_limit
  pub few_fragments : t.fragments < count_limit
  pub few-others : t.others < count_limit

-- .. and what it finds: why it stops, 61, 62 or 0, and what the records come to that it has seen; what it answers by that; and that it has
-- found no reason to stop
pub record Found : Type 0 where
  pub cause : ℕ
  pub tally : Tally

abbrev pub found_in : List ℕ → Found
found_in file = record { cause = first (stops file (last_place file) (is_little file)); tally = tally_of (records file) }

abbrev pub sized : Tally → Found
sized t = record { cause = 0; tally = t }

abbrev pub Finds : Found → Result Tally Refusal → Type 0
Finds found (Ok t) = found ≡ sized t
Finds found (Err why) = found.cause ≡ number_of why

-- how long the capture is with so many sessions; and the refusals, by what the walk found
abbrev pub long_with : ℕ → Tally → ℕ
long_with sessions t = head_length + entry_length * (sessions + t.packets) + (id_body * sessions + t.bytes)

abbrev pub refusal_by : ℕ → Found → ℕ → ℕ
refusal_by sessions found room =
    let entries = sessions + found.tally.packets in
    let long = long_with sessions found.tally in
    cond (eqb found.cause 0)
    (first (63 when (ltb longest_file long || ltb most_entries entries) ∷ 64 when ltb room long ∷ [])) found.cause

-- The writing, into a slice for `count` entries: nothing written yet, room for these entries behind those that are there, and that they
-- have been laid there.
abbrev pub none_yet : Writer
none_yet = record { entries = 0; bytes = 0 }

pub record RoomFor (es : List Entry) (count : ℕ) (file : List ℕ) (w : Writer) : Type 0 where
  pub few : count ≤ most_entries
  pub entries-left : w.entries + length es ≤ count
  pub bodies-inside : bodies_from count + w.bytes + length (joined (map body_of es)) ≤ length file
  pub bodies-short : length (joined (map body_of es)) < 65536

pub record LaysOn (es : List Entry) (count : ℕ) (file : List ℕ) (w : Writer) (file' : List ℕ) (w' : Writer) : Type 0 where
  pub entries_more : w'.entries ≡ w.entries + length es
  pub bytes_more : w'.bytes ≡ w.bytes + length (joined (map body_of es))
  pub as_long : length file' ≡ length file
  pub laid_behind : (es₀ : List Entry) (file₀ : List ℕ) → Laid es₀ count file₀ file w → Laid (es₀ ++ es) count file₀ file' w'

-- .. in a capture that is lent, and goes on in the same slice
abbrev pub RoomIn : List Entry → Counted → Type 0
RoomIn es c = RoomFor es c.count c.file.now c.writer

pub record LaysIn (es : List Entry) (before after : Counted) : Type 0 where
  pub lays_on : LaysOn es before.count before.file.now before.writer after.file.now after.writer
  pub same_file : SameFile before after
