-- An import: its refusals by what the first walk found, and that what it answers and leaves is what the definition says.
use Prim.Native.Nat.{ℕ, zero, suc, ◌+◌, ◌*◌, ◌≤◌, ◌<◌}
use mathlib.Core.Path.{◌≡◌, refl, sym, ap, ◌∙◌}
use mathlib.Core.Bool.{Bool, true, false, cond, ◌||◌}
use mathlib.Core.List.{List, [], ◌∷◌, ◌++◌, map, map-map}
use mathlib.Core.Logic.{⊎_elim}
use native.Mathlib.Omega.{arith}
use lib.Dec.{eqb, ltb}
use lib.ListN.{length, length-append, length-map}
use borrow.Author.Tests.{ltb-false, eqb-true, eqb-false}
use Rattle.refusal.specs.declared.Refusal.{Refusal}
use Rattle.refusal.specs.Number.{number_of}
use Rattle.refusal.specs.Refusal.{◌when◌, first}
use Rattle.refusal.proofs.Numbers.{number_some}
use Rattle.refusal.proofs.Laws.{none-applies, when_accepted, when_refused}
use Rattle.octets.specs.Bytes.{two, four}
use Rattle.octets.specs.Stretch.{joined, put}
use Rattle.octets.proofs.Counts.{true-or-false, or-false-left, or-false-right}
use Rattle.octets.proofs.Stretches.{length-joined-map}
use Rattle.capture.specs.declared.Writer.{Writer}
use Rattle.capture.specs.File.{head_length, id_body, longest_file, most_entries, opening, body_of, file_of}
use Rattle.capture.proofs.Writing.{file_length_lem, laid_none, laid_finished}
use Rattle.pcap.specs.File.{bad_header, records, last_place}
use Rattle.pcap.specs.Import.{entries_of, all_entries, import_refusals, Answer, ImportOutcome, imported_by, imported}
use Rattle.pcap.specs.Inside.Importing.{tally_of, Found, found_in, long_with, refusal_by, none_yet, RoomFor, LaysOn}
use Rattle.pcap.proofs.Walk.{walk_stops}
use Rattle.pcap.proofs.Laying.{bodies_both, room_front, room_behind, lays_both}

-- The last two refusals, by their tests.
module _ (long many small : Bool) where
  abbrev last : ℕ
  last = first (63 when (long || many) ∷ 64 when small ∷ [])

module _ (sessions : ℕ) (found : Found) (room : ℕ) where
  abbrev entries_then : ℕ
  entries_then = sessions + found.tally.packets

  abbrev long_then : ℕ
  long_then = long_with sessions found.tally

  abbrev last_ones : ℕ
  last_ones = last (ltb longest_file long_then) (ltb most_entries entries_then) (ltb room long_then)

  pub stopped : (found.cause ≡ 0 → ⊥) → found.cause ≡ refusal_by sessions found room
  stopped some = sym (when_refused found.cause some last_ones found.cause)

  module _ (none : found.cause ≡ 0) where
    by_size : refusal_by sessions found room ≡ last_ones
    by_size = when_accepted found.cause none last_ones found.cause

  -- The other way round: what is so where nothing is refused.
  pub record Accepted : Type 0 where
    pub few : entries_then ≤ most_entries
    pub short : long_then ≤ longest_file
    pub roomy : long_then ≤ room

  pub accepted : 0 ≡ refusal_by sessions found room → Accepted
  accepted z =
      let by-size-then : found.cause ≡ 0 → Accepted =
      λ none.
      let n =
      none-applies (63 when (ltb longest_file long_then || ltb most_entries entries_then) ∷ 64 when ltb room long_then ∷ []) refl
      (sym (by_size none) ∙ sym z) in
      record {
        few = ltb-false most_entries entries_then (or-false-right (ltb longest_file long_then) (ltb most_entries entries_then) n.0);
        short = ltb-false longest_file long_then (or-false-left (ltb longest_file long_then) (ltb most_entries entries_then) n.0);
        roomy = ltb-false room long_then n.1.0;
      } in
      ⊎_elim
      (λ (e : eqb found.cause 0 ≡ true). by-size-then (eqb-true found.cause 0 e))
      (λ (e : eqb found.cause 0 ≡ false).
      let some = eqb-false found.cause 0 e in
      absurd (some (stopped some ∙ sym z)))
      (true-or-false (eqb found.cause 0))

-- The entries of the capture: how many, and how long their file.
module _ (sessions file : List ℕ) where
  pub entries_long : length (all_entries sessions file) ≡ length sessions + length (entries_of (records file))
  unfolding all_entries
  entries_long =
      length-append (map opening sessions) (entries_of (records file))
      ∙ ap (λ (n : ℕ). n + length (entries_of (records file))) (length-map sessions opening)

  opens_long : length (joined (map body_of (map opening sessions))) ≡ id_body * length sessions
  opens_long =
      ap (λ (l : List (List ℕ)). length (joined l)) (map-map body_of opening sessions) ∙ length-joined-map four id_body (λ n. refl) sessions

  pub bodies_long : length (joined (map body_of (all_entries sessions file)))
      ≡ id_body * length sessions + length (joined (map body_of (entries_of (records file))))
  unfolding all_entries
  bodies_long =
      bodies_both (map opening sessions) (entries_of (records file))
      ∙ ap (λ (n : ℕ). n + length (joined (map body_of (entries_of (records file))))) opens_long

  pub capture_long : length (file_of (all_entries sessions file)) ≡ long_with (length sessions) (tally_of (records file))
  capture_long = omega (arith, file_length_lem (all_entries sessions file), entries_long, bodies_long)

-- The refusals are those by what the first walk found.
in_two : (a b c d : Bool) →
    first (61 when a ∷ 62 when b ∷ 63 when c ∷ 64 when d ∷ [])
    ≡ cond (eqb (first (61 when a ∷ 62 when b ∷ [])) 0) (first (63 when c ∷ 64 when d ∷ [])) (first (61 when a ∷ 62 when b ∷ []))
in_two true b c d = refl
in_two false true c d = refl
in_two false false c d = refl

module _ (sessions file : List ℕ) (room : ℕ) where
  pub refusals_found : first (import_refusals sessions file room) ≡ refusal_by (length sessions) (found_in file) room
  refusals_found =
      let long = length (file_of (all_entries sessions file)) in
      let many = length (all_entries sessions file) in
      let stop = first (61 when bad_header file ∷ 62 when ltb (last_place file) (length file) ∷ []) in
      let by : ℕ → ℕ → ℕ → ℕ =
      λ cause l n. cond (eqb cause 0) (first (63 when (ltb longest_file l || ltb most_entries n) ∷ 64 when ltb room l ∷ [])) cause in
      in_two (bad_header file) (ltb (last_place file) (length file)) (ltb longest_file long || ltb most_entries many) (ltb room long)
      ∙ ap (λ (cause : ℕ). by cause long many) (sym (walk_stops file))
      ∙ ap (λ (l : ℕ). by (found_in file).cause l many) (capture_long sessions file)
      ∙ ap (by (found_in file).cause (long_with (length sessions) (tally_of (records file)))) (entries_long sessions file)

-- What is answered and left.
abbrev refused_with : ℕ → Answer
refused_with code = record { code = code; length = 0; packets = 0; foreign = 0; misfits = 0; fragments = 0; others = 0 }

refused_by : (n code : ℕ) → n ≡ code → (code ≡ 0 → ⊥) → (sessions file output : List ℕ) →
    ◌≡◌ {A = ImportOutcome} (record { answer = refused_with code; output = output }) (imported_by n sessions file output)
unfolding imported_by
refused_by zero code e some sessions file output = absurd (some (sym e))
refused_by (suc n) code e some sessions file output = rw (← e) refl

module _ (sessions file output : List ℕ) (found : Found) (surveyed : found ≡ found_in file) (code : ℕ)
    (judged : code ≡ refusal_by (length sessions) found (length output)) where
  judged_so : code ≡ first (import_refusals sessions file (length output))
  judged_so =
      judged
      ∙ ap (λ (f : Found). refusal_by (length sessions) f (length output)) surveyed
      ∙ sym (refusals_found sessions file (length output))

  pub import_refused : (code ≡ 0 → ⊥) →
      ◌≡◌ {A = ImportOutcome} (record { answer = refused_with code; output = output }) (imported sessions file output)
  unfolding imported
  import_refused some = refused_by (first (import_refusals sessions file (length output))) code (sym judged_so) some sessions file output

  module _ (none : code ≡ 0) where
    fits : Accepted (length sessions) found (length output)
    fits = accepted (length sessions) found (length output) (sym none ∙ judged)

    -- the tally is that of the file's records
    packets_are : found.tally.packets ≡ length (entries_of (records file))
    packets_are = ap (λ (f : Found). f.tally.packets) surveyed

    bytes_are : found.tally.bytes ≡ length (joined (map body_of (entries_of (records file))))
    bytes_are = ap (λ (f : Found). f.tally.bytes) surveyed

    pub all_counted : length sessions + found.tally.packets ≡ length (all_entries sessions file)
    all_counted = omega (arith, packets_are, entries_long sessions file)

    pub all_fit : RoomFor (all_entries sessions file) (length sessions + found.tally.packets) output none_yet
    all_fit =
        let long = bodies_long sessions file in
        record {
          few = fits.few;
          entries-left = omega (arith, all_counted);
          bodies-inside = omega (arith, fits.roomy, long, bytes_are);
          bodies-short = omega (arith, fits.short, long, bytes_are);
        }

    pub import_done : (output' : List ℕ) (long : ℕ) → output' ≡ put output 0 (file_of (all_entries sessions file)) →
        long ≡ long_with (length sessions) found.tally →
        ◌≡◌ {A = ImportOutcome} (record {
          answer = record {
            code = 0;
            length = long;
            packets = found.tally.packets;
            foreign = found.tally.foreign;
            misfits = found.tally.misfits;
            fragments = found.tally.fragments;
            others = found.tally.others;
          };
          output = output';
        }) (imported sessions file output)
    unfolding imported imported_by
    import_done output' long written measured =
        let length-is = measured ∙ ap (λ (f : Found). long_with (length sessions) f.tally) surveyed ∙ sym (capture_long sessions file) in
        rw (← judged_so, none)
        (λ i. record {
          answer = record {
            code = 0;
            length = length-is i;
            packets = (surveyed i).tally.packets;
            foreign = (surveyed i).tally.foreign;
            misfits = (surveyed i).tally.misfits;
            fragments = (surveyed i).tally.fragments;
            others = (surveyed i).tally.others;
          };
          output = written i;
        })

-- where the first walk stops, that is the answer
pub import_stopped : (sessions file output : List ℕ) (why : Refusal) → (found_in file).cause ≡ number_of why →
    ◌≡◌ {A = ImportOutcome} (record { answer = refused_with (number_of why); output = output }) (imported sessions file output)
import_stopped sessions file output why e =
    import_refused sessions file output (found_in file) refl (number_of why)
    (sym e ∙ stopped (length sessions) (found_in file) (length output) (λ z. number_some why (sym e ∙ z))) (number_some why)

-- The capture stands in the output once all entries are laid and their number is written.
module _ (sessions file : List ℕ) {count : ℕ} {output : List ℕ} (r : RoomFor (all_entries sessions file) count output none_yet) where
  room_for_both : RoomFor (map opening sessions ++ entries_of (records file)) count output none_yet
  unfolding all_entries
  room_for_both = r

  pub opens-room : RoomFor (map opening sessions) count output none_yet
  opens-room = room_front (map opening sessions) (entries_of (records file)) room_for_both

  module _ {opened : List ℕ} {w : Writer} (l : LaysOn (map opening sessions) count output none_yet opened w) where
    pub records_room : RoomFor (entries_of (records file)) count opened w
    records_room = room_behind (map opening sessions) (entries_of (records file)) room_for_both l

    module _ {laid-there : List ℕ} {w' : Writer} (l' : LaysOn (entries_of (records file)) count opened w laid-there w') where
      all_laid : LaysOn (all_entries sessions file) count output none_yet laid-there w'
      unfolding all_entries
      all_laid = lays_both l l'

      pub finish_fits : (head_length ≤ length laid-there) × (w'.entries < 65536)
      finish_fits =
          let a = all_laid in
          (omega (arith, r.bodies-inside, a.as_long), omega (arith, r.few, r.entries-left, a.entries_more))

      pub capture_written : (output' : List ℕ) → count ≡ length (all_entries sessions file) →
          output' ≡ put laid-there 0 (two w'.entries) → output' ≡ put output 0 (file_of (all_entries sessions file))
      capture_written output' all now =
          let a = all_laid in
          laid_finished (a.laid_behind [] output (laid_none output count)) output' (omega (arith, all, a.entries_more))
          (omega (arith, r.bodies-inside, a.bytes_more)) now
