-- What the records of a file come to, one after another, and that no count is more than the file is long. The walk that counts them carries
-- what it has counted; with what is still to come, that is all.
use Prim.Native.Nat.{ℕ, ◌+◌, ◌≤◌, ◌<◌}
use mathlib.Core.Path.{◌≡◌, refl, sym, ap, ◌∙◌}
use mathlib.Core.Bool.{Bool, true, false, cond}
use mathlib.Core.List.{List, [], ◌∷◌, ◌++◌, map, map-append}
use mathlib.Core.Logic.{⊎_elim}
use native.Mathlib.Omega.{arith}
use lib.Dec.{eqb}
use lib.ListN.{length, length-append, length-map}
use borrow.Author.Tests.{eq-eqb, ne_eqb, eqb-true, eqb-false}
use Rattle.refusal.specs.Refusal.{first}
use Rattle.refusal.proofs.Laws.{cond-true, cond-false}
use Rattle.octets.specs.Stretch.{joined}
use Rattle.octets.specs.Those.{those}
use Rattle.octets.proofs.Counts.{true-or-false}
use Rattle.octets.proofs.Stretches.{length_part, part-within, length-joined-none, length-joined, length-joined-append, joined_one}
use Rattle.octets.proofs.Those.{those-none, those-cons, those-append, those-few}
use Rattle.capture.specs.File.{Entry, body_of}
use Rattle.pcap.specs.declared.import.Tally.{Tally}
use Rattle.pcap.specs.File.{is_little, whole, after, bytes_at, records_from, place_from, first_place, records, last_place, stops}
use Rattle.pcap.specs.Judge.{skip_of, data_at, data_length, entry_of, Judged, judged}
use Rattle.pcap.specs.Import.{is_for, entries_of, skipped}
use Rattle.pcap.specs.Inside.Importing.{tally_of, plus, count_limit, Countable, Found, found_in}
use Rattle.pcap.proofs.Judging.{judged-inside, cause_is, taken_as}
use Rattle.pcap.proofs.Walk.{records_step, records_end, place_step, place_end, records_within}

-- Entries, and what is skipped: of none, of one record, and of one before others.
pub entries_none : entries_of [] ≡ []
unfolding entries_of
entries_none = ap (map entry_of) (those-none (is_for 0))

pub entries-cons : (r : List ℕ) (more : List (List ℕ)) → entries_of (r ∷ more) ≡ entries_of (r ∷ []) ++ entries_of more
unfolding entries_of
entries-cons r more =
    ap (map entry_of) (those-append (is_for 0) (r ∷ []) more) ∙ map-append entry_of (those (is_for 0) (r ∷ [])) (those (is_for 0) more)

skipped-none : (cause : ℕ) → skipped cause [] ≡ 0
unfolding skipped
skipped-none cause = ap length (those-none (is_for cause))

skipped-cons : (cause : ℕ) (r : List ℕ) (more : List (List ℕ)) → skipped cause (r ∷ more) ≡ skipped cause (r ∷ []) + skipped cause more
unfolding skipped
skipped-cons cause r more =
    ap length (those-append (is_for cause) (r ∷ []) more) ∙ length-append (those (is_for cause) (r ∷ [])) (those (is_for cause) more)

module _ (r : List ℕ) where
  those_one : (cause : ℕ) → those (is_for cause) (r ∷ []) ≡ cond (is_for cause r) (r ∷ []) []
  those_one cause =
      those-cons (is_for cause) r [] ∙ ap (λ (l : List (List ℕ)). cond (is_for cause r) (r ∷ l) l) (those-none (is_for cause))

  pub entry_taken : skip_of r ≡ 0 → entries_of (r ∷ []) ≡ entry_of r ∷ []
  unfolding entries_of
  entry_taken z = ap (map entry_of) (those_one 0 ∙ cond-true (is_for 0 r) (r ∷ []) [] (eq-eqb (skip_of r) 0 z))

  pub entry_skipped : (skip_of r ≡ 0 → ⊥) → entries_of (r ∷ []) ≡ []
  unfolding entries_of
  entry_skipped h = ap (map entry_of) (those_one 0 ∙ cond-false (is_for 0 r) (r ∷ []) [] (ne_eqb (skip_of r) 0 h))

-- Tallies.
same_tally : {a b : Tally} → a.packets ≡ b.packets → a.bytes ≡ b.bytes → a.foreign ≡ b.foreign → a.misfits ≡ b.misfits →
    a.fragments ≡ b.fragments → a.others ≡ b.others → a ≡ b
same_tally p b f m g o =
    λ i. record { packets = p i; bytes = b i; foreign = f i; misfits = m i; fragments = g i; others = o i }

abbrev nothing : Tally
nothing = record { packets = 0; bytes = 0; foreign = 0; misfits = 0; fragments = 0; others = 0 }

abbrev bytes_of : List (List ℕ) → ℕ
bytes_of packets = length (joined (map body_of (entries_of packets)))

bytes-none : bytes_of [] ≡ 0
bytes-none = ap (λ (es : List Entry). length (joined (map body_of es))) entries_none ∙ length-joined-none

bytes-cons : (r : List ℕ) (more : List (List ℕ)) → bytes_of (r ∷ more) ≡ bytes_of (r ∷ []) + bytes_of more
bytes-cons r more =
    ap (λ (es : List Entry). length (joined (map body_of es))) (entries-cons r more)
    ∙ ap (λ (l : List (List ℕ)). length (joined l)) (map-append body_of (entries_of (r ∷ [])) (entries_of more))
    ∙ length-joined-append (map body_of (entries_of (r ∷ []))) (map body_of (entries_of more))

pub tally_none : tally_of [] ≡ nothing
tally_none =
    same_tally (ap length entries_none) bytes-none (skipped-none 1) (skipped-none 2) (skipped-none 3) (skipped-none 4)

pub tally_cons : (r : List ℕ) (more : List (List ℕ)) → tally_of (r ∷ more) ≡ plus (tally_of (r ∷ [])) (tally_of more)
tally_cons r more =
    same_tally
    (ap length (entries-cons r more) ∙ length-append (entries_of (r ∷ [])) (entries_of more))
    (bytes-cons r more)
    (skipped-cons 1 r more)
    (skipped-cons 2 r more)
    (skipped-cons 3 r more)
    (skipped-cons 4 r more)

plus_assoc : (a b c : Tally) → plus (plus a b) c ≡ plus a (plus b c)
plus_assoc a b c = same_tally (omega arith) (omega arith) (omega arith) (omega arith) (omega arith) (omega arith)

plus_none : (a : Tally) → plus a nothing ≡ a
plus_none a = same_tally (omega arith) (omega arith) (omega arith) (omega arith) (omega arith) (omega arith)

none-plus : (a : Tally) → plus nothing a ≡ a
none-plus a = same_tally (omega arith) (omega arith) (omega arith) (omega arith) (omega arith) (omega arith)

-- One record more, as it is judged.
count_by : (b : Bool) (r : List ℕ) → length (cond b (r ∷ []) []) ≡ cond b 1 0
count_by true r = refl
count_by false r = refl

module _ (r : List ℕ) (t : Tally) (j : Judged) (e : j ≡ judged r) where
  abbrev more : Tally
  more = tally_of (r ∷ [])

  by_cause : (cause other : ℕ) → j.cause ≡ cause → skipped other (r ∷ []) ≡ cond (eqb cause other) 1 0
  unfolding skipped
  by_cause cause other z =
      ap length (those_one r other ∙ ap (λ (n : ℕ). cond (eqb n other) (r ∷ []) []) (sym (cause_is r j e) ∙ z))
      ∙ count_by (eqb cause other) r

  -- where the record is skipped it has no entry; where it is not, its data is as long as was judged
  not_taken : (cause : ℕ) → j.cause ≡ cause → (cause ≡ 0 → ⊥) → (more.packets ≡ 0) × (more.bytes ≡ 0)
  not_taken cause z some =
      let none = entry_skipped r (λ h. some (sym z ∙ cause_is r j e ∙ h)) in
      (ap length none, ap (λ (es : List Entry). length (joined (map body_of es))) none ∙ length-joined-none)

  pub taken : j.cause ≡ 0 → (more.packets ≡ 1) × (more.bytes ≡ j.length)
  unfolding entry_of
  taken z =
      let none = sym (cause_is r j e) ∙ z in
      let one = entry_taken r none in
      let its_length = ap (λ (x : Judged). x.length) (taken_as r j e none) in (
        ap length one,
        ap (λ (es : List Entry). length (joined (map body_of es))) one ∙ ap length (joined_one (entry_of r).body)
            ∙ length_part r (data_at r) (data_length r) (judged-inside r none)
            ∙ sym its_length,
      )

  pub one_more : (cause : ℕ) → j.cause ≡ cause → skipped cause (r ∷ []) ≡ 1
  one_more cause z = by_cause cause cause z ∙ ap (λ (b : Bool). cond b 1 0) (eq-eqb cause cause refl)

  -- The tally with it, by its cause.
  abbrev with : ℕ → ℕ → ℕ → ℕ → ℕ → ℕ → Tally
  with packets bytes foreign misfits fragments others =
      record {
        packets = packets;
        bytes = bytes;
        foreign = foreign;
        misfits = misfits;
        fragments = fragments;
        others = others;
      }

  pub count-taken : j.cause ≡ 0 →
      with (t.packets + 1) (t.bytes + j.length) t.foreign t.misfits t.fragments t.others ≡ plus t more
  count-taken z =
      let n = taken z in
      same_tally (omega (arith, n.0)) (omega (arith, n.1)) (omega (arith, by_cause 0 1 z)) (omega (arith, by_cause 0 2 z))
      (omega (arith, by_cause 0 3 z)) (omega (arith, by_cause 0 4 z))

  pub count_foreign : j.cause ≡ 1 →
      with t.packets t.bytes (t.foreign + 1) t.misfits t.fragments t.others ≡ plus t more
  count_foreign z =
      let n = not_taken 1 z (omega arith) in
      same_tally (omega (arith, n.0)) (omega (arith, n.1)) (omega (arith, by_cause 1 1 z)) (omega (arith, by_cause 1 2 z))
      (omega (arith, by_cause 1 3 z)) (omega (arith, by_cause 1 4 z))

  pub count_misfit : j.cause ≡ 2 →
      with t.packets t.bytes t.foreign (t.misfits + 1) t.fragments t.others ≡ plus t more
  count_misfit z =
      let n = not_taken 2 z (omega arith) in
      same_tally (omega (arith, n.0)) (omega (arith, n.1)) (omega (arith, by_cause 2 1 z)) (omega (arith, by_cause 2 2 z))
      (omega (arith, by_cause 2 3 z)) (omega (arith, by_cause 2 4 z))

  pub count_fragment : j.cause ≡ 3 →
      with t.packets t.bytes t.foreign t.misfits (t.fragments + 1) t.others ≡ plus t more
  count_fragment z =
      let n = not_taken 3 z (omega arith) in
      same_tally (omega (arith, n.0)) (omega (arith, n.1)) (omega (arith, by_cause 3 1 z)) (omega (arith, by_cause 3 2 z))
      (omega (arith, by_cause 3 3 z)) (omega (arith, by_cause 3 4 z))

  pub count_other : j.cause ≡ 4 →
      with t.packets t.bytes t.foreign t.misfits t.fragments (t.others + 1) ≡ plus t more
  count_other z =
      let n = not_taken 4 z (omega arith) in
      same_tally (omega (arith, n.0)) (omega (arith, n.1)) (omega (arith, by_cause 4 1 z)) (omega (arith, by_cause 4 2 z))
      (omega (arith, by_cause 4 3 z)) (omega (arith, by_cause 4 4 z))

-- No count is more than the records, nor are their data more than their bytes.
few-entries : (l : List (List ℕ)) → length (entries_of l) ≤ length l
unfolding entries_of
few-entries l = omega (arith, length-map (those (is_for 0) l) entry_of, those-few (is_for 0) l)

few-skipped : (cause : ℕ) (l : List (List ℕ)) → skipped cause l ≤ length l
unfolding skipped
few-skipped cause l = those-few (is_for cause) l

few_of_one : (r : List ℕ) → bytes_of (r ∷ []) ≤ length r
unfolding entry_of
few_of_one r =
    ⊎_elim
    (λ (z : is_for 0 r ≡ true).
    let long = ap (λ (es : List Entry). length (joined (map body_of es))) (entry_taken r (eqb-true (skip_of r) 0 z)) in
    omega (arith, long, ap length (joined_one (entry_of r).body), part-within r (data_at r) (data_length r)))
    (λ (z : is_for 0 r ≡ false).
    let long = ap (λ (es : List Entry). length (joined (map body_of es))) (entry_skipped r (eqb-false (skip_of r) 0 z)) in
    omega (arith, long, length-joined-none))
    (true-or-false (is_for 0 r))

few_bytes : (l : List (List ℕ)) → bytes_of l ≤ length (joined l)
few_bytes [] = omega (arith, bytes-none)
few_bytes (r ∷ more) = omega (arith, bytes-cons r more, few_of_one r, few_bytes more, length-joined r more)

-- The walk.
pub record Surveying (file : List ℕ) (little : Bool) (at : ℕ) (t : Tally) : Type 0 where
  pub order : little ≡ is_little file
  pub counted : plus t (tally_of (records_from (length file) file at little)) ≡ tally_of (records file)
  pub ends : place_from (length file) file at little ≡ last_place file

pub survey_begin : (file : List ℕ) (little : Bool) (at : ℕ) → little ≡ is_little file → at ≡ first_place file →
    Surveying file little at nothing
unfolding records last_place
survey_begin file little at order first-at =
    record {
      order = order;
      counted = none-plus (tally_of (records_from (length file) file at little)) ∙ rw (order, first-at) refl;
      ends = rw (order, first-at) refl;
    }

module _ {file : List ℕ} {little : Bool} {at : ℕ} {t : Tally} (s : Surveying file little at t) where
  module _ (there : whole file at little ≡ true) (packet : List ℕ) (e : packet ≡ bytes_at file at little) where
    abbrev next : List (List ℕ)
    next = records_from (length file) file (after file at little) little

    counted_more : plus (plus t (tally_of (packet ∷ []))) (tally_of next) ≡ tally_of (records file)
    counted_more =
        plus_assoc t (tally_of (packet ∷ [])) (tally_of next)
        ∙ ap (plus t) (sym (tally_cons packet next))
        ∙ ap (λ (p : List ℕ). plus t (tally_of (p ∷ next))) e
        ∙ ap (λ (l : List (List ℕ)). plus t (tally_of l)) (sym (records_step file at little there))
        ∙ s.counted

    pub survey_countable : length file < count_limit → Countable (plus t (tally_of (packet ∷ [])))
    unfolding records
    survey_countable small =
        let all = records file in
        let within = records_within file (is_little file) (length file) (first_place file) in
        record {
          few-packets = omega (arith, ap (λ (x : Tally). x.packets) counted_more, few-entries all, within, small);
          few_bytes = omega (arith, ap (λ (x : Tally). x.bytes) counted_more, few_bytes all, within, small);
          few_foreign = omega (arith, ap (λ (x : Tally). x.foreign) counted_more, few-skipped 1 all, within, small);
          few_misfits = omega (arith, ap (λ (x : Tally). x.misfits) counted_more, few-skipped 2 all, within, small);
          few_fragments = omega (arith, ap (λ (x : Tally). x.fragments) counted_more, few-skipped 3 all, within, small);
          few-others = omega (arith, ap (λ (x : Tally). x.others) counted_more, few-skipped 4 all, within, small);
        }

    pub survey_turn : (at' : ℕ) (t' : Tally) → t' ≡ plus t (tally_of (packet ∷ [])) → at' ≡ after file at little →
        Surveying file little at' t'
    survey_turn at' t' more further =
        record {
          order = s.order;
          counted = rw (more, further) counted_more;
          ends = rw further (sym (place_step file at little there) ∙ s.ends);
        }

  pub survey_end : (cause : ℕ) → whole file at little ≡ false → cause ≡ first (stops file at little) →
      ◌≡◌ {A = Found} (record { cause = cause; tally = t }) (found_in file)
  survey_end cause none why =
      let last = sym (place_end (length file) file at little none) ∙ s.ends in
      let all =
      sym (plus_none t) ∙ ap (plus t) (sym tally_none)
      ∙ ap (λ (l : List (List ℕ)). plus t (tally_of l)) (sym (records_end (length file) file at little none))
      ∙ s.counted in
      let stopped =
      why
      ∙ ap (λ (p : ℕ). first (stops file p little)) last
      ∙ ap (λ (b : Bool). first (stops file (last_place file) b)) s.order in
      λ i. record { cause = stopped i; tally = all i }
