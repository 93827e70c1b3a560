-- What the check of a file finds, way out by way out; and what is known of a file that is not refused.
use Prim.Native.Nat.{ℕ, ◌+◌, ◌*◌, ◌<◌, ◌≤◌}
use mathlib.Core.Path.{◌≡◌, refl, sym, ap, ◌∙◌}
use mathlib.Core.Bool.{Bool, true, false, not, cond, ◌&&◌, ◌||◌}
use mathlib.Core.List.{List, [], ◌∷◌}
use native.Mathlib.Omega.{arith}
use lib.Dec.{eqb, ltb, leb}
use lib.ListN.{length}
use borrow.Author.Tests.{lt-ltb, le-ltb, le-leb, lt-leb, ltb-false, eq-eqb, ne_eqb, eqb-true, not-false}
use Rattle.refusal.specs.Refusal.{first, ◌when◌}
use Rattle.refusal.proofs.Laws.{none-applies, none_first}
use Rattle.octets.specs.Count.{any}
use Rattle.octets.specs.Stretch.{part}
use Rattle.octets.proofs.Counts.{or-false-right, any_none, any_at, none_more, none_at, sum-none, sum_more, sum-within}
use Rattle.octets.proofs.Stretches.{length_part}
use Rattle.refusal.specs.declared.Refusal.{Refusal}
use Rattle.refusal.specs.declared.Refusal.TheVariants as refusal
use Rattle.refusal.specs.Number.{number_of}
use Rattle.capture.specs.Inside.{surveyed}
use Rattle.std.proofs.Common.{Ok, Err}
use Rattle.capture.specs.File.{head_length, entry_length, longest_file, most_entries, kinds, body_in}
use Rattle.capture.specs.File.{is_kind, takes_length, entry_count, kind_at, second_at, body_length, body_start, wrong_parts, wrong_entry}
use Rattle.capture.specs.File.{file_refusals, file_refusal, nth_entry, StandsAt}

-- The walk over the entries: after k of them it stands where body k starts, and none was wrong.
pub record Surveying (file : List ℕ) (end k : ℕ) : Type 0 where
  pub stands : end ≡ body_start head_length entry_length file k
  pub none_wrong : any (wrong_entry head_length entry_length file) k ≡ false
  pub small : end ≤ head_length + entry_length * most_entries + 65535 * k

pub start_first : (file : List ℕ) → body_start head_length entry_length file 0 ≡ head_length + entry_length * entry_count head_length file
unfolding body_start
start_first file = let z = sum-none (body_length head_length entry_length file) in omega (arith, z)

pub start-next : (file : List ℕ) (k : ℕ) →
    body_start head_length entry_length file (k + 1)
    ≡ body_start head_length entry_length file k + body_length head_length entry_length file k
unfolding body_start
start-next file k = let m = sum_more (body_length head_length entry_length file) k in omega (arith, m)

pub survey_begin : (file : List ℕ) (count : ℕ) → count ≤ most_entries → count ≡ entry_count head_length file →
    Surveying file (head_length + entry_length * count) 0
survey_begin file count few e =
    record {
      stands = ap (λ (n : ℕ). head_length + entry_length * n) e ∙ sym (start_first file);
      none_wrong = any_none (wrong_entry head_length entry_length file);
      small = omega (arith, few);
    }

pub survey_turn : {file : List ℕ} {end k size : ℕ} → Surveying file end k →
    (size ≡ body_length head_length entry_length file k) × (size ≤ 65535) → wrong_entry head_length entry_length file k ≡ false →
    Surveying file (end + size) (k + 1)
survey_turn {file} {end} {k} {size} s long right =
    record {
      stands = omega (arith, s.stands, long.0, start-next file k);
      none_wrong = none_more (wrong_entry head_length entry_length file) k s.none_wrong right;
      small = omega (arith, s.small, long.1);
    }

-- an entry is as wrong as the parts that were read of it
pub wrong_by_parts : (file : List ℕ) (k : ℕ) {kind size : ℕ} {wrong : Bool} → kind ≡ kind_at head_length entry_length file k →
    size ≡ body_length head_length entry_length file k → wrong ≡ wrong_parts kind (second_at head_length entry_length file k) size →
    wrong ≡ wrong_entry head_length entry_length file k
wrong_by_parts file k {kind} {size} {wrong} its-kind long w =
    w
    ∙ ap (λ (x : ℕ). wrong_parts x (second_at head_length entry_length file k) size) its-kind
    ∙ ap (wrong_parts (kind_at head_length entry_length file k) (second_at head_length entry_length file k)) long

-- what the survey answers at a wrong entry
pub survey_wrong : (file : List ℕ) (count k : ℕ) → k < count → wrong_entry head_length entry_length file k ≡ true →
    Err refusal.EntryWrong ≡ surveyed file count
survey_wrong file count k below wrong = rw (any_at (wrong_entry head_length entry_length file) count k wrong below) refl

-- and what its answer says
answer_by : (wrong : Bool) (end there : ℕ) → Ok end ≡ cond wrong (Err refusal.EntryWrong) (Ok there) → (wrong ≡ false) × (end ≡ there)
answer_by true end there e = cc
answer_by false end there e = (refl, cc)

refusal_by : (wrong : Bool) (r : Refusal) (there : ℕ) → Err r ≡ cond wrong (Err refusal.EntryWrong) (Ok there) →
    (wrong ≡ true) × (r ≡ refusal.EntryWrong)
refusal_by true r there e = (refl, cc)
refusal_by false r there e = cc

-- The ways out of the check, in their order.
module _ (file : List ℕ) where
  pub too_long : longest_file < length file → 41 ≡ file_refusal file
  unfolding file_refusal
  too_long h = rw (lt-ltb longest_file (length file) h) refl

  module _ (short : length file ≤ longest_file) where
    pub no_head : length file < head_length → 42 ≡ file_refusal file
    unfolding file_refusal
    no_head h = rw (le-ltb longest_file (length file) short, lt-ltb (length file) head_length h) refl

    module _ (headed : head_length ≤ length file) (count : ℕ) (e : count ≡ entry_count head_length file) where
      pub too_many_entries : most_entries < count → 43 ≡ file_refusal file
      unfolding file_refusal
      too_many_entries h =
          let many : most_entries < entry_count head_length file = omega (arith, e) in
          rw (
            le-ltb longest_file (length file) short,
            le-ltb (length file) head_length headed,
            lt-leb (entry_count head_length file) most_entries many,
            lt-ltb most_entries (entry_count head_length file) many,
          ) refl

      module _ (few : count ≤ most_entries) where
        few-entries : entry_count head_length file ≤ most_entries
        few-entries = omega (arith, e, few)

        pub contents_cut : length file < head_length + entry_length * count → 42 ≡ file_refusal file
        unfolding file_refusal
        contents_cut h =
            let cut : length file < head_length + entry_length * entry_count head_length file = omega (arith, e, h) in
            rw (
              le-ltb longest_file (length file) short,
              le-ltb (length file) head_length headed,
              le-leb (entry_count head_length file) most_entries few-entries,
              lt-ltb (length file) (head_length + entry_length * entry_count head_length file) cut,
            ) refl

        module _ (whole : head_length + entry_length * count ≤ length file) where
          whole_contents : head_length + entry_length * entry_count head_length file ≤ length file
          whole_contents = omega (arith, e, whole)

          wrong_is : any (wrong_entry head_length entry_length file) count
              ≡ any (wrong_entry head_length entry_length file) (entry_count head_length file)
          wrong_is = ap (any (wrong_entry head_length entry_length file)) e

          end_is : body_start head_length entry_length file count ≡ body_start head_length entry_length file (entry_count head_length file)
          end_is = ap (body_start head_length entry_length file) e

          -- 41 to 43 do not apply
          contents_pass : file_refusal file
              ≡ first (44 when any (wrong_entry head_length entry_length file) (entry_count head_length file)
              ∷ 45 when not (eqb (body_start head_length entry_length file (entry_count head_length file)) (length file)) ∷ [])
          unfolding file_refusal
          contents_pass =
              rw (
                le-ltb longest_file (length file) short,
                le-ltb (length file) head_length headed,
                le-leb (entry_count head_length file) most_entries few-entries,
                le-ltb (length file) (head_length + entry_length * entry_count head_length file) whole_contents,
                le-ltb most_entries (entry_count head_length file) few-entries,
              ) refl

          pub entry_wrong : (r : Refusal) → Err r ≡ surveyed file count → number_of r ≡ file_refusal file
          entry_wrong r said =
              let f = refusal_by (any (wrong_entry head_length entry_length file) count) r _ said in
              ap number_of f.1 ∙ sym (contents_pass ∙ rw (sym wrong_is ∙ f.0) refl)

          module _ (end : ℕ) (said : Ok end ≡ surveyed file count) where
            none_wrong : any (wrong_entry head_length entry_length file) (entry_count head_length file) ≡ false
            none_wrong = sym wrong_is ∙ (answer_by (any (wrong_entry head_length entry_length file) count) end _ said).0

            there : end ≡ body_start head_length entry_length file (entry_count head_length file)
            there = (answer_by (any (wrong_entry head_length entry_length file) count) end _ said).1 ∙ end_is

            pub not_filled : (end ≡ length file → ⊥) → 45 ≡ file_refusal file
            not_filled h =
                let apart =
                ne_eqb (body_start head_length entry_length file (entry_count head_length file)) (length file) (λ z. h (there ∙ z)) in
                sym (contents_pass ∙ rw (none_wrong, apart) refl)

            pub sound_file : end ≡ length file → 0 ≡ file_refusal file
            sound_file h =
                let same = eq-eqb (body_start head_length entry_length file (entry_count head_length file)) (length file) (sym there ∙ h) in
                sym (contents_pass ∙ rw (none_wrong, same) refl)

-- What is so of a file that is not refused: the refusals 41 to 45, each denied.
pub record Sound (file : List ℕ) : Type 0 where
  pub short : length file ≤ longest_file
  pub few : entry_count head_length file ≤ most_entries
  pub contents_inside : head_length + entry_length * entry_count head_length file ≤ length file
  pub none_wrong : any (wrong_entry head_length entry_length file) (entry_count head_length file) ≡ false
  pub ends : body_start head_length entry_length file (entry_count head_length file) ≡ length file

-- a file that is not refused is sound
pub is_sound : (file : List ℕ) → file_refusal file ≡ 0 → Sound file
unfolding file_refusal
is_sound file z =
    let none = none-applies (file_refusals head_length entry_length file) refl z in
    let its-few = ltb-false most_entries (entry_count head_length file) none.1.1.0 in
    let too_short = ltb (length file) (head_length + entry_length * entry_count head_length file) in
    let inside : (leb (entry_count head_length file) most_entries && too_short) ≡ false =
    or-false-right (ltb (length file) head_length) (leb (entry_count head_length file) most_entries && too_short) none.1.0 in
    let its_end = eqb (body_start head_length entry_length file (entry_count head_length file)) (length file) in
    record {
      short = ltb-false longest_file (length file) none.0;
      few = its-few;
      contents_inside =
          ltb-false (length file) (head_length + entry_length * entry_count head_length file)
          (rw (le-leb (entry_count head_length file) most_entries its-few) at inside);
      none_wrong = none.1.1.1.0;
      ends =
          eqb-true (body_start head_length entry_length file (entry_count head_length file)) (length file)
          (not-false its_end none.1.1.1.1.0);
    }

-- .. and a sound file is not refused
pub sound_passes : (file : List ℕ) → Sound file → file_refusal file ≡ 0
unfolding file_refusal
sound_passes file sound =
    let n = entry_count head_length file in
    let long : head_length ≤ length file = omega (arith, sound.contents_inside) in
    let too_short : (ltb (length file) head_length || (leb n most_entries && ltb (length file) (head_length + entry_length * n))) ≡ false =
    rw (
      le-ltb (length file) head_length long,
      le-leb n most_entries sound.few,
      le-ltb (length file) (head_length + entry_length * n) sound.contents_inside,
    ) refl in
    none_first (file_refusals head_length entry_length file) (
      le-ltb longest_file (length file) sound.short,
      (
        too_short,
        (
          le-ltb most_entries n sound.few,
          (
            sound.none_wrong,
            (ap not (eq-eqb (body_start head_length entry_length file n) (length file) sound.ends), tt),
          ),
        ),
      ),
    )

-- where a walk stands, the entry and its body lie in the file
starts_before : (file : List ℕ) (k n : ℕ) → k < n →
    body_start head_length entry_length file k + body_length head_length entry_length file k ≤ body_start head_length entry_length file n
unfolding body_start
starts_before file k n below = let w = sum-within (body_length head_length entry_length file) k n below in omega (arith, w)

pub entry_inside : {file : List ℕ} {index start : ℕ} → StandsAt file index start →
    (head_length + entry_length * index + entry_length ≤ length file) × (index ≤ most_entries)
entry_inside {file} {index} {start} s =
    let f = is_sound file s.sound in
    (omega (arith, f.contents_inside, s.not_past), omega (arith, f.few, s.not_past))

pub body-inside : {file : List ℕ} {index start size : ℕ} → StandsAt file index start →
    size ≡ body_length head_length entry_length file index → start + size ≤ length file
body-inside {file} {index} {start} {size} s e =
    let f = is_sound file s.sound in
    omega (arith, f.ends, s.its_start, e, starts_before file index (entry_count head_length file) s.not_past)

pub body_is : {file : List ℕ} {index start size : ℕ} → StandsAt file index start → size ≡ body_length head_length entry_length file index →
    part file start size ≡ (nth_entry file index).body
unfolding nth_entry
body_is {file} {index} {start} {size} s e =
    ap (λ (x : ℕ). part file x size) s.its_start ∙ ap (part file (body_start head_length entry_length file index)) e

pub body_long : {file : List ℕ} {index start : ℕ} → StandsAt file index start →
    length (nth_entry file index).body ≡ body_length head_length entry_length file index
body_long {file} {index} {start} s =
    sym (ap length (body_is s refl)) ∙ length_part file start (body_length head_length entry_length file index) (body-inside s refl)

-- the kind of an entry takes the length of its body
pub entry_right : {file : List ℕ} {index start : ℕ} → StandsAt file index start →
    takes_length (body_in kinds (kind_at head_length entry_length file index)) (length (nth_entry file index).body) ≡ true
entry_right {file} {index} {start} s =
    let kind = kind_at head_length entry_length file index in
    let second = second_at head_length entry_length file index in
    let size = body_length head_length entry_length file index in
    let right : wrong_parts kind second size ≡ false =
    none_at (wrong_entry head_length entry_length file) (entry_count head_length file) index (is_sound file s.sound).none_wrong
    s.not_past in
    let last =
    or-false-right (not (is_kind (body_in kinds kind)) || not (eqb second 0)) (not (takes_length (body_in kinds kind) size)) right in
    ap (takes_length (body_in kinds kind)) (body_long s) ∙ not-false (takes_length (body_in kinds kind) size) last
