-- How the frames of a session are gathered, entry by entry: after each entry the frames delivered so far stand at the front of the slices
-- (`Gathering`, the loop's invariant).
use Prim.Native.Nat.{ℕ, suc, ◌+◌, ◌<◌, ◌≤◌}
use mathlib.Core.Path.{◌≡◌, sym, ap, subst, ◌∙◌}
use mathlib.Core.Bool.{Bool, true, false, cond}
use mathlib.Core.List.{List, []}
use native.Mathlib.Numerals.{add-one}
use native.Mathlib.Omega.{arith}
use lib.ListN.{length, length-append}
use Rattle.octets.specs.Bytes.{byte_at}
use Rattle.octets.specs.Count.{sum_to}
use Rattle.octets.specs.Stretch.{put, joined, lengths_of}
use Rattle.octets.proofs.Stretches.{length-put, put-nil, put-put_front, joined-none, length-joined-none, joined-append}
use Rattle.octets.proofs.Stretches.{lengths_of-none, lengths_of-append, length-lengths_of}
use Rattle.card.specs.Receive.{frames_found}
use Rattle.card.specs.History.{frames_of}
use Rattle.capture.specs.File.{head_length, entry_length, longest_file, most_entries, entry_count, kind_at, nth_entry}
use Rattle.capture.proofs.Checking.{is_sound}
use Rattle.replay.specs.declared.Lent.{Lent}
use Rattle.replay.specs.declared.Walk.{Walk}
use Rattle.replay.specs.declared.Stepped.{Stepped}
use Rattle.replay.specs.Run.{Running, standing, answer_at}
use Rattle.replay.specs.Inside.{Stands, GoesOn, Steps, Findable}
use Rattle.replay.proofs.Standing.{frames_found_lem, frames_findable}
use Rattle.pspmpeg.specs.declared.gather.Gathered.{Gathered}
use Rattle.outputs.specs.Stream.{is_for, frames_at, delivered_before, delivered}
use Rattle.pspmpeg.specs.Inside.{most_gathered, Adds, Fits, FitsFound, Gathers}
use Rattle.pspmpeg.proofs.Cutting.{found_many, found_long}
use Rattle.pspmpeg.proofs.Rooms.{few_bytes, few-frames}

-- One entry. What is said of it before it is run is what the definition says.
module _ {file : List ℕ} {w : Walk} {lent : Lent} (s : Stands file w lent) (session : ℕ) where
  pub chosen : (kind : ℕ) (body : List ℕ) (wanted : Bool) → kind ≡ kind_at head_length entry_length file w.index →
      body ≡ (nth_entry file w.index).body →
      wanted ≡ is_for session w.table (record { kind = kind; body = body }) →
      frames_at session file w.index ≡ cond wanted (frames_of (answer_at file w.index)) []
  unfolding frames_at nth_entry
  chosen kind body wanted k b e =
      let same : wanted ≡ is_for session (standing file w.index).card.table (nth_entry file w.index) =
      e
      ∙ ap (λ (n : ℕ). is_for session w.table (record { kind = n; body = body })) k
      ∙ ap (λ (l : List ℕ). is_for session w.table (record { kind = kind_at head_length entry_length file w.index; body = l })) b
      ∙ ap (λ (r : Running). is_for session r.card.table (nth_entry file w.index)) s.its_run in
      ap (λ (t : Bool). cond t (frames_of (answer_at file w.index)) []) (sym same)

pub not_chosen : (found : List (List ℕ)) {frames : List (List ℕ)} {wanted : Bool} {g : Gathered} → frames ≡ cond wanted found [] →
    wanted ≡ false → Adds frames g g
not_chosen found {frames} {wanted} {g} e n =
    let none : frames ≡ [] = e ∙ ap (λ (t : Bool). cond t found []) n in
    rw none
    (record {
      bytes_then = sym (ap (put g.bytes.now g.total) joined-none ∙ put-nil g.bytes.now g.total);
      sizes_then = sym (ap (put g.sizes.now g.count) lengths_of-none ∙ put-nil g.sizes.now g.count);
      count_then = omega arith;
      total_then = omega (arith, length-joined-none);
    })

-- .. and its frames lie in the slices that the step leaves
module _ {file : List ℕ} {w further : Walk} {s : Stepped} {lent : Lent} (stepped : Steps file w s further lent) where
  abbrev more : ℕ
  more = s.answer.frames

  abbrev found : List (List ℕ)
  found = frames_found more lent.lengths.now lent.output.now

  there : Findable lent.output.now lent.lengths.now more
  there = frames_findable stepped

  lengths-there : more ≤ length lent.lengths.now
  lengths-there = omega (arith, there.few, there.lengths_long)

  bytes-there : sum_to (byte_at lent.lengths.now) more ≤ length lent.output.now
  bytes-there = omega (arith, there.all_short, there.output_long)

  module _ {frames : List (List ℕ)} {wanted : Bool} (e : frames ≡ cond wanted (frames_of (answer_at file w.index)) [])
      (y : wanted ≡ true) where
    frames_are : frames ≡ found
    frames_are = e ∙ ap (λ (t : Bool). cond t (frames_of (answer_at file w.index)) []) y ∙ sym (frames_found_lem stepped)

    pub fits-found : {g : Gathered} → Fits frames g → FitsFound lent more g
    fits-found f =
        record {
          lengths-there = lengths-there;
          bytes-there = bytes-there;
          bytes_fit =
              omega (
                arith,
                f.bytes_fit,
                ap (λ (l : List (List ℕ)). length (joined l)) frames_are,
                found_long lent.output.now lent.lengths.now more lengths-there bytes-there,
              );
          sizes_fit =
              omega (
                arith,
                f.sizes_fit,
                ap (λ (l : List (List ℕ)). length l) frames_are,
                found_many lent.output.now lent.lengths.now more lengths-there bytes-there,
              );
        }

    pub adds_found : {before after : Gathered} → Adds found before after → Adds frames before after
    adds_found {before} {after} a = subst (λ (l : List (List ℕ)). Adds l before after) (sym frames_are) a

-- All entries.
pub record Gathering (session : ℕ) (file bytes sizes : List ℕ) (w : Walk) (lent : Lent) (gathered : Gathered) : Type 0 where
  pub stands : Stands file w lent
  pub so_far : Gathers (delivered_before session file w.index) bytes sizes gathered

pub gather_begin : {session : ℕ} {file : List ℕ} {w : Walk} {lent : Lent} {gathered : Gathered} → Stands file w lent → w.index ≡ 0 →
    gathered.count ≡ 0 → gathered.total ≡ 0 →
    Gathering session file gathered.bytes.now gathered.sizes.now w lent gathered
unfolding delivered_before
gather_begin {session} {file} {w} {lent} {gathered} s z no-frames no-bytes =
    record {
      stands = s;
      so_far =
          subst (λ (n : ℕ). Gathers (delivered_before session file n) gathered.bytes.now gathered.sizes.now gathered) (sym z)
          (record {
            bytes_now = sym (ap (put gathered.bytes.now 0) joined-none ∙ put-nil gathered.bytes.now 0);
            sizes_now = sym (ap (put gathered.sizes.now 0) lengths_of-none ∙ put-nil gathered.sizes.now 0);
            counted = no-frames;
            total_is = no-bytes ∙ sym length-joined-none;
          });
    }

module _ {session : ℕ} {file bytes sizes : List ℕ} {w : Walk} {lent : Lent} {gathered : Gathered}
    (g : Gathering session file bytes sizes w lent gathered) (bytes-long : longest_file ≤ length bytes)
    (sizes-long : most_gathered ≤ length sizes) where
  abbrev before : List (List ℕ)
  before = delivered_before session file w.index

  few : w.index ≤ most_entries
  few = omega (arith, g.stands.within, (is_sound file g.stands.sound).few)

  short : length (joined before) ≤ longest_file
  short = few_bytes session file w.index g.stands.sound g.stands.within

  many : length before ≤ most_gathered
  many = omega (arith, few-frames session file w.index, few)

  pub bytes_same : length gathered.bytes.now ≡ length bytes
  bytes_same = ap length g.so_far.bytes_now ∙ length-put bytes 0 (joined before) (omega (arith, short, bytes-long))

  pub sizes-same : length gathered.sizes.now ≡ length sizes
  sizes-same =
      ap length g.so_far.sizes_now ∙ length-put sizes 0 (lengths_of before) (omega (arith, length-lengths_of before, many, sizes-long))

  module _ (more : w.index < entry_count head_length file) where
    abbrev next : List (List ℕ)
    next = frames_at session file w.index

    joined-next : length (joined (delivered_before session file (suc w.index))) ≡ length (joined before) + length (joined next)
    unfolding delivered_before
    joined-next = ap length (joined-append before next) ∙ length-append (joined before) (joined next)

    length-next : length (delivered_before session file (suc w.index)) ≡ length before + length next
    unfolding delivered_before
    length-next = length-append before next

    pub next_fits : Fits next gathered
    next_fits =
        record {
          bytes_fit =
              omega (
                arith,
                bytes_same,
                bytes-long,
                g.so_far.total_is,
                joined-next,
                few_bytes session file (suc w.index) g.stands.sound (omega (arith, more)),
              );
          sizes_fit =
              omega (
                arith,
                sizes-same,
                sizes-long,
                g.so_far.counted,
                length-next,
                few-frames session file (suc w.index),
                more,
                (is_sound file g.stands.sound).few,
              );
        }

    pub gather_turn : {w' : Walk} {lent' : Lent} {gathered' : Gathered} → GoesOn file w w' lent' → Adds next gathered gathered' →
        Gathering session file bytes sizes w' lent' gathered'
    unfolding delivered_before
    gather_turn {w'} {lent'} {gathered'} on a =
        let index : w'.index ≡ suc w.index = on.one_on ∙ add-one w.index in
        record {
          stands = on.stands;
          so_far =
              subst (λ (n : ℕ). Gathers (delivered_before session file n) bytes sizes gathered') (sym index)
              (record {
                bytes_now =
                    a.bytes_then ∙ ap (λ (l : List ℕ). put l gathered.total (joined next)) g.so_far.bytes_now
                    ∙ ap (λ (n : ℕ). put (put bytes 0 (joined before)) n (joined next)) g.so_far.total_is
                    ∙ put-put_front bytes (joined before) (joined next) (omega (arith, short, bytes-long))
                    ∙ ap (put bytes 0) (sym (joined-append before next));
                sizes_now =
                    a.sizes_then ∙ ap (λ (l : List ℕ). put l gathered.count (lengths_of next)) g.so_far.sizes_now
                    ∙ ap (λ (n : ℕ). put (put sizes 0 (lengths_of before)) n (lengths_of next))
                    (g.so_far.counted ∙ sym (length-lengths_of before))
                    ∙ put-put_front sizes (lengths_of before) (lengths_of next) (omega (arith, length-lengths_of before, many, sizes-long))
                    ∙ ap (put sizes 0) (sym (lengths_of-append before next));
                counted = a.count_then ∙ ap (λ (n : ℕ). n + length next) g.so_far.counted ∙ sym length-next;
                total_is = a.total_then ∙ ap (λ (n : ℕ). n + length (joined next)) g.so_far.total_is ∙ sym joined-next;
              });
        }

  pub gather_end : entry_count head_length file ≤ w.index →
      Gathers (delivered session file) bytes sizes gathered × (gathered.total ≤ longest_file)
      × (gathered.count ≤ most_gathered)
  gather_end past =
      let all : w.index ≡ entry_count head_length file = omega (arith, g.stands.within, past) in (
        subst (λ (n : ℕ). Gathers (delivered_before session file n) bytes sizes gathered) all g.so_far,
        omega (arith, g.so_far.total_is, short),
        omega (arith, g.so_far.counted, many),
      )
