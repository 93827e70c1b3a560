-- The frames that a call has left in two slices, how many they are and how long, and how they are put behind those gathered before.
use Prim.Native.Nat.{ℕ, ◌+◌, ◌<◌, ◌≤◌}
use mathlib.Core.Path.{◌≡◌, sym, ap, ◌∙◌}
use mathlib.Core.List.{List, [], ◌∷◌, ◌++◌}
use native.Mathlib.Omega.{arith}
use lib.ListN.{length, set}
use Rattle.octets.specs.Bytes.{byte_at}
use Rattle.octets.specs.Count.{sum_to}
use Rattle.octets.specs.Stretch.{part, put, joined, lengths_of}
use Rattle.octets.proofs.Counts.{sum-none, sum_more}
use Rattle.octets.proofs.Stretches.{length_part, part_none, part_more, length-put, put-nil, put-put, set-put, length-lengths_of}
use Rattle.octets.proofs.Stretches.{total, total-part, lengths_of-cut, joined-cut}
use Rattle.card.specs.Receive.{frames_found}
use Rattle.replay.specs.declared.Lent.{Lent}
use Rattle.pspmpeg.specs.declared.gather.Gathered.{Gathered}
use Rattle.pspmpeg.specs.Inside.{Adds, FitsFound}

-- the frames that a call has left in two slices
module _ (output lengths : List ℕ) (more : ℕ) (lengths-there : more ≤ length lengths)
    (bytes-there : sum_to (byte_at lengths) more ≤ length output) where
  total_is : total (part lengths 0 more) ≡ sum_to (byte_at lengths) more
  total_is = total-part lengths more lengths-there

  pub found-lengths : lengths_of (frames_found more lengths output) ≡ part lengths 0 more
  found-lengths = lengths_of-cut (part lengths 0 more) output (omega (arith, total_is, bytes-there))

  pub found-joined : joined (frames_found more lengths output) ≡ part output 0 (sum_to (byte_at lengths) more)
  found-joined = joined-cut (part lengths 0 more) output ∙ ap (part output 0) total_is

  pub found_many : length (frames_found more lengths output) ≡ more
  found_many =
      sym (length-lengths_of (frames_found more lengths output)) ∙ ap length found-lengths
      ∙ length_part lengths 0 more (omega (arith, lengths-there))

  pub found_long : length (joined (frames_found more lengths output)) ≡ sum_to (byte_at lengths) more
  found_long = ap length found-joined ∙ length_part output 0 (sum_to (byte_at lengths) more) (omega (arith, bytes-there))

-- Their lengths, put one by one behind those before.
pub record Appending (lengths sizes₀ sizes : List ℕ) (count more sum i : ℕ) : Type 0 where
  pub within : i ≤ more
  pub sizes_now : sizes ≡ put sizes₀ count (part lengths 0 i)
  pub sum_is : sum ≡ sum_to (byte_at lengths) i

pub append-begin : (lengths sizes : List ℕ) (count more : ℕ) → Appending lengths sizes sizes count more 0 0
append-begin lengths sizes count more =
    record {
      within = omega arith;
      sizes_now = sym (ap (put sizes count) (part_none lengths 0) ∙ put-nil sizes count);
      sum_is = sym (sum-none (byte_at lengths));
    }

module _ {lengths sizes₀ sizes : List ℕ} {count more sum i : ℕ} (a : Appending lengths sizes₀ sizes count more sum i)
    (lengths-there : more ≤ length lengths) (sizes_fit : count + more ≤ length sizes₀) where
  so_long : length (part lengths 0 i) ≡ i
  so_long = length_part lengths 0 i (omega (arith, a.within, lengths-there))

  pub sizes-same : length sizes ≡ length sizes₀
  sizes-same = ap length a.sizes_now ∙ length-put sizes₀ count (part lengths 0 i) (omega (arith, so_long, a.within, sizes_fit))

  pub append_turn : i < more → (size : ℕ) → size ≡ byte_at lengths i → {sizes' : List ℕ} → sizes' ≡ set sizes (count + i) size →
      Appending lengths sizes₀ sizes' count more (sum + size) (i + 1)
  append_turn h size e {sizes'} w =
      let below : count + i < length sizes = omega (arith, sizes-same, h, sizes_fit) in
      let behind : count + i ≡ count + length (part lengths 0 i) = omega (arith, so_long) in
      record {
        within = omega (arith, h);
        sizes_now =
            w ∙ set-put sizes (count + i) size below
            ∙ ap (λ (l : List ℕ). put l (count + i) (size ∷ [])) a.sizes_now
            ∙ ap (λ (n : ℕ). put (put sizes₀ count (part lengths 0 i)) n (size ∷ [])) behind
            ∙ put-put sizes₀ count (part lengths 0 i) (size ∷ []) (omega (arith, so_long, a.within, sizes_fit))
            ∙ ap (λ (n : ℕ). put sizes₀ count (part lengths 0 i ++ (n ∷ []))) e
            ∙ ap (put sizes₀ count) (sym (part_more lengths i (omega (arith, h, lengths-there))));
        sum_is = omega (arith, a.sum_is, e, sum_more (byte_at lengths) i);
      }

  pub all_appended : more ≤ i → (sizes ≡ put sizes₀ count (part lengths 0 more)) × (sum ≡ sum_to (byte_at lengths) more)
  all_appended past =
      let all : i ≡ more = omega (arith, a.within, past) in
      (a.sizes_now ∙ ap (λ (n : ℕ). put sizes₀ count (part lengths 0 n)) all, a.sum_is ∙ ap (sum_to (byte_at lengths)) all)

pub append_adds : {lent : Lent} {more sum : ℕ} {before after : Gathered} → FitsFound lent more before →
    after.bytes.now ≡ put before.bytes.now before.total (part lent.output.now 0 sum) →
    (after.sizes.now ≡ put before.sizes.now before.count (part lent.lengths.now 0 more)) × (sum ≡ sum_to (byte_at lent.lengths.now) more) →
    after.count ≡ before.count + more → after.total ≡ before.total + sum →
    Adds (frames_found more lent.lengths.now lent.output.now) before after
append_adds {lent} {more} {sum} {before} {after} f b (s, e) n t =
    let output = lent.output.now in
    let lengths = lent.lengths.now in
    record {
      bytes_then = b ∙ ap (λ (n : ℕ). put before.bytes.now before.total (part output 0 n)) e
          ∙ ap (put before.bytes.now before.total) (sym (found-joined output lengths more f.lengths-there f.bytes-there));
      sizes_then =
          s ∙ ap (put before.sizes.now before.count) (sym (found-lengths output lengths more f.lengths-there f.bytes-there));
      count_then = omega (arith, n, found_many output lengths more f.lengths-there f.bytes-there);
      total_then = omega (arith, t, e, found_long output lengths more f.lengths-there f.bytes-there);
    }
