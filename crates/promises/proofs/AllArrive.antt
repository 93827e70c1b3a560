-- Where every packet arrives, once and in the order of sending, the bound is kept and each packet arrives in time: so every frame is
-- whole, and every frame is kept.
use Prim.Native.Nat.{ℕ, zero, suc, ◌+◌, ◌<◌, max}
use mathlib.Core.Path.{◌≡◌, refl, ap}
use mathlib.Core.List.{List, [], ◌∷◌, map}
use native.Mathlib.Omega.{arith}
use lib.ListN.{length, drop, get_or, replicate}
use Rattle.octets.specs.Stretch.{joined}
use Rattle.octets.specs.Each.{Each}
use Rattle.octets.proofs.Elements.{each_both, each-replicate, each_part, drop-first, drop-others}
use Rattle.packet.specs.Header.{Packet, ip, sub, segment_count}
use Rattle.sender.specs.Rules.{Pieces, packet_at}
use Rattle.promises.specs.Arrivals.{WithinBound, Window, InTime, places_from, carriers, Whole, Kept, no_more, kept, lost}

-- n places in a row, the first of them `from`
abbrev pub in_a_row : ℕ → ℕ → List ℕ
in_a_row from zero = []
in_a_row from (suc n) = from ∷ in_a_row (suc from) n

length_in_a_row : (from n : ℕ) → length (in_a_row from n) ≡ n
length_in_a_row from zero = refl
length_in_a_row from (suc n) = ap suc (length_in_a_row (suc from) n)

at_in_a_row : (from n i : ℕ) → i < n → get_or (in_a_row from n) i 0 ≡ from + i
at_in_a_row from zero i l = absurd (omega arith)
at_in_a_row from (suc n) zero l = omega arith
at_in_a_row from (suc n) (suc i) l = omega (arith, at_in_a_row (suc from) n i (omega arith))

-- the packets at these places, from place i on
packets_from : (packets : List Packet) (i : ℕ) (more : List Packet) → drop i packets ≡ more →
    map (packet_at packets) (in_a_row i (length more)) ≡ more
packets_from packets i [] e = refl
packets_from packets i (p ∷ more) e =
    rw (drop-first p more packets i (ip []) e)
    (ap (λ (l : List Packet). p ∷ l) (packets_from packets (suc i) more (drop-others p more packets i e)))

pub all_packets : (packets : List Packet) → map (packet_at packets) (in_a_row 0 (length packets)) ≡ packets
all_packets packets = packets_from packets 0 packets refl

-- each arrival is the place expected next
next_arrives : (from n : ℕ) → WithinBound from (in_a_row from n)
next_arrives from zero = tt
next_arrives from (suc n) =
    let next : max from (suc from) ≡ suc from = omega arith in
    (omega arith, omega arith, rw next (next_arrives (suc from) n))

pub in_bound : (n : ℕ) → Window (in_a_row 0 n)
in_bound zero = tt
in_bound (suc n) = next_arrives 1 n

-- and so each packet arrives before any sent after it
pub in_its_turn : (n k : ℕ) → k < n → InTime (in_a_row 0 n) k
in_its_turn n k l =
    record {
      arrival = k;
      there = omega (arith, length_in_a_row 0 n);
      of_it = omega (arith, at_in_a_row 0 n k l);
      none_later = λ j earlier. omega (arith, at_in_a_row 0 n j (omega arith));
    }

-- Something that holds of each packet's place holds of the places of every frame.
module _ (P : ℕ → Type 0) where
  each-place : (n : ℕ) (packets : List Packet) → ((k : ℕ) → k < n + length packets → P k) → Each P (places_from n packets)
  unfolding places_from
  each-place n [] p = tt
  each-place n (q ∷ packets) p =
      each_both P (replicate (segment_count (sub q)) n) (places_from (suc n) packets)
      (each-replicate P (segment_count (sub q)) n (p n (omega arith)))
      (each-place (suc n) packets (λ k l. p k (omega arith)))

  pub each_carrier : (frames : List Pieces) (packets : List Packet) (i : ℕ) → ((k : ℕ) → k < length packets → P k) →
      Each P (carriers frames packets i)
  unfolding carriers
  each_carrier frames packets i p = each_part P (places_from 0 packets) _ _ (each-place 0 packets (λ k l. p k (omega arith)))

pub all_whole : (frames : List Pieces) (packets : List Packet) (i : ℕ) → Whole (in_a_row 0 (length packets)) frames packets i
all_whole frames packets i = each_carrier (InTime (in_a_row 0 (length packets))) frames packets i (in_its_turn (length packets))

-- Where every frame is whole, every frame is kept.
pub all_kept : {whole : ℕ → Type 0} {i : ℕ} {fs : List Pieces} {out : List (List ℕ)} → ((j : ℕ) → whole j) → Kept whole i fs out →
    out ≡ map joined fs
all_kept w no_more = refl
all_kept w (kept {f = f} here more) = ap (λ (l : List (List ℕ)). joined f ∷ l) (all_kept w more)
all_kept w (lost {i} not-here more) = absurd (not-here (w i))
