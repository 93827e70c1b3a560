-- The walk along packets is the walk along their segments, each with the place of its packet. A packet has a segment, so what is held is
-- lost with a missing packet just as with its missing segments.
use Prim.Native.Nat.{ℕ, suc, ◌≤◌}
use mathlib.Core.Path.{◌≡◌, refl, sym, ap, ◌∙◌}
use mathlib.Core.Bool.{Bool, true, false}
use mathlib.Core.List.{List, [], ◌∷◌, ◌++◌, append_assoc}
use native.Mathlib.Omega.{arith}
use lib.ListN.{length, replicate, length-append, length-replicate}
use Rattle.octets.specs.Each.{Each}
use Rattle.octets.proofs.Counts.{length-up_to}
use Rattle.flow.specs.Flow.{longest}
use Rattle.packet.specs.Header.{Packet, sub, segment_count}
use Rattle.packet.specs.Segments.{Segment, entry_width, segments, segment_at}
use Rattle.join.specs.Join.{fate}
use Rattle.sender.specs.Rules.{segments_of, all_segments}
use Rattle.promises.specs.Arrivals.{places_from}
use Rattle.promises.proofs.FromTheFront.{given, left}
use Rattle.promises.proofs.Walk.{walk}
use Rattle.promises.proofs.Arrivals.{gives, leaves, along}

-- the segments of one packet, which stand at place n
module _ (came : ℕ → Bool) (n : ℕ) where
  all_came : came n ≡ true → (held : List ℕ) (segs : List Segment) (ks : List ℕ) (ss : List Segment) →
      walk came held (replicate (length segs) n ++ ks) (segs ++ ss) ≡ given held segs ++ walk came (left held segs) ks ss
  all_came e held [] ks ss = refl
  all_came e held (s ∷ segs) ks ss = rw (e, all_came e (fate longest held s).held segs ks ss, append_assoc)

  all_missing : came n ≡ false → (segs : List Segment) (ks : List ℕ) (ss : List Segment) →
      walk came [] (replicate (length segs) n ++ ks) (segs ++ ss) ≡ walk came [] ks ss
  all_missing e [] ks ss = refl
  all_missing e (s ∷ segs) ks ss = rw e (all_missing e segs ks ss)

  one_packet : (t : Bool) → came n ≡ t → (held : List ℕ) (segs : List Segment) (ks : List ℕ) (ss : List Segment) → 1 ≤ length segs →
      walk came held (replicate (length segs) n ++ ks) (segs ++ ss) ≡ gives t held segs ++ walk came (leaves t held segs) ks ss
  one_packet true e held segs ks ss some = all_came e held segs ks ss
  one_packet false e held [] ks ss some = absurd (omega arith)
  one_packet false e held (s ∷ segs) ks ss some = rw e (all_missing e segs ks ss)

-- a packet has as many segments as it counts
pub counted : (p : Packet) → length (segments_of entry_width p) ≡ segment_count (sub p)
unfolding segments
counted p = length-up_to (segment_at entry_width (sub p)) (segment_count (sub p))

pub along_segments : (came : ℕ → Bool) (n : ℕ) (held : List ℕ) (packets : List Packet) →
    Each (λ p. 1 ≤ length (segments_of entry_width p)) packets →
    along came n held packets ≡ walk came held (places_from n packets) (all_segments entry_width packets)
unfolding places_from all_segments
along_segments came n held [] some = refl
along_segments came n held (p ∷ packets) some =
    ap (λ r. gives (came n) held (segments_of entry_width p) ++ r)
    (along_segments came (suc n) (leaves (came n) held (segments_of entry_width p)) packets some.1)
    ∙ sym (rw (counted p) at
    (one_packet came n (came n) refl held (segments_of entry_width p) (places_from (suc n) packets)
    (all_segments entry_width packets) some.0))

-- each segment has its place
pub places-length : (n : ℕ) (packets : List Packet) → length (places_from n packets) ≡ length (all_segments entry_width packets)
unfolding places_from all_segments
places-length n [] = refl
places-length n (p ∷ packets) =
    omega (
      arith,
      length-append (replicate (segment_count (sub p)) n) (places_from (suc n) packets),
      length-replicate (segment_count (sub p)) n,
      counted p,
      length-append (segments_of entry_width p) (all_segments entry_width packets),
      places-length (suc n) packets,
    )
