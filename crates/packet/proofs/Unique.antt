-- No call of this crate leaves its outcome open: something is permitted, and any two permitted outcomes are the same. A slice that is
-- given back is the same when it points to the same place and has the same bytes; its third part, the name under which the prover
-- follows it, is nothing that a program has.
use Prim.Native.Nat.{ℕ, zero, suc, ◌+◌}
use mathlib.Core.Path.{◌≡◌, refl, sym, ap, ◌∙◌}
use mathlib.Core.Bool.{Bool, true, false, cond}
use mathlib.Core.List.{List, [], ◌∷◌, ◌++◌}
use native.Mathlib.Omega.{arith}
use lib.Dec.{eqb, leb}
use Rattle.std.specs.Prelude.{Result, Ok, Err}
use denote.Ref.{Bor}
use Rattle.refusal.specs.declared.Refusal.{Refusal}
use Rattle.refusal.specs.Refusal.{◌when◌}
use Rattle.refusal.specs.Number.{number_of}
use Rattle.refusal.proofs.Numbers.{number_some, by_number, number_of-one, told, first_told}
use Rattle.packet.specs.declared.Extent.{Extent}
use Rattle.packet.specs.Header.{Packet, packet_by, before_session, segment_count, sub}
use Rattle.packet.specs.Segments.{entry_width}
use Rattle.packet.specs.Psp.{psp_refusals}
use Rattle.packet.specs.Dmpt.{dmpt_refusals}
use Rattle.packet.specs.Check.{kind_psp, kind_unknown, segmentless, check_refusals, cause_refusals}
use Rattle.packet.specs.Check.{check, segment_cause, segment_extent, segment_given, CopyOutcome, segment_copied}
use Rattle.packet.specs.Check.{PermitsCheck, PermitsSegmentCause, PermitsSegmentExtent, FindsSegment, PermitsSegmentCopy, PermitsSegment}
use Rattle.packet.proofs.Asked.{extent_refused}

pub check-permitted : (kind : ℕ) (p : Packet) → PermitsCheck kind p (check kind p)
check-permitted kind p = refl

pub check_unique : (kind : ℕ) (p : Packet) (a b : ℕ) → PermitsCheck kind p a → PermitsCheck kind p b → a ≡ b
check_unique kind p a b one other = one ∙ sym other

pub cause_permitted : (kind : ℕ) (p : Packet) (k : ℕ) → PermitsSegmentCause kind p k (segment_cause kind p k)
cause_permitted kind p k = refl

pub cause_unique : (kind : ℕ) (p : Packet) (k a b : ℕ) → PermitsSegmentCause kind p k a → PermitsSegmentCause kind p k b → a ≡ b
cause_unique kind p k a b one other = one ∙ sym other

pub extent_permitted : (kind : ℕ) (p : Packet) (k : ℕ) → PermitsSegmentExtent kind p k (segment_extent kind p k)
extent_permitted kind p k = refl

pub extent_unique : (kind : ℕ) (p : Packet) (k : ℕ) (a b : Extent) →
    PermitsSegmentExtent kind p k a → PermitsSegmentExtent kind p k b → a ≡ b
extent_unique kind p k a b one other = one ∙ sym other

-- .. and what the code answers before C is told of it: the extent, or the refusal, which is one, since no two have the same number.
module _ (kind : ℕ) (p : Packet) (k : ℕ) where
  found_by : ℕ → Result Extent Refusal
  found_by zero = Ok (segment_extent kind p k)
  found_by (suc c) = Err (by_number (suc c))

  pub found : Result Extent Refusal
  found = found_by (segment_cause kind p k)

  -- each line of the order has the number of a refusal
  cause_told : told (cause_refusals kind p k) ≡ true
  unfolding cause_refusals check_refusals by_number
  cause_told = either (eqb kind kind_psp)
    where
      either : (b : Bool) →
          told (24 when segmentless kind ∷ (24 when kind_unknown kind ∷ before_session p
          ++ cond b (psp_refusals entry_width (sub p)) (dmpt_refusals (sub p))) ++ (14 when leb (segment_count (sub p)) k ∷ [])) ≡ true
      either true = refl
      either false = refl

  by_cause : (c : ℕ) → segment_cause kind p k ≡ c → FindsSegment kind p k (found_by c)
  unfolding found_by segment_cause
  by_cause zero e = (e, refl)
  by_cause (suc c) e =
      sym (ap (λ (n : ℕ). number_of (by_number n)) e)
      ∙ first_told (cause_refusals kind p k) cause_told (λ z. let no : ⊥ = omega (arith, z, e) in no)

  pub found_permitted : FindsSegment kind p k found
  unfolding found
  found_permitted = by_cause (segment_cause kind p k) refl

pub found_unique : (kind : ℕ) (p : Packet) (k : ℕ) (a b : Result Extent Refusal) → FindsSegment kind p k a → FindsSegment kind p k b → a ≡ b
found_unique kind p k (Ok a) (Ok b) one other = ap (λ (e : Extent). Ok e) (one.1 ∙ sym other.1)
found_unique kind p k (Ok a) (Err b) one other = absurd (number_some b (other ∙ one.0))
found_unique kind p k (Err a) (Ok b) one other = absurd (number_some a (one ∙ other.0))
found_unique kind p k (Err a) (Err b) one other =
    ap (λ (r : Refusal). Err r) (number_of-one a b (one ∙ sym other))

-- What C is told of it is the extent that is permitted: where the request is refused, start 0 and size 0.
abbrev pub extent_told : Result Extent Refusal → Extent
extent_told (Ok e) = e
extent_told (Err r) = record { start = 0; size = 0 }

pub found_extent : (kind : ℕ) (p : Packet) (k : ℕ) (found : Result Extent Refusal) →
    FindsSegment kind p k found → PermitsSegmentExtent kind p k (extent_told found)
found_extent kind p k (Ok e) finds = finds.1
found_extent kind p k (Err r) finds = sym (extent_refused kind p k (λ z. number_some r (finds ∙ z)))

pub copy_permitted : (kind : ℕ) (p : Packet) (k : ℕ) (output : List ℕ) → PermitsSegmentCopy kind p k output (segment_copied kind p k output)
copy_permitted kind p k output = refl

pub copy_unique : (kind : ℕ) (p : Packet) (k : ℕ) (output : List ℕ) (a b : CopyOutcome) →
    PermitsSegmentCopy kind p k output a → PermitsSegmentCopy kind p k output b → a ≡ b
copy_unique kind p k output a b one other = one ∙ sym other

pub segment_permitted : (kind transport : ℕ) (packet : Bor (List ℕ)) (k : ℕ) →
    PermitsSegment kind transport packet k
    (record {
      ref_ptr = (packet.ref_ptr.0, packet.ref_ptr.1 + (segment_extent kind (packet_by transport packet.now) k).start);
      now = segment_given kind (packet_by transport packet.now) k;
    })
segment_permitted kind transport packet k = record { in_the_packet = refl; at_its_place = refl; its_bytes = refl }

pub segment_unique : (kind transport : ℕ) (packet : Bor (List ℕ)) (k : ℕ) (a b : Bor (List ℕ)) →
    PermitsSegment kind transport packet k a → PermitsSegment kind transport packet k b →
    (a.ref_ptr.0 ≡ b.ref_ptr.0) × (a.ref_ptr.1 ≡ b.ref_ptr.1) × (a.now ≡ b.now)
segment_unique kind transport packet k a b p q =
    (p.in_the_packet ∙ sym q.in_the_packet, p.at_its_place ∙ sym q.at_its_place, p.its_bytes ∙ sym q.its_bytes)
