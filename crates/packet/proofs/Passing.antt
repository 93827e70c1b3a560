-- What a packet that is not refused is known to have, one record for each stretch of the orders. The data call and the theorems above
-- take their bounds from here: a packet that passes is as long as its parts, so every segment lies in it.
use Prim.Native.Nat.{ℕ, ◌+◌, ◌*◌, ◌%◌, ◌<◌, ◌≤◌}
use mathlib.Core.Path.{◌≡◌, refl, sym, ap, ◌∙◌}
use mathlib.Core.Bool.{Bool, true, false, cond, not, ◌&&◌, ◌||◌}
use mathlib.Core.List.{List, [], ◌∷◌}
use native.Mathlib.Omega.{arith}
use lib.Dec.{eqb, leb}
use lib.ListN.{length}
use borrow.Author.Tests.{ltb-false, leb-false, eqb-true, eqb-false, ne_eqb, not-false}
use Rattle.refusal.specs.Refusal.{◌when◌, first}
use Rattle.refusal.proofs.Laws.{NoneApplies, none-applies, none_first, none_apart}
use Rattle.octets.specs.Bytes.{byte_at}
use Rattle.octets.specs.Count.{any}
use Rattle.octets.proofs.Counts.{none_at, or-false-left, or-false-right, sum-within}
use Rattle.octets.proofs.Stretches.{length_rest}
use Rattle.flow.specs.Flow.{top_flow}
use Rattle.ts.specs.Packet.{mpeg_length, sync_byte}
use Rattle.packet.specs.Header.{Packet, transport_unknown, lead, not_version3, id_length, session_id, sub, header_length}
use Rattle.packet.specs.Header.{flow_id}
use Rattle.packet.specs.Header.{segment_count, not_plain, shortest_packet, longest_packet, before_session}
use Rattle.packet.specs.Segments.{entry_width, entry_at, begins_in, ends_in, length_in, length_at, body_at}
use Rattle.packet.specs.Psp.{wanted, bad_at, segment_refusals, psp_refusals}
use Rattle.packet.specs.Dmpt.{carried, mpeg_count, mpeg_at, dmpt_refusals}
use Rattle.packet.specs.Check.{kind_psp, check_refusals, check, cause_refusals, segment_cause}

-- Refusals 24, 2, 3, 15 and 4 passed.
pub record EarlyPassed (p : Packet) : Type 0 where
  pub known : transport_unknown p ≡ false
  pub not_short : lead p + shortest_packet ≤ length p.bytes
  pub not_long : length p.bytes ≤ lead p + longest_packet
  pub right-version : not_version3 p ≡ false
  pub no_control : session_id p ≡ 0 → ⊥

early_of : (p : Packet) → NoneApplies (before_session p) → EarlyPassed p
early_of p n =
    record {
      known = n.0;
      not_short = ltb-false _ _ n.1.0;
      not_long = ltb-false _ _ n.1.1.0;
      right-version = n.1.1.1.0;
      no_control = eqb-false _ _ n.1.1.1.1.0;
    }

pub early_passed : (p : Packet) → first (before_session p) ≡ 0 → EarlyPassed p
early_passed p z = early_of p (none-applies (before_session p) refl z)

-- what follows the session ID then has a whole header
pub sub-length : (p : Packet) → lead p + shortest_packet ≤ length p.bytes → length (sub p) + (lead p + id_length) ≡ length p.bytes
sub-length p h = omega (arith, length_rest p.bytes (lead p + id_length))

pub sub-whole : (p : Packet) → lead p + shortest_packet ≤ length p.bytes → header_length ≤ length (sub p)
sub-whole p h = omega (arith, sub-length p h)

-- Refusals 9 to 11 passed, PSP: what there is to know of the segments, whatever the header says beside their count.
pub record SegmentsPassed (width : ℕ) (sub : List ℕ) : Type 0 where
  pub some : segment_count sub ≡ 0 → ⊥
  pub fills : wanted width sub ≡ length sub
  pub sound : any (bad_at width sub) (segment_count sub) ≡ false

segments_of : (width : ℕ) (sub : List ℕ) → NoneApplies (segment_refusals width sub) → SegmentsPassed width sub
segments_of width sub n =
    record {
      some = eqb-false _ _ n.0;
      fills = eqb-true _ _ (not-false _ n.1.0);
      sound = n.1.1.0;
    }

pub segments-passed : (width : ℕ) (sub : List ℕ) → first (segment_refusals width sub) ≡ 0 → SegmentsPassed width sub
segments-passed width sub z = segments_of width sub (none-applies (segment_refusals width sub) refl z)

-- Refusals 6, 7 and 9 to 11 passed, PSP.
pub record PspPassed (width : ℕ) (sub : List ℕ) : Type 0 where
  pub plain : not_plain sub ≡ false
  pub in_row : flow_id sub ≤ top_flow
  pub segments : SegmentsPassed width sub

psp_of : (width : ℕ) (sub : List ℕ) → NoneApplies (psp_refusals width sub) → PspPassed width sub
psp_of width sub n =
    record {
      plain = n.0;
      in_row = ltb-false _ _ n.1.0;
      segments = segments_of width sub n.1.1;
    }

pub psp_passed : (width : ℕ) (sub : List ℕ) → first (psp_refusals width sub) ≡ 0 → PspPassed width sub
psp_passed width sub z = psp_of width sub (none-applies (psp_refusals width sub) refl z)

module _ (width : ℕ) (sub : List ℕ) (p : SegmentsPassed width sub) where
  -- the entries lie in the packet
  pub entries-inside : header_length + width * segment_count sub ≤ length sub
  unfolding wanted body_at
  entries-inside = omega (arith, p.fills)

  module _ (k : ℕ) (there : k < segment_count sub) where
    -- and so does each body
    pub body-inside : body_at width sub k + length_at width sub k ≤ length sub
    unfolding wanted body_at
    body-inside = omega (arith, p.fills, sum-within (length_at width sub) k (segment_count sub) there)

    pub entry_good : bad_at width sub k ≡ false
    entry_good = none_at (bad_at width sub) (segment_count sub) k p.sound there

    -- no segment is empty
    pub body-some : length_at width sub k ≡ 0 → ⊥
    body-some = eqb-false _ _ (or-false-left _ _ (or-false-left _ _ entry_good))

    -- every segment but the last has E
    pub ends_early : (k + 1 ≡ segment_count sub → ⊥) → ends_in (entry_at width sub k) ≡ true
    ends_early more =
        let e = entry_at width sub k in
        let last : (not (eqb (k + 1) (segment_count sub)) && not (ends_in e)) ≡ false =
        or-false-right (eqb (length_in e) 0 || (not (eqb k 0) && not (begins_in e)))
        (not (eqb (k + 1) (segment_count sub)) && not (ends_in e)) entry_good in
        not-false (ends_in e) (simp (ne_eqb (k + 1) (segment_count sub) more) at last)

-- Refusals 6, 7 and 9 to 11 passed, D-MPT.
pub record DmptPassed (sub : List ℕ) : Type 0 where
  pub plain : not_plain sub ≡ false
  pub only_flow : flow_id sub ≡ 0
  pub some : carried sub ≡ 0 → ⊥
  pub whole : carried sub % mpeg_length ≡ 0
  pub synced : any (λ k. not (eqb (byte_at (mpeg_at sub k) 0) sync_byte)) (mpeg_count sub) ≡ false

dmpt_of : (sub : List ℕ) → NoneApplies (dmpt_refusals sub) → DmptPassed sub
dmpt_of sub n =
    record {
      plain = n.0;
      only_flow = eqb-true _ _ (not-false _ n.1.0);
      some = eqb-false _ _ n.1.1.0;
      whole = eqb-true _ _ (not-false _ n.1.1.1.0);
      synced = n.1.1.1.1.0;
    }

pub dmpt_passed : (sub : List ℕ) → first (dmpt_refusals sub) ≡ 0 → DmptPassed sub
dmpt_passed sub z = dmpt_of sub (none-applies (dmpt_refusals sub) refl z)

-- Each MPEG packet lies in the packet, ..
pub mpeg_inside : (sub : List ℕ) (k : ℕ) → header_length ≤ length sub → k < mpeg_count sub →
    header_length + mpeg_length * k + mpeg_length ≤ length sub
mpeg_inside sub k header there = omega arith

-- .. and in one that passes they fill it
pub mpegs_fill : (sub : List ℕ) → header_length ≤ length sub → DmptPassed sub → header_length + mpeg_length * mpeg_count sub ≡ length sub
mpegs_fill sub header p = omega (arith, p.whole)

-- The PSP check passed, and segment k asked for and given.
pub check-passed : (p : Packet) → check kind_psp p ≡ 0 → EarlyPassed p × PspPassed entry_width (sub p)
unfolding check check_refusals
check-passed p z =
    let n = none-applies (check_refusals kind_psp p) refl z in
    let both = none_apart (before_session p) (psp_refusals entry_width (sub p)) n.1 in
    (early_of p both.0, psp_of entry_width (sub p) both.1)

psp_cause_passed : (p : Packet) (k : ℕ) → segment_cause kind_psp p k ≡ 0 → (check kind_psp p ≡ 0) × (k < segment_count (sub p))
unfolding segment_cause cause_refusals check check_refusals
psp_cause_passed p k z =
    let n = none-applies (cause_refusals kind_psp p k) refl z in
    let both = none_apart (check_refusals kind_psp p) (14 when leb (segment_count (sub p)) k ∷ []) n.1 in
    (none_first (check_refusals kind_psp p) both.0, leb-false _ _ both.1.0)

-- (only PSP packets have segments)
cause_psp : (kind : ℕ) (p : Packet) (k : ℕ) → segment_cause kind p k ≡ 0 → kind ≡ kind_psp
unfolding segment_cause cause_refusals
cause_psp kind p k z = eqb-true kind kind_psp (by (eqb kind kind_psp) _ z)
  where
    by : (b : Bool) (behind : ℕ) → cond (not b) 24 behind ≡ 0 → b ≡ true
    by true behind e = refl
    by false behind e = absurd (omega (arith, e))

pub cause_passed : (kind : ℕ) (p : Packet) (k : ℕ) → segment_cause kind p k ≡ 0 → (check kind_psp p ≡ 0) × (k < segment_count (sub p))
cause_passed kind p k z = psp_cause_passed p k (ap (λ (n : ℕ). segment_cause n p k) (sym (cause_psp kind p k z)) ∙ z)
