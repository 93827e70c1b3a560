-- The ways out of the packet check: for each return of the code the line of the order that it answers, with what the code has found as
-- arguments. And what `?` hands on in a segment request: the number of the part that refused is that of the whole order, since no refusal
-- has the number 0.
use Prim.Native.Nat.{ℕ, ◌+◌, ◌*◌, ◌<◌, ◌≤◌}
use mathlib.Core.Path.{◌≡◌, refl, sym, ap, ◌∙◌}
use mathlib.Core.Bool.{Bool, true, false, cond, not, ◌&&◌}
use mathlib.Core.List.{List, [], ◌∷◌, ◌++◌}
use native.Mathlib.Omega.{arith}
use lib.Dec.{eqb, leb}
use lib.ListN.{length}
use borrow.Author.Tests.{eq-eqb, ne_eqb, lt-ltb, le-ltb, le-leb, lt-leb}
use Rattle.refusal.specs.declared.Refusal as error
use Rattle.refusal.specs.Refusal.{Refusal, ◌when◌, first}
use Rattle.refusal.specs.Number.{number_of}
use Rattle.refusal.proofs.Laws.{first-passed, first_stopped}
use Rattle.refusal.proofs.Numbers.{number_some}
use Rattle.octets.specs.Count.{any, sum_to}
use Rattle.packet.specs.Header.{Packet, over_ip, over_udp, transport_unknown, lead, not_version3, session_id, sub, header_length}
use Rattle.packet.specs.Header.{segment_count}
use Rattle.packet.specs.Header.{shortest_packet, longest_packet, too_short, too_long, before_session}
use Rattle.packet.specs.Segments.{entry_width, length_at, body_at}
use Rattle.packet.specs.Psp.{wanted, bad_at, segment_refusals, psp_refusals}
use Rattle.packet.specs.Dmpt.{dmpt_refusals}
use Rattle.packet.specs.Check.{kind_psp, kind_unknown, check_refusals, check, cause_refusals, segment_cause}

-- Refusals 9 to 11, PSP. `count`, `total` and `spoilt` are what the code has counted.
module _ (width : ℕ) (sub : List ℕ) (count : ℕ) (counted : count ≡ segment_count sub) where
  pub segments-none : count ≡ 0 → 9 ≡ first (segment_refusals width sub)
  segments-none z = simp (eq-eqb (segment_count sub) 0 (sym counted ∙ z))

  module _ (some : count ≡ 0 → ⊥) where
    misfit : (wanted width sub ≡ length sub → ⊥) → 10 ≡ first (segment_refusals width sub)
    misfit w = simp (ne_eqb (segment_count sub) 0 (λ z. some (counted ∙ z)), ne_eqb (wanted width sub) (length sub) w)

    -- the table itself is cut
    pub segments-cut : length sub < header_length + width * count → 10 ≡ first (segment_refusals width sub)
    unfolding wanted body_at
    segments-cut h =
        let e : width * count ≡ width * segment_count sub = ap (λ (n : ℕ). width * n) counted in
        misfit (λ w. omega arith)

    module _ (total : ℕ) (summed : total ≡ sum_to (length_at width sub) count) where
      wanted_is : header_length + width * count + total ≡ wanted width sub
      unfolding wanted body_at
      wanted_is = rw (summed, counted) refl

      pub segments_misfit : (header_length + width * count + total ≡ length sub → ⊥) → 10 ≡ first (segment_refusals width sub)
      segments_misfit w = misfit (λ e. w (wanted_is ∙ e))

      module _ (fit : header_length + width * count + total ≡ length sub) (spoilt : Bool)
          (judged : spoilt ≡ any (bad_at width sub) count) where
        by_faults : cond spoilt 11 0 ≡ first (segment_refusals width sub)
        by_faults =
            let f : spoilt ≡ any (bad_at width sub) (segment_count sub) = judged ∙ ap (any (bad_at width sub)) counted in
            simp (ne_eqb (segment_count sub) 0 (λ z. some (counted ∙ z)), eq-eqb (wanted width sub) (length sub) (sym wanted_is ∙ fit), f)

        pub segments-spoilt : spoilt ≡ true → 11 ≡ first (segment_refusals width sub)
        segments-spoilt e = sym (ap (λ (b : Bool). cond b 11 0) e) ∙ by_faults

        pub segments-passed : spoilt ≡ false → 0 ≡ first (segment_refusals width sub)
        segments-passed e = sym (ap (λ (b : Bool). cond b 11 0) e) ∙ by_faults

-- The two transports that there are, and any other.
pub transport-ip : (p : Packet) → p.transport ≡ over_ip → transport_unknown p ≡ false
transport-ip p e = rw (eq-eqb p.transport over_ip e) refl

pub transport-udp : (p : Packet) → p.transport ≡ over_udp → transport_unknown p ≡ false
transport-udp p e = either (eqb p.transport over_ip) (eq-eqb p.transport over_udp e)
  where
    either : (a : Bool) {b : Bool} → b ≡ true → (not a && not b) ≡ false
    either true h = refl
    either false h = rw h refl

pub transport_other : (p : Packet) → (p.transport ≡ over_ip → ⊥) → (p.transport ≡ over_udp → ⊥) → transport_unknown p ≡ true
transport_other p i u = rw (ne_eqb p.transport over_ip i, ne_eqb p.transport over_udp u) refl

-- Refusals 24, 2, 3, 15 and 4. `before` is what the code has counted before the session ID, and `id` what it has read there.
module _ (p : Packet) where
  pub early_unknown : transport_unknown p ≡ true → 24 ≡ first (before_session p)
  early_unknown u = simp u

  module _ (known : transport_unknown p ≡ false) (before : ℕ) (counted : before ≡ lead p) where
    pub early_short : length p.bytes < before + shortest_packet → 2 ≡ first (before_session p)
    early_short h = simp (known, lt-ltb (length p.bytes) (lead p + shortest_packet) (omega (arith, counted, h)))

    module _ (enough : before + shortest_packet ≤ length p.bytes) where
      long_enough : too_short p ≡ false
      long_enough = le-ltb (length p.bytes) (lead p + shortest_packet) (omega (arith, counted, enough))

      pub early_long : before + longest_packet < length p.bytes → 3 ≡ first (before_session p)
      early_long h = simp (known, long_enough, lt-ltb (lead p + longest_packet) (length p.bytes) (omega (arith, counted, h)))

      module _ (few : length p.bytes ≤ before + longest_packet) where
        short-enough : too_long p ≡ false
        short-enough = le-ltb (lead p + longest_packet) (length p.bytes) (omega (arith, counted, few))

        pub early_version : not_version3 p ≡ true → 15 ≡ first (before_session p)
        early_version v = simp (known, long_enough, short-enough, v)

        module _ (version : not_version3 p ≡ false) (id : ℕ) (read : id ≡ session_id p) where
          pub early_control : id ≡ 0 → 4 ≡ first (before_session p)
          early_control z = simp (known, long_enough, short-enough, version, eq-eqb (session_id p) 0 (sym read ∙ z))

          pub early_none : (id ≡ 0 → ⊥) → 0 ≡ first (before_session p)
          early_none s = simp (known, long_enough, short-enough, version, ne_eqb (session_id p) 0 (λ z. s (read ∙ z)))

-- The packet check. `early` is what was answered of the refusals that need no session.
module _ (kind : ℕ) (p : Packet) where
  pub check_unknown : kind_unknown kind ≡ true → 24 ≡ check kind p
  unfolding check check_refusals
  check_unknown u = simp u

  module _ (known : kind_unknown kind ≡ false) (early : ℕ) (judged : early ≡ first (before_session p)) where
    pub check_early : (early ≡ 0 → ⊥) → early ≡ check kind p
    unfolding check check_refusals
    check_early s =
        simp known
        (judged
        ∙ sym (first_stopped (before_session p)
        (cond (eqb kind kind_psp) (psp_refusals entry_width (sub p)) (dmpt_refusals (sub p)))
        (λ z. s (judged ∙ z))))

    late_part : early ≡ 0 → check kind p ≡ first (cond (eqb kind kind_psp) (psp_refusals entry_width (sub p)) (dmpt_refusals (sub p)))
    unfolding check check_refusals
    late_part z =
        simp known
        (first-passed (before_session p)
        (cond (eqb kind kind_psp) (psp_refusals entry_width (sub p)) (dmpt_refusals (sub p)))
        refl (sym judged ∙ z))

    pub check_psp : early ≡ 0 → kind ≡ kind_psp → (r : ℕ) → r ≡ first (psp_refusals entry_width (sub p)) → r ≡ check kind p
    check_psp z e r h = h ∙ sym (late_part z ∙ simp (eq-eqb kind kind_psp e))

    pub check_dmpt : early ≡ 0 → (kind ≡ kind_psp → ⊥) → (r : ℕ) → r ≡ first (dmpt_refusals (sub p)) → r ≡ check kind p
    check_dmpt z e r h = h ∙ sym (late_part z ∙ simp (ne_eqb kind kind_psp e))

-- The cause of a segment's refusal. `refused` is what the check answered.
module _ (kind : ℕ) (p : Packet) (k : ℕ) where
  pub cause_segmentless : (kind ≡ kind_psp → ⊥) → 24 ≡ segment_cause kind p k
  unfolding segment_cause cause_refusals
  cause_segmentless other = simp (ne_eqb kind kind_psp other)

  module _ (psp : kind ≡ kind_psp) (refused : ℕ) (judged : refused ≡ check kind p) where
    abbrev last : List Refusal
    last = 14 when leb (segment_count (sub p)) k ∷ []

    as_psp : segment_cause kind p k ≡ first (check_refusals kind_psp p ++ last)
    unfolding segment_cause cause_refusals
    as_psp = ap (λ (n : ℕ). segment_cause n p k) psp

    checked : refused ≡ first (check_refusals kind_psp p)
    unfolding check
    checked = judged ∙ ap (λ (n : ℕ). check n p) psp

    pub cause_stopped : (refused ≡ 0 → ⊥) → refused ≡ segment_cause kind p k
    cause_stopped s = checked ∙ sym (as_psp ∙ first_stopped (check_refusals kind_psp p) last (λ z. s (checked ∙ z)))

    module _ (passed : refused ≡ 0) where
      last_line : segment_cause kind p k ≡ cond (leb (segment_count (sub p)) k) 14 0
      unfolding check_refusals
      last_line = as_psp ∙ first-passed (check_refusals kind_psp p) last refl (sym checked ∙ passed)

      pub cause_outside : segment_count (sub p) ≤ k → 14 ≡ segment_cause kind p k
      cause_outside h = sym (last_line ∙ simp (le-leb (segment_count (sub p)) k h))

      pub cause_none : k < segment_count (sub p) → 0 ≡ segment_cause kind p k
      cause_none h = sym (last_line ∙ simp (lt-leb (segment_count (sub p)) k h))

-- .. which hands on the number of a check that refused.
module _ (kind : ℕ) (p : Packet) (refusal : error.Refusal) where
  pub cause_handed_on : (k : ℕ) → kind ≡ kind_psp → number_of refusal ≡ check kind p → number_of refusal ≡ segment_cause kind p k
  cause_handed_on k psp judged = cause_stopped kind p k psp (number_of refusal) judged (number_some refusal)
