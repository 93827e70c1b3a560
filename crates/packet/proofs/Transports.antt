-- Over UDP four bytes stand before the session ID, and where T is 0 in them and the version 3, the packet is the one that it would be over
-- IP without them: of the same session, judged the same, with the same behind its session ID, and with the same segments. So nothing else
-- of the four bytes is read, nothing that is said of a packet from `sub` on depends on the transport, and a sender needs none.
use Prim.Native.Nat.{ℕ, zero, suc, ◌+◌}
use mathlib.Core.Path.{◌≡◌, refl, sym, ap, ◌∙◌}
use mathlib.Core.Bool.{Bool, true, false, cond}
use mathlib.Core.List.{List, [], ◌∷◌, ◌++◌}
use native.Mathlib.Omega.{arith}
use lib.Dec.{eqb, ltb, leb}
use lib.ListN.{length}
use borrow.Author.Tests.{lt-ltb, le-ltb, ltb-true, ltb-false}
use Rattle.refusal.specs.Refusal.{Refusal, ◌when◌, first}
use Rattle.octets.specs.Stretch.{part}
use Rattle.octets.proofs.Stretches.{part_none, part-rest, rest-append_behind}
use Rattle.packet.specs.declared.Extent.{Extent}
use Rattle.packet.specs.Header.{Packet, ip, udp, udp_lead, id_length, not_version3, session_id, sub, segment_count}
use Rattle.packet.specs.Header.{shortest_packet, longest_packet, too_short, too_long, before_session}
use Rattle.packet.specs.Segments.{entry_width, length_at, body_at}
use Rattle.packet.specs.Psp.{psp_refusals}
use Rattle.packet.specs.Dmpt.{dmpt_refusals}
use Rattle.packet.specs.Check.{kind_psp, kind_unknown, segmentless, check_refusals, check, cause_refusals, segment_cause, extent_by}
use Rattle.packet.specs.Check.{segment_extent, segment_given}
use Rattle.packet.proofs.Asked.{extent_given}

-- four bytes more, and a limit four higher
shifted : (n limit n' limit' : ℕ) → n' ≡ udp_lead + n → limit' ≡ udp_lead + limit → (b : Bool) → ltb n limit ≡ b → ltb n' limit' ≡ b
shifted n limit n' limit' more higher true h = lt-ltb n' limit' (omega (arith, more, higher, ltb-true n limit h))
shifted n limit n' limit' more higher false h = le-ltb n' limit' (omega (arith, more, higher, ltb-false n limit h))

module _ (a b c d : ℕ) (bytes : List ℕ) where
  -- the packet over UDP
  abbrev led : Packet
  led = udp (a ∷ b ∷ c ∷ d ∷ bytes)

  pub same-session : session_id led ≡ session_id (ip bytes)
  same-session = refl

  pub same-sub : sub led ≡ sub (ip bytes)
  same-sub = rest-append_behind (a ∷ b ∷ c ∷ d ∷ []) bytes id_length

  longer : length led.bytes ≡ udp_lead + length bytes
  longer = omega arith

  same-short : too_short led ≡ too_short (ip bytes)
  same-short =
      shifted (length bytes) shortest_packet (length led.bytes) (udp_lead + shortest_packet) longer refl (too_short (ip bytes)) refl

  same_long : too_long led ≡ too_long (ip bytes)
  same_long =
      shifted longest_packet (length bytes) (udp_lead + longest_packet) (length led.bytes) refl longer (too_long (ip bytes)) refl

  module _ (version : not_version3 led ≡ false) where
    abbrev early : Bool → Bool → Bool → List Refusal
    early short long other = 24 when false ∷ 2 when short ∷ 3 when long ∷ 15 when other ∷ 4 when eqb (session_id (ip bytes)) 0 ∷ []

    pub same_early : before_session led ≡ before_session (ip bytes)
    same_early =
        ap (λ (short : Bool). early short (too_long led) (not_version3 led)) same-short
        ∙ ap (λ (long : Bool). early (too_short (ip bytes)) long (not_version3 led)) same_long
        ∙ ap (early (too_short (ip bytes)) (too_long (ip bytes))) version

    same_refusals : (kind : ℕ) → check_refusals kind led ≡ check_refusals kind (ip bytes)
    unfolding check_refusals
    same_refusals kind =
        ap (λ (judged : List Refusal). 24 when kind_unknown kind ∷ judged ++ behind (sub led)) same_early
        ∙ ap (λ (l : List ℕ). 24 when kind_unknown kind ∷ before_session (ip bytes) ++ behind l) same-sub
      where
        behind : List ℕ → List Refusal
        behind l = cond (eqb kind kind_psp) (psp_refusals entry_width l) (dmpt_refusals l)

    pub same_check : (kind : ℕ) → check kind led ≡ check kind (ip bytes)
    unfolding check
    same_check kind = ap first (same_refusals kind)

    -- .. and a segment of it is the same, four places on
    pub same_cause : (kind k : ℕ) → segment_cause kind led k ≡ segment_cause kind (ip bytes) k
    unfolding segment_cause cause_refusals
    same_cause kind k =
        ap (λ (judged : List Refusal). by judged (sub led)) (same_refusals kind) ∙ ap (by (check_refusals kind (ip bytes))) same-sub
      where
        by : List Refusal → List ℕ → ℕ
        by judged behind = first (24 when segmentless kind ∷ judged ++ (14 when leb (segment_count behind) k ∷ []))

    pub same_place : (kind k : ℕ) → segment_cause kind (ip bytes) k ≡ 0 →
        segment_extent kind led k
        ≡ record { start = udp_lead + (segment_extent kind (ip bytes) k).start; size = (segment_extent kind (ip bytes) k).size }
    same_place kind k given =
        let place = body_at entry_width (sub led) k in
        let size = length_at entry_width (sub led) k in
        let on : udp_lead + id_length + place ≡ udp_lead + (id_length + place) = omega arith in
        let moved : List ℕ → Extent =
        λ l. record { start = udp_lead + (id_length + body_at entry_width l k); size = length_at entry_width l k } in
        extent_given kind led k (same_cause kind k ∙ given)
        ∙ ap (λ (n : ℕ). record { start = n; size = size }) on
        ∙ ap moved same-sub
        ∙ ap (λ (e : Extent). record { start = udp_lead + e.start; size = e.size }) (sym (extent_given kind (ip bytes) k given))

    given_by : (c k : ℕ) →
        part led.bytes (extent_by c led k).start (extent_by c led k).size
        ≡ part bytes (extent_by c (ip bytes) k).start (extent_by c (ip bytes) k).size
    given_by zero k =
        let place : List ℕ → ℕ = λ l. body_at entry_width l k in
        let size : List ℕ → ℕ = λ l. length_at entry_width l k in
        let body : List ℕ → List ℕ = λ l. part l (place l) (size l) in
        sym (part-rest led.bytes (udp_lead + id_length) (place (sub led)) (size (sub led)))
        ∙ ap body same-sub
        ∙ part-rest bytes id_length (place (sub (ip bytes))) (size (sub (ip bytes)))
    given_by (suc c) k = part_none led.bytes 0 ∙ sym (part_none bytes 0)

    pub same_segment : (kind k : ℕ) → segment_given kind led k ≡ segment_given kind (ip bytes) k
    unfolding segment_given segment_extent
    same_segment kind k =
        given_by (segment_cause kind led k) k
        ∙ ap (λ (c : ℕ). part bytes (extent_by c (ip bytes) k).start (extent_by c (ip bytes) k).size) (same_cause kind k)
