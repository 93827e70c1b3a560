-- Two packets that are the same in all that is read (`SameRead`) are read the same: first what follows the session ID, rule for rule, then
-- the check and a segment. What a D-MPT packet has in byte 1 is read by nobody; of a PSP packet the count of segments is, so there the
-- counts are the same.
use Prim.Native.Nat.{ℕ, zero, suc, ◌+◌, ◌-◌, ◌*◌, ◌/◌, ◌%◌, ◌≤◌}
use mathlib.Core.Path.{◌≡◌, refl, sym, ap, ◌∙◌}
use mathlib.Core.Bool.{Bool, true, false, cond, not, ◌&&◌, ◌||◌}
use mathlib.Core.List.{List, [], ◌∷◌, ◌++◌}
use native.Mathlib.Omega.{arith}
use lib.Dec.{eqb, ltb, leb}
use lib.ListN.{length}
use Rattle.refusal.specs.Refusal.{Refusal, ◌when◌, first}
use Rattle.octets.specs.Bytes.{byte_at, be16_at}
use Rattle.octets.specs.Stretch.{part, rest}
use Rattle.octets.specs.Count.{any, sum_to, up_to}
use Rattle.octets.proofs.Counts.{any_same, sum_agree, up_to_agree}
use Rattle.octets.proofs.Stretches.{length_rest, byte_rest, part-rest}
use Rattle.ts.specs.Packet.{mpeg_length, sync_byte}
use Rattle.packet.specs.Header.{h_bit, h_values, h_bits, v_bit, v_set, s_bit, s_set, flow_id, segment_count, number, header_length}
use Rattle.packet.specs.Header.{not_plain}
use Rattle.packet.specs.Header.{Packet, over_ip, over_udp, lead_of, lead, id_length, not_version3, session_id, sub, shortest_packet}
use Rattle.packet.specs.Header.{longest_packet, before_session}
use Rattle.packet.specs.Ignored.{SameRead, SameCount}
use Rattle.packet.specs.declared.Extent.{Extent}
use Rattle.packet.specs.Check.{kind_psp, kind_unknown, segmentless, check_refusals, check, cause_refusals, segment_cause}
use Rattle.packet.specs.Check.{extent_by, segment_extent, segment_given}
use Rattle.packet.proofs.Asked.{given_is_segment, given_none}
use Rattle.packet.specs.Segments.{Segment, entry_width, entry_at, length_at, begins_in, ends_in, body_at, segment_at, segments}
use Rattle.packet.specs.Psp.{wanted, bad_entry, bad_at, psp_refusals}
use Rattle.packet.specs.Dmpt.{carried, mpeg_count, mpeg_at, mpegs, dmpt_refusals}

module _ (sub sub' : List ℕ) (long : length sub ≡ length sub') (high : byte_at sub 0 / h_bit ≡ byte_at sub' 0 / h_bit)
    (flow : flow_id sub ≡ flow_id sub') (behind : rest sub 2 ≡ rest sub' 2) where
  -- from byte 2 on all is the same
  same_byte : (i : ℕ) → 2 ≤ i → byte_at sub i ≡ byte_at sub' i
  same_byte i l =
      let on : 2 + (i - 2) ≡ i = omega arith in
      rw on at (sym (byte_rest sub 2 (i - 2)) ∙ ap (λ (l : List ℕ). byte_at l (i - 2)) behind ∙ byte_rest sub' 2 (i - 2))

  pub same-part : (at n : ℕ) → 2 ≤ at → part sub at n ≡ part sub' at n
  same-part at n l =
      let on : 2 + (at - 2) ≡ at = omega arith in
      rw on at (sym (part-rest sub 2 (at - 2) n) ∙ ap (λ (l : List ℕ). part l (at - 2) n) behind ∙ part-rest sub' 2 (at - 2) n)

  same_be16 : (i : ℕ) → 2 ≤ i → be16_at sub i ≡ be16_at sub' i
  same_be16 i l =
      ap (λ (b : ℕ). b * 256 + byte_at sub (i + 1)) (same_byte i l)
      ∙ ap (λ (b : ℕ). byte_at sub' i * 256 + b) (same_byte (i + 1) (omega arith))

  -- V, S and H
  pub same-numbered : s_set sub ≡ s_set sub'
  same-numbered =
      let higher : (b : ℕ) → b / s_bit ≡ b / h_bit / 4 = λ b. omega arith in
      let bits : byte_at sub 0 / s_bit ≡ byte_at sub' 0 / s_bit =
      higher (byte_at sub 0) ∙ ap (λ (n : ℕ). n / 4) high ∙ sym (higher (byte_at sub' 0)) in
      ap (λ (n : ℕ). eqb (n % 2) 1) bits

  same_plain : not_plain sub ≡ not_plain sub'
  same_plain =
      let higher : (b : ℕ) → b / v_bit ≡ b / h_bit / 8 = λ b. omega arith in
      let bits : byte_at sub 0 / v_bit ≡ byte_at sub' 0 / v_bit =
      higher (byte_at sub 0) ∙ ap (λ (n : ℕ). n / 8) high ∙ sym (higher (byte_at sub' 0)) in
      let v : v_set sub ≡ v_set sub' = ap (λ (n : ℕ). eqb (n % 2) 1) bits in
      let h : h_bits sub ≡ h_bits sub' = ap (λ (n : ℕ). n % h_values) high in
      ap (λ (b : Bool). b || not (eqb (h_bits sub) 0)) v ∙ ap (λ (n : ℕ). v_set sub' || not (eqb n 0)) h

  pub same_number : number sub ≡ number sub'
  same_number = same_be16 2 (omega arith)

  -- MPEG packets
  same_mpeg : (k : ℕ) → mpeg_at sub k ≡ mpeg_at sub' k
  unfolding mpeg_at
  same_mpeg k = same-part (header_length + mpeg_length * k) mpeg_length (omega arith)

  same-carried : carried sub ≡ carried sub'
  same-carried = rw long refl

  pub same-mpegs : mpegs sub ≡ mpegs sub'
  unfolding mpegs
  same-mpegs =
      up_to_agree (mpeg_at sub) (mpeg_at sub') (mpeg_count sub) (λ k l. same_mpeg k)
      ∙ ap (λ (n : ℕ). up_to (mpeg_at sub') (n / mpeg_length)) same-carried

  abbrev unsynced : List ℕ → ℕ → Bool
  unsynced l k = not (eqb (byte_at (mpeg_at l k) 0) sync_byte)

  same_unsynced : any (unsynced sub) (mpeg_count sub) ≡ any (unsynced sub') (mpeg_count sub')
  same_unsynced =
      any_same (unsynced sub) (unsynced sub') (mpeg_count sub)
      (λ k l. ap (λ (m : List ℕ). not (eqb (byte_at m 0) sync_byte)) (same_mpeg k))
      ∙ ap (λ (n : ℕ). any (unsynced sub') (n / mpeg_length)) same-carried

  pub same_dmpt : dmpt_refusals sub ≡ dmpt_refusals sub'
  same_dmpt = rw (same_plain, flow, same_unsynced, same-carried) refl

  -- PSP: the count of segments is read too
  module _ (count : segment_count sub ≡ segment_count sub') (width : ℕ) where
    same_entry : (k : ℕ) → entry_at width sub k ≡ entry_at width sub' k
    same_entry k = same_be16 (header_length + width * k) (omega arith)

    pub same_length : (k : ℕ) → length_at width sub k ≡ length_at width sub' k
    same_length k = rw (same_entry k) refl

    pub same_body : (k : ℕ) → body_at width sub k ≡ body_at width sub' k
    unfolding body_at
    same_body k =
        ap (λ (n : ℕ). header_length + width * n + sum_to (length_at width sub) k) count
        ∙ ap (λ (n : ℕ). header_length + width * segment_count sub' + n)
        (sum_agree (length_at width sub) (length_at width sub') k (λ j l. same_length j))

    same-wanted : wanted width sub ≡ wanted width sub'
    unfolding wanted
    same-wanted = ap (body_at width sub) count ∙ same_body (segment_count sub')

    same_bad : any (bad_at width sub) (segment_count sub) ≡ any (bad_at width sub') (segment_count sub')
    same_bad =
        any_same (bad_at width sub) (bad_at width sub') (segment_count sub)
        (λ k l. ap (bad_entry (segment_count sub) k) (same_entry k) ∙ ap (λ (n : ℕ). bad_entry n k (entry_at width sub' k)) count)
        ∙ ap (any (bad_at width sub')) count

    pub same_psp : psp_refusals width sub ≡ psp_refusals width sub'
    same_psp = rw (same_plain, flow, same_bad, same-wanted, count, long) refl

    -- behind the header stand the bodies
    behind_header : (k : ℕ) → 2 ≤ body_at width sub' k
    unfolding body_at
    behind_header k = omega arith

    same_bytes : (k : ℕ) →
        part sub (body_at width sub k) (length_at width sub k) ≡ part sub' (body_at width sub' k) (length_at width sub' k)
    same_bytes k = rw (same_body k, same_length k) (same-part (body_at width sub' k) (length_at width sub' k) (behind_header k))

    pub same_segment : (k : ℕ) → segment_at width sub k ≡ segment_at width sub' k
    unfolding segment_at
    same_segment k =
        let marked : ℕ → List ℕ → Segment = λ entry body. record { begins = begins_in entry; ends = ends_in entry; body = body } in
        ap (λ (n : ℕ). marked n (part sub (body_at width sub k) (length_at width sub k))) (same_entry k)
        ∙ ap (marked (entry_at width sub' k)) (same_bytes k)

    pub same-segments : segments width sub ≡ segments width sub'
    unfolding segments
    same-segments =
        up_to_agree (segment_at width sub) (segment_at width sub') (segment_count sub) (λ k l. same_segment k)
        ∙ ap (up_to (segment_at width sub')) count

-- whole packets
module _ (p p' : Packet) (same : SameRead p p') where
  pub subs_long : length (sub p) ≡ length (sub p')
  subs_long =
      length_rest p.bytes (lead p + id_length)
      ∙ ap (λ (n : ℕ). n - (lead p + id_length)) same.lengths
      ∙ ap (λ (n : ℕ). length p'.bytes - (lead_of n + id_length)) same.transports
      ∙ sym (length_rest p'.bytes (lead p' + id_length))

  pub early_alike : before_session p ≡ before_session p'
  early_alike =
      let limits : ℕ → ℕ → Bool → ℕ → List Refusal =
      λ transport long other session.
      24 when (not (eqb transport over_ip) && not (eqb transport over_udp))
      ∷ 2 when ltb long (lead_of transport + shortest_packet)
      ∷ 3 when ltb (lead_of transport + longest_packet) long
      ∷ 15 when other
      ∷ 4 when eqb session 0
      ∷ [] in
      ap (λ (n : ℕ). limits n (length p.bytes) (not_version3 p) (session_id p)) same.transports
      ∙ ap (λ (n : ℕ). limits p'.transport n (not_version3 p) (session_id p)) same.lengths
      ∙ ap (λ (b : Bool). limits p'.transport (length p'.bytes) b (session_id p)) same.versions
      ∙ ap (limits p'.transport (length p'.bytes) (not_version3 p')) same.sessions

  pub dmpt_alike : dmpt_refusals (sub p) ≡ dmpt_refusals (sub p')
  dmpt_alike = same_dmpt (sub p) (sub p') subs_long same.above_x same.below_x same.from-number

  pub psp_alike : SameCount p p' → (width : ℕ) → psp_refusals width (sub p) ≡ psp_refusals width (sub p')
  psp_alike count width = same_psp (sub p) (sub p') subs_long same.above_x same.below_x same.from-number count width

  by_kind : (kind : ℕ) (psp : Bool) → eqb kind kind_psp ≡ psp → (psp ≡ true → SameCount p p') →
      cond psp (psp_refusals entry_width (sub p)) (dmpt_refusals (sub p))
      ≡ cond psp (psp_refusals entry_width (sub p')) (dmpt_refusals (sub p'))
  by_kind kind true e count = psp_alike (count refl) entry_width
  by_kind kind false e count = dmpt_alike

  refusals_alike : (kind : ℕ) → (eqb kind kind_psp ≡ true → SameCount p p') → check_refusals kind p ≡ check_refusals kind p'
  unfolding check_refusals
  refusals_alike kind count =
      ap (λ (early : List Refusal).
      24 when kind_unknown kind ∷ early ++ cond (eqb kind kind_psp) (psp_refusals entry_width (sub p)) (dmpt_refusals (sub p))) early_alike
      ∙ ap (λ (behind : List Refusal). 24 when kind_unknown kind ∷ before_session p' ++ behind)
      (by_kind kind (eqb kind kind_psp) refl count)

  pub checked_alike : (kind : ℕ) → (eqb kind kind_psp ≡ true → SameCount p p') → check kind p ≡ check kind p'
  unfolding check
  checked_alike kind count = ap first (refusals_alike kind count)

  -- a segment
  module _ (count : SameCount p p') where
    pub causes_alike : (kind k : ℕ) → segment_cause kind p k ≡ segment_cause kind p' k
    unfolding segment_cause cause_refusals
    causes_alike kind k =
        let by : List Refusal → ℕ → ℕ = λ judged n. first (24 when segmentless kind ∷ judged ++ (14 when leb n k ∷ [])) in
        ap (λ (judged : List Refusal). by judged (segment_count (sub p))) (refusals_alike kind (λ e. count))
        ∙ ap (by (check_refusals kind p')) count

    body_alike : (k : ℕ) → body_at entry_width (sub p) k ≡ body_at entry_width (sub p') k
    body_alike k = same_body (sub p) (sub p') subs_long same.above_x same.below_x same.from-number count entry_width k

    length_alike : (k : ℕ) → length_at entry_width (sub p) k ≡ length_at entry_width (sub p') k
    length_alike k = same_length (sub p) (sub p') subs_long same.above_x same.below_x same.from-number count entry_width k

    by_cause : (cause k : ℕ) → extent_by cause p k ≡ extent_by cause p' k
    by_cause zero k =
        let at : ℕ → ℕ → ℕ → Extent = λ transport place size. record { start = lead_of transport + id_length + place; size = size } in
        ap (λ (n : ℕ). at n (body_at entry_width (sub p) k) (length_at entry_width (sub p) k)) same.transports
        ∙ ap (λ (n : ℕ). at p'.transport n (length_at entry_width (sub p) k)) (body_alike k)
        ∙ ap (at p'.transport (body_at entry_width (sub p') k)) (length_alike k)
    by_cause (suc cause) k = refl

    pub places_alike : (kind k : ℕ) → segment_extent kind p k ≡ segment_extent kind p' k
    unfolding segment_extent
    places_alike kind k = by_cause (segment_cause kind p k) k ∙ ap (λ (c : ℕ). extent_by c p' k) (causes_alike kind k)

    given_by : (kind k cause : ℕ) → segment_cause kind p k ≡ cause → segment_given kind p k ≡ segment_given kind p' k
    unfolding segment_at
    given_by kind k zero e =
        given_is_segment kind p k e
        ∙ ap (λ (s : Segment). s.body) (same_segment (sub p) (sub p') subs_long same.above_x same.below_x same.from-number
        count entry_width k)
        ∙ sym (given_is_segment kind p' k (sym (causes_alike kind k) ∙ e))
    given_by kind k (suc cause) e =
        given_none kind p k (λ z. never cause (sym e ∙ z))
        ∙ sym (given_none kind p' k (λ z. never cause (sym e ∙ causes_alike kind k ∙ z)))
      where
        never : (c : ℕ) → suc c ≡ 0 → ⊥
        never c z = omega arith

    pub segments_alike : (kind k : ℕ) → segment_given kind p k ≡ segment_given kind p' k
    segments_alike kind k = given_by kind k (segment_cause kind p k) refl
