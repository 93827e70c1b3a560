-- What is written reads back: a packet of given segments passes the PSP check, and read by the packet's own definitions it has the session
-- ID, the flow, the number and the segments that it was written from. So sender and receiver mean the same by a packet.
use Prim.Native.Nat.{ℕ, ◌+◌, ◌*◌, ◌/◌, ◌%◌, ◌<◌, ◌≤◌}
use mathlib.Core.Path.{◌≡◌, refl, sym, ap, ◌∙◌}
use mathlib.Core.Bool.{Bool, true, false, not, ◌&&◌, ◌||◌}
use mathlib.Core.List.{List, [], ◌∷◌, ◌++◌, map, append-nil}
use native.Mathlib.Omega.{arith}
use lib.Dec.{eqb}
use lib.ListN.{length, get_or, length-append, get_or-append}
use lib.Seq.{get_or-append-add}
use borrow.Author.Tests.{eq-eqb, ne_eqb, le-ltb, eqb-false}
use Rattle.refusal.specs.Refusal.{first}
use Rattle.refusal.proofs.Laws.{NoneApplies, none_first, first-passed}
use Rattle.octets.specs.Bytes.{byte_at, be16_at, two, four}
use Rattle.octets.specs.Stretch.{part, joined}
use Rattle.octets.specs.Count.{sum_to}
use Rattle.octets.proofs.Numbers.{two_reads_back, four_reads_back}
use Rattle.octets.proofs.Stretches.{rest-append, byte_joined, part-joined_at, length-joined-map, length-joined-sum}
use Rattle.octets.proofs.Counts.{none_all, sum_agree, up_to_elements}
use Rattle.flow.specs.Flow.{top_flow}
use Rattle.packet.specs.Header.{ip, v_bit, s_bit, h_bit, h_values, header_length, shortest_packet, longest_packet, sub, session_id, flow_id}
use Rattle.packet.specs.Header.{segment_count, number as number_in, s_set, not_plain, before_session}
use Rattle.packet.specs.Segments.{Segment, entry_width, b_bit, e_bit, length_values, entry_at, begins_in, ends_in, length_in, length_at}
use Rattle.packet.specs.Segments.{body_at, segment_at, segments}
use Rattle.packet.specs.Psp.{wanted, bad_at, psp_refusals}
use Rattle.packet.specs.Check.{kind_psp, check_refusals, check}
use Rattle.sender.specs.Packet.{entry_number, entry_of, body_of, packet_of}

-- An entry: its number fits two bytes, and says again what it was made from.
module _ (n : ℕ) (short : n < length_values) where
  entry_fits : (b e : Bool) → entry_number b e n < 65536
  entry_fits true true = omega arith
  entry_fits true false = omega arith
  entry_fits false true = omega arith
  entry_fits false false = omega arith

  entry_length : (b e : Bool) → length_in (entry_number b e n) ≡ n
  entry_length true true = omega arith
  entry_length true false = omega arith
  entry_length false true = omega arith
  entry_length false false = omega arith

  entry_begins : (b e : Bool) → begins_in (entry_number b e n) ≡ b
  entry_begins true true = eq-eqb (entry_number true true n / b_bit % 2) 1 (omega arith)
  entry_begins true false = eq-eqb (entry_number true false n / b_bit % 2) 1 (omega arith)
  entry_begins false true = ne_eqb (entry_number false true n / b_bit % 2) 1 (λ z. omega arith)
  entry_begins false false = ne_eqb (entry_number false false n / b_bit % 2) 1 (λ z. omega arith)

  entry_ends : (b e : Bool) → ends_in (entry_number b e n) ≡ e
  entry_ends true true = eq-eqb (entry_number true true n / e_bit % 2) 1 (omega arith)
  entry_ends true false = ne_eqb (entry_number true false n / e_bit % 2) 1 (λ z. omega arith)
  entry_ends false true = eq-eqb (entry_number false true n / e_bit % 2) 1 (omega arith)
  entry_ends false false = ne_eqb (entry_number false false n / e_bit % 2) 1 (λ z. omega arith)

-- Segment k of a list, and past its end one with nothing in it.
abbrev pub none : Segment
none = record { begins = false; ends = false; body = [] }

abbrev pub nth : List Segment → ℕ → Segment
nth segs k = get_or segs k none

pub length-entries : (segs : List Segment) → length (joined (map entry_of segs)) ≡ entry_width * length segs
length-entries segs = length-joined-map entry_of entry_width (λ s. refl) segs

entry_at_lem : (segs : List Segment) (k : ℕ) → k < length segs →
    be16_at (joined (map entry_of segs)) (entry_width * k) ≡ be16_at (entry_of (nth segs k)) 0
entry_at_lem segs k l =
    let entries = joined (map entry_of segs) in
    let start : entry_width * k ≡ entry_width * k + 0 = omega arith in
    let high = ap (byte_at entries) start ∙ byte_joined entry_of entry_width (λ s. refl) segs none k 0 l (omega arith) in
    let low = byte_joined entry_of entry_width (λ s. refl) segs none k 1 l (omega arith) in
    omega (arith, high, low)

-- What a list of segments must have to be a packet: 1 to 127 of them, none empty, each of a length that an entry can say, B on all but
-- the first and E on all but the last; and all of it together no longer than a packet may be.
pub record Sendable (session flow number : ℕ) (segs : List Segment) : Type 0 where
  pub to_session : session ≡ 0 → ⊥
  pub four_bytes : session < 4294967296
  pub to_flow : flow ≤ top_flow
  pub two_bytes : number < 65536
  pub some : 1 ≤ length segs
  pub few : length segs ≤ 127
  pub filled : (k : ℕ) → k < length segs → 1 ≤ length (nth segs k).body
  pub short : (k : ℕ) → k < length segs → length (nth segs k).body < length_values
  pub begun : (k : ℕ) → k < length segs → (k ≡ 0 → ⊥) → (nth segs k).begins ≡ true
  pub ended : (k : ℕ) → k < length segs → (k + 1 ≡ length segs → ⊥) → (nth segs k).ends ≡ true
  pub not_long : length (packet_of session flow number segs) ≤ longest_packet

module _ (session flow number : ℕ) (segs : List Segment) where
  abbrev entries : List ℕ
  entries = joined (map entry_of segs)

  abbrev bodies : List ℕ
  bodies = joined (map body_of segs)

  abbrev behind_id : List ℕ
  behind_id = (s_bit + flow) ∷ length segs ∷ two number ++ (entries ++ bodies)

  packet_is : packet_of session flow number segs ≡ four session ++ behind_id
  unfolding packet_of
  packet_is = refl

  pub sub_is : sub (ip (packet_of session flow number segs)) ≡ behind_id
  unfolding packet_of
  sub_is = rest-append (four session) behind_id

  pub length-packet : length (packet_of session flow number segs) ≡ shortest_packet + entry_width * length segs + length
      (joined (map body_of segs))
  unfolding packet_of
  length-packet = let a = length-append entries bodies in let b = length-entries segs in omega arith

  module _ (w : Sendable session flow number segs) where
    abbrev count : ℕ
    count = length segs

    reads_session : session_id (ip (packet_of session flow number segs)) ≡ session
    unfolding packet_of
    reads_session = four_reads_back session w.four_bytes

    reads_count : segment_count behind_id ≡ count
    reads_count = omega (arith, w.few)

    module _ (k : ℕ) (l : k < count) where
      reads_entry : entry_at entry_width behind_id k ≡ entry_number (nth segs k).begins (nth segs k).ends (length (nth segs k).body)
      reads_entry =
          let long = length-entries segs in
          let s = nth segs k in
          let n = length s.body in
          let header = (s_bit + flow) ∷ count ∷ two number in
          let i = entry_width * k in
          let high : byte_at (entries ++ bodies) i ≡ byte_at entries i = get_or-append entries bodies 0 i (omega arith) in
          let low : byte_at (entries ++ bodies) (i + 1) ≡ byte_at entries (i + 1) = get_or-append entries bodies 0 (i + 1) (omega arith) in
          let at : header_length + i + 1 ≡ header_length + (i + 1) = omega arith in
          let first_byte : byte_at behind_id (header_length + i) ≡ byte_at (entries ++ bodies) i =
          get_or-append-add header (entries ++ bodies) i 0 in
          let second-byte : byte_at behind_id (header_length + (i + 1)) ≡ byte_at (entries ++ bodies) (i + 1) =
          get_or-append-add header (entries ++ bodies) (i + 1) 0 in
          rw (at, first_byte, second-byte, high, low)
          (entry_at_lem segs k l ∙ two_reads_back _ (entry_fits n (w.short k l) s.begins s.ends))

      reads_length : length_at entry_width behind_id k ≡ length (nth segs k).body
      reads_length =
          ap length_in reads_entry ∙ entry_length (length (nth segs k).body) (w.short k l) (nth segs k).begins (nth segs k).ends

    -- what the entries say of the bodies before segment k is what these are long
    abbrev length_of : ℕ → ℕ
    length_of i = length (nth segs i).body

    reads_sum : (k : ℕ) → k ≤ count → sum_to (length_at entry_width behind_id) k ≡ sum_to length_of k
    reads_sum k few = sum_agree (length_at entry_width behind_id) length_of k (λ i l. reads_length i (omega arith))

    reads_body : (k : ℕ) (l : k < count) →
        part behind_id (body_at entry_width behind_id k) (length_at entry_width behind_id k) ≡ (nth segs k).body
    unfolding body_at
    reads_body k l =
        let front = (s_bit + flow) ∷ count ∷ two number ++ entries in
        let long : header_length + entry_width * count + sum_to length_of k ≡ length front + sum_to length_of k =
        omega (arith, length-entries segs) in
        rw (reads_count, reads_sum k (omega arith), reads_length k l, long)
        (ap (λ (p : List ℕ). part p (length front + sum_to length_of k) (length_of k)) (sym (append-nil (front ++ bodies)))
        ∙ part-joined_at body_of front [] segs none k l)

    reads_segment : (k : ℕ) (l : k < count) → segment_at entry_width behind_id k ≡ nth segs k
    unfolding segment_at
    reads_segment k l =
        let s = nth segs k in
        let n = length s.body in
        let b : begins_in (entry_at entry_width behind_id k) ≡ s.begins =
        ap begins_in (reads_entry k l) ∙ entry_begins n (w.short k l) s.begins s.ends in
        let e : ends_in (entry_at entry_width behind_id k) ≡ s.ends =
        ap ends_in (reads_entry k l) ∙ entry_ends n (w.short k l) s.begins s.ends in
        rw (b, e, reads_body k l) refl

    reads_segments : segments entry_width behind_id ≡ segs
    unfolding segments
    reads_segments = rw reads_count (up_to_elements (segment_at entry_width behind_id) segs none reads_segment)

    reads_wanted : wanted entry_width behind_id ≡ length behind_id
    unfolding wanted body_at
    reads_wanted =
        let a = length-append entries bodies in
        let b = length-entries segs in
        rw (reads_count, reads_sum count (omega arith)) (omega (arith, length-joined-sum body_of segs none))

    good_entry : (k : ℕ) (l : k < count) → bad_at entry_width behind_id k ≡ false
    good_entry k l =
        let s = nth segs k in
        let n = length s.body in
        let b = s.begins in
        let e = s.ends in
        let short = w.short k l in
        rw (reads_count, reads_entry k l, entry_length n short b e, entry_begins n short b e, entry_ends n short b e)
        (rw (ne_eqb n 0 (λ z. omega (arith, w.filled k l)))
        (marks (eqb k 0) b (eqb (k + 1) count) e (λ f. w.begun k l (eqb-false k 0 f)) (λ f. w.ended k l (eqb-false (k + 1) count f))))
      where
        marks : (first b last e : Bool) → (first ≡ false → b ≡ true) → (last ≡ false → e ≡ true) →
            (false || (not first && not b) || (not last && not e)) ≡ false
        marks true b true e p q = refl
        marks true b false e p q = rw (q refl) refl
        marks false b true e p q = rw (p refl) refl
        marks false b false e p q = rw (p refl, q refl) refl

    reads_flow : flow_id behind_id ≡ flow
    reads_flow = omega (arith, w.to_flow)

    reads_number : number_in behind_id ≡ number
    reads_number = two_reads_back number w.two_bytes

    plain : not_plain behind_id ≡ false
    plain =
        let v : eqb ((s_bit + flow) / v_bit % 2) 1 ≡ false = ne_eqb ((s_bit + flow) / v_bit % 2) 1 (λ z. omega (arith, w.to_flow)) in
        let h : eqb ((s_bit + flow) / h_bit % h_values) 0 ≡ true =
        eq-eqb ((s_bit + flow) / h_bit % h_values) 0 (omega (arith, w.to_flow)) in
        rw (v, h) refl

    numbered : s_set behind_id ≡ true
    numbered = eq-eqb ((s_bit + flow) / s_bit % 2) 1 (omega (arith, w.to_flow))

    psp_passes : NoneApplies (psp_refusals entry_width behind_id)
    psp_passes = (
      plain,
      (
        rw reads_flow (le-ltb top_flow flow w.to_flow),
        (
          rw reads_count (ne_eqb count 0 (λ z. omega (arith, w.some))),
          (
            rw (eq-eqb (wanted entry_width behind_id) (length behind_id) reads_wanted) refl,
            (rw reads_count (none_all (bad_at entry_width behind_id) count good_entry), tt),
          ),
        ),
      ),
    )

    early_passes : NoneApplies (before_session (ip (packet_of session flow number segs)))
    early_passes =
        let n = length-packet in
        let long_enough = le-ltb (length (packet_of session flow number segs)) shortest_packet (omega arith) in
        let short-enough = le-ltb longest_packet (length (packet_of session flow number segs)) (omega (arith, w.not_long)) in
        (refl, (long_enough, (short-enough, (refl, (rw reads_session (ne_eqb session 0 w.to_session), tt)))))

    -- It passes the check, ..
    pub written_passes : check kind_psp (ip (packet_of session flow number segs)) ≡ 0
    unfolding check check_refusals
    written_passes =
        let packet = ip (packet_of session flow number segs) in
        first-passed (before_session packet) (psp_refusals entry_width (sub packet)) refl (none_first (before_session packet) early_passes)
        ∙ ap (λ (s : List ℕ). first (psp_refusals entry_width s)) sub_is
        ∙ none_first (psp_refusals entry_width behind_id) psp_passes

    -- .. has a number ..
    pub written-counts : s_set (sub (ip (packet_of session flow number segs))) ≡ true
    written-counts = ap s_set sub_is ∙ numbered

    -- .. and reads as what it was written from.
    pub written-session : session_id (ip (packet_of session flow number segs)) ≡ session
    written-session = reads_session

    pub written-flow : flow_id (sub (ip (packet_of session flow number segs))) ≡ flow
    written-flow = ap flow_id sub_is ∙ reads_flow

    pub written-number : number_in (sub (ip (packet_of session flow number segs))) ≡ number
    written-number = ap number_in sub_is ∙ reads_number

    pub written-segments : segments entry_width (sub (ip (packet_of session flow number segs))) ≡ segs
    written-segments = ap (segments entry_width) sub_is ∙ reads_segments
