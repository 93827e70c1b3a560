-- What a call that is not refused does. Its packet passes the PSP check and is addressed and numbered as asked; read again, its segments
-- carry the frames from the position that the call was given to the one that it answers; and that one lies farther on, in the frames or at
-- their end.
use Prim.Native.Nat.{ℕ, ◌+◌, ◌-◌, ◌<◌, ◌≤◌}
use mathlib.Core.Path.{◌≡◌, sym, ap, ◌∙◌}
use mathlib.Core.Bool.{true}
use mathlib.Core.List.{List, [], ◌∷◌, map}
use native.Mathlib.Omega.{arith}
use native.Mathlib.Nat.{not-suc-le-zero}
use lib.ListN.{length}
use borrow.Author.Tests.{lt-ltb, le-leb}
use Rattle.refusal.specs.Refusal.{first}
use Rattle.octets.specs.Stretch.{joined}
use Rattle.octets.proofs.Stretches.{part-put, length-joined}
use Rattle.flow.specs.Numbers.{next}
use Rattle.packet.specs.Header.{ip, sub, s_set, session_id, flow_id, header_length, number as number_in}
use Rattle.packet.specs.Segments.{Segment, entry_width}
use Rattle.packet.specs.Check.{kind_psp, check}
use Rattle.sender.specs.Cut.{index_of, goes_on, least_room}
use Rattle.sender.specs.Packet.{body_of}
use Rattle.sender.specs.Send.{most_segments, Asked, SendOutcome, send_refusals, start_of, cut_for, packet_for, written, sent}
use Rattle.sender.specs.Carried.{Carried}
use Rattle.sender.specs.Series.{packet_left}
use Rattle.sender.specs.Rules.{segments_of, Addressed}
use Rattle.sender.proofs.Reading.{nth, Sendable, length-packet, written_passes, written-counts, written-session, written-flow}
use Rattle.sender.proofs.Reading.{written-number, written-segments}
use Rattle.sender.proofs.Positions.{Framed, framed, Inside, inside, carried-place}
use Rattle.sender.proofs.Cutting.{Cutting, cutting_start, cut_keeps, cut-counts, cut-some}
use Rattle.sender.proofs.Judging.{has_session, has_flow}
use Rattle.sender.proofs.Sending.{sent-written, job, standing, enough, small}

-- what a program's types add: an ID of four bytes and a number of two
pub record Typed (a : Asked) : Type 0 where
  pub four_bytes : a.session < 4294967296
  pub two_bytes : a.number < 65536

module _ (a : Asked) (z : first (send_refusals a) ≡ 0) where
  abbrev frames : Framed (length a.bytes) a.lengths
  frames = framed (length a.bytes) a.lengths (job a z).frames-sound

  abbrev room : ℕ
  room = a.limit - header_length

  starts_inside : Inside a.lengths a.position
  starts_inside = inside a.lengths a.position (standing a z).in_frames

  pub cut_done : Cutting entry_width a.bytes a.lengths frames room a.position (cut_for a)
  unfolding cut_for
  cut_done =
      cut_keeps entry_width a.bytes a.lengths frames room a.position most_segments (start_of a)
      (cutting_start entry_width a.bytes a.lengths frames room a.position starts_inside)

  first_goes : goes_on entry_width a.lengths (start_of a) ≡ true
  first_goes =
      let l : a.position.frame < length a.lengths = below starts_inside.among (standing a z).remain in
      rw (lt-ltb a.position.frame (length a.lengths) l) (le-leb (least_room entry_width) room (omega (arith, enough a z)))
    where
      below : {n m : ℕ} → n ≤ m → (n ≡ m → ⊥) → n < m
      below l d = omega arith

  pub some_segment : 1 ≤ length (cut_for a).segments
  unfolding cut_for
  some_segment = omega (arith, cut-some entry_width a.bytes a.lengths 126 (start_of a) first_goes)

  few-segments : length (cut_for a).segments ≤ most_segments
  unfolding cut_for
  few-segments = omega (arith, (cut-counts entry_width a.bytes a.lengths most_segments (start_of a)).no_more)

  pub packet-fits : length (packet_for a) ≤ a.limit + 4
  packet-fits = omega (arith, length-packet a.session a.flow a.number (cut_for a).segments, cut_done.in_room, enough a z)

  pub sent-number : (sent a).answer.number ≡ next a.number
  unfolding written
  sent-number = ap (λ (o : SendOutcome). o.answer.number) (sym (sent-written a z))

  sent-position : (sent a).answer.position ≡ (cut_for a).position
  unfolding written
  sent-position = ap (λ (o : SendOutcome). o.answer.position) (sym (sent-written a z))

  pub sent-inside : Inside a.lengths (sent a).answer.position
  sent-inside = rw sent-position cut_done.inside

  some_bytes : (segs : List Segment) → 1 ≤ length segs → ((k : ℕ) → k < length segs → 1 ≤ length (nth segs k).body) →
      1 ≤ length (joined (map body_of segs))
  some_bytes [] l f = absurd (not-suc-le-zero l)
  some_bytes (s ∷ segs) l f = omega (arith, length-joined s.body (map body_of segs), f 0 (omega arith))

  pub sent_farther : index_of a.lengths a.position + 1 ≤ index_of a.lengths (sent a).answer.position
  sent_farther =
      rw sent-position
      (omega (
        arith,
        carried-place a.bytes a.lengths a.position (cut_for a).position (cut_for a).segments cut_done.carried,
        some_bytes (cut_for a).segments some_segment cut_done.filled,
      ))

  -- the packet that is left in the output
  pub sent-packet : packet_left (sent a) ≡ packet_for a
  unfolding written
  sent-packet =
      ap packet_left (sym (sent-written a z))
      ∙ part-put a.output 0 (packet_for a) (omega (arith, packet-fits, (standing a z).output_long))

  pub sent-length : (sent a).answer.length ≤ a.limit + 4
  unfolding written
  sent-length = rw (ap (λ (o : SendOutcome). o.answer.length) (sym (sent-written a z))) packet-fits

  module _ (t : Typed a) where
    sendable : Sendable a.session a.flow a.number (cut_for a).segments
    sendable =
        record {
          to_session = has_session a.session a.flow a.limit (length a.bytes) a.lengths (job a z);
          four_bytes = t.four_bytes;
          to_flow = has_flow a.session a.flow a.limit (length a.bytes) a.lengths (job a z);
          two_bytes = t.two_bytes;
          some = some_segment;
          few = few-segments;
          filled = cut_done.filled;
          short = λ k l. omega (arith, cut_done.short k l);
          begun = cut_done.begun;
          ended = cut_done.ended;
          not_long = omega (arith, packet-fits, small a z);
        }

    pub sent_passes : check kind_psp (ip (packet_left (sent a))) ≡ 0
    sent_passes =
        ap (λ (p : List ℕ). check kind_psp (ip p)) sent-packet
        ∙ written_passes a.session a.flow a.number (cut_for a).segments sendable

    pub sent-counts : s_set (sub (ip (packet_left (sent a)))) ≡ true
    sent-counts =
        ap (λ (p : List ℕ). s_set (sub (ip p))) sent-packet
        ∙ written-counts a.session a.flow a.number (cut_for a).segments sendable

    pub sent-addressed : Addressed (record { session = a.session; flow = a.flow; start = a.number }) (ip (packet_left (sent a)))
    sent-addressed = (
      ap (λ (p : List ℕ). session_id (ip p)) sent-packet
          ∙ written-session a.session a.flow a.number (cut_for a).segments sendable,
      ap (λ (p : List ℕ). flow_id (sub (ip p))) sent-packet
          ∙ written-flow a.session a.flow a.number (cut_for a).segments sendable,
    )

    pub sent-numbered : number_in (sub (ip (packet_left (sent a)))) ≡ a.number
    sent-numbered =
        ap (λ (p : List ℕ). number_in (sub (ip p))) sent-packet
        ∙ written-number a.session a.flow a.number (cut_for a).segments sendable

    sent-segments : segments_of entry_width (ip (packet_left (sent a))) ≡ (cut_for a).segments
    sent-segments =
        ap (λ (p : List ℕ). segments_of entry_width (ip p)) sent-packet
        ∙ written-segments a.session a.flow a.number (cut_for a).segments sendable

    -- its segments are the next stretch of the frames
    pub sent-carries : Carried a.bytes a.lengths a.position (segments_of entry_width (ip (packet_left (sent a))))
        (sent a).answer.position
    sent-carries = rw (sent-segments, sent-position) cut_done.carried
