-- The two ways out of `send`: a refusal, which gives back what it was given, and a packet, which is its header and its segments put one
-- behind the other. And what an outcome that was not refused is known to be.
use Prim.Native.Nat.{ℕ, zero, suc, ◌+◌, ◌-◌, ◌*◌, ◌≤◌}
use mathlib.Core.Path.{◌≡◌, refl, sym, ap, ◌∙◌}
use mathlib.Core.List.{List, ◌++◌, map}
use native.Mathlib.Omega.{arith}
use lib.ListN.{length}
use Rattle.refusal.specs.Refusal.{first}
use Rattle.octets.specs.Stretch.{put, joined}
use Rattle.octets.proofs.Stretches.{put-before}
use Rattle.flow.specs.Numbers.{next}
use Rattle.packet.specs.Header.{header_length, shortest_packet}
use Rattle.packet.specs.Segments.{entry_width}
use Rattle.sender.specs.declared.Progress.{Progress}
use Rattle.sender.specs.Packet.{entry_of, body_of, header_of, packet_of}
use Rattle.sender.specs.Send.{Asked, SendOutcome, send_refusals, cut_for, packet_for, written, refused, sent_by, sent, PermitsSend}
use Rattle.sender.specs.Inside.{Ready, cut_of, Written}
use Rattle.sender.proofs.Reading.{length-packet}
use Rattle.sender.proofs.Judging.{Passed, Standing, send_passed, limit-enough, limit-small}

pub permits : {a : Asked} {o : SendOutcome} → o ≡ sent a → PermitsSend a o
permits e =
    record {
      its_code = ap (λ (o : SendOutcome). o.answer.code) e;
      its_length = ap (λ (o : SendOutcome). o.answer.length) e;
      its_position = ap (λ (o : SendOutcome). o.answer.position) e;
      its_number = ap (λ (o : SendOutcome). o.answer.number) e;
      its_output = ap (λ (o : SendOutcome). o.output) e;
    }

refused_by : (a : Asked) (code : ℕ) → (code ≡ 0 → ⊥) → refused code a ≡ sent_by code a
unfolding sent_by
refused_by a zero s = absurd (s refl)
refused_by a (suc c) s = refl

module _ (a : Asked) where
  pub sent-refused : (code : ℕ) → code ≡ first (send_refusals a) → (code ≡ 0 → ⊥) → refused code a ≡ sent a
  unfolding sent
  sent-refused code e s = refused_by a code s ∙ ap (λ (c : ℕ). sent_by c a) e

  pub send_refused : (code : ℕ) → code ≡ first (send_refusals a) → (code ≡ 0 → ⊥) →
      ◌≡◌ {A = SendOutcome} (record {
        answer = record { code = code; length = 0; position = a.position; number = a.number };
        output = a.output;
      }) (sent a)
  unfolding refused
  send_refused code e s = sent-refused code e s

  pub sent-written : first (send_refusals a) ≡ 0 → written a ≡ sent a
  unfolding sent sent_by
  sent-written z = sym (ap (λ (c : ℕ). sent_by c a) z)

  module _ (z : first (send_refusals a) ≡ 0) where
    pub job : Passed a.session a.flow a.limit (length a.bytes) a.lengths
    job = (send_passed a.session a.flow a.limit (length a.bytes) a.lengths a.position (length a.output) z).0

    pub standing : Standing a.limit a.lengths a.position (length a.output)
    standing = (send_passed a.session a.flow a.limit (length a.bytes) a.lengths a.position (length a.output) z).1

    pub enough : 16 ≤ a.limit
    enough = limit-enough a.session a.flow a.limit (length a.bytes) a.lengths job

    pub small : a.limit ≤ 4096
    small = limit-small a.session a.flow a.limit (length a.bytes) a.lengths job

    pub header-there : shortest_packet ≤ length a.output
    header-there = omega (arith, enough, standing.output_long)

    pub ready : Ready (length a.bytes) a.lengths a.position (a.limit - header_length) (length a.output)
    ready =
        record {
          frames-sound = job.frames-sound;
          position-inside = standing.in_frames;
          output_long = omega (arith, enough, standing.output_long);
          small = omega (arith, small);
        }

    module _ (p : Progress) (between after : List ℕ)
        (w : Written (cut_of a.bytes a.lengths (a.limit - header_length) a.position) a.output between
        (a.limit - header_length) p)
        (h : after ≡ put between 0 (header_of a.session a.flow p.count a.number)) where
      -- the code's answer is the definition's
      pub send_done : ◌≡◌ {A = SendOutcome}
          (record {
            answer =
                record {
                  code = 0;
                  length = shortest_packet + entry_width * p.count + p.bytes;
                  position = p.position;
                  number = next a.number;
                };
            output = after;
          })
          (sent a)
      unfolding written cut_for packet_of
      send_done =
          let segs = (cut_for a).segments in
          let E = joined (map entry_of segs) in
          let B = joined (map body_of segs) in
          let H = header_of a.session a.flow (length segs) a.number in
          let long : shortest_packet + entry_width * p.count + p.bytes ≡ length (packet_for a) =
          ap (λ (n : ℕ). shortest_packet + entry_width * n + p.bytes) w.counted
          ∙ ap (λ (n : ℕ). shortest_packet + entry_width * length segs + n) w.bytes_counted
          ∙ sym (length-packet a.session a.flow a.number segs) in
          let output_is : after ≡ put a.output 0 (packet_for a) =
          h
          ∙ ap (λ (n : ℕ). put between 0 (header_of a.session a.flow n a.number)) w.counted
          ∙ ap (λ (l : List ℕ). put l 0 H) w.output_now
          ∙ put-before a.output 0 H (E ++ B) (omega (arith, enough, standing.output_long)) in
          rw (long, w.position_now, output_is) (sent-written z)
