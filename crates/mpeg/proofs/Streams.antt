-- What one packet does to a reading, however it is read: the stretch that it adds to the bytes of all frames (`adds`), and what stays true
-- of a reading as long as it is sound (`Steady`).
use Prim.Native.Nat.{ℕ, ◌+◌, ◌-◌, ◌/◌, ◌≤◌}
use mathlib.Core.Path.{◌≡◌, refl, sym, ap, ◌∙◌}
use mathlib.Core.Bool.{Bool, true, false, not, cond, ◌&&◌, true≢false}
use mathlib.Core.Logic.{⊎_elim}
use mathlib.Core.List.{List, [], ◌∷◌, ◌++◌, append_assoc, append-nil}
use native.Mathlib.Omega.{arith}
use lib.Dec.{eqb}
use lib.ListN.{length, length-append}
use borrow.Author.Tests.{eqb-true}
use Rattle.refusal.proofs.Laws.{and_left}
use Rattle.octets.specs.Bytes.{byte_at}
use Rattle.octets.specs.Each.{Each}
use Rattle.octets.specs.Stretch.{part, rest, joined}
use Rattle.octets.specs.Tests.{none}
use Rattle.octets.proofs.Counts.{true-or-false}
use Rattle.octets.proofs.Elements.{each_both}
use Rattle.octets.proofs.Stretches.{length_part, length_rest, part_none, part_to_end, part-rest_front, part-part_front}
use Rattle.octets.proofs.Stretches.{joined-none, joined_one, joined-append, joined-one_more}
use Rattle.octets.proofs.Tests.{none-empty}
use Rattle.ts.specs.Packet.{mpeg_length, head_length, payload_length, start_flag, counts, all_fill}
use Rattle.mpeg.specs.Packet.{pointed_length, frames_pid}
use Rattle.mpeg.specs.Frame.{good, may_begin}
use Rattle.mpeg.specs.Read.{Reading, unsound, pointer, pointed, ended, found_in, ends_well, ended_frames, read_packet}
use Rattle.mpeg.specs.Inside.Stream.{stream, bytes_at}
use Rattle.mpeg.proofs.Frames.{GoodFrame, may_begin-none}
use Rattle.mpeg.proofs.Found.{Apart, found_apart, pieces, pieces-inside, pieces-part}
use Rattle.mpeg.proofs.Ways.{longer, after_finished, after_went_on, after_started, stays_unsound, headed_second, null_second, Started}
use Rattle.mpeg.proofs.Ways.{way, Way, was_refused, was_null, was_finished, went_on, was_started}

-- A reading that is not sound is `unsound`, and nothing else is kept of it.
pub refused_is : (s : Reading) (packet : List ℕ) → (read_packet s packet).sound ≡ false → read_packet s packet ≡ unsound
refused_is s packet r =
    ⊎_elim
    (λ (sound : s.sound ≡ true). by sound (way s packet sound))
    (λ (lost : s.sound ≡ false). stays_unsound s packet lost)
    (true-or-false s.sound)
  where
    never : {t : Reading} → read_packet s packet ≡ t → t.sound ≡ true → read_packet s packet ≡ unsound
    never e sound = absurd (true≢false (sym sound ∙ sym (ap (λ (t : Reading). t.sound) e) ∙ r))

    by : s.sound ≡ true → Way s packet → read_packet s packet ≡ unsound
    by sound (was_refused e) = e
    by sound (was_null is-null nothing e) = never e sound
    by sound (was_finished h begun g e) = never e refl
    by sound (went_on h begun m e) = never e refl
    by sound (was_started h started e) = never e refl

-- What has come of a frame that is not finished may begin a frame.
begins_by : (s : Reading) (packet : List ℕ) → may_begin s.begun ≡ true → Way s packet → may_begin (read_packet s packet).begun ≡ true
begins_by s packet may (was_refused e) = rw e may_begin-none
begins_by s packet may (was_null is-null nothing e) = rw e may
begins_by s packet may (was_finished h begun g e) = rw e may_begin-none
begins_by s packet may (went_on h begun m e) = rw e m
begins_by s packet may (was_started h started e) =
    rw e (found_apart pointed_length (rest (pointed packet) (pointer packet)) started.well).may_begin_lem

pub begins_on : (s : Reading) (packet : List ℕ) → may_begin s.begun ≡ true → may_begin (read_packet s packet).begun ≡ true
begins_on s packet may =
    ⊎_elim
    (λ (sound : s.sound ≡ true). begins_by s packet may (way s packet sound))
    (λ (lost : s.sound ≡ false). rw (stays_unsound s packet lost) may_begin-none)
    (true-or-false s.sound)

-- Where a packet's bytes stand.
bytes_behind_header : (packet : List ℕ) → byte_at packet 1 ≡ frames_pid / 256 → bytes_at packet ≡ head_length
unfolding bytes_at
bytes_behind_header packet e = rw e refl

bytes-behind_pointer : (packet : List ℕ) → byte_at packet 1 ≡ start_flag + frames_pid / 256 → bytes_at packet ≡ head_length + 1
unfolding bytes_at
bytes-behind_pointer packet e = rw e refl

-- What a packet adds to the stream: a stretch of itself.
pub record Adds (s after : Reading) (packet : List ℕ) : Type 0 where
  pub size : ℕ
  pub inside : bytes_at packet + size ≤ mpeg_length
  pub bytes_of : stream after ≡ stream s ++ part packet (bytes_at packet) size

-- What stays true of a reading that is sound, when `at` bytes of packets have come.
pub record Steady (at : ℕ) (s : Reading) : Type 0 where
  pub still_sound : s.sound ≡ true
  pub count_known : s.expected ≤ counts
  pub may_begin_lem : may_begin s.begun ≡ true
  pub all_good_lem : Each GoodFrame s.frames
  pub short : length (stream s) ≤ at

module _ (s : Reading) (packet : List ℕ) (long : length packet ≡ mpeg_length) where
  adds_nothing : byte_at packet 1 ≡ frames_pid / 256 → Adds s s packet
  adds_nothing second =
      record {
        size = 0;
        inside = omega (arith, bytes_behind_header packet second);
        bytes_of = sym (append-nil (stream s)) ∙ ap (λ (l : List ℕ). stream s ++ l) (sym (part_none packet (bytes_at packet)));
      }

  -- the payload of a packet without the flag
  payload : byte_at packet 1 ≡ frames_pid / 256 → rest packet head_length ≡ part packet (bytes_at packet) payload_length
  payload second =
      sym (part_to_end packet head_length) ∙ ap (λ (n : ℕ). part packet head_length (n - head_length)) long
      ∙ ap (λ (n : ℕ). part packet n payload_length) (sym (bytes_behind_header packet second))

  longer_stream : byte_at packet 1 ≡ frames_pid / 256 →
      joined s.frames ++ longer s packet ≡ stream s ++ part packet (bytes_at packet) payload_length
  unfolding stream
  longer_stream second =
      sym (append_assoc (joined s.frames) s.begun (rest packet head_length))
      ∙ ap (λ (l : List ℕ). joined s.frames ++ s.begun ++ l) (payload second)

  adds_finished : byte_at packet 1 ≡ frames_pid / 256 → Adds s (after_finished s packet) packet
  unfolding stream
  adds_finished second =
      record {
        size = payload_length;
        inside = omega (arith, bytes_behind_header packet second);
        bytes_of =
            append-nil (joined (s.frames ++ (longer s packet ∷ []))) ∙ joined-one_more s.frames (longer s packet)
            ∙ longer_stream second;
      }

  adds_more : byte_at packet 1 ≡ frames_pid / 256 → Adds s (after_went_on s packet) packet
  unfolding stream
  adds_more second =
      record { size = payload_length; inside = omega (arith, bytes_behind_header packet second); bytes_of = longer_stream second }

  -- the frame that ends at the pointer, if one had begun
  ended-joined : ends_well s packet ≡ true → joined (ended_frames s packet) ≡ s.begun ++ part (pointed packet) 0 (pointer packet)
  ended-joined ends =
      ⊎_elim
      (λ (a : none s.begun ≡ true).
      let conditions : (eqb (pointer packet) 0 && not (all_fill (pointed packet))) ≡ true = rw a at ends in
      let zeroed = eqb-true (pointer packet) 0 (and_left (eqb (pointer packet) 0) (not (all_fill (pointed packet))) conditions) in
      ap (λ (t : Bool). joined (cond t [] (ended s packet ∷ []))) a ∙ joined-none
      ∙ sym (ap (λ (l : List ℕ). l ++ part (pointed packet) 0 (pointer packet)) (none-empty s.begun a)
      ∙ ap (part (pointed packet) 0) zeroed ∙ part_none (pointed packet) 0))
      (λ (a : none s.begun ≡ false). ap (λ (t : Bool). joined (cond t [] (ended s packet ∷ []))) a ∙ joined_one (ended s packet))
      (true-or-false (none s.begun))

  ended-good : ends_well s packet ≡ true → Each GoodFrame (ended_frames s packet)
  ended-good ends =
      ⊎_elim
      (λ (a : none s.begun ≡ true). rw a tt)
      (λ (a : none s.begun ≡ false). let g : good (ended s packet) ≡ true = rw a at ends in rw a (g, tt))
      (true-or-false (none s.begun))

  module _ (second : byte_at packet 1 ≡ start_flag + frames_pid / 256) (started : Started s packet) where
    abbrev behind : Apart (rest (pointed packet) (pointer packet)) (found_in packet)
    behind = found_apart pointed_length (rest (pointed packet) (pointer packet)) started.well

    abbrev size : ℕ
    size = length (pieces behind)

    started_bytes : part (pointed packet) 0 (pointer packet) ++ pieces behind ≡ part packet (bytes_at packet) (pointer packet + size)
    started_bytes =
        ap (λ (l : List ℕ). part (pointed packet) 0 (pointer packet) ++ l)
        (pieces-part behind ∙ part-rest_front (pointed packet) (pointer packet) size)
        ∙ part-part_front (pointed packet) (pointer packet) size
        ∙ part-rest_front packet (head_length + 1) (pointer packet + size)
        ∙ ap (λ (n : ℕ). part packet n (pointer packet + size)) (sym (bytes-behind_pointer packet second))

    adds_started : Adds s (after_started s packet) packet
    unfolding stream
    adds_started =
        let J = joined s.frames in
        let E = ended_frames s packet in
        let W = (found_in packet).whole in
        let O = (found_in packet).open_end in
        let P = part (pointed packet) 0 (pointer packet) in
        record {
          size = pointer packet + size;
          inside =
              omega (
                arith,
                bytes-behind_pointer packet second,
                pieces-inside behind,
                length_rest (pointed packet) (pointer packet),
                length_rest packet (head_length + 1),
                long,
                started.near,
              );
          bytes_of =
              ap (λ (l : List ℕ). l ++ O)
              (joined-append (s.frames ++ E) W ∙ ap (λ (l : List ℕ). l ++ joined W) (joined-append s.frames E))
              ∙ append_assoc (J ++ joined E) (joined W) O
              ∙ ap (λ (l : List ℕ). J ++ l ++ (joined W ++ O)) (ended-joined started.ends)
              ∙ ap (λ (l : List ℕ). l ++ (joined W ++ O)) (sym (append_assoc J s.begun P))
              ∙ append_assoc (J ++ s.begun) P (joined W ++ O)
              ∙ ap (λ (l : List ℕ). J ++ s.begun ++ l) started_bytes;
        }

  module _ (sound : (read_packet s packet).sound ≡ true) where
    lost : {A : Type 0} → read_packet s packet ≡ unsound → A
    lost e = absurd (true≢false (sym sound ∙ ap (λ (t : Reading). t.sound) e))

    adds_by : Way s packet → Adds s (read_packet s packet) packet
    adds_by (was_refused e) = lost e
    adds_by (was_null is-null nothing e) = rw e (adds_nothing (null_second packet is-null))
    adds_by (was_finished h begun g e) = rw e (adds_finished (headed_second h))
    adds_by (went_on h begun m e) = rw e (adds_more (headed_second h))
    adds_by (was_started h started e) = rw e (adds_started (headed_second h) started)

    module _ (was-sound : s.sound ≡ true) where
      pub adds : Adds s (read_packet s packet) packet
      adds = adds_by (way s packet was-sound)

    module _ (at : ℕ) (steady : Steady at s) where
      longer_by : length (stream (read_packet s packet)) ≤ at + mpeg_length
      longer_by =
          let a = adds steady.still_sound in
          let more : length (part packet (bytes_at packet) a.size) ≡ a.size =
          length_part packet (bytes_at packet) a.size (omega (arith, long, a.inside)) in
          omega (
            arith,
            ap length a.bytes_of,
            length-append (stream s) (part packet (bytes_at packet) a.size),
            more,
            a.inside,
            steady.short,
          )

      count_by : Way s packet → (read_packet s packet).expected ≤ counts
      count_by (was_refused e) = lost e
      count_by (was_null is-null nothing e) = rw e steady.count_known
      count_by (was_finished h begun g e) = rw e (omega arith)
      count_by (went_on h begun m e) = rw e (omega arith)
      count_by (was_started h started e) = rw e (omega arith)

      good_by : Way s packet → Each GoodFrame (read_packet s packet).frames
      good_by (was_refused e) = lost e
      good_by (was_null is-null nothing e) = rw e steady.all_good_lem
      good_by (was_finished h begun g e) = rw e (each_both GoodFrame s.frames (longer s packet ∷ []) steady.all_good_lem (g, tt))
      good_by (went_on h begun m e) = rw e steady.all_good_lem
      good_by (was_started h started e) =
          rw e
          (each_both GoodFrame (s.frames ++ ended_frames s packet) (found_in packet).whole
          (each_both GoodFrame s.frames (ended_frames s packet) steady.all_good_lem (ended-good started.ends))
          (behind (headed_second h) started).good-frames)

      pub steady_turn : Steady (at + mpeg_length) (read_packet s packet)
      steady_turn =
          let w = way s packet steady.still_sound in
          record {
            still_sound = sound;
            count_known = count_by w;
            may_begin_lem = begins_on s packet steady.may_begin_lem;
            all_good_lem = good_by w;
            short = longer_by;
          }
