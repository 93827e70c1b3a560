-- The rooms are enough: packets bring back no more bytes than they have, and no more frames than bytes. So reading them is refused by 53
-- alone.
use Prim.Native.Nat.{ℕ, ◌+◌, ◌*◌, ◌≤◌}
use mathlib.Core.Path.{◌≡◌, refl, sym, ap, ◌∙◌}
use mathlib.Core.Bool.{Bool, true, false, cond}
use mathlib.Core.Logic.{◌⊎◌, inl, inr}
use mathlib.Core.List.{List, [], append-nil}
use native.Mathlib.Omega.{arith}
use lib.ListN.{length, take}
use borrow.Author.Tests.{le-ltb}
use Rattle.octets.specs.Bytes.{byte_at}
use Rattle.octets.specs.Count.{sum_to}
use Rattle.octets.specs.Stretch.{part, put, joined, lengths_of, cut_by}
use Rattle.octets.proofs.Counts.{true-or-false}
use Rattle.octets.proofs.Stretches.{sliced_front, part-put, length-lengths_of, cut-joined, total, total-lengths_of, total-part, part_all}
use Rattle.text.specs.Text.{Wrote}
use Rattle.tool.specs.Refused.{refused_line}
use Rattle.mpeg.specs.declared.reader.ReadBack.{ReadBack}
use Rattle.mpeg.specs.Read.{reading, AskedRead, ReadOutcome, not_read, read_by, read}
use Rattle.mpeg.specs.Read.{got_back as got-back}
use Rattle.frames.specs.Frames.{length_bytes, frames_file, PermitsPack}
use Rattle.frames.proofs.Laws.{length_pack}
use Rattle.outputs.specs.Back.{got_back}
use Rattle.mpegframes.specs.Rooms.{most_read, text_room}
use Rattle.mpeg.proofs.Passes.{reading-fits}

-- A call of the reader, with rooms for as much as is read: what it was given, and what it answered and left.
pub record Call : Type 0 where
  pub packets : List ℕ
  pub output : List ℕ
  pub lengths : List ℕ
  pub short : length packets ≤ most_read
  pub output_long : length output ≡ most_read
  pub lengths_long : length lengths ≡ most_read
  pub answer : ReadBack
  pub output-left : List ℕ
  pub lengths-left : List ℕ
  pub outcome : record { answer = answer; output = output-left; lengths = lengths-left }
      ≡ read (record { packets = packets; output = output; lengths = lengths })

-- It gives the frames, or 53.
module _ (call : Call) where
  abbrev packets : List ℕ
  packets = call.packets

  abbrev output : List ℕ
  output = call.output

  abbrev lengths : List ℕ
  lengths = call.lengths

  abbrev r : ReadBack
  r = call.answer

  abbrev output' : List ℕ
  output' = call.output-left

  abbrev lengths' : List ℕ
  lengths' = call.lengths-left

  abbrev asked : AskedRead
  asked = record { packets = packets; output = output; lengths = lengths }

  abbrev frames : List (List ℕ)
  frames = (reading packets).frames

  bytes_fit : length (joined frames) ≤ most_read
  bytes_fit = omega (arith, (reading-fits packets).few_bytes, call.short)

  frames_fit : length frames ≤ most_read
  frames_fit = omega (arith, (reading-fits packets).few-frames, bytes_fit)

  read-sound : (reading packets).sound ≡ true → read asked ≡ got-back asked
  unfolding read read_by
  read-sound e =
      let fit = le-ltb (length output) (length (joined frames)) (omega (arith, bytes_fit, call.output_long)) in
      let few = le-ltb (length lengths) (length frames) (omega (arith, frames_fit, call.lengths_long)) in
      rw (e, fit, few) refl

  read-unsound : (reading packets).sound ≡ false → read asked ≡ not_read 53 asked
  unfolding read read_by
  read-unsound e = rw e refl

  pub back_refused : (r.code ≡ 0 → ⊥) → refused_line r.code ≡ got_back packets
  unfolding got-back not_read got_back
  back_refused some = by (true-or-false (reading packets).sound)
    where
      by : ((reading packets).sound ≡ true) ⊎ ((reading packets).sound ≡ false) → refused_line r.code ≡ got_back packets
      by (inl e) = absurd (some (ap (λ (x : ReadOutcome). x.answer.code) (call.outcome ∙ read-sound e)))
      by (inr e) = ap (λ (x : ReadOutcome). refused_line x.answer.code) (call.outcome ∙ read-unsound e) ∙ rw e refl

  module _ (z : r.code ≡ 0) where
    is_sound : (reading packets).sound ≡ true
    unfolding not_read
    is_sound = by (true-or-false (reading packets).sound)
      where
        by : ((reading packets).sound ≡ true) ⊎ ((reading packets).sound ≡ false) → (reading packets).sound ≡ true
        by (inl e) = e
        by (inr e) =
            let is-53 : r.code ≡ 53 = ap (λ (x : ReadOutcome). x.answer.code) (call.outcome ∙ read-unsound e) in
            absurd (omega (arith, is-53, z))

    is_back : record { answer = r; output = output'; lengths = lengths' } ≡ got-back asked
    is_back = call.outcome ∙ read-sound is_sound

    bytes_are : r.bytes ≡ length (joined frames)
    unfolding got-back
    bytes_are = ap (λ (x : ReadOutcome). x.answer.bytes) is_back

    count_is : r.frames ≡ length frames
    unfolding got-back
    count_is = ap (λ (x : ReadOutcome). x.answer.frames) is_back

    front_bytes : take r.bytes output' ≡ joined frames
    unfolding got-back
    front_bytes =
        sliced_front output' r.bytes
        ∙ ap (λ (x : ReadOutcome). part x.output 0 r.bytes) is_back
        ∙ ap (part (put output 0 (joined frames)) 0) bytes_are
        ∙ part-put output 0 (joined frames) (omega (arith, bytes_fit, call.output_long))

    front_lengths : take r.frames lengths' ≡ lengths_of frames
    unfolding got-back
    front_lengths =
        sliced_front lengths' r.frames
        ∙ ap (λ (x : ReadOutcome). part x.lengths 0 r.frames) is_back
        ∙ ap (part (put lengths 0 (lengths_of frames)) 0) (count_is ∙ sym (length-lengths_of frames))
        ∙ part-put lengths 0 (lengths_of frames) (omega (arith, length-lengths_of frames, frames_fit, call.lengths_long))

    -- what the reader left lies in the rooms
    pub bytes_inside : r.bytes ≤ most_read
    bytes_inside = omega (arith, bytes_are, bytes_fit)

    pub frames-inside : r.frames ≤ most_read
    frames-inside = omega (arith, count_is, frames_fit)

    -- what packing them asks for, and gives
    sum_is : (l : List ℕ) → sum_to (byte_at l) (length l) ≡ total l
    sum_is l = sym (total-part l (length l) (omega arith)) ∙ ap total (part_all l)

    pub pack_asks : (text : List ℕ) → text_room ≤ length text →
        (sum_to (byte_at (take r.frames lengths')) (length (take r.frames lengths')) ≤ length (take r.bytes output'))
        × (length (take r.bytes output') + length_bytes * length (take r.frames lengths') ≤ length text)
    pack_asks text room =
        rw (front_bytes, front_lengths) (
          omega (arith, sum_is (lengths_of frames), total-lengths_of frames),
          omega (arith, length-lengths_of frames, bytes_fit, frames_fit, room),
        )

    written : frames_file (cut_by (take r.frames lengths') (take r.bytes output')) ≡ got_back packets
    unfolding got_back
    written =
        ap (λ (l : List ℕ). frames_file (cut_by l (take r.bytes output'))) front_lengths
        ∙ ap (λ (l : List ℕ). frames_file (cut_by (lengths_of frames) l)) (front_bytes ∙ sym (append-nil (joined frames)))
        ∙ ap frames_file (cut-joined frames [])
        ∙ ap (λ (b : Bool). cond b (frames_file frames) (refused_line 53)) (sym is_sound)

    pub pack_gives : {text text' : List ℕ} {next : ℕ} → text_room ≤ length text →
        PermitsPack (take r.bytes output') (take r.frames lengths') text next text' → Wrote text text' 0 next (got_back packets)
    unfolding got_back
    pack_gives {text} room p =
        let size : length (got_back packets) ≡ length (frames_file frames) =
        ap (λ (b : Bool). length (cond b (frames_file frames) (refused_line 53))) is_sound in
        record {
          there = p.its_file ∙ ap (put text 0) written;
          next_place = omega (arith, p.its_length, ap length written);
          inside = omega (arith, size, length_pack frames, bytes_fit, frames_fit, room);
        }
