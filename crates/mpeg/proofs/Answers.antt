-- The three ways out of `read`: 53, 51, and the frames. Each is what the definition says, from what the survey found.
use Prim.Native.Nat.{ℕ, ◌+◌, ◌≤◌}
use mathlib.Core.Path.{◌≡◌, refl, sym, ap, ◌∙◌}
use mathlib.Core.Bool.{Bool, true, false, ◌||◌}
use mathlib.Core.List.{List, [], ◌++◌}
use native.Mathlib.Omega.{arith}
use lib.Dec.{ltb}
use lib.ListN.{length}
use borrow.Author.Tests.{ltb-false, le-ltb}
use Rattle.octets.specs.Stretch.{rest, put, joined, lengths_of}
use Rattle.octets.proofs.Counts.{or-false-left, or-false-right}
use Rattle.octets.proofs.Stretches.{put_front, length-joined-none}
use Rattle.mpeg.specs.Read.{Reading, reading, AskedRead, frames_read, ReadOutcome, got_back, not_read, read_by, read}
use Rattle.mpeg.specs.Inside.Standing.{Told, standing_of}
use Rattle.mpeg.specs.Inside.Stream.{said_lengths, Laid, Surveyed}
use Rattle.mpeg.proofs.Passes.{reading-lost, frames-good}
use Rattle.mpeg.proofs.Lengths.{said_lengths_lem, frames-laid}

-- an outcome is what it is made of
pub same_outcome : {code code' frames frames' bytes bytes' : ℕ} {output output' lengths lengths' : List ℕ} →
    code ≡ code' → frames ≡ frames' → bytes ≡ bytes' → output ≡ output' → lengths ≡ lengths' →
    ◌≡◌ {A = ReadOutcome}
    (record { answer = record { code = code; frames = frames; bytes = bytes }; output = output; lengths = lengths })
    (record { answer = record { code = code'; frames = frames'; bytes = bytes' }; output = output'; lengths = lengths' })
same_outcome c f b o l = rw (c, f, b, o, l) refl

module _ (a : AskedRead) where
  -- the two slices are too small
  abbrev small : Bool
  small = ltb (length a.output) (length (joined (frames_read a))) || ltb (length a.lengths) (length (frames_read a))

  read-unsound : (reading a.packets).sound ≡ false → not_read 53 a ≡ read a
  unfolding read read_by
  read-unsound s = rw s refl

  read_small : (reading a.packets).sound ≡ true → small ≡ true → not_read 51 a ≡ read a
  unfolding read read_by
  read_small s t = rw (s, t) refl

  read_all : (reading a.packets).sound ≡ true → small ≡ false → got_back a ≡ read a
  unfolding read read_by
  read_all s t = rw (s, t) refl

  -- What is unsound has no frames, and no slice is too small for none: 51's condition never holds where 53's does.
  pub never_both : (reading a.packets).sound ≡ false → small ≡ false
  never_both s =
      let none : frames_read a ≡ [] = ap (λ (r : Reading). r.frames) (reading-lost a.packets s) in
      rw (none, length-joined-none, le-ltb (length a.output) 0 (omega arith), le-ltb (length a.lengths) 0 (omega arith)) refl

  module _ (standing : Told) (e : standing ≡ standing_of (reading a.packets)) where
    sound_is : standing.sound ≡ (reading a.packets).sound
    sound_is = ap (λ (s : Told). s.sound) e

    bytes_is : standing.bytes ≡ length (joined (frames_read a))
    bytes_is = ap (λ (s : Told). s.bytes) e

    frames_is : standing.frames ≡ length (frames_read a)
    frames_is = ap (λ (s : Told). s.frames) e

    pub answers_53 : standing.sound ≡ false →
        ◌≡◌ {A = ReadOutcome} (record {
          answer = record { code = 53; frames = 0; bytes = 0 };
          output = a.output;
          lengths = a.lengths;
        }) (read a)
    unfolding not_read
    answers_53 s = read-unsound (sym sound_is ∙ s)

    -- the code's test
    abbrev too_small : Bool
    too_small = ltb (length a.output) standing.bytes || ltb (length a.lengths) standing.frames

    small_is : small ≡ too_small
    small_is = rw (bytes_is, frames_is) refl

    module _ (sound : standing.sound ≡ true) where
      all_sound : (reading a.packets).sound ≡ true
      all_sound = sym sound_is ∙ sound

      pub answers_51 : too_small ≡ true →
          ◌≡◌ {A = ReadOutcome} (record {
            answer = record { code = 51; frames = 0; bytes = 0 };
            output = a.output;
            lengths = a.lengths;
          }) (read a)
      unfolding not_read
      answers_51 t = read_small all_sound (small_is ∙ t)

      module _ (room : too_small ≡ false) where
        pub output_room : standing.bytes ≤ length a.output
        output_room =
            ltb-false (length a.output) standing.bytes
            (or-false-left (ltb (length a.output) standing.bytes) (ltb (length a.lengths) standing.frames) room)

        pub lengths-room : standing.frames ≤ length a.lengths
        lengths-room =
            ltb-false (length a.lengths) standing.frames
            (or-false-right (ltb (length a.output) standing.bytes) (ltb (length a.lengths) standing.frames) room)

        pub was_surveyed : Surveyed a.packets a.output standing.bytes
        was_surveyed = record { all_sound = all_sound; all_bytes = bytes_is; room = output_room }

        module _ (output' : List ℕ) (w : output' ≡ put a.output 0 (joined (frames_read a))) where
          abbrev behind : List ℕ
          behind = rest a.output (0 + length (joined (frames_read a)))

          output_is : output' ≡ joined (frames_read a) ++ behind
          output_is = w ∙ put_front a.output (joined (frames_read a))

          pub are_laid : Laid standing.frames output'
          are_laid = rw (frames_is, output_is) (frames-laid (frames_read a) behind (frames-good a.packets all_sound))

          module _ (lengths' : List ℕ) (l : lengths' ≡ put a.lengths 0 (said_lengths standing.frames output')) where
            lengths_is : lengths' ≡ put a.lengths 0 (lengths_of (frames_read a))
            lengths_is =
                l ∙ ap (λ (n : ℕ). put a.lengths 0 (said_lengths n output')) frames_is
                ∙ ap (λ (bytes : List ℕ). put a.lengths 0 (said_lengths (length (frames_read a)) bytes)) output_is
                ∙ ap (put a.lengths 0) (said_lengths_lem (frames_read a) behind (frames-good a.packets all_sound))

            pub answers-frames : ◌≡◌ {A = ReadOutcome}
                (record {
                  answer = record { code = 0; frames = standing.frames; bytes = standing.bytes };
                  output = output';
                  lengths = lengths';
                })
                (read a)
            unfolding got_back
            answers-frames = same_outcome refl frames_is bytes_is w lengths_is ∙ read_all all_sound (small_is ∙ room)
