-- How a packet is read: the steps of `read_packet`, `without_flag` and `with_flag`, one for each outcome of their tests, and the one case
-- split over all of them, `Way`. Whoever shows something of a packet that was read goes by it.
use Prim.Native.Nat.{ℕ, ◌/◌, ◌≤◌}
use mathlib.Core.Path.{◌≡◌, refl, sym, ap, ◌∙◌}
use mathlib.Core.Bool.{Bool, true, false, cond, ◌&&◌, ◌||◌}
use mathlib.Core.Logic.{◌⊎◌, inl, inr, ⊎_elim}
use mathlib.Core.List.{List, [], ◌∷◌, ◌++◌}
use native.Mathlib.Omega.{arith}
use lib.Dec.{eqb, leb}
use borrow.Author.Tests.{eqb-true, leb-true}
use Rattle.refusal.proofs.Laws.{and_left, and_right}
use Rattle.octets.specs.Bytes.{byte_at}
use Rattle.octets.specs.Stretch.{part, rest}
use Rattle.octets.specs.Tests.{none, same}
use Rattle.octets.proofs.Counts.{true-or-false}
use Rattle.octets.proofs.Stretches.{byte_part, part-and-rest}
use Rattle.octets.proofs.Tests.{none-empty, same_equal}
use Rattle.ts.specs.Packet.{head_length, flagged, count_of, next_count, header, null_packet}
use Rattle.mpeg.specs.Packet.{pointed_length, frames_pid}
use Rattle.mpeg.specs.Frame.{good, may_begin}
use Rattle.mpeg.specs.Read.{Reading, unsound, any_count, count_fits, has_header, without_flag, pointer, found_in, ends_well, ended_frames}
use Rattle.mpeg.specs.Read.{with_flag, read_packet}

-- The frame that a packet without the flag makes of the begun one, and the readings behind a packet with frames.
abbrev pub longer : Reading → List ℕ → List ℕ
longer s packet = s.begun ++ rest packet head_length

abbrev pub after_finished : Reading → List ℕ → Reading
after_finished s packet =
    record { sound = true; expected = next_count (count_of packet); begun = []; frames = s.frames ++ (longer s packet ∷ []) }

abbrev pub after_went_on : Reading → List ℕ → Reading
after_went_on s packet = record { sound = true; expected = next_count (count_of packet); begun = longer s packet; frames = s.frames }

abbrev pub after_started : Reading → List ℕ → Reading
after_started s packet =
    record {
      sound = true;
      expected = next_count (count_of packet);
      begun = (found_in packet).open_end;
      frames = s.frames ++ ended_frames s packet ++ (found_in packet).whole;
    }

-- The steps.
module _ (s : Reading) (packet : List ℕ) where
  pub stays_unsound : s.sound ≡ false → read_packet s packet ≡ unsound
  unfolding read_packet
  stays_unsound e = rw e refl

  module _ (sound : s.sound ≡ true) where
    pub read_null : same packet null_packet ≡ true → read_packet s packet ≡ cond (none s.begun) s unsound
    unfolding read_packet
    read_null a = rw (sound, a) refl

    module _ (other : same packet null_packet ≡ false) where
      pub read_misfit : count_fits s.expected packet ≡ false → read_packet s packet ≡ unsound
      unfolding read_packet
      read_misfit b = rw (sound, other, b) refl

      module _ (fits : count_fits s.expected packet ≡ true) where
        pub read_without : has_header false packet ≡ true → read_packet s packet ≡ without_flag s packet
        unfolding read_packet
        read_without d = rw (sound, other, fits, d) refl

        pub read_with : has_header false packet ≡ false → has_header true packet ≡ true → read_packet s packet ≡ with_flag s packet
        unfolding read_packet
        read_with d e = rw (sound, other, fits, d, e) refl

        pub read_neither : has_header false packet ≡ false → has_header true packet ≡ false → read_packet s packet ≡ unsound
        unfolding read_packet
        read_neither d e = rw (sound, other, fits, d, e) refl

  pub without_none : none s.begun ≡ true → without_flag s packet ≡ unsound
  unfolding without_flag
  without_none a = rw a refl

  module _ (begun : none s.begun ≡ false) where
    pub without_good : good (longer s packet) ≡ true → without_flag s packet ≡ after_finished s packet
    unfolding without_flag
    without_good b = rw (begun, b) refl

    pub without_more : good (longer s packet) ≡ false → may_begin (longer s packet) ≡ true → without_flag s packet ≡ after_went_on s packet
    unfolding without_flag
    without_more b d = rw (begun, b, d) refl

    pub without_bad : good (longer s packet) ≡ false → may_begin (longer s packet) ≡ false → without_flag s packet ≡ unsound
    unfolding without_flag
    without_bad b d = rw (begun, b, d) refl

  abbrev pub flag_passes : Bool
  flag_passes = leb (pointer packet) pointed_length && (ends_well s packet && (found_in packet).well)

  pub with_passes : flag_passes ≡ true → with_flag s packet ≡ after_started s packet
  unfolding with_flag
  with_passes a = rw a refl

  pub with_fails : flag_passes ≡ false → with_flag s packet ≡ unsound
  unfolding with_flag
  with_fails a = rw a refl

-- A packet with frames has the header of one, and a count that fits.
pub record Headed (starts : Bool) (s : Reading) (packet : List ℕ) : Type 0 where
  pub its_header : part packet 0 head_length ≡ header starts frames_pid (count_of packet)
  pub fits : (s.expected ≡ any_count) ⊎ (count_of packet ≡ s.expected)

-- .. so that its byte 1 is known, and what stands behind the header
module _ {starts : Bool} {s : Reading} {packet : List ℕ} (h : Headed starts s packet) where
  pub headed_second : byte_at packet 1 ≡ flagged starts (frames_pid / 256)
  headed_second = sym (byte_part packet 0 head_length 1 (omega arith)) ∙ ap (λ (l : List ℕ). byte_at l 1) h.its_header

  pub headed-rest : header starts frames_pid (count_of packet) ++ rest packet head_length ≡ packet
  headed-rest = ap (λ (l : List ℕ). l ++ rest packet head_length) (sym h.its_header) ∙ part-and-rest packet head_length

pub null_second : (packet : List ℕ) → packet ≡ null_packet → byte_at packet 1 ≡ frames_pid / 256
unfolding null_packet
null_second packet e = ap (λ (l : List ℕ). byte_at l 1) e

-- What the pointer's packet passed.
pub record Started (s : Reading) (packet : List ℕ) : Type 0 where
  pub near : pointer packet ≤ pointed_length
  pub ends : ends_well s packet ≡ true
  pub well : (found_in packet).well ≡ true

pub data Way (s : Reading) (packet : List ℕ) : Type 0 where
  was_refused : read_packet s packet ≡ unsound → Way s packet
  was_null : packet ≡ null_packet → s.begun ≡ [] → read_packet s packet ≡ s → Way s packet
  was_finished : Headed false s packet → none s.begun ≡ false → good (longer s packet) ≡ true →
      read_packet s packet ≡ after_finished s packet → Way s packet
  went_on : Headed false s packet → none s.begun ≡ false → may_begin (longer s packet) ≡ true →
      read_packet s packet ≡ after_went_on s packet → Way s packet
  was_started : Headed true s packet → Started s packet → read_packet s packet ≡ after_started s packet → Way s packet

fitting : (expected c : ℕ) → (eqb expected any_count || eqb expected c) ≡ true → (expected ≡ any_count) ⊎ (c ≡ expected)
fitting expected c h =
    ⊎_elim
    (λ (e : eqb expected any_count ≡ true). inl (eqb-true expected any_count e))
    (λ (e : eqb expected any_count ≡ false). inr (sym (eqb-true expected c (rw e at h))))
    (true-or-false (eqb expected any_count))

module _ (s : Reading) (packet : List ℕ) where
  headed : (starts : Bool) → count_fits s.expected packet ≡ true → has_header starts packet ≡ true → Headed starts s packet
  headed starts b h =
      record {
        its_header = same_equal (part packet 0 head_length) (header starts frames_pid (count_of packet)) h;
        fits = fitting s.expected (count_of packet) b;
      }

  way_without : Headed false s packet → read_packet s packet ≡ without_flag s packet → Way s packet
  way_without h e =
      ⊎_elim
      (λ (a : none s.begun ≡ true). was_refused (e ∙ without_none s packet a))
      (λ (a : none s.begun ≡ false).
      ⊎_elim
      (λ (b : good (longer s packet) ≡ true). was_finished h a b (e ∙ without_good s packet a b))
      (λ (b : good (longer s packet) ≡ false).
      ⊎_elim
      (λ (d : may_begin (longer s packet) ≡ true). went_on h a d (e ∙ without_more s packet a b d))
      (λ (d : may_begin (longer s packet) ≡ false). was_refused (e ∙ without_bad s packet a b d))
      (true-or-false (may_begin (longer s packet))))
      (true-or-false (good (longer s packet))))
      (true-or-false (none s.begun))

  way_with : Headed true s packet → read_packet s packet ≡ with_flag s packet → Way s packet
  way_with h e =
      let near = leb (pointer packet) pointed_length in
      let ends = ends_well s packet in
      let well = (found_in packet).well in
      ⊎_elim
      (λ (a : flag_passes s packet ≡ true).
      let both = and_right near (ends && well) a in
      was_started h
      (record {
        near = leb-true (pointer packet) pointed_length (and_left near (ends && well) a);
        ends = and_left ends well both;
        well = and_right ends well both;
      })
      (e ∙ with_passes s packet a))
      (λ (a : flag_passes s packet ≡ false). was_refused (e ∙ with_fails s packet a))
      (true-or-false (flag_passes s packet))

  way_null : same packet null_packet ≡ true → read_packet s packet ≡ cond (none s.begun) s unsound → Way s packet
  way_null a e =
      ⊎_elim
      (λ (b : none s.begun ≡ true).
      was_null (same_equal packet null_packet a) (none-empty s.begun b) (e ∙ ap (λ (t : Bool). cond t s unsound) b))
      (λ (b : none s.begun ≡ false). was_refused (e ∙ ap (λ (t : Bool). cond t s unsound) b))
      (true-or-false (none s.begun))

  pub way : s.sound ≡ true → Way s packet
  way sound =
      ⊎_elim
      (λ (a : same packet null_packet ≡ true). way_null a (read_null s packet sound a))
      (λ (a : same packet null_packet ≡ false).
      ⊎_elim
      (λ (b : count_fits s.expected packet ≡ true).
      ⊎_elim
      (λ (d : has_header false packet ≡ true). way_without (headed false b d) (read_without s packet sound a b d))
      (λ (d : has_header false packet ≡ false).
      ⊎_elim
      (λ (h : has_header true packet ≡ true). way_with (headed true b h) (read_with s packet sound a b d h))
      (λ (h : has_header true packet ≡ false). was_refused (read_neither s packet sound a b d h))
      (true-or-false (has_header true packet)))
      (true-or-false (has_header false packet)))
      (λ (b : count_fits s.expected packet ≡ false). was_refused (read_misfit s packet sound a b))
      (true-or-false (count_fits s.expected packet)))
      (true-or-false (same packet null_packet))
