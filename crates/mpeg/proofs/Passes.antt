-- Packet after packet: what is read behind so many packets (`reading_at`), and the two passes over all of them, the one that only reads
-- (`Passing`) and the one that writes the frames' bytes besides (`Pouring`), each with a begin, a turn and an end.
use Prim.Native.Nat.{ℕ, zero, suc, ◌+◌, ◌-◌, ◌*◌, ◌/◌, ◌%◌, ◌^◌, ◌≤◌, ◌<◌, min}
use mathlib.Core.Path.{◌≡◌, refl, sym, ap, subst, ◌∙◌}
use mathlib.Core.Bool.{true, false, ◌&&◌, true≢false}
use mathlib.Core.Logic.{⊎_elim}
use mathlib.Core.List.{List, [], ◌∷◌, ◌++◌}
use native.Mathlib.Omega.{arith}
use native.Mathlib.Nat.{eq-or-lt_of_le, le_of_suc-le-suc}
use lib.Dec.{eqb, ltb}
use lib.ListN.{length, length-append}
use borrow.Author.Tests.{eqb-true, eq-eqb, ne_eqb, ltb-false}
use Rattle.octets.specs.Bytes.{byte_at}
use Rattle.octets.specs.Each.{Each}
use Rattle.octets.specs.Count.{up_to}
use Rattle.octets.specs.Stretch.{part, put, joined}
use Rattle.octets.proofs.Counts.{true-or-false}
use Rattle.octets.proofs.Stretches.{length_part, part_none, part_past, part-append, part-short, put-nil}
use Rattle.octets.proofs.Stretches.{put-part-append, length-put, joined-none, length-joined, length-joined-none}
use Rattle.ts.specs.Packet.{mpeg_length, head_length, counts}
use Rattle.mpeg.specs.Packet.{frames_pid}
use Rattle.mpeg.specs.Read.{Reading, at_start, unsound, read_packet, read_from, packets_in, reading}
use Rattle.std.specs.Prelude.{Some}
use Rattle.mpeg.specs.declared.reader.Standing.{Standing}
use Rattle.mpeg.specs.Inside.Standing.{Told, standing_of, told, Within, Follows}
use Rattle.mpeg.specs.Inside.Stream.{stream, bytes_at, Surveyed, Writable}
use Rattle.mpeg.proofs.Frames.{GoodFrame, good-some, may_begin-none}
use Rattle.mpeg.proofs.Ways.{stays_unsound}
use Rattle.mpeg.proofs.Streams.{refused_is, Adds, adds, Steady, steady_turn}

-- A good frame has 6 bytes at least.
few-frames : (frames : List (List ℕ)) → Each GoodFrame frames → length frames ≤ length (joined frames)
few-frames [] g = omega arith
few-frames (f ∷ frames) g =
    omega (arith, few-frames frames g.1, good-some f g.0, length-joined f frames)

-- One packet more.
pub read_more : (s : Reading) (packets : List (List ℕ)) (packet : List ℕ) →
    read_from s (packets ++ (packet ∷ [])) ≡ read_packet (read_from s packets) packet
unfolding read_from
read_more s [] packet = refl
read_more s (p ∷ packets) packet = read_more (read_packet s p) packets packet

abbrev pub packet_at : List ℕ → ℕ → List ℕ
packet_at packets k = part packets (mpeg_length * k) mpeg_length

-- what is read behind the first k packets
unfoldable pub reading_at : List ℕ → ℕ → Reading
reading_at packets k = read_from at_start (packets_in packets k)

module _ (packets : List ℕ) where
  pub reading-none : reading_at packets zero ≡ at_start
  unfolding reading_at read_from packets_in up_to
  reading-none = refl

  pub reading_more : (k : ℕ) → reading_at packets (suc k) ≡ read_packet (reading_at packets k) (packet_at packets k)
  unfolding reading_at packets_in up_to
  reading_more k = read_more at_start (up_to (packet_at packets) k) (packet_at packets k)

  -- once unsound, always unsound
  pub unsound_at : (k : ℕ) → (reading_at packets k).sound ≡ false → reading_at packets k ≡ unsound
  unsound_at zero r = absurd (true≢false (sym (ap (λ (s : Reading). s.sound) reading-none) ∙ r))
  unsound_at (suc k) r =
      let e = reading_more k in
      e ∙ refused_is (reading_at packets k) (packet_at packets k) (sym (ap (λ (s : Reading). s.sound) e) ∙ r)

  pub unsound_on : (k n : ℕ) → k ≤ n → reading_at packets k ≡ unsound → reading_at packets n ≡ unsound
  unsound_on k zero l e = ap (reading_at packets) (let z : zero ≡ k = omega arith in z) ∙ e
  unsound_on k (suc n) l e =
      ⊎_elim
      (λ (q : k ≡ suc n). ap (reading_at packets) (sym q) ∙ e)
      (λ (m : k < suc n).
      let before = unsound_on k n (le_of_suc-le-suc m) e in
      reading_more n ∙ stays_unsound (reading_at packets n) (packet_at packets n) (ap (λ (s : Reading). s.sound) before))
      (eq-or-lt_of_le l)

  pub sound-before : (k n : ℕ) → k ≤ n → (reading_at packets n).sound ≡ true → (reading_at packets k).sound ≡ true
  sound-before k n l sound =
      ⊎_elim
      (λ (t : (reading_at packets k).sound ≡ true). t)
      (λ (t : (reading_at packets k).sound ≡ false).
      absurd (true≢false (sym sound ∙ ap (λ (s : Reading). s.sound) (unsound_on k n l (unsound_at k t)))))
      (true-or-false (reading_at packets k).sound)

  pub packet_long : (k : ℕ) → mpeg_length * suc k ≤ length packets → length (packet_at packets k) ≡ mpeg_length
  packet_long k l = length_part packets (mpeg_length * k) mpeg_length (omega arith)

  steady_start : Steady (mpeg_length * 0) at_start
  unfolding stream
  steady_start =
      record {
        still_sound = refl;
        count_known = omega arith;
        may_begin_lem = may_begin-none;
        all_good_lem = tt;
        short = omega (arith, length-append (joined []) [], length-joined-none);
      }

  pub steady_at : (k : ℕ) → mpeg_length * k ≤ length packets → (reading_at packets k).sound ≡ true →
      Steady (mpeg_length * k) (reading_at packets k)
  steady_at zero l sound = rw reading-none steady_start
  steady_at (suc k) l sound =
      let e = reading_more k in
      let before = steady_at k (omega arith) (sound-before k (suc k) (omega arith) sound) in
      let next : (read_packet (reading_at packets k) (packet_at packets k)).sound ≡ true = sym (ap (λ (s : Reading). s.sound) e) ∙ sound in
      let turn = steady_turn (reading_at packets k) (packet_at packets k) (packet_long k l) next (mpeg_length * k) before in
      let places : mpeg_length * suc k ≡ mpeg_length * k + mpeg_length = omega arith in
      rw (places, e) turn

  -- behind the last packet
  pub reading_all : (k : ℕ) → length packets ≡ mpeg_length * k → reading_at packets k ≡ reading packets
  unfolding reading reading_at
  reading_all k e =
      let whole : eqb (length packets % mpeg_length) 0 ≡ true = eq-eqb (length packets % mpeg_length) 0 (omega arith) in
      let count : length packets / mpeg_length ≡ k = omega arith in
      rw (whole, count) refl

  pub reading-cut : (length packets % mpeg_length ≡ 0 → ⊥) → reading packets ≡ unsound
  unfolding reading
  reading-cut s = rw (ne_eqb (length packets % mpeg_length) 0 s) refl

  pub reading-whole : (reading packets).sound ≡ true → length packets % mpeg_length ≡ 0
  reading-whole sound =
      ⊎_elim
      (λ (t : eqb (length packets % mpeg_length) 0 ≡ true). eqb-true (length packets % mpeg_length) 0 t)
      (λ (t : eqb (length packets % mpeg_length) 0 ≡ false).
      absurd (true≢false (sym sound
      ∙ ap (λ (s : Reading). s.sound) (reading-cut (λ z. true≢false (sym (eq-eqb (length packets % mpeg_length) 0 z) ∙ t))))))
      (true-or-false (eqb (length packets % mpeg_length) 0))

  pub reading-lost : (reading packets).sound ≡ false → reading packets ≡ unsound
  reading-lost lost =
      ⊎_elim
      (λ (t : eqb (length packets % mpeg_length) 0 ≡ true).
      let whole = eqb-true (length packets % mpeg_length) 0 t in
      let n = length packets / mpeg_length in
      let e = reading_all n (omega arith) in
      sym e ∙ unsound_at n (ap (λ (s : Reading). s.sound) e ∙ lost))
      (λ (t : eqb (length packets % mpeg_length) 0 ≡ false).
      reading-cut (λ z. true≢false (sym (eq-eqb (length packets % mpeg_length) 0 z) ∙ t)))
      (true-or-false (eqb (length packets % mpeg_length) 0))

  -- so all frames of a sound reading are good
  pub frames-good : (reading packets).sound ≡ true → Each GoodFrame (reading packets).frames
  frames-good sound =
      let n = length packets / mpeg_length in
      let e = reading_all n (omega (arith, reading-whole sound)) in
      let s = steady_at n (omega arith) (ap (λ (r : Reading). r.sound) e ∙ sound) in
      rw e at s.all_good_lem

-- What the code keeps of a steady reading is within bounds: no more has been found than stood before place `at`.
pub record Bounded (at : ℕ) (standing : Told) : Type 0 where
  pub count_known : standing.expected ≤ counts
  pub few_bytes : standing.bytes + standing.begun.size ≤ at
  pub few-frames : standing.frames ≤ standing.bytes

pub steady_within : (at : ℕ) (s : Reading) → Steady at s → Bounded at (standing_of s)
unfolding stream
steady_within at s steady =
    record {
      count_known = steady.count_known;
      few_bytes = omega (arith, steady.short, length-append (joined s.frames) s.begun);
      few-frames = few-frames s.frames steady.all_good_lem;
    }

-- .. so that no count wraps in one packet more
pub within_of : {at : ℕ} (standing : Standing) → Bounded at (told (Some standing)) → at + mpeg_length < 2 ^ 64 → Within standing
within_of standing b small =
    record { count_known = b.count_known; few_bytes = omega (arith, b.few_bytes); few-frames = b.few-frames }

-- a packet that stands among others
pub follows_at : {packet l : List ℕ} {a b : Told} → packet ≡ l → Follows (λ s. read_packet s packet) a b →
    Follows (λ s. read_packet s l) a b
follows_at {packet} {l} {a} {b} e follows = λ s may is. follows s may is ∙ ap (λ (p : List ℕ). standing_of (read_packet s p)) e

-- A reading finds no more bytes than there are, and no more frames than bytes.
pub record FitsIn (n : ℕ) (s : Reading) : Type 0 where
  pub few_bytes : length (joined s.frames) ≤ n
  pub few-frames : length s.frames ≤ length (joined s.frames)

none-fits : (n : ℕ) → FitsIn n unsound
none-fits n = record { few_bytes = omega (arith, length-joined-none); few-frames = omega arith }

pub reading-fits : (packets : List ℕ) → FitsIn (length packets) (reading packets)
reading-fits packets =
    ⊎_elim
    (λ (sound : (reading packets).sound ≡ true).
    let n = length packets / mpeg_length in
    let e = reading_all packets n (omega (arith, reading-whole packets sound)) in
    let at : mpeg_length * n ≤ length packets = omega arith in
    let w = steady_within (mpeg_length * n) (reading_at packets n) (steady_at packets n at (ap (λ (r : Reading). r.sound) e ∙ sound)) in
    let fits : FitsIn (length packets) (reading_at packets n) =
    record { few_bytes = omega (arith, w.few_bytes, at); few-frames = w.few-frames } in
    subst (λ (r : Reading). FitsIn (length packets) r) e fits)
    (λ (lost : (reading packets).sound ≡ false). rw (reading-lost packets lost) (none-fits (length packets)))
    (true-or-false (reading packets).sound)

-- The pass that reads. `standing` is what the code has behind the packets before place `at`.
pub record Passing (packets : List ℕ) (standing : Told) (at : ℕ) : Type 0 where
  pub k : ℕ
  pub place : at ≡ mpeg_length * k
  pub within : at ≤ length packets
  pub stands : standing ≡ standing_of (reading_at packets k)

pub pass_begin : (packets : List ℕ) (standing : Told) → standing ≡ standing_of at_start → Passing packets standing 0
pass_begin packets standing e =
    record { k = 0; place = omega arith; within = omega arith; stands = e ∙ ap standing_of (sym (reading-none packets)) }

module _ {packets : List ℕ} {standing : Told} {at : ℕ} (p : Passing packets standing at) where
  module _ (whole : length packets % mpeg_length ≡ 0) (more : at < length packets) where
    pub pass_inside : at + mpeg_length ≤ length packets
    pass_inside = omega (arith, p.place)

    module _ (sound : standing.sound ≡ true) where
      pub pass_sound : (reading_at packets p.k).sound ≡ true
      pass_sound = sym (ap (λ (s : Told). s.sound) p.stands) ∙ sound

      pub pass_steady : Steady at (reading_at packets p.k)
      pass_steady = rw p.place (steady_at packets p.k (omega (arith, p.place, p.within)) pass_sound)

      pub pass_within : Bounded at standing
      pass_within = rw p.stands (steady_within at (reading_at packets p.k) pass_steady)

      pub pass_turn : (next : Told) → Follows (λ s. read_packet s (part packets at mpeg_length)) standing next →
          Passing packets next (at + mpeg_length)
      pass_turn next follows =
          record {
            k = suc p.k;
            place = omega (arith, p.place);
            within = pass_inside;
            stands =
                follows (reading_at packets p.k) pass_steady.may_begin_lem p.stands
                ∙ ap (λ (n : ℕ). standing_of (read_packet (reading_at packets p.k) (part packets n mpeg_length))) p.place
                ∙ ap standing_of (sym (reading_more packets p.k));
          }

  -- behind the last packet, or where no more is read
  pub pass_through : length packets ≤ at → reading_at packets p.k ≡ reading packets
  pass_through done = reading_all packets p.k (omega (arith, p.place, p.within))

  pub pass_end : length packets % mpeg_length ≡ 0 → (standing.sound && ltb at (length packets)) ≡ false →
      standing ≡ standing_of (reading packets)
  pass_end whole stop =
      ⊎_elim
      (λ (t : standing.sound ≡ true).
      let done : ltb at (length packets) ≡ false = rw t at stop in
      p.stands ∙ ap standing_of (pass_through (ltb-false at (length packets) done)))
      (λ (t : standing.sound ≡ false).
      let n = length packets / mpeg_length in
      let lost = unsound_at packets p.k (sym (ap (λ (s : Told). s.sound) p.stands) ∙ t) in
      let last = unsound_on packets p.k n (omega (arith, p.place, p.within)) lost in
      p.stands ∙ ap standing_of (lost ∙ sym last ∙ reading_all packets n (omega arith)))
      (true-or-false standing.sound)

-- What of a packet's bytes is written.
module _ (packet : List ℕ) where
  pub bytes_at-header : byte_at packet 1 ≡ frames_pid / 256 → head_length ≡ bytes_at packet
  unfolding bytes_at
  bytes_at-header e = rw e refl

  pub bytes_at-pointer : (byte_at packet 1 ≡ frames_pid / 256 → ⊥) → head_length + 1 ≡ bytes_at packet
  unfolding bytes_at
  bytes_at-pointer s = rw (ne_eqb (byte_at packet 1) (frames_pid / 256) s) refl

  module _ {output : List ℕ} {before behind total : ℕ} (w : Writable packet output before behind total) (end : ℕ)
      (least : end ≡ min behind total) where
    module _ (from : ℕ) (f : from ≡ bytes_at packet) where
      pub copied : (output' : List ℕ) → output' ≡ put output before (part packet from (end - before)) →
          output' ≡ put output before (part packet (bytes_at packet) (min behind total - before))
      copied output' e =
          e ∙ ap (λ (n : ℕ). put output before (part packet n (end - before))) f
          ∙ ap (λ (n : ℕ). put output before (part packet (bytes_at packet) (n - before))) least

    pub not_copied : end ≤ before → output ≡ put output before (part packet (bytes_at packet) (min behind total - before))
    not_copied l =
        let none : min behind total - before ≡ 0 = omega (arith, least) in
        sym (ap (λ (n : ℕ). put output before (part packet (bytes_at packet) n)) none
        ∙ ap (put output before) (part_none packet (bytes_at packet)) ∙ put-nil output before)

-- how many bytes the code says have come
pub so_far : (s : Reading) → (standing_of s).bytes + (standing_of s).begun.size ≡ length (stream s)
unfolding stream
so_far s = sym (length-append (joined s.frames) s.begun)

-- The pass that writes.
pub record Pouring (packets output : List ℕ) (total : ℕ) (standing : Told) (at : ℕ) (output' : List ℕ) : Type 0 where
  pub passing : Passing packets standing at
  pub stands : output' ≡ put output 0 (part (stream (reading_at packets passing.k)) 0 total)

pub pour_begin : (packets output : List ℕ) (total : ℕ) (standing : Told) → standing ≡ standing_of at_start →
    Pouring packets output total standing 0 output
unfolding stream pass_begin
pour_begin packets output total standing e =
    record {
      passing = pass_begin packets standing e;
      stands =
          sym (ap (λ (s : Reading). put output 0 (part (stream s) 0 total)) (reading-none packets)
          ∙ ap (λ (l : List ℕ). put output 0 (part (l ++ []) 0 total)) joined-none
          ∙ ap (put output 0) (part_past [] total (omega arith)) ∙ put-nil output 0);
    }

module _ {packets output : List ℕ} {total : ℕ} {standing : Told} {at : ℕ} {output' : List ℕ}
    (w : Pouring packets output total standing at output')
    (surveyed : Surveyed packets output total) where
  abbrev here : Reading
  here = reading_at packets w.passing.k

  pub pour_long : length output' ≡ length output
  pour_long =
      ap length w.stands
      ∙ length-put output 0 (part (stream here) 0 total) (omega (arith, part-short (stream here) 0 total, surveyed.room))

  module _ (more : at < length packets) where
    abbrev packet : List ℕ
    packet = part packets at mpeg_length

    whole : length packets % mpeg_length ≡ 0
    whole = reading-whole packets surveyed.all_sound

    pub pour_inside : at + mpeg_length ≤ length packets
    pour_inside = pass_inside w.passing whole more

    -- every reading on the way to a sound one is sound
    sound_at : (k : ℕ) → mpeg_length * k ≤ length packets → (reading_at packets k).sound ≡ true
    sound_at k l =
        sound-before packets k (length packets / mpeg_length) (omega arith)
        (ap (λ (s : Reading). s.sound) (reading_all packets (length packets / mpeg_length) (omega (arith, whole))) ∙ surveyed.all_sound)

    standing-sound : standing.sound ≡ true
    standing-sound =
        ap (λ (s : Told). s.sound) w.passing.stands
        ∙ sound_at w.passing.k (omega (arith, w.passing.place, w.passing.within))

    pub pour_within : Bounded at standing
    pour_within = pass_within w.passing whole more standing-sound

    module _ (next : Told) (follows : Follows (λ s. read_packet s (part packets at mpeg_length)) standing next) where
      pub pour_passing : Passing packets next (at + mpeg_length)
      pour_passing = pass_turn w.passing whole more standing-sound next follows

      packet_is : packet_at packets w.passing.k ≡ packet
      packet_is = ap (λ (n : ℕ). part packets n mpeg_length) (sym w.passing.place)

      next-sound : (read_packet here packet).sound ≡ true
      next-sound =
          sym (ap (λ (s : Reading). s.sound) (reading_more packets w.passing.k ∙ ap (read_packet here) packet_is))
          ∙ sound_at (suc w.passing.k) (omega (arith, w.passing.place, pour_inside))

      pub pour_adds : Adds here (read_packet here packet) packet
      pour_adds =
          adds here packet (length_part packets at mpeg_length pour_inside) next-sound (pass_sound w.passing whole more standing-sound)

      next_is : next ≡ standing_of (read_packet here packet)
      next_is = follows here (pass_steady w.passing whole more standing-sound).may_begin_lem w.passing.stands

      -- so the reader is not lost
      pub pour_kept : next.sound ≡ true
      pour_kept = ap (λ (s : Told). s.sound) next_is ∙ next-sound

      -- how many bytes had come before this packet, and with it
      abbrev before : ℕ
      before = standing.bytes + standing.begun.size

      abbrev behind : ℕ
      behind = next.bytes + next.begun.size

      before_is : before ≡ length (stream here)
      before_is = ap (λ (s : Told). s.bytes + s.begun.size) w.passing.stands ∙ so_far here

      behind_is : behind ≡ length (stream here) + pour_adds.size
      behind_is =
          let a = pour_adds in
          let long =
          length_part packet (bytes_at packet) a.size (omega (arith, a.inside, length_part packets at mpeg_length pour_inside)) in
          ap (λ (s : Told). s.bytes + s.begun.size) next_is ∙ so_far (read_packet here packet) ∙ ap length a.bytes_of
          ∙ length-append (stream here) (part packet (bytes_at packet) a.size) ∙ ap (λ (n : ℕ). length (stream here) + n) long

      pub behind_small : behind ≤ length packets
      behind_small = omega (arith, behind_is, before_is, pour_within.few_bytes, pour_adds.inside, pour_inside)

      pub pour_writable : Writable packet output' before behind total
      pour_writable =
          record {
            bytes_inside = omega (arith, before_is, behind_is, pour_adds.inside);
            room = omega (arith, pour_long, surveyed.room);
          }

      pub pour_turn : (output'' : List ℕ) → output'' ≡ put output' before (part packet (bytes_at packet) (min behind total - before)) →
          Pouring packets output total next (at + mpeg_length) output''
      unfolding pour_passing pass_turn
      pour_turn output'' e =
          let a = pour_adds in
          let n = length (stream here) in
          let written : output'' ≡ put output' n (part packet (bytes_at packet) (min (n + a.size) total - n)) =
          e ∙ ap (λ (n : ℕ). put output' n (part packet (bytes_at packet) (min behind total - n))) before_is
          ∙ ap (λ (n : ℕ). put output' (length (stream here)) (part packet (bytes_at packet) (min n total - length (stream here))))
          behind_is in
          let after : stream here ++ part packet (bytes_at packet) a.size ≡ stream (reading_at packets (suc w.passing.k)) =
          sym a.bytes_of ∙ ap stream (sym (reading_more packets w.passing.k ∙ ap (read_packet here) packet_is)) in
          record {
            passing = pour_passing;
            stands =
                put-part-append output output' output'' (stream here) packet (bytes_at packet) a.size total w.stands surveyed.room
                (omega (arith, a.inside, length_part packets at mpeg_length pour_inside)) written
                ∙ ap (λ (l : List ℕ). put output 0 (part l 0 total)) after;
          }

  pub pour_end : length packets ≤ at → output' ≡ put output 0 (joined (reading packets).frames)
  unfolding stream
  pour_end done =
      let r = reading packets in
      w.stands ∙ ap (λ (s : Reading). put output 0 (part (stream s) 0 total)) (pass_through w.passing done)
      ∙ ap (λ (n : ℕ). put output 0 (part (stream r) 0 n)) surveyed.all_bytes
      ∙ ap (put output 0) (part-append (joined r.frames) r.begun)
