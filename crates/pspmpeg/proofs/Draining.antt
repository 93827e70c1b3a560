-- The packets of frames that all wait, written one behind the other (`Draining`, the loop's invariant); and that they are those of a queue.
use Prim.Native.Nat.{ℕ, zero, suc, ◌+◌, ◌-◌, ◌*◌, ◌<◌, ◌≤◌, min}
use mathlib.Core.Path.{◌≡◌, refl, sym, ap, ◌∙◌}
use mathlib.Core.Bool.{Bool, true, false, not, cond, ◌||◌, ◌&&◌}
use mathlib.Core.Logic.{◌⊎◌, inl, inr}
use mathlib.Core.List.{List, [], ◌∷◌, ◌++◌, append-nil, append_assoc}
use native.Mathlib.Omega.{arith}
use native.Mathlib.Nat.{not-suc-le-zero}
use lib.Dec.{leb, ltb}
use lib.ListN.{length, replicate, length-append, length-replicate}
use borrow.Author.Tests.{leb-true, leb-false, le-ltb}
use Rattle.octets.specs.Stretch.{part, rest, put, joined, lengths_of}
use Rattle.octets.specs.Tests.{none}
use Rattle.octets.proofs.Counts.{true-or-false}
use Rattle.octets.proofs.Tests.{none-length, none-some}
use Rattle.octets.proofs.Stretches.{length_part, part_all, part-short, part-append, length_rest, rest-append, length-put, part-put}
use Rattle.octets.proofs.Stretches.{joined-none, joined-cons, joined-one_more, lengths_of-none}
use Rattle.octets.proofs.Stretches.{lengths_of-cons}
use Rattle.ts.specs.Packet.{mpeg_length, payload_length, header, fill_byte}
use Rattle.text.specs.declared.Text.{Text}
use Rattle.text.specs.Text.{Appended, SameRoom, HasRoom}
use Rattle.text.proofs.Writing.{wrote_none, wrote_then, wrote_as}
use Rattle.capture.specs.File.{longest_file}
use Rattle.tool.specs.Refused.{refused_line}
use Rattle.mpeg.specs.declared.writer.Written.{Written}
use Rattle.mpeg.specs.Packet.{pointed_length, frames_pid, filled_to}
use Rattle.mpeg.specs.Frame.{good}
use Rattle.mpeg.specs.Write.{Asked, WriteOutcome, bad_frames, left_at, packet_of, carried, count_after, wrote, refused, written_by, written}
use Rattle.mpeg.specs.Run.{packet_next, after_next}
use Rattle.outputs.specs.Stream.{drain, packets_of, all_good, stream_of}
use Rattle.pspmpeg.specs.Inside.{stream_room, packets_from, stream_from}
use Rattle.mpeg.proofs.Surveying.{left_there}

-- where bytes wait a packet is 188 long, and carries 183 at least or all of them
packet_by : (b : Bool) (head-a head-b waiting : List ℕ) (r : ℕ) → leb payload_length r ≡ b → r ≤ length waiting → length head-a ≡ 4 →
    length head-b ≡ 4 →
    length (cond b (head-a ++ part waiting 0 payload_length) (head-b ++ (r ∷ filled_to pointed_length (part waiting 0 pointed_length))))
    ≡ mpeg_length
packet_by true head-a head-b waiting r e few p q =
    omega (
      arith,
      p,
      length-append head-a (part waiting 0 payload_length),
      length_part waiting 0 payload_length (omega (arith, leb-true payload_length r e, few)),
    )
packet_by false head-a head-b waiting r e few p q =
    let x = part waiting 0 pointed_length in
    omega (
      arith,
      q,
      length-append head-b (r ∷ filled_to pointed_length x),
      length-append x (replicate (pointed_length - length x) fill_byte),
      length-replicate (pointed_length - length x) fill_byte,
      part-short waiting 0 pointed_length,
    )

pub packet_long : (count r : ℕ) (waiting : List ℕ) → 1 ≤ length waiting → r ≤ length waiting →
    length (packet_of count r waiting) ≡ mpeg_length
unfolding packet_of
packet_long count r [] some few = absurd (not-suc-le-zero some)
packet_long count r (x ∷ waiting) some few =
    packet_by (leb payload_length r) (header false frames_pid count) (header true frames_pid count) (x ∷ waiting) r refl few refl refl

carries_by : (b : Bool) (n : ℕ) → 1 ≤ n →
    (1 ≤ cond b payload_length (min pointed_length n))
    × ((pointed_length ≤ cond b payload_length (min pointed_length n)) ⊎ (n ≤ cond b payload_length (min pointed_length n)))
carries_by true n some = (omega arith, inl (omega arith))
carries_by false n some = (omega arith, split (leb pointed_length n) refl)
  where
    split : (t : Bool) → leb pointed_length n ≡ t → (pointed_length ≤ min pointed_length n) ⊎ (n ≤ min pointed_length n)
    split true e = inl (omega (arith, leb-true pointed_length n e))
    split false e = inr (omega (arith, leb-false pointed_length n e))

pub carries_some : (r : ℕ) (waiting : List ℕ) → 1 ≤ length waiting →
    (1 ≤ carried r waiting) × ((pointed_length ≤ carried r waiting) ⊎ (length waiting ≤ carried r waiting))
unfolding carried
carries_some r [] some = absurd (not-suc-le-zero some)
carries_some r (x ∷ waiting) some = carries_by (leb payload_length r) (length (x ∷ waiting)) some

-- The writer's answer depends on the frames, and on the room for a packet, which is there.
module _ (bytes lengths packet : List ℕ) (long : length packet ≡ mpeg_length) (place count : ℕ) where
  abbrev asked : Asked
  asked = record { bytes = bytes; lengths = lengths; place = place; count = count; output = packet }

  pub written-sound : bad_frames lengths bytes ≡ false → written asked ≡ wrote asked
  unfolding written written_by
  written-sound h = rw (h, le-ltb (length packet) mpeg_length (omega (arith, long))) refl

  written_bad : bad_frames lengths bytes ≡ true → written asked ≡ refused 52 asked
  unfolding written written_by
  written_bad h = rw h refl

  module _ {r : Written} {packet' : List ℕ} (e : record { answer = r; output = packet' } ≡ written asked) where
    abbrev answered : WriteOutcome → ℕ
    answered o = o.answer.code

    pub code-sound : r.code ≡ 0 → bad_frames lengths bytes ≡ false
    unfolding refused
    code-sound z = by (true-or-false (bad_frames lengths bytes))
      where
        by : (bad_frames lengths bytes ≡ true) ⊎ (bad_frames lengths bytes ≡ false) → bad_frames lengths bytes ≡ false
        by (inl h) = let is-52 : r.code ≡ 52 = ap answered (e ∙ written_bad h) in absurd (omega (arith, is-52, z))
        by (inr h) = h

    pub code_bad : (r.code ≡ 0 → ⊥) → refused_line r.code ≡ stream_from bytes lengths
    unfolding refused wrote stream_from
    code_bad some = by (true-or-false (bad_frames lengths bytes))
      where
        by : (bad_frames lengths bytes ≡ true) ⊎ (bad_frames lengths bytes ≡ false) → refused_line r.code ≡ stream_from bytes lengths
        by (inl h) = ap (λ (n : ℕ). refused_line n) (ap answered (e ∙ written_bad h)) ∙ rw h refl
        by (inr h) = absurd (some (ap answered (e ∙ written-sound h)))

none_waits : (n : ℕ) (bytes lengths : List ℕ) (place count : ℕ) → length (rest bytes place) ≡ 0 →
    packets_from n bytes lengths place count ≡ []
unfolding packets_from
none_waits zero bytes lengths place count e = refl
none_waits (suc n) bytes lengths place count e = rw (none-length (rest bytes place) e) refl

pub record Draining (bytes lengths : List ℕ) (before text : Text) (place count : ℕ) : Type 0 where
  pub written_so_far : List (List ℕ)
  pub steps_left : ℕ
  pub turns : ℕ
  pub sound : bad_frames lengths bytes ≡ false
  pub all_are : packets_from (length bytes) bytes lengths 0 0 ≡ written_so_far ++ packets_from steps_left bytes lengths place count
  pub steps_enough : length bytes ≤ place + steps_left
  pub wrote : Appended before text (joined written_so_far)
  pub same_room : SameRoom before text
  pub length_is : text.length ≡ before.length + mpeg_length * turns
  pub full : (length bytes ≤ place) ⊎ (pointed_length * turns ≤ place)

pub drain-begin : (bytes lengths : List ℕ) (before : Text) → HasRoom before 0 → bad_frames lengths bytes ≡ false →
    Draining bytes lengths before before 0 0
drain-begin bytes lengths before room h =
    record {
      written_so_far = [];
      steps_left = length bytes;
      turns = 0;
      sound = h;
      all_are = refl;
      steps_enough = omega arith;
      wrote = wrote_as (sym joined-none) (wrote_none before.room.now before.length (omega (arith, room)));
      same_room = (refl, refl);
      length_is = omega arith;
      full = inr (omega arith);
    }

module _ {bytes lengths : List ℕ} {before text : Text} {place count : ℕ} (d : Draining bytes lengths before text place count)
    (room : HasRoom before stream_room) where
  module _ (short : length bytes ≤ longest_file) (more : place < length bytes) where
    turns-few : pointed_length * d.turns ≤ place
    turns-few = by d.full
      where
        by : (length bytes ≤ place) ⊎ (pointed_length * d.turns ≤ place) → pointed_length * d.turns ≤ place
        by (inl h) = absurd (omega (arith, h, more))
        by (inr h) = h

    room-left : mpeg_length * d.turns + mpeg_length ≤ stream_room
    room-left = omega (arith, turns-few, short, more)

    pub packet_room : HasRoom text mpeg_length
    packet_room = omega (arith, room-left, room, d.length_is, d.same_room.1)

    abbrev waiting : List ℕ
    waiting = rest bytes place

    abbrev left : ℕ
    left = left_at lengths place

    some_wait : 1 ≤ length waiting
    some_wait = omega (arith, length_rest bytes place, more)

    left_waits : left ≤ length waiting
    left_waits = omega (arith, length_rest bytes place, left_there lengths bytes place d.sound)

    pub goes_on : place < place + carried left waiting
    goes_on = omega (arith, (carries_some left waiting some_wait).0)

    from_more : (n : ℕ) →
        packets_from (suc n) bytes lengths place count
        ≡ packet_of count left waiting ∷ packets_from n bytes lengths (place + carried left waiting) (count_after count waiting)
    unfolding packets_from
    from_more n = rw (none-some waiting some_wait) refl

    module _ (packet packet' : List ℕ) (r : Written) (long : length packet ≡ mpeg_length)
        (e : record { answer = r; output = packet' } ≡ written (asked bytes lengths packet long place count)) where
      is_wrote : record { answer = r; output = packet' } ≡ wrote (asked bytes lengths packet long place count)
      is_wrote = e ∙ written-sound bytes lengths packet long place count d.sound

      pub next_place : r.place ≡ place + carried left waiting
      unfolding wrote
      next_place = ap (λ (o : WriteOutcome). o.answer.place) is_wrote

      next_count : r.count ≡ count_after count waiting
      unfolding wrote
      next_count = ap (λ (o : WriteOutcome). o.answer.count) is_wrote

      packet_is : packet' ≡ put packet 0 (packet_of count left waiting)
      unfolding wrote
      packet_is = ap (λ (o : WriteOutcome). o.output) is_wrote

      new_long : length (packet_of count left waiting) ≡ mpeg_length
      new_long = packet_long count left waiting some_wait left_waits

      is_whole : packet' ≡ packet_of count left waiting
      is_whole =
          let new = packet_of count left waiting in
          packet_is ∙ sym (part_all (put packet 0 new))
          ∙ ap (part (put packet 0 new) 0) (length-put packet 0 new (omega (arith, new_long, long)) ∙ long ∙ sym new_long)
          ∙ part-put packet 0 new (omega (arith, new_long, long))

      pub drain_turn : {text' : Text} → Appended text text' packet' → SameRoom text text' →
          Draining bytes lengths before text' r.place r.count
      drain_turn {text'} w same = by d.steps_left refl
        where
          new : List ℕ
          new = packet_of count left waiting

          done : List (List ℕ)
          done = d.written_so_far

          one_more : (n : ℕ) → packets_from (suc n) bytes lengths place count ≡ new ∷ packets_from n bytes lengths r.place r.count
          one_more n = from_more n ∙ ap (λ (p : ℕ). new ∷ packets_from n bytes lengths p (count_after count waiting)) (sym next_place)
              ∙ ap (λ (k : ℕ). new ∷ packets_from n bytes lengths r.place k) (sym next_count)

          still : (pointed_length ≤ carried left waiting) ⊎ (length waiting ≤ carried left waiting) →
              (length bytes ≤ r.place) ⊎ (pointed_length * (d.turns + 1) ≤ r.place)
          still (inl h) = inr (omega (arith, h, next_place, turns-few))
          still (inr h) = inl (omega (arith, h, next_place, length_rest bytes place))

          by : (n : ℕ) → d.steps_left ≡ n → Draining bytes lengths before text' r.place r.count
          by zero z = absurd (omega (arith, d.steps_enough, z, more))
          by (suc n) z =
              record {
                written_so_far = done ++ (new ∷ []);
                steps_left = n;
                turns = d.turns + 1;
                sound = d.sound;
                all_are =
                    d.all_are
                    ∙ ap (λ (l : List (List ℕ)). done ++ l) (ap (λ (k : ℕ). packets_from k bytes lengths place count) z ∙ one_more n)
                    ∙ sym (append_assoc done (new ∷ []) (packets_from n bytes lengths r.place r.count));
                steps_enough = omega (arith, d.steps_enough, z, next_place, goes_on);
                wrote = wrote_as (sym (joined-one_more done new)) (wrote_then d.wrote (wrote_as is_whole w));
                same_room = (same.0 ∙ d.same_room.0, same.1 ∙ d.same_room.1);
                length_is = omega (arith, d.length_is, w.next_place, ap length is_whole, new_long);
                full = still (carries_some left waiting some_wait).1;
              }

  pub drain_end : length bytes ≤ place → Appended before text (stream_from bytes lengths)
  unfolding stream_from
  drain_end past =
      let none_left : packets_from d.steps_left bytes lengths place count ≡ [] = none_more d.steps_left in
      let all : packets_from (length bytes) bytes lengths 0 0 ≡ d.written_so_far =
      d.all_are ∙ ap (λ (l : List (List ℕ)). d.written_so_far ++ l) none_left ∙ append-nil d.written_so_far in
      wrote_as (ap joined (sym all)
      ∙ ap (λ (b : Bool). cond b (refused_line 52) (joined (packets_from (length bytes) bytes lengths 0 0))) (sym d.sound))
      d.wrote
    where
      none_more : (n : ℕ) → packets_from n bytes lengths place count ≡ []
      none_more n = none_waits n bytes lengths place count (omega (arith, length_rest bytes place, past))

-- The frames of a queue, as bytes and lengths.
pub bad_is_not-good : (frames : List (List ℕ)) → bad_frames (lengths_of frames) (joined frames) ≡ not (all_good frames)
unfolding bad_frames all_good
bad_is_not-good [] = rw (lengths_of-none, joined-none) refl
bad_is_not-good (f ∷ more) =
    let all = f ++ joined more in
    let long : ltb (length all) (length f) ≡ false = le-ltb (length all) (length f) (omega (arith, length-append f (joined more))) in
    rw (lengths_of-cons f more, joined-cons f more, long, part-append f (joined more), rest-append f (joined more), bad_is_not-good more)
    (by (good f) (all_good more))
  where
    by : (a b : Bool) → (not a || not b) ≡ not (a && b)
    by true b = refl
    by false b = refl

drain-from : (n : ℕ) (frames : List (List ℕ)) (place count : ℕ) →
    packets_from n (joined frames) (lengths_of frames) place count ≡ drain n (record { frames = frames; place = place; count = count })
unfolding packets_from drain packet_next after_next
drain-from zero frames place count = refl
drain-from (suc n) frames place count =
    let waiting = rest (joined frames) place in
    let left = left_at (lengths_of frames) place in
    ap (λ (l : List (List ℕ)). cond (none waiting) [] (packet_of count left waiting ∷ l))
    (drain-from n frames (place + carried left waiting) (count_after count waiting))

pub stream_is : (frames : List (List ℕ)) → stream_from (joined frames) (lengths_of frames) ≡ stream_of frames
unfolding stream_from
stream_is frames =
    ap (λ (b : Bool). cond b (refused_line 52) (joined (packets_from (length (joined frames)) (joined frames) (lengths_of frames) 0 0)))
    (bad_is_not-good frames)
    ∙ ap (λ (l : List (List ℕ)). cond (not (all_good frames)) (refused_line 52) (joined l)) (drain-from (length (joined frames)) frames 0 0)
    ∙ by (all_good frames)
  where
    by : (b : Bool) → cond (not b) (refused_line 52) (joined (packets_of frames)) ≡ cond b (joined (packets_of frames)) (refused_line 52)
    by true = refl
    by false = refl
