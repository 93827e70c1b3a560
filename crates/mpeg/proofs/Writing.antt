-- The four ways out of `write`: two refusals, which give back what they were given, the null packet, and a packet with frames.
use Prim.Native.Nat.{ℕ, ◌+◌, ◌≤◌, ◌<◌}
use mathlib.Core.Path.{◌≡◌, refl, sym, ap, ◌∙◌}
use mathlib.Core.Bool.{true, false}
use mathlib.Core.Logic.{⊎_elim}
use mathlib.Core.List.{List}
use native.Mathlib.Omega.{arith}
use lib.Dec.{leb}
use lib.ListN.{length}
use borrow.Author.Tests.{lt-ltb, le-ltb, leb-true}
use Rattle.octets.specs.Stretch.{part, put}
use Rattle.octets.specs.Tests.{none}
use Rattle.octets.proofs.Counts.{true-or-false}
use Rattle.octets.proofs.Stretches.{length_rest, rest_past, part_all}
use Rattle.octets.proofs.Tests.{none-some}
use Rattle.ts.specs.Packet.{mpeg_length, payload_length, next_count, null_packet}
use Rattle.mpeg.specs.Write.{Asked, WriteOutcome, bad_frames, data_packet, carries, packet_of, carried, count_after}
use Rattle.mpeg.specs.Write.{waiting_for, left_for, wrote, refused, written_by, written}
use Rattle.mpeg.specs.Inside.Writing.{Waiting}
use Rattle.mpeg.proofs.Surveying.{left_there}
use Rattle.mpeg.proofs.Backlogs.{packet-some, carried_some, count-some}

-- no more is carried than waits
carries_waiting : (r : ℕ) (waiting : List ℕ) → r ≤ length waiting → carries r waiting ≤ length waiting
carries_waiting r waiting h =
    ⊎_elim
    (λ (t : leb payload_length r ≡ true). rw t (omega (arith, h, leb-true payload_length r t)))
    (λ (t : leb payload_length r ≡ false). rw t (omega arith))
    (true-or-false (leb payload_length r))

module _ (a : Asked) where
  pub write_bad : true ≡ bad_frames a.lengths a.bytes →
      ◌≡◌ {A = WriteOutcome} (record {
        answer = record { code = 52; place = a.place; count = a.count; null = false };
        output = a.output;
      }) (written a)
  unfolding written written_by refused
  write_bad h = rw (sym h) refl

  module _ (sound : false ≡ bad_frames a.lengths a.bytes) where
    pub write_small : length a.output < mpeg_length →
        ◌≡◌ {A = WriteOutcome} (record {
          answer = record { code = 51; place = a.place; count = a.count; null = false };
          output = a.output;
        }) (written a)
    unfolding written written_by refused
    write_small h = rw (sym sound, lt-ltb (length a.output) mpeg_length h) refl

    module _ (room : mpeg_length ≤ length a.output) where
      passed : wrote a ≡ written a
      unfolding written written_by
      passed = rw (sym sound, le-ltb (length a.output) mpeg_length room) refl

      -- nothing waits. `null` is what the code made, and `output` what it left
      pub write_null : (null output : List ℕ) → length a.bytes ≤ a.place → null ≡ null_packet →
          output ≡ put a.output 0 (part null 0 mpeg_length) →
          ◌≡◌ {A = WriteOutcome} (record {
            answer = record { code = 0; place = a.place; count = a.count; null = true };
            output = output;
          }) (written a)
      unfolding wrote packet_of carried count_after none null_packet
      write_null null output h e f =
          let none = rest_past a.bytes a.place h in
          let same : a.place + 0 ≡ a.place = omega arith in
          let whole : part null 0 mpeg_length ≡ null_packet = ap (λ (l : List ℕ). part l 0 mpeg_length) e ∙ part_all null_packet in
          let this : wrote a ≡ record { answer = record { code = 0; place = a.place; count = a.count; null = true }; output = output } =
          rw (none, same, f, whole) refl in
          sym this ∙ passed

      -- bytes wait
      module _ (some : a.place < length a.bytes) (left : ℕ) (found : left ≡ left_for a) where
        pub waits : Waiting a.bytes a.place left a.output
        waits =
            record {
              something = some;
              all_there = omega (arith, found, left_there a.lengths a.bytes a.place (sym sound));
              room = room;
            }

        waiting_some : 0 < length (waiting_for a)
        waiting_some = omega (arith, some, length_rest a.bytes a.place)

        pub carried-there : (n : ℕ) → n ≡ carries left (waiting_for a) → a.place + n ≤ length a.bytes
        carried-there n e =
            let long = length_rest a.bytes a.place in
            omega (arith, e, long, some, carries_waiting left (waiting_for a) (omega (arith, long, waits.all_there)))

        pub write_frames : (n count : ℕ) (output : List ℕ) → n ≡ carries left (waiting_for a) → count ≡ next_count a.count →
            output ≡ put a.output 0 (data_packet a.count left (waiting_for a)) →
            ◌≡◌ {A = WriteOutcome} (record {
              answer = record { code = 0; place = a.place + n; count = count; null = false };
              output = output;
            }) (written a)
        unfolding wrote
        write_frames n count output e f g =
            let r = left_for a in
            let w = waiting_for a in
            let carrying : n ≡ carried r w = e ∙ ap (λ (k : ℕ). carries k w) found ∙ sym (carried_some r w waiting_some) in
            let counting : count ≡ count_after a.count w = f ∙ sym (count-some a.count w waiting_some) in
            let packet : output ≡ put a.output 0 (packet_of a.count r w) =
            g ∙ ap (λ (k : ℕ). put a.output 0 (data_packet a.count k w)) found
            ∙ ap (put a.output 0) (sym (packet-some a.count r w waiting_some)) in
            let this : wrote a ≡ record {
              answer = record { code = 0; place = a.place + n; count = count; null = false };
              output = output;
            } =
            rw (carrying, counting, packet, none-some w waiting_some) refl in
            sym this ∙ passed
