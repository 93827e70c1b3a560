-- A packet as it comes about in the output: the header, the pointer, the bytes that wait and what the packet is filled up with, put one
-- behind the other. And which slice the hand-out takes from.
use Prim.Native.Nat.{ℕ, ◌+◌, ◌-◌, ◌≤◌, ◌<◌, min}
use mathlib.Core.Path.{◌≡◌, refl, sym, ap, ◌∙◌}
use mathlib.Core.Bool.{true, false}
use mathlib.Core.List.{List, [], ◌∷◌, ◌++◌, append-nil}
use mathlib.Core.Logic.{⊎_elim}
use native.Mathlib.Omega.{arith}
use denote.Ref.{Bor}
use lib.Dec.{leb}
use lib.ListN.{length, set, replicate}
use borrow.Author.Tests.{leb-true, leb-false, le-leb, lt-leb}
use Rattle.octets.specs.Stretch.{part, rest, put}
use Rattle.octets.proofs.Counts.{true-or-false}
use Rattle.octets.proofs.Stretches.{length_part, length_rest, length-put, part_all, part-min, part-rest_front}
use Rattle.octets.proofs.Stretches.{put-put, put_more, put_on, set-put}
use Rattle.ts.specs.Packet.{mpeg_length, head_length, payload_length, header, fill_byte, null_packet}
use Rattle.mpeg.specs.Packet.{pointed_length, frames_pid}
use Rattle.mpeg.specs.HandOut.{source, handed_length, handed_out, PermitsHandOut}
use Rattle.mpeg.specs.Write.{data_packet, carries}
use Rattle.mpeg.specs.Inside.Writing.{behind_pointer, Waiting}

-- The hand-out.
pub from-queue : (queue null : Bor (List ℕ)) → mpeg_length ≤ length queue.now → source queue null ≡ queue
unfolding source
from-queue queue null h = rw (le-leb mpeg_length (length queue.now) h) refl

pub from_null : (queue null : Bor (List ℕ)) → length queue.now < mpeg_length → source queue null ≡ null
unfolding source
from_null queue null h = rw (lt-leb mpeg_length (length queue.now) h) refl

pub handed-whole : (bytes : List ℕ) → mpeg_length ≤ length bytes → handed_length bytes ≡ mpeg_length
unfolding handed_length
handed-whole bytes h = rw (le-leb mpeg_length (length bytes) h) refl

pub handed-none : (bytes : List ℕ) → length bytes < mpeg_length → handed_length bytes ≡ 0
unfolding handed_length
handed-none bytes h = rw (lt-leb mpeg_length (length bytes) h) refl

-- the first n bytes of the slice that is handed from
pub handed : (queue null from answer : Bor (List ℕ)) (n : ℕ) → source queue null ≡ from → handed_length from.now ≡ n →
    answer.ref_ptr.0 ≡ from.ref_ptr.0 → answer.ref_ptr.1 ≡ from.ref_ptr.1 → answer.now ≡ part from.now 0 n →
    PermitsHandOut queue null answer
handed queue null from answer n s l block place bytes =
    record { in_its_source = rw s block; at_its_front = rw s place; its_bytes = rw (s, l) bytes }

-- The bytes of what is handed out, where the other slice has the null packet; and they are a packet.
pub handed-bytes : (queue null answer : Bor (List ℕ)) → null.now ≡ null_packet → PermitsHandOut queue null answer →
    answer.now ≡ handed_out queue.now
unfolding handed_out null_packet
handed-bytes queue null answer is-null p =
    let bytes = queue.now in
    ⊎_elim
    (λ (some : leb mpeg_length (length bytes) ≡ true).
    let whole = leb-true mpeg_length (length bytes) some in
    p.its_bytes ∙ rw (from-queue queue null whole, handed-whole bytes whole, some) refl)
    (λ (no : leb mpeg_length (length bytes) ≡ false).
    let from = from_null queue null (leb-false mpeg_length (length bytes) no) in
    p.its_bytes ∙ rw (from, is-null, handed-whole null_packet (omega arith), no) (part_all null_packet))
    (true-or-false (leb mpeg_length (length bytes)))

pub handed_long : (queue : List ℕ) → length (handed_out queue) ≡ mpeg_length
unfolding handed_out null_packet
handed_long queue =
    ⊎_elim
    (λ (some : leb mpeg_length (length queue) ≡ true). rw some (length_part queue 0 mpeg_length (leb-true mpeg_length (length queue) some)))
    (λ (no : leb mpeg_length (length queue) ≡ false). rw no refl)
    (true-or-false (leb mpeg_length (length queue)))

-- Many bytes, copied in three blocks.
module _ (d s : List ℕ) (at from n : ℕ) (long : 128 ≤ n) (in-d : at + n ≤ length d) (in-s : from + n ≤ length s) where
  pub copied_long : (e f g : List ℕ) → e ≡ put d at (part s from 64) → f ≡ put e (at + 64) (part s (from + 64) 64) →
      g ≡ put f (at + 128) (part s (from + 128) (n - 128)) → g ≡ put d at (part s from n)
  copied_long e f g first second third =
      let two : f ≡ put d at (part s from 128) =
      put_on d s at from 64 64 64 128 first second (omega arith) (omega arith) (omega arith) (omega (arith, long, in-d))
      (omega (arith, long, in-s)) in
      put_on d s at from 128 128 (n - 128) n two third (omega (arith, long)) (omega arith) long in-d in-s

-- What stands behind the pointer: a full packet, and one that is filled up.
module _ (d bytes : List ℕ) (place : ℕ) (inside : place ≤ length bytes) (room : mpeg_length ≤ length d) where
  abbrev size : ℕ
  size = length bytes - place

  -- what is copied of the bytes that wait
  copied : (n : ℕ) → n ≡ min pointed_length size → part (rest bytes place) 0 pointed_length ≡ part bytes place n
  copied n e =
      part-rest_front bytes place pointed_length ∙ part-min bytes place pointed_length n e

  pub full_written : (last : List ℕ) → pointed_length ≤ size → last ≡ put d (head_length + 1) (part bytes place pointed_length) →
      last ≡ put d (head_length + 1) (behind_pointer (rest bytes place))
  full_written last enough e =
      let stretch = part bytes place pointed_length in
      let long : length stretch ≡ pointed_length = length_part bytes place pointed_length (omega (arith, inside, enough)) in
      let none : pointed_length - length stretch ≡ 0 = omega (arith, long) in
      let whole : behind_pointer (rest bytes place) ≡ stretch =
      rw (copied pointed_length (omega (arith, enough)), none) (append-nil stretch) in
      e ∙ ap (put d (head_length + 1)) (sym whole)

  pub filled_written : (first last : List ℕ) → size < pointed_length → first ≡ put d (head_length + 1) (part bytes place size) →
      last ≡ put first (head_length + 1 + size) (replicate (mpeg_length - (head_length + 1 + size)) fill_byte) →
      last ≡ put d (head_length + 1) (behind_pointer (rest bytes place))
  filled_written first last few e f =
      let stretch = part bytes place size in
      let filling = replicate (mpeg_length - (head_length + 1 + size)) fill_byte in
      let long : length stretch ≡ size = length_part bytes place size (omega (arith, inside)) in
      let behind : head_length + 1 + size ≡ head_length + 1 + length stretch = omega (arith, long) in
      let left_over : pointed_length - length stretch ≡ mpeg_length - (head_length + 1 + size) = omega (arith, long) in
      let whole : behind_pointer (rest bytes place) ≡ stretch ++ filling = rw (copied size (omega (arith, few)), left_over) refl in
      f
      ∙ ap (λ (l : List ℕ). put l (head_length + 1 + size) filling) e
      ∙ ap (λ (k : ℕ). put (put d (head_length + 1) stretch) k filling) behind
      ∙ put-put d (head_length + 1) stretch filling (omega (arith, long, few, room))
      ∙ ap (put d (head_length + 1)) (sym whole)

-- The packet with frames, its parts put one behind the other.
module _ (d bytes : List ℕ) (place left count : ℕ) (w : Waiting bytes place left d) where
  abbrev waiting : List ℕ
  waiting = rest bytes place

  -- without a pointer
  module _ (far : payload_length ≤ left) where
    pub unpointed_there : place + payload_length ≤ length bytes
    unpointed_there = omega (arith, far, w.something, w.all_there)

    pub unpointed_carries : payload_length ≡ carries left waiting
    unpointed_carries = rw (le-leb payload_length left far) refl

    pub unpointed_written : (first last : List ℕ) → first ≡ put d 0 (header false frames_pid count) →
        last ≡ put first head_length (part bytes place payload_length) → last ≡ put d 0 (data_packet count left waiting)
    unpointed_written first last e f =
        let stretch : part waiting 0 payload_length ≡ part bytes place payload_length = part-rest_front bytes place payload_length in
        let whole : data_packet count left waiting ≡ header false frames_pid count ++ part bytes place payload_length =
        rw (le-leb payload_length left far, stretch) refl in
        put_more d 0 (header false frames_pid count) (part bytes place payload_length) head_length (omega (arith, w.room)) e refl f
        ∙ ap (put d 0) (sym whole)

  -- with one
  module _ (near : left < payload_length) where
    pub pointed-carries : (size : ℕ) → size ≡ min pointed_length (length bytes - place) → size ≡ carries left waiting
    pointed-carries size found = rw (lt-leb payload_length left near, length_rest bytes place) found

    pub pointed-written : (first last : List ℕ) → first ≡ put d 0 (header true frames_pid count) →
        last ≡ put (set first head_length left) (head_length + 1) (behind_pointer waiting) → last ≡ put d 0 (data_packet count left waiting)
    pointed-written first last e f =
        let h = header true frames_pid count in
        let p = h ++ (left ∷ []) in
        let long-front : length (put d 0 h) ≡ length d = length-put d 0 h (omega (arith, w.room)) in
        let whole : data_packet count left waiting ≡ p ++ behind_pointer waiting = rw (lt-leb payload_length left near) refl in
        let stored : set first head_length left ≡ put first head_length (left ∷ []) =
        set-put first head_length left (omega (arith, w.room, long-front, ap length e)) in
        let pointed : set first head_length left ≡ put d 0 p =
        put_more d 0 h (left ∷ []) head_length (omega (arith, w.room)) e refl stored in
        put_more d 0 p (behind_pointer waiting) (head_length + 1) (omega (arith, w.room)) pointed refl f ∙ ap (put d 0) (sym whole)
