-- What a run of the writer gives, the reader takes, and gives back the frames that have been sent whole (W3): `runs_are_read`. Where
-- nothing waits at its end these are all frames (`all_come_back`), and calls enough come to such an end (`drained_is_empty`). After each
-- packet the reader stands where the run stands: `Keeps`.
use mathlib.Core.Path.{◌≡◌, refl, sym, ap, ◌∙◌}
use Prim.Native.Nat.{ℕ, zero, suc, ◌+◌, ◌-◌, ◌/◌, ◌%◌, ◌≤◌, ◌<◌, min}
use native.Mathlib.Omega.{arith}
use native.Mathlib.Nat.{not-suc-le-zero}
use mathlib.Core.Bool.{true, false, not}
use mathlib.Core.Logic.{inl, inr, ⊎_elim}
use mathlib.Core.List.{List, [], ◌∷◌, ◌++◌, append_assoc, append-nil}
use lib.Dec.{leb, ltb, eqb}
use lib.ListN.{length, replicate, length-append, length-replicate}
use borrow.Author.Tests.{le-leb, leb-true, leb-false, ltb-true, ltb-false, eqb-true, eqb-false, eq-eqb}
use Rattle.octets.specs.Bytes.{byte_at}
use Rattle.octets.specs.Each.{Each}
use Rattle.octets.specs.Stretch.{part, rest, joined}
use Rattle.octets.proofs.Counts.{true-or-false}
use Rattle.octets.proofs.Elements.{each_both, each_front, each_back, each_too, length_none}
use Rattle.octets.proofs.Stretches.{length_part, length-part-min, length_rest, byte_part, part_past, part-and-rest, joined-cons}
use Rattle.octets.proofs.Stretches.{length-joined, length-joined-none, length-joined-each, pieces-joined}
use Rattle.octets.proofs.Bytes.{byte_append}
use Rattle.octets.proofs.Tests.{none-some}
use Rattle.ts.specs.Packet.{mpeg_length, payload_length, counts, next_count, header, fill_byte, all_fill, null_packet}
use Rattle.mpeg.specs.Packet.{pointed_length, frames_pid}
use Rattle.mpeg.specs.Frame.{starts_well, Good}
use Rattle.mpeg.specs.Write.{packet_of, carried, count_after}
use Rattle.mpeg.specs.Read.{Reading, at_start, any_count, read_packet, read_from, packets_in, reading}
use Rattle.mpeg.specs.Run.{Backlog, no_backlog, Burst, added, waiting_in, left_in, packet_next, after_next, run_packets, run_end}
use Rattle.mpeg.specs.Run.{GoodBursts}
use Rattle.mpeg.specs.Run.{all_frames, sent_whole, RunsAreRead, AllComeBack, DrainedIsEmpty}
use Rattle.mpeg.proofs.Backlogs.{Mid, between, within, mid_front, one, one_some, At, at_left, at_next, at_added, at_none, at_on}
use Rattle.mpeg.proofs.Backlogs.{at_whole, at_ends, NotEmpty, at_sent, count_next, count-some, packet_on, packet-ends, carried_some}
use Rattle.mpeg.proofs.Frames.{Says, good_says, good-some, starts_append, starts_not_fill, front_begins, front_not-good}
use Rattle.mpeg.proofs.Split.{room, split}
use Rattle.mpeg.proofs.PacketsRead.{standing, Expects, read_null, read_on, read_whole, read-ends}

-- The reader stands where the run stands: the frames done are those found, and what has been sent of one that has begun has come.
pub record Keeps (q : Backlog) (s : Reading) : Type 0 where
  pub expected : ℕ
  pub done : List (List ℕ)
  pub b : List ℕ
  pub t : List ℕ
  pub waiting : List (List ℕ)
  pub at : At q done b t waiting
  pub goods : Each Good (one b t ++ waiting)
  pub expects : Expects expected q.count
  pub is : s ≡ standing expected b done

pub keeps_added : {q : Backlog} {s : Reading} (burst : Burst) → Keeps q s → Each Good burst → Keeps (added q burst) s
keeps_added burst k g =
    let all : Each Good (one k.b k.t ++ k.waiting ++ burst) = each_both Good (one k.b k.t ++ k.waiting) burst k.goods g in
    record {
      expected = k.expected;
      done = k.done;
      b = k.b;
      t = k.t;
      waiting = k.waiting ++ burst;
      at = at_added k.at burst;
      goods = rw (append_assoc (one k.b k.t) k.waiting burst) at all;
      expects = k.expects;
      is = k.is;
    }

-- no frame that may be written is empty
each-some : (frames : List (List ℕ)) → Each Good frames → Each NotEmpty frames
each-some frames g = each_too Good NotEmpty frames (λ f p. omega (arith, good-some f p.0)) g

-- One packet. Nothing waits: the null packet.
none-begun : {b t : List ℕ} → Mid b t → (w : List ℕ) → length (t ++ w) ≡ 0 → b ≡ []
none-begun between w h = refl
none-begun (within x b y t) w h = absurd (never h)
  where
    never : suc (length (t ++ w)) ≡ 0 → ⊥
    never e = omega arith

-- what waits does not start with what a packet is filled up with
room_starts : (m : ℕ) (waiting : List (List ℕ)) → Each Good waiting → 0 < m → 0 < length (joined waiting) →
    all_fill (room m waiting) ≡ false
room_starts m [] g k some = absurd (not-suc-le-zero (rw length-joined-none at some))
room_starts m (f ∷ waiting) (g, gs) k some =
    let w = joined (f ∷ waiting) in
    let front = part w 0 m in
    let long : 0 < length front = omega (arith, length-part-min w m) in
    let fill = replicate (m - length front) fill_byte in
    let first : byte_at w 0 ≡ byte_at f 0 =
    ap (λ (l : List ℕ). byte_at l 0) (joined-cons f waiting) ∙ byte_append f (joined waiting) 0 (omega (arith, good-some f g.0)) in
    let same_first : byte_at front 0 ≡ byte_at f 0 = byte_part w 0 m 0 k ∙ first in
    let starts : starts_well front ≡ true = ap (λ (x : ℕ). not (eqb x fill_byte)) same_first ∙ (good_says f g.0).starts in
    starts_not_fill (front ++ fill) (omega (arith, length-append front fill)) (starts_append front fill long ∙ starts)

module _ (q : Backlog) (expected : ℕ) (done : List (List ℕ)) (b t : List ℕ) (waiting : List (List ℕ)) (at : At q done b t waiting)
    (goods : Each Good (one b t ++ waiting)) (expects : Expects expected q.count) where
  abbrev w : List ℕ
  w = t ++ joined waiting

  abbrev next : Reading
  next = read_packet (standing expected b done) (packet_next q)

  next_is : {s : Reading} (p : List ℕ) → packet_of q.count (length t) w ≡ p → read_packet (standing expected b done) p ≡ s → next ≡ s
  next_is p e h = ap (read_packet (standing expected b done)) (at_next at ∙ e) ∙ h

  -- the count goes on
  next_expects : 0 < length w → Expects (next_count q.count) (after_next q).count
  next_expects some =
      let e : next_count q.count ≡ next_count q.count % counts = omega arith in
      inr (e ∙ ap (λ (n : ℕ). n % counts) (sym (count_next at ∙ count-some q.count w some)))

  keeps_none : length w ≡ 0 → Keeps (after_next q) next
  unfolding packet_of count_after
  keeps_none h =
      let no-w : w ≡ [] = length_none w h in
      let no-b : b ≡ [] = none-begun at.mid (joined waiting) h in
      let same_count : (after_next q).count ≡ q.count = count_next at ∙ ap (count_after q.count) no-w in
      record {
        expected = expected;
        done = done;
        b = b;
        t = t;
        waiting = waiting;
        at = at_none at h;
        goods = goods;
        expects = rw same_count expects;
        is = next_is null_packet (ap (packet_of q.count (length t)) no-w) (rw no-b (read_null expected done));
      }

  -- the frame that has begun
  this_good : 0 < length t → Good (b ++ t)
  this_good some =
      let g : Each Good (one b t) = each_front Good (one b t) waiting goods in
      let g' : Each Good ((b ++ t) ∷ []) = rw (one_some b t some) at g in
      g'.0

  some_on : payload_length ≤ length t → 0 < length w
  some_on h = omega (arith, length-append t (joined waiting))

  keeps_on : payload_length < length t → Keeps (after_next q) next
  keeps_on h =
      let sent = part t 0 payload_length in
      let front = b ++ sent in
      let back = rest t payload_length in
      let some-t : 0 < length t = omega arith in
      let some-b : 0 < length b = mid_front at.mid some-t in
      let some-front : 0 < length front = omega (arith, length-append b sent) in
      let some_back : 0 < length back = omega (arith, length_rest t payload_length) in
      let whole : front ++ back ≡ b ++ t =
      append_assoc b sent back ∙ ap (λ (l : List ℕ). b ++ l) (part-and-rest t payload_length) in
      let says : Says (front ++ back) = rw whole (good_says (b ++ t) (this_good some-t).0) in
      let is_one : one front back ≡ one b t =
      one_some front back some_back ∙ ap (λ (l : List ℕ). l ∷ []) whole ∙ sym (one_some b t some-t) in
      record {
        expected = next_count q.count;
        done = done;
        b = front;
        t = back;
        waiting = waiting;
        at = at_on at h;
        goods = rw is_one goods;
        expects = next_expects (some_on (omega arith));
        is = next_is
            (header false frames_pid q.count ++ sent)
            (packet_on t (joined waiting) (omega arith) q.count)
            (read_on expected q.count b sent done expects (none-some b some-b)
            (front_not-good front back some-front some_back says) (front_begins front back some-front some_back says));
      }

  keeps_whole : length t ≡ payload_length → Keeps (after_next q) next
  keeps_whole h =
      let some-t : 0 < length t = omega arith in
      let some-b : 0 < length b = mid_front at.mid some-t in
      let all : part t 0 payload_length ≡ t = part_past t payload_length (omega arith) in
      record {
        expected = next_count q.count;
        done = done ++ one b t;
        b = [];
        t = [];
        waiting = waiting;
        at = at_whole at h;
        goods = each_back Good (one b t) waiting goods;
        expects = next_expects (some_on (omega arith));
        is = next_is
            (header false frames_pid q.count ++ t)
            (packet_on t (joined waiting) (omega arith) q.count ∙ ap (λ (l : List ℕ). header false frames_pid q.count ++ l) all)
            (read_whole expected q.count b t done expects (none-some b some-b) (this_good some-t).0
            ∙ ap (λ (l : List (List ℕ)). standing (next_count q.count) [] (done ++ l)) (sym (one_some b t some-t)));
      }

  keeps_ends : length t < payload_length → 0 < length w → Keeps (after_next q) next
  keeps_ends h some =
      let waiting-good = each_back Good (one b t) waiting goods in
      let m = pointed_length - length t in
      let s = split m pointed_length waiting waiting-good (omega arith) in
      let goods-behind : Each Good (s.whole ++ (one s.front s.back ++ s.behind)) = rw s.are at waiting-good in
      record {
        expected = next_count q.count;
        done = done ++ one b t ++ s.whole;
        b = s.front;
        t = s.back;
        waiting = s.behind;
        at = at_ends at h some s.whole s.front s.back s.behind s.mid s.are s.taken;
        goods = each_back Good s.whole (one s.front s.back ++ s.behind) goods-behind;
        expects = next_expects some;
        is = next_is
            (header true frames_pid q.count ++ (length t ∷ (t ++ room m waiting)))
            (packet-ends t (joined waiting) h some q.count)
            (read-ends expected q.count (room m waiting) done s.whole s.front expects s.is_found at.mid (omega arith)
            (λ some-t. (this_good some-t).0)
            (λ no-t. room_starts m waiting waiting-good (omega arith) (omega (arith, length-append t (joined waiting)))));
      }

  -- every packet has 188 bytes
  sized-none : length w ≡ 0 → length (packet_next q) ≡ mpeg_length
  unfolding packet_of null_packet
  sized-none h = ap length (at_next at ∙ ap (packet_of q.count (length t)) (length_none w h))

  sized_on : payload_length ≤ length t → length (packet_next q) ≡ mpeg_length
  sized_on h =
      ap length (at_next at ∙ packet_on t (joined waiting) h q.count)
      ∙ omega (arith, length-append (header false frames_pid q.count) (part t 0 payload_length), length_part t 0 payload_length h)

  sized-ends : length t < payload_length → 0 < length w → length (packet_next q) ≡ mpeg_length
  sized-ends h some =
      let m = pointed_length - length t in
      let front = part (joined waiting) 0 m in
      let fill = replicate (m - length front) fill_byte in
      let body = length t ∷ (t ++ (front ++ fill)) in
      let long-fill : length fill ≡ m - length front = length-replicate (m - length front) fill_byte in
      let long : length (t ++ (front ++ fill)) ≡ length t + (length front + length fill) =
      omega (arith, length-append t (front ++ fill), length-append front fill) in
      ap length (at_next at ∙ packet-ends t (joined waiting) h some q.count)
      ∙ omega (arith, length-append (header true frames_pid q.count) body, length-part-min (joined waiting) m)

  -- whichever packet it is
  next_keeps : Keeps (after_next q) next × (length (packet_next q) ≡ mpeg_length)
  next_keeps =
      ⊎_elim
      (λ (e : eqb (length w) 0 ≡ true). let h = eqb-true (length w) 0 e in (keeps_none h, sized-none h))
      (λ (e : eqb (length w) 0 ≡ false).
      let some : 0 < length w = omega (arith, eqb-false (length w) 0 e) in
      ⊎_elim
      (λ (e1 : leb payload_length (length t) ≡ true).
      let h = leb-true payload_length (length t) e1 in
      ⊎_elim
      (λ (e2 : eqb (length t) payload_length ≡ true). (keeps_whole (eqb-true (length t) payload_length e2), sized_on h))
      (λ (e2 : eqb (length t) payload_length ≡ false). (keeps_on (omega (arith, h, eqb-false (length t) payload_length e2)), sized_on h))
      (true-or-false (eqb (length t) payload_length)))
      (λ (e1 : leb payload_length (length t) ≡ false).
      let h = leb-false payload_length (length t) e1 in (keeps_ends h some, sized-ends h some))
      (true-or-false (leb payload_length (length t))))
      (true-or-false (eqb (length w) 0))

pub keeps_next : {q : Backlog} {s : Reading} → Keeps q s →
    Keeps (after_next q) (read_packet s (packet_next q)) × (length (packet_next q) ≡ mpeg_length)
keeps_next {q} {s} k = rw k.is (next_keeps q k.expected k.done k.b k.t k.waiting k.at k.goods k.expects)

-- a null packet more changes nothing where nothing is left of a frame that has begun
pub keeps_null : {q : Backlog} {s : Reading} → Keeps q s → left_in q ≡ 0 → read_packet s null_packet ≡ s
keeps_null k left =
    let none_left : length k.t ≡ 0 = sym (at_left k.at) ∙ left in
    let no-b : k.b ≡ [] = none-begun k.at.mid [] (omega (arith, length-append k.t [])) in
    rw (k.is, no-b) (read_null k.expected k.done)

-- So all is sound, and the frames found are those that have been sent whole.
pub keeps_sound : {q : Backlog} {s : Reading} → Keeps q s → s.sound ≡ true
keeps_sound k = ap (λ (s : Reading). s.sound) k.is

pub keeps_sent : {q : Backlog} {s : Reading} → Keeps q s → s.frames ≡ sent_whole q.frames q.place
keeps_sent k =
    ap (λ (s : Reading). s.frames) k.is
    ∙ sym (at_sent k.at (each-some k.waiting (each_back Good (one k.b k.t) k.waiting k.goods)))

-- A run.
abbrev pub Sized : List ℕ → Type 0
Sized packet = length packet ≡ mpeg_length

keeps_run : (bursts : List Burst) {q : Backlog} {s : Reading} → GoodBursts bursts → Keeps q s →
    Keeps (run_end q bursts) (read_from s (run_packets q bursts)) × Each Sized (run_packets q bursts)
unfolding run_end run_packets read_from
keeps_run [] g k = (k, tt)
keeps_run (burst ∷ bursts) {q} {s} (g, gs) k =
    let n = keeps_next (keeps_added burst k g) in
    let more = keeps_run bursts gs n.0 in
    (more.0, (n.1, more.1))

frames_at_end : (bursts : List Burst) (q : Backlog) → (run_end q bursts).frames ≡ q.frames ++ all_frames bursts
unfolding run_end all_frames after_next
frames_at_end [] q = sym (append-nil q.frames)
frames_at_end (burst ∷ bursts) q = frames_at_end bursts (after_next (added q burst)) ∙ append_assoc q.frames burst (all_frames bursts)

-- The packets back to back are taken apart again.
packets_back : (ps : List (List ℕ)) → Each Sized ps → packets_in (joined ps) (length ps) ≡ ps
unfolding packets_in
packets_back ps h = pieces-joined mpeg_length ps h

pub reading-packets : (ps : List (List ℕ)) → Each Sized ps → reading (joined ps) ≡ read_from at_start ps
unfolding reading
reading-packets ps h =
    let long = length-joined-each mpeg_length ps h in
    let whole : length (joined ps) % mpeg_length ≡ 0 = omega arith in
    let many : length (joined ps) / mpeg_length ≡ length ps = omega arith in
    rw (eq-eqb (length (joined ps) % mpeg_length) 0 whole, many, packets_back ps h) refl

-- What a run gives is read.
pub keeps_start : (count : ℕ) → Keeps (no_backlog count) at_start
keeps_start count =
    record {
      expected = any_count;
      done = [];
      b = [];
      t = [];
      waiting = [];
      at = record { mid = between; frames_are = refl; place_is = omega (arith, length-joined-none) };
      goods = tt;
      expects = inl refl;
      is = refl;
    }

pub runs_are_read : RunsAreRead
runs_are_read count bursts g =
    let run = keeps_run bursts g (keeps_start count) in
    let k = run.0 in
    let end = run_end (no_backlog count) bursts in
    let e = reading-packets (run_packets (no_backlog count) bursts) run.1 in
    record {
      taken = ap (λ (s : Reading). s.sound) e ∙ keeps_sound k;
      given_back = ap (λ (s : Reading). s.frames) e
          ∙ keeps_sent k
          ∙ ap (λ (fs : List (List ℕ)). sent_whole fs end.place) (frames_at_end bursts (no_backlog count));
    }

-- With every byte sent, all frames have been sent whole.
sent_all : (frames : List (List ℕ)) (place : ℕ) → length (joined frames) ≤ place → sent_whole frames place ≡ frames
unfolding sent_whole
sent_all [] place h = refl
sent_all (f ∷ frames) place h =
    let k : length f ≤ place = omega (arith, length-joined f frames) in
    let more : length (joined frames) ≤ place - length f = omega (arith, length-joined f frames) in
    rw (le-leb (length f) place k) (ap (λ (fs : List (List ℕ)). f ∷ fs) (sent_all frames (place - length f) more))

abbrev all_length : Backlog → ℕ
all_length q = length (joined q.frames)

-- .. and so where nothing waits
pub all_whole : (q : Backlog) → waiting_in q ≡ [] → sent_whole q.frames q.place ≡ q.frames
all_whole q nothing =
    let left : all_length q - q.place ≡ 0 = sym (length_rest (joined q.frames) q.place) ∙ ap length nothing in
    sent_all q.frames q.place (omega arith)

pub all_come_back : AllComeBack
all_come_back count bursts g nothing =
    let end = run_end (no_backlog count) bursts in
    let are = frames_at_end bursts (no_backlog count) in
    (runs_are_read count bursts g).given_back
    ∙ ap (λ (fs : List (List ℕ)). sent_whole fs end.place) (sym are)
    ∙ all_whole end nothing
    ∙ are

-- Calls enough: each sends a byte at least as long as any wait.
pub some-carried : (r : ℕ) (waiting : List ℕ) → 0 < length waiting → 0 < carried r waiting
some-carried r waiting some =
    ⊎_elim
    (λ (e : leb payload_length r ≡ true).
    let c : carried r waiting ≡ payload_length = carried_some r waiting some ∙ rw e refl in
    let g : 0 < carried r waiting = omega arith in g)
    (λ (e : leb payload_length r ≡ false).
    let c : carried r waiting ≡ min pointed_length (length waiting) = carried_some r waiting some ∙ rw e refl in
    let g : 0 < carried r waiting = omega arith in g)
    (true-or-false (leb payload_length r))

goes_on : (q : Backlog) (n : ℕ) → all_length q ≤ q.place + suc n → all_length q ≤ (after_next q).place + n
unfolding after_next
goes_on q n h =
    let long : length (waiting_in q) ≡ all_length q - q.place = length_rest (joined q.frames) q.place in
    ⊎_elim
    (λ (e : ltb 0 (length (waiting_in q)) ≡ true).
    let c : 0 < carried (left_in q) (waiting_in q) = some-carried (left_in q) (waiting_in q) (ltb-true 0 (length (waiting_in q)) e) in
    let g : all_length q ≤ q.place + carried (left_in q) (waiting_in q) + n = omega arith in g)
    (λ (e : ltb 0 (length (waiting_in q)) ≡ false).
    let c : length (waiting_in q) ≤ 0 = ltb-false 0 (length (waiting_in q)) e in
    let g : all_length q ≤ q.place + carried (left_in q) (waiting_in q) + n = omega arith in g)
    (true-or-false (ltb 0 (length (waiting_in q))))

frames-kept : (q : Backlog) → all_length (after_next q) ≡ all_length q
unfolding after_next
frames-kept q = refl

-- no frame more is added
same_length : (q : Backlog) → all_length (added q []) ≡ all_length q
same_length q = ap (λ (fs : List (List ℕ)). length (joined fs)) (append-nil q.frames)

all_sent : (n : ℕ) (q : Backlog) → all_length q ≤ q.place + n → all_length q ≤ (run_end q (replicate n [])).place
unfolding run_end
all_sent zero q h = omega arith
all_sent (suc n) q h =
    let q' = after_next (added q []) in
    let same : all_length (added q []) ≡ all_length q = same_length q in
    let step : all_length (added q []) ≤ q'.place + n = goes_on (added q []) n (omega arith) in
    let kept : all_length q' ≡ all_length (added q []) = frames-kept (added q []) in
    let sent : all_length q' ≤ (run_end q' (replicate n [])).place = all_sent n q' (omega arith) in
    omega arith

calls_keep : (n : ℕ) (q : Backlog) → all_length (run_end q (replicate n [])) ≡ all_length q
unfolding run_end
calls_keep zero q = refl
calls_keep (suc n) q =
    calls_keep n (after_next (added q [])) ∙ frames-kept (added q []) ∙ same_length q

-- the run of the bursts, and then of the calls
run_both : (bursts more : List Burst) (q : Backlog) → run_end q (bursts ++ more) ≡ run_end (run_end q bursts) more
unfolding run_end
run_both [] more q = refl
run_both (burst ∷ bursts) more q = run_both bursts more (after_next (added q burst))

pub drained_is_empty : DrainedIsEmpty
drained_is_empty count n bursts h =
    let behind = run_end (no_backlog count) bursts in
    let frames_are : behind.frames ≡ all_frames bursts = frames_at_end bursts (no_backlog count) in
    let long : all_length behind ≡ length (joined (all_frames bursts)) = ap (λ (fs : List (List ℕ)). length (joined fs)) frames_are in
    let end = run_end behind (replicate n []) in
    let kept : all_length end ≡ all_length behind = calls_keep n behind in
    let sent : all_length behind ≤ end.place = all_sent n behind (omega arith) in
    let none : length (waiting_in end) ≡ 0 = omega (arith, length_rest (joined end.frames) end.place) in
    rw (run_both bursts (replicate n []) (no_backlog count)) (length_none (waiting_in end) none)
