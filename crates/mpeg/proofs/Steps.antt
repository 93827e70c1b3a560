-- What a run's step has to do with a call of the writer (W3): a call that is given good frames and room makes the step (`calls_make_runs`),
-- 52 is given where bytes and lengths are not those of good frames (`judged_by-frames`), and frames that have been sent whole may be taken
-- away (`sent_may_go`). And null packets may be put in where no frame has begun (`nulls-between`).
use Prim.Native.Nat.{ℕ, ◌+◌, ◌≤◌}
use mathlib.Core.Path.{◌≡◌, refl, sym, ap, ◌∙◌}
use mathlib.Core.Bool.{true, false, not, ◌||◌}
use mathlib.Core.Logic.{⊎_elim}
use mathlib.Core.List.{List, [], ◌∷◌, ◌++◌}
use native.Mathlib.Omega.{arith}
use lib.Dec.{eqb, ltb, leb}
use lib.ListN.{length, length-append}
use borrow.Author.Tests.{le-ltb, leb-true, leb-false, ltb-false, eqb-true, not-false}
use Rattle.refusal.specs.Refusal.{first}
use Rattle.octets.specs.Stretch.{part, rest, joined, lengths_of, cut_by}
use Rattle.octets.specs.Each.{Each}
use Rattle.octets.proofs.Counts.{true-or-false, or-false-left, or-false-right}
use Rattle.octets.proofs.Elements.{each_too, length_none}
use Rattle.octets.proofs.Stretches.{length_part, part_all, part-and-rest, part-append, rest-append, rest-joined-append}
use Rattle.octets.proofs.Stretches.{joined-none, joined-cons, lengths_of-none, lengths_of-cons, cut-none, cut-cons}
use Rattle.ts.specs.Packet.{mpeg_length, null_packet}
use Rattle.mpeg.specs.Frame.{good, Good}
use Rattle.mpeg.specs.Write.{bad_frames, write_refusals, carried, WriteOutcome, wrote, written_by, written}
use Rattle.mpeg.specs.HandOut.{source, handed_length, handed_out, HandsOutPackets}
use Rattle.mpeg.specs.Read.{Reading, read_packet, read_from}
use Rattle.mpeg.specs.Run.{Backlog, packet_next, after_next, waiting_in, left_in, asked_for, IsStep, CallsMakeRuns, JudgedByFrames}
use Rattle.mpeg.specs.Run.{behind_sent, SentMayGo, NullsBetween}
use Rattle.mpeg.proofs.Backlogs.{left_done}
use Rattle.mpeg.proofs.PacketsRead.{read_null}
use Rattle.mpeg.proofs.Packets.{from-queue, from_null}

-- Frames, and then 52's condition over their lengths and their bytes back to back.
pub frames_pass : (frames : List (List ℕ)) → Each (λ f. good f ≡ true) frames → bad_frames (lengths_of frames) (joined frames) ≡ false
unfolding bad_frames
frames_pass [] g = rw (lengths_of-none, joined-none) refl
frames_pass (f ∷ more) g =
    let all = f ++ joined more in
    let long : ltb (length all) (length f) ≡ false = le-ltb (length all) (length f) (omega (arith, length-append f (joined more))) in
    rw (lengths_of-cons f more, joined-cons f more, long, part-append f (joined more), rest-append f (joined more), g.0)
    (frames_pass more g.1)

pub passed_are_frames : (lengths bytes : List ℕ) → bad_frames lengths bytes ≡ false →
    (lengths_of (cut_by lengths bytes) ≡ lengths) × (joined (cut_by lengths bytes) ≡ bytes)
    × Each (λ f. good f ≡ true) (cut_by lengths bytes)
unfolding bad_frames
passed_are_frames [] bytes h =
    let empty = length_none bytes (eqb-true (length bytes) 0 (not-false (eqb (length bytes) 0) h)) in
    rw (cut-none bytes) (lengths_of-none, joined-none ∙ sym empty, tt)
passed_are_frames (n ∷ more) bytes h =
    let frame = part bytes 0 n in
    let fewer = ltb (length bytes) n in
    let bad_more = bad_frames more (rest bytes n) in
    let few : n ≤ length bytes = ltb-false (length bytes) n (or-false-left fewer (not (good frame) || bad_more) h) in
    let long : length frame ≡ n = length_part bytes 0 n (omega (arith, few)) in
    let others : (not (good frame) || bad_more) ≡ false = or-false-right fewer (not (good frame) || bad_more) h in
    let this = not-false (good frame) (or-false-left (not (good frame)) bad_more others) in
    let behind = passed_are_frames more (rest bytes n) (or-false-right (not (good frame)) bad_more others) in
    let cuts = cut_by more (rest bytes n) in
    rw (cut-cons n more bytes) (
      lengths_of-cons frame cuts ∙ rw (long, behind.0) refl,
      joined-cons frame cuts ∙ ap (λ (l : List ℕ). frame ++ l) behind.1 ∙ part-and-rest bytes n,
      (this, behind.2),
    )

pub judged_by-frames : JudgedByFrames
judged_by-frames = record { frames_pass = frames_pass; passed_are_frames = passed_are_frames }

-- A call.
module _ (q : Backlog) (output : List ℕ) (g : Each Good q.frames) (room : mpeg_length ≤ length output) where
  passes : first (write_refusals (asked_for q output)) ≡ 0
  passes =
      let sound = frames_pass q.frames (each_too Good (λ f. good f ≡ true) q.frames (λ f p. p.0) g) in
      rw (sound, le-ltb (length output) mpeg_length room) refl

  is_written : written (asked_for q output) ≡ wrote (asked_for q output)
  unfolding written written_by
  is_written = rw passes refl

  is_step : IsStep q output
  unfolding wrote packet_next after_next
  is_step =
      record {
        not-refused = ap (λ (o : WriteOutcome). o.answer.code) is_written;
        next_place = ap (λ (o : WriteOutcome). o.answer.place) is_written;
        next_count = ap (λ (o : WriteOutcome). o.answer.count) is_written;
        its_packet = ap (λ (o : WriteOutcome). o.output) is_written;
      }

pub calls_make_runs : CallsMakeRuns
calls_make_runs = is_step

-- Frames that have been sent whole.
pub sent_may_go : SentMayGo
unfolding packet_next after_next
sent_may_go sent q =
    let waiting : waiting_in (behind_sent sent q) ≡ waiting_in q = rest-joined-append sent q.frames q.place in
    let left : left_in (behind_sent sent q) ≡ left_in q = left_done sent q.frames q.place in
    let farther : length (joined sent) + q.place + carried (left_in q) (waiting_in q)
    ≡ length (joined sent) + (q.place + carried (left_in q) (waiting_in q)) =
    omega arith in
    (rw (left, waiting) refl, rw (left, waiting, farther) refl)

-- A null packet more.
skipped : (s : Reading) → s.sound ≡ true → s.begun ≡ [] → read_packet s null_packet ≡ s
skipped s sound none-begun = rw (sound, none-begun) (read_null s.expected s.frames)

pub nulls-between : NullsBetween
unfolding read_from
nulls-between s [] behind sound none-begun = ap (λ (r : Reading). read_from r behind) (skipped s sound none-begun)
nulls-between s (p ∷ before) behind sound none-begun = nulls-between (read_packet s p) before behind sound none-begun

-- What is handed out.
pub hands_out-packets : HandsOutPackets
unfolding handed_length handed_out null_packet
hands_out-packets queue null answer is-null p =
    let long = length queue.now in
    ⊎_elim
    (λ (whole : leb mpeg_length long ≡ true).
    let from : source queue null ≡ queue = from-queue queue null (leb-true mpeg_length long whole) in
    p.its_bytes ∙ rw (from, whole) refl)
    (λ (few : leb mpeg_length long ≡ false).
    let from : source queue null ≡ null = from_null queue null (leb-false mpeg_length long few) in
    p.its_bytes ∙ rw (from, is-null, few) (part_all null_packet))
    (true-or-false (leb mpeg_length long))
