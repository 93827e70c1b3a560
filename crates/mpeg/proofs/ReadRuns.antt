-- `read_is_run`: what the reader takes, some run of the writer gives. By the packets, from the last to the first: how a frame goes on that
-- has begun is known from the packets behind, and after the last packet it goes on with 0.
use Prim.Native.Nat.{ℕ, ◌+◌, ◌*◌, ◌/◌, ◌%◌, ◌≤◌, ◌<◌}
use mathlib.Core.Path.{◌≡◌, refl, sym, ap, ◌∙◌}
use mathlib.Core.Bool.{Bool, true, false, not, cond, ◌&&◌, true≢false}
use mathlib.Core.Logic.{◌⊎◌, ⊎_elim}
use mathlib.Core.List.{List, [], ◌∷◌, ◌++◌, append-nil}
use native.Mathlib.Omega.{arith}
use lib.Dec.{eqb}
use lib.ListN.{length, replicate, length-append, length-replicate}
use borrow.Author.Tests.{eqb-true, not-true}
use Rattle.refusal.proofs.Laws.{and_left, and_right}
use Rattle.octets.specs.Bytes.{AllBytes}
use Rattle.octets.specs.Each.{Each}
use Rattle.octets.specs.Stretch.{part, rest, joined}
use Rattle.octets.specs.Tests.{none}
use Rattle.octets.proofs.Counts.{true-or-false}
use Rattle.octets.proofs.Elements.{each-up_to}
use Rattle.octets.proofs.Stretches.{length_part, length_rest, part_all, part-and-rest, rest_byte, length-joined-none, joined-pieces}
use Rattle.octets.proofs.Bytes.{bytes-none, bytes-append, bytes_rest, bytes-part}
use Rattle.ts.specs.Packet.{mpeg_length, head_length, payload_length, count_of, next_count, header, fill_byte, all_fill, null_packet}
use Rattle.ts.proofs.Filling.{fill_all}
use Rattle.mpeg.specs.Packet.{pointed_length, frames_pid}
use Rattle.mpeg.specs.Frame.{good, may_begin, Good}
use Rattle.mpeg.specs.Read.{Reading, any_count, at_start, unsound, pointer, pointed, ended, found_in, read_packet, read_from, packets_in}
use Rattle.mpeg.specs.Read.{reading}
use Rattle.mpeg.specs.Run.{no_backlog, IsRun, ReadIsRun}
use Rattle.mpeg.proofs.Backlogs.{Mid, between, within, At}
use Rattle.mpeg.proofs.Frames.{may_begin-none, good-not-begun}
use Rattle.mpeg.proofs.Found.{Apart, found_apart, pieces, end_bytes, frames-good}
use Rattle.mpeg.proofs.Ways.{longer, stays_unsound, Headed, headed-rest, Started, way}
use Rattle.mpeg.proofs.Ways.{Way, was_refused, was_null, was_finished, went_on, was_started}
use Rattle.mpeg.proofs.Completing.{Goes, RunOf, mid_none, goes_none, goes_on, run_ends, run_null, run_on, run_finished, flagged}
use Rattle.mpeg.proofs.Completing.{run_flag}

-- A packet as the reader is given it.
abbrev Whole : List ℕ → Type 0
Whole packet = (length packet ≡ mpeg_length) × AllBytes packet

-- the null packet
null_step : (b : List ℕ) (expected : ℕ) (packet : List ℕ) (more : List (List ℕ)) → b ≡ [] → packet ≡ null_packet →
    RunOf b expected more → RunOf b expected (packet ∷ more)
null_step b expected packet more e f r = rw (e, f) (run_null expected more (rw e at r))

-- Without the flag.
goes_further : (b payload : List ℕ) (expected c : ℕ) (more : List (List ℕ)) → none b ≡ false → length payload ≡ payload_length →
    (expected ≡ any_count) ⊎ (c ≡ expected) → RunOf (b ++ payload) (next_count c) more →
    RunOf b expected ((header false frames_pid c ++ payload) ∷ more)
unfolding none
goes_further [] payload expected c more h long fits r = absurd (true≢false h)
goes_further (x ∷ b) payload expected c more h long fits r = run_on x b payload expected c more long fits r

finished : (b payload : List ℕ) (expected c : ℕ) (more : List (List ℕ)) → none b ≡ false → length payload ≡ payload_length →
    (expected ≡ any_count) ⊎ (c ≡ expected) → Good (b ++ payload) → RunOf [] (next_count c) more →
    RunOf b expected ((header false frames_pid c ++ payload) ∷ more)
unfolding none
finished [] payload expected c more h long fits g r = absurd (true≢false h)
finished (x ∷ b) payload expected c more h long fits g r = run_finished x b payload expected c more long fits g r

-- With the flag: how the frame goes on that has begun, by what `ends_well` tests
flag_goes : (b t : List ℕ) (n : ℕ) (test : Bool) → may_begin b ≡ true → AllBytes b → AllBytes t → length t ≡ n →
    cond (none b) (eqb n 0 && test) (good (b ++ t)) ≡ true → Goes b t
unfolding none
flag_goes [] [] n test may in_b in-t long h = goes_none
flag_goes [] (y ∷ t) n test may in_b in-t long h = absurd (never (eqb-true n 0 (and_left (eqb n 0) test h)))
  where
    never : n ≡ 0 → ⊥
    never e = omega arith
flag_goes (x ∷ b) [] n test may in_b in-t long h = absurd (good-not-begun (x ∷ b) may (rw append-nil at h))
flag_goes (x ∷ b) (y ∷ t) n test may in_b in-t long h = goes_on x b (y ∷ t) (omega arith) (h, bytes-append (x ∷ b) (y ∷ t) in_b in-t)

-- .. and that the packet has some byte of a frame
flag_some : {b t : List ℕ} (pieces all : List ℕ) (fill : ℕ) (zero_test other : Bool) → Mid b t →
    cond (none b) (zero_test && not (all_fill all)) other ≡ true → t ++ (pieces ++ replicate fill fill_byte) ≡ all →
    0 < length t + length pieces
unfolding none
flag_some [] all fill zero_test other between h e =
    absurd (true≢false (sym (fill_all fill) ∙ ap all_fill e ∙ not-true (all_fill all) (and_right zero_test (not (all_fill all)) h)))
flag_some (z ∷ pieces) all fill zero_test other between h e = omega arith
flag_some pieces all fill zero_test other (within x b y t) h e = omega arith

module _ (s : Reading) (packet : List ℕ) (more : List (List ℕ)) (may : may_begin s.begun ≡ true) (bytes : AllBytes s.begun)
    (is_whole : Whole packet) where
  payload_long : length (rest packet head_length) ≡ payload_length
  payload_long = omega (arith, length_rest packet head_length, is_whole.0)

  longer_bytes : AllBytes (longer s packet)
  longer_bytes = bytes-append s.begun (rest packet head_length) bytes (bytes_rest packet head_length is_whole.1)

  -- With the flag: the packet's bytes, by the pointer.
  module _ (h : Headed true s packet) (started : Started s packet) where
    abbrev tail : List ℕ
    tail = part (pointed packet) 0 (pointer packet)

    abbrev behind_it : List ℕ
    behind_it = rest (pointed packet) (pointer packet)

    long_pointed : length (pointed packet) ≡ pointed_length
    long_pointed = omega (arith, length_rest packet (head_length + 1), is_whole.0)

    long_tail : length tail ≡ pointer packet
    long_tail = length_part (pointed packet) 0 (pointer packet) (omega (arith, long_pointed, started.near))

    bytes-pointed : AllBytes (pointed packet)
    bytes-pointed = bytes_rest packet (head_length + 1) is_whole.1

    its_apart : Apart behind_it (found_in packet)
    its_apart = found_apart pointed_length behind_it started.well

    bytes_behind : AllBytes behind_it
    bytes_behind = bytes_rest (pointed packet) (pointer packet) bytes-pointed

    -- the pieces are the packet
    its_pieces : tail ++ (pieces its_apart ++ replicate its_apart.fill fill_byte) ≡ pointed packet
    its_pieces = ap (λ (l : List ℕ). tail ++ l) its_apart.all ∙ part-and-rest (pointed packet) (pointer packet)

    is_flagged : flagged s.begun tail (found_in packet).whole (found_in packet).open_end its_apart.fill (count_of packet) ≡ packet
    is_flagged =
        let c = count_of packet in
        let first : pointer packet ∷ pointed packet ≡ rest packet head_length =
        sym (rest_byte packet head_length (omega (arith, is_whole.0))) in
        ap (λ (l : List ℕ). header true frames_pid c ++ (length tail ∷ l)) its_pieces
        ∙ ap (λ (n : ℕ). header true frames_pid c ++ (n ∷ pointed packet)) long_tail
        ∙ ap (λ (l : List ℕ). header true frames_pid c ++ l) first
        ∙ headed-rest h

    its_end : Goes s.begun tail
    its_end =
        flag_goes s.begun tail (pointer packet) (not (all_fill (pointed packet))) may bytes
        (bytes-part (pointed packet) 0 (pointer packet) bytes-pointed) long_tail started.ends

    abbrev front : List ℕ
    front = (found_in packet).open_end

    run-flagged : (may_begin front ≡ true → AllBytes front → RunOf front (next_count (count_of packet)) more) →
        RunOf s.begun s.expected (packet ∷ more)
    run-flagged behind =
        let fills = replicate its_apart.fill fill_byte in
        let all : length tail + length (pieces its_apart) + its_apart.fill ≡ pointed_length =
        omega (
          arith,
          ap length its_pieces,
          long_pointed,
          length-append tail (pieces its_apart ++ fills),
          length-append (pieces its_apart) fills,
          length-replicate its_apart.fill fill_byte,
        ) in
        let some : 0 < length tail + length (pieces its_apart) =
        flag_some (pieces its_apart) (pointed packet) its_apart.fill (eqb (pointer packet) 0) (good (ended s packet)) its_end.middle
        started.ends its_pieces in
        let r : RunOf s.begun s.expected
        (flagged s.begun tail (found_in packet).whole front its_apart.fill (count_of packet) ∷ more) =
        run_flag s.begun tail (found_in packet).whole front its_apart.fill all some s.expected (count_of packet) more
        h.fits its_end
        (frames-good its_apart bytes_behind) its_apart.one_of_them (behind its_apart.may_begin_lem (end_bytes its_apart bytes_behind)) in
        rw is_flagged at r

  -- What a step has to show: a run gives the packets behind, from the reading that this packet leaves; then a run gives this one too.
  abbrev Onward : Reading → Type 0
  Onward v = may_begin v.begun ≡ true → AllBytes v.begun → RunOf v.begun v.expected more

  step_by : Way s packet → (read_packet s packet).sound ≡ true → Onward (read_packet s packet) →
      RunOf s.begun s.expected (packet ∷ more)
  step_by (was_refused e) sound behind = absurd (true≢false (sym sound ∙ ap (λ (t : Reading). t.sound) e))
  step_by (was_null is-null nothing e) sound behind =
      let on : Onward s = rw e at behind in
      null_step s.begun s.expected packet more nothing is-null (on may bytes)
  step_by (was_finished h begun g e) sound behind =
      let on : may_begin [] ≡ true → AllBytes [] → RunOf [] (next_count (count_of packet)) more = rw e at behind in
      let r =
      finished s.begun (rest packet head_length) s.expected (count_of packet) more begun payload_long h.fits (g, longer_bytes)
      (on may_begin-none bytes-none) in
      rw (headed-rest h) at r
  step_by (went_on h begun m e) sound behind =
      let on : may_begin (longer s packet) ≡ true → AllBytes (longer s packet) →
      RunOf (longer s packet) (next_count (count_of packet)) more =
      rw e at behind in
      let r =
      goes_further s.begun (rest packet head_length) s.expected (count_of packet) more begun payload_long h.fits
      (on m longer_bytes) in
      rw (headed-rest h) at r
  step_by (was_started h started e) sound behind = run-flagged h started (rw e at behind)

  step : s.sound ≡ true → (read_packet s packet).sound ≡ true → Onward (read_packet s packet) →
      RunOf s.begun s.expected (packet ∷ more)
  step was-sound = step_by (way s packet was-sound)

-- All packets. First: a reading that is sound at the end was sound before.
unsound_stays : (s : Reading) (packets : List (List ℕ)) → s.sound ≡ false → (read_from s packets).sound ≡ false
unfolding read_from
unsound_stays s [] h = h
unsound_stays s (packet ∷ more) h =
    ap (λ (t : Reading). (read_from t more).sound) (stays_unsound s packet h) ∙ unsound_stays unsound more refl

pub sound-before : (s : Reading) (packets : List (List ℕ)) → (read_from s packets).sound ≡ true → s.sound ≡ true
sound-before s packets h =
    ⊎_elim
    (λ (e : s.sound ≡ true). e)
    (λ (e : s.sound ≡ false). absurd (true≢false (sym h ∙ unsound_stays s packets e)))
    (true-or-false s.sound)

runs_back : (packets : List (List ℕ)) (s : Reading) → may_begin s.begun ≡ true → AllBytes s.begun → Each Whole packets →
    (read_from s packets).sound ≡ true → RunOf s.begun s.expected packets
unfolding read_from
runs_back [] s may bytes whole sound = run_ends s.begun s.expected may bytes
runs_back (packet ∷ more) s may bytes whole sound =
    step s packet more may bytes whole.0 (sound-before s (packet ∷ more) sound) (sound-before (read_packet s packet) more sound)
    (λ m b. runs_back more (read_packet s packet) m b whole.1 sound)

-- Bytes as packets.
packets-joined : (bytes : List ℕ) (n : ℕ) → joined (packets_in bytes n) ≡ part bytes 0 (mpeg_length * n)
unfolding packets_in
packets-joined bytes n = joined-pieces bytes mpeg_length n

packets-whole : (bytes : List ℕ) (n : ℕ) → AllBytes bytes → mpeg_length * n ≤ length bytes → Each Whole (packets_in bytes n)
unfolding packets_in
packets-whole bytes n all h =
    each-up_to Whole (λ k. part bytes (mpeg_length * k) mpeg_length) n
    (λ k l. (length_part bytes (mpeg_length * k) mpeg_length (omega arith), bytes-part bytes (mpeg_length * k) mpeg_length all))

begins : (count : ℕ) → At (no_backlog count) [] [] [] []
begins count = record { mid = between; frames_are = refl; place_is = omega (arith, length-joined-none) }

is_run : (bytes : List ℕ) (n : ℕ) → length bytes ≡ mpeg_length * n → RunOf [] any_count (packets_in bytes n) → IsRun bytes
is_run bytes n long r =
    let empty : r.tail ≡ [] = mid_none r.goes.middle refl in
    let stands : At (no_backlog r.count) [] [] r.tail [] = rw empty (begins r.count) in
    record {
      count = r.count;
      bursts = r.bursts;
      of_good-frames = r.good-bursts;
      gives = ap joined (r.gives (no_backlog r.count) [] stands refl) ∙ packets-joined bytes n
          ∙ ap (part bytes 0) (sym long) ∙ part_all bytes;
    }

pub read_is_run : ReadIsRun
unfolding reading
read_is_run bytes all h =
    ⊎_elim
    (λ (e : eqb (length bytes % mpeg_length) 0 ≡ true).
    let n = length bytes / mpeg_length in
    let none_over : length bytes % mpeg_length ≡ 0 = eqb-true (length bytes % mpeg_length) 0 e in
    let long : length bytes ≡ mpeg_length * n = omega arith in
    let sound : (read_from at_start (packets_in bytes n)).sound ≡ true = rw e at h in
    is_run bytes n long (runs_back (packets_in bytes n) at_start may_begin-none bytes-none (packets-whole bytes n all (omega arith)) sound))
    (λ (e : eqb (length bytes % mpeg_length) 0 ≡ false).
    let bad : false ≡ true = rw e at h in
    absurd (true≢false (sym bad)))
    (true-or-false (eqb (length bytes % mpeg_length) 0))
