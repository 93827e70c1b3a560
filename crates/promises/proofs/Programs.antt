-- What the programs give each other. The packets that `pspmpeg` writes of frames are those of a run of the writer at whose end nothing
-- waits, so all frames come back (`stream_comes_back`). And the capture that `pspsend` makes, run from an empty card, is the opening of the
-- session and its packets in order, so it delivers the frames that were sent (`round_trip`), which are those of the file
-- (`programs_in_a_row`).
use Prim.Native.Nat.{ℕ, zero, suc, ◌+◌, ◌<◌, ◌≤◌}
use mathlib.Core.Path.{◌≡◌, refl, sym, ap, subst, ◌∙◌}
use mathlib.Core.Bool.{Bool, true, false}
use mathlib.Core.List.{List, [], ◌∷◌, ◌++◌, map, append-nil}
use native.Mathlib.Omega.{arith}
use lib.Dec.{eqb, ltb}
use lib.ListN.{length, replicate, length-replicate}
use borrow.Author.Tests.{ltb-false, lt-ltb}
use Rattle.refusal.proofs.Laws.{and-rest}
use Rattle.octets.specs.Count.{any, least}
use Rattle.octets.specs.Each.{Each}
use Rattle.octets.specs.Stretch.{joined, lengths_of, cut_by}
use Rattle.octets.specs.Tests.{none}
use Rattle.octets.proofs.Counts.{or-false-left, or-false-right}
use Rattle.octets.proofs.Elements.{each_too, each-replicate, length_none}
use Rattle.octets.proofs.Numbers.{four_reads_back}
use Rattle.octets.proofs.Stretches.{length_rest, rest-none, joined-none, joined-empty, length-lengths_of, cut-joined}
use Rattle.octets.proofs.Tests.{none-empty, some-length}
use Rattle.flow.specs.Numbers.{modulus}
use Rattle.flow.specs.Flow.{fresh, flows, top_flow}
use Rattle.frames.specs.Frames.{frames_file, left_behind}
use Rattle.frames.proofs.Laws.{pack_unpack}
use Rattle.packet.specs.Header.{Packet, ip}
use Rattle.packet.specs.Check.{kind_psp, check}
use Rattle.table.specs.declared.Kind.TheVariants as kind
use Rattle.table.specs.declared.Request.{Request}
use Rattle.table.specs.Rows.{empty}
use Rattle.table.specs.Broken.{broken}
use Rattle.table.specs.Calls.{asking}
use Rattle.table.proofs.Keeping.{opened-code}
use Rattle.join.specs.Slices as slices
use Rattle.card.specs.Receive.{holding_size}
use Rattle.card.specs.History.{Card, opens, answer, after, after_all, empty_card}
use Rattle.sender.specs.Send.{most_frames, bad_frames}
use Rattle.sender.specs.Series.{Job, start_of_frame, series_packets, go_out}
use Rattle.sender.specs.Rules.{Addressed}
use Rattle.mpeg.specs.Frame.{Good}
use Rattle.mpeg.specs.Write.{carried}
use Rattle.mpeg.specs.Run.{Backlog, no_backlog, Burst, added, waiting_in, left_in, packet_next, after_next, run_packets, run_end}
use Rattle.mpeg.specs.Run.{GoodBursts}
use Rattle.mpeg.specs.Run.{all_frames}
use Rattle.mpeg.proofs.Frames.{good-some}
use Rattle.mpeg.proofs.RunsRead.{some-carried, runs_are_read, all_come_back}
use Rattle.capture.specs.File.{opening as opening-entry, file_refusal}
use Rattle.replay.specs.Run.{Running, run_one, begin}
use Rattle.outputs.specs.Sent.{most, frames_in, spoilt, packets_for, entries_for, make_refusal}
use Rattle.outputs.specs.Stream.{delivered, drain, packets_of, all_good, stream_by, stream}
use Rattle.outputs.specs.Back.{got_back}
use Rattle.outputs.proofs.Complete.{turns_for, sound, all_usable, enough, made_reads}
use Rattle.promises.specs.Words.{frames_out}
use Rattle.promises.specs.RoundTrip.{Given, frames_given, packets_given, line_of, InOrder}
use Rattle.promises.specs.Programs.{StreamComesBack, job_for, capture_for, ProgramsInARow}
use Rattle.promises.proofs.Alone.{terms_for}
use Rattle.promises.proofs.Good.{Good as CardGood, good-empty, good-after}
use Rattle.promises.proofs.Standing.{Stands, stands-opened}
use Rattle.promises.proofs.RoundTrip.{sender_keeps_rules, round_trip}
use Rattle.promises.proofs.Entries.{all_deliver, delivered_is, calls_for, Its, Ready, frames_out_lem, packets_are, all_room, stays_open}

-- A step of the writer carries a byte at least where any wait, so fewer wait behind it.
fewer_wait : (q : Backlog) (n : ℕ) → 0 < length (waiting_in q) → length (waiting_in q) ≤ suc n → length (waiting_in (after_next q)) ≤ n
unfolding after_next
fewer_wait q n some few =
    omega (
      arith,
      some-carried (left_in q) (waiting_in q) some,
      length_rest (joined q.frames) q.place,
      length_rest (joined q.frames) (q.place + carried (left_in q) (waiting_in q)),
    )

-- nothing is added
same-added : (q : Backlog) → added q [] ≡ q
same-added q = ap (λ (frames : List (List ℕ)). record { frames = frames; place = q.place; count = q.count }) (append-nil q.frames)

-- What is drained is a run of so many calls, before which nothing is added and behind which nothing waits.
record Drained (n : ℕ) (q : Backlog) : Type 0 where
  calls : ℕ
  packets_are : drain n q ≡ run_packets q (replicate calls [])
  none_waits : waiting_in (run_end q (replicate calls [])) ≡ []

drains : (n : ℕ) (q : Backlog) → length (waiting_in q) ≤ n → Drained n q
unfolding drain run_packets run_end
drains zero q few = record { calls = 0; packets_are = refl; none_waits = length_none (waiting_in q) (omega arith) }
drains (suc n) q few = by (none (waiting_in q)) refl (drains n (after_next q))
  where
    by : (t : Bool) → none (waiting_in q) ≡ t → (length (waiting_in (after_next q)) ≤ n → Drained n (after_next q)) → Drained (suc n) q
    by true e goes_on = record { calls = 0; packets_are = rw e refl; none_waits = none-empty (waiting_in q) e }
    by false e goes_on =
        let more = goes_on (fewer_wait q n (some-length (waiting_in q) e) few) in
        record {
          calls = suc more.calls;
          packets_are =
              rw e (ap (λ (l : List (List ℕ)). packet_next q ∷ l) more.packets_are)
              ∙ ap (λ (p : Backlog). packet_next p ∷ run_packets (after_next p) (replicate more.calls [])) (sym (same-added q));
          none_waits =
              ap (λ (p : Backlog). waiting_in (run_end (after_next p) (replicate more.calls []))) (same-added q) ∙ more.none_waits;
        }

-- Of frames that all wait it is a run with all of them added before the first call.
abbrev queue : List (List ℕ) → Backlog
queue frames = record { frames = frames; place = 0; count = 0 }

record Ran (frames : List (List ℕ)) : Type 0 where
  bursts : List Burst
  packets_are : packets_of frames ≡ run_packets (no_backlog 0) bursts
  all_added : all_frames bursts ≡ frames
  all_good_lem : GoodBursts bursts
  none_waits : waiting_in (run_end (no_backlog 0) bursts) ≡ []

none-added : (n : ℕ) → all_frames (replicate n []) ≡ []
unfolding all_frames
none-added zero = refl
none-added (suc n) = none-added n

runs : (frames : List (List ℕ)) → Each Good frames → Ran frames
unfolding run_packets run_end all_frames
runs frames goods = by d.calls d.packets_are d.none_waits
  where
    d : Drained (length (joined frames)) (queue frames)
    d = drains (length (joined frames)) (queue frames) (omega (arith, length_rest (joined frames) 0))

    by : (n : ℕ) → packets_of frames ≡ run_packets (queue frames) (replicate n []) →
        waiting_in (run_end (queue frames) (replicate n [])) ≡ [] → Ran frames
    by zero e w =
        let some = each_too Good (λ f. 1 ≤ length f) frames (λ f g. omega (arith, good-some f g.0)) goods in
        let no_frame : frames ≡ [] = joined-empty frames some (sym (rest-none (joined frames)) ∙ w) in
        record {
          bursts = [];
          packets_are = e;
          all_added = sym no_frame;
          all_good_lem = tt;
          none_waits = rest-none (joined []) ∙ joined-none;
        }
    by (suc n) e w =
        record {
          bursts = frames ∷ replicate n [];
          packets_are =
              e ∙ ap (λ (p : Backlog). packet_next p ∷ run_packets (after_next p) (replicate n [])) (same-added (queue frames));
          all_added = ap (λ (l : List (List ℕ)). frames ++ l) (none-added n) ∙ append-nil frames;
          all_good_lem = (goods, each-replicate (Each Good) n [] tt);
          none_waits = sym (ap (λ (p : Backlog). waiting_in (run_end (after_next p) (replicate n []))) (same-added (queue frames))) ∙ w;
        }

-- So the frames come back.
comes_back : (frames : List (List ℕ)) → Each Good frames → got_back (joined (packets_of frames)) ≡ frames_file frames
unfolding got_back
comes_back frames goods =
    let r = runs frames goods in
    let taken = (runs_are_read 0 r.bursts r.all_good_lem).taken in
    let all = all_come_back 0 r.bursts r.all_good_lem r.none_waits in
    rw (r.packets_are, taken, all, r.all_added) refl

all_pass : (frames : List (List ℕ)) → Each Good frames → all_good frames ≡ true
unfolding all_good
all_pass [] g = refl
all_pass (f ∷ frames) g = rw (g.0.0, all_pass frames g.1) refl

stream_is : (session : ℕ) (capture : List ℕ) → file_refusal capture ≡ 0 → Each Good (delivered session capture) →
    stream session capture ≡ joined (packets_of (delivered session capture))
unfolding stream stream_by
stream_is session capture z goods = rw (z, all_pass (delivered session capture) goods) refl

pub stream_comes_back : StreamComesBack
stream_comes_back session capture z goods =
    ap got_back (stream_is session capture z goods) ∙ comes_back (delivered session capture) goods

-- The capture that `pspsend` makes of a job that is not refused.
module _ (job : Job) (limit number : ℕ) (four_bytes : job.session < 4294967296) (two_bytes : number < modulus)
    (made : make_refusal job limit number ≡ 0) where
  abbrev given : Given
  given =
      record {
        job = job;
        number = number;
        turns = turns_for job limit;
        ways = [];
        sound = sound job limit number made four_bytes;
        two_bytes = two_bytes;
        usable = all_usable job limit number made;
        enough = enough job limit number made;
      }

  abbrev packets : List (List ℕ)
  packets = packets_for job limit number

  -- Its packets go over IP, pass the check and are for the flow.
  over_ip : (ps : List (List ℕ)) → go_out [] ps ≡ map ip ps
  unfolding go_out
  over_ip [] = refl
  over_ip (p ∷ ps) = ap (λ (l : List Packet). ip p ∷ l) (over_ip ps)

  given_are : packets_given given ≡ map ip packets
  unfolding packets_for
  given_are = over_ip (series_packets job number (start_of_frame 0) (turns_for job limit))

  all_its : (ps : List (List ℕ)) → Each (λ p. check kind_psp p ≡ 0) (map ip ps) → Each (Addressed (line_of given)) (map ip ps) →
      Each (Its job.session job.flow) ps
  all_its [] passing addressed = tt
  all_its (p ∷ ps) passing addressed =
      (record { passes = passing.0; of_session_lem = addressed.0.0; of_flow_lem = addressed.0.1 }, all_its ps passing.1 addressed.1)

  are_its : Each (Its job.session job.flow) packets
  are_its =
      let rules = (sender_keeps_rules.are_sent given).by_the_rules in
      all_its packets (subst (Each (λ p. check kind_psp p ≡ 0)) given_are rules.passing)
      (subst (Each (Addressed (line_of given))) given_are rules.addressed)

  -- The card is empty before the session is opened, which is not refused then.
  abbrev holding : List ℕ
  holding = replicate holding_size 0

  abbrev asked : Request
  asked = asking kind.Psp job.session

  not_zero : eqb job.session 0 ≡ false
  not_zero = or-false-left (eqb job.session 0) (ltb top_flow job.flow) given.sound.addressed

  inside : job.flow < flows
  inside =
      let few = or-false-right (eqb job.session 0) (ltb top_flow job.flow) given.sound.addressed in
      omega (arith, ltb-false top_flow job.flow few)

  opens_now : (answer (empty_card holding) (opens asked)).code ≡ 0
  unfolding answer broken least any
  opens_now = opened-code empty asked ∙ rw not_zero refl

  -- The first entry opens it.
  abbrev start : Running
  start = run_one begin (opening-entry job.session)

  start-card : start.card ≡ after (empty_card holding) (opens asked)
  unfolding run_one begin
  start-card =
      ap (λ (id : ℕ). after (empty_card holding) (opens (asking kind.Psp id))) (four_reads_back job.session four_bytes)

  start-room : (slices.most_bytes ≤ length start.output) × (slices.most_frames ≤ length start.lengths)
  unfolding run_one begin
  start-room = (omega (arith, length-replicate {A = ℕ} slices.most_bytes 0), omega (arith, length-replicate {A = ℕ} slices.most_frames 0))

  ready : Ready job.session job.flow start
  ready =
      let empty-good = good-empty holding in
      record {
        good = subst CardGood (sym start-card) (good-after (empty_card holding) (opens asked) empty-good);
        its_record = fresh;
        held = [];
        stands =
            subst (λ (c : Card). Stands c job.session job.flow (terms_for kind.Psp) fresh []) (sym start-card)
            (stands-opened (empty_card holding) asked job.flow empty-good inside opens_now);
        room = start-room;
      }

  -- .. and the others hand in its packets, in order, so that the frames come out.
  in_order : InOrder given
  unfolding after_all
  in_order =
      record {
        holding = holding;
        before = [];
        calls = calls_for start packets;
        opens_now = opens_now;
        stays_open = stays_open job.session job.flow packets start;
        long_enough = (
          omega (arith, length-replicate {A = ℕ} holding_size 0),
          all_room job.session job.flow inside packets start ready are_its,
        );
        all_arrive = packets_are job.session job.flow packets start are_its ∙ sym given_are;
      }

  capture_delivers : delivered job.session (capture_for job limit number) ≡ frames_given given
  unfolding entries_for after_all in_order
  capture_delivers =
      delivered_is job.session (capture_for job limit number)
      ∙ ap (all_deliver job.session begin) (made_reads job limit number made).1
      ∙ frames_out_lem job.session job.flow inside packets start ready are_its
      ∙ ap (λ (c : Card). frames_out kind.Psp job.session job.flow c (calls_for start packets)) start-card
      ∙ round_trip.in_order given in_order

-- A frames file that is not spoilt, and not refused, has nothing behind its frames.
none_left : (file : List ℕ) → spoilt file ≡ false → bad_frames (length (joined (frames_in file))) (lengths_of (frames_in file)) ≡ false →
    left_behind most file ≡ []
none_left file whole fine =
    let lengths = lengths_of (frames_in file) in
    let many = or-false-left (ltb most_frames (length lengths)) _ (or-false-left _ _ fine) in
    let few : length (frames_in file) < most =
    omega (arith, ltb-false most_frames (length lengths) many, length-lengths_of (frames_in file)) in
    let none-behind = and-rest (ltb (length (frames_in file)) most) (ltb 0 (length (left_behind most file))) whole (lt-ltb _ most few) in
    length_none (left_behind most file) (omega (arith, ltb-false 0 (length (left_behind most file)) none-behind))

pub programs_in_a_row : ProgramsInARow
programs_in_a_row session flow limit number file four_bytes two_bytes bytes whole goods made =
    let job = job_for session flow file in
    let frames = frames_in file in
    let cut : cut_by (lengths_of frames) (joined frames) ≡ frames =
    ap (cut_by (lengths_of frames)) (sym (append-nil (joined frames))) ∙ cut-joined frames [] in
    let same : delivered session (capture_for job limit number) ≡ frames =
    capture_delivers job limit number four_bytes two_bytes made ∙ cut in
    let left = none_left file whole (sound job limit number made four_bytes).frames-sound in
    stream_comes_back session (capture_for job limit number) (made_reads job limit number made).0 (subst (Each Good) (sym same) goods)
    ∙ ap frames_file same
    ∙ pack_unpack most file bytes left
