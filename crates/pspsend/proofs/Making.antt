-- How the capture comes about: what one call adds to it, and what is known after some calls (`Going`, the loop's invariant, with a begin, a
-- turn and an end). Where the file is within its limits every entry so far stands in the two slices; else they are only counted.
use Prim.Native.Nat.{ℕ, suc, ◌+◌, ◌*◌, ◌≤◌}
use mathlib.Core.Path.{◌≡◌, refl, sym, ap, ◌∙◌}
use mathlib.Core.Bool.{Bool, true, false, cond}
use mathlib.Core.List.{List, [], ◌∷◌, ◌++◌, map, append-nil, append_assoc}
use native.Mathlib.Omega.{arith}
use lib.Dec.{eqb}
use lib.ListN.{length, take, replicate, length-append, length-replicate}
use borrow.Author.Tests.{eq-eqb, ne_eqb, le-leb}
use Rattle.refusal.specs.declared.Refusal.{Refusal}
use Rattle.refusal.specs.Refusal.{first}
use Rattle.refusal.specs.Number.{number_of}
use Rattle.refusal.proofs.Numbers.{number_some}
use Rattle.octets.specs.Bytes.{two, four}
use Rattle.octets.specs.Stretch.{part, put, joined}
use Rattle.octets.proofs.Stretches.{part-short, sliced_front, map-one_more}
use Rattle.octets.proofs.Stretches.{joined-cons, joined-one_more, length-joined-none, length-joined}
use Rattle.packet.specs.Header.{id_length}
use Rattle.sender.specs.declared.Position.{Position}
use Rattle.sender.specs.declared.Sent.{Sent}
use Rattle.sender.specs.Send.{greatest_limit, send_refusals, SendOutcome, sent, PermitsSend}
use Rattle.sender.specs.Series.{Job, Turn, asked_for, packet_left, series_packets}
use Rattle.sender.proofs.Keeping.{sent-length, packet-fits, sent-packet}
use Rattle.sender.proofs.Sending.{small}
use Rattle.sender.proofs.Series.{code_is}
use Rattle.sender.proofs.Alike.{alike_code, alike_answer, alike_packet}
use Rattle.capture.specs.declared.Capture.{Capture}
use Rattle.capture.specs.declared.Writer.{Writer}
use Rattle.capture.specs.File.{longest_file, most_entries, open_psp, head_length, entry_length, body_of, file_of}
use Rattle.capture.specs.Write.{added, file_length, within, write_refusals, Roomy, Countable, contents_after, bodies_after, Holds}
use Rattle.capture.proofs.Writing.{within_facts, not-refused, holds_none, holds_more, file_there, file_length_lem}
use Rattle.capture.specs.File.{opening}
use Rattle.outputs.specs.Sent.{data_of, turn_for, at_first, packets_for, entries_for, capture_refusals, first_answer}
use Rattle.outputs.specs.Sent.{make_refusal}
use Rattle.pspsend.specs.declared.series.Series.{Series}
use Rattle.pspsend.specs.Inside.{packet_room, most_bytes, Unhurried, sent_next, GoesOn, Stops, AllSent}

-- One call: what it is given, with a scratch slice that is long enough; and what it answers and leaves there.
pub record Once : Type 0 where
  pub job : Job
  pub limit : ℕ
  pub series : Series
  pub scratch : List ℕ
  pub scratch_long : packet_room ≤ length scratch
  pub answer : Sent
  pub after : List ℕ
  pub permitted : PermitsSend (asked_for job series.number series.position (record { limit = limit; output = scratch }))
      (record { answer = answer; output = after })

module _ (once : Once) where
  abbrev job : Job
  job = once.job

  abbrev limit : ℕ
  limit = once.limit

  abbrev series : Series
  series = once.series

  abbrev scratch : List ℕ
  scratch = once.scratch

  abbrev s : Sent
  s = once.answer

  abbrev after : List ℕ
  after = once.after

  abbrev p : PermitsSend (asked_for job series.number series.position (record { limit = limit; output = scratch }))
      (record { answer = s; output = after })
  p = once.permitted

  scratch_long : limit ≤ greatest_limit → limit + id_length ≤ length scratch
  scratch_long h = omega (arith, once.scratch_long)

  abbrev zeros : List ℕ
  zeros = replicate (limit + id_length) 0

  turn_long : limit ≤ greatest_limit → limit + id_length ≤ length zeros
  turn_long h = omega (arith, length-replicate {A = ℕ} (limit + id_length) 0)

  abbrev a : SendOutcome
  a = sent (asked_for job series.number series.position (record { limit = limit; output = scratch }))

  pub code_then : s.code ≡ (sent_next job limit series).answer.code
  code_then = p.its_code ∙ alike_code job series.number series.position limit scratch zeros scratch_long turn_long

  module _ (accepted : s.code ≡ 0) where
    passed : first (send_refusals (asked_for job series.number series.position (record { limit = limit; output = scratch }))) ≡ 0
    passed =
        sym (code_is (asked_for job series.number series.position (record { limit = limit; output = scratch })))
        ∙ sym p.its_code ∙ accepted

    length-fits : s.length ≤ limit + 4
    length-fits =
        omega (
          arith,
          p.its_length,
          sent-length
              (asked_for job series.number series.position (record { limit = limit; output = scratch })) passed,
        )

    limit-fits : limit ≤ 4096
    limit-fits = small (asked_for job series.number series.position (record { limit = limit; output = scratch })) passed

    pub packet-short : s.length ≤ packet_room
    packet-short = omega (arith, length-fits, limit-fits)

    pub step_countable : {w : Writer} → Unhurried w → Countable w (take s.length after)
    step_countable u =
        record {
          few-entries = omega (arith, u.few-entries);
          few_bytes = omega (arith, u.few_bytes, u.few-entries);
          body-short = omega (arith, packet-short, ap length (sliced_front after s.length), part-short after 0 s.length);
        }

    -- the front of the scratch slice is the packet
    pub packet_is : take s.length after ≡ packet_left (sent_next job limit series)
    packet_is =
        sliced_front after s.length ∙ ap (part after 0) p.its_length
        ∙ ap (λ (l : List ℕ). part l 0 a.answer.length) p.its_output
        ∙ alike_packet job series.number series.position limit scratch zeros scratch_long turn_long passed

    answer_is : (a.answer.position ≡ (sent_next job limit series).answer.position)
        × (a.answer.number ≡ (sent_next job limit series).answer.number)
    answer_is =
        let e = alike_answer job series.number series.position limit scratch zeros scratch_long turn_long passed in
        (ap (λ (x : Sent). x.position) e, ap (λ (x : Sent). x.number) e)

    module _ (packet : List ℕ) (is : packet ≡ take s.length after) where
      packet-same : packet ≡ packet_left (sent_next job limit series)
      packet-same = is ∙ packet_is

      pub step_on : (before now : Capture) → now.writer ≡ added before.writer packet →
          now.contents.now ≡ contents_after before.contents.now before.writer (data_of packet) →
          now.bodies.now ≡ bodies_after before.bodies.now before.writer (data_of packet) →
          GoesOn (sent_next job limit series) before now (record { position = s.position; number = s.number })
      step_on before now w c b =
          record {
            accepted = sym code_then ∙ accepted;
            position_next = p.its_position ∙ answer_is.0;
            number_next = p.its_number ∙ answer_is.1;
            counted = w ∙ ap (added before.writer) packet-same;
            contents_now = c ∙ ap (λ (x : List ℕ). contents_after before.contents.now before.writer (data_of x)) packet-same;
            bodies_now = b ∙ ap (λ (x : List ℕ). bodies_after before.bodies.now before.writer (data_of x)) packet-same;
          }

-- The series. The two slices have the opening entry in them when it starts.
abbrev opened : Writer
opened = record { entries = 1; bytes = id_length }

within-before : (w : Writer) (body : List ℕ) → within (added w body) ≡ true → within w ≡ true
within-before w body e =
    let f = within_facts (added w body) e in
    let few = le-leb w.entries most_entries (omega (arith, f.0)) in
    let short = le-leb (file_length w) longest_file (omega (arith, f.1)) in
    rw (few, short) refl

module _ (job : Job) (limit number : ℕ) (before : Capture) where
  abbrev turn : Turn
  turn = turn_for limit

  pub record Going (contents bodies : List ℕ) (w : Writer) (at : Position) (n turns : ℕ) : Type 0 where
    pub gone : List (List ℕ)
    pub to_come : packets_for job limit number ≡ gone ++ series_packets job n at (replicate turns turn)
    pub entries-counted : w.entries ≡ 1 + length gone
    pub bytes_counted : w.bytes ≡ id_length + length (joined gone)
    pub held : within w ≡ true → (contents₀ bodies₀ : List ℕ) → Roomy contents₀ bodies₀ →
        Holds (opening job.session ∷ []) contents₀ bodies₀ before.contents.now before.bodies.now opened →
        Holds (opening job.session ∷ map data_of gone) contents₀ bodies₀ contents bodies w
    pub turns-few : length gone + turns ≤ length job.bytes + 1
    pub few_bytes : w.bytes ≤ packet_room * w.entries

  pub unhurried : {contents bodies : List ℕ} {w : Writer} {at : Position} {n turns : ℕ} → length job.bytes ≤ most_bytes →
      Going contents bodies w at n turns → Unhurried w
  unhurried few g = record { few-entries = omega (arith, g.entries-counted, g.turns-few); few_bytes = g.few_bytes }

  pub going_begin : before.writer ≡ opened →
      Going before.contents.now before.bodies.now before.writer at_first number (length job.bytes + 1)
  unfolding packets_for
  going_begin begun =
      rw begun (record {
        gone = [];
        to_come = refl;
        entries-counted = refl;
        bytes_counted = omega (arith, length-joined-none);
        held = λ _ c₀ b₀ r h. h;
        turns-few = omega arith;
        few_bytes = omega arith;
      })

  -- a turn
  module _ {contents bodies : List ℕ} {w : Writer} {at : Position} {n k : ℕ} (g : Going contents bodies w at n (suc k)) where
    abbrev o : SendOutcome
    o = sent_next job limit (record { position = at; number = n })

    abbrev packet : List ℕ
    packet = packet_left o

    abbrev behind : List (List ℕ)
    behind = series_packets job o.answer.number o.answer.position (replicate k turn)

    next-packets : (t : Bool) → eqb o.answer.code 0 ≡ t → packets_for job limit number ≡ g.gone ++ cond t (packet ∷ behind) []
    unfolding series_packets
    next-packets t e = g.to_come ∙ ap (λ (b : Bool). g.gone ++ cond b (packet ∷ behind) []) e

    -- another packet
    module _ (accepted : o.answer.code ≡ 0) where
      z : first (send_refusals (asked_for job n at turn)) ≡ 0
      z = sym (code_is (asked_for job n at turn)) ∙ accepted

      packet-few : length packet ≤ packet_room
      packet-few =
          let fits = packet-fits (asked_for job n at turn) z in
          let few = small (asked_for job n at turn) z in
          let is = ap length (sent-packet (asked_for job n at turn) z) in
          omega (arith, fits, few, is)

      going_on : Going (contents_after contents w (data_of packet)) (bodies_after bodies w (data_of packet)) (added w packet)
          o.answer.position o.answer.number k
      going_on =
          let n = length-append g.gone (packet ∷ []) in
          let j = ap length (joined-one_more g.gone packet) ∙ length-append (joined g.gone) packet in
          record {
            gone = g.gone ++ (packet ∷ []);
            to_come = next-packets true (eq-eqb o.answer.code 0 accepted) ∙ sym (append_assoc g.gone (packet ∷ []) behind);
            entries-counted = omega (arith, g.entries-counted, n);
            bytes_counted = omega (arith, g.bytes_counted, j);
            held = held_more;
            turns-few = omega (arith, g.turns-few, n);
            few_bytes = omega (arith, g.few_bytes, packet-few);
          }
        where
          held_more : within (added w packet) ≡ true → (c₀ b₀ : List ℕ) → Roomy c₀ b₀ →
              Holds (opening job.session ∷ []) c₀ b₀ before.contents.now before.bodies.now opened →
              Holds (opening job.session ∷ map data_of (g.gone ++ (packet ∷ []))) c₀ b₀ (contents_after contents w (data_of packet))
              (bodies_after bodies w (data_of packet)) (added w packet)
          held_more e c₀ b₀ roomy h =
              let f = within_facts (added w packet) e in
              rw (map-one_more data_of g.gone packet, e)
              (holds_more (g.held (within-before w packet e) c₀ b₀ roomy h) (omega (arith, f.0, roomy.contents_long))
              (omega (arith, f.1, roomy.bodies_long)) (data_of packet) _ _ refl refl)

    -- none
    none_more : (why : Refusal) → number_of why ≡ o.answer.code → packets_for job limit number ≡ g.gone
    none_more why refused =
        next-packets false (ne_eqb o.answer.code 0 (λ none. number_some why (refused ∙ none))) ∙ append-nil g.gone

  pub going_next : {from to : Capture} {s next : Series} {turns k : ℕ} →
      Going from.contents.now from.bodies.now from.writer s.position s.number turns → turns ≡ suc k →
      GoesOn (sent_next job limit s) from to next →
      Going to.contents.now to.bodies.now to.writer next.position next.number k
  going_next {from} {to} {s} {next} {turns} {k} g one on =
      let h = rw one at g in
      rw (on.counted, on.contents_now, on.bodies_now, on.position_next, on.number_next) (going_on h on.accepted)

  -- the end: no more packets come, and what the series wrote stands there
  going_end : {contents bodies : List ℕ} {w : Writer} {at : Position} {n turns : ℕ} (g : Going contents bodies w at n turns) →
      packets_for job limit number ≡ g.gone → first_answer job limit number ≡ 0 → length job.bytes ≤ most_bytes →
      (now : Capture) → now.writer ≡ w → now.contents.now ≡ contents → now.bodies.now ≡ bodies → AllSent job limit number before now
  going_end g all first_accepted few now same-writer same_contents same_bodies =
      record {
        first_accepted = first_accepted;
        entries-counted = rw (same-writer, all) g.entries-counted;
        bytes_counted = rw (same-writer, all) g.bytes_counted;
        held = rw (same-writer, same_contents, same_bodies, all) g.held;
        unhurried = rw same-writer (unhurried few g);
      }

  module _ (first_accepted : first_answer job limit number ≡ 0) (few : length job.bytes ≤ most_bytes) where
    -- a call was refused
    pub end-refused : {from to : Capture} {s : Series} {why : Refusal} {turns k : ℕ} →
        Going from.contents.now from.bodies.now from.writer s.position s.number turns → turns ≡ suc k →
        Stops (sent_next job limit s) from to why → AllSent job limit number before to
    end-refused {from} {to} {s} {why} {turns} {k} g one stops =
        let h = rw one at g in
        going_end h (none_more h why stops.refused) first_accepted few to stops.counted stops.contents_now stops.bodies_now

    -- .. or there were as many as there are bytes, and one more
    pub end_turns : {now : Capture} {at : Position} {n turns : ℕ} → Going now.contents.now now.bodies.now now.writer at n turns →
        turns ≡ 0 → AllSent job limit number before now
    unfolding series_packets
    end_turns {now} {at} {n} {turns} g none =
        let h = rw none at g in
        going_end h (h.to_come ∙ append-nil h.gone) first_accepted few now refl refl refl

-- The capture that is made.
bodies-joined : (l : List (List ℕ)) → joined (map body_of (map data_of l)) ≡ joined l
bodies-joined [] = refl
bodies-joined (x ∷ l) =
    joined-cons x (map body_of (map data_of l)) ∙ ap (λ (r : List ℕ). x ++ r) (bodies-joined l) ∙ sym (joined-cons x l)

-- the first call is refused
pub make_first : (job : Job) (limit number code : ℕ) → code ≡ first_answer job limit number → (code ≡ 0 → ⊥) →
    code ≡ make_refusal job limit number
unfolding make_refusal
make_first job limit number code is some =
    is ∙ sym (ap (λ (t : Bool). cond t (first (capture_refusals (entries_for job limit number))) (first_answer job limit number))
    (ne_eqb (first_answer job limit number) 0 (λ z. some (is ∙ z))))

module _ (job : Job) (limit number : ℕ) (before now : Capture) (all : AllSent job limit number before now) where
  length-map : (l : List (List ℕ)) → length (map data_of l) ≡ length l
  length-map [] = refl
  length-map (x ∷ l) = ap suc (length-map l)

  -- the counts are those of the file
  file_counted : (file_length now.writer ≡ length (file_of (entries_for job limit number)))
      × (now.writer.entries ≡ length (entries_for job limit number))
  unfolding entries_for
  file_counted =
      let ps = packets_for job limit number in
      let f = file_length_lem (entries_for job limit number) in
      let n = length-map ps in
      let b = ap length (bodies-joined ps) in
      let whole = length-joined (four job.session) (map body_of (map data_of ps)) in
      (omega (arith, all.entries-counted, all.bytes_counted), omega (arith, all.entries-counted))

  refusals_are : first (write_refusals now.writer) ≡ first (capture_refusals (entries_for job limit number))
  refusals_are = rw (file_counted.0, file_counted.1) refl

  by_capture : make_refusal job limit number ≡ first (capture_refusals (entries_for job limit number))
  unfolding make_refusal
  by_capture =
      ap (λ (t : Bool). cond t (first (capture_refusals (entries_for job limit number))) (first_answer job limit number))
      (eq-eqb (first_answer job limit number) 0 all.first_accepted)

  pub make_judged : (code : ℕ) → code ≡ first (write_refusals now.writer) → code ≡ make_refusal job limit number
  make_judged code e = e ∙ refusals_are ∙ sym by_capture

  -- the file
  pub make_file : first (write_refusals now.writer) ≡ 0 → (contents₀ bodies₀ : List ℕ) → Roomy contents₀ bodies₀ →
      Holds (opening job.session ∷ []) contents₀ bodies₀ before.contents.now before.bodies.now opened →
      (contents' : List ℕ) → contents' ≡ put now.contents.now 0 (two now.writer.entries) →
      part contents' 0 (head_length + entry_length * now.writer.entries) ++ part now.bodies.now 0 now.writer.bytes
      ≡ file_of (entries_for job limit number)
  unfolding entries_for
  make_file z contents₀ bodies₀ roomy h contents' e =
      let w = not-refused now.writer z in
      let f = within_facts now.writer w in
      file_there (all.held w contents₀ bodies₀ roomy h) (omega (arith, f.0, roomy.contents_long))
      (omega (arith, f.1, roomy.bodies_long)) contents' e

  pub make_short : first (write_refusals now.writer) ≡ 0 → (now.writer.entries ≤ most_entries) × (now.writer.bytes ≤ longest_file)
  make_short z = let f = within_facts now.writer (not-refused now.writer z) in (f.0, omega (arith, f.1))

-- The opening entry.
module _ (session : ℕ) (contents bodies : List ℕ) (roomy : Roomy contents bodies) (id : List ℕ) (its_id : id ≡ four session)
    (w : Writer) (begun : w ≡ record { entries = 0; bytes = 0 }) where
  module _ (r : Writer) (counted : r ≡ added w id) where
    pub open_counted : r ≡ opened
    open_counted = counted ∙ rw (begun, its_id) refl

    pub open_holds : (contents' bodies' : List ℕ) → contents' ≡ contents_after contents w (record { kind = open_psp; body = id }) →
        bodies' ≡ bodies_after bodies w (record { kind = open_psp; body = id }) →
        Holds (opening session ∷ []) contents bodies contents' bodies' opened
    open_holds contents' bodies' c b =
        holds_more (holds_none contents bodies) (omega (arith, roomy.contents_long)) (omega arith) (opening session) contents' bodies'
        (rw (begun, its_id) at c) (rw (begun, its_id) at b)
