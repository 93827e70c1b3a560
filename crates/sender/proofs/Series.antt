-- Calls one after another, each from where the one before ended. Whatever limits and outputs they are given, as long as 32 and 36 refuse
-- none, their packets keep the rules that demand 3 supposes of any sender; and with as many calls as there are bytes to send the series
-- has come to the end of the frames, with each byte sent once.
use Prim.Native.Nat.{ℕ, zero, suc, ◌+◌, ◌-◌, ◌<◌, ◌≤◌}
use mathlib.Core.Path.{◌≡◌, refl, sym, ap, ◌∙◌}
use mathlib.Core.Bool.{Bool, true, false, cond, not, ◌&&◌, ◌||◌}
use mathlib.Core.Logic.{◌⊎◌, inl, inr, ⊎_elim}
use mathlib.Core.List.{List, [], ◌∷◌, map}
use native.Mathlib.Omega.{arith}
use native.Mathlib.Numerals.{add-one}
use native.Mathlib.Nat.{not-suc-le-zero, le_of_suc-le-suc}
use lib.Dec.{eqb, ltb}
use lib.ListN.{length, length-map}
use borrow.Author.Tests.{eqb-true, eqb-false, eq-eqb, ltb-true, ltb-false, le-ltb, lt-ltb}
use Rattle.refusal.specs.Refusal.{first}
use Rattle.octets.specs.Stretch.{part, joined, cut_by}
use Rattle.octets.specs.Count.{sum_to}
use Rattle.octets.proofs.Stretches.{part_none, joined-empty}
use Rattle.octets.proofs.Counts.{sum-within}
use Rattle.flow.specs.Numbers.{number_at}
use Rattle.flow.proofs.Numbers.{next_below, number_at-first, number_at-from-next}
use Rattle.packet.specs.Header.{ip, id_length, sub, s_set, number as number_in}
use Rattle.packet.specs.Segments.{entry_width}
use Rattle.packet.specs.Check.{kind_psp, check}
use Rattle.sender.specs.declared.Position.{Position}
use Rattle.sender.specs.Cut.{frame_length, frame_start, index_of}
use Rattle.sender.specs.Packet.{body_of}
use Rattle.sender.specs.Send.{Asked, outside, send_refusals, written, refused, sent_by, sent}
use Rattle.sender.specs.Carried.{Carried}
use Rattle.sender.specs.Series.{Job, Turn, Sound, Usable, start_of_frame, asked_for, packet_left, series_packets, series_end}
use Rattle.octets.specs.Each.{Each}
use Rattle.sender.specs.Rules.{Pieces, Line, Addressed, segments_of, all_segments, packet_at, KeepsRules}
use Rattle.sender.proofs.Positions.{Framed, framed, Inside, place-within, carried-append, carried-place, carried-bytes}
use Rattle.sender.proofs.Pieces.{Apart, carried_apart, frames_from, all_frames}
use Rattle.sender.proofs.Keeping.{Typed, sent-number, sent-inside, sent_farther, sent_passes, sent-counts, sent-addressed}
use Rattle.sender.proofs.Keeping.{sent-numbered, sent-carries}

never : (n : ℕ) → n < n → ⊥
never n h = omega arith

-- a position in the frames is not refused by 34
pub not-outside : (lengths : List ℕ) (at : Position) → Inside lengths at → outside lengths at ≡ false
not-outside lengths at i =
    by (ltb at.frame (length lengths)) (ltb at.offset (frame_length lengths at.frame)) (eqb at.frame (length lengths))
    (eqb at.offset 0)
    (λ e. lt-ltb at.offset (frame_length lengths at.frame) (i.in_frame (ltb-true at.frame (length lengths) e)))
    (λ e. eq-eqb at.offset 0 (i.at_end (eqb-true at.frame (length lengths) e)))
  where
    by : (there below last none : Bool) → (there ≡ true → below ≡ true) → (last ≡ true → none ≡ true) →
        (ltb (length lengths) at.frame || (there && not below) || (last && not none)) ≡ false
    by true below true none p q = rw (le-ltb (length lengths) at.frame i.among, p refl, q refl) refl
    by true below false none p q = rw (le-ltb (length lengths) at.frame i.among, p refl) refl
    by false below true none p q = rw (le-ltb (length lengths) at.frame i.among, q refl) refl
    by false below false none p q = rw (le-ltb (length lengths) at.frame i.among) refl

-- what a call answers is the first refusal, or 0
code_by : (a : Asked) (c : ℕ) → (sent_by c a).answer.code ≡ c
unfolding sent_by written refused
code_by a zero = refl
code_by a (suc c) = refl

pub code_is : (a : Asked) → (sent a).answer.code ≡ first (send_refusals a)
unfolding sent
code_is a = code_by a (first (send_refusals a))

-- where a job's packets go, when the first has this number
abbrev pub line : Job → ℕ → Line
line job number = record { session = job.session; flow = job.flow; start = number }

-- what is known of the packets of a series, and of where it ends
pub record Kept (job : Job) (number : ℕ) (at : Position) (packets : List (List ℕ)) (end : Position) (turns : ℕ) : Type 0 where
  pub passing : Each (λ p. check kind_psp p ≡ 0) (map ip packets)
  pub has_numbers : Each (λ p. s_set (sub p) ≡ true) (map ip packets)
  pub addressed : Each (Addressed (line job number)) (map ip packets)
  pub numbered : (i : ℕ) → i < length packets → number_in (sub (packet_at (map ip packets) i)) ≡ number_at number i
  pub carried : Carried job.bytes job.lengths at (all_segments entry_width (map ip packets)) end
  pub farther : index_of job.lengths at + length packets ≤ index_of job.lengths end
  pub ends-inside : Inside job.lengths end
  pub done : (end.frame ≡ length job.lengths) ⊎ (length packets ≡ turns)

module _ (job : Job) (sound : Sound job) where
  inside-start : (i : ℕ) → i ≤ length job.lengths → Inside job.lengths (start_of_frame i)
  inside-start i l =
      record {
        among = l;
        in_frame = λ m. (framed (length job.bytes) job.lengths sound.frames-sound).some_bytes i m;
        at_end = λ _. refl;
      }

  -- nothing is sent
  kept-none : (number : ℕ) (at : Position) (turns : ℕ) → Inside job.lengths at → (at.frame ≡ length job.lengths) ⊎ (0 ≡ turns) →
      Kept job number at [] at turns
  unfolding all_segments
  kept-none number at turns i d =
      record {
        passing = tt;
        has_numbers = tt;
        addressed = tt;
        numbered = λ k l. absurd (not-suc-le-zero l);
        carried = refl;
        farther = omega arith;
        ends-inside = i;
        done = d;
      }

  module _ (number : ℕ) (at : Position) (turn : Turn) (two_bytes : number < 65536) (i : Inside job.lengths at) (u : Usable turn) where
    abbrev asked : Asked
    asked = asked_for job number at turn

    -- nothing but the end refuses a call
    pub only_end : first (send_refusals asked) ≡ cond (eqb at.frame (length job.lengths)) 35 0
    only_end =
        rw (
          sound.addressed,
          u.limited,
          sound.frames-sound,
          not-outside job.lengths at i,
          le-ltb (length turn.output) (turn.limit + id_length) u.output_long,
        ) refl

    abbrev typed : Typed asked
    typed = record { four_bytes = sound.four_bytes; two_bytes = two_bytes }

    -- one more packet, and the others behind it
    kept_more : first (send_refusals asked) ≡ 0 → (packets : List (List ℕ)) (end : Position) (turns : ℕ) →
        Kept job (sent asked).answer.number (sent asked).answer.position packets end turns →
        Kept job number at (packet_left (sent asked) ∷ packets) end (suc turns)
    unfolding all_segments
    kept_more z packets end turns k =
        record {
          passing = (sent_passes asked z typed, k.passing);
          has_numbers = (sent-counts asked z typed, k.has_numbers);
          addressed = (sent-addressed asked z typed, k.addressed);
          numbered = counts;
          carried =
              carried-append job.bytes job.lengths at (sent asked).answer.position end
              (segments_of entry_width (ip (packet_left (sent asked)))) (all_segments entry_width (map ip packets))
              (sent-carries asked z typed) k.carried;
          farther = omega (arith, k.farther, sent_farther asked z);
          ends-inside = k.ends-inside;
          done = ⊎_elim (λ e. inl e) (λ e. inr (ap suc e)) k.done;
        }
      where
        counts : (j : ℕ) → j < suc (length packets) →
            number_in (sub (packet_at (map ip (packet_left (sent asked) ∷ packets)) j)) ≡ number_at number j
        counts zero l = sent-numbered asked z typed ∙ sym (number_at-first number two_bytes)
        counts (suc j) l =
            k.numbered j (le_of_suc-le-suc l) ∙ ap (λ (n : ℕ). number_at n j) (sent-number asked z) ∙ number_at-from-next number j
            ∙ ap (number_at number) (add-one j)

    kept_step : (packets : List (List ℕ)) (end : Position) (turns : ℕ) →
        (first (send_refusals asked) ≡ 0 → Kept job (sent asked).answer.number (sent asked).answer.position packets end turns) →
        (t : Bool) → eqb (sent asked).answer.code 0 ≡ t →
        Kept job number at (cond t (packet_left (sent asked) ∷ packets) []) (cond t end at) (suc turns)
    kept_step packets end turns others true e =
        let z = sym (code_is asked) ∙ eqb-true (sent asked).answer.code 0 e in
        kept_more z packets end turns (others z)
    kept_step packets end turns others false e =
        kept-none number at (suc turns) i (inl (at_end (eqb at.frame (length job.lengths)) refl))
      where
        at_end : (t : Bool) → eqb at.frame (length job.lengths) ≡ t → at.frame ≡ length job.lengths
        at_end true q = eqb-true at.frame (length job.lengths) q
        at_end false q = absurd (eqb-false (sent asked).answer.code 0 e (code_is asked ∙ only_end ∙ ap (λ (t : Bool). cond t 35 0) q))

  -- The whole series.
  pub series_kept : (turns : List Turn) (number : ℕ) (at : Position) → number < 65536 → Inside job.lengths at → Each Usable turns →
      Kept job number at (series_packets job number at turns) (series_end job number at turns) (length turns)
  unfolding series_packets series_end
  series_kept [] number at b i us = kept-none number at 0 i (inr refl)
  series_kept (turn ∷ more) number at b i us =
      let a = asked_for job number at turn in
      let o = sent a in
      kept_step number at turn b i us.0 (series_packets job o.answer.number o.answer.position more)
      (series_end job o.answer.number o.answer.position more) (length more)
      (λ z. series_kept more o.answer.number o.answer.position (rw (sent-number a z) (next_below number)) (sent-inside a z) us.1)
      (eqb o.answer.code 0) refl

  -- It keeps the rules, from the start of any frame: the frames that it finished, and the one that it has begun.
  pub record Obeys (number i : ℕ) (turns : List Turn) : Type 0 where
    pub apart : Apart job.bytes job.lengths i (all_segments entry_width (map ip (series_packets job number (start_of_frame i) turns)))
        (series_end job number (start_of_frame i) turns)
    pub keeps : KeepsRules (line job number) apart.frames apart.begun (map ip (series_packets job number (start_of_frame i) turns))
    pub has_numbers : Each (λ p. s_set (sub p) ≡ true) (map ip (series_packets job number (start_of_frame i) turns))

  pub sender_keeps_rules : (turns : List Turn) (number i : ℕ) → number < 65536 → i ≤ length job.lengths → Each Usable turns →
      Obeys number i turns
  sender_keeps_rules turns number i b l us =
      let k = series_kept turns number (start_of_frame i) b (inside-start i l) us in
      let a =
      carried_apart job.bytes job.lengths (framed (length job.bytes) job.lengths sound.frames-sound) i
      (series_end job number (start_of_frame i) turns)
      (all_segments entry_width (map ip (series_packets job number (start_of_frame i) turns))) k.carried in
      record {
        apart = a;
        keeps =
            record {
              sizes = a.sizes;
              passing = k.passing;
              addressed = k.addressed;
              numbered = λ j m. k.numbered j (rw (length-map (series_packets job number (start_of_frame i) turns) ip) at m);
              in_order = a.in_order;
            };
        has_numbers = k.has_numbers;
      }

  -- With as many calls as there are bytes left the series is at the end of the frames.
  module _ (turns : List Turn) (number i : ℕ) (two_bytes : number < 65536) (l : i ≤ length job.lengths) (us : Each Usable turns) where
    abbrev frames : Framed (length job.bytes) job.lengths
    frames = framed (length job.bytes) job.lengths sound.frames-sound

    abbrev packets : List (List ℕ)
    packets = series_packets job number (start_of_frame i) turns

    abbrev end : Position
    end = series_end job number (start_of_frame i) turns

    kept : Kept job number (start_of_frame i) packets end (length turns)
    kept = series_kept turns number (start_of_frame i) two_bytes (inside-start i l) us

    -- every call sends at least one byte
    pub calls-few : index_of job.lengths (start_of_frame i) + length packets ≤ length job.bytes
    calls-few = omega (arith, kept.farther, place-within frames end kept.ends-inside)

    module _ (enough : length job.bytes ≤ index_of job.lengths (start_of_frame i) + length turns) where
      at_last : end.frame ≡ length job.lengths
      unfolding frame_start
      at_last = ⊎_elim (λ e. e) (λ (e : length packets ≡ length turns). by e (ltb end.frame (length job.lengths)) refl) kept.done
        where
          by : length packets ≡ length turns → (t : Bool) → ltb end.frame (length job.lengths) ≡ t →
              end.frame ≡ length job.lengths
          by e true q =
              let m = ltb-true end.frame (length job.lengths) q in
              absurd (never (length job.bytes)
              (omega (
                arith,
                kept.farther,
                kept.ends-inside.in_frame m,
                sum-within (frame_length job.lengths) end.frame (length job.lengths) m,
                frames.all,
              )))
          by e false q = omega (arith, kept.ends-inside.among, ltb-false end.frame (length job.lengths) q)

      pub series_ends : end ≡ start_of_frame (length job.lengths)
      series_ends = same end at_last (kept.ends-inside.at_end at_last)
        where
          same : (p : Position) → p.frame ≡ length job.lengths → p.offset ≡ 0 → p ≡ start_of_frame (length job.lengths)
          same p f o = rw (f, o) refl

      -- nothing is left to send
      pub then_35 : (n : ℕ) → n < 65536 → (turn : Turn) → Usable turn → (sent (asked_for job n end turn)).answer.code ≡ 35
      then_35 n b turn u =
          code_is (asked_for job n end turn) ∙ only_end n end turn b kept.ends-inside u
          ∙ ap (λ (t : Bool). cond t 35 0) (eq-eqb end.frame (length job.lengths) at_last)

      -- every byte from the start on has been sent, once and in order
      pub bytes_once : joined (map body_of (all_segments entry_width (map ip packets))) ≡ part job.bytes
          (index_of job.lengths (start_of_frame i)) (length job.bytes - index_of job.lengths (start_of_frame i))
      unfolding frame_start
      bytes_once =
          let index : index_of job.lengths end ≡ length job.bytes = rw series_ends (omega (arith, frames.all)) in
          let place =
          carried-place job.bytes job.lengths (start_of_frame i) end (all_segments entry_width (map ip packets)) kept.carried in
          let long : length (joined (map body_of (all_segments entry_width (map ip packets))))
          ≡ length job.bytes - index_of job.lengths (start_of_frame i) = omega arith in
          carried-bytes job.bytes job.lengths (start_of_frame i) end (all_segments entry_width (map ip packets)) kept.carried
          ∙ ap (part job.bytes (index_of job.lengths (start_of_frame i))) long

      -- and no frame is left unfinished
      pub all_finished : (o : Obeys number i turns) → (o.apart.begun ≡ []) × (i + length o.apart.frames ≡ length job.lengths)
      all_finished o =
          let a = o.apart in
          let none : joined a.begun ≡ [] =
          let last = frame_start job.lengths end.frame in
          a.begun-bytes ∙ ap (part job.bytes last) (ap (λ (p : Position). p.offset) series_ends) ∙ part_none job.bytes last in
          (joined-empty a.begun a.begun-some none, sym a.reaches ∙ at_last)

  -- From the first frame on: what was sent is every frame, whole and in order.
  pub sends_all : (turns : List Turn) (number : ℕ) → number < 65536 → Each Usable turns → length job.bytes ≤ length turns →
      (frames : List Pieces) × (map joined frames ≡ cut_by job.lengths job.bytes)
      × KeepsRules (line job number) frames [] (map ip (series_packets job number (start_of_frame 0) turns))
      × Each (λ p. s_set (sub p) ≡ true) (map ip (series_packets job number (start_of_frame 0) turns))
  unfolding frame_start sum_to
  sends_all turns number b us enough =
      let o = sender_keeps_rules turns number 0 b (omega arith) us in
      let finished = all_finished turns number 0 b (omega arith) us (omega arith) o in
      let count : length o.apart.frames ≡ length job.lengths = omega (arith, finished.1) in
      let k : KeepsRules (line job number) o.apart.frames [] (map ip (series_packets job number (start_of_frame 0) turns)) =
      rw finished.0 at o.keeps in (
        o.apart.frames,
        o.apart.their_bytes ∙ ap (frames_from job.bytes job.lengths 0) count ∙ all_frames job.bytes job.lengths,
        k,
        o.has_numbers,
      )
