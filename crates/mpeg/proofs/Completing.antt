-- A run before what a run gives: from a frame that has begun, and a run that gives the packets behind the next one, a run that gives that
-- one too. So whoever goes through packets from the last to the first gets the run that gives them, and with it how each frame goes on that
-- has begun.
use Prim.Native.Nat.{ℕ, ◌+◌, ◌-◌, ◌<◌}
use mathlib.Core.Path.{◌≡◌, refl, sym, ap, ◌∙◌}
use mathlib.Core.Bool.{true, false}
use mathlib.Core.Logic.{◌⊎◌, inl, inr}
use mathlib.Core.List.{List, [], ◌∷◌, ◌++◌, append_assoc, append-nil}
use native.Mathlib.Omega.{arith}
use lib.ListN.{length, replicate, length-append, length-replicate}
use Rattle.octets.specs.Bytes.{AllBytes}
use Rattle.octets.specs.Each.{Each}
use Rattle.octets.specs.Stretch.{part, rest, joined}
use Rattle.octets.proofs.Stretches.{joined-none, joined-append, length-joined-none, part_all, part_past, part-append, rest-append}
use Rattle.octets.proofs.Bytes.{bytes-append, bytes-replicate}
use Rattle.octets.proofs.Elements.{each_both}
use Rattle.ts.specs.Packet.{payload_length, next_count, header, fill_byte, null_packet}
use Rattle.mpeg.specs.Packet.{pointed_length, frames_pid, filled_to}
use Rattle.mpeg.specs.Frame.{said_length, may_begin, Good}
use Rattle.mpeg.specs.Write.{packet_of, count_after}
use Rattle.mpeg.specs.Read.{any_count}
use Rattle.mpeg.specs.Run.{Backlog, Burst, GoodBursts, added, packet_next, after_next, run_packets}
use Rattle.mpeg.proofs.Backlogs.{Mid, between, within, one, joined-begun, one_some, mid_some, At, at_next, at_added, count_next}
use Rattle.mpeg.proofs.Backlogs.{at_none, at_on, at_whole, at_ends, packet_on, packet-ends, count-some}
use Rattle.mpeg.proofs.Frames.{begin_says, completed_good}

-- A frame that has begun, or none, and how it goes on.
pub record Goes (b t : List ℕ) : Type 0 where
  pub middle : Mid b t
  pub good-frame : Each Good (one b t)

-- How a run gives packets, with this frame begun and this count expected: a backlog that stands there, with nothing else waiting, gives
-- them by these bursts.
pub record RunOf (begun : List ℕ) (expected : ℕ) (packets : List (List ℕ)) : Type 0 where
  pub count : ℕ
  pub fits : (expected ≡ any_count) ⊎ (count ≡ expected)
  pub tail : List ℕ
  pub goes : Goes begun tail
  pub bursts : List Burst
  pub good-bursts : GoodBursts bursts
  pub gives : (q : Backlog) (done : List (List ℕ)) → At q done begun tail [] → q.count ≡ count → run_packets q bursts ≡ packets

pub mid_none : {b t : List ℕ} → Mid b t → b ≡ [] → t ≡ []
mid_none between e = refl
mid_none (within x b y t) e = absurd (never e)
  where
    never : x ∷ b ≡ [] → ⊥
    never e = let z : ◌≡◌ {A = ℕ} 0 1 = cc in omega arith

mid_more : {x : ℕ} {b t : List ℕ} → Mid (x ∷ b) t → 0 < length t
mid_more (within x b y t) = omega arith

pub goes_none : Goes [] []
goes_none = record { middle = between; good-frame = tt }

pub goes_on : (x : ℕ) (b t : List ℕ) → 0 < length t → Good ((x ∷ b) ++ t) → Goes (x ∷ b) t
goes_on x b t some g =
    record { middle = mid_some (x ∷ b) t (omega arith) some; good-frame = rw (one_some (x ∷ b) t some) (g, tt) }

-- The end: no packet any more. A frame that has begun goes on with 0.
abbrev zeros : List ℕ → List ℕ
zeros [] = []
zeros (x ∷ b) = replicate (said_length (x ∷ b) - length (x ∷ b)) 0

goes_zeros : (b : List ℕ) → may_begin b ≡ true → AllBytes b → Goes b (zeros b)
goes_zeros [] h bytes = goes_none
goes_zeros (x ∷ b) h bytes =
    let t = zeros (x ∷ b) in
    let n = said_length (x ∷ b) - length (x ∷ b) in
    let some : 0 < length t = omega (arith, length-replicate {A = ℕ} n 0, (begin_says (x ∷ b) h).unfinished) in
    goes_on x b t some (completed_good (x ∷ b) h, bytes-append (x ∷ b) t bytes (bytes-replicate n 0 (omega arith)))

pub run_ends : (b : List ℕ) (expected : ℕ) → may_begin b ≡ true → AllBytes b → RunOf b expected []
unfolding run_packets
run_ends b expected h bytes =
    record {
      count = expected;
      fits = inr refl;
      tail = zeros b;
      goes = goes_zeros b h bytes;
      bursts = [];
      good-bursts = tt;
      gives = λ q done at c. refl;
    }

-- A packet and a run behind it.
next-packet : (q : Backlog) (burst : Burst) (bursts : List Burst) (packet : List ℕ) (more : List (List ℕ)) →
    packet_next (added q burst) ≡ packet →
    run_packets (after_next (added q burst)) bursts ≡ more → run_packets q (burst ∷ bursts) ≡ packet ∷ more
unfolding run_packets
next-packet q burst bursts packet more e f = rw (e, f) refl

-- the null packet
null_gives : {t : List ℕ} (q : Backlog) (done : List (List ℕ)) (bursts : List Burst) (more : List (List ℕ)) → Mid [] t → At q done [] t [] →
    ((p : Backlog) → At p done [] t [] → p.count ≡ q.count → run_packets p bursts ≡ more) → run_packets q ([] ∷ bursts) ≡ null_packet ∷ more
unfolding packet_of count_after
null_gives q done bursts more between at behind =
    let next : At (added q []) done [] [] [] = at_added at [] in
    next-packet q [] bursts null_packet more (at_next next ∙ ap (packet_of q.count 0) joined-none)
    (behind (after_next (added q [])) (at_none next length-joined-none) (count_next next ∙ ap (count_after q.count) joined-none))

pub run_null : (expected : ℕ) (more : List (List ℕ)) → RunOf [] expected more → RunOf [] expected (null_packet ∷ more)
run_null expected more r =
    record {
      count = r.count;
      fits = r.fits;
      tail = r.tail;
      goes = r.goes;
      bursts = [] ∷ r.bursts;
      good-bursts = (tt, r.good-bursts);
      gives = λ q done at c. null_gives q done r.bursts more r.goes.middle at (λ p stands e. r.gives p done stands (e ∙ c));
    }

-- the count behind a packet with frames is the one that is expected then
count_known : (c count : ℕ) → (next_count c ≡ any_count) ⊎ (count ≡ next_count c) → count ≡ next_count c
count_known c count (inl e) = absurd (never e)
  where
    never : next_count c ≡ any_count → ⊥
    never e = omega arith
count_known c count (inr e) = e

-- Without the flag: the frame goes on, or ends with the packet.
module _ (q : Backlog) (done : List (List ℕ)) (x : ℕ) (b payload : List ℕ) (bursts : List Burst) (more : List (List ℕ))
    (long : length payload ≡ payload_length) where
  on_gives : (t : List ℕ) → 0 < length t → At q done (x ∷ b) (payload ++ t) [] →
      ((p : Backlog) → At p done ((x ∷ b) ++ payload) t [] → p.count ≡ next_count q.count → run_packets p bursts ≡ more) →
      run_packets q ([] ∷ bursts) ≡ (header false frames_pid q.count ++ payload) ∷ more
  on_gives t some at behind =
      let next : At (added q []) done (x ∷ b) (payload ++ t) [] = at_added at [] in
      let after = after_next (added q []) in
      let waiting = payload ++ t ++ joined [] in
      let left : payload_length < length (payload ++ t) = omega (arith, length-append payload t) in
      let front : part (payload ++ t) 0 payload_length ≡ payload = ap (part (payload ++ t) 0) (sym long) ∙ part-append payload t in
      let back : rest (payload ++ t) payload_length ≡ t = ap (rest (payload ++ t)) (sym long) ∙ rest-append payload t in
      let packet : packet_next (added q []) ≡ header false frames_pid q.count ++ payload =
      at_next next ∙ packet_on (payload ++ t) (joined []) (omega arith) q.count
      ∙ ap (λ (l : List ℕ). header false frames_pid q.count ++ l) front in
      let stands : At after done ((x ∷ b) ++ payload) t [] = rw (front, back) at (at_on next left) in
      let waits : 0 < length waiting = omega (arith, length-append (payload ++ t) (joined [])) in
      let counted : after.count ≡ next_count q.count = count_next next ∙ count-some q.count waiting waits in
      next-packet q [] bursts (header false frames_pid q.count ++ payload) more packet (behind after stands counted)

  finished_gives : At q done (x ∷ b) payload [] →
      ((p : Backlog) → At p (done ++ one (x ∷ b) payload) [] [] [] → p.count ≡ next_count q.count → run_packets p bursts ≡ more) →
      run_packets q ([] ∷ bursts) ≡ (header false frames_pid q.count ++ payload) ∷ more
  finished_gives at behind =
      let next : At (added q []) done (x ∷ b) payload [] = at_added at [] in
      let after = after_next (added q []) in
      let waiting = payload ++ joined [] in
      let front : part payload 0 payload_length ≡ payload = ap (part payload 0) (sym long) ∙ part_all payload in
      let packet : packet_next (added q []) ≡ header false frames_pid q.count ++ payload =
      at_next next ∙ packet_on payload (joined []) (omega arith) q.count
      ∙ ap (λ (l : List ℕ). header false frames_pid q.count ++ l) front in
      let waits : 0 < length waiting = omega (arith, length-append payload (joined [])) in
      let counted : after.count ≡ next_count q.count = count_next next ∙ count-some q.count waiting waits in
      next-packet q [] bursts (header false frames_pid q.count ++ payload) more packet (behind after (at_whole next long) counted)

module _ (x : ℕ) (b payload : List ℕ) (expected c : ℕ) (more : List (List ℕ)) (long : length payload ≡ payload_length)
    (fits : (expected ≡ any_count) ⊎ (c ≡ expected)) where
  pub run_on : RunOf ((x ∷ b) ++ payload) (next_count c) more → RunOf (x ∷ b) expected ((header false frames_pid c ++ payload) ∷ more)
  run_on r =
      let t = r.tail in
      let some : 0 < length t = mid_more r.goes.middle in
      let frame : one ((x ∷ b) ++ payload) t ≡ ((x ∷ b) ++ (payload ++ t)) ∷ [] =
      one_some ((x ∷ b) ++ payload) t some ∙ ap (λ (l : List ℕ). l ∷ []) (append_assoc (x ∷ b) payload t) in
      let is-good : Each Good (((x ∷ b) ++ (payload ++ t)) ∷ []) = rw frame at r.goes.good-frame in
      let known = count_known c r.count r.fits in
      record {
        count = c;
        fits = fits;
        tail = payload ++ t;
        goes = goes_on x b (payload ++ t) (omega (arith, length-append payload t)) is-good.0;
        bursts = [] ∷ r.bursts;
        good-bursts = (tt, r.good-bursts);
        gives = λ q done at e.
            on_gives q done x b payload r.bursts more long t some at
            (λ p stands f. r.gives p done stands (f ∙ ap next_count e ∙ sym known))
            ∙ ap (λ (k : ℕ). (header false frames_pid k ++ payload) ∷ more) e;
      }

  pub run_finished : Good ((x ∷ b) ++ payload) → RunOf [] (next_count c) more →
      RunOf (x ∷ b) expected ((header false frames_pid c ++ payload) ∷ more)
  run_finished g r =
      let empty : r.tail ≡ [] = mid_none r.goes.middle refl in
      let known = count_known c r.count r.fits in
      record {
        count = c;
        fits = fits;
        tail = payload;
        goes = goes_on x b payload (omega arith) g;
        bursts = [] ∷ r.bursts;
        good-bursts = (tt, r.good-bursts);
        gives = λ q done at e.
            finished_gives q done x b payload r.bursts more long at
            (λ p stands f. r.gives p (done ++ one (x ∷ b) payload) (rw empty stands) (f ∙ ap next_count e ∙ sym known))
            ∙ ap (λ (k : ℕ). (header false frames_pid k ++ payload) ∷ more) e;
      }

-- With the flag: t ends the frame that has begun, whole frames follow, and then one begins, or 0xFF fills the packet. The burst before it
-- is these frames, and the one that begins is whole in it. First: what a packet takes of the bytes that wait.
takes : (n room : ℕ) (bytes behind : List ℕ) → length bytes + n ≡ room → (behind ≡ []) ⊎ (n ≡ 0) → part (bytes ++ behind) 0 room ≡ bytes
takes n room bytes behind long (inl e) =
    let all : bytes ++ behind ≡ bytes = ap (λ (l : List ℕ). bytes ++ l) e ∙ append-nil bytes in
    rw all (part_past bytes room (omega arith))
takes n room bytes behind long (inr e) =
    ap (part (bytes ++ behind) 0) (let full : room ≡ length bytes = omega arith in full) ∙ part-append bytes behind

module _ (b t : List ℕ) (whole : List (List ℕ)) (front : List ℕ) (fill : ℕ) where
  abbrev pub flagged : ℕ → List ℕ
  flagged c = header true frames_pid c ++ (length t ∷ (t ++ (joined whole ++ front ++ replicate fill fill_byte)))

  module _ (all : length t + length (joined whole ++ front) + fill ≡ pointed_length)
      (some : 0 < length t + length (joined whole ++ front)) where
    flag_gives : (q : Backlog) (done : List (List ℕ)) (back : List ℕ) (bursts : List Burst) (more : List (List ℕ)) → Mid front back →
        (back ≡ []) ⊎ (fill ≡ 0) → At q done b t [] →
        ((p : Backlog) → At p (done ++ one b t ++ whole) front back [] → p.count ≡ next_count q.count → run_packets p bursts ≡ more) →
        run_packets q ((whole ++ one front back) ∷ bursts) ≡ flagged q.count ∷ more
    flag_gives q done back bursts more mid one_of_them at behind =
        let burst = whole ++ one front back in
        let bytes = joined whole ++ front in
        let next : At (added q burst) done b t burst = at_added at burst in
        let after = after_next (added q burst) in
        let room = pointed_length - length t in
        let short : length t < payload_length = omega arith in
        let joins : joined burst ≡ bytes ++ back =
        joined-append whole (one front back) ∙ ap (λ (l : List ℕ). joined whole ++ l) (joined-begun mid)
        ∙ sym (append_assoc (joined whole) front back) in
        let waits : 0 < length (t ++ joined burst) =
        omega (arith, length-append t (joined burst), ap length joins, length-append bytes back) in
        let taken : part (joined burst) 0 room ≡ bytes =
        ap (λ (l : List ℕ). part l 0 room) joins ∙ takes fill room bytes back (omega arith) one_of_them in
        let left : room - length bytes ≡ fill = omega arith in
        let filled : filled_to room (part (joined burst) 0 room) ≡ bytes ++ replicate fill fill_byte =
        ap (filled_to room) taken ∙ ap (λ (k : ℕ). bytes ++ replicate k fill_byte) left in
        let packet : packet_next (added q burst) ≡ flagged q.count =
        at_next next ∙ packet-ends t (joined burst) short waits q.count
        ∙ ap (λ (l : List ℕ). header true frames_pid q.count ++ (length t ∷ (t ++ l))) filled in
        let are : burst ≡ whole ++ (one front back ++ []) = ap (λ (l : List (List ℕ)). whole ++ l) (sym (append-nil (one front back))) in
        let stands : At after (done ++ one b t ++ whole) front back [] = at_ends next short waits whole front back [] mid are taken in
        let counted : after.count ≡ next_count q.count = count_next next ∙ count-some q.count (t ++ joined burst) waits in
        next-packet q burst bursts (flagged q.count) more packet (behind after stands counted)

    pub run_flag : (expected c : ℕ) (more : List (List ℕ)) → (expected ≡ any_count) ⊎ (c ≡ expected) → Goes b t → Each Good whole →
        (front ≡ []) ⊎ (fill ≡ 0) → RunOf front (next_count c) more → RunOf b expected (flagged c ∷ more)
    run_flag expected c more fits goes good-frames one_of_them r =
        let known = count_known c r.count r.fits in
        record {
          count = c;
          fits = fits;
          tail = t;
          goes = goes;
          bursts = (whole ++ one front r.tail) ∷ r.bursts;
          good-bursts = (each_both Good whole (one front r.tail) good-frames r.goes.good-frame, r.good-bursts);
          gives = λ q done at e.
              flag_gives q done r.tail r.bursts more r.goes.middle (either one_of_them) at
              (λ p stands f. r.gives p (done ++ one b t ++ whole) stands (f ∙ ap next_count e ∙ sym known))
              ∙ ap (λ (k : ℕ). flagged k ∷ more) e;
        }
      where
        either : (front ≡ []) ⊎ (fill ≡ 0) → (r.tail ≡ []) ⊎ (fill ≡ 0)
        either (inl e) = inl (mid_none r.goes.middle e)
        either (inr e) = inr e
