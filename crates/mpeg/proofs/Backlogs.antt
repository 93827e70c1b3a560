-- Where a run of the writer stands between two packets (W3). Of the frames that have been added some are done, one may have begun, and the
-- others wait: `At` says so of a backlog. Then what the next call of the writer is given, the packet that it writes and what it leaves are
-- known from these pieces.
use mathlib.Core.Path.{◌≡◌, refl, sym, ap, ◌∙◌}
use Prim.Native.Nat.{ℕ, suc, ◌+◌, ◌-◌, ◌≤◌, ◌<◌}
use native.Mathlib.Omega.{arith}
use native.Mathlib.Nat.{not-suc-le-zero}
use mathlib.Core.Bool.{true, false}
use mathlib.Core.List.{List, [], ◌∷◌, ◌++◌, append_assoc, append-nil}
use lib.ListN.{length, length-append, replicate}
use borrow.Author.Tests.{le-leb, lt-leb, ne_eqb}
use Rattle.octets.specs.Each.{Each}
use Rattle.octets.specs.Stretch.{part, rest, joined, lengths_of}
use Rattle.octets.proofs.Stretches.{length_part, length-part-min, length_rest, part-and-rest, part-append-within, part-append_past}
use Rattle.octets.proofs.Stretches.{rest-append, rest-joined-append, joined-none, joined_one, joined-append, length-joined}
use Rattle.octets.proofs.Stretches.{length-joined-none, lengths_of-none, lengths_of-cons}
use Rattle.ts.specs.Packet.{payload_length, next_count, header, fill_byte}
use Rattle.mpeg.specs.Packet.{frames_pid, pointed_length, filled_to}
use Rattle.mpeg.specs.Write.{left_at, packet_of, carried, count_after, data_packet, carries}
use Rattle.mpeg.specs.Run.{Backlog, Burst, added, waiting_in, left_in, packet_next, after_next, sent_whole}

-- What has been sent of a frame, and what has not: of one that has begun both are some bytes, and where none has begun there are no bytes.
pub data Mid : List ℕ → List ℕ → Type 0 where
  between : Mid [] []
  within : (x : ℕ) (b : List ℕ) (y : ℕ) (t : List ℕ) → Mid (x ∷ b) (y ∷ t)

-- the frame that has begun, or none
abbrev pub one : List ℕ → List ℕ → List (List ℕ)
one b [] = []
one b (y ∷ t) = (b ++ y ∷ t) ∷ []

pub record At (q : Backlog) (done : List (List ℕ)) (b t : List ℕ) (waiting : List (List ℕ)) : Type 0 where
  pub mid : Mid b t
  pub frames_are : q.frames ≡ done ++ (one b t ++ waiting)
  pub place_is : q.place ≡ length (joined done) + length b

pub joined-begun : {b t : List ℕ} → Mid b t → joined (one b t) ≡ b ++ t
joined-begun between = joined-none
joined-begun (within x b y t) = joined_one (x ∷ b ++ y ∷ t)

-- What a call is given: the bytes that wait.
rest-begun : {b t : List ℕ} (waiting : List (List ℕ)) → Mid b t → rest (joined (one b t ++ waiting)) (length b) ≡ t ++ joined waiting
rest-begun {b} {t} waiting m =
    ap (λ (l : List ℕ). rest l (length b))
    (joined-append (one b t) waiting ∙ ap (λ (l : List ℕ). l ++ joined waiting) (joined-begun m) ∙ append_assoc b t (joined waiting))
    ∙ rest-append b (t ++ joined waiting)

-- .. and how many of them end the frame that has begun
pub left_done : (done fs : List (List ℕ)) (k : ℕ) → left_at (lengths_of (done ++ fs)) (length (joined done) + k) ≡ left_at (lengths_of fs) k
unfolding left_at
left_done [] fs k = ap (left_at (lengths_of fs)) (let e : length (joined []) + k ≡ k = omega (arith, length-joined-none) in e)
left_done (f ∷ done) fs k =
    let place = length (joined (f ∷ done)) + k in
    let e : place - length f ≡ length (joined done) + k = omega (arith, length-joined f done) in
    let h : length f ≤ place = omega (arith, length-joined f done) in
    rw (lengths_of-cons f (done ++ fs), le-leb (length f) place h, e) (left_done done fs k)

left-none : (waiting : List (List ℕ)) → left_at (lengths_of waiting) 0 ≡ 0
unfolding left_at
left-none [] = rw lengths_of-none refl
left-none ([] ∷ waiting) = rw (lengths_of-cons [] waiting) (left-none waiting)
left-none ((x ∷ f) ∷ waiting) = rw (lengths_of-cons (x ∷ f) waiting, lt-leb (suc (length f)) 0 (omega arith)) refl

left-begun : {b t : List ℕ} (waiting : List (List ℕ)) → Mid b t → left_at (lengths_of (one b t ++ waiting)) (length b) ≡ length t
unfolding left_at
left-begun waiting between = left-none waiting
left-begun waiting (within x b y t) =
    let long : length (x ∷ b ++ y ∷ t) ≡ suc (length b) + suc (length t) = length-append (x ∷ b) (y ∷ t) in
    let more : suc (length b) < length (x ∷ b ++ y ∷ t) = omega arith in
    let no : suc (length b) ≡ 0 → ⊥ = λ e. omega arith in
    let left : length (x ∷ b ++ y ∷ t) - suc (length b) ≡ suc (length t) = omega arith in
    rw (lengths_of-cons (x ∷ b ++ y ∷ t) waiting, lt-leb (length (x ∷ b ++ y ∷ t)) (suc (length b)) more, ne_eqb (suc (length b)) 0 no) left

-- The packet of t and what waits behind it, where t is left of the frame that has begun.
pub packet-some : (count r : ℕ) (waiting : List ℕ) → 0 < length waiting → packet_of count r waiting ≡ data_packet count r waiting
unfolding packet_of
packet-some count r [] h = absurd (not-suc-le-zero h)
packet-some count r (x ∷ waiting) h = refl

pub carried_some : (r : ℕ) (waiting : List ℕ) → 0 < length waiting → carried r waiting ≡ carries r waiting
unfolding carried
carried_some r [] h = absurd (not-suc-le-zero h)
carried_some r (x ∷ waiting) h = refl

pub count-some : (count : ℕ) (waiting : List ℕ) → 0 < length waiting → count_after count waiting ≡ next_count count
unfolding count_after
count-some count [] h = absurd (not-suc-le-zero h)
count-some count (x ∷ waiting) h = refl

pub none-carried : (r : ℕ) (waiting : List ℕ) → length waiting ≡ 0 → carried r waiting ≡ 0
unfolding carried
none-carried r [] h = refl
none-carried r (x ∷ waiting) h = absurd (never h)
  where
    never : suc (length waiting) ≡ 0 → ⊥
    never l = omega arith

-- with a whole payload of it or more: no flag
module _ (t behind : List ℕ) (h : payload_length ≤ length t) where
  some_on : 0 < length (t ++ behind)
  some_on = omega (arith, length-append t behind)

  pub packet_on : (count : ℕ) → packet_of count (length t) (t ++ behind) ≡ header false frames_pid count ++ part t 0 payload_length
  packet_on count =
      packet-some count (length t) (t ++ behind) some_on
      ∙ rw (le-leb payload_length (length t) h, part-append-within t behind 0 payload_length h) refl

  pub carried_on : carried (length t) (t ++ behind) ≡ payload_length
  carried_on = carried_some (length t) (t ++ behind) some_on ∙ rw (le-leb payload_length (length t) h) refl

-- with less of it: the flag, the pointer, t and what fits behind it
module _ (t behind : List ℕ) (h : length t < payload_length) (some : 0 < length (t ++ behind)) where
  part-ends : part (t ++ behind) 0 pointed_length ≡ t ++ part behind 0 (pointed_length - length t)
  part-ends = part-append_past t behind pointed_length (omega arith)

  pub packet-ends : (count : ℕ) →
      packet_of count (length t) (t ++ behind)
      ≡ header true frames_pid count
      ++ (length t ∷ (t ++ filled_to (pointed_length - length t) (part behind 0 (pointed_length - length t))))
  packet-ends count =
      let front = part behind 0 (pointed_length - length t) in
      let n : pointed_length - length (t ++ front) ≡ pointed_length - length t - length front = omega (arith, length-append t front) in
      packet-some count (length t) (t ++ behind) some
      ∙ rw (lt-leb payload_length (length t) h, part-ends, n)
      (ap (λ (l : List ℕ). header true frames_pid count ++ (length t ∷ l))
      (append_assoc t front (replicate (pointed_length - length t - length front) fill_byte)))

  pub carried-ends : carried (length t) (t ++ behind) ≡ length t + length (part behind 0 (pointed_length - length t))
  carried-ends =
      carried_some (length t) (t ++ behind) some
      ∙ rw (lt-leb payload_length (length t) h) (omega (arith, length-append t behind, length-part-min behind (pointed_length - length t)))

-- A frame that has begun is one.
pub one_some : (b t : List ℕ) → 0 < length t → one b t ≡ (b ++ t) ∷ []
one_some b [] h = absurd (not-suc-le-zero h)
one_some b (y ∷ t) h = refl

pub mid_some : (b t : List ℕ) → 0 < length b → 0 < length t → Mid b t
mid_some [] t h k = absurd (not-suc-le-zero h)
mid_some (x ∷ b) [] h k = absurd (not-suc-le-zero k)
mid_some (x ∷ b) (y ∷ t) h k = within x b y t

pub mid_front : {b t : List ℕ} → Mid b t → 0 < length t → 0 < length b
mid_front between h = h
mid_front (within x b y t) h = omega arith

-- The frames of which every byte has been sent are those that are done.
sent_done : (done fs : List (List ℕ)) (k : ℕ) → sent_whole (done ++ fs) (length (joined done) + k) ≡ done ++ sent_whole fs k
unfolding sent_whole
sent_done [] fs k = ap (sent_whole fs) (let e : length (joined []) + k ≡ k = omega (arith, length-joined-none) in e)
sent_done (f ∷ done) fs k =
    let place = length (joined (f ∷ done)) + k in
    let e : place - length f ≡ length (joined done) + k = omega (arith, length-joined f done) in
    let h : length f ≤ place = omega (arith, length-joined f done) in
    rw (le-leb (length f) place h, e) (ap (λ (l : List (List ℕ)). f ∷ l) (sent_done done fs k))

-- no frame is empty
abbrev pub NotEmpty : List ℕ → Type 0
NotEmpty f = 0 < length f

sent-none : (waiting : List (List ℕ)) → Each NotEmpty waiting → sent_whole waiting 0 ≡ []
unfolding sent_whole
sent-none [] h = refl
sent-none (f ∷ waiting) (h, hs) = rw (lt-leb (length f) 0 h) refl

sent-begun : {b t : List ℕ} (waiting : List (List ℕ)) → Mid b t → Each NotEmpty waiting → sent_whole (one b t ++ waiting) (length b) ≡ []
unfolding sent_whole
sent-begun waiting between h = sent-none waiting h
sent-begun waiting (within x b y t) h =
    let more : suc (length b) < length (x ∷ b ++ y ∷ t) = omega (arith, length-append (x ∷ b) (y ∷ t)) in
    rw (lt-leb (length (x ∷ b ++ y ∷ t)) (suc (length b)) more) refl

module _ {q : Backlog} {done waiting : List (List ℕ)} {b t : List ℕ} (at : At q done b t waiting) where
  pub at_waiting : waiting_in q ≡ t ++ joined waiting
  at_waiting =
      ap (λ (fs : List (List ℕ)). rest (joined fs) q.place) at.frames_are
      ∙ ap (rest (joined (done ++ (one b t ++ waiting)))) at.place_is
      ∙ rest-joined-append done (one b t ++ waiting) (length b)
      ∙ rest-begun waiting at.mid

  pub at_left : left_in q ≡ length t
  at_left =
      ap (λ (fs : List (List ℕ)). left_at (lengths_of fs) q.place) at.frames_are
      ∙ ap (left_at (lengths_of (done ++ (one b t ++ waiting)))) at.place_is
      ∙ left_done done (one b t ++ waiting) (length b)
      ∙ left-begun waiting at.mid

  pub at_next : packet_next q ≡ packet_of q.count (length t) (t ++ joined waiting)
  unfolding packet_next
  at_next = rw (at_left, at_waiting) refl

  pub at_added : (burst : Burst) → At (added q burst) done b t (waiting ++ burst)
  at_added burst = record {
    mid = at.mid;
    frames_are = ap (λ (fs : List (List ℕ)). fs ++ burst) at.frames_are
        ∙ append_assoc done (one b t ++ waiting) burst
        ∙ ap (λ (fs : List (List ℕ)). done ++ fs) (append_assoc (one b t) waiting burst);
    place_is = at.place_is;
  }

  pub place-next : (after_next q).place ≡ length (joined done) + length b + carried (length t) (t ++ joined waiting)
  unfolding after_next
  place-next = rw (at_left, at_waiting, at.place_is) refl

  pub count_next : (after_next q).count ≡ count_after q.count (t ++ joined waiting)
  unfolding after_next
  count_next = rw at_waiting refl

  pub at_sent : Each NotEmpty waiting → sent_whole q.frames q.place ≡ done
  at_sent h =
      ap (λ (fs : List (List ℕ)). sent_whole fs q.place) at.frames_are
      ∙ ap (sent_whole (done ++ (one b t ++ waiting))) at.place_is
      ∙ sent_done done (one b t ++ waiting) (length b)
      ∙ ap (λ (l : List (List ℕ)). done ++ l) (sent-begun waiting at.mid h)
      ∙ append-nil done

  -- What a packet leaves. Nothing waited:
  pub at_none : length (t ++ joined waiting) ≡ 0 → At (after_next q) done b t waiting
  unfolding after_next
  at_none h =
      record {
        mid = at.mid;
        frames_are = at.frames_are;
        place_is = place-next ∙ omega (arith, none-carried (length t) (t ++ joined waiting) h);
      }

  -- the frame that has begun goes on, or ends with the packet
  pub at_on : payload_length < length t → At (after_next q) done (b ++ part t 0 payload_length) (rest t payload_length) waiting
  unfolding after_next
  at_on h =
      let sent = part t 0 payload_length in
      let left = rest t payload_length in
      let long-front : length sent ≡ payload_length = length_part t 0 payload_length (omega arith) in
      let long-b : length (b ++ sent) ≡ length b + payload_length = omega (arith, length-append b sent) in
      let more : 0 < length left = omega (arith, length_rest t payload_length) in
      let whole : b ++ sent ++ left ≡ b ++ t = append_assoc b sent left ∙ ap (λ (l : List ℕ). b ++ l) (part-and-rest t payload_length) in
      let is_one : one (b ++ sent) left ≡ one b t =
      one_some (b ++ sent) left more ∙ ap (λ (f : List ℕ). f ∷ []) whole ∙ sym (one_some b t (omega arith)) in
      record {
        mid = mid_some (b ++ sent) left (omega arith) more;
        frames_are = at.frames_are ∙ ap (λ (l : List (List ℕ)). done ++ (l ++ waiting)) (sym is_one);
        place_is = place-next ∙ omega (arith, carried_on t (joined waiting) (omega arith));
      }

  pub at_whole : length t ≡ payload_length → At (after_next q) (done ++ one b t) [] [] waiting
  unfolding after_next
  at_whole h =
      let long : length (joined (done ++ one b t)) ≡ length (joined done) + (length b + length t) =
      ap length (joined-append done (one b t) ∙ ap (λ (l : List ℕ). joined done ++ l) (joined-begun at.mid))
      ∙ omega (arith, length-append (joined done) (b ++ t), length-append b t) in
      record {
        mid = between;
        frames_are = at.frames_are ∙ sym (append_assoc done (one b t) waiting);
        place_is = place-next ∙ omega (arith, carried_on t (joined waiting) (omega arith));
      }

  -- it ends in the packet, which takes whole frames of those that wait, and then the front of one or nothing
  pub at_ends : length t < payload_length → 0 < length (t ++ joined waiting) →
      (whole : List (List ℕ)) (front back : List ℕ) (behind : List (List ℕ)) →
      Mid front back → waiting ≡ whole ++ (one front back ++ behind) →
      part (joined waiting) 0 (pointed_length - length t) ≡ joined whole ++ front →
      At (after_next q) (done ++ one b t ++ whole) front back behind
  unfolding after_next
  at_ends h some whole front back behind m are taken =
      let long : length (joined (done ++ one b t ++ whole)) ≡ length (joined done) + (length b + length t) + length (joined whole) =
      ap length
      (joined-append (done ++ one b t) whole
      ∙ ap (λ (l : List ℕ). l ++ joined whole)
      (joined-append done (one b t) ∙ ap (λ (l : List ℕ). joined done ++ l) (joined-begun at.mid)))
      ∙ omega (arith, length-append (joined done ++ (b ++ t)) (joined whole), length-append (joined done) (b ++ t), length-append b t) in
      let sent : carried (length t) (t ++ joined waiting) ≡ length t + (length (joined whole) + length front) =
      carried-ends t (joined waiting) h some
      ∙ ap (λ (l : List ℕ). length t + length l) taken
      ∙ ap (λ (n : ℕ). length t + n) (length-append (joined whole) front) in
      record {
        mid = m;
        frames_are = at.frames_are ∙ ap (λ (l : List (List ℕ)). done ++ (one b t ++ l)) are
            ∙ sym (ap (λ (l : List (List ℕ)). done ++ l) (append_assoc (one b t) whole (one front back ++ behind)))
            ∙ sym (append_assoc done (one b t ++ whole) (one front back ++ behind))
            ∙ ap (λ (l : List (List ℕ)). l ++ (one front back ++ behind)) (sym (append_assoc done (one b t) whole));
        place_is = place-next ∙ omega arith;
      }
