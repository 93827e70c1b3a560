-- A channel is read (W3): `channel_is_read`. After each turn, a reader that reads what was handed out and then the packets of the queue
-- stands where the writer stands: `InStep`.
use Prim.Native.Nat.{ℕ, ◌≤◌, ◌<◌}
use mathlib.Core.Path.{◌≡◌, refl, sym, ap, subst, ◌∙◌}
use mathlib.Core.Bool.{true}
use mathlib.Core.List.{List, [], ◌∷◌, ◌++◌, append_assoc, append-nil}
use native.Mathlib.Omega.{arith}
use lib.Dec.{leb}
use lib.ListN.{length, length-append}
use borrow.Author.Tests.{le-leb, lt-leb}
use Rattle.octets.specs.Each.{Each}
use Rattle.octets.specs.Stretch.{part, rest, joined}
use Rattle.octets.proofs.Elements.{each_both, each_too}
use Rattle.octets.proofs.Stretches.{part-append, rest-append, joined-none, joined-cons, joined-one_more, joined-empty}
use Rattle.ts.specs.Packet.{mpeg_length, null_packet}
use Rattle.mpeg.specs.Frame.{Good}
use Rattle.mpeg.specs.Read.{Reading, at_start, read_packet, read_from, reading}
use Rattle.mpeg.specs.Run.{Burst, added, left_in, packet_next, after_next, GoodBursts, all_frames, sent_whole}
use Rattle.mpeg.specs.HandOut.{handed_out}
use Rattle.mpeg.specs.Channel.{Channel, idle, Turn, writes, hands_out, behind_first, after_turn, channel_sends, channel_end, bursts_of}
use Rattle.mpeg.specs.Channel.{NullsBetweenFrames, ChannelIsRead}
use Rattle.mpeg.proofs.RunsRead.{Keeps, keeps_start, keeps_added, keeps_next, keeps_null, keeps_sound, keeps_sent, all_whole, Sized}
use Rattle.mpeg.proofs.RunsRead.{reading-packets}
use Rattle.mpeg.proofs.ReadRuns.{sound-before}

record InStep (c : Channel) (s : Reading) : Type 0 where
  queued : List (List ℕ)
  queue_is : c.queue ≡ joined queued
  sized : Each Sized queued
  keeps : Keeps c.backlog (read_from s queued)

-- one packet more is read last
read_more : (s : Reading) (ps : List (List ℕ)) (p : List ℕ) → read_from s (ps ++ (p ∷ [])) ≡ read_packet (read_from s ps) p
unfolding read_from
read_more s [] p = refl
read_more s (q ∷ ps) p = read_more (read_packet s q) ps p

-- A packet is written behind the queue.
step_writes : (c : Channel) (s : Reading) (burst : Burst) → Each Good burst → InStep c s → InStep (after_turn c (writes burst)) s
unfolding after_turn
step_writes c s burst g i =
    let p = packet_next (added c.backlog burst) in
    let n = keeps_next (keeps_added burst i.keeps g) in
    record {
      queued = i.queued ++ (p ∷ []);
      queue_is = ap (λ (l : List ℕ). l ++ p) i.queue_is ∙ sym (joined-one_more i.queued p);
      sized = each_both Sized i.queued (p ∷ []) i.sized (n.1, tt);
      keeps = rw (read_more s i.queued p) n.0;
    }

-- What is handed out: from a queue of no packet the null packet, and the queue stays; else its first, and the others stay.
out_null : (queue : List ℕ) → length queue < mpeg_length → handed_out queue ≡ null_packet
unfolding handed_out
out_null queue few = rw (lt-leb mpeg_length (length queue) few) refl

behind_null : (queue : List ℕ) → length queue < mpeg_length → behind_first queue ≡ queue
unfolding behind_first
behind_null queue few = rw (lt-leb mpeg_length (length queue) few) refl

module _ (p : List ℕ) (more : List (List ℕ)) (long : length p ≡ mpeg_length) where
  has_one : leb mpeg_length (length (joined (p ∷ more))) ≡ true
  has_one =
      le-leb mpeg_length (length (joined (p ∷ more)))
      (rw (joined-cons p more) (omega (arith, length-append p (joined more))))

  out_first : handed_out (joined (p ∷ more)) ≡ p
  unfolding handed_out
  out_first =
      rw has_one (ap (λ (l : List ℕ). part l 0 mpeg_length) (joined-cons p more)
      ∙ ap (part (p ++ joined more) 0) (sym long) ∙ part-append p (joined more))

  behind_first_lem : behind_first (joined (p ∷ more)) ≡ joined more
  unfolding behind_first
  behind_first_lem =
      rw has_one (ap (λ (l : List ℕ). rest l mpeg_length) (joined-cons p more)
      ∙ ap (rest (p ++ joined more)) (sym long) ∙ rest-append p (joined more))

abbrev Out : Channel → Reading → Type 0
Out c s = InStep (after_turn c hands_out) (read_packet s (handed_out c.queue)) × Sized (handed_out c.queue)

step_out : (c : Channel) (s : Reading) (queued : List (List ℕ)) → (length c.queue < mpeg_length → left_in c.backlog ≡ 0) →
    c.queue ≡ joined queued → Each Sized queued → Keeps c.backlog (read_from s queued) → Out c s
unfolding after_turn read_from null_packet
step_out c s [] between is sized k =
    let none : c.queue ≡ [] = is ∙ joined-none in
    let few : length c.queue < mpeg_length = rw none (omega arith) in
    let out : handed_out c.queue ≡ null_packet = out_null c.queue few in
    let same : read_packet s (handed_out c.queue) ≡ s = ap (read_packet s) out ∙ keeps_null k (between few) in (
      record { queued = []; queue_is = behind_null c.queue few ∙ is; sized = tt; keeps = rw same k },
      ap length out,
    )
step_out c s (p ∷ more) between is (long, sized) k =
    let out : handed_out c.queue ≡ p = ap handed_out is ∙ out_first p more long in (
      record { queued = more; queue_is = ap behind_first is ∙ behind_first_lem p more long; sized = sized; keeps = rw out k },
      ap length out ∙ long,
    )

-- All turns.
steps : (turns : List Turn) (c : Channel) (s : Reading) → GoodBursts (bursts_of turns) → NullsBetweenFrames c turns → InStep c s →
    InStep (channel_end c turns) (read_from s (channel_sends c turns)) × Each Sized (channel_sends c turns)
unfolding bursts_of NullsBetweenFrames channel_end channel_sends read_from
steps [] c s g between i = (i, tt)
steps (writes burst ∷ more) c s (g, gs) between i = steps more (after_turn c (writes burst)) s gs between (step_writes c s burst g i)
steps (hands_out ∷ more) c s g (now, between) i =
    let out = step_out c s i.queued now i.queue_is i.sized i.keeps in
    let behind = steps more (after_turn c hands_out) (read_packet s (handed_out c.queue)) g between out.0 in
    (behind.0, (out.1, behind.1))

frames-added : (turns : List Turn) (c : Channel) → (channel_end c turns).backlog.frames ≡ c.backlog.frames ++ all_frames (bursts_of turns)
unfolding bursts_of channel_end after_turn all_frames after_next
frames-added [] c = sym (append-nil c.backlog.frames)
frames-added (writes burst ∷ more) c =
    frames-added more (after_turn c (writes burst)) ∙ append_assoc c.backlog.frames burst (all_frames (bursts_of more))
frames-added (hands_out ∷ more) c = frames-added more (after_turn c hands_out)

-- no packet is queued where the queue is empty
none_queued : (queued : List (List ℕ)) → Each Sized queued → joined queued ≡ [] → queued ≡ []
none_queued queued sized none = joined-empty queued (each_too Sized (λ p. 1 ≤ length p) queued (λ p e. omega arith) sized) none

module _ (count : ℕ) (turns : List Turn) (g : GoodBursts (bursts_of turns)) (between : NullsBetweenFrames (idle count) turns) where
  abbrev sends : List (List ℕ)
  sends = channel_sends (idle count) turns

  abbrev end : Channel
  end = channel_end (idle count) turns

  begins : InStep (idle count) at_start
  unfolding read_from
  begins = record { queued = []; queue_is = sym joined-none; sized = tt; keeps = keeps_start count }

  stands : InStep end (read_from at_start sends) × Each Sized sends
  stands = steps turns (idle count) at_start g between begins

  is_read : reading (joined sends) ≡ read_from at_start sends
  is_read = reading-packets sends stands.1

  sound : (read_from at_start sends).sound ≡ true
  sound = sound-before (read_from at_start sends) stands.0.queued (keeps_sound stands.0.keeps)

  -- with the queue empty the reader stands where the writer stands
  ends : end.queue ≡ [] → Keeps end.backlog (read_from at_start sends)
  unfolding read_from
  ends empty =
      let i = stands.0 in
      let none = none_queued i.queued i.sized (sym i.queue_is ∙ empty) in
      subst (λ (ps : List (List ℕ)). Keeps end.backlog (read_from (read_from at_start sends) ps)) none i.keeps

  whole : end.queue ≡ [] → (reading (joined sends)).frames ≡ sent_whole end.backlog.frames end.backlog.place
  whole empty = ap (λ (s : Reading). s.frames) is_read ∙ keeps_sent (ends empty)

  abbrev are : end.backlog.frames ≡ all_frames (bursts_of turns)
  are = frames-added turns (idle count)

pub channel_is_read : ChannelIsRead
channel_is_read count turns g between =
    let place = (channel_end (idle count) turns).backlog.place in
    let all = are count turns g between in
    record {
      taken = ap (λ (s : Reading). s.sound) (is_read count turns g between) ∙ sound count turns g between;
      given_back = λ empty. whole count turns g between empty ∙ ap (λ (fs : List (List ℕ)). sent_whole fs place) all;
      all_given_back = λ empty nothing.
          whole count turns g between empty ∙ all_whole (channel_end (idle count) turns).backlog nothing ∙ all;
    }
