-- From the core to the modulator (W3). A channel's session has four flows, mixed. What its packets deliver, in order, is written as MPEG
-- packets, and a modem's reader gets it back, where the frames keep W3's rules and the writer is called until nothing waits. Together with
-- demand 3: of each flow that a sender uses by the rules, these are precisely the frames whose every packet arrived before any packet sent
-- after it. And one outcome for each of W3's calls.
use Rattle.std.specs.Prelude.{ℕ, ◌<◌, ◌≡◌, true, cond, List, [], ◌∷◌, ◌++◌, map, eqb}
use Rattle.std.specs.Borrow.{Bor}
use Rattle.octets.specs.Stretch.{joined}
use Rattle.octets.specs.Each.{Each}
use Rattle.flow.specs.Flow.{flows}
use Rattle.packet.specs.Header.{sub}
use Rattle.table.specs.declared.Kind.{Kind}
use Rattle.card.specs.Hear.{flow_in}
use Rattle.card.specs.History.{Card, Call, opens, closes, hands, frames_of, answer, after}
use Rattle.ts.specs.declared.MpegPacket.{MpegPacket}
use Rattle.mpeg.specs.Frame.{Good}
use Rattle.mpeg.specs.Write as write
use Rattle.mpeg.specs.Read as read
use Rattle.mpeg.specs.HandOut.{PermitsHandOut, PermitsHandedOut}
use Rattle.mpeg.specs.Run.{Burst, no_backlog, waiting_in, run_packets, run_end, all_frames}
use Rattle.promises.specs.Words.{of_session, chosen}
use Rattle.promises.specs.Arrivals.{Kept}
use Rattle.promises.specs.Demand.{Sending, kind_on, Run, opened_card, WholeIn}
use Rattle.promises.specs.Unique.{OneOutcome, One, SameSlice}

-- A frame that a session's packet delivers, and the flow that it came on; those of one call, and of all calls, in order.
pub record Delivery : Type 0 where
  pub flow : ℕ
  pub frame : List ℕ

abbrev pub delivered_on : ℕ → List (List ℕ) → List Delivery
delivered_on flow frames = map (λ frame. record { flow = flow; frame = frame }) frames

abbrev pub delivers_to : Kind → ℕ → Card → Call → List Delivery
delivers_to kind session c (opens q) = []
delivers_to kind session c (closes id) = []
delivers_to kind session c (hands a) =
    cond (of_session session a.packet) (delivered_on (flow_in kind (sub a.packet)) (frames_of (answer c (hands a)))) []

unfoldable pub deliveries : Kind → ℕ → Card → List Call → List Delivery
deliveries kind session c [] = []
deliveries kind session c (x ∷ more) = delivers_to kind session c x ++ deliveries kind session (after c x) more

-- the frames by themselves, and those that came on one flow
abbrev pub frames_in : List Delivery → List (List ℕ)
frames_in ds = map (λ (d : Delivery). d.frame) ds

abbrev pub on_flow : ℕ → List Delivery → List Delivery
on_flow flow ds = chosen (λ (d : Delivery). eqb d.flow flow) ds

-- Frames are given to the writer, in any bursts, with any first count, and the writer is called until nothing waits. Calls enough always
-- come to that: `drained_is_empty`.
pub record Modulation (frames : List (List ℕ)) : Type 0 where
  pub count : ℕ
  pub bursts : List Burst
  pub all_given : all_frames bursts ≡ frames
  pub nothing_waits : waiting_in (run_end (no_backlog count) bursts) ≡ []

-- The packets that the writer writes, in order. They are handed out as they are, or with null packets more where no frame has begun
-- (`nulls-between`).
abbrev pub leaves : (frames : List (List ℕ)) → Modulation frames → List ℕ
leaves frames m = joined (run_packets (no_backlog m.count) m.bursts)

pub record Arrives (frames : List (List ℕ)) (m : Modulation frames) : Type 0 where
  pub taken : (read.reading (leaves frames m)).sound ≡ true
  pub these_frames : (read.reading (leaves frames m)).frames ≡ frames

-- `core_to_modulator`, for any card and any calls: what the session's packets deliver arrives, where every frame keeps W3's own rules. (One
-- that does not makes the writer answer 52 as long as it is among those given.) And what is delivered on a flow, where a run brings it
-- a sender's packets, is what demand 3 says.
abbrev pub session_frames : Kind → ℕ → Card → List Call → List (List ℕ)
session_frames kind session c calls = frames_in (deliveries kind session c calls)

-- every frame that a session delivers may be written
abbrev pub MayTravel : Kind → ℕ → Card → List Call → Type 0
MayTravel kind session c calls = Each Good (session_frames kind session c calls)

abbrev pub flow_frames : (s : Sending) → Run s → List (List ℕ)
flow_frames s r = frames_in (on_flow s.line.flow (deliveries (kind_on s.line) s.line.session (opened_card s r) r.calls))

pub record CoreToModulator : Type 0 where
  pub all_arrive : (kind : Kind) (session : ℕ) (c : Card) (calls : List Call) (m : Modulation (session_frames kind session c calls)) →
      MayTravel kind session c calls → Arrives (session_frames kind session c calls) m
  pub of_each-flow : (s : Sending) (r : Run s) → Kept (WholeIn s r) 0 s.frames (flow_frames s r)

-- `sent_may_travel`: all that a session delivers keeps W3's rules where every frame keeps them that was sent on any of its flows, by
-- senders that keep their own. What is asked of each flow is a run, as demand 3 has it, of the same card and the same calls.
pub record SentOn (kind : Kind) (session flow : ℕ) (c : Card) (calls : List Call) : Type 0 where
  pub sending : Sending
  pub run : Run sending
  pub its_kind : kind_on sending.line ≡ kind
  pub its_session : sending.line.session ≡ session
  pub its_flow : sending.line.flow ≡ flow
  pub its_card : opened_card sending run ≡ c
  pub its_calls : run.calls ≡ calls
  pub may_travel : Each (λ f. Good (joined f)) sending.frames

abbrev pub SentMayTravel : Type 0
SentMayTravel =
    (kind : Kind) (session : ℕ) (c : Card) (calls : List Call) →
    ((flow : ℕ) → flow < flows → SentOn kind session flow c calls) → MayTravel kind session c calls

-- `unique_mpeg`: the writer, the reader, the hand-out, and its copy, as the struct that crosses to C
abbrev pub UniqueMpeg : Type 0
UniqueMpeg =
    ((a : write.Asked) → One (write.PermitsWrite a))
    × ((a : read.AskedRead) → One (read.PermitsRead a))
    × ((queue null : Bor (List ℕ)) → OneOutcome SameSlice (PermitsHandOut queue null))
    × ((queue : List ℕ) → One (λ (p : MpegPacket). PermitsHandedOut queue p.bytes))
