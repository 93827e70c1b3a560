-- Demand 3, the third of the three demands that README begins with; what it supposes is in document 01, "Demand 3 and the next rule
-- suppose". Frames of 1 to 2,048 bytes are cut for one freshly opened PSP flow by any sender that keeps the published rules and the paper's
-- limits; the network loses, repeats and delays packets within the bound. What comes out is precisely the frames whose every packet arrived
-- before any packet sent after it, unaltered and in sending order. So where packets are only lost, one lost fewer never takes away or
-- alters a frame.
use Rattle.std.specs.Prelude.{ℕ, suc, ◌≤◌, ◌<◌, ◌≡◌, true, length, get_or}
use mathlib.Core.List.{List, [], ◌∷◌, map, Memᴰ, Sublistᴰ}
use Rattle.octets.specs.Stretch.{joined}
use Rattle.octets.specs.Each.{Each}
use Rattle.packet.specs.Header.{Packet, sub, s_set}
use Rattle.table.specs.declared.Kind.{Kind}
use Rattle.table.specs.declared.Kind.TheVariants as kind
use Rattle.table.specs.declared.Request.{Request}
use Rattle.table.specs.Calls.{asking}
use Rattle.card.specs.History.{Card, Call, opens, answer, after, after_all, empty_card}
use Rattle.sender.specs.Rules.{Pieces, Line, packet_at, KeepsRules}
use Rattle.promises.specs.Words.{packets_to, frames_out, LongEnough, StaysOpen}
use Rattle.promises.specs.Arrivals.{Window, Whole, Kept}

-- What was sent, by a sender that keeps the rules: the sizes of frames and packets, the marks, the numbers and the order are in
-- `KeepsRules`.
pub record Sending : Type 0 where
  pub line : Line
  pub frames : List Pieces
  pub unfinished : Pieces
  pub packets : List Packet
  pub keeps_rules : KeepsRules line frames unfinished packets

-- What its session was opened with, and so the kind of its row. (Both are said here alone: whoever needs the kind asks the line.)
abbrev pub opening : Line → Request
opening line = asking kind.Psp line.session

abbrev pub kind_on : Line → Kind
kind_on line = (opening line).kind

-- A run of a card, seen from one flow of a session of this kind: any calls from an empty table, then the session's opening, then any calls
-- again, none of which closes it. Among them the flow gets these packets, and no others, in the order of `arrivals`; and no packet without
-- a number, S clear, comes on the flow (document 02, W2). What else is called, for other sessions and other flows, before and after,
-- refused or not, is left open. (That each arrival was sent is not asked for: past the end of the packets stands one without bytes, which
-- is no packet of any flow.)
pub record RunOf (kind : Kind) (line : Line) (packets : List Packet) : Type 0 where
  pub holding : List ℕ
  pub before : List Call
  pub calls : List Call
  pub arrivals : List ℕ
  pub opens_now : (answer (after_all (empty_card holding) before) (opens (asking kind line.session))).code ≡ 0
  pub stays_open : StaysOpen line.session calls
  pub long_enough : LongEnough kind line.session line.flow holding calls
  pub only_these : packets_to kind line.session line.flow calls ≡ map (packet_at packets) arrivals
  pub all_numbered : Each (λ p. s_set (sub p) ≡ true) (packets_to kind line.session line.flow calls)
  pub in_window : Window arrivals

-- the card when the session has been opened
abbrev pub card_opened : (kind : Kind) (line : Line) (packets : List Packet) → RunOf kind line packets → Card
card_opened kind line packets r = after (after_all (empty_card r.holding) r.before) (opens (asking kind line.session))

-- a run that brings a sender's packets, its card, and what comes out of the flow from the opening on
abbrev pub Run : Sending → Type 0
Run s = RunOf (kind_on s.line) s.line s.packets

abbrev pub opened_card : (s : Sending) → Run s → Card
opened_card s r = card_opened (kind_on s.line) s.line s.packets r

abbrev pub comes_out : (s : Sending) → Run s → List (List ℕ)
comes_out s r = frames_out (kind_on s.line) s.line.session s.line.flow (opened_card s r) r.calls

-- frame number i arrived whole in this run
abbrev pub WholeIn : (s : Sending) → Run s → ℕ → Type 0
WholeIn s r i = Whole r.arrivals s.frames s.packets i

-- `demand_3`
abbrev pub Demand3 : Type 0
Demand3 = (s : Sending) (r : Run s) → Kept (WholeIn s r) 0 s.frames (comes_out s r)

-- numbers that rise, from `from` on: as arrivals, packets that are only lost; as frames, frames in sending order and none twice
abbrev pub Rising : ℕ → List ℕ → Type 0
Rising from [] = Unit {0}
Rising from (x ∷ more) = (from ≤ x) × Rising (suc x) more

-- The frames that come out of a run, by their numbers, so that two frames with equal bytes are told apart: in sending order, exactly those
-- that arrived whole, and what comes out is their bytes.
pub record ComeOut (s : Sending) (r : Run s) (numbers : List ℕ) : Type 0 where
  pub in_order : Rising 0 numbers
  pub were_sent : Each (λ i. i < length s.frames) numbers
  pub all_whole : Each (WholeIn s r) numbers
  pub no_other : (i : ℕ) → i < length s.frames → WholeIn s r i → Memᴰ i numbers
  pub their_bytes : comes_out s r ≡ map (λ i. joined (get_or s.frames i [])) numbers

-- `fewer_lost`: what arrives in the worse run arrives in the better one too, and packets are only lost. Then each frame that comes out of
-- the worse comes out of the better. Both keep the bound, being runs: with packet 40,000 alone arriving, and then packet 0 and packet
-- 40,000, the second run would pass over packet 40,000 as too far ahead, and it is no run.
pub record NoneLost (s : Sending) (worse better : Run s) : Type 0 where
  pub of_worse : List ℕ
  pub of_better : List ℕ
  pub come_out : ComeOut s worse of_worse
  pub come_out_too : ComeOut s better of_better
  pub among : Sublistᴰ of_worse of_better

abbrev pub FewerLost : Type 0
FewerLost =
    (s : Sending) (worse better : Run s) → Rising 0 better.arrivals → Sublistᴰ worse.arrivals better.arrivals →
    NoneLost s worse better
