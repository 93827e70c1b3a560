-- Calls one after another. Table and holding slice go from one call to the next, and nobody else changes them; the output and the lengths
-- slice are lent anew with each data call, with whatever stands in them.
use Rattle.std.specs.Prelude.{ℕ, List, [], ◌∷◌, Bool, eqb}
use Rattle.packet.specs.Header.{Packet}
use Rattle.table.specs.declared.Request.{Request}
use Rattle.table.specs.declared.Table.{Table}
use Rattle.table.specs.Rows.{empty}
use Rattle.table.specs.Calls.{opened, closed}
use Rattle.join.specs.Slices.{Slices, as_slices}
use Rattle.card.specs.Receive.{Outcome, received, frames_found}

-- table and holding slice between calls
pub record Card : Type 0 where
  pub table : Table
  pub holding : List ℕ

-- a packet handed in, with the slices lent for what comes out
pub record Arrival : Type 0 where
  pub packet : Packet
  pub output : List ℕ
  pub lengths : List ℕ

-- an open of a session, its close, or a packet
pub data Call : Type 0 where
  opens : Request → Call
  closes : ℕ → Call
  hands : Arrival → Call

-- What the caller sees of a call: its number and counts, and after a data call the two slices. (An open and a close lend no slices and
-- count no frames.)
pub record Answer : Type 0 where
  pub code : ℕ
  pub frames : ℕ
  pub bytes : ℕ
  pub dropped : ℕ
  pub gap : ℕ
  pub output : List ℕ
  pub lengths : List ℕ

abbrev pub plain_answer : ℕ → ℕ → Answer
plain_answer code dropped = record { code = code; frames = 0; bytes = 0; dropped = dropped; gap = 0; output = []; lengths = [] }

abbrev pub data_answer : Outcome → Answer
data_answer o =
    record {
      code = o.answer.code;
      frames = o.answer.frames;
      bytes = o.answer.bytes;
      dropped = o.answer.dropped;
      gap = o.answer.gap;
      output = o.slices.output;
      lengths = o.slices.lengths;
    }

-- the frames that the caller finds
abbrev pub frames_of : Answer → List (List ℕ)
frames_of a = frames_found a.frames a.lengths a.output

-- the slices of a data call: the card's holding slice, and the two that are lent with the packet
abbrev pub lent_with : Card → Arrival → Slices
lent_with c a = as_slices c.holding a.output a.lengths

-- what a packet comes to, handed to the card as it stands
abbrev pub handed : Card → Arrival → Outcome
handed c a = received c.table a.packet (lent_with c a)

-- whether its bytes are taken in: then each is delivered, dropped or held. Else the card stays as it is, and nothing comes out.
abbrev pub takes_in : Card → Arrival → Bool
takes_in c a = eqb (handed c a).answer.code 0

-- one call: its answer, and the card afterwards
unfoldable pub answer : Card → Call → Answer
answer c (opens q) = plain_answer (opened c.table q).code 0
answer c (closes id) = plain_answer (closed c.table id).code (closed c.table id).dropped
answer c (hands a) = data_answer (handed c a)

unfoldable pub after : Card → Call → Card
after c (opens q) = record { table = (opened c.table q).table; holding = c.holding }
after c (closes id) = record { table = (closed c.table id).table; holding = c.holding }
after c (hands a) = record { table = (handed c a).answer.table; holding = (handed c a).slices.holding }

-- all calls: their answers, and the card at the end
unfoldable pub answers : Card → List Call → List Answer
answers c [] = []
answers c (x ∷ rest) = answer c x ∷ answers (after c x) rest

unfoldable pub after_all : Card → List Call → Card
after_all c [] = c
after_all c (x ∷ rest) = after_all (after c x) rest

-- a card with an empty table; the holding slice may have anything in it
abbrev pub empty_card : List ℕ → Card
empty_card hold = record { table = empty; holding = hold }
