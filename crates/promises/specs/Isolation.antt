-- Isolation (document 01, "Demand 3 and the next rule suppose"): after a session opens, its packets' answers and its close depend on how it
-- was opened, on its own packets since then and on the slices' sizes, on nothing of another session; and whether an open succeeds depends
-- on the set of open IDs and on what it asks for. Said as: two histories that agree on these things give the same answers.
use Rattle.std.specs.Prelude.{ℕ, ◌≡◌, cond, List, [], ◌∷◌, eqb, length}
use Rattle.octets.specs.Stretch.{part}
use Rattle.packet.specs.Header.{Packet}
use Rattle.table.specs.declared.Request.{Request}
use Rattle.table.specs.Calls.{is_open}
use Rattle.card.specs.History.{Card, Call, opens, closes, hands, Answer, answer, after, after_all, empty_card}
use Rattle.promises.specs.Words.{of_session}

-- a session's own calls: a packet, with the sizes of the two slices lent for it, or the close
pub data Own : Type 0 where
  gets : Packet → ℕ → ℕ → Own
  ends : Own

-- those of a session, up to its close
unfoldable pub own : ℕ → List Call → List Own
own session [] = []
own session (opens q ∷ more) = own session more
own session (closes id ∷ more) = cond (eqb id session) (ends ∷ []) (own session more)
own session (hands a ∷ more) =
    cond (of_session session a.packet) (gets a.packet (length a.output) (length a.lengths) ∷ own session more) (own session more)

-- What the session is told is an answer with its two slices cut to what was delivered. (Behind that both are as they were lent.)
abbrev pub Told : Type 0
Told = Answer

abbrev pub told_by : Answer → Told
told_by a =
    record {
      code = a.code;
      frames = a.frames;
      bytes = a.bytes;
      dropped = a.dropped;
      gap = a.gap;
      output = part a.output 0 a.bytes;
      lengths = part a.lengths 0 a.frames;
    }

-- what it is told in answer to its own calls, up to its close
unfoldable pub told : ℕ → Card → List Call → List Told
told session c [] = []
told session c (opens q ∷ more) = told session (after c (opens q)) more
told session c (closes id ∷ more) =
    cond (eqb id session) (told_by (answer c (closes id)) ∷ []) (told session (after c (closes id)) more)
told session c (hands a ∷ more) =
    cond (of_session session a.packet)
    (told_by (answer c (hands a)) ∷ told session (after c (hands a)) more)
    (told session (after c (hands a)) more)

-- a card after some calls from an empty table
abbrev pub card_after : List ℕ → List Call → Card
card_after holding calls = after_all (empty_card holding) calls

-- `isolation`
abbrev pub Isolation : Type 0
Isolation =
    (q : Request) (holding holding' : List ℕ) (before before' calls calls' : List Call) →
    length holding ≡ length holding' →
    (answer (card_after holding before) (opens q)).code ≡ 0 →
    (answer (card_after holding' before') (opens q)).code ≡ 0 →
    own q.id calls ≡ own q.id calls' →
    told q.id (after (card_after holding before) (opens q)) calls
    ≡ told q.id (after (card_after holding' before') (opens q)) calls'

-- `open_by_ids`
abbrev pub OpenByIds : Type 0
OpenByIds =
    (q : Request) (holding holding' : List ℕ) (before before' : List Call) →
    ((id : ℕ) → is_open (card_after holding before).table id ≡ is_open (card_after holding' before').table id) →
    (answer (card_after holding before) (opens q)).code ≡ (answer (card_after holding' before') (opens q)).code
