-- One session by itself: how it was opened, and the record and the held bytes of each of its flows. What it is told in answer to its own
-- calls is told here from these alone. There is no table and no place, so nothing of another session can be seen.
use Prim.Native.Nat.{ℕ, zero, suc}
use mathlib.Core.Bool.{Bool, cond, ◌||◌}
use mathlib.Core.List.{List, [], ◌∷◌, ◌++◌}
use lib.Dec.{eqb, ltb}
use lib.ListN.{length}
use Rattle.octets.specs.Stretch.{joined, lengths_of}
use Rattle.octets.specs.Count.{sum_to}
use Rattle.refusal.specs.Refusal.{Refusal, first, ◌when◌}
use Rattle.flow.specs.declared.Flow.{Flow}
use Rattle.flow.specs.Flow.{fresh, flows}
use Rattle.packet.specs.Header.{Packet, sub, before_session}
use Rattle.table.specs.declared.Request.{Request}
use Rattle.table.specs.declared.Terms.{Terms}
use Rattle.table.specs.Rows.{terms_of}
use Rattle.table.specs.Calls.{fresh_row}
use Rattle.join.specs.Slices.{most_bytes, most_frames}
use Rattle.card.specs.Hear.{Heard, flow_in, judged_of, hear, record_after}
use Rattle.card.specs.Receive.{holding_size, packet_refusals}
use Rattle.promises.specs.Isolation.{Own, gets, ends, Told}

-- Flows are read by number. A packet that names a flow past the last is refused, by 7 at the latest, before any record counts.
pub record Session : Type 0 where
  pub terms : Terms
  pub flow : ℕ → Flow
  pub held : ℕ → List ℕ

-- as it begins: every flow fresh, nothing held
abbrev pub begun : Request → Session
begun q = record { terms = terms_of (fresh_row q); flow = λ k. fresh; held = λ k. [] }

-- What a packet of it is refused by, in order: 1 by the lengths of the three slices, 2 to 4, 6, 7 and 9 to 11 by its kind, 12 by the
-- packet's flow. (13 and 5 are left out: no card that calls can have come to is broken, and the session is open.)
abbrev pub short : ℕ → ℕ → ℕ → Bool
short holding out lengths = ltb holding holding_size || ltb out most_bytes || ltb lengths most_frames

-- the flow that a packet of it names
abbrev pub flow_of_it : Session → List ℕ → ℕ
flow_of_it a sub = flow_in a.terms.kind sub

abbrev pub behind_id : Session → List ℕ → List Refusal
behind_id a sub = packet_refusals a.terms sub ++ (12 when (judged_of (a.flow (flow_of_it a sub)) sub).late ∷ [])

abbrev pub refusal : ℕ → Session → Packet → ℕ → ℕ → ℕ
refusal holding a packet out lengths =
    first (1 when short holding out lengths ∷ before_session packet ++ behind_id a (sub packet))

-- What its flow makes of a packet, and the session afterwards.
abbrev pub hears : Session → List ℕ → Heard
hears a sub = hear a.terms (a.flow (flow_of_it a sub)) (a.held (flow_of_it a sub)) sub

abbrev pub changed : {X : Type 0} → ℕ → X → (ℕ → X) → ℕ → X
changed k new old j = cond (eqb j k) new (old j)

abbrev pub hearing : ℕ → Heard → Session → Session
hearing k h a =
    record { terms = a.terms; flow = changed k (record_after h) a.flow; held = changed k h.fate.held a.held }

-- what it is told of what was heard, of a refusal, and at its close
abbrev pub told_of : Heard → Told
told_of h =
    record {
      code = 0;
      frames = length h.fate.delivered;
      bytes = length (joined h.fate.delivered);
      dropped = length h.fate.dropped;
      gap = h.judged.gap;
      output = joined h.fate.delivered;
      lengths = lengths_of h.fate.delivered;
    }

abbrev pub told_only : ℕ → ℕ → Told
told_only code dropped = record { code = code; frames = 0; bytes = 0; dropped = dropped; gap = 0; output = []; lengths = [] }

abbrev pub held_by_session : Session → ℕ
held_by_session a = sum_to (λ k. (a.flow k).held) flows

-- by the number of the first refusal that applies
abbrev pub told_at : ℕ → Session → List ℕ → Told
told_at zero a sub = told_of (hears a sub)
told_at (suc n) a sub = told_only (suc n) 0

abbrev pub session_at : ℕ → Session → List ℕ → Session
session_at zero a sub = hearing (flow_of_it a sub) (hears a sub) a
session_at (suc n) a sub = a

-- What it is told in answer to its own calls, up to its close. `holding` is the length of the holding slice.
unfoldable pub told_alone : ℕ → Session → List Own → List Told
told_alone holding a [] = []
told_alone holding a (gets packet out lengths ∷ more) =
    let n = refusal holding a packet out lengths in
    told_at n a (sub packet) ∷ told_alone holding (session_at n a (sub packet)) more
told_alone holding a (ends ∷ more) = told_only 0 (held_by_session a) ∷ []
