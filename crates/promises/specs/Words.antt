-- Words that the promises share: which calls of a history are for a session or for one of its flows, what comes out of these, and when
-- they have room.
use Rattle.std.specs.Prelude.{ℕ, ◌≤◌, ◌≡◌, Bool, true, false, cond, not, ◌&&◌, ◌||◌, List, [], ◌∷◌, ◌++◌, eqb, length}
use Rattle.octets.specs.Each.{Each}
use Rattle.packet.specs.Header.{Packet, transport_unknown, too_short, not_version3, sub, session_id}
use Rattle.table.specs.declared.Kind.{Kind}
use Rattle.join.specs.Slices.{most_bytes, most_frames}
use Rattle.card.specs.Hear.{flow_in}
use Rattle.card.specs.Receive.{holding_size}
use Rattle.card.specs.History.{Card, Call, opens, closes, hands, frames_of, answer, after}

-- Of a session are the packets with its ID. There is no telling where an ID stands in a packet by a transport that there is not (24), and
-- over UDP in one that has T set or another version (15); and a packet that is too short has none (2). These are of no session.
abbrev pub readable : Packet → Bool
readable p = not (transport_unknown p || too_short p || not_version3 p)

abbrev pub of_session : ℕ → Packet → Bool
of_session session p = readable p && eqb (session_id p) session

-- of this flow of a session of this kind
abbrev pub of_flow : Kind → ℕ → ℕ → Packet → Bool
of_flow kind session flow p = of_session session p && eqb (flow_in kind (sub p)) flow

-- the call hands in a packet of this flow; it closes this session
abbrev pub hands_to : Kind → ℕ → ℕ → Call → Bool
hands_to kind session flow (opens q) = false
hands_to kind session flow (closes id) = false
hands_to kind session flow (hands a) = of_flow kind session flow a.packet

abbrev pub closes_it : ℕ → Call → Bool
closes_it session (opens q) = false
closes_it session (closes id) = eqb id session
closes_it session (hands a) = false

-- the packets that a flow gets, in order
unfoldable pub packets_to : Kind → ℕ → ℕ → List Call → List Packet
packets_to kind session flow [] = []
packets_to kind session flow (opens q ∷ more) = packets_to kind session flow more
packets_to kind session flow (closes id ∷ more) = packets_to kind session flow more
packets_to kind session flow (hands a ∷ more) =
    cond (of_flow kind session flow a.packet) (a.packet ∷ packets_to kind session flow more) (packets_to kind session flow more)

-- the frames that come out of the calls for that flow, in order, as the caller finds them in the output
unfoldable pub frames_out : Kind → ℕ → ℕ → Card → List Call → List (List ℕ)
frames_out kind session flow c [] = []
frames_out kind session flow c (x ∷ more) =
    cond (hands_to kind session flow x) (frames_of (answer c x)) [] ++ frames_out kind session flow (after c x) more

-- The slices are long enough for this flow: the holding slice, and the two that each of its packets is handed in with. (What others lend
-- is their own affair: a call of theirs with less is refused by 1.)
abbrev pub Room : Call → Type 0
Room (opens q) = Unit {0}
Room (closes id) = Unit {0}
Room (hands a) = (most_bytes ≤ length a.output) × (most_frames ≤ length a.lengths)

abbrev pub LongEnough : Kind → ℕ → ℕ → List ℕ → List Call → Type 0
LongEnough kind session flow holding calls =
    (holding_size ≤ length holding) × Each (λ x. hands_to kind session flow x ≡ true → Room x) calls

-- those that pass a test, in order
unfoldable pub chosen : {X : Type 0} → (X → Bool) → List X → List X
chosen test [] = []
chosen test (x ∷ more) = cond (test x) (x ∷ chosen test more) (chosen test more)

-- none of the calls closes the session
abbrev pub StaysOpen : ℕ → List Call → Type 0
StaysOpen session calls = Each (λ x. closes_it session x ≡ false) calls
