-- The marked cases M1 to M12 (document 01, "Marked cases"), one statement over a list. Each case of the receiver begins with an empty card,
-- on which the session of A is opened; it says what packets come before, which packet is looked at, what is answered, which frames the
-- caller then finds, and which bytes each of the session's four flows then holds in its place. (A and B are for flow 1. Of M6 and M7 the
-- paper gives the number alone: here the packet is that of M5 with another number.)
use Rattle.std.specs.Prelude.{ℕ, ◌+◌, ◌≡◌, List, [], ◌∷◌, ◌++◌, take, set, replicate}
use Rattle.octets.specs.Bytes.{two}
use Rattle.octets.specs.Stretch.{part}
use Rattle.octets.specs.Count.{up_to}
use Rattle.octets.specs.Each.{Each}
use Rattle.flow.specs.Flow.{flows}
use Rattle.packet.specs.Header.{ip}
use Rattle.table.specs.declared.Kind.TheVariants as kind
use Rattle.table.specs.Rows.{row_at, flow_at, find}
use Rattle.table.specs.Calls.{asking}
use Rattle.join.specs.Slices.{most_bytes, most_frames}
use Rattle.card.specs.Receive.{holding_size, place_of}
use Rattle.card.specs.History.{Card, Call, opens, hands, frames_of, answer, after, empty_card}
use Rattle.sender.specs.Series.{Job, Turn, start_of_frame, series_packets}

abbrev pub A : List ℕ
A =
    0x00 ∷ 0x00 ∷ 0x01 ∷ 0x01 ∷ 0x41 ∷ 0x02 ∷ 0xFF ∷ 0xFF ∷ 0xC0 ∷ 0x06 ∷ 0x80 ∷ 0x02 ∷ 0x11 ∷ 0x12 ∷ 0x13 ∷ 0x14 ∷ 0x15 ∷ 0x16
    ∷ 0x21 ∷ 0x22 ∷ []

abbrev pub B : List ℕ
B = 0x00 ∷ 0x00 ∷ 0x01 ∷ 0x01 ∷ 0x41 ∷ 0x01 ∷ 0x00 ∷ 0x00 ∷ 0x40 ∷ 0x07 ∷ 0x23 ∷ 0x24 ∷ 0x25 ∷ 0x26 ∷ 0x27 ∷ 0x28 ∷ 0x29 ∷ []

-- a packet of A's session and flow with one segment; the marks are 0xC000 for B and E, 0x8000 for B, 0x4000 for E
abbrev pub single : ℕ → ℕ → ℕ → List ℕ → List ℕ
single number marks size body = 0x00 ∷ 0x00 ∷ 0x01 ∷ 0x01 ∷ 0x41 ∷ 0x01 ∷ (two number ++ two (marks + size) ++ body)

-- one whole frame of 3; the first n bytes of a frame, number 0; a last byte, number 1
abbrev pub whole3 : ℕ → List ℕ
whole3 number = single number 0xC000 3 (0x31 ∷ 0x32 ∷ 0x33 ∷ [])

abbrev pub beginning : ℕ → List ℕ
beginning n = single 0 0x8000 n (replicate n 0x44)

abbrev pub last1 : List ℕ
last1 = single 1 0x4000 1 (0x55 ∷ [])

-- what is seen of a data call: the numbers of its answer, the frames that the caller finds, and the bytes that each flow of the session
-- holds afterwards
pub record Seen : Type 0 where
  pub code : ℕ
  pub frames : ℕ
  pub bytes : ℕ
  pub dropped : ℕ
  pub gap : ℕ
  pub found : List (List ℕ)
  pub held : List (List ℕ)

-- the bytes in the places of a row, flow by flow
abbrev pub held_by_flow : Card → ℕ → List (List ℕ)
held_by_flow c r = up_to (λ k. part c.holding (place_of r k) (flow_at (row_at c.table r) k).held) flows

abbrev pub seen_of : Card → Call → Seen
seen_of c x =
    record {
      code = (answer c x).code;
      frames = (answer c x).frames;
      bytes = (answer c x).bytes;
      dropped = (answer c x).dropped;
      gap = (answer c x).gap;
      found = frames_of (answer c x);
      held = held_by_flow (after c x) (find (after c x).table 0x101);
    }

-- flow 1 holds these bytes, and the other flows none
abbrev pub on_flow1 : List ℕ → List (List ℕ)
on_flow1 held = [] ∷ held ∷ [] ∷ [] ∷ []

-- accepted: how many frames and bytes are delivered, how many bytes dropped, the gap, the frames found and the bytes held; refused: its
-- number, all counts 0, no frame, and the bytes that are held still
abbrev pub accepts : ℕ → ℕ → ℕ → ℕ → List (List ℕ) → List ℕ → Seen
accepts frames bytes dropped gap found held =
    record { code = 0; frames = frames; bytes = bytes; dropped = dropped; gap = gap; found = found; held = on_flow1 held }

abbrev pub refuses : ℕ → List ℕ → Seen
refuses code held = record { code = code; frames = 0; bytes = 0; dropped = 0; gap = 0; found = []; held = on_flow1 held }

-- a case of the receiver: the packets before, the packet, what is seen; of the sender: what it is asked for, and the packets that it sends
pub data Case : Type 0 where
  hears : List (List ℕ) → List ℕ → Seen → Case
  sends : Job → ℕ → List Turn → List (List ℕ) → Case

abbrev pub opened_card : Card
opened_card = after (empty_card (replicate holding_size 0)) (opens (asking kind.Psp 0x101))

abbrev pub hand : List ℕ → Call
hand packet = hands (record { packet = ip packet; output = replicate most_bytes 0; lengths = replicate most_frames 0 })

unfoldable pub handed-card : Card → List (List ℕ) → Card
handed-card c [] = c
handed-card c (p ∷ more) = handed-card (after c (hand p)) more

abbrev pub of6 : List ℕ
of6 = 0x11 ∷ 0x12 ∷ 0x13 ∷ 0x14 ∷ 0x15 ∷ 0x16 ∷ []

abbrev pub of9 : List ℕ
of9 = 0x21 ∷ 0x22 ∷ 0x23 ∷ 0x24 ∷ 0x25 ∷ 0x26 ∷ 0x27 ∷ 0x28 ∷ 0x29 ∷ []

abbrev pub of3 : List ℕ
of3 = 0x31 ∷ 0x32 ∷ 0x33 ∷ []

abbrev pub held2 : List ℕ
held2 = 0x21 ∷ 0x22 ∷ []

abbrev pub m12 : Job
m12 = record { session = 0x101; flow = 1; bytes = of6 ++ of9; lengths = 6 ∷ 9 ∷ [] }

abbrev pub limit16 : Turn
limit16 = record { limit = 16; output = replicate 20 0 }

-- M1 to M12, in order
abbrev pub cases : List Case
cases =
    hears [] A (accepts 1 6 0 0 (of6 ∷ []) held2)
    ∷ hears (A ∷ []) B (accepts 1 9 0 0 (of9 ∷ []) [])
    ∷ hears (A ∷ B ∷ []) B (refuses 12 [])
    ∷ hears [] B (accepts 0 0 7 0 [] [])
    ∷ hears (A ∷ []) (whole3 1) (accepts 1 3 2 1 (of3 ∷ []) [])
    ∷ hears (A ∷ []) (whole3 0x7FFF) (accepts 1 3 2 32767 (of3 ∷ []) [])
    ∷ hears (A ∷ []) (whole3 0x8000) (refuses 12 held2)
    ∷ hears (beginning 2047 ∷ []) last1 (accepts 1 2048 0 0 ((replicate 2047 0x44 ++ (0x55 ∷ [])) ∷ []) [])
    ∷ hears (beginning 2048 ∷ []) last1 (accepts 0 0 2049 0 [] [])
    ∷ hears [] (set A 5 0) (refuses 9 [])
    ∷ hears [] (take 19 A) (refuses 10 [])
    ∷ sends m12 0xFFFF (limit16 ∷ limit16 ∷ limit16 ∷ []) (A ∷ B ∷ [])
    ∷ []

abbrev pub Holds : Case → Type 0
Holds (hears before packet seen) = seen_of (handed-card opened_card before) (hand packet) ≡ seen
Holds (sends job number turns packets) = series_packets job number (start_of_frame 0) turns ≡ packets

-- `marked`
abbrev pub Marked : Type 0
Marked = Each Holds cases

-- Beside them, of the same form, what the paper's wrong turns and rules ask for and no marked case shows: a frame begun while bytes are
-- held, without a gap, drops these; a gap forbids the join though the lengths would suit; of an overlong frame without E nothing is held,
-- its tail neither; and a segment without B and E joins and is held.
abbrev pub middle1 : ℕ → List ℕ
middle1 number = single number 0 1 (0x66 ∷ [])

abbrev pub end1 : ℕ → List ℕ
end1 number = single number 0x4000 1 (0x55 ∷ [])

abbrev pub besides : List Case
besides =
    hears (A ∷ []) (whole3 0) (accepts 1 3 2 0 (of3 ∷ []) [])
    ∷ hears (A ∷ []) (set B 7 1) (accepts 0 0 9 1 [] [])
    ∷ hears (beginning 2048 ∷ []) (middle1 1) (accepts 0 0 2049 0 [] [])
    ∷ hears (beginning 2048 ∷ middle1 1 ∷ []) (end1 2) (accepts 0 0 1 0 [] [])
    ∷ hears (beginning 2 ∷ []) (middle1 1) (accepts 0 0 0 0 [] (0x44 ∷ 0x44 ∷ 0x66 ∷ []))
    ∷ hears (beginning 2 ∷ middle1 1 ∷ []) (end1 2) (accepts 1 4 0 0 ((0x44 ∷ 0x44 ∷ 0x66 ∷ 0x55 ∷ []) ∷ []) [])
    ∷ []

-- `besides_marked`
abbrev pub BesidesMarked : Type 0
BesidesMarked = Each Holds besides
