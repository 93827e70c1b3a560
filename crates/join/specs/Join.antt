-- What becomes of bytes (document 01, "Opening, closing, listening"), and the join rule of PSP packets with a number. (The rule for packets
-- whose pieces are never joined, D-MPT's and those without a number, is crate `pass`'s.) Each rule says of every byte that it is given,
-- held or new, whether it is delivered in a frame, dropped, or held from now on. Applied to one packet after another this tells each body
-- byte's fate over any history of calls, and no count is found by taking one from another.
--
-- The longest frame is a parameter, `longest`: 2,048 bytes for every session so far.
use Rattle.std.specs.Prelude.{ℕ, zero, suc, Bool, true, false, List, [], ◌∷◌, ◌++◌, length, ◌==◌, nat_lt}
use Rattle.packet.specs.Segments.{Segment}

-- what became of some bytes: the frames delivered, the bytes dropped, and the bytes held now
pub record Fate : Type 0 where
  pub delivered : List (List ℕ)
  pub dropped : List ℕ
  pub held : List ℕ

abbrev pub delivering : List ℕ → Fate
delivering bytes = record { delivered = bytes ∷ []; dropped = []; held = [] }

abbrev pub dropping : List ℕ → Fate
dropping bytes = record { delivered = []; dropped = bytes; held = [] }

abbrev pub keeping : List ℕ → Fate
keeping bytes = record { delivered = []; dropped = []; held = bytes }

-- First the one, then the other. What is held after the first is given to the second, which says what becomes of it.
abbrev pub and_then : Fate → Fate → Fate
and_then a b = record { delivered = a.delivered ++ b.delivered; dropped = a.dropped ++ b.dropped; held = b.held }

-- What is held and the segment behind it, joined. Over the longest frame, all of it is dropped and nothing is held; else E delivers it,
-- and without E it is held. The tests are: too long, and E.
unfoldable pub settled_by : Bool → Bool → List ℕ → Fate
settled_by true ends bytes = dropping bytes
settled_by false true bytes = delivering bytes
settled_by false false bytes = keeping bytes

unfoldable pub settled : ℕ → Bool → List ℕ → Fate
settled longest ends bytes = settled_by (nat_lt longest (length bytes)) ends bytes

-- One segment. With B it drops what is held and begins a frame; without B it is dropped where nothing is held, and else joins what is.
-- The tests are: B, and nothing held.
unfoldable pub fate_by : Bool → Bool → ℕ → List ℕ → Segment → Fate
fate_by true nothing longest held s = and_then (dropping held) (settled longest s.ends s.body)
fate_by false true longest held s = dropping s.body
fate_by false false longest held s = settled longest s.ends (held ++ s.body)

unfoldable pub fate : ℕ → List ℕ → Segment → Fate
fate longest held s = fate_by s.begins (length held == 0) longest held s

-- Before the first segment of a packet: a gap above 0 drops what is held.
unfoldable pub at_gap : ℕ → List ℕ → Fate
at_gap zero held = keeping held
at_gap (suc gap) held = dropping held

-- Segments, or other pieces of a packet, in order: what became of the bytes so far, then of each further piece, by what is held when it
-- comes.
unfoldable pub in_order : {X : Type 0} → (List ℕ → X → Fate) → Fate → List X → Fate
in_order rule so_far [] = so_far
in_order rule so_far (x ∷ more) = in_order rule (and_then so_far (rule so_far.held x)) more

-- an accepted PSP packet with a number: the gap first, then its segments in order
unfoldable pub psp_fate : ℕ → ℕ → List ℕ → List Segment → Fate
psp_fate longest gap held segs = in_order (fate longest) (at_gap gap held) segs
