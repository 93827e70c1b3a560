-- Segments one after another, told from the front: the frames that they give, and what is left held behind them. The join rule adds up what
-- became of the bytes so far; here each segment stands first, so that a proof can go along the list.
use Prim.Native.Nat.{ℕ, zero, suc, ◌≤◌}
use mathlib.Core.Path.{◌≡◌, refl, sym, ap, ◌∙◌}
use mathlib.Core.Bool.{Bool, true, false}
use mathlib.Core.List.{List, [], ◌∷◌, ◌++◌, append-nil, append_assoc}
use native.Mathlib.Omega.{arith}
use lib.ListN.{length}
use lib.Dec.{ltb, eqb}
use borrow.Author.Tests.{le-ltb, ne_eqb}
use Rattle.flow.specs.Flow.{longest}
use Rattle.packet.specs.Segments.{Segment}
use Rattle.join.specs.Join.{Fate, dropping, and_then, settled_by, settled, fate_by, fate, at_gap, in_order, psp_fate}

abbrev pub given : List ℕ → List Segment → List (List ℕ)
given held [] = []
given held (s ∷ more) = (fate longest held s).delivered ++ given (fate longest held s).held more

abbrev pub left : List ℕ → List Segment → List ℕ
left held [] = held
left held (s ∷ more) = left (fate longest held s).held more

-- what is still held behind a gap
abbrev pub behind : ℕ → List ℕ → List ℕ
behind zero held = held
behind (suc gap) held = []

pub behind_nothing : (gap : ℕ) → behind gap [] ≡ []
behind_nothing zero = refl
behind_nothing (suc gap) = refl

in_order-gives : (f : Fate) (segs : List Segment) → (in_order (fate longest) f segs).delivered ≡ f.delivered ++ given f.held segs
unfolding in_order
in_order-gives f [] = sym (append-nil f.delivered)
in_order-gives f (s ∷ more) =
    let r = fate longest f.held s in
    in_order-gives (and_then f r) more ∙ append_assoc f.delivered r.delivered (given r.held more)

in_order-leaves : (f : Fate) (segs : List Segment) → (in_order (fate longest) f segs).held ≡ left f.held segs
unfolding in_order
in_order-leaves f [] = refl
in_order-leaves f (s ∷ more) = in_order-leaves (and_then f (fate longest f.held s)) more

-- an accepted packet: its gap, then its segments
pub packet-gives : (gap : ℕ) (held : List ℕ) (segs : List Segment) →
    (psp_fate longest gap held segs).delivered ≡ given (behind gap held) segs
unfolding psp_fate at_gap
packet-gives zero held segs = in_order-gives (at_gap zero held) segs
packet-gives (suc gap) held segs = in_order-gives (at_gap (suc gap) held) segs

pub packet-leaves : (gap : ℕ) (held : List ℕ) (segs : List Segment) → (psp_fate longest gap held segs).held ≡ left (behind gap held) segs
unfolding psp_fate at_gap
packet-leaves zero held segs = in_order-leaves (at_gap zero held) segs
packet-leaves (suc gap) held segs = in_order-leaves (at_gap (suc gap) held) segs

-- One segment, where all is short enough: B begins a frame, ..
settled-short : (ends : Bool) (bytes : List ℕ) → length bytes ≤ longest → settled longest ends bytes ≡ settled_by false ends bytes
unfolding settled
settled-short ends bytes l = rw (le-ltb longest (length bytes) l)

pub fate-begins : (ends : Bool) (held piece : List ℕ) → length piece ≤ longest →
    fate longest held (record { begins = true; ends = ends; body = piece }) ≡ and_then (dropping held) (settled_by false ends piece)
unfolding fate fate_by
fate-begins ends held piece l = ap (and_then (dropping held)) (settled-short ends piece l)

-- .. without B it joins what is held, ..
pub fate_joins : (ends : Bool) (x : ℕ) (held piece : List ℕ) → length ((x ∷ held) ++ piece) ≤ longest →
    fate longest (x ∷ held) (record { begins = false; ends = ends; body = piece }) ≡ settled_by false ends ((x ∷ held) ++ piece)
unfolding fate fate_by
fate_joins ends x held piece l = rw (ne_eqb (length (x ∷ held)) 0 (λ z. omega arith)) (settled-short ends ((x ∷ held) ++ piece) l)

-- .. and is dropped where nothing is held.
pub fate_misses : (ends : Bool) (piece : List ℕ) → fate longest [] (record { begins = false; ends = ends; body = piece }) ≡ dropping piece
unfolding fate fate_by
fate_misses ends piece = refl

-- A segment without E delivers nothing.
settled-goes_on : (long : Bool) (bytes : List ℕ) → (settled_by long false bytes).delivered ≡ []
unfolding settled_by
settled-goes_on true bytes = refl
settled-goes_on false bytes = refl

goes_on_by : (begins nothing : Bool) (held : List ℕ) (s : Segment) → s.ends ≡ false →
    (fate_by begins nothing longest held s).delivered ≡ []
unfolding fate_by settled
goes_on_by true nothing held s e = rw e (settled-goes_on (ltb longest (length s.body)) s.body)
goes_on_by false true held s e = refl
goes_on_by false false held s e = rw e (settled-goes_on (ltb longest (length (held ++ s.body))) (held ++ s.body))

pub fate-goes_on : (held : List ℕ) (s : Segment) → s.ends ≡ false → (fate longest held s).delivered ≡ []
unfolding fate
fate-goes_on held s e = goes_on_by s.begins (eqb (length held) 0) held s e
