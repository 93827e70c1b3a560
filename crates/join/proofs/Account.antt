-- The byte account of one packet: each rule gives every byte one fate, so what is held, delivered and dropped afterwards is what was held
-- before and what came. All bounds of the data call follow from it.
use Rattle.std.proofs.Common.{◌≡◌, ℕ, zero, suc, ◌+◌, ◌<◌, ◌≤◌, Bool, true, false, eqb, ltb, List, [], ◌∷◌, ◌++◌, length, refl, ap, arith}
use Rattle.std.proofs.Common.{length-append, ltb-false, eqb-true}
use Rattle.octets.specs.Stretch.{joined}
use Rattle.octets.specs.Count.{sum_to, up_to}
use Rattle.octets.proofs.Stretches.{joined-append, joined_one, length-joined-none}
use Rattle.packet.specs.Segments.{Segment}
use Rattle.join.specs.Join.{Fate, and_then, settled_by, settled, fate_by, fate, at_gap, in_order}

-- how many bytes a fate tells of
abbrev pub told : Fate → ℕ
told f = length f.held + length (joined f.delivered) + length f.dropped

pub record Accounts (bytes frames most : ℕ) (f : Fate) : Type 0 where
  pub all : told f ≡ bytes
  pub frames-few : length f.delivered ≤ frames
  pub held-few : length f.held ≤ most

-- Each rule accounts for the bytes it is given, and delivers one frame at most.
settled_by_lem : (long ends : Bool) (longest : ℕ) (bytes : List ℕ) → ltb longest (length bytes) ≡ long →
    Accounts (length bytes) 1 longest (settled_by long ends bytes)
unfolding settled_by
settled_by_lem true ends longest bytes h =
    record { all = omega (arith, length-joined-none); frames-few = omega arith; held-few = omega arith }
settled_by_lem false true longest bytes h =
    record { all = omega (arith, ap length (joined_one bytes)); frames-few = omega arith; held-few = omega arith }
settled_by_lem false false longest bytes h =
    record { all = omega (arith, length-joined-none); frames-few = omega arith; held-few = ltb-false longest (length bytes) h }

pub settled_accounts : (longest : ℕ) (ends : Bool) (bytes : List ℕ) → Accounts (length bytes) 1 longest (settled longest ends bytes)
unfolding settled
settled_accounts longest ends bytes = settled_by_lem (ltb longest (length bytes)) ends longest bytes refl

fate_by_lem : (begins none : Bool) (longest : ℕ) (held : List ℕ) (s : Segment) → eqb (length held) 0 ≡ none →
    Accounts (length held + length s.body) 1 longest (fate_by begins none longest held s)
unfolding fate_by
fate_by_lem true none longest held s h =
    let a = settled_accounts longest s.ends s.body in
    record {
      all = omega (arith, a.all, length-append held (settled longest s.ends s.body).dropped);
      frames-few = a.frames-few;
      held-few = a.held-few;
    }
fate_by_lem false true longest held s h =
    record { all = omega (arith, eqb-true (length held) 0 h, length-joined-none); frames-few = omega arith; held-few = omega arith }
fate_by_lem false false longest held s h = rw (← length-append held s.body) (settled_accounts longest s.ends (held ++ s.body))

pub fate_accounts : (longest : ℕ) (held : List ℕ) (s : Segment) → Accounts (length held + length s.body) 1 longest (fate longest held s)
unfolding fate
fate_accounts longest held s = fate_by_lem s.begins (eqb (length held) 0) longest held s refl

pub gap_accounts : (longest gap : ℕ) (held : List ℕ) → length held ≤ longest → Accounts (length held) 0 longest (at_gap gap held)
unfolding at_gap
gap_accounts longest zero held h = record { all = omega (arith, length-joined-none); frames-few = omega arith; held-few = h }
gap_accounts longest (suc gap) held h =
    record { all = omega (arith, length-joined-none); frames-few = omega arith; held-few = omega arith }

-- a segment with E leaves nothing held
settled-ends : (long : Bool) (bytes : List ℕ) → (settled_by long true bytes).held ≡ []
unfolding settled_by
settled-ends true bytes = refl
settled-ends false bytes = refl

ends_by : (begins none : Bool) (longest : ℕ) (held : List ℕ) (s : Segment) → s.ends ≡ true → (fate_by begins none longest held s).held ≡ []
unfolding fate_by settled
ends_by true none longest held s e = rw e (settled-ends (ltb longest (length s.body)) s.body)
ends_by false true longest held s e = refl
ends_by false false longest held s e = rw e (settled-ends (ltb longest (length (held ++ s.body))) (held ++ s.body))

pub fate-ends : (longest : ℕ) (held : List ℕ) (s : Segment) → s.ends ≡ true → (fate longest held s).held ≡ []
unfolding fate
fate-ends longest held s e = ends_by s.begins (eqb (length held) 0) longest held s e

-- One fate, and then another that takes over what was held.
pub then_accounts : (f g : Fate) (bytes frames most more most' : ℕ) → Accounts bytes frames most f →
    Accounts (length f.held + more) 1 most' g → Accounts (bytes + more) (frames + 1) most' (and_then f g)
then_accounts f g bytes frames most more most' a b =
    record {
      all =
          rw (joined-append f.delivered g.delivered)
          (omega (
            arith,
            a.all,
            b.all,
            length-append (joined f.delivered) (joined g.delivered),
            length-append f.dropped g.dropped,
          ));
      frames-few = omega (arith, a.frames-few, b.frames-few, length-append f.delivered g.delivered);
      held-few = b.held-few;
    }

-- Pieces in order: one piece more.
module _ {X : Type 0} (rule : List ℕ → X → Fate) where
  pub in_order_more : (f : Fate) (xs : List X) (x : X) →
      in_order rule f (xs ++ (x ∷ [])) ≡ and_then (in_order rule f xs) (rule (in_order rule f xs).held x)
  unfolding in_order
  in_order_more f [] x = refl
  in_order_more f (y ∷ xs) x = in_order_more (and_then f (rule f.held y)) xs x

  pub in_order-next : (f : Fate) (piece : ℕ → X) (k : ℕ) →
      in_order rule f (up_to piece (suc k))
      ≡ and_then (in_order rule f (up_to piece k)) (rule (in_order rule f (up_to piece k)).held (piece k))
  unfolding up_to
  in_order-next f piece k = in_order_more f (up_to piece k) (piece k)

  -- a rule that accounts for what is held and for each piece accounts for all of them, frame by frame
  pub in_order_accounts : (f : Fate) (piece : ℕ → X) (size : ℕ → ℕ) (bytes most n : ℕ) → Accounts bytes 0 most f →
      ((held : List ℕ) (k : ℕ) → length held ≤ most → k < n → Accounts (length held + size k) 1 most (rule held (piece k))) →
      (k : ℕ) → k ≤ n → Accounts (bytes + sum_to size k) k most (in_order rule f (up_to piece k))
  unfolding in_order up_to sum_to
  in_order_accounts f piece size bytes most n first each zero l =
      record { all = omega (arith, first.all); frames-few = first.frames-few; held-few = first.held-few }
  in_order_accounts f piece size bytes most n first each (suc k) l =
      let so_far = in_order rule f (up_to piece k) in
      let a = in_order_accounts f piece size bytes most n first each k (omega arith) in
      let b = then_accounts so_far (rule so_far.held (piece k)) (bytes + sum_to size k) k most (size k) most a
      (each so_far.held k a.held-few (omega arith)) in
      rw (in_order_more f (up_to piece k) (piece k))
      (record { all = omega (arith, b.all); frames-few = omega (arith, b.frames-few); held-few = b.held-few })
