-- How single fates show in counts and slices, and that two fates one behind the other show as one (`placed_then`). Each way out of the
-- code's functions is one law here, with what the code has counted and stored as arguments; a function's own proof cites it.
use Rattle.std.proofs.Common.{◌≡◌, ℕ, zero, suc, ◌+◌, ◌<◌, ◌≤◌, Bool, true, false, cond, not, ◌&&◌, eqb, List, [], ◌∷◌, ◌++◌, length, sym}
use Rattle.std.proofs.Common.{refl, ap, ◌∙◌, true≢false, add-one, arith, length-append, le-ltb, lt-ltb, eq-eqb, ne_eqb, eqb-true}
use Rattle.octets.specs.Stretch.{part, put, joined, lengths_of}
use Rattle.octets.specs.Count.{up_to}
use Rattle.octets.proofs.Stretches.{length_part, length-put, length-lengths_of, put-nil, put_more, put_same, part-put, part_none}
use Rattle.octets.proofs.Stretches.{joined-none, joined_one, joined-append, length-joined-none, lengths_of-none, lengths_of_one}
use Rattle.octets.proofs.Stretches.{lengths_of-append}
use Rattle.packet.specs.Segments.{begins_in, ends_in, Segment}
use Rattle.join.specs.declared.Tally.{Tally}
use Rattle.join.specs.Join.{Fate, delivering, dropping, keeping, and_then, settled_by, settled, fate_by, fate, at_gap, in_order}
use Rattle.join.specs.Slices.{Slices}
use Rattle.join.specs.Inside.{nothing_yet, begun, Placed}
use Rattle.join.proofs.Account.{Accounts, in_order-next}

-- Single fates.
module _ (place : ℕ) (a : Tally) (s : Slices) (bytes : List ℕ) (r : Tally) where
  pub placed_dropping : r.held ≡ 0 → r.frames ≡ a.frames → r.bytes ≡ a.bytes → r.dropped ≡ a.dropped + length bytes →
      Placed (dropping bytes) place a s r s
  placed_dropping h f b d =
      record {
        held_now = h;
        frames_more = omega arith;
        bytes_more = omega (arith, length-joined-none);
        dropped_more = d;
        holding_now = sym (put-nil s.holding place);
        output_now = rw joined-none (sym (put-nil s.output a.bytes));
        lengths_now = rw lengths_of-none (sym (put-nil s.lengths a.frames));
      }

  pub placed_delivering : (s' : Slices) → s'.holding ≡ s.holding → s'.output ≡ put s.output a.bytes bytes →
      s'.lengths ≡ put s.lengths a.frames (length bytes ∷ []) →
      r.held ≡ 0 → r.frames ≡ a.frames + 1 → r.bytes ≡ a.bytes + length bytes → r.dropped ≡ a.dropped →
      Placed (delivering bytes) place a s r s'
  placed_delivering s' same out lengths h f b d =
      record {
        held_now = h;
        frames_more = f;
        bytes_more = rw (joined_one bytes) b;
        dropped_more = omega arith;
        holding_now = same ∙ sym (put-nil s.holding place);
        output_now = rw (joined_one bytes) out;
        lengths_now = rw (lengths_of_one bytes) lengths;
      }

  pub placed_keeping : (s' : Slices) → s'.holding ≡ put s.holding place bytes → s'.output ≡ s.output → s'.lengths ≡ s.lengths →
      r.held ≡ length bytes → r.frames ≡ a.frames → r.bytes ≡ a.bytes → r.dropped ≡ a.dropped →
      Placed (keeping bytes) place a s r s'
  placed_keeping s' hold out lengths h f b d =
      record {
        held_now = h;
        frames_more = omega arith;
        bytes_more = omega (arith, length-joined-none);
        dropped_more = omega arith;
        holding_now = hold;
        output_now = out ∙ rw joined-none (sym (put-nil s.output a.bytes));
        lengths_now = lengths ∙ rw lengths_of-none (sym (put-nil s.lengths a.frames));
      }

-- Joined bytes, by the two tests.
pub settled_long : (longest : ℕ) (ends : Bool) (bytes : List ℕ) → longest < length bytes → settled longest ends bytes ≡ dropping bytes
unfolding settled settled_by
settled_long longest ends bytes h = rw (lt-ltb longest (length bytes) h) refl

pub settled-whole : (longest : ℕ) (ends : Bool) (bytes : List ℕ) → length bytes ≤ longest → ends ≡ true →
    settled longest ends bytes ≡ delivering bytes
unfolding settled settled_by
settled-whole longest ends bytes h e = rw (le-ltb longest (length bytes) h, e) refl

pub settled_open : (longest : ℕ) (ends : Bool) (bytes : List ℕ) → length bytes ≤ longest → ends ≡ false →
    settled longest ends bytes ≡ keeping bytes
unfolding settled settled_by
settled_open longest ends bytes h e = rw (le-ltb longest (length bytes) h, e) refl

-- A segment, by its B and by whether nothing is held.
pub fate-begins : (longest : ℕ) (held : List ℕ) (s : Segment) → s.begins ≡ true →
    fate longest held s ≡ and_then (dropping held) (settled longest s.ends s.body)
unfolding fate fate_by
fate-begins longest held s b = rw b refl

pub fate_orphan : (longest : ℕ) (held : List ℕ) (s : Segment) → s.begins ≡ false → length held ≡ 0 →
    fate longest held s ≡ dropping s.body
unfolding fate fate_by
fate_orphan longest held s b z = rw (b, eq-eqb (length held) 0 z) refl

pub fate_joins : (longest : ℕ) (held : List ℕ) (s : Segment) → s.begins ≡ false → (length held ≡ 0 → ⊥) →
    fate longest held s ≡ settled longest s.ends (held ++ s.body)
unfolding fate fate_by
fate_joins longest held s b z = rw (b, ne_eqb (length held) 0 z) refl

-- One fate, and then another, where the first has left the holding slice as it was.
pub placed_then : {f g : Fate} {place : ℕ} {a b c : Tally} {s s' s'' : Slices} →
    b.bytes ≤ length s.output → b.frames ≤ length s.lengths →
    Placed f place a s b s' → s'.holding ≡ s.holding → Placed g place b s' c s'' → Placed (and_then f g) place a s c s''
placed_then {f} {g} {place} {a} {b} {c} {s} {s'} {s''} room places p same q =
    record {
      held_now = q.held_now;
      frames_more = omega (arith, length-append f.delivered g.delivered, p.frames_more, q.frames_more);
      bytes_more =
          rw (joined-append f.delivered g.delivered)
          (omega (arith, length-append (joined f.delivered) (joined g.delivered), p.bytes_more, q.bytes_more));
      dropped_more = omega (arith, length-append f.dropped g.dropped, p.dropped_more, q.dropped_more);
      holding_now = rw (← same) q.holding_now;
      output_now =
          rw (joined-append f.delivered g.delivered)
          (put_more s.output a.bytes (joined f.delivered) (joined g.delivered) b.bytes
          (omega (arith, p.bytes_more)) p.output_now p.bytes_more q.output_now);
      lengths_now =
          rw (lengths_of-append f.delivered g.delivered)
          (put_more s.lengths a.frames (lengths_of f.delivered) (lengths_of g.delivered) b.frames
          (omega (arith, p.frames_more, length-lengths_of f.delivered)) p.lengths_now
          (omega (arith, p.frames_more, length-lengths_of f.delivered)) q.lengths_now);
    }

-- Before the first segment: what the flow holds stands in its place, and a gap drops it.
pub placed_begun : (gap place held : ℕ) (s : Slices) → place + held ≤ length s.holding →
    Placed (at_gap gap (part s.holding place held)) place nothing_yet s (begun gap held) s
unfolding at_gap
placed_begun zero place held s h =
    placed_keeping place nothing_yet s (part s.holding place held) (begun zero held) s
    (sym (put_same s.holding place held h)) refl refl (sym (length_part s.holding place held h)) refl refl refl
placed_begun (suc gap) place held s h =
    placed_dropping place nothing_yet s (part s.holding place held) (begun (suc gap) held)
    refl refl refl (omega (arith, length_part s.holding place held h))

-- What a segment makes of what is held before it joins, by its B.
abbrev pub made_way : Bool → Tally → Tally
made_way begins a = cond begins (record { held = 0; frames = a.frames; bytes = a.bytes; dropped = a.dropped + a.held }) a

-- The three ways of a segment whose entry the code has read: `ends` is what it found there.
module _ (most place : ℕ) (a : Tally) (s : Slices) (body : List ℕ) (entry : ℕ) (r : Tally) (s' : Slices)
    (inside : place + a.held ≤ length s.holding) where
  abbrev held_by_now : List ℕ
  held_by_now = part s.holding place a.held

  abbrev read : Segment
  read = record { begins = begins_in entry; ends = ends_in entry; body = body }

  held-length : length held_by_now ≡ a.held
  held-length = length_part s.holding place a.held inside

  -- where what is held has made way for a segment with B, and nothing is held
  pub segment_lost : (begins : Bool) (b : Tally) → begins ≡ begins_in entry → b ≡ made_way begins a → (not begins && eqb b.held 0) ≡ true →
      r ≡ record { held = 0; frames = b.frames; bytes = b.bytes; dropped = b.dropped + length body } →
      Placed (fate most held_by_now read) place a s r s
  segment_lost true b mark e t k = absurd (true≢false (sym t))
  segment_lost false b mark e t k =
      let none : a.held ≡ 0 = rw e at (eqb-true b.held 0 t) in
      rw (fate_orphan most held_by_now read (sym mark) (held-length ∙ none))
      (placed_dropping place a s body r (rw k refl) (rw (k, e) refl) (rw (k, e) refl) (rw (k, e) refl))

  -- .. and else
  pub segment_settles : (begins ends : Bool) (b : Tally) → begins ≡ begins_in entry → ends ≡ ends_in entry → b ≡ made_way begins a →
      (not begins && eqb b.held 0) ≡ false →
      a.bytes ≤ length s.output → a.frames ≤ length s.lengths →
      Placed (settled most ends (part s.holding place b.held ++ body)) place b s r s' →
      Placed (fate most held_by_now read) place a s r s'
  segment_settles true ends b mark ended e t room places q =
      let first : Placed (dropping held_by_now) place a s b s =
      rw e (placed_dropping place a s held_by_now _ refl refl refl (omega (arith, held-length))) in
      let none : part s.holding place b.held ≡ [] = rw e (part_none s.holding place) in
      let then : Placed (settled most (ends_in entry) body) place b s r s' = rw (none, ended) at q in
      rw (fate-begins most held_by_now read (sym mark))
      (placed_then (rw e room) (rw e places) first refl then)
  segment_settles false ends b mark ended e t room places q =
      let some : length held_by_now ≡ 0 → ⊥ =
      λ z. true≢false (sym (eq-eqb b.held 0 (ap (λ (x : Tally). x.held) e ∙ sym held-length ∙ z)) ∙ t) in
      rw (fate_joins most held_by_now read (sym mark) some) (rw (ended, e) at q)

-- What the account of a fate says of the counts that show it, from the start of a call.
pub record Counted (bytes frames most : ℕ) (tally : Tally) : Type 0 where
  pub all : tally.held + tally.bytes + tally.dropped ≡ bytes
  pub frames-few : tally.frames ≤ frames
  pub held-few : tally.held ≤ most

pub placed_counted : {f : Fate} {place : ℕ} {s s' : Slices} {b : Tally} {bytes frames most : ℕ} →
    Placed f place nothing_yet s b s' → Accounts bytes frames most f → Counted bytes frames most b
placed_counted p a =
    record {
      all = omega (arith, a.all, p.held_now, p.bytes_more, p.dropped_more);
      frames-few = omega (arith, a.frames-few, p.frames_more);
      held-few = omega (arith, a.held-few, p.held_now);
    }

-- .. and of the slices: they are as long as they were
module _ {f : Fate} {place : ℕ} {s s' : Slices} {b : Tally} {bytes frames most : ℕ}
    (p : Placed f place nothing_yet s b s') (a : Accounts bytes frames most f) where
  pub holding_long : place + most ≤ length s.holding → length s'.holding ≡ length s.holding
  holding_long h = rw p.holding_now (length-put s.holding place f.held (omega (arith, a.held-few)))

  pub output_long : bytes ≤ length s.output → length s'.output ≡ length s.output
  output_long h = rw p.output_now (length-put s.output 0 (joined f.delivered) (omega (arith, a.all)))

  pub lengths_long : frames ≤ length s.lengths → length s'.lengths ≡ length s.lengths
  lengths_long h =
      rw p.lengths_now (length-put s.lengths 0 (lengths_of f.delivered)
      (omega (arith, a.frames-few, length-lengths_of f.delivered)))

  -- the held bytes are read back
  pub held-there : place + most ≤ length s.holding → part s'.holding place b.held ≡ f.held
  held-there h = rw (p.holding_now, p.held_now) (part-put s.holding place f.held (omega (arith, a.held-few)))

-- One piece more.
pub placed_next_lem : {X : Type 0} (rule : List ℕ → X → Fate) (start : Fate) (piece : ℕ → X)
    (k : ℕ) {place : ℕ} {b c : Tally} {s s' s'' : Slices} →
    b.bytes ≤ length s.output → b.frames ≤ length s.lengths →
    Placed (in_order rule start (up_to piece k)) place nothing_yet s b s' → s'.holding ≡ s.holding →
    Placed (rule (in_order rule start (up_to piece k)).held (piece k)) place b s' c s'' →
    Placed (in_order rule start (up_to piece (k + 1))) place nothing_yet s c s''
placed_next_lem rule start piece k room places p same q =
    rw (add-one k, in_order-next rule start piece k) (placed_then room places p same q)
