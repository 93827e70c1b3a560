-- Pieces that are passed on or dropped, one by one, of whatever sort: what has become of the bytes after k of them, its account, and the
-- invariant of the loop over them, with a begin, a turn and an end. Nothing is held at any time, so the whole goes without a holding slice,
-- and holds with any (`placed_anywhere`).
use Prim.Native.Nat.{ℕ, ◌+◌, ◌<◌, ◌≤◌}
use mathlib.Core.Path.{◌≡◌, refl, sym, ap}
use mathlib.Core.Bool.{Bool, true, false}
use mathlib.Core.List.{List, [], ◌∷◌}
use native.Mathlib.Omega.{arith}
use lib.ListN.{length}
use Rattle.octets.specs.Count.{sum_to, up_to}
use Rattle.octets.proofs.Counts.{sum_more, sum_below}
use Rattle.octets.proofs.Stretches.{put-nil, joined_one, length-joined-none}
use Rattle.packet.specs.Segments.{Segment}
use Rattle.join.specs.declared.Tally.{Tally}
use Rattle.join.specs.Join.{Fate, dropping, and_then, in_order}
use Rattle.join.specs.Slices.{as_slices, Slices, most_bytes, most_frames}
use Rattle.join.specs.Inside.{nothing_yet, Placed, Fits, Within}
use Rattle.join.proofs.Account.{Accounts, in_order_accounts}
use Rattle.join.proofs.Placing.{placed_dropping, placed_counted, output_long, lengths_long, placed_next_lem}
use Rattle.pass.specs.Pass.{passed_on, pass_all, whole_within, body_of, unnumbered_fate, carries_some, as_it_is, dmpt_fate}

-- What a walk carries: which pieces go on, the bytes of a piece, the bytes that the flow held, the pieces, how long each is, and how many
-- there are ..
pub record Load (X : Type 0) : Type 0 where
  pub goes : X → Bool
  pub body : X → List ℕ
  pub held : List ℕ
  pub piece : ℕ → X
  pub size : ℕ → ℕ
  pub count : ℕ

-- .. and what is known of it
pub record Fitting {X : Type 0} (l : Load X) : Type 0 where
  pub sized : (k : ℕ) → k < l.count → length (l.body (l.piece k)) ≡ l.size k
  pub bytes-few : length l.held + sum_to l.size l.count ≤ most_bytes
  pub frames-few : l.count ≤ most_frames

-- what has become of the bytes after k pieces, and after all
abbrev pub fate_at : {X : Type 0} → Load X → ℕ → Fate
fate_at l k = in_order (λ before x. passed_on (l.goes x) (l.body x)) (dropping l.held) (up_to l.piece k)

-- Each piece has one fate.
pub passed_accounts : (goes : Bool) (bytes : List ℕ) → Accounts (length bytes) 1 0 (passed_on goes bytes)
passed_accounts true bytes =
    record { all = omega (arith, ap length (joined_one bytes)); frames-few = omega arith; held-few = omega arith }
passed_accounts false bytes =
    record { all = omega (arith, length-joined-none); frames-few = omega arith; held-few = omega arith }

first_accounts : (held : List ℕ) → Accounts (length held) 0 0 (dropping held)
first_accounts held = record { all = omega (arith, length-joined-none); frames-few = omega arith; held-few = omega arith }

module _ {X : Type 0} (l : Load X) (fitting : Fitting l) where
  each_accounts : (held : List ℕ) (k : ℕ) → length held ≤ 0 → k < l.count →
      Accounts (length held + l.size k) 1 0 (passed_on (l.goes (l.piece k)) (l.body (l.piece k)))
  each_accounts held k none there =
      let a = passed_accounts (l.goes (l.piece k)) (l.body (l.piece k)) in
      record { all = omega (arith, a.all, fitting.sized k there); frames-few = a.frames-few; held-few = a.held-few }

  pub fate_accounts : (k : ℕ) → k ≤ l.count → Accounts (length l.held + sum_to l.size k) k 0 (fate_at l k)
  fate_accounts k few =
      in_order_accounts (λ before x. passed_on (l.goes x) (l.body x)) (dropping l.held) l.piece l.size (length l.held) 0
      l.count (first_accounts l.held) each_accounts k few

-- The loop's invariant.
abbrev pub without : List ℕ → List ℕ → Slices
without out lengths = as_slices [] out lengths

pub record Carrying {X : Type 0} (l : Load X) (out lengths out' lengths' : List ℕ) (tally : Tally) (k : ℕ) : Type 0 where
  pub within : k ≤ l.count
  pub placed : Placed (fate_at l k) 0 nothing_yet (without out lengths) tally (without out' lengths')

-- the counts before the first piece
pub carry_begin : {X : Type 0} (l : Load X) (out lengths : List ℕ) (tally : Tally) →
    tally ≡ record { held = 0; frames = 0; bytes = 0; dropped = length l.held } → Carrying l out lengths out lengths tally 0
unfolding in_order up_to
carry_begin l out lengths tally e =
    rw e
    (record { within = omega arith; placed = placed_dropping 0 nothing_yet (without out lengths) l.held _ refl refl refl (omega arith) })

module _ {X : Type 0} (l : Load X) (fitting : Fitting l) {out lengths : List ℕ}
    (room : most_bytes ≤ length out) (places : most_frames ≤ length lengths)
    {out' lengths' : List ℕ} {tally : Tally} {k : ℕ} (c : Carrying l out lengths out' lengths' tally k) where
  account : Accounts (length l.held + sum_to l.size k) k 0 (fate_at l k)
  account = fate_accounts l fitting k c.within

  few : length l.held + sum_to l.size k ≤ most_bytes
  few = omega (arith, fitting.bytes-few, sum_below l.size k l.count c.within)

  -- the slices are as long as they were
  pub carry_lengths : (length out' ≡ length out) × (length lengths' ≡ length lengths)
  carry_lengths = (
    output_long c.placed account (omega (arith, few)),
    lengths_long c.placed account (omega (arith, c.within, fitting.frames-few)),
  )

  pub carry_room : (most_bytes ≤ length out') × (most_frames ≤ length lengths')
  carry_room = (omega (arith, carry_lengths.0), omega (arith, carry_lengths.1))

  pub carry_within : Within tally
  carry_within =
      let n = placed_counted c.placed account in
      record {
        held-few = omega (arith, n.held-few);
        bytes-few = omega (arith, n.all, few);
        frames-few = omega (arith, n.frames-few, c.within, fitting.frames-few);
      }

  module _ (there : k < l.count) where
    pub carry_fits : Fits (l.size k) tally
    carry_fits =
        let n = placed_counted c.placed account in
        let more = sum_below l.size (k + 1) l.count (omega arith) in
        record {
          held-few = omega (arith, n.held-few);
          bytes-few = omega (arith, n.all, more, sum_more l.size k, fitting.bytes-few);
          frames-few = omega (arith, n.frames-few, fitting.frames-few);
        }

    pub carry_turn : (r : Tally) (out'' lengths'' : List ℕ) →
        Placed (passed_on (l.goes (l.piece k)) (l.body (l.piece k))) 0 tally (without out' lengths') r (without out'' lengths'') →
        Carrying l out lengths out'' lengths'' r (k + 1)
    carry_turn r out'' lengths'' q =
        let n = placed_counted c.placed account in
        record {
          within = omega arith;
          placed =
              placed_next_lem (λ before x. passed_on (l.goes x) (l.body x)) (dropping l.held) l.piece k
              (omega (arith, n.all, few)) (omega (arith, n.frames-few, fitting.frames-few)) c.placed refl q;
        }

  pub carry_end : l.count ≤ k →
      Placed (pass_all l.goes l.body l.held (up_to l.piece l.count)) 0 nothing_yet (without out lengths) tally
      (without out' lengths')
  unfolding pass_all
  carry_end over = let done : k ≡ l.count = omega (arith, c.within) in rw done at c.placed

-- A fate that holds nothing leaves any holding slice as it was.
pub placed_anywhere : {f : Fate} {out lengths out' lengths' : List ℕ} {a b : Tally} →
    Placed f 0 a (without out lengths) b (without out' lengths') → f.held ≡ [] →
    (hold : List ℕ) (place : ℕ) → Placed f place a (as_slices hold out lengths) b (as_slices hold out' lengths')
placed_anywhere {f} p none hold place =
    record {
      held_now = p.held_now;
      frames_more = p.frames_more;
      bytes_more = p.bytes_more;
      dropped_more = p.dropped_more;
      holding_now = rw none (sym (put-nil hold place));
      output_now = p.output_now;
      lengths_now = p.lengths_now;
    }

-- .. and nothing is held after any number of pieces, whatever they are
module _ {X : Type 0} (goes : X → Bool) (body : X → List ℕ) where
  holds_none : (f : Fate) → f.held ≡ [] → (xs : List X) → (in_order (λ before x. passed_on (goes x) (body x)) f xs).held ≡ []
  unfolding in_order
  holds_none f none [] = none
  holds_none f none (x ∷ xs) = holds_none (and_then f (passed_on (goes x) (body x))) (by_test (goes x) (body x)) xs
    where
      by_test : (goes : Bool) (bytes : List ℕ) → (passed_on goes bytes).held ≡ []
      by_test true bytes = refl
      by_test false bytes = refl

  pub pass_holds_none : (held : List ℕ) (xs : List X) → (pass_all goes body held xs).held ≡ []
  unfolding pass_all
  pass_holds_none held xs = holds_none (dropping held) refl xs

pub unnumbered_holds_none : (longest : ℕ) (held : List ℕ) (segs : List Segment) → (unnumbered_fate longest held segs).held ≡ []
unfolding unnumbered_fate
unnumbered_holds_none longest held segs = pass_holds_none (whole_within longest) body_of held segs

pub dmpt_holds_none : (held : List ℕ) (packets : List (List ℕ)) → (dmpt_fate held packets).held ≡ []
unfolding dmpt_fate
dmpt_holds_none held packets = pass_holds_none carries_some as_it_is held packets
