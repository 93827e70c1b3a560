-- Pieces of text written one behind another, each in the same room. After k turns the first k pieces are written.
use Prim.Native.Nat.{ℕ, ◌+◌, ◌*◌, ◌<◌, ◌≤◌}
use mathlib.Core.Path.{◌≡◌, refl, sym, ap, ◌∙◌}
use mathlib.Core.List.{List}
use native.Mathlib.Nat.{mul-suc}
use native.Mathlib.Numerals.{add-one}
use native.Mathlib.Omega.{arith}
use lib.ListN.{length}
use Rattle.octets.specs.Count.{up_to}
use Rattle.octets.specs.Stretch.{joined}
use Rattle.octets.proofs.Numbers.{mul-before}
use Rattle.octets.proofs.Counts.{up_to_more}
use Rattle.octets.proofs.Stretches.{joined-none, joined-one_more}
use Rattle.text.specs.declared.Text.{Text}
use Rattle.text.specs.Text.{Appended, SameRoom, HasRoom}
use Rattle.text.proofs.Writing.{wrote_then, wrote_none, wrote_as}

pub record Pieces (piece : ℕ → List ℕ) (most room : ℕ) (before text : Text) (k : ℕ) : Type 0 where
  pub within : k ≤ most
  pub wrote : Appended before text (joined (up_to piece k))
  pub same_room : SameRoom before text
  pub short : text.length ≤ before.length + room * k

-- nothing is written yet
pub pieces-begin : (piece : ℕ → List ℕ) (most room : ℕ) (before : Text) → HasRoom before 0 → Pieces piece most room before before 0
unfolding up_to
pieces-begin piece most room before h =
    record {
      within = omega arith;
      wrote = wrote_as (sym joined-none) (wrote_none before.room.now before.length (omega (arith, h)));
      same_room = (refl, refl);
      short = omega arith;
    }

module _ {piece : ℕ → List ℕ} {most room : ℕ} {before text : Text} {k : ℕ} (p : Pieces piece most room before text k) where
  -- there is room for one piece more
  pub pieces_room : k < most → HasRoom before (room * most) → HasRoom text room
  pieces_room more long = omega (arith, mul-before room k most more, long, p.short, p.same_room.1)

  -- one piece more
  pub pieces_turn : {text' : Text} → k < most → Appended text text' (piece k) → SameRoom text text' → text'.length ≤ text.length + room →
      Pieces piece most room before text' (k + 1)
  pieces_turn {text'} more w same short =
      record {
        within = omega (arith, more);
        wrote = wrote_as (sym (joined-one_more (up_to piece k) (piece k)) ∙ ap joined (sym (up_to_more piece k))) (wrote_then p.wrote w);
        same_room = (same.0 ∙ p.same_room.0, same.1 ∙ p.same_room.1);
        short = omega (arith, short, p.short, mul-suc room k, ap (λ (n : ℕ). room * n) (add-one k));
      }

  -- all pieces
  pub pieces_end : most ≤ k → Appended before text (joined (up_to piece most)) × (text.length ≤ before.length + room * most)
  pieces_end past =
      let all : k ≡ most = omega (arith, p.within, past) in
      (wrote_as (ap (λ (n : ℕ). joined (up_to piece n)) all) p.wrote, omega (arith, p.short, ap (λ (n : ℕ). room * n) all))
