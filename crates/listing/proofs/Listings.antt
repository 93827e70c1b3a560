-- A listing that grows: behind the heading the lines of the entries so far, and the run stands before the next one.
use Prim.Native.Nat.{ℕ, zero, suc, ◌+◌, ◌*◌, ◌<◌, ◌≤◌}
use mathlib.Core.Path.{◌≡◌, refl, sym, ap, subst}
use mathlib.Core.List.{List}
use native.Mathlib.Omega.{arith}
use Rattle.text.specs.declared.Text.{Text}
use Rattle.text.specs.Text.{Appended, SameRoom, HasRoom}
use Rattle.text.proofs.Writing.{wrote_as, wrote_then}
use Rattle.text.proofs.Pieces.{Pieces, pieces-begin, pieces_room, pieces_turn, pieces_end}
use Rattle.capture.specs.File.{head_length, most_entries, entry_count, file_refusal}
use Rattle.capture.proofs.Checking.{is_sound}
use Rattle.replay.specs.declared.Lent.{Lent}
use Rattle.replay.specs.declared.Walk.{Walk}
use Rattle.replay.specs.Inside.{Stands, GoesOn}
use Rattle.tool.specs.Refused.{refused_line}
use Rattle.listing.specs.Listing.{heading, line_at, listing_by, listing}
use Rattle.listing.specs.Inside.{line_room}

-- The lines of a sound file, one after another, behind the heading.
pub record Listing (file : List ℕ) (headed text : Text) (w : Walk) (lent : Lent) : Type 0 where
  pub stands : Stands file w lent
  pub lines : Pieces (line_at file) (entry_count head_length file) line_room headed text w.index

pub listing-begin : {file : List ℕ} {headed : Text} {w : Walk} {lent : Lent} →
    Stands file w lent → w.index ≡ 0 → HasRoom headed 0 → Listing file headed headed w lent
listing-begin {file} {headed} s z inside =
    record {
      stands = s;
      lines =
          subst (Pieces (line_at file) (entry_count head_length file) line_room headed headed) (sym z)
          (pieces-begin (line_at file) (entry_count head_length file) line_room headed inside);
    }

module _ {file : List ℕ} {headed text : Text} {w : Walk} {lent : Lent}
    (l : Listing file headed text w lent) where
  pub line_room_lem : w.index < entry_count head_length file → HasRoom headed (line_room * most_entries) → HasRoom text line_room
  line_room_lem more room = pieces_room l.lines more (omega (arith, room, (is_sound file l.stands.sound).few))

  pub listing_turn : {text' : Text} {w' : Walk} {lent' : Lent} → w.index < entry_count head_length file →
      Appended text text' (line_at file w.index) × (text'.length ≤ text.length + line_room) → SameRoom text text' →
      GoesOn file w w' lent' → Listing file headed text' w' lent'
  listing_turn {text'} more line same on =
      record {
        stands = on.stands;
        lines =
            subst (Pieces (line_at file) (entry_count head_length file) line_room headed text') (sym on.one_on)
            (pieces_turn l.lines more line.0 same line.1);
      }

  pub listing_end : (before : Text) → Appended before headed heading → entry_count head_length file ≤ w.index →
      Appended before text (listing file)
  unfolding listing listing_by
  listing_end before first past =
      wrote_as (ap (λ (c : ℕ). listing_by c file) (sym l.stands.sound)) (wrote_then first (pieces_end l.lines past).0)

-- the listing of a refused file
pub listing-refused : (file : List ℕ) (number : ℕ) → number ≡ file_refusal file → (number ≡ 0 → ⊥) → refused_line number ≡ listing file
unfolding listing listing_by
listing-refused file zero e some = absurd (some refl)
listing-refused file (suc c) e some = ap (λ (n : ℕ). listing_by n file) e
