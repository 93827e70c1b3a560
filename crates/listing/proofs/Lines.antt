-- The lines of a listing, put together from their parts.
use Prim.Native.Nat.{ℕ}
use mathlib.Core.Path.{◌≡◌, refl, ap, ◌∙◌}
use mathlib.Core.List.{List}
use Rattle.card.specs.declared.Received.{Received}
use Rattle.card.specs.History.{Answer}
use Rattle.text.specs.Text.{decimal, column, space, newline, Wrote}
use Rattle.text.proofs.Writing.{wrote_as, wrote_then}
use Rattle.capture.specs.File.{head_length, entry_length, kind_at}
use Rattle.listing.specs.Listing.{word_for, columns, line, line_at}
use Rattle.replay.specs.Run.{answer_at}
use Rattle.replay.specs.Inside.{Counts}
use Rattle.listing.specs.Inside.{numbers_of}

-- the columns of an answer, one behind the other, and the parts of a line
pub columns-written : {t₀ t₁ t₂ t₃ t₄ t₅ : List ℕ} {at p₁ p₂ p₃ p₄ next : ℕ} (a : Answer) →
    Wrote t₀ t₁ at p₁ (column a.code) → Wrote t₁ t₂ p₁ p₂ (column a.frames) → Wrote t₂ t₃ p₂ p₃ (column a.bytes) →
    Wrote t₃ t₄ p₃ p₄ (column a.dropped) → Wrote t₄ t₅ p₄ next (column a.gap) → Wrote t₀ t₅ at next (columns a)
unfolding columns
columns-written a w₁ w₂ w₃ w₄ w₅ = wrote_then (wrote_then (wrote_then (wrote_then w₁ w₂) w₃) w₄) w₅

pub line-written : {t₀ t₁ t₂ t₃ t₄ t₅ : List ℕ} {at p₁ p₂ p₃ p₄ next : ℕ} (index kind : ℕ) (a : Answer) →
    Wrote t₀ t₁ at p₁ (decimal index) → Wrote t₁ t₂ p₁ p₂ space → Wrote t₂ t₃ p₂ p₃ (word_for kind) → Wrote t₃ t₄ p₃ p₄ (columns a) →
    Wrote t₄ t₅ p₄ next newline → Wrote t₀ t₅ at next (line index kind a)
unfolding line
line-written index kind a w₁ w₂ w₃ w₄ w₅ = wrote_then (wrote_then (wrote_then (wrote_then w₁ w₂) w₃) w₄) w₅

-- a line has nothing of an answer but its numbers, so a step's line is the one that the listing has
line_same : (index kind : ℕ) (r : Received) (a : Answer) → Counts r a → line index kind (numbers_of r) ≡ line index kind a
unfolding line columns
line_same index kind r a c = rw (c.its_code, c.its_frames, c.its_bytes, c.its_dropped, c.its_gap) refl

pub line_is : (file : List ℕ) (k kind : ℕ) (r : Received) → kind ≡ kind_at head_length entry_length file k → Counts r (answer_at file k) →
    {t₀ t₁ : List ℕ} {at next : ℕ} → Wrote t₀ t₁ at next (line k kind (numbers_of r)) → Wrote t₀ t₁ at next (line_at file k)
unfolding line_at
line_is file k kind r same counts wrote =
    wrote_as (line_same k kind r (answer_at file k) counts ∙ ap (λ (x : ℕ). line k x (answer_at file k)) same) wrote
