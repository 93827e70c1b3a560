-- The trace of one entry: its line, its frames and the rows afterwards are those of the run.
use Prim.Native.Nat.{ℕ}
use mathlib.Core.Path.{◌≡◌, ap}
use mathlib.Core.List.{List, map}
use Rattle.octets.specs.Stretch.{joined}
use Rattle.card.specs.Receive.{frames_found}
use Rattle.card.specs.History.{Card}
use Rattle.text.specs.Text.{Wrote}
use Rattle.text.proofs.Writing.{wrote_then, wrote_as}
use Rattle.replay.specs.declared.Lent.{Lent}
use Rattle.replay.specs.declared.Walk.{Walk}
use Rattle.replay.specs.declared.Stepped.{Stepped}
use Rattle.replay.specs.Run.{answer_at}
use Rattle.replay.specs.Inside.{Steps}
use Rattle.replay.proofs.Standing.{card_behind, frames_found_lem}
use Rattle.listing.specs.Listing.{line}
use Rattle.listing.specs.Inside.{numbers_of}
use Rattle.listing.proofs.Lines.{line_is}
use Rattle.trace.specs.Trace.{frame_line, frames_text, rows_text, traced_at}

module _ {file : List ℕ} {w further : Walk} {s : Stepped} {lent : Lent} (stepped : Steps file w s further lent) where
  frames_are : joined (map frame_line (frames_found s.answer.frames lent.lengths.now lent.output.now))
      ≡ frames_text (answer_at file w.index)
  unfolding frames_text
  frames_are = ap (λ (l : List (List ℕ)). joined (map frame_line l)) (frames_found_lem stepped)

  pub entry_traced : {t₀ t₁ t₂ t₃ : List ℕ} {at behind-line behind-frames next : ℕ} →
      Wrote t₀ t₁ at behind-line (line w.index s.kind (numbers_of s.answer)) →
      Wrote t₁ t₂ behind-line behind-frames (joined (map frame_line (frames_found s.answer.frames lent.lengths.now lent.output.now))) →
      Wrote t₂ t₃ behind-frames next (rows_text (record { table = further.table; holding = lent.holding.now })) →
      Wrote t₀ t₃ at next (traced_at file w.index)
  unfolding traced_at
  entry_traced a b c =
      let its-line = line_is file w.index s.kind s.answer stepped.its_kind stepped.its_counts a in
      wrote_then (wrote_then its-line (wrote_as frames_are b)) (wrote_as (ap (λ (d : Card). rows_text d) (card_behind stepped)) c)
