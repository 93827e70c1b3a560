-- What no call passes (document 01, "The card in numbers" and "Opening, closing, listening"): one call delivers at most 127 frames and
-- 6,144 bytes, each frame has 1 to 2,048 bytes, and the reported gap is 0 to 32,767: for every table, packet and slices. And from an empty
-- table no call makes a broken one, whatever holding slice it brings.
use Rattle.std.specs.Prelude.{ℕ, ◌≤◌, ◌<◌, ◌≡◌, false, List, length}
use Rattle.octets.specs.Each.{Each}
use Rattle.flow.specs.Flow.{longest, half, flows}
use Rattle.table.specs.Rows.{rows, row_at, empty}
use Rattle.table.specs.Broken.{broken}
use Rattle.join.specs.Slices.{most_frames, most_bytes}
use Rattle.card.specs.History.{Card, Call, frames_of, answer}
use Rattle.promises.specs.Account.{Lent, table_after_all}

-- `within_limits`
pub record InLimits (c : Card) (x : Call) : Type 0 where
  pub frames-few : (answer c x).frames ≤ most_frames
  pub bytes-few : (answer c x).bytes ≤ most_bytes
  pub gap-small : (answer c x).gap < half
  pub frames-sized : Each (λ f. (1 ≤ length f) × (length f ≤ longest)) (frames_of (answer c x))

abbrev pub WithinLimits : Type 0
WithinLimits = (c : Card) (x : Call) → InLimits c x

-- `never_broken`: nor does the table gain or lose a row, or a row a flow
pub record NeverBroken : Type 0 where
  pub unbroken : (calls : List Lent) → broken (table_after_all empty calls) ≡ false
  pub six_rows : (calls : List Lent) → length (table_after_all empty calls).rows ≡ rows
  pub four-flows : (calls : List Lent) (r : ℕ) → r < rows → length (row_at (table_after_all empty calls) r).flows ≡ flows
