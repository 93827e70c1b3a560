-- D-MPT (document 01, "Opening, closing, listening"): an accepted packet delivers its MPEG packets, each a frame of 188 bytes, without
-- those whose PID is 0x1FFF, which are dropped. It holds nothing, so the holding slice stays as it was; and with S clear its number is
-- nobody's, so the table stays too.
use Rattle.std.specs.Prelude.{ℕ, ◌*◌, ◌≡◌, Bool, true, false, not, List, eqb, length}
use Rattle.packet.specs.Header.{sub, s_set}
use Rattle.ts.specs.Packet.{mpeg_length, pid, null_pid}
use Rattle.packet.specs.Dmpt.{mpegs}
use Rattle.table.specs.Rows.{is_dmpt, terms_at}
use Rattle.card.specs.Receive.{row_of}
use Rattle.card.specs.History.{Card, Arrival, hands, frames_of, answer, after}
use Rattle.promises.specs.Words.{chosen}

-- those that carry something, and those that carry nothing
abbrev pub is_null : List ℕ → Bool
is_null mpeg = eqb (pid mpeg) null_pid

abbrev pub carrying : List (List ℕ) → List (List ℕ)
carrying mpegs = chosen (λ m. not (is_null m)) mpegs

abbrev pub nulls : List (List ℕ) → List (List ℕ)
nulls mpegs = chosen is_null mpegs

-- `dmpt_delivers`, for every table and slices
pub record Delivers (c : Card) (a : Arrival) : Type 0 where
  pub frames_are : frames_of (answer c (hands a)) ≡ carrying (mpegs (sub a.packet))
  pub dropped_are : (answer c (hands a)).dropped ≡ mpeg_length * length (nulls (mpegs (sub a.packet)))
  pub holds_nothing : (after c (hands a)).holding ≡ c.holding
  pub without_number : s_set (sub a.packet) ≡ false →
      ((answer c (hands a)).gap ≡ 0) × ((after c (hands a)).table ≡ c.table)

abbrev pub DmptDelivers : Type 0
DmptDelivers =
    (c : Card) (a : Arrival) → is_dmpt (terms_at c.table (row_of c.table a.packet)).kind ≡ true →
    (answer c (hands a)).code ≡ 0 → Delivers c a
