-- Inside: what functions promise each other on the way to a result. Nobody has to believe this file: the result is said without it.
-- Here: where a run stands, and what a step of it answers. What a capture comes to is specs/Run.antt's.
use Rattle.std.specs.Prelude.{ℕ, ◌+◌, ◌≤◌, ◌≡◌, List, length, replicate}
use Rattle.octets.specs.Bytes.{byte_at}
use Rattle.octets.specs.Count.{sum_to}
use Rattle.table.specs.declared.Table.{Table}
use Rattle.table.specs.Rows.{empty}
use Rattle.join.specs.Slices.{most_frames, most_bytes}
use Rattle.card.specs.declared.Received.{Received}
use Rattle.card.specs.Receive.{holding_size}
use Rattle.card.specs.History.{Answer}
use Rattle.capture.specs.File.{Entry, head_length, entry_length, entry_count, kind_at, body_start, file_refusal}
use Rattle.replay.specs.declared.Lent.{Lent}
use Rattle.replay.specs.declared.Rooms.{Rooms}
use Rattle.replay.specs.declared.Walk.{Walk}
use Rattle.replay.specs.declared.Stepped.{Stepped}
use Rattle.replay.specs.Run.{Running, answer_to, run_one, standing, answer_at}

-- a table and the slices, as a run has them
abbrev pub as_running : Table → Lent → Running
as_running t lent =
    record { card = record { table = t; holding = lent.holding.now }; output = lent.output.now; lengths = lent.lengths.now }

-- The same slices are lent afterwards, and they are as long as before: so who lent them finds there what is said of their elements.
pub record StillLent (before after : Lent) : Type 0 where
  pub holding-same : after.holding.ghost_name ≡ before.holding.ghost_name
  pub output-same : after.output.ghost_name ≡ before.output.ghost_name
  pub lengths-same : after.lengths.ghost_name ≡ before.lengths.ghost_name
  pub holding-size : length after.holding.now ≡ length before.holding.now
  pub output-size : length after.output.now ≡ length before.output.now
  pub lengths-size : length after.lengths.now ≡ length before.lengths.now

-- the answer of a call that delivers nothing
abbrev pub answered : ℕ → ℕ → Table → Received
answered code dropped t = record { code = code; frames = 0; bytes = 0; dropped = dropped; gap = 0; table = t }

-- the numbers of an answer
pub record Counts (r : Received) (a : Answer) : Type 0 where
  pub its_code : r.code ≡ a.code
  pub its_frames : r.frames ≡ a.frames
  pub its_bytes : r.bytes ≡ a.bytes
  pub its_dropped : r.dropped ≡ a.dropped
  pub its_gap : r.gap ≡ a.gap

-- an entry was run: its numbers, and how things stand afterwards
pub record RunsTo (before : Running) (e : Entry) (r : Received) (lent : Lent) : Type 0 where
  pub its_counts : Counts r (answer_to before e)
  pub stands : as_running r.table lent ≡ run_one before e

-- the slices of a run are as long as any call needs, and no longer
pub record Sized (lent : Lent) : Type 0 where
  pub holding_size : length lent.holding.now ≡ holding_size
  pub output-size : length lent.output.now ≡ most_bytes
  pub lengths-size : length lent.lengths.now ≡ most_frames

-- A walk stands before an entry of a sound file, or behind the last: where that entry's body starts, and how the run stands there.
pub record Stands (file : List ℕ) (w : Walk) (lent : Lent) : Type 0 where
  pub sound : file_refusal file ≡ 0
  pub within : w.index ≤ entry_count head_length file
  pub its_start : w.start ≡ body_start head_length entry_length file w.index
  pub its_run : as_running w.table lent ≡ standing file w.index
  pub sized : Sized lent

-- before the first entry, with an empty table
pub record Begins (file : List ℕ) (w : Walk) : Type 0 where
  pub at_first : w.index ≡ 0
  pub first-start : w.start ≡ body_start head_length entry_length file 0
  pub empty-table : w.table ≡ empty

-- rooms of zeros, and rooms lent as they are
pub record Zeros (rooms : Rooms) : Type 0 where
  pub holding-zero : rooms.holding ≡ replicate holding_size 0
  pub output-zero : rooms.output ≡ replicate most_bytes 0
  pub lengths-zero : rooms.lengths ≡ replicate most_frames 0

pub record AsTheyAre (rooms : Rooms) (lent : Lent) : Type 0 where
  pub holding-is : lent.holding.now ≡ rooms.holding
  pub output-is : lent.output.now ≡ rooms.output
  pub lengths-is : lent.lengths.now ≡ rooms.lengths

-- a sound file, and slices of zeros to run it with
pub record Unused (file : List ℕ) (lent : Lent) : Type 0 where
  pub sound : file_refusal file ≡ 0
  pub holding-zero : lent.holding.now ≡ replicate holding_size 0
  pub output-zero : lent.output.now ≡ replicate most_bytes 0
  pub lengths-zero : lent.lengths.now ≡ replicate most_frames 0

-- one entry further on
pub record GoesOn (file : List ℕ) (w further : Walk) (lent : Lent) : Type 0 where
  pub stands : Stands file further lent
  pub one_on : further.index ≡ w.index + 1

-- A step: the entry's kind and the numbers of its answer, and that the walk goes on.
pub record Steps (file : List ℕ) (w : Walk) (s : Stepped) (further : Walk) (lent : Lent) : Type 0 where
  pub its_kind : s.kind ≡ kind_at head_length entry_length file w.index
  pub its_counts : Counts s.answer (answer_at file w.index)
  pub goes_on : GoesOn file w further lent

-- the frames of a call lie in the slices
pub record Findable (output lengths : List ℕ) (count : ℕ) : Type 0 where
  pub few : count ≤ most_frames
  pub all_short : sum_to (byte_at lengths) count ≤ most_bytes
  pub lengths_long : most_frames ≤ length lengths
  pub output_long : most_bytes ≤ length output
