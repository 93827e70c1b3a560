-- Inside: what functions promise each other on the way to a result. Nobody has to believe this file: the result is said without it.
-- Here: what the reader keeps of a `Reading`: of a begun frame its size and the two bytes in which it says its length, and of the frames
-- found their number and their bytes.
use Rattle.std.specs.Prelude.{ℕ, ◌+◌, ◌^◌, ◌<◌, ◌≤◌, ◌≡◌, Bool, true, Option, Some, None, List, length}
use Rattle.octets.specs.Bytes.{byte_at}
use Rattle.octets.specs.Stretch.{joined}
use Rattle.ts.specs.Packet.{mpeg_length, counts}
use Rattle.mpeg.specs.declared.reader.Front.{Front}
use Rattle.mpeg.specs.declared.reader.Standing.{Standing}
use Rattle.mpeg.specs.Frame.{field_at, may_begin}
use Rattle.mpeg.specs.Read.{Reading, unsound}

abbrev pub front_of : List ℕ → Front
front_of begun = record { size = length begun; high = byte_at begun field_at; low = byte_at begun (field_at + 1) }

-- a reading in numbers
pub record Told : Type 0 where
  pub sound : Bool
  pub expected : ℕ
  pub begun : Front
  pub frames : ℕ
  pub bytes : ℕ

abbrev pub standing_of : Reading → Told
standing_of s =
    record {
      sound = s.sound;
      expected = s.expected;
      begun = front_of s.begun;
      frames = length s.frames;
      bytes = length (joined s.frames);
    }

-- where the reader stands once bytes have come that no run of the writer gives
abbrev pub spoilt : Told
spoilt = standing_of unsound

-- what the reader's own record tells, which it has only as long as all is sound
abbrev pub told : Option Standing → Told
told None = spoilt
told (Some s) = record { sound = true; expected = s.expected; begun = s.begun; frames = s.frames; bytes = s.bytes }

-- So little has been found that no count of it wraps in one packet more.
pub record Within (standing : Standing) : Type 0 where
  pub count_known : standing.expected ≤ counts
  pub few_bytes : standing.bytes + standing.begun.size + mpeg_length < 2 ^ 64
  pub few-frames : standing.frames ≤ standing.bytes

-- A step of the code does what a step of the definition does, whatever reading the code's numbers stand for.
abbrev pub Follows : (Reading → Reading) → Told → Told → Type 0
Follows step before behind = (s : Reading) → may_begin s.begun ≡ true → before ≡ standing_of s → behind ≡ standing_of (step s)
