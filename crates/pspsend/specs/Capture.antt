-- What making a capture answers and leaves. The capture is specs/Sent.antt's of crate outputs.
use Rattle.std.specs.Prelude.{ℕ, ◌≡◌, List, ◌++◌, Result, Ok, Err}
use Rattle.refusal.specs.declared.Refusal.{Refusal}
use Rattle.refusal.specs.Number.{number_of}
use Rattle.octets.specs.Stretch.{part}
use Rattle.sender.specs.Series.{Job}
use Rattle.capture.specs.File.{file_of}
use Rattle.outputs.specs.Sent.{entries_for, make_refusal}
use Rattle.pspsend.specs.declared.series.Made.{Made}

-- the answer as one record: 0 or the number of a refusal, and how many bytes of the contents and of the bodies are the file
pub record Answer : Type 0 where
  pub code : ℕ
  pub contents : ℕ
  pub bodies : ℕ

abbrev pub told : Result Made Refusal → Answer
told (Ok made) = record { code = 0; contents = made.contents; bodies = made.bodies }
told (Err why) = record { code = number_of why; contents = 0; bodies = 0 }

-- the file is the front of the contents and then the front of the bodies
pub record Makes (job : Job) (limit number : ℕ) (contents bodies : List ℕ) (r : Answer) : Type 0 where
  pub its_code : r.code ≡ make_refusal job limit number
  pub its_file : r.code ≡ 0 → part contents 0 r.contents ++ part bodies 0 r.bodies ≡ file_of (entries_for job limit number)
