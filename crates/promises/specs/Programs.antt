-- What the programs give each other. `pspsend` makes a capture of a frames file, `pspmpeg` makes MPEG packets of a capture, and
-- `mpegframes` makes a frames file of MPEG packets; what each writes is defined in crate outputs. One behind the other they give back the
-- frames.
use Rattle.std.specs.Prelude.{ℕ, ◌<◌, ◌≡◌, false, List}
use Rattle.octets.specs.Bytes.{AllBytes}
use Rattle.octets.specs.Each.{Each}
use Rattle.octets.specs.Stretch.{joined, lengths_of}
use Rattle.flow.specs.Numbers.{modulus}
use Rattle.frames.specs.Frames.{frames_file}
use Rattle.sender.specs.Series.{Job}
use Rattle.mpeg.specs.Frame.{Good}
use Rattle.capture.specs.File.{file_refusal, file_of}
use Rattle.outputs.specs.Sent.{frames_in, spoilt, entries_for, make_refusal}
use Rattle.outputs.specs.Stream.{delivered, stream}
use Rattle.outputs.specs.Back.{got_back}

-- `stream_comes_back`: of a capture that is not refused, and whose frames W3 lets travel, `mpegframes` gets back from the packets of
-- `pspmpeg` what the capture delivers on the session
abbrev pub StreamComesBack : Type 0
StreamComesBack =
    (session : ℕ) (capture : List ℕ) → file_refusal capture ≡ 0 → Each Good (delivered session capture) →
    got_back (stream session capture) ≡ frames_file (delivered session capture)

-- what `pspsend` sends of a frames file, and the capture that it makes
abbrev pub job_for : ℕ → ℕ → List ℕ → Job
job_for session flow file =
    record { session = session; flow = flow; bytes = joined (frames_in file); lengths = lengths_of (frames_in file) }

abbrev pub capture_for : Job → ℕ → ℕ → List ℕ
capture_for job limit number = file_of (entries_for job limit number)

-- `programs_in_a_row`: a frames file that is not spoilt, whose frames W3 lets travel, and that `pspsend` refuses nothing of, comes back
-- byte for byte. The session has four bytes and the first number two, as the program's arguments have.
abbrev pub ProgramsInARow : Type 0
ProgramsInARow =
    (session flow limit number : ℕ) (file : List ℕ) → session < 4294967296 → number < modulus → AllBytes file → spoilt file ≡ false →
    Each Good (frames_in file) → make_refusal (job_for session flow file) limit number ≡ 0 →
    got_back (stream session (capture_for (job_for session flow file) limit number)) ≡ file
