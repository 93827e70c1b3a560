-- Inside: what functions promise each other on the way to a result. Nobody has to believe this file: the result is said without it.
-- Here: how sends one after another stand for the entries of a capture. The capture itself is specs/Sent.antt's of crate outputs.
use Rattle.std.specs.Prelude.{ℕ, ◌+◌, ◌*◌, ◌≤◌, ◌≡◌, true, List, [], ◌∷◌, map, length, Result, Ok, Err}
use Rattle.refusal.specs.declared.Refusal.{Refusal}
use Rattle.refusal.specs.Number.{number_of}
use Rattle.octets.specs.Stretch.{joined}
use Rattle.packet.specs.Header.{id_length, longest_packet}
use Rattle.sender.specs.declared.Frames.{Frames}
use Rattle.sender.specs.Send.{SendOutcome}
use Rattle.sender.specs.Series.{Job, packet_left}
use Rattle.capture.specs.declared.Capture.{Capture}
use Rattle.capture.specs.declared.Writer.{Writer}
use Rattle.capture.specs.Write.{added, within, Roomy, contents_after, bodies_after, Holds}
use Rattle.capture.specs.File.{opening}
use Rattle.outputs.specs.Sent.{data_of, at_first, sent_from, packets_for, first_answer}
use Rattle.pspsend.specs.declared.series.Sending.{Sending}
use Rattle.pspsend.specs.declared.series.Series.{Series}

-- room for any packet; and how many bytes of frames there can be: the program's own room for them
abbrev pub packet_room : ℕ
packet_room = longest_packet

abbrev pub most_bytes : ℕ
most_bytes = 262144

-- what all sends of a series are given
abbrev pub job_of : Sending → Frames → Job
job_of sending frames =
    record { session = sending.session; flow = sending.flow; bytes = frames.bytes.now; lengths = frames.lengths.now }

-- far from the end of counting
pub record Unhurried (w : Writer) : Type 0 where
  pub few-entries : w.entries ≤ most_bytes + 2
  pub few_bytes : w.bytes ≤ packet_room * w.entries

-- what the next send of a series answers
abbrev pub sent_next : Job → ℕ → Series → SendOutcome
sent_next job limit s = sent_from job limit s.number s.position

-- One send, and an entry for its packet: the series goes on behind it.
pub record GoesOn (o : SendOutcome) (before after : Capture) (next : Series) : Type 0 where
  pub accepted : o.answer.code ≡ 0
  pub position_next : next.position ≡ o.answer.position
  pub number_next : next.number ≡ o.answer.number
  pub counted : after.writer ≡ added before.writer (packet_left o)
  pub contents_now : after.contents.now ≡ contents_after before.contents.now before.writer (data_of (packet_left o))
  pub bodies_now : after.bodies.now ≡ bodies_after before.bodies.now before.writer (data_of (packet_left o))

-- .. or it is refused, and nothing has changed.
pub record Stops (o : SendOutcome) (before after : Capture) (why : Refusal) : Type 0 where
  pub refused : number_of why ≡ o.answer.code
  pub counted : after.writer ≡ before.writer
  pub contents_now : after.contents.now ≡ before.contents.now
  pub bodies_now : after.bodies.now ≡ before.bodies.now

abbrev pub SentOnce : Job → ℕ → Series → Capture → Capture → Result Series Refusal → Type 0
SentOnce job limit s before after (Ok next) = GoesOn (sent_next job limit s) before after next
SentOnce job limit s before after (Err why) = Stops (sent_next job limit s) before after why

-- All of them. The slices had the opening entry in them, and hold the others behind it where the file is within its limits.
pub record AllSent (job : Job) (limit number : ℕ) (before after : Capture) : Type 0 where
  pub first_accepted : first_answer job limit number ≡ 0
  pub entries-counted : after.writer.entries ≡ 1 + length (packets_for job limit number)
  pub bytes_counted : after.writer.bytes ≡ id_length + length (joined (packets_for job limit number))
  pub held : within after.writer ≡ true → (contents₀ bodies₀ : List ℕ) → Roomy contents₀ bodies₀ →
      Holds (opening job.session ∷ []) contents₀ bodies₀ before.contents.now before.bodies.now (record { entries = 1; bytes = id_length }) →
      Holds (opening job.session ∷ map data_of (packets_for job limit number)) contents₀ bodies₀
      after.contents.now after.bodies.now after.writer
  pub unhurried : Unhurried after.writer

-- .. or the first is refused, and nothing has changed.
abbrev pub SentAll : Job → ℕ → ℕ → Capture → Capture → Result (Unit {0}) Refusal → Type 0
SentAll job limit number before after (Ok u) = AllSent job limit number before after
SentAll job limit number before after (Err why) = Stops (sent_from job limit number at_first) before after why
