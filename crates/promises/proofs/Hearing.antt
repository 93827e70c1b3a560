-- What one packet does to a flow by itself: late, it does nothing; accepted, its gap and its segments say what comes out, and the flow
-- expects the next number.
use Prim.Native.Nat.{ℕ}
use mathlib.Core.Path.{◌≡◌, ap, ◌∙◌}
use mathlib.Core.Bool.{true, cond}
use mathlib.Core.List.{List, ◌∷◌, ◌++◌}
use lib.ListN.{length}
use Rattle.flow.specs.declared.Flow.{Flow}
use Rattle.flow.specs.Flow.{Judged}
use Rattle.flow.specs.Numbers.{next}
use Rattle.flow.specs.Flow.{heard_mark, accepted, too_late}
use Rattle.packet.specs.Header.{Packet, sub, s_set}
use Rattle.packet.specs.Segments.{entry_width}
use Rattle.table.specs.declared.Terms.{Terms}
use Rattle.card.specs.Hear.{Heard, judged_of, fate_of, hear, record_after}
use Rattle.sender.specs.Rules.{segments_of}
use Rattle.promises.proofs.Readings.{Reading, frames_read}
use Rattle.promises.proofs.Alone.{psp_terms, read_alone, frames_alone}
use Rattle.promises.proofs.FromTheFront.{given, left, behind, packet-gives, packet-leaves}

-- the record of a flow that accepted number n and holds these bytes
abbrev pub listening : ℕ → List ℕ → Flow
listening n held = record { heard = heard_mark; expected = next n; held = length held }

-- what is heard, by the judgement of the packet
abbrev pub heard_as : Terms → List ℕ → Packet → Judged → Heard
heard_as terms held packet j = record { judged = j; fate = fate_of terms j.gap held (sub packet) }

module _ {A : Type 0} (w : Reading A) (terms : Terms) (f : Flow) (held : List ℕ) (packet : Packet) (more : List Packet) where
  abbrev by : Judged → List A
  by j =
      let h = heard_as terms held packet j in
      cond j.late (w.of_late ++ read_alone w terms f held more) (w.of_heard h ++ read_alone w terms (record_after h) h.fate.held more)

  pub alone_late : judged_of f (sub packet) ≡ too_late f →
      read_alone w terms f held (packet ∷ more) ≡ w.of_late ++ read_alone w terms f held more
  unfolding read_alone hear
  alone_late e = ap by e

  pub alone_heard : (n gap : ℕ) → judged_of f (sub packet) ≡ accepted f n gap →
      let h = heard_as terms held packet (accepted f n gap) in
      read_alone w terms f held (packet ∷ more) ≡ w.of_heard h ++ read_alone w terms (record_after h) h.fate.held more
  unfolding read_alone hear
  alone_heard n gap e = ap by e

-- the frames of one that has a number and is accepted
pub frames_heard : (f : Flow) (held : List ℕ) (packet : Packet) (more : List Packet) (n gap : ℕ) → s_set (sub packet) ≡ true →
    judged_of f (sub packet) ≡ accepted f n gap →
    frames_alone f held (packet ∷ more)
    ≡ given (behind gap held) (segments_of entry_width packet)
    ++ frames_alone (listening n (left (behind gap held) (segments_of entry_width packet)))
    (left (behind gap held) (segments_of entry_width packet)) more
frames_heard f held packet more n gap set e =
    alone_heard frames_read psp_terms f held packet more n gap e
    ∙ rw (set, packet-gives gap held (segments_of entry_width packet), packet-leaves gap held (segments_of entry_width packet))
