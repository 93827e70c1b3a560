-- One packet on one flow (document 01, "Opening, closing, listening"; document 02, W2): the step of one flow. There is no table here and
-- there are no places. The flow's record and the bytes that it holds go in; the next record, the gap and what became of the bytes come
-- out. The packet is accepted: no refusal applies. `sub` is what follows its session ID.
use Rattle.std.specs.Prelude.{ℕ, Bool, true, false, cond, List, length}
use Rattle.flow.specs.declared.Flow.{Flow}
use Rattle.flow.specs.Flow.{Judged}
use Rattle.flow.specs.Flow.{judge, unnumbered}
use Rattle.packet.specs.Header.{s_set, flow_id, number}
use Rattle.packet.specs.Segments.{Segment, entry_width, segments}
use Rattle.packet.specs.Dmpt.{mpegs}
use Rattle.table.specs.declared.Kind.{Kind}
use Rattle.table.specs.declared.Terms.{Terms}
use Rattle.table.specs.Rows.{is_dmpt}
use Rattle.join.specs.Join.{Fate, psp_fate}
use Rattle.pass.specs.Pass.{unnumbered_fate, dmpt_fate}

-- With S set the number is judged; with S clear there is none, whatever the field says: the gap is 0, the packet is never late, and what
-- the flow expects, and whether it expects any, stays as it was (PSP: document 02, W2; D-MPT: document 01). The test is: S.
abbrev pub judged_by : Bool → Flow → ℕ → Judged
judged_by true f n = judge f n
judged_by false f n = unnumbered f

abbrev pub judged_of : Flow → List ℕ → Judged
judged_of f sub = judged_by (s_set sub) f (number sub)

-- How a session's packets are laid out, by its kind: the width of a segment's entry, and the flow that a packet is for. Both are the same
-- for every kind so far.
abbrev pub width_in : Kind → ℕ
width_in kind = entry_width

abbrev pub flow_in : Kind → List ℕ → ℕ
flow_in kind sub = flow_id sub

-- what becomes of the segments of a PSP packet: with a number they join what is held, without one each is by itself. The test is: S.
abbrev pub segments_fate : Bool → ℕ → ℕ → List ℕ → List Segment → Fate
segments_fate true longest gap held segs = psp_fate longest gap held segs
segments_fate false longest gap held segs = unnumbered_fate longest held segs

-- what becomes of the bytes, by the terms of the session
abbrev pub fate_of : Terms → ℕ → List ℕ → List ℕ → Fate
fate_of terms gap held sub =
    cond (is_dmpt terms.kind) (dmpt_fate held (mpegs sub))
    (segments_fate (s_set sub) terms.longest gap held (segments (width_in terms.kind) sub))

-- what a flow makes of a packet
pub record Heard : Type 0 where
  pub judged : Judged
  pub fate : Fate

unfoldable pub hear : Terms → Flow → List ℕ → List ℕ → Heard
hear terms f held sub = record { judged = judged_of f sub; fate = fate_of terms (judged_of f sub).gap held sub }

-- the flow's record afterwards: the number as judged, and how many bytes are held now
abbrev pub record_after : Heard → Flow
record_after h =
    record {
      heard = h.judged.flow.heard;
      expected = h.judged.flow.expected;
      held = length h.fate.held;
    }
