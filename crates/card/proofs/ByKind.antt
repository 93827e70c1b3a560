-- What becomes of a packet, and what refuses it, by the kind of its session and by whether it has a number. Each law is said of the test
-- first, and then of the terms.
use Prim.Native.Nat.{ℕ, ◌<◌}
use mathlib.Core.Path.{◌≡◌, refl}
use mathlib.Core.Bool.{Bool, true, false, cond}
use mathlib.Core.List.{List, []}
use native.Mathlib.Omega.{arith}
use Rattle.refusal.specs.Refusal.{first}
use Rattle.refusal.proofs.Laws.{numbered}
use Rattle.octets.specs.Stretch.{part}
use Rattle.octets.proofs.Stretches.{part_none}
use Rattle.flow.specs.Flow.{flows}
use Rattle.packet.specs.Header.{s_set}
use Rattle.packet.specs.Segments.{segments}
use Rattle.packet.specs.Psp.{psp_refusals}
use Rattle.packet.specs.Dmpt.{mpegs, dmpt_refusals}
use Rattle.packet.proofs.Passing.{psp_passed, dmpt_passed}
use Rattle.table.specs.declared.Kind.{Kind}
use Rattle.table.specs.declared.Terms.{Terms}
use Rattle.table.specs.Rows.{is_dmpt}
use Rattle.pass.specs.Pass.{unnumbered_fate, dmpt_fate}
use Rattle.card.specs.Hear.{width_in, flow_in, fate_of}
use Rattle.card.specs.Receive.{packet_refusals}

pub fate_dmpt : (terms : Terms) (gap place held : ℕ) (hold sub : List ℕ) → is_dmpt terms.kind ≡ true → held ≡ 0 →
    fate_of terms gap (part hold place held) sub ≡ dmpt_fate [] (mpegs sub)
fate_dmpt terms gap place held hold sub d none = rw (d, none, part_none hold place) refl

pub fate-unnumbered : (terms : Terms) (gap : ℕ) (held sub : List ℕ) → is_dmpt terms.kind ≡ false → s_set sub ≡ false →
    fate_of terms gap held sub ≡ unnumbered_fate terms.longest held (segments (width_in terms.kind) sub)
fate-unnumbered terms gap held sub d clear = rw (d, clear) refl

pub refusals_dmpt : (terms : Terms) (sub : List ℕ) → is_dmpt terms.kind ≡ true →
    first (packet_refusals terms sub) ≡ first (dmpt_refusals sub)
refusals_dmpt terms sub d = rw d refl

-- every number of these orders is some number
numbered_by : (d : Bool) (k : Kind) (sub : List ℕ) → numbered (cond d (dmpt_refusals sub) (psp_refusals (width_in k) sub)) ≡ true
numbered_by true k sub = refl
numbered_by false k sub = refl

pub numbered-packet : (terms : Terms) (sub : List ℕ) → numbered (packet_refusals terms sub) ≡ true
numbered-packet terms sub = numbered_by (is_dmpt terms.kind) terms.kind sub

-- a packet that is not refused is for a flow of the row
flow_by : (d : Bool) (k : Kind) (sub : List ℕ) → first (cond d (dmpt_refusals sub) (psp_refusals (width_in k) sub)) ≡ 0 →
    flow_in k sub < flows
flow_by true k sub z = omega (arith, (dmpt_passed sub z).only_flow)
flow_by false k sub z = omega (arith, (psp_passed (width_in k) sub z).in_row)

pub flow_in_row : (terms : Terms) (sub : List ℕ) → first (packet_refusals terms sub) ≡ 0 → flow_in terms.kind sub < flows
flow_in_row terms sub z = flow_by (is_dmpt terms.kind) terms.kind sub z
