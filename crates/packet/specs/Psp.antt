-- Refusals 6, 7 and 9 to 11 of a PSP packet (document 01, "Refusal numbers"; document 02, W2: a packet without a number is no bad one, so
-- 8 is given no more). Only the first segment of a packet may lack B, and only the last may lack E.
use Rattle.std.specs.Prelude.{ℕ, ◌+◌, Bool, not, ◌&&◌, ◌||◌, List, [], ◌∷◌, eqb, ltb, length}
use Rattle.refusal.specs.Refusal.{Refusal, ◌when◌}
use Rattle.octets.specs.Count.{any}
use Rattle.flow.specs.Flow.{top_flow}
use Rattle.packet.specs.Header.{flow_id, segment_count, not_plain}
use Rattle.packet.specs.Segments.{entry_at, begins_in, ends_in, length_in, body_at}

-- The length that header, entries and bodies add up to: where one more body would start. Of a cut segment table the header and the
-- entries alone are longer than the packet, whatever the cut ones read as, so 10 needs no case of its own for it.
unfoldable pub wanted : ℕ → List ℕ → ℕ
wanted width sub = body_at width sub (segment_count sub)

-- whether entry k of n is bad: its length is 0, or B is missing though it is not the first, or E though it is not the last
abbrev pub bad_entry : ℕ → ℕ → ℕ → Bool
bad_entry n k entry =
    eqb (length_in entry) 0 || (not (eqb k 0) && not (begins_in entry)) || (not (eqb (k + 1) n) && not (ends_in entry))

abbrev pub bad_at : ℕ → List ℕ → ℕ → Bool
bad_at width sub k = bad_entry (segment_count sub) k (entry_at width sub k)

abbrev pub segment_refusals : ℕ → List ℕ → List Refusal
segment_refusals width sub =
    9 when eqb (segment_count sub) 0
    ∷ 10 when not (eqb (wanted width sub) (length sub))
    ∷ 11 when any (bad_at width sub) (segment_count sub)
    ∷ []

abbrev pub psp_refusals : ℕ → List ℕ → List Refusal
psp_refusals width sub =
    6 when not_plain sub
    ∷ 7 when ltb top_flow (flow_id sub)
    ∷ segment_refusals width sub
