-- D-MPT packets (document 01, "Packet layout"; DEPI I05, section 8.2): behind the sub-layer header come whole MPEG packets of 188
-- bytes (crate `ts`), each starting 0x47; byte 1 of `sub` is read by nobody. And refusals 6, 7 and 9 to 11 of such a packet.
use Rattle.std.specs.Prelude.{ℕ, ◌+◌, ◌-◌, ◌*◌, ◌/◌, ◌%◌, not, List, [], ◌∷◌, eqb, length}
use Rattle.refusal.specs.Refusal.{Refusal, ◌when◌}
use Rattle.octets.specs.Bytes.{byte_at}
use Rattle.octets.specs.Stretch.{part}
use Rattle.octets.specs.Count.{any, up_to}
use Rattle.ts.specs.Packet.{mpeg_length, sync_byte}
use Rattle.packet.specs.Header.{header_length, flow_id, not_plain}

-- how many bytes stand behind the header, and how many whole MPEG packets
abbrev pub carried : List ℕ → ℕ
carried sub = length sub - header_length

abbrev pub mpeg_count : List ℕ → ℕ
mpeg_count sub = carried sub / mpeg_length

unfoldable pub mpeg_at : List ℕ → ℕ → List ℕ
mpeg_at sub k = part sub (header_length + mpeg_length * k) mpeg_length

unfoldable pub mpegs : List ℕ → List (List ℕ)
mpegs sub = up_to (mpeg_at sub) (mpeg_count sub)

abbrev pub mpeg_refusals : List ℕ → List Refusal
mpeg_refusals sub =
    9 when eqb (carried sub) 0
    ∷ 10 when not (eqb (carried sub % mpeg_length) 0)
    ∷ 11 when any (λ k. not (eqb (byte_at (mpeg_at sub k) 0) sync_byte)) (mpeg_count sub)
    ∷ []

abbrev pub dmpt_refusals : List ℕ → List Refusal
dmpt_refusals sub =
    6 when not_plain sub
    ∷ 7 when not (eqb (flow_id sub) 0)
    ∷ mpeg_refusals sub
