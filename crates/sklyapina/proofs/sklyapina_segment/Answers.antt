-- C is told the extent that was found; of a refused request that of no bytes at the packet's start, which is what `segment_extent` says.
use Rattle.std.proofs.Common.{◌≡◌, ℕ, sym, ◌∙◌, Result, Ok, Err}
use Rattle.std.specs.Result.{result_unwrap_or}
use Rattle.refusal.specs.declared.Refusal as error
use Rattle.refusal.proofs.Numbers.{number_some}
use Rattle.packet.specs.declared.Extent.{Extent}
use Rattle.packet.specs.Header.{Packet, packet_by}
use Rattle.packet.specs.Check.{segment_extent, FindsSegment}
use Rattle.packet.proofs.Asked.{extent_refused}
use Rattle.sklyapina.proofs.sklyapina_segment.Goals as goal

told : (kind : ℕ) (p : Packet) (k : ℕ) (found : Result Extent error.Refusal) → FindsSegment kind p k found →
    result_unwrap_or found (record { start = 0; size = 0 }) ≡ segment_extent kind p k
told kind p k (Ok extent) found = found.1
told kind p k (Err refusal) found = sym (extent_refused kind p k (λ z. number_some refusal (found ∙ z)))

pub returns : goal.returns
returns c =
    c.unwrap_or.ensures
    ∙ told c.args.kind (packet_by c.args.transport c.args.packet.now) c.args.k c.segment_extent.result c.segment_extent.ensures
