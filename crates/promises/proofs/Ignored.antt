-- Packets that are the same in all that is read are one packet: of each call the law of its own crate.
use Rattle.packet.proofs.Ignored as packet
use Rattle.card.proofs.Ignored as card
use Rattle.promises.specs.Ignored.{IgnoredBits}

pub ignored_bits : IgnoredBits
ignored_bits p p' same =
    record {
      received_alike = λ t s count. card.received_alike p p' same t s count;
      checked_alike = packet.checked_alike p p' same;
      causes_alike = λ kind k count. packet.causes_alike p p' same count kind k;
      places_alike = λ kind k count. packet.places_alike p p' same count kind k;
      segments_alike = λ kind k count. packet.segments_alike p p' same count kind k;
    }
