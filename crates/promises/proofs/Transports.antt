-- A packet over UDP with T 0 and version 3 is the one that it would be over IP without its first four bytes: of each call the law of its
-- own crate.
use Rattle.packet.proofs.Transports as packet
use Rattle.card.proofs.Transports as card
use Rattle.promises.specs.Transports.{SamePacket}

pub same-packet : SamePacket
same-packet a b c d bytes version =
    record {
      same_received = λ t s. card.same_received t a b c d bytes s version;
      same_check = packet.same_check a b c d bytes version;
      same_cause = packet.same_cause a b c d bytes version;
      same_segment = packet.same_segment a b c d bytes version;
      same_place = packet.same_place a b c d bytes version;
    }
