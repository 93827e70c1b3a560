-- How the code reads a packet. The transports as the code has them, and the number that Header.antt gives each: a number is read as the
-- transport whose number it is, or refused by 24. And the number of the refusal where something may be refused; 0 where nothing is.
use Rattle.std.specs.Prelude.{ℕ, ◌≡◌, true, not, ◌&&◌, Result, Ok, Err, eqb}
use Rattle.refusal.specs.declared.Refusal.{Refusal}
use Rattle.refusal.specs.declared.Refusal.TheVariants as refusal
use Rattle.refusal.specs.Number as refused
use Rattle.packet.specs.declared.header.Transport.{Transport}
use Rattle.packet.specs.declared.header.Transport.TheVariants as transport
use Rattle.packet.specs.Header.{over_ip, over_udp}

abbrev pub number_of : Transport → ℕ
number_of transport.Ip = over_ip
number_of transport.Udp = over_udp

abbrev pub Reads : ℕ → Result Transport Refusal → Type 0
Reads number (Ok t) = number ≡ number_of t
Reads number (Err given) = (given ≡ refusal.NumberUnknown) × ((not (eqb number over_ip) && not (eqb number over_udp)) ≡ true)

abbrev pub refused_by : {A : Type 0} → Result A Refusal → ℕ
refused_by (Ok a) = 0
refused_by (Err given) = refused.number_of given
