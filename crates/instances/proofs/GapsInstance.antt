-- A closed instance of `gaps_are_told` for a D-MPT session: four packets with numbers from 0xFFFE on, over IP and over UDP in turn, of
-- which the fourth overtakes the third and then comes again. (That of a PSP flow stands in DemandInstance.antt.) It cites definitions
-- alone, so that it can be held against wrong ones.
use Prim.Native.Nat.{ℕ, zero, suc, ◌<◌, ◌≤◌}
use mathlib.Core.Path.{◌≡◌, refl, ◌∙◌}
use mathlib.Core.Bool.{true}
use mathlib.Core.List.{List, [], ◌∷◌, map}
use native.Mathlib.Omega.{arith}
use lib.ListN.{length, replicate, length-replicate}
use Rattle.octets.specs.Stretch.{part, rest}
use Rattle.octets.specs.Count.{any, least, sum_to, up_to}
use Rattle.octets.specs.Each.{Each}
use Rattle.flow.specs.Numbers.{number_at}
use Rattle.packet.specs.Header.{Packet, ip, in_udp, sub, s_set, number}
use Rattle.packet.specs.Dmpt.{mpeg_at, mpegs}
use Rattle.packet.specs.Check.{check_refusals, check}
use Rattle.table.specs.declared.Kind.TheVariants as kind
use Rattle.table.specs.Broken.{broken}
use Rattle.table.specs.Calls.{asking, opened}
use Rattle.card.specs.History.{Call, opens, hands, answer, after, after_all, empty_card}
use Rattle.sender.specs.Rules.{Line, packet_at}
use Rattle.promises.specs.Words.{packets_to, LongEnough}
use Rattle.promises.specs.Demand.{RunOf, card_opened}
use Rattle.promises.specs.Gaps.{Verdict, verdicts_out, verdicts_from, verdicts_of, NumberedUp, GapsAreTold}

abbrev pub line : Line
line = record { session = 0x103; flow = 0; start = 0xFFFE }

-- one MPEG packet under this number
abbrev pub numbered : ℕ → ℕ → List ℕ
numbered high low = 0x00 ∷ 0x00 ∷ 0x01 ∷ 0x03 ∷ 0x40 ∷ 0x00 ∷ high ∷ low ∷ 0x47 ∷ 0x00 ∷ 0x10 ∷ replicate 185 0xA1

abbrev pub packets : List Packet
packets = ip (numbered 0xFF 0xFE) ∷ in_udp (numbered 0xFF 0xFF) ∷ ip (numbered 0x00 0x00) ∷ in_udp (numbered 0x00 0x01) ∷ []

pub numbered_up : NumberedUp kind.Dmpt line packets
unfolding part rest any sum_to up_to mpeg_at mpegs check check_refusals number_at
numbered_up = record { passing = (refl, (refl, (refl, (refl, tt)))); numbered = counts }
  where
    counts : (i : ℕ) → i < 4 → number (sub (packet_at packets i)) ≡ number_at 0xFFFE i
    counts zero l = refl
    counts (suc zero) l = refl
    counts (suc (suc zero)) l = refl
    counts (suc (suc (suc zero))) l = refl
    counts (suc (suc (suc (suc i)))) l = absurd (omega arith)

abbrev pub hand : Packet → Call
hand packet = hands (record { packet = packet; output = replicate 6144 0; lengths = replicate 127 0 })

abbrev pub calls : List Call
calls =
    hand (packet_at packets 0) ∷ hand (packet_at packets 1) ∷ hand (packet_at packets 3) ∷ hand (packet_at packets 2)
    ∷ hand (packet_at packets 3) ∷ []

pub opens_now : (answer (after_all (empty_card (replicate 49152 0)) []) (opens (asking kind.Dmpt 0x103))).code ≡ 0
unfolding any least sum_to up_to broken opened answer after after_all
opens_now = refl

pub only_these : packets_to kind.Dmpt 0x103 0 calls ≡ map (packet_at packets) (0 ∷ 1 ∷ 3 ∷ 2 ∷ 3 ∷ [])
unfolding rest packets_to
only_these = refl

pub all_numbered : Each (λ p. s_set (sub p) ≡ true) (packets_to kind.Dmpt 0x103 0 calls)
unfolding rest packets_to
all_numbered = (refl, (refl, (refl, (refl, (refl, tt)))))

pub long_enough : LongEnough kind.Dmpt 0x103 0 (replicate 49152 0) calls
long_enough = (
  omega (arith, length-replicate {A = ℕ} 49152 0),
  ((λ e. room), ((λ e. room), ((λ e. room), ((λ e. room), ((λ e. room), tt))))),
)
  where
    room : (6144 ≤ length {A = ℕ} (replicate 6144 0)) × (127 ≤ length {A = ℕ} (replicate 127 0))
    room = (omega (arith, length-replicate {A = ℕ} 6144 0), omega (arith, length-replicate {A = ℕ} 127 0))

abbrev pub run : RunOf kind.Dmpt line packets
run =
    record {
      holding = replicate 49152 0;
      before = [];
      calls = calls;
      arrivals = 0 ∷ 1 ∷ 3 ∷ 2 ∷ 3 ∷ [];
      opens_now = opens_now;
      stays_open = (refl, (refl, (refl, (refl, (refl, tt)))));
      long_enough = long_enough;
      only_these = only_these;
      all_numbered = all_numbered;
      in_window = (omega arith, omega arith, (omega arith, omega arith, (omega arith, omega arith, (omega arith, omega arith, tt))));
    }

-- The first two in order, the fourth past the third, and then both late.
abbrev pub verdicts : List Verdict
verdicts =
    record { code = 0; gap = 0 }
    ∷ record { code = 0; gap = 0 }
    ∷ record { code = 0; gap = 1 }
    ∷ record { code = 12; gap = 0 }
    ∷ record { code = 12; gap = 0 }
    ∷ []

pub dmpt_verdicts : verdicts_of run.arrivals ≡ verdicts
unfolding verdicts_of verdicts_from
dmpt_verdicts = refl

-- `gaps_are_told`, applied to D-MPT
abbrev pub DmptGapsHere : Type 0
DmptGapsHere = verdicts_out kind.Dmpt 0x103 0 (card_opened kind.Dmpt line packets run) calls ≡ verdicts

pub dmpt_gaps_applied : GapsAreTold → DmptGapsHere
dmpt_gaps_applied theorem = theorem kind.Dmpt line packets numbered_up run ∙ dmpt_verdicts
