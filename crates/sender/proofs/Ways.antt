-- A packet that goes over UDP is the packet that would have gone over IP (`Transports` of crate `packet`). So a sender that keeps the rules
-- over IP keeps them over UDP too, and over both in any mixture.
use Prim.Native.Nat.{ℕ, zero, suc}
use mathlib.Core.Path.{◌≡◌, refl, ap, ◌∙◌}
use mathlib.Core.Bool.{Bool, true, false, cond}
use mathlib.Core.List.{List, [], ◌∷◌, ◌++◌, map}
use lib.ListN.{length}
use Rattle.octets.specs.Each.{Each}
use Rattle.packet.specs.Header.{Packet, ip, in_udp, sub, s_set, flow_id, number}
use Rattle.packet.specs.Segments.{Segment, entry_width, segments}
use Rattle.packet.specs.Check.{kind_psp, check}
use Rattle.packet.proofs.Transports.{same-session, same-sub, same_check}
use Rattle.sender.specs.Rules.{Line, Pieces, Addressed, packet_at, segments_of, all_segments, KeepsRules}
use Rattle.sender.specs.Series.{go_out}

-- what holds of each packet over IP, and with it of the same packet over UDP, holds of each that goes out
module _ (P : Packet → Type 0) (same : (bytes : List ℕ) → P (ip bytes) → P (in_udp bytes)) where
  either : (way : Bool) (bytes : List ℕ) → P (ip bytes) → P (cond way (in_udp bytes) (ip bytes))
  either true bytes h = same bytes h
  either false bytes h = h

  each_way : (ways : List Bool) (packets : List (List ℕ)) → Each P (map ip packets) → Each P (go_out ways packets)
  unfolding go_out
  each_way ways [] h = tt
  each_way [] (p ∷ packets) h = (h.0, each_way [] packets h.1)
  each_way (way ∷ ways) (p ∷ packets) h = (either way p h.0, each_way ways packets h.1)

-- behind the session ID they are the same
sub_either : (way : Bool) (bytes : List ℕ) → sub (cond way (in_udp bytes) (ip bytes)) ≡ sub (ip bytes)
sub_either true bytes = same-sub 0 3 0 0 bytes
sub_either false bytes = refl

sub-ways : (ways : List Bool) (packets : List (List ℕ)) (i : ℕ) →
    sub (packet_at (go_out ways packets) i) ≡ sub (packet_at (map ip packets) i)
unfolding go_out
sub-ways ways [] i = refl
sub-ways [] (p ∷ packets) zero = refl
sub-ways [] (p ∷ packets) (suc i) = sub-ways [] packets i
sub-ways (way ∷ ways) (p ∷ packets) zero = sub_either way p
sub-ways (way ∷ ways) (p ∷ packets) (suc i) = sub-ways ways packets i

pub length-ways : (ways : List Bool) (packets : List (List ℕ)) → length (go_out ways packets) ≡ length (map ip packets)
unfolding go_out
length-ways ways [] = refl
length-ways [] (p ∷ packets) = ap suc (length-ways [] packets)
length-ways (way ∷ ways) (p ∷ packets) = ap suc (length-ways ways packets)

segments-ways : (ways : List Bool) (packets : List (List ℕ)) →
    all_segments entry_width (go_out ways packets) ≡ all_segments entry_width (map ip packets)
unfolding go_out all_segments
segments-ways ways [] = refl
segments-ways [] (p ∷ packets) = ap (λ (behind : List Segment). segments_of entry_width (ip p) ++ behind) (segments-ways [] packets)
segments-ways (way ∷ ways) (p ∷ packets) =
    ap (λ (l : List ℕ). segments entry_width l ++ all_segments entry_width (go_out ways packets)) (sub_either way p)
    ∙ ap (λ (behind : List Segment). segments_of entry_width (ip p) ++ behind) (segments-ways ways packets)

pub keeps_ways : (line : Line) (frames : List Pieces) (unfinished : Pieces) (ways : List Bool) (packets : List (List ℕ)) →
    KeepsRules line frames unfinished (map ip packets) → KeepsRules line frames unfinished (go_out ways packets)
keeps_ways line frames unfinished ways packets k =
    record {
      sizes = k.sizes;
      passing = each_way (λ p. check kind_psp p ≡ 0) (λ bytes h. same_check 0 3 0 0 bytes refl kind_psp ∙ h) ways packets k.passing;
      addressed =
          each_way (Addressed line) (λ bytes h. (same-session 0 3 0 0 bytes ∙ h.0, ap flow_id (same-sub 0 3 0 0 bytes) ∙ h.1))
          ways packets k.addressed;
      numbered = λ i l. ap number (sub-ways ways packets i) ∙ k.numbered i (rw (length-ways ways packets) at l);
      in_order = segments-ways ways packets ∙ k.in_order;
    }

-- and a packet has a number either way
pub numbers_ways : (ways : List Bool) (packets : List (List ℕ)) → Each (λ p. s_set (sub p) ≡ true) (map ip packets) →
    Each (λ p. s_set (sub p) ≡ true) (go_out ways packets)
numbers_ways ways packets h = each_way (λ p. s_set (sub p) ≡ true) (λ bytes set. ap s_set (same-sub 0 3 0 0 bytes) ∙ set) ways packets h
