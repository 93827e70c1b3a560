-- Demand 3 for one flow by itself: what comes out of a fresh flow that hears a sender's packets, each with a number, as the network
-- brings them, is the frames whose every packet arrived before any packet sent after it. In steps: the arrivals are a walk along the
-- sender's packets, that is one along their segments, and of these the whole frames survive.
use Prim.Native.Nat.{ℕ, ◌≤◌}
use mathlib.Core.Path.{◌≡◌, ap, ◌∙◌}
use mathlib.Core.Bool.{true}
use mathlib.Core.List.{List, [], ◌++◌, map}
use native.Mathlib.Omega.{arith}
use lib.ListN.{length}
use Rattle.octets.specs.Each.{Each}
use Rattle.flow.specs.Flow.{fresh}
use Rattle.packet.specs.Header.{Packet}
use Rattle.sender.specs.Rules.{Pieces, in_turn, begun_frame, Line, packet_at, KeepsRules}
use Rattle.promises.specs.Arrivals.{Window, Whole, Kept, in_time, places_from}
use Rattle.promises.proofs.Alone.{frames_alone}
use Rattle.promises.proofs.Passed.{Counts, all_some, pieces_filled, judged_by-place}
use Rattle.promises.proofs.Walk.{walk, survivors}
use Rattle.promises.proofs.Frames.{frames_survive}
use Rattle.promises.proofs.Arrivals.{window_along}
use Rattle.promises.proofs.Places.{along_segments, places-length}
use Rattle.promises.proofs.Survivors.{survivors_kept}

module _ (line : Line) (frames : List Pieces) (unfinished : Pieces) (packets : List Packet) (arrivals : List ℕ)
    (rules : KeepsRules line frames unfinished packets) where
  places-enough : length (in_turn frames ++ begun_frame true unfinished) ≤ length (places_from 0 packets)
  places-enough = omega (arith, places-length 0 packets, ap length rules.in_order)

  flow_survivors : Each (Counts packets) arrivals → Window arrivals →
      frames_alone fresh [] (map (packet_at packets) arrivals) ≡ survivors (in_time arrivals) frames (places_from 0 packets)
  flow_survivors sent window =
      window_along line.start packets (judged_by-place line.start packets rules.numbered) arrivals sent window
      ∙ along_segments (in_time arrivals) 0 [] packets (all_some packets rules.passing)
      ∙ ap (walk (in_time arrivals) [] (places_from 0 packets)) rules.in_order
      ∙ frames_survive (in_time arrivals) frames unfinished (places_from 0 packets) rules.sizes
      (pieces_filled line frames unfinished packets rules) places-enough

pub flow_demand : (line : Line) (frames : List Pieces) (unfinished : Pieces) (packets : List Packet) (arrivals : List ℕ) →
    KeepsRules line frames unfinished packets → Each (Counts packets) arrivals → Window arrivals →
    Kept (Whole arrivals frames packets) 0 frames (frames_alone fresh [] (map (packet_at packets) arrivals))
flow_demand line frames unfinished packets arrivals rules sent window =
    rw (flow_survivors line frames unfinished packets arrivals rules sent window) (survivors_kept arrivals frames packets)
