-- What an accepted D-MPT packet delivers: each of its MPEG packets is a frame, or it is dropped by its PID (`Pieces`). Nothing is held
-- before or behind them, so the holding slice stays as it was.
use Prim.Native.Nat.{ℕ, ◌*◌, ◌≤◌}
use mathlib.Core.Path.{◌≡◌, refl, sym, ap, ◌∙◌}
use mathlib.Core.Bool.{true, not, not-not}
use mathlib.Core.List.{List, [], map-id}
use lib.ListN.{length}
use Rattle.octets.specs.Stretch.{joined}
use Rattle.octets.specs.Each.{Each}
use Rattle.octets.proofs.Elements.{each-up_to}
use Rattle.octets.proofs.Stretches.{length-joined-each}
use Rattle.ts.specs.Packet.{mpeg_length}
use Rattle.packet.specs.Header.{Packet, header_length, sub}
use Rattle.packet.specs.Dmpt.{mpeg_count, mpeg_at, mpegs}
use Rattle.packet.proofs.Passing.{mpeg_inside}
use Rattle.table.specs.declared.Table.{Table}
use Rattle.table.specs.Rows.{is_dmpt, terms_at}
use Rattle.join.specs.Join.{Fate}
use Rattle.join.specs.Slices.{Slices}
use Rattle.pass.specs.Pass.{carries_some, as_it_is, dmpt_fate}
use Rattle.pass.proofs.Carrying.{dmpt_holds_none}
use Rattle.pass.proofs.Loads.{mpeg_length_lem, dmpt_header}
use Rattle.card.specs.Hear.{hear}
use Rattle.card.specs.Receive.{row_of, heard_by, received}
use Rattle.card.specs.History.{lent_with, answer, after}
use Rattle.card.proofs.ByKind.{refusals_dmpt}
use Rattle.card.proofs.Accepted.{Accepted, accepted}
use Rattle.card.proofs.Keeping.{clear_leaves}
use Rattle.card.proofs.Limits.{held_none}
use Rattle.promises.specs.Words.{chosen}
use Rattle.promises.specs.Dmpt.{is_null, carrying, nulls, DmptDelivers}
use Rattle.promises.proofs.Pieces.{pass_gives, pass_drops, each_chosen, chosen_alike, found_are, dropped_is, places_stay, no_gap}

-- what comes out, and what is dropped
delivered_are : (packets : List (List ℕ)) → (dmpt_fate [] packets).delivered ≡ carrying packets
unfolding dmpt_fate
delivered_are packets = pass_gives carries_some as_it_is [] packets ∙ map-id (carrying packets)

dropped_are : (packets : List (List ℕ)) → (dmpt_fate [] packets).dropped ≡ joined (nulls packets)
unfolding dmpt_fate
dropped_are packets =
    pass_drops carries_some as_it_is [] packets
    ∙ ap joined (map-id (chosen (λ m. not (not (is_null m))) packets))
    ∙ ap joined (chosen_alike (λ m. not (not (is_null m))) is_null packets (λ m. not-not (is_null m)))

-- each MPEG packet has its 188 bytes
mpegs-whole : (sub : List ℕ) → header_length ≤ length sub → Each (λ m. length m ≡ mpeg_length) (mpegs sub)
unfolding mpegs
mpegs-whole sub header =
    each-up_to (λ m. length m ≡ mpeg_length) (mpeg_at sub) (mpeg_count sub)
    (λ k there. mpeg_length_lem sub k (mpeg_inside sub k header there))

module _ (t : Table) (packet : Packet) (s : Slices) (d : is_dmpt (terms_at t (row_of t packet)).kind ≡ true)
    (z : (received t packet s).answer.code ≡ 0) where
  here : Accepted t packet s
  here = accepted t packet s z

  header : header_length ≤ length (sub packet)
  header = dmpt_header (sub packet) (sym (refusals_dmpt (terms_at t (row_of t packet)) (sub packet) d) ∙ here.passed)

  -- what becomes of it
  pub becomes : (heard_by t (row_of t packet) (sub packet) s).fate ≡ dmpt_fate [] (mpegs (sub packet))
  unfolding hear
  becomes = rw (d, held_none t packet s here d) refl

  pub dropped-count : (received t packet s).answer.dropped ≡ mpeg_length * length (nulls (mpegs (sub packet)))
  dropped-count =
      let each = each_chosen (λ m. length m ≡ mpeg_length) is_null (mpegs (sub packet)) (mpegs-whole (sub packet) header) in
      dropped_is t packet s z
      ∙ ap (λ (f : Fate). length f.dropped) becomes
      ∙ ap length (dropped_are (mpegs (sub packet)))
      ∙ length-joined-each mpeg_length (nulls (mpegs (sub packet))) each

pub dmpt_delivers : DmptDelivers
unfolding answer after
dmpt_delivers c a d z =
    let t = c.table in
    let p = a.packet in
    let s = lent_with c a in
    let fate = becomes t p s d z in
    record {
      frames_are = found_are t p s z ∙ ap (λ (f : Fate). f.delivered) fate ∙ delivered_are (mpegs (sub p));
      dropped_are = dropped-count t p s d z;
      holds_nothing = places_stay t p s z (ap (λ (f : Fate). f.held) fate ∙ dmpt_holds_none [] (mpegs (sub p)));
      without_number = λ clear. (no_gap t p s z clear, clear_leaves t p s z clear d);
    }
