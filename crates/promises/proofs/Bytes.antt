-- The account over a history in which one holding slice goes through all calls: every byte value comes in as often as it is delivered,
-- dropped or held, and no place has fewer bytes than the table says.
use Prim.Native.Nat.{ℕ, ◌+◌, ◌<◌}
use mathlib.Core.Path.{◌≡◌, refl, ◌∙◌}
use mathlib.Core.Bool.{Bool, true, false, cond}
use mathlib.Core.List.{List, [], ◌∷◌}
use native.Mathlib.Omega.{arith}
use lib.Dec.{eqb}
use lib.ListN.{length}
use Rattle.octets.specs.Stretch.{part}
use Rattle.octets.proofs.Counts.{sum-within, sum_agree, sum_both}
use Rattle.octets.proofs.Stretches.{part-short}
use Rattle.flow.specs.Flow.{flows}
use Rattle.table.specs.Rows.{rows, row_at, flow_at, find}
use Rattle.card.specs.Receive.{place_of}
use Rattle.card.specs.History.{Card, Call, opens, closes, hands, answer, after, after_all, empty_card}
use Rattle.promises.specs.Account.{taken_by, delivered_by, dropped_by, gathered, bytes_of_row, bytes_held, held_in_all, times, EachByte}
use Rattle.promises.proofs.Good.{Good, good-empty, good-after}
use Rattle.promises.proofs.Measures.{Measure, by_length, by_value, measure_up_to}
use Rattle.promises.proofs.Holdings.{in_places, places_keep, in_table, missing, missing_keeps, kept_at, kept_in_row, kept_in_all}
use Rattle.promises.proofs.Holdings.{empty_keeps}
use Rattle.promises.proofs.OneCall.{dropped_in, call_balances}

module _ (m : List ℕ → ℕ) (is : Measure m) where
  row_measured : (c : Card) (r : ℕ) → m (bytes_of_row c r) ≡ kept_in_row (in_places m) c r
  row_measured c r = measure_up_to m is (λ k. part c.holding (place_of r k) (flow_at (row_at c.table r) k).held) flows

  held_measured : (c : Card) → m (bytes_held c) ≡ kept_in_all (in_places m) c
  held_measured c =
      measure_up_to m is (bytes_of_row c) rows
      ∙ sum_agree (λ r. m (bytes_of_row c r)) (kept_in_row (in_places m) c) rows (λ r l. row_measured c r)

  dropped_by_lem : (accepts : Bool) (c : Card) (r : ℕ) →
      m (cond accepts (bytes_of_row c r) []) ≡ cond accepts (kept_in_row (in_places m) c r) 0
  dropped_by_lem true c r = row_measured c r
  dropped_by_lem false c r = is.none

  pub dropped_measured : (c : Card) (x : Call) → m (dropped_by c x) ≡ dropped_in m (in_places m) c x
  dropped_measured c (opens q) = is.none
  dropped_measured c (closes id) = dropped_by_lem (eqb (answer c (closes id)).code 0) c (find c.table id)
  dropped_measured c (hands a) = refl

  history_measured : (c : Card) (calls : List Call) → Good c →
      m (gathered taken_by c calls) + m (bytes_held c)
      ≡ m (gathered delivered_by c calls) + m (gathered dropped_by c calls) + m (bytes_held (after_all c calls))
  unfolding gathered after_all
  history_measured c [] good = omega (arith, is.none)
  history_measured c (x ∷ more) good =
      omega (
        arith,
        call_balances (places_keep m is) c good x,
        dropped_measured c x,
        held_measured c,
        held_measured (after c x),
        history_measured (after c x) more (good-after c x good),
        is.both (taken_by c x) (gathered taken_by (after c x) more),
        is.both (delivered_by c x) (gathered delivered_by (after c x) more),
        is.both (dropped_by c x) (gathered dropped_by (after c x) more),
      )

pub each_byte : EachByte
each_byte holding calls value =
    let is = by_value value in
    omega (
      arith,
      history_measured (times value) is (empty_card holding) calls (good-empty holding),
      held_measured (times value) is (empty_card holding),
      empty_keeps (places_keep (times value) is) holding,
    )

-- No byte is missing in a place at any time: an account in which no byte counts.
none_missing : (c : Card) (calls : List Call) → Good c → kept_in_all missing c ≡ 0 → kept_in_all missing (after_all c calls) ≡ 0
unfolding after_all
none_missing c [] good none = none
none_missing c (x ∷ more) good none =
    none_missing (after c x) more (good-after c x good) (omega (arith, call_balances missing_keeps c good x, none))

there-and_missing : (c : Card) (r : ℕ) → kept_in_row (in_places length) c r + kept_in_row missing c r ≡ kept_in_row in_table c r
there-and_missing c r =
    sum_both (kept_at (in_places length) c r) (kept_at missing c r) (kept_at in_table c r) flows
    (λ k o. omega (arith, part-short c.holding (place_of r k) (flow_at (row_at c.table r) k).held))

pub none_missing_at : (holding : List ℕ) (calls : List Call) → kept_in_all missing (after_all (empty_card holding) calls) ≡ 0
none_missing_at holding calls = none_missing (empty_card holding) calls (good-empty holding) (empty_keeps missing_keeps holding)

-- so each row's places have what the table says
pub row_holds : (c : Card) (r : ℕ) → r < rows → kept_in_all missing c ≡ 0 → kept_in_row (in_places length) c r ≡ kept_in_row in_table c r
row_holds c r l none = omega (arith, there-and_missing c r, sum-within (kept_in_row missing c) r rows l)

pub places_hold : (holding : List ℕ) (calls : List Call) →
    length (bytes_held (after_all (empty_card holding) calls)) ≡ held_in_all (after_all (empty_card holding) calls).table
places_hold holding calls =
    let c = after_all (empty_card holding) calls in
    omega (
      arith,
      held_measured length by_length c,
      sum_both (kept_in_row (in_places length) c) (kept_in_row missing c) (kept_in_row in_table c) rows (λ r l. there-and_missing c r),
      none_missing_at holding calls,
    )
