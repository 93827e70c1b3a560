-- Numbers judged, by computation: the definitions say of document 01's cases what the paper says.
use mathlib.Core.Path.{◌≡◌, refl}
use mathlib.Core.Bool.{true, false}
use Rattle.flow.specs.declared.Flow.{Flow}
use Rattle.flow.specs.Numbers.{ahead, next}
use Rattle.flow.specs.Flow.{fresh, judge, accepted, too_late, unnumbered}

-- a flow that accepted 0xFFFF, as after packet A
abbrev after_a : Flow
after_a = record { heard = 1; expected = 0; held = 2 }

any-number_on_fresh : judge fresh 0xFFFF ≡ accepted fresh 0xFFFF 0
any-number_on_fresh = refl

wraps_to_0 : (judge fresh 0xFFFF).flow ≡ record { heard = 1; expected = 0; held = 0 }
unfolding next
wraps_to_0 = refl

-- M2: the number after 0xFFFF is 0
gap_0 : judge after_a 0 ≡ accepted after_a 0 0
unfolding ahead next
gap_0 = refl

-- M5
gap_1 : judge after_a 1 ≡ record { flow = record { heard = 1; expected = 2; held = 2 }; gap = 1; late = false }
unfolding ahead next
gap_1 = refl

-- M6
gap_32767 : judge after_a 0x7FFF ≡ accepted after_a 0x7FFF 32767
unfolding ahead next
gap_32767 = refl

-- M7
late_at_32768 : judge after_a 0x8000 ≡ too_late after_a
unfolding ahead next
late_at_32768 = refl

-- M3: the same number again
late_again : judge after_a 0xFFFF ≡ too_late after_a
unfolding ahead next
late_again = refl

-- a fresh flow that expects 0 by its zeros is not one that waits for 0
fresh_is_not_waiting : (judge fresh 0x8000).late ≡ false
fresh_is_not_waiting = refl

-- a late number leaves the whole record as it was, with gap 0
late_leaves : judge (record { heard = 1; expected = 5; held = 2 }) 3
    ≡ record { flow = record { heard = 1; expected = 5; held = 2 }; gap = 0; late = true }
unfolding ahead next
late_leaves = refl

-- S clear: no gap, not late, and the record as it was
unnumbered-leaves : (unnumbered fresh ≡ record { flow = fresh; gap = 0; late = false })
    × (unnumbered after_a ≡ record { flow = record { heard = 1; expected = 0; held = 2 }; gap = 0; late = false })
unnumbered-leaves = (refl, refl)
