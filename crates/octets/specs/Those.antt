-- Those elements of a list that pass a test, in their order.
use Rattle.std.specs.Prelude.{Bool, cond, List, [], ◌∷◌}

unfoldable pub those : {A : Type 0} → (A → Bool) → List A → List A
those test [] = []
those test (x ∷ more) = cond (test x) (x ∷ those test more) (those test more)
