-- No two kinds of entries have one number: so a kind is what its number tells.
use Prim.Native.Nat.{ℕ}
use mathlib.Core.Path.{◌≡◌, refl, sym, ap, ◌∙◌}
use mathlib.Core.Bool.{cond}
use lib.Dec.{eqb}
use Rattle.capture.specs.declared.Kind.{Kind}
use Rattle.capture.specs.declared.Kind.TheVariants as kind
use Rattle.capture.specs.File.{open_psp, open_dmpt, closing, data_entry}
use Rattle.capture.specs.Kind.{number_of}

-- the way back
abbrev kind_of : ℕ → Kind
kind_of n =
    cond (eqb n open_psp) kind.OpenPsp
    (cond (eqb n open_dmpt) kind.OpenDmpt
    (cond (eqb n closing) kind.Close
    (cond (eqb n data_entry) kind.Data
    kind.DataOverUdp)))

found : (k : Kind) → kind_of (number_of k) ≡ k
found kind.OpenPsp = refl
found kind.OpenDmpt = refl
found kind.Close = refl
found kind.Data = refl
found kind.DataOverUdp = refl

pub number_of-one : (a b : Kind) → number_of a ≡ number_of b → a ≡ b
number_of-one a b same = sym (found a) ∙ ap kind_of same ∙ found b
