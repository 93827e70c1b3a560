-- One flow by itself: what is read off it, and so the frames that come out of it, when it hears these packets one after another. There is
-- no table here and no place; a late packet is passed over, and any other is heard. Between the calls on a card and demand 3 stands this.
use Prim.Native.Nat.{ℕ}
use mathlib.Core.Bool.{cond}
use mathlib.Core.List.{List, [], ◌∷◌, ◌++◌}
use Rattle.flow.specs.declared.Flow.{Flow}
use Rattle.flow.specs.Flow.{longest}
use Rattle.packet.specs.Header.{Packet, sub}
use Rattle.table.specs.declared.Kind.{Kind}
use Rattle.table.specs.declared.Kind.TheVariants as kind
use Rattle.table.specs.declared.Terms.{Terms}
use Rattle.card.specs.Hear.{Heard, judged_of, hear, record_after}
use Rattle.promises.proofs.Readings.{Reading, frames_read}

-- the terms of a session opened as this kind, and as PSP
abbrev pub terms_for : Kind → Terms
terms_for kind = record { kind = kind; longest = longest }

abbrev pub psp_terms : Terms
psp_terms = terms_for kind.Psp

-- what a flow makes of a packet, by its session's terms
abbrev pub heard_alone : Terms → Flow → List ℕ → Packet → Heard
heard_alone terms f held p = hear terms f held (sub p)

unfoldable pub read_alone : {A : Type 0} → Reading A → Terms → Flow → List ℕ → List Packet → List A
read_alone w terms f held [] = []
read_alone w terms f held (p ∷ more) =
    let h = heard_alone terms f held p in
    cond (judged_of f (sub p)).late (w.of_late ++ read_alone w terms f held more)
    (w.of_heard h ++ read_alone w terms (record_after h) h.fate.held more)

abbrev pub frames_alone : Flow → List ℕ → List Packet → List (List ℕ)
frames_alone f held packets = read_alone frames_read psp_terms f held packets
