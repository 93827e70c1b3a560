-- What a caller reads off the answers to a flow's packets, where the flow by itself tells it: of a late packet it is always the same, and
-- of one that is heard it goes by what the flow makes of it. The frames that come out are read so, and so are the numbers and the gaps.
use Prim.Native.Nat.{ℕ}
use mathlib.Core.Path.{◌≡◌, refl, ap}
use mathlib.Core.Bool.{cond}
use mathlib.Core.List.{List, [], ◌∷◌, ◌++◌}
use Rattle.table.specs.declared.Kind.{Kind}
use Rattle.card.specs.Hear.{Heard}
use Rattle.card.specs.History.{Card, Call, Answer, frames_of, answer, after}
use Rattle.promises.specs.Words.{hands_to, frames_out}

pub record Reading (A : Type 0) : Type 0 where
  pub of_answer : Answer → List A
  pub of_late : List A
  pub of_heard : Heard → List A
  pub when_late : (a : Answer) → a.code ≡ 12 → frames_of a ≡ [] → a.gap ≡ 0 → of_answer a ≡ of_late
  pub when_heard : (a : Answer) (h : Heard) → a.code ≡ 0 → frames_of a ≡ h.fate.delivered → a.gap ≡ h.judged.gap →
      of_answer a ≡ of_heard h

-- what is read off the calls for a flow, in order
unfoldable pub read_out : {A : Type 0} → Reading A → Kind → ℕ → ℕ → Card → List Call → List A
read_out w kind session flow c [] = []
read_out w kind session flow c (x ∷ more) =
    cond (hands_to kind session flow x) (w.of_answer (answer c x)) [] ++ read_out w kind session flow (after c x) more

-- the frames
abbrev pub frames_read : Reading (List ℕ)
frames_read =
    record {
      of_answer = λ a. frames_of a;
      of_late = [];
      of_heard = λ h. h.fate.delivered;
      when_late = λ a code frames gap. frames;
      when_heard = λ a h code frames gap. frames;
    }

pub frames_read_lem : (kind : Kind) (session flow : ℕ) (c : Card) (calls : List Call) →
    frames_out kind session flow c calls ≡ read_out frames_read kind session flow c calls
unfolding frames_out read_out
frames_read_lem kind session flow c [] = refl
frames_read_lem kind session flow c (x ∷ more) =
    ap (λ (l : List (List ℕ)). cond (hands_to kind session flow x) (frames_of (answer c x)) [] ++ l)
    (frames_read_lem kind session flow (after c x) more)
