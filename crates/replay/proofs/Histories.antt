-- A run of a capture is a history: the answers listed are those of the calls one after another, and the card goes on as they leave it. So
-- what is proved of histories of calls holds of captures.
use Prim.Native.Nat.{ℕ, zero, suc}
use mathlib.Core.Path.{◌≡◌, refl, ap, ◌∙◌}
use mathlib.Core.List.{List, [], ◌∷◌, ◌++◌}
use lib.ListN.{replicate}
use Rattle.octets.specs.Count.{up_to}
use Rattle.card.specs.Receive.{holding_size}
use Rattle.card.specs.History.{Card, Call, Answer, answer, after, answers, after_all, empty_card}
use Rattle.capture.specs.File.{nth_entry}
use Rattle.replay.specs.Run.{call_of, run_one, begin, standing, answer_at}

-- calls and then one more
after_more : (c : Card) (xs : List Call) (x : Call) → after_all c (xs ++ (x ∷ [])) ≡ after (after_all c xs) x
unfolding after_all
after_more c [] x = refl
after_more c (y ∷ xs) x = after_more (after c y) xs x

answers_more : (c : Card) (xs : List Call) (x : Call) → answers c (xs ++ (x ∷ [])) ≡ answers c xs ++ (answer (after_all c xs) x ∷ [])
unfolding answers after_all
answers_more c [] x = refl
answers_more c (y ∷ xs) x = ap (λ (l : List Answer). answer c y ∷ l) (answers_more (after c y) xs x)

-- the card that a run begins with, and the call that entry k stands for, with the slices that it is lent there
abbrev pub start_card : Card
start_card = empty_card (replicate holding_size 0)

abbrev pub call_at : List ℕ → ℕ → Call
call_at file k = call_of (standing file k) (nth_entry file k)

pub run-card : (file : List ℕ) (k : ℕ) → after_all start_card (up_to (call_at file) k) ≡ (standing file k).card
unfolding up_to standing begin run_one after_all
run-card file zero = refl
run-card file (suc k) =
    after_more start_card (up_to (call_at file) k) (call_at file k) ∙ ap (λ (c : Card). after c (call_at file k)) (run-card file k)

pub run-answers : (file : List ℕ) (k : ℕ) → answers start_card (up_to (call_at file) k) ≡ up_to (answer_at file) k
unfolding up_to answers answer_at
run-answers file zero = refl
run-answers file (suc k) =
    answers_more start_card (up_to (call_at file) k) (call_at file k)
    ∙ ap (λ (l : List Answer). l ++ (answer (after_all start_card (up_to (call_at file) k)) (call_at file k) ∷ [])) (run-answers file k)
    ∙ ap (λ (c : Card). up_to (answer_at file) k ++ (answer c (call_at file k) ∷ [])) (run-card file k)
