-- Pieces that are passed on or dropped, told from the front: what comes out is the bodies of those that go on, and what is dropped is
-- what was held and then the bodies of the others.
use Prim.Native.Nat.{ℕ, ◌≤◌}
use mathlib.Core.Path.{◌≡◌, refl, sym, ap, ◌∙◌}
use mathlib.Core.Bool.{Bool, true, false, not, cond}
use mathlib.Core.List.{List, [], ◌∷◌, ◌++◌, append-nil, append_assoc, map}
use native.Mathlib.Omega.{arith}
use lib.ListN.{length}
use Rattle.octets.specs.Stretch.{joined}
use Rattle.octets.specs.Each.{Each}
use Rattle.octets.proofs.Stretches.{put-nil, joined-none, joined-cons, cut-put}
use Rattle.packet.specs.Header.{Packet, sub, s_set, number}
use Rattle.table.specs.declared.Table.{Table}
use Rattle.join.specs.Join.{Fate, dropping, and_then, in_order}
use Rattle.join.specs.Slices.{Slices}
use Rattle.pass.specs.Pass.{passed_on, pass_all}
use Rattle.card.specs.Hear.{judged_by, hear}
use Rattle.card.specs.Receive.{place_of, row_of, flow_to, flow_of, heard_by, carried_out, received}
use Rattle.card.proofs.Taking.{large-enough}
use Rattle.card.proofs.Accepted.{accepted, received-accepted}
use Rattle.card.proofs.Limits.{accepted_bounded}
use Rattle.card.proofs.Step.{frames_in}
use Rattle.promises.specs.Words.{chosen}

module _ {X : Type 0} (goes : X → Bool) (body : X → List ℕ) where
  abbrev rule : List ℕ → X → Fate
  rule before x = passed_on (goes x) (body x)

  -- one piece before the others: it comes out, ..
  gives-first : (goes : Bool) (x : X) (more : List X) →
      (passed_on goes (body x)).delivered ++ map body more ≡ map body (cond goes (x ∷ more) more)
  gives-first true x more = refl
  gives-first false x more = refl

  -- .. or it is dropped
  drops_first : (goes : Bool) (x : X) (more : List X) →
      (passed_on goes (body x)).dropped ++ joined (map body more) ≡ joined (map body (cond (not goes) (x ∷ more) more))
  drops_first true x more = refl
  drops_first false x more = sym (joined-cons (body x) (map body more))

  all_given : (f : Fate) (xs : List X) → (in_order rule f xs).delivered ≡ f.delivered ++ map body (chosen goes xs)
  unfolding in_order chosen
  all_given f [] = sym (append-nil f.delivered)
  all_given f (x ∷ more) =
      let r = rule f.held x in
      all_given (and_then f r) more
      ∙ append_assoc f.delivered r.delivered (map body (chosen goes more))
      ∙ ap (λ (l : List (List ℕ)). f.delivered ++ l) (gives-first (goes x) x (chosen goes more))

  all_dropped : (f : Fate) (xs : List X) → (in_order rule f xs).dropped ≡ f.dropped ++ joined (map body (chosen (λ x. not (goes x)) xs))
  unfolding in_order chosen
  all_dropped f [] = sym (append-nil f.dropped) ∙ ap (λ (l : List ℕ). f.dropped ++ l) (sym joined-none)
  all_dropped f (x ∷ more) =
      let r = rule f.held x in
      all_dropped (and_then f r) more
      ∙ append_assoc f.dropped r.dropped (joined (map body (chosen (λ x. not (goes x)) more)))
      ∙ ap (λ (l : List ℕ). f.dropped ++ l) (drops_first (goes x) x (chosen (λ x. not (goes x)) more))

  pub pass_gives : (held : List ℕ) (xs : List X) → (pass_all goes body held xs).delivered ≡ map body (chosen goes xs)
  unfolding pass_all
  pass_gives held xs = all_given (dropping held) xs

  pub pass_drops : (held : List ℕ) (xs : List X) →
      (pass_all goes body held xs).dropped ≡ held ++ joined (map body (chosen (λ x. not (goes x)) xs))
  unfolding pass_all
  pass_drops held xs = all_dropped (dropping held) xs

-- what holds of each holds of those that are chosen; and tests that agree choose the same
module _ {X : Type 0} where
  pub each_chosen : (P : X → Type 0) (test : X → Bool) (xs : List X) → Each P xs → Each P (chosen test xs)
  unfolding chosen
  each_chosen P test [] all = tt
  each_chosen P test (x ∷ more) all = by (test x) (each_chosen P test more all.1)
    where
      by : (t : Bool) → Each P (chosen test more) → Each P (cond t (x ∷ chosen test more) (chosen test more))
      by true behind = (all.0, behind)
      by false behind = behind

  pub chosen-joined : (test : X → Bool) (xs ys : List X) → chosen test (xs ++ ys) ≡ chosen test xs ++ chosen test ys
  unfolding chosen
  chosen-joined test [] ys = refl
  chosen-joined test (x ∷ xs) ys = by (test x) (chosen-joined test xs ys)
    where
      by : (t : Bool) → chosen test (xs ++ ys) ≡ chosen test xs ++ chosen test ys →
          cond t (x ∷ chosen test (xs ++ ys)) (chosen test (xs ++ ys)) ≡ cond t (x ∷ chosen test xs) (chosen test xs) ++ chosen test ys
      by true behind = ap (λ (l : List X). x ∷ l) behind
      by false behind = behind

  pub chosen_alike : (test also : X → Bool) (xs : List X) → ((x : X) → test x ≡ also x) → chosen test xs ≡ chosen also xs
  unfolding chosen
  chosen_alike test also [] same = refl
  chosen_alike test also (x ∷ more) same =
      ap (λ (t : Bool). cond t (x ∷ chosen test more) (chosen test more)) (same x)
      ∙ ap (λ (l : List X). cond (also x) (x ∷ l) l) (chosen_alike test also more same)

-- The data call: what an accepted packet that leaves nothing held shows of what became of the bytes.
module _ (t : Table) (packet : Packet) (s : Slices) (z : (received t packet s).answer.code ≡ 0) where
  abbrev its-fate : Fate
  its-fate = (heard_by t (row_of t packet) (sub packet) s).fate

  pub found_are : frames_in (received t packet s) ≡ its-fate.delivered
  unfolding carried_out
  found_are =
      let here = accepted t packet s z in
      let room : length its-fate.delivered ≤ length s.lengths =
      omega (arith, (accepted_bounded t packet s here).frames-few, (large-enough s here.large).lengths-enough) in
      rw (received-accepted t packet s z) (cut-put its-fate.delivered s.lengths s.output room)

  pub bytes_is : (received t packet s).answer.bytes ≡ length (joined its-fate.delivered)
  unfolding carried_out
  bytes_is = rw (received-accepted t packet s z) refl

  pub dropped_is : (received t packet s).answer.dropped ≡ length its-fate.dropped
  unfolding carried_out
  dropped_is = rw (received-accepted t packet s z) refl

  pub places_stay : its-fate.held ≡ [] → (received t packet s).slices.holding ≡ s.holding
  unfolding carried_out
  places_stay none =
      rw (received-accepted t packet s z, none)
      (put-nil s.holding (place_of (row_of t packet) (flow_to t (row_of t packet) (sub packet))))

  -- one without a number passed over none
  pub no_gap : s_set (sub packet) ≡ false → (received t packet s).answer.gap ≡ 0
  unfolding carried_out hear
  no_gap clear =
      rw (received-accepted t packet s z)
      (ap (λ (set : Bool). (judged_by set (flow_of t (row_of t packet) (sub packet)) (number (sub packet))).gap) clear)
