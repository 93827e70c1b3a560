-- Lengths read back from frames that lie back to back: one frame more, the loop that does it (`Telling`, with a begin, a turn and an end),
-- and that good frames say their lengths (`said_lengths_lem`, `frames-laid`).
use Prim.Native.Nat.{ℕ, zero, suc, ◌+◌, ◌≤◌, ◌<◌}
use mathlib.Core.Path.{◌≡◌, refl, sym, ap, ◌∙◌}
use mathlib.Core.Bool.{true}
use mathlib.Core.Logic.{⊎_elim}
use mathlib.Core.List.{List, [], ◌∷◌, ◌++◌, append_assoc}
use native.Mathlib.Numerals.{add-one}
use native.Mathlib.Omega.{arith}
use native.Mathlib.Nat.{not-suc-le-zero, eq-or-lt_of_le, le_of_suc-le-suc}
use lib.ListN.{length, set, length-append}
use Rattle.octets.specs.Bytes.{byte_at, be16_at}
use Rattle.octets.specs.Each.{Each}
use Rattle.octets.specs.Stretch.{rest, put, joined, lengths_of}
use Rattle.octets.proofs.Stretches.{byte_rest, rest-none, rest-rest, rest-append, put-nil, put-put_front, length-put, set-put}
use Rattle.octets.proofs.Stretches.{joined-cons, length-joined, length-joined-none, lengths_of-none, lengths_of-cons}
use Rattle.flow.specs.Flow.{longest}
use Rattle.mpeg.specs.Frame.{field_at, beside_field, said_length, good}
use Rattle.mpeg.specs.Inside.Stream.{said_lengths, said_end, Laid}
use Rattle.mpeg.proofs.Frames.{GoodFrame, good_says, good-some, said-append}

-- One frame more.
abbrev said_at : ℕ → List ℕ → ℕ
said_at k bytes = said_length (rest bytes (said_end k bytes))

end_suc : (k : ℕ) (bytes : List ℕ) → said_end (suc k) bytes ≡ said_end k bytes + said_at k bytes
unfolding said_end
end_suc zero bytes = rw (rest-none bytes) (omega arith)
end_suc (suc k) bytes =
    let n = said_length bytes in
    let more = rest bytes n in
    let same : said_length (rest more (said_end k more)) ≡ said_length (rest bytes (n + said_end k more)) =
    ap said_length (rest-rest bytes n (said_end k more)) in
    omega (arith, end_suc k more, same)

lengths-suc : (k : ℕ) (bytes : List ℕ) → said_lengths (suc k) bytes ≡ said_lengths k bytes ++ (said_at k bytes ∷ [])
unfolding said_lengths said_end
lengths-suc zero bytes = rw (rest-none bytes) refl
lengths-suc (suc k) bytes =
    let n = said_length bytes in
    let more = rest bytes n in
    ap (λ (l : List ℕ). n ∷ l)
    (lengths-suc k more ∙ ap (λ (l : List ℕ). said_lengths k more ++ (said_length l ∷ [])) (rest-rest bytes n (said_end k more)))

length_said : (k : ℕ) (bytes : List ℕ) → length (said_lengths k bytes) ≡ k
unfolding said_lengths
length_said zero bytes = refl
length_said (suc k) bytes = ap suc (length_said k (rest bytes (said_length bytes)))

end_within : (k n : ℕ) (bytes : List ℕ) → k ≤ n → said_end k bytes ≤ said_end n bytes
end_within k zero bytes l = let z : k ≡ 0 = omega arith in rw z (omega arith)
end_within k (suc n) bytes l =
    ⊎_elim
    (λ (q : k ≡ suc n). rw q (omega arith))
    (λ (m : k < suc n). omega (arith, end_within k n bytes (le_of_suc-le-suc m), end_suc n bytes))
    (eq-or-lt_of_le l)

end_none : (bytes : List ℕ) → said_end 0 bytes ≡ 0
unfolding said_end
end_none bytes = refl

lengths_none : (bytes : List ℕ) → said_lengths 0 bytes ≡ []
unfolding said_lengths
lengths_none bytes = refl

-- The loop that writes them.
pub record Telling (bytes lengths : List ℕ) (count : ℕ) (lengths' : List ℕ) (from k : ℕ) : Type 0 where
  pub within : k ≤ count
  pub place : from ≡ said_end k bytes
  pub told : lengths' ≡ put lengths 0 (said_lengths k bytes)

pub tell_begin : (bytes lengths : List ℕ) (count : ℕ) → Telling bytes lengths count lengths 0 0
tell_begin bytes lengths count =
    record { within = omega arith; place = sym (end_none bytes); told = sym (ap (put lengths 0) (lengths_none bytes) ∙ put-nil lengths 0) }

module _ {bytes lengths : List ℕ} {count : ℕ} {lengths' : List ℕ} {from k : ℕ} (t : Telling bytes lengths count lengths' from k)
    (room : count ≤ length lengths) (laid : Laid count bytes) where
  pub tell_long : length lengths' ≡ length lengths
  tell_long = ap length t.told ∙ length-put lengths 0 (said_lengths k bytes) (omega (arith, length_said k bytes, t.within))

  module _ (more : k < count) where
    said_is : be16_at bytes (from + field_at) + beside_field ≡ said_at k bytes
    said_is =
        let high : byte_at bytes (from + field_at) ≡ byte_at (rest bytes (said_end k bytes)) field_at =
        ap (λ (n : ℕ). byte_at bytes (n + field_at)) t.place ∙ sym (byte_rest bytes (said_end k bytes) field_at) in
        let low : byte_at bytes (from + field_at + 1) ≡ byte_at (rest bytes (said_end k bytes)) (field_at + 1) =
        ap (byte_at bytes) (let e : from + field_at + 1 ≡ said_end k bytes + (field_at + 1) = omega (arith, t.place) in e)
        ∙ sym (byte_rest bytes (said_end k bytes) (field_at + 1)) in
        omega arith

    pub tell_inside : from + said_at k bytes ≤ length bytes
    tell_inside =
        omega (arith, t.place, end_suc k bytes, end_within (suc k) count bytes more, laid.inside)

    -- the field of this frame is there, and its length fits
    pub field_inside : from + field_at + 1 < length bytes
    field_inside = omega (arith, tell_inside)

    pub said-small : be16_at bytes (from + field_at) + beside_field ≤ longest
    said-small = rw said_is (laid.short k more)

    module _ (said : ℕ) (e : said ≡ be16_at bytes (from + field_at) + beside_field) where
      pub end_small : from + said ≤ length bytes
      end_small = omega (arith, tell_inside, said_is)

      pub tell_turn : Telling bytes lengths count (set lengths' k said) (from + said) (k + 1)
      tell_turn =
          let one = add-one k in
          let size = length_said k bytes in
          record {
            within = omega arith;
            place = omega (arith, e, said_is, t.place, end_suc k bytes) ∙ ap (λ (n : ℕ). said_end n bytes) (sym one);
            told =
                set-put lengths' k said (omega (arith, tell_long))
                ∙ ap (λ (n : ℕ). put lengths' k (n ∷ [])) (e ∙ said_is)
                ∙ ap (λ (l : List ℕ). put l k (said_at k bytes ∷ [])) t.told
                ∙ ap (λ (n : ℕ). put (put lengths 0 (said_lengths k bytes)) n (said_at k bytes ∷ [])) (sym size)
                ∙ put-put_front lengths (said_lengths k bytes) (said_at k bytes ∷ []) (omega arith)
                ∙ ap (put lengths 0) (sym (lengths-suc k bytes) ∙ ap (λ (n : ℕ). said_lengths n bytes) (sym one));
          }

-- Good frames say their lengths, whatever stands behind them.
said_front : (frame behind : List ℕ) → good frame ≡ true → said_length (frame ++ behind) ≡ length frame
said_front frame behind g = said-append frame behind (omega (arith, good-some frame g)) ∙ (good_says frame g).its_length

module _ (frame : List ℕ) (frames : List (List ℕ)) (behind : List ℕ) (g : good frame ≡ true) where
  first_is : joined (frame ∷ frames) ++ behind ≡ frame ++ (joined frames ++ behind)
  first_is = ap (λ (l : List ℕ). l ++ behind) (joined-cons frame frames) ∙ append_assoc frame (joined frames) behind

  said-first : said_length (joined (frame ∷ frames) ++ behind) ≡ length frame
  said-first = ap said_length first_is ∙ said_front frame (joined frames ++ behind) g

  said-others : rest (joined (frame ∷ frames) ++ behind) (said_length (joined (frame ∷ frames) ++ behind)) ≡ joined frames ++ behind
  said-others =
      ap (rest (joined (frame ∷ frames) ++ behind)) said-first ∙ ap (λ (l : List ℕ). rest l (length frame)) first_is
      ∙ rest-append frame (joined frames ++ behind)

pub said_lengths_lem : (frames : List (List ℕ)) (behind : List ℕ) → Each GoodFrame frames →
    said_lengths (length frames) (joined frames ++ behind) ≡ lengths_of frames
unfolding said_lengths
said_lengths_lem [] behind g = sym lengths_of-none
said_lengths_lem (f ∷ frames) behind g =
    rw (said-others f frames behind g.0, said-first f frames behind g.0)
    (ap (λ (l : List ℕ). length f ∷ l) (said_lengths_lem frames behind g.1) ∙ sym (lengths_of-cons f frames))

said_end_lem : (frames : List (List ℕ)) (behind : List ℕ) → Each GoodFrame frames →
    said_end (length frames) (joined frames ++ behind) ≡ length (joined frames)
unfolding said_end
said_end_lem [] behind g = sym length-joined-none
said_end_lem (f ∷ frames) behind g =
    rw (said-others f frames behind g.0, said-first f frames behind g.0)
    (omega (arith, said_end_lem frames behind g.1, length-joined f frames))

said-short : (frames : List (List ℕ)) (behind : List ℕ) → Each GoodFrame frames → (k : ℕ) → k < length frames →
    said_at k (joined frames ++ behind) ≤ longest
unfolding said_end
said-short [] behind g k l = absurd (not-suc-le-zero l)
said-short (f ∷ frames) behind g zero l =
    rw (rest-none (joined (f ∷ frames) ++ behind), said-first f frames behind g.0) (good_says f g.0).short
said-short (f ∷ frames) behind g (suc k) l =
    let bytes = joined (f ∷ frames) ++ behind in
    let more = rest bytes (said_length bytes) in
    let further : rest bytes (said_length bytes + said_end k more) ≡ rest more (said_end k more) =
    sym (rest-rest bytes (said_length bytes) (said_end k more)) in
    let here : said_at k more ≤ longest = rw (said-others f frames behind g.0) (said-short frames behind g.1 k (omega arith)) in
    rw further here

pub frames-laid : (frames : List (List ℕ)) (behind : List ℕ) → Each GoodFrame frames → Laid (length frames) (joined frames ++ behind)
frames-laid frames behind g =
    record {
      inside = omega (arith, said_end_lem frames behind g, length-append (joined frames) behind);
      short = said-short frames behind g;
    }
