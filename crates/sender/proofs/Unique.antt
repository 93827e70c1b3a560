-- The call does not leave its outcome open: something is permitted, and any two permitted outcomes are equal, the output included. So are
-- the answers of `send_next`, of which the contract says what they tell.
use Prim.Native.Nat.{ℕ}
use mathlib.Core.Path.{◌≡◌, refl, sym, ap, ◌∙◌}
use mathlib.Core.List.{List}
use Rattle.std.specs.Prelude.{Result, Ok, Err}
use Rattle.refusal.specs.declared.Refusal.{Refusal}
use Rattle.refusal.proofs.Numbers.{number_some, number_of-one}
use Rattle.sender.specs.declared.Position.{Position}
use Rattle.sender.specs.declared.Sent.{Sent}
use Rattle.sender.specs.declared.Next.{Next}
use Rattle.sender.specs.Send.{Asked, SendOutcome, sent, told, PermitsSend}
use Rattle.sender.proofs.Sending.{permits}

pub send_permitted : (a : Asked) → PermitsSend a (sent a)
send_permitted a = permits refl

-- an outcome is what it is made of
same : {code code' length length' number number' : ℕ} {position position' : Position} {output output' : List ℕ} →
    code ≡ code' → length ≡ length' → position ≡ position' → number ≡ number' → output ≡ output' →
    ◌≡◌ {A = SendOutcome}
    (record { answer = record { code = code; length = length; position = position; number = number }; output = output })
    (record { answer = record { code = code'; length = length'; position = position'; number = number' }; output = output' })
same c l p n o = rw (c, l, p, n, o) refl

pub send_unique : (a : Asked) (o o' : SendOutcome) → PermitsSend a o → PermitsSend a o' → o ≡ o'
send_unique a o o' p q =
    same
    (p.its_code ∙ sym q.its_code)
    (p.its_length ∙ sym q.its_length)
    (p.its_position ∙ sym q.its_position)
    (p.its_number ∙ sym q.its_number)
    (p.its_output ∙ sym q.its_output)

-- What is told of an answer has all of it.
told_one : (at : Position) (number : ℕ) (a b : Result Next Refusal) → told at number a ≡ told at number b → a ≡ b
told_one at number (Ok a) (Ok b) e =
    ap (λ (s : Sent). Ok (record { length = s.length; position = s.position; number = s.number })) e
told_one at number (Ok a) (Err r) e = absurd (number_some r (sym (ap (λ (s : Sent). s.code) e)))
told_one at number (Err r) (Ok b) e = absurd (number_some r (ap (λ (s : Sent). s.code) e))
told_one at number (Err a) (Err b) e = ap Err (number_of-one a b (ap (λ (s : Sent). s.code) e))

pub send_one : (a : Asked) (r r' : Result Next Refusal) (output output' : List ℕ) →
    PermitsSend a (record { answer = told a.position a.number r; output = output }) →
    PermitsSend a (record { answer = told a.position a.number r'; output = output' }) → (r ≡ r') × (output ≡ output')
send_one a r r' output output' p q =
    let e =
    send_unique a (record { answer = told a.position a.number r; output = output })
    (record { answer = told a.position a.number r'; output = output' }) p q
    in
    (told_one a.position a.number r r' (ap (λ (o : SendOutcome). o.answer) e), ap (λ (o : SendOutcome). o.output) e)
