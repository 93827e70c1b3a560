-- No refusal has the number 0, which an answer is told by where nothing was refused, and no two have one number: so an answer is what its
-- number tells, and a contract that says the number leaves no answer open.
use Prim.Native.Nat.{ℕ}
use mathlib.Core.Path.{◌≡◌, refl, sym, ap, ◌∙◌}
use mathlib.Core.Bool.{Bool, true, false, cond, ◌&&◌}
use mathlib.Core.List.{List, [], ◌∷◌}
use native.Mathlib.Omega.{arith}
use lib.Dec.{eqb}
use borrow.Author.Tests.{eqb-true}
use Rattle.std.specs.Prelude.{Result, Ok, Err}
use Rattle.refusal.specs.declared.Refusal.{Refusal}
use Rattle.refusal.specs.declared.Refusal.TheVariants as refusal
use Rattle.refusal.specs.Refusal as numbers
use Rattle.refusal.specs.Refusal.{first}
use Rattle.refusal.specs.Number.{number_of, code_of}
use Rattle.refusal.proofs.Laws.{and_left, and_right}

pub number_some : (r : Refusal) → number_of r ≡ 0 → ⊥
number_some refusal.SliceTooSmall e = omega (arith, e)
number_some refusal.PacketTooShort e = omega (arith, e)
number_some refusal.PacketTooLong e = omega (arith, e)
number_some refusal.ControlMessage e = omega (arith, e)
number_some refusal.SessionNotOpen e = omega (arith, e)
number_some refusal.HeaderNotPlain e = omega (arith, e)
number_some refusal.FlowOutside e = omega (arith, e)
number_some refusal.NothingCarried e = omega (arith, e)
number_some refusal.LengthsDisagree e = omega (arith, e)
number_some refusal.ContentSpoilt e = omega (arith, e)
number_some refusal.Late e = omega (arith, e)
number_some refusal.TableBroken e = omega (arith, e)
number_some refusal.SegmentOutside e = omega (arith, e)
number_some refusal.NotVersion3 e = omega (arith, e)
number_some refusal.OpenWithoutId e = omega (arith, e)
number_some refusal.AlreadyOpen e = omega (arith, e)
number_some refusal.AllRowsOpen e = omega (arith, e)
number_some refusal.NumberUnknown e = omega (arith, e)
number_some refusal.CloseOfNone e = omega (arith, e)
number_some refusal.AddressOutside e = omega (arith, e)
number_some refusal.LimitOutside e = omega (arith, e)
number_some refusal.FramesUnsound e = omega (arith, e)
number_some refusal.PositionOutside e = omega (arith, e)
number_some refusal.NothingLeft e = omega (arith, e)
number_some refusal.OutputTooSmall e = omega (arith, e)
number_some refusal.FileTooLong e = omega (arith, e)
number_some refusal.ContentsCut e = omega (arith, e)
number_some refusal.TooManyEntries e = omega (arith, e)
number_some refusal.EntryWrong e = omega (arith, e)
number_some refusal.BodiesDoNotFill e = omega (arith, e)
number_some refusal.MpegOutputTooSmall e = omega (arith, e)
number_some refusal.FrameNotWritten e = omega (arith, e)
number_some refusal.NoRunGivesIt e = omega (arith, e)
number_some refusal.PcapHeaderWrong e = omega (arith, e)
number_some refusal.RecordCut e = omega (arith, e)
number_some refusal.ImportTooLarge e = omega (arith, e)
number_some refusal.PcapOutputTooSmall e = omega (arith, e)

-- The way back: each is found by its number among all of them.
abbrev all_refusals : List Refusal
all_refusals =
    refusal.SliceTooSmall
    ∷ refusal.PacketTooShort
    ∷ refusal.PacketTooLong
    ∷ refusal.ControlMessage
    ∷ refusal.SessionNotOpen
    ∷ refusal.HeaderNotPlain
    ∷ refusal.FlowOutside
    ∷ refusal.NothingCarried
    ∷ refusal.LengthsDisagree
    ∷ refusal.ContentSpoilt
    ∷ refusal.Late
    ∷ refusal.TableBroken
    ∷ refusal.SegmentOutside
    ∷ refusal.NotVersion3
    ∷ refusal.OpenWithoutId
    ∷ refusal.AlreadyOpen
    ∷ refusal.AllRowsOpen
    ∷ refusal.NumberUnknown
    ∷ refusal.CloseOfNone
    ∷ refusal.AddressOutside
    ∷ refusal.LimitOutside
    ∷ refusal.FramesUnsound
    ∷ refusal.PositionOutside
    ∷ refusal.NothingLeft
    ∷ refusal.OutputTooSmall
    ∷ refusal.FileTooLong
    ∷ refusal.ContentsCut
    ∷ refusal.TooManyEntries
    ∷ refusal.EntryWrong
    ∷ refusal.BodiesDoNotFill
    ∷ refusal.MpegOutputTooSmall
    ∷ refusal.FrameNotWritten
    ∷ refusal.NoRunGivesIt
    ∷ refusal.PcapHeaderWrong
    ∷ refusal.RecordCut
    ∷ refusal.ImportTooLarge
    ∷ refusal.PcapOutputTooSmall
    ∷ []

abbrev sought : ℕ → List Refusal → Refusal
sought n [] = refusal.SliceTooSmall
sought n (r ∷ rest) = cond (eqb (number_of r) n) r (sought n rest)

unfoldable pub by_number : ℕ → Refusal
by_number n = sought n all_refusals

pub read_back : (r : Refusal) → by_number (number_of r) ≡ r
unfolding by_number
read_back refusal.SliceTooSmall = refl
read_back refusal.PacketTooShort = refl
read_back refusal.PacketTooLong = refl
read_back refusal.ControlMessage = refl
read_back refusal.SessionNotOpen = refl
read_back refusal.HeaderNotPlain = refl
read_back refusal.FlowOutside = refl
read_back refusal.NothingCarried = refl
read_back refusal.LengthsDisagree = refl
read_back refusal.ContentSpoilt = refl
read_back refusal.Late = refl
read_back refusal.TableBroken = refl
read_back refusal.SegmentOutside = refl
read_back refusal.NotVersion3 = refl
read_back refusal.OpenWithoutId = refl
read_back refusal.AlreadyOpen = refl
read_back refusal.AllRowsOpen = refl
read_back refusal.NumberUnknown = refl
read_back refusal.CloseOfNone = refl
read_back refusal.AddressOutside = refl
read_back refusal.LimitOutside = refl
read_back refusal.FramesUnsound = refl
read_back refusal.PositionOutside = refl
read_back refusal.NothingLeft = refl
read_back refusal.OutputTooSmall = refl
read_back refusal.FileTooLong = refl
read_back refusal.ContentsCut = refl
read_back refusal.TooManyEntries = refl
read_back refusal.EntryWrong = refl
read_back refusal.BodiesDoNotFill = refl
read_back refusal.MpegOutputTooSmall = refl
read_back refusal.FrameNotWritten = refl
read_back refusal.NoRunGivesIt = refl
read_back refusal.PcapHeaderWrong = refl
read_back refusal.RecordCut = refl
read_back refusal.ImportTooLarge = refl
read_back refusal.PcapOutputTooSmall = refl

pub number_of-one : (a b : Refusal) → number_of a ≡ number_of b → a ≡ b
number_of-one a b same = sym (read_back a) ∙ ap by_number same ∙ read_back b

pub code_of-one : (a b : Result (Unit {0}) Refusal) → code_of a ≡ code_of b → a ≡ b
code_of-one (Ok a) (Ok b) same = refl
code_of-one (Ok a) (Err r) same = absurd (number_some r (sym same))
code_of-one (Err r) (Ok b) same = absurd (number_some r same)
code_of-one (Err a) (Err b) same = ap Err (number_of-one a b same)

-- Each number of an order is that of a refusal. Of an order that is written out this is `refl`.
abbrev pub told : List numbers.Refusal → Bool
told [] = true
told (r ∷ rest) = eqb (number_of (by_number r.number)) r.number && told rest

pub first_told : (xs : List numbers.Refusal) → told xs ≡ true → (first xs ≡ 0 → ⊥) → number_of (by_number (first xs)) ≡ first xs
first_told [] t some = absurd (some refl)
first_told (r ∷ xs) t some =
    let head = eqb (number_of (by_number r.number)) r.number in
    by r.applies (and_left head (told xs) t) (first_told xs (and_right head (told xs) t)) some
  where
    by : (b : Bool) → eqb (number_of (by_number r.number)) r.number ≡ true →
        ((first xs ≡ 0 → ⊥) → number_of (by_number (first xs)) ≡ first xs) →
        (cond b r.number (first xs) ≡ 0 → ⊥) → number_of (by_number (cond b r.number (first xs))) ≡ cond b r.number (first xs)
    by true here later some = eqb-true (number_of (by_number r.number)) r.number here
    by false here later some = later some
