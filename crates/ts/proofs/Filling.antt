-- Bytes that are all 0xFF, found one after the other, and the null packet, compared byte for byte.
use Prim.Native.Nat.{ℕ, zero, suc, ◌-◌, ◌<◌}
use mathlib.Core.Path.{◌≡◌, refl, sym, ap, ◌∙◌}
use mathlib.Core.Bool.{Bool, true, false, ◌&&◌, and_assoc, and-eq-true_iff}
use mathlib.Core.List.{List, [], ◌∷◌}
use native.Mathlib.Omega.{arith}
use lib.Dec.{eqb}
use Rattle.std.specs.List.{list_all}
use lib.ListN.{length, replicate}
use borrow.Author.Tests.{ne_eqb, eqb-true}
use Rattle.octets.specs.Bytes.{byte_at}
use Rattle.octets.specs.Stretch.{part, rest}
use Rattle.octets.specs.Tests.{same}
use Rattle.octets.proofs.Stretches.{length_part, part_past, part_to_end, part-four}
use Rattle.ts.specs.Packet.{mpeg_length, payload_length, sync_byte, fill_byte, all_fill, null_packet}

-- The test is std's, of a list whose elements all pass.
pub list_all-fill : (l : List ℕ) → list_all (λ x. eqb x fill_byte) l ≡ all_fill l
unfolding all_fill
list_all-fill [] = refl
list_all-fill (x ∷ l) = ap (λ (t : Bool). eqb x fill_byte && t) (list_all-fill l)

-- What the test says of a list, and what makes it true.
pub all_fill_lem : (l : List ℕ) → all_fill l ≡ true → l ≡ replicate (length l) fill_byte
unfolding all_fill
all_fill_lem [] h = refl
all_fill_lem (x ∷ l) h =
    let both = (and-eq-true_iff (eqb x fill_byte) (all_fill l)).0 h in
    ap (λ (y : ℕ). y ∷ l) (eqb-true x fill_byte both.0) ∙ ap (λ (m : List ℕ). fill_byte ∷ m) (all_fill_lem l both.1)

pub fill_all : (n : ℕ) → all_fill (replicate n fill_byte) ≡ true
unfolding all_fill
fill_all zero = refl
fill_all (suc n) = fill_all n

pub not_all_fill : (l : List ℕ) → 0 < length l → (byte_at l 0 ≡ fill_byte → ⊥) → all_fill l ≡ false
unfolding all_fill
not_all_fill [] some h = absurd (let z : ⊥ = omega arith in z)
not_all_fill (x ∷ l) some h = rw (ne_eqb x fill_byte h) refl

-- The null packet.
same_fill : (l : List ℕ) (n : ℕ) → length l ≡ n → same l (replicate n fill_byte) ≡ all_fill l
unfolding same all_fill
same_fill [] zero h = refl
same_fill [] (suc n) h = absurd (let z : ⊥ = omega (arith, h) in z)
same_fill (x ∷ l) zero h = absurd (let z : ⊥ = omega (arith, h) in z)
same_fill (x ∷ l) (suc n) h = ap (λ (t : Bool). eqb x fill_byte && t) (same_fill l n (omega (arith, h)))

pub null_is : (packet : List ℕ) (filled : Bool) → length packet ≡ mpeg_length → filled ≡ all_fill (rest packet 4) →
    (eqb (byte_at packet 0) sync_byte && eqb (byte_at packet 1) 0x1F && eqb (byte_at packet 2) 0xFF && eqb (byte_at packet 3) 0x10
    && filled)
    ≡ same packet null_packet
unfolding same null_packet
null_is packet filled h e =
    let first = eqb (byte_at packet 0) sync_byte in
    let second = eqb (byte_at packet 1) 0x1F in
    let third = eqb (byte_at packet 2) 0xFF in
    let fourth = eqb (byte_at packet 3) 0x10 in
    let behind : part packet 4 payload_length ≡ rest packet 4 =
    ap (part packet 4) (let n : payload_length ≡ length packet - 4 = omega arith in n) ∙ part_to_end packet 4 in
    let last : same (part packet 4 payload_length) (replicate payload_length fill_byte) ≡ filled =
    same_fill (part packet 4 payload_length) payload_length (length_part packet 4 payload_length (omega arith))
    ∙ ap all_fill behind ∙ sym e in
    let whole : part packet 0 mpeg_length ≡ packet = part_past packet mpeg_length (omega arith) in
    let in_order : (first && second && third && fourth && filled) ≡ (first && (second && (third && (fourth && filled)))) = simp and_assoc in
    in_order
    ∙ sym (ap (λ (l : List ℕ). same l null_packet) (sym whole ∙ part-four packet 0 payload_length (omega arith))
    ∙ ap (λ (t : Bool). first && (second && (third && (fourth && t)))) last)
