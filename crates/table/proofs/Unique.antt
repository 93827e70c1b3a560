-- No call of this crate leaves its outcome open: something is permitted, and any two permitted outcomes are equal, the table included.
use Prim.Native.Nat.{ℕ}
use mathlib.Core.Path.{◌≡◌, refl, sym, ◌∙◌}
use Rattle.table.specs.declared.Request.{Request}
use Rattle.table.specs.declared.Table.{Table}
use Rattle.table.specs.declared.Opening.{Opening}
use Rattle.table.specs.declared.Closing.{Closing}
use Rattle.table.specs.Rows.{empty, PermitsEmpty}
use Rattle.table.specs.Calls.{opened, opened_by_number, closed, PermitsOpen, PermitsOpenByNumber, PermitsClose}

pub empty-permitted : PermitsEmpty empty
empty-permitted = refl

pub empty_unique : (a b : Table) → PermitsEmpty a → PermitsEmpty b → a ≡ b
empty_unique a b p q = p ∙ sym q

pub open_permitted : (t : Table) (q : Request) → PermitsOpen t q (opened t q)
open_permitted t q = refl

pub open_unique : (t : Table) (q : Request) (a b : Opening) → PermitsOpen t q a → PermitsOpen t q b → a ≡ b
open_unique t q a b is-a is_b = is-a ∙ sym is_b

pub open_by_number-permitted : (t : Table) (id number : ℕ) → PermitsOpenByNumber t id number (opened_by_number t id number)
open_by_number-permitted t id number = refl

pub open_by_number_unique : (t : Table) (id number : ℕ) (a b : Opening) → PermitsOpenByNumber t id number a →
    PermitsOpenByNumber t id number b → a ≡ b
open_by_number_unique t id number a b p q = p ∙ sym q

pub close_permitted : (t : Table) (id : ℕ) → PermitsClose t id (closed t id)
close_permitted t id = refl

pub close_unique : (t : Table) (id : ℕ) (a b : Closing) → PermitsClose t id a → PermitsClose t id b → a ≡ b
close_unique t id a b p q = p ∙ sym q
