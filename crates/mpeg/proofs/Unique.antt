-- Neither the writer nor the reader nor the hand-out leaves its outcome open: something is permitted, and any two permitted outcomes are
-- the same, the slices included. A slice that is handed out is the same when it points to the same place and has the same bytes; its third
-- part, the name under which the prover follows it, is nothing that a program has.
use Prim.Native.Nat.{ℕ}
use mathlib.Core.Path.{◌≡◌, refl, sym, ◌∙◌}
use mathlib.Core.List.{List}
use denote.Ref.{Bor}
use Rattle.octets.specs.Stretch.{part}
use Rattle.mpeg.specs.Write.{Asked, WriteOutcome, written, PermitsWrite}
use Rattle.mpeg.specs.Read.{AskedRead, ReadOutcome, read, PermitsRead}
use Rattle.mpeg.specs.HandOut.{source, handed_length, handed_out, PermitsHandOut, PermitsHandedOut}

pub write_permitted : (a : Asked) → PermitsWrite a (written a)
write_permitted a = refl

pub write_unique : (a : Asked) (o o' : WriteOutcome) → PermitsWrite a o → PermitsWrite a o' → o ≡ o'
write_unique a o o' p q = p ∙ sym q

pub read-permitted : (a : AskedRead) → PermitsRead a (read a)
read-permitted a = refl

pub read_unique : (a : AskedRead) (o o' : ReadOutcome) → PermitsRead a o → PermitsRead a o' → o ≡ o'
read_unique a o o' p q = p ∙ sym q

-- what is handed out: the front of its source
abbrev pub hand_out_there : Bor (List ℕ) → Bor (List ℕ) → Bor (List ℕ)
hand_out_there queue null =
    record {
      ref_ptr = (source queue null).ref_ptr;
      now = part (source queue null).now 0 (handed_length (source queue null).now);
    }

pub hand_out_permitted : (queue null : Bor (List ℕ)) → PermitsHandOut queue null (hand_out_there queue null)
hand_out_permitted queue null = record { in_its_source = refl; at_its_front = refl; its_bytes = refl }

pub hand_out_unique : (queue null a b : Bor (List ℕ)) → PermitsHandOut queue null a → PermitsHandOut queue null b →
    (a.ref_ptr.0 ≡ b.ref_ptr.0) × (a.ref_ptr.1 ≡ b.ref_ptr.1) × (a.now ≡ b.now)
hand_out_unique queue null a b p q =
    (p.in_its_source ∙ sym q.in_its_source, p.at_its_front ∙ sym q.at_its_front, p.its_bytes ∙ sym q.its_bytes)

-- the copy
pub handed_out-permitted : (queue : List ℕ) → PermitsHandedOut queue (handed_out queue)
handed_out-permitted queue = refl

pub handed_out_unique : (queue a b : List ℕ) → PermitsHandedOut queue a → PermitsHandedOut queue b → a ≡ b
handed_out_unique queue a b p q = p ∙ sym q
