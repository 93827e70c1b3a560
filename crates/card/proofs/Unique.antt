-- The data call does not leave its outcome open: something is permitted, and any two permitted outcomes are equal, the slices included.
use Prim.Native.Nat.{ℕ}
use mathlib.Core.Path.{◌≡◌, refl, sym, ◌∙◌}
use mathlib.Core.List.{List}
use Rattle.packet.specs.Header.{Packet}
use Rattle.table.specs.declared.Table.{Table}
use Rattle.join.specs.Slices.{as_slices, Slices}
use Rattle.card.specs.Receive.{Outcome, received, PermitsReceive}
use Rattle.card.proofs.Receiving.{permits}

pub receive_permitted : (t : Table) (p : Packet) (s : Slices) → PermitsReceive t p s (received t p s)
receive_permitted t packet s = permits refl

-- an outcome is what it is made of
same : {code code' frames frames' bytes bytes' dropped dropped' gap gap' : ℕ} {table table' : Table}
    {holding holding' output output' lengths lengths' : List ℕ} →
    code ≡ code' → frames ≡ frames' → bytes ≡ bytes' → dropped ≡ dropped' → gap ≡ gap' → table ≡ table' →
    holding ≡ holding' → output ≡ output' → lengths ≡ lengths' →
    ◌≡◌ {A = Outcome}
    (record {
      answer = record { code = code; frames = frames; bytes = bytes; dropped = dropped; gap = gap; table = table };
      slices = as_slices holding output lengths;
    })
    (record {
      answer = record { code = code'; frames = frames'; bytes = bytes'; dropped = dropped'; gap = gap'; table = table' };
      slices = as_slices holding' output' lengths';
    })
same c f b d g t h o l = rw (c, f, b, d, g, t, h, o, l) refl

pub receive_unique : (t : Table) (p : Packet) (s : Slices) (a b : Outcome) → PermitsReceive t p s a → PermitsReceive t p s b → a ≡ b
receive_unique t packet s a b p q =
    same
    (p.its_number ∙ sym q.its_number)
    (p.its_frames ∙ sym q.its_frames)
    (p.its_bytes ∙ sym q.its_bytes)
    (p.its_dropped ∙ sym q.its_dropped)
    (p.its_gap ∙ sym q.its_gap)
    (p.its_table ∙ sym q.its_table)
    (p.its_holding ∙ sym q.its_holding)
    (p.its_output ∙ sym q.its_output)
    (p.its_lengths ∙ sym q.its_lengths)
