-- The lines of a trace, piece by piece: what stands behind each call that writes, and the loops over frames, flows and rows.
use Prim.Native.Nat.{ℕ, ◌+◌, ◌-◌, ◌*◌, ◌<◌, ◌≤◌}
use mathlib.Core.Path.{◌≡◌, refl, sym, ap, ◌∙◌}
use mathlib.Core.Bool.{Bool, true, false, cond}
use mathlib.Core.List.{List, [], ◌++◌, map}
use native.Mathlib.Omega.{arith}
use borrow.Author.Tests.{eq-eqb, ne_eqb}
use lib.ListN.{length, take, drop}
use Rattle.octets.specs.Bytes.{byte_at}
use Rattle.octets.specs.Count.{sum_to, up_to}
use Rattle.octets.specs.Stretch.{part, joined}
use Rattle.octets.proofs.Counts.{sum-none, sum_more, sum-within}
use Rattle.octets.proofs.Stretches.{sliced_part, cut-part-none, cut-part_more, joined-none, joined-map_more}
use Rattle.flow.specs.declared.Flow.{Flow}
use Rattle.flow.specs.Flow.{flows}
use Rattle.table.specs.declared.Row.{Row}
use Rattle.table.specs.declared.Table.{Table}
use Rattle.table.specs.Rows.{rows, is_closed, row_at, flow_at}
use Rattle.table.specs.Broken.{broken}
use Rattle.table.proofs.Keeping.{flows-whole}
use Rattle.join.specs.Slices.{most_bytes}
use Rattle.card.specs.Receive.{place_of, frames_found}
use Rattle.text.specs.declared.Text.{Text}
use Rattle.text.specs.Text.{ascii, decimal, column, hex, space, newline, Wrote, Appended, SameRoom, HasRoom}
use Rattle.text.proofs.Writing.{wrote_then, wrote_none, wrote_as}
use Rattle.trace.specs.Trace.{frame_line, hex_or_dash, flow_line, flow_text, row_line, row_text}
use Rattle.replay.specs.Inside.{Findable}
use Rattle.trace.specs.Inside.{frame_room, frames_room, HeldFew}

-- The line of a frame: a word, its bytes, the end of the line.
pub frame-written : {t₀ t₁ t₂ t₃ : List ℕ} {at p₁ p₂ next : ℕ} (frame : List ℕ) →
    Wrote t₀ t₁ at p₁ (ascii " frame ") → Wrote t₁ t₂ p₁ p₂ (hex frame) → Wrote t₂ t₃ p₂ next newline →
    Wrote t₀ t₃ at next (frame_line frame)
unfolding frame_line
frame-written frame w₁ w₂ w₃ = wrote_then (wrote_then w₁ w₂) w₃

-- The frames of a call: after i of them their lines are written, and the next frame starts behind their bytes.
pub record Framing (output lengths : List ℕ) (count : ℕ) (before text : Text) (from i : ℕ) : Type 0 where
  pub within : i ≤ count
  pub wrote : Appended before text (joined (map frame_line (frames_found i lengths output)))
  pub same_room : SameRoom before text
  pub from_is : from ≡ sum_to (byte_at lengths) i
  pub length_is : text.length ≡ before.length + frame_room * i + 2 * from

-- no frames, no lines
no_frames : (output lengths : List ℕ) → joined (map frame_line (frames_found 0 lengths output)) ≡ []
no_frames output lengths = ap (λ (l : List (List ℕ)). joined (map frame_line l)) (cut-part-none lengths output) ∙ joined-none

-- nothing is written yet
pub framing_begin : (output lengths : List ℕ) (count : ℕ) (before : Text) → HasRoom before 0 →
    Framing output lengths count before before 0 0
framing_begin output lengths count before h =
    record {
      within = omega arith;
      wrote = wrote_as (sym (no_frames output lengths)) (wrote_none before.room.now before.length (omega (arith, h)));
      same_room = (refl, refl);
      from_is = sym (sum-none (byte_at lengths));
      length_is = omega arith;
    }

module _ {output lengths : List ℕ} {count : ℕ} {before text : Text} {from i : ℕ} (f : Framing output lengths count before text from i)
    (found : Findable output lengths count) (size : ℕ) (e : size ≡ byte_at lengths i) (more : i < count) where
  -- one more frame ends within what a call delivers
  frame-within : from + size ≤ most_bytes
  frame-within = omega (arith, e, f.from_is, sum-within (byte_at lengths) i count more, found.all_short)

  -- so its bytes are there, and there is room for its line
  pub frame_inside : from + size ≤ length output
  frame_inside = omega (arith, frame-within, found.output_long)

  pub frame_room_lem : HasRoom before frames_room → HasRoom text (frame_room + 2 * size)
  frame_room_lem long = omega (arith, frame-within, more, long, f.length_is, found.few, f.same_room.1)

  -- its line behind the others
  pub framing_turn : {text' : Text} → Appended text text' (frame_line (part output from size)) → SameRoom text text' →
      text'.length ≡ text.length + frame_room + 2 * size → Framing output lengths count before text' (from + size) (i + 1)
  framing_turn {text'} w same n =
      let start : part output from size ≡ part output (sum_to (byte_at lengths) i) (byte_at lengths i) =
      ap (λ (s : ℕ). part output from s) e ∙ ap (λ (s : ℕ). part output s (byte_at lengths i)) f.from_is in
      let last = part output (sum_to (byte_at lengths) i) (byte_at lengths i) in
      let longer = cut-part_more lengths output i (omega (arith, more, found.few, found.lengths_long)) in
      record {
        within = omega (arith, more);
        wrote =
            wrote_as
            (ap (λ (s : List ℕ). joined (map frame_line (frames_found i lengths output)) ++ frame_line s) start
            ∙ sym (joined-map_more frame_line (frames_found i lengths output) last)
            ∙ ap (λ (s : List (List ℕ)). joined (map frame_line s)) (sym longer))
            (wrote_then f.wrote w);
        same_room = (same.0 ∙ f.same_room.0, same.1 ∙ f.same_room.1);
        from_is = omega (arith, e, f.from_is, sum_more (byte_at lengths) i);
        length_is = omega (arith, n, f.length_is);
      }

-- The line of a flow. A fresh flow has none.
pub flow-fresh : (a : List ℕ) (at : ℕ) (holding : List ℕ) (r k : ℕ) (f : Flow) → f.heard ≡ 0 → at ≤ length a →
    Wrote a a at at (flow_text holding r k f)
unfolding flow_text
flow-fresh a at holding r k f unheard inside =
    wrote_as (ap (λ (h : Bool). cond h [] (flow_line r k f (part holding (place_of r k) f.held))) (sym (eq-eqb f.heard 0 unheard)))
    (wrote_none a at inside)

-- the bytes that it holds
pub in_place : (holding : List ℕ) (r k : ℕ) (f : Flow) (place held : ℕ) → place ≡ place_of r k → held ≡ f.held →
    take (place + held - place) (drop place holding) ≡ part holding (place_of r k) f.held
in_place holding r k f place held there same =
    sliced_part holding place (place + held) held (omega arith)
    ∙ ap (λ (n : ℕ). part holding n held) there ∙ ap (part holding (place_of r k)) same

-- its parts one behind the other are the text of a flow that is not fresh
pub flow-written : {t₀ t₁ t₂ t₃ t₄ t₅ t₆ t₇ t₈ : List ℕ} {at p₁ p₂ p₃ p₄ p₅ p₆ p₇ next : ℕ} (holding : List ℕ) (r k : ℕ) (f : Flow) →
    (f.heard ≡ 0 → ⊥) → Wrote t₀ t₁ at p₁ (ascii " flow ") → Wrote t₁ t₂ p₁ p₂ (decimal r) → Wrote t₂ t₃ p₂ p₃ (column k) →
    Wrote t₃ t₄ p₃ p₄ (column f.expected) → Wrote t₄ t₅ p₄ p₅ (column f.held) → Wrote t₅ t₆ p₅ p₆ space →
    Wrote t₆ t₇ p₆ p₇ (hex_or_dash (part holding (place_of r k) f.held)) → Wrote t₇ t₈ p₇ next newline →
    Wrote t₀ t₈ at next (flow_text holding r k f)
unfolding flow_text flow_line
flow-written holding r k f heard w₁ w₂ w₃ w₄ w₅ w₆ w₇ w₈ =
    let line = flow_line r k f (part holding (place_of r k) f.held) in
    wrote_as (ap (λ (b : Bool). cond b [] line) (sym (ne_eqb f.heard 0 heard)))
    (wrote_then (wrote_then (wrote_then (wrote_then (wrote_then (wrote_then (wrote_then w₁ w₂) w₃) w₄) w₅) w₆) w₇) w₈)

-- The line of a row: a word, the row's number, its ID and the number of its kind.
pub row_line-written : {t₀ t₁ t₂ t₃ t₄ t₅ : List ℕ} {at p₁ p₂ p₃ p₄ next : ℕ} (r : ℕ) (row : Row) →
    Wrote t₀ t₁ at p₁ (ascii " row ") → Wrote t₁ t₂ p₁ p₂ (decimal r) → Wrote t₂ t₃ p₂ p₃ (column row.id) →
    Wrote t₃ t₄ p₃ p₄ (column row.kind) → Wrote t₄ t₅ p₄ next newline → Wrote t₀ t₅ at next (row_line r row)
unfolding row_line
row_line-written r row w₁ w₂ w₃ w₄ w₅ = wrote_then (wrote_then (wrote_then (wrote_then w₁ w₂) w₃) w₄) w₅

-- A row with its flows. First, the text of each flow.
abbrev pub flows_of : List ℕ → ℕ → Row → ℕ → List ℕ
flows_of holding r row k = flow_text holding r k (flow_at row k)

-- nothing for a closed row
pub row_closed : (a : List ℕ) (at : ℕ) (holding : List ℕ) (r : ℕ) (row : Row) → is_closed row.kind ≡ true → at ≤ length a →
    Wrote a a at at (row_text holding r row)
unfolding row_text
row_closed a at holding r row closed inside =
    wrote_as (ap (λ (b : Bool). cond b [] (row_line r row ++ joined (up_to (flows_of holding r row) flows))) (sym closed))
    (wrote_none a at inside)

-- the line of an open row, and its flows behind it
pub row_written : {a b c : List ℕ} {at behind-line next : ℕ} (holding : List ℕ) (r : ℕ) (row : Row) → is_closed row.kind ≡ false →
    Wrote a b at behind-line (row_line r row) → Wrote b c behind-line next (joined (up_to (flows_of holding r row) flows)) →
    Wrote a c at next (row_text holding r row)
unfolding row_text
row_written holding r row unclosed line all =
    wrote_as (ap (λ (b : Bool). cond b [] (row_line r row ++ joined (up_to (flows_of holding r row) flows))) (sym unclosed))
    (wrote_then line all)

-- All rows. First, the text of each.
abbrev pub rows_of : List ℕ → Table → ℕ → List ℕ
rows_of holding t r = row_text holding r (row_at t r)

-- no flow of an unbroken table holds more than its place has
pub held-few : (t : Table) → broken t ≡ false → (r : ℕ) → r < rows → HeldFew (row_at t r)
held-few t whole r below k l = (flows-whole t whole r k below l).fits
