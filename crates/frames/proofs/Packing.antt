-- A frames file, written frame by frame: after k turns the first k frames are written (`Packing`, the loop's invariant).
use Prim.Native.Nat.{ℕ, ◌+◌, ◌*◌, ◌<◌, ◌≤◌}
use mathlib.Core.Path.{◌≡◌, sym, ap, ◌∙◌}
use mathlib.Core.List.{List, [], ◌∷◌, ◌++◌}
use native.Mathlib.Omega.{arith}
use lib.ListN.{length, length-append}
use Rattle.octets.specs.Bytes.{byte_at, two}
use Rattle.octets.specs.Count.{sum_to}
use Rattle.octets.specs.Stretch.{part, put, cut_by}
use Rattle.octets.proofs.Counts.{sum-none, sum_more, sum-within, sum_below}
use Rattle.octets.proofs.Stretches.{length_part, length-put, put-nil, put-put, put-put_front, part_none, part_all, part_more}
use Rattle.octets.proofs.Stretches.{joined-map_more, cut-none, cut_more, total, total-part}
use Rattle.frames.specs.Frames.{length_bytes, packed, frames_file, PermitsPack}
use Rattle.frames.proofs.Laws.{pack_none}

-- the file of the first k frames
abbrev pub written : List ℕ → List ℕ → ℕ → List ℕ
written bytes lengths k = frames_file (cut_by (part lengths 0 k) bytes)

pub record Packing (file₀ file bytes lengths : List ℕ) (from at k : ℕ) : Type 0 where
  pub within : k ≤ length lengths
  pub from_is : from ≡ sum_to (byte_at lengths) k
  pub at_is : at ≡ from + length_bytes * k
  pub so_long : at ≡ length (written bytes lengths k)
  pub so_far : file ≡ put file₀ 0 (written bytes lengths k)

pub pack_begin : (file bytes lengths : List ℕ) → Packing file file bytes lengths 0 0 0
pack_begin file bytes lengths =
    let nothing : written bytes lengths 0 ≡ [] =
    ap (λ (l : List ℕ). frames_file (cut_by l bytes)) (part_none lengths 0) ∙ ap frames_file (cut-none bytes) ∙ pack_none in
    record {
      within = omega arith;
      from_is = sym (sum-none (byte_at lengths));
      at_is = omega arith;
      so_long = ap length (sym nothing);
      so_far = sym (ap (put file 0) nothing ∙ put-nil file 0);
    }

module _ {file₀ file bytes lengths : List ℕ} {from at k : ℕ} (p : Packing file₀ file bytes lengths from at k)
    (enough : sum_to (byte_at lengths) (length lengths) ≤ length bytes)
    (room : length bytes + length_bytes * length lengths ≤ length file₀) where
  inside : at ≤ length file₀
  inside = omega (arith, p.at_is, p.from_is, sum_below (byte_at lengths) k (length lengths) p.within, p.within, enough, room)

  pub file_same : length file ≡ length file₀
  file_same = ap length p.so_far ∙ length-put file₀ 0 (written bytes lengths k) (omega (arith, p.so_long, inside))

  module _ (more : k < length lengths) (size : ℕ) (e : size ≡ byte_at lengths k) where
    pub frame-there : from + size ≤ length bytes
    frame-there = omega (arith, p.from_is, e, sum-within (byte_at lengths) k (length lengths) more, enough)

    pub frame_room_lem : at + length_bytes + size ≤ length file
    frame_room_lem = omega (arith, frame-there, p.at_is, more, room, file_same)

    abbrev frame : List ℕ
    frame = part bytes from size

    long : length frame ≡ size
    long = length_part bytes from size frame-there

    written_more : written bytes lengths (k + 1) ≡ written bytes lengths k ++ packed frame
    unfolding frames_file
    written_more =
        let place : total (part lengths 0 k) ≡ from = total-part lengths k p.within ∙ sym p.from_is in
        let frames : cut_by (part lengths 0 (k + 1)) bytes ≡ cut_by (part lengths 0 k) bytes ++ (frame ∷ []) =
        ap (λ (l : List ℕ). cut_by l bytes) (part_more lengths k more)
        ∙ cut_more (part lengths 0 k) (byte_at lengths k) bytes
        ∙ ap (λ (n : ℕ). cut_by (part lengths 0 k) bytes ++ (part bytes n (byte_at lengths k) ∷ [])) place
        ∙ ap (λ (n : ℕ). cut_by (part lengths 0 k) bytes ++ (part bytes from n ∷ [])) (sym e) in
        ap (λ (l : List (List ℕ)). frames_file l) frames ∙ joined-map_more packed (cut_by (part lengths 0 k) bytes) frame

    pub pack_turn : (file-a file-b : List ℕ) → file-a ≡ put file at (two size) → file-b ≡ put file-a (at + length_bytes) frame →
        Packing file₀ file-b bytes lengths (from + size) (at + length_bytes + size) (k + 1)
    pack_turn file-a file-b a b =
        let done = written bytes lengths k in
        let one : put file-a (at + length_bytes) frame ≡ put file at (packed frame) =
        ap (λ (l : List ℕ). put l (at + length_bytes) frame) a
        ∙ put-put file at (two size) frame (omega (arith, frame_room_lem))
        ∙ ap (λ (n : ℕ). put file at (two n ++ frame)) (sym long) in
        let all : put file at (packed frame) ≡ put file₀ 0 (done ++ packed frame) =
        ap (λ (l : List ℕ). put l at (packed frame)) p.so_far
        ∙ ap (λ (n : ℕ). put (put file₀ 0 done) n (packed frame)) p.so_long
        ∙ put-put_front file₀ done (packed frame) (omega (arith, p.so_long, inside)) in
        record {
          within = omega (arith, more);
          from_is = omega (arith, p.from_is, e, sum_more (byte_at lengths) k);
          at_is = omega (arith, p.at_is);
          so_long = omega (arith, ap length written_more, length-append done (packed frame), p.so_long, long);
          so_far = b ∙ one ∙ all ∙ ap (put file₀ 0) (sym written_more);
        }

  pub pack_end : length lengths ≤ k → PermitsPack bytes lengths file₀ at file
  pack_end past =
      let all : k ≡ length lengths = omega (arith, p.within, past) in
      let whole : written bytes lengths k ≡ frames_file (cut_by lengths bytes) =
      ap (written bytes lengths) all ∙ ap (λ (l : List ℕ). frames_file (cut_by l bytes)) (part_all lengths) in
      record { its_length = p.so_long ∙ ap length whole; its_file = p.so_far ∙ ap (put file₀ 0) whole }
