-- What is written for a capture, way out by way out.
use Prim.Native.Nat.{ℕ, zero, suc, ◌≤◌}
use mathlib.Core.Path.{◌≡◌, refl, sym, ap, ◌∙◌}
use mathlib.Core.List.{List}
use lib.ListN.{length, take}
use Rattle.octets.specs.Stretch.{joined, lengths_of}
use Rattle.octets.proofs.Stretches.{sliced_put, length-lengths_of}
use Rattle.text.specs.Text.{Wrote}
use Rattle.text.proofs.Writing.{wrote_as}
use Rattle.capture.specs.File.{file_refusal}
use Rattle.tool.specs.Refused.{refused_line}
use Rattle.pspmpeg.specs.declared.gather.Gathered.{Gathered}
use Rattle.outputs.specs.Stream.{delivered, stream_by, stream}
use Rattle.pspmpeg.specs.Inside.{Gathers, stream_from}
use Rattle.pspmpeg.proofs.Draining.{stream_is}

pub stream-refused : (session : ℕ) (file : List ℕ) (number : ℕ) → number ≡ file_refusal file → (number ≡ 0 → ⊥) →
    refused_line number ≡ stream session file
unfolding stream stream_by
stream-refused session file zero e some = absurd (some refl)
stream-refused session file (suc c) e some = ap (λ (n : ℕ). stream_by n session file) e

pub stream-sound : (session : ℕ) (file : List ℕ) {bytes sizes text text' : List ℕ} {g : Gathered} {at next : ℕ} →
    file_refusal file ≡ 0 →
    Gathers (delivered session file) bytes sizes g → g.total ≤ length bytes → g.count ≤ length sizes →
    Wrote text text' at next (stream_from (take g.total g.bytes.now) (take g.count g.sizes.now)) →
    Wrote text text' at next (stream session file)
unfolding stream stream_by
stream-sound session file {bytes} {sizes} {g = g} z h few many w =
    let frames = delivered session file in
    let front : take g.total g.bytes.now ≡ joined frames = sliced_put bytes (joined frames) g.total h.bytes_now h.total_is few in
    let sized : take g.count g.sizes.now ≡ lengths_of frames =
    sliced_put sizes (lengths_of frames) g.count h.sizes_now (h.counted ∙ sym (length-lengths_of frames)) many in
    wrote_as
    (ap (λ (l : List ℕ). stream_from l (take g.count g.sizes.now)) front
    ∙ ap (stream_from (joined frames)) sized
    ∙ stream_is frames
    ∙ ap (λ (n : ℕ). stream_by n session file) (sym z)) w
