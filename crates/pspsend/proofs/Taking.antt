-- What pspsend makes of the frames that were read from a file; and that the file of frames that can be sent is not spoilt, and brings these
-- frames.
use Prim.Native.Nat.{ℕ, ◌≤◌}
use mathlib.Core.Path.{◌≡◌, refl, sym, ap, ◌∙◌}
use mathlib.Core.Bool.{Bool, true, false, ◌&&◌, true≢false}
use mathlib.Core.List.{List}
use native.Mathlib.Omega.{arith}
use lib.Dec.{ltb}
use lib.ListN.{length}
use Rattle.octets.specs.Each.{Each}
use Rattle.octets.specs.Stretch.{part, put, joined, lengths_of}
use Rattle.octets.proofs.Stretches.{part-put, length-lengths_of}
use Rattle.frames.specs.declared.Unpacked.{Unpacked}
use Rattle.frames.specs.Frames.{frames_file, whole_frames, left_behind, PermitsUnpack}
use Rattle.frames.proofs.Laws.{Sayable, unpack_pack, length_unpack, unpack_few}
use Rattle.outputs.specs.Sent.{most, frames_in, spoilt}
use Rattle.pspsend.specs.Input.{Takes}

module _ (file bytes₀ lengths₀ bytes lengths : List ℕ) (r : Unpacked) (bytes-long : length file ≤ length bytes₀)
    (as_many : most ≡ length lengths₀) (unpacked : PermitsUnpack file bytes₀ lengths₀ r bytes lengths) where
  abbrev frames : List (List ℕ)
  frames = frames_in file

  these : whole_frames (length lengths₀) file ≡ frames
  these = ap (λ (n : ℕ). whole_frames n file) (sym as_many)

  count_is : r.count ≡ length frames
  count_is = unpacked.its_count ∙ ap length these

  size_is : r.bytes ≡ length (joined frames)
  size_is = unpacked.its_size ∙ ap (λ (x : List (List ℕ)). length (joined x)) these

  left_is : r.left ≡ length (left_behind most file)
  left_is = unpacked.its_left ∙ ap (λ (n : ℕ). length (left_behind n file)) (sym as_many)

  fits : length (joined frames) ≤ length file
  fits = omega (arith, length_unpack most file)

  spoilt_is : spoilt file ≡ (ltb r.count most && ltb 0 r.left)
  spoilt_is = rw (count_is, left_is) refl

  pub take_whole : (ltb r.count most && ltb 0 r.left) ≡ false →
      Takes file bytes lengths (record { count = r.count; bytes = r.bytes })
  take_whole e =
      let L = lengths_of frames in
      let many = length-lengths_of frames in
      record {
        whole = λ _. (
          count_is,
          ap (λ (x : List ℕ). part x 0 r.bytes) (unpacked.its_bytes ∙ ap (λ (x : List (List ℕ)). put bytes₀ 0 (joined x)) these)
              ∙ ap (part (put bytes₀ 0 (joined frames)) 0) size_is ∙ part-put bytes₀ 0 (joined frames) (omega (arith, fits)),
          ap (λ (x : List ℕ). part x 0 r.count) (unpacked.its_lengths ∙ ap (λ (x : List (List ℕ)). put lengths₀ 0 (lengths_of x)) these)
              ∙ ap (part (put lengths₀ 0 L) 0) (count_is ∙ sym many) ∙ part-put lengths₀ 0 L (omega (arith, many, unpack_few most file)),
        );
        cut_short = λ q. absurd (true≢false (sym q ∙ spoilt_is ∙ e));
        few = omega (arith, count_is, unpack_few most file);
        short = omega (arith, size_is, fits);
      }

-- The file of frames reads back as these frames, and is not spoilt.
pub frames_file_unpacks : (fs : List (List ℕ)) → Each Sayable fs → length fs ≤ most →
    (frames_in (frames_file fs) ≡ fs) × (spoilt (frames_file fs) ≡ false)
frames_file_unpacks fs s l =
    let r = unpack_pack most fs s l in
    let fewer = ltb (length (frames_in (frames_file fs))) most in
    (r.0, ap (λ (x : List ℕ). fewer && ltb 0 (length x)) r.1 ∙ nothing fewer)
  where
    nothing : (b : Bool) → (b && false) ≡ false
    nothing true = refl
    nothing false = refl
