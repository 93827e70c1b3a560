-- What reading a frames file leaves: the bytes of the frames and their lengths at the front of two slices. Of a spoilt file it answers all
-- its bytes and no length, so that a send refuses them by 33. Which frames are taken, and what is spoilt, is specs/Sent.antt's of crate
-- outputs.
use Rattle.std.specs.Prelude.{ℕ, ◌≤◌, ◌≡◌, true, false, List, length}
use Rattle.octets.specs.Stretch.{part, joined, lengths_of}
use Rattle.outputs.specs.Sent.{most, frames_in, spoilt}
use Rattle.pspsend.specs.declared.input.Taken.{Taken}

pub record Takes (file bytes lengths : List ℕ) (r : Taken) : Type 0 where
  pub whole : spoilt file ≡ false →
      (r.count ≡ length (frames_in file)) × (part bytes 0 r.bytes ≡ joined (frames_in file))
      × (part lengths 0 r.count ≡ lengths_of (frames_in file))
  pub cut_short : spoilt file ≡ true → (r.count ≡ 0) × (r.bytes ≡ length file)
  pub few : r.count ≤ most
  pub short : r.bytes ≤ length file
