-- A frames file: one frame behind the other, each with its length before it, most significant byte first:
--
--      0                   1
--      0 1 2 3 4 5 6 7 8 9 0 1 2 3 4 5
--     +-------------------------------+
--     |            length             |
--     +-------------------------------+
--     |  the frame: so many bytes     |
--     |  ..                           |
--     +-------------------------------+
--     |  length of the next frame     |
--     |  ..                           |
--
-- Read from the front it is whole frames, as long as a whole one stands there; what is left behind them belongs to none.
use Rattle.std.specs.Prelude.{ℕ, zero, suc, ◌+◌, ◌≡◌, Bool, true, false, cond, ◌&&◌, Option, Some, None, List, [], ◌∷◌, ◌++◌, map, leb}
use Rattle.std.specs.Prelude.{length}
use Rattle.octets.specs.Bytes.{be16_at, two}
use Rattle.octets.specs.Stretch.{part, rest, put, joined, lengths_of, cut_by}
use Rattle.frames.specs.declared.Unpacked.{Unpacked}

abbrev pub length_bytes : ℕ
length_bytes = 2

-- written
abbrev pub packed : List ℕ → List ℕ
packed frame = two (length frame) ++ frame

unfoldable pub frames_file : List (List ℕ) → List ℕ
frames_file frames = joined (map packed frames)

-- read: whether a whole frame stands at the front, the frame, and what follows it
abbrev pub stands_whole : List ℕ → Bool
stands_whole file = leb length_bytes (length file) && leb (length_bytes + be16_at file 0) (length file)

abbrev pub front_frame : List ℕ → List ℕ
front_frame file = part file length_bytes (be16_at file 0)

abbrev pub behind_front : List ℕ → List ℕ
behind_front file = rest file (length_bytes + be16_at file 0)

-- what is answered of the front: how long the frame is that stands whole there, or that none does
abbrev pub SaysFront : List ℕ → Option ℕ → Type 0
SaysFront file (Some size) = (stands_whole file ≡ true) × (size ≡ be16_at file 0)
SaysFront file None = stands_whole file ≡ false

-- the whole frames at the front, at most so many; and what is left behind them
unfoldable pub whole_frames : ℕ → List ℕ → List (List ℕ)
whole_frames zero file = []
whole_frames (suc n) file = cond (stands_whole file) (front_frame file ∷ whole_frames n (behind_front file)) []

unfoldable pub left_behind : ℕ → List ℕ → List ℕ
left_behind zero file = file
left_behind (suc n) file = cond (stands_whole file) (left_behind n (behind_front file)) file

-- What writing permits, whole: of frames that are lent back to back with their lengths, the file stands at the front of the slice for it,
-- and its length is answered.
pub record PermitsPack (bytes lengths file : List ℕ) (r : ℕ) (file' : List ℕ) : Type 0 where
  pub its_length : r ≡ length (frames_file (cut_by lengths bytes))
  pub its_file : file' ≡ put file 0 (frames_file (cut_by lengths bytes))

-- What reading permits, whole: as many frames are read as there are lengths lent, or fewer; their bytes and their lengths stand at the
-- front of the two slices.
pub record PermitsUnpack (file bytes lengths : List ℕ) (r : Unpacked) (bytes' lengths' : List ℕ) : Type 0 where
  pub its_count : r.count ≡ length (whole_frames (length lengths) file)
  pub its_size : r.bytes ≡ length (joined (whole_frames (length lengths) file))
  pub its_left : r.left ≡ length (left_behind (length lengths) file)
  pub its_bytes : bytes' ≡ put bytes 0 (joined (whole_frames (length lengths) file))
  pub its_lengths : lengths' ≡ put lengths 0 (lengths_of (whole_frames (length lengths) file))
