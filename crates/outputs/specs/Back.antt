-- What mpegframes writes: the frames that MPEG packets bring back (W3), as a frames file; or one line, where no run of the writer gives
-- the packets (53).
use Rattle.std.specs.Prelude.{ℕ, cond, List}
use Rattle.frames.specs.Frames.{frames_file}
use Rattle.tool.specs.Refused.{refused_line}
use Rattle.mpeg.specs.Read.{reading}

unfoldable pub got_back : List ℕ → List ℕ
got_back packets = cond (reading packets).sound (frames_file (reading packets).frames) (refused_line 53)
