-- A channel (W3): writer, hand-out and reader together. At each turn the host either adds frames and has the next packet written behind the
-- channel's queue, or hands the next packet out: the queue's first, or the null packet where the queue has none. So packets leave at the
-- channel's pace, and frames come at their own. A modem's reader takes all that was handed out, if no null packet was handed out between
-- two packets of one frame. `channel_is_read` says so.
use Rattle.std.specs.Prelude.{ℕ, ◌<◌, ◌≡◌, true, cond, List, [], ◌∷◌, ◌++◌, leb, length}
use Rattle.octets.specs.Stretch.{rest, joined}
use Rattle.ts.specs.Packet.{mpeg_length}
use Rattle.mpeg.specs.Read.{reading}
use Rattle.mpeg.specs.Run.{Backlog, Burst, no_backlog, added, waiting_in, left_in, packet_next, after_next, GoodBursts}
use Rattle.mpeg.specs.Run.{all_frames, sent_whole}
use Rattle.mpeg.specs.HandOut.{handed_out}

-- the frames that have been added, as for a run of the writer, and the packets that are written and not yet handed out
pub record Channel : Type 0 where
  pub backlog : Backlog
  pub queue : List ℕ

abbrev pub idle : ℕ → Channel
idle count = record { backlog = no_backlog count; queue = [] }

-- a turn of the host: these frames are added and then one packet is written, or one is handed out
pub data Turn : Type 0 where
  writes : Burst → Turn
  hands_out : Turn

-- what the hand-out leaves of the queue
unfoldable pub behind_first : List ℕ → List ℕ
behind_first queue = cond (leb mpeg_length (length queue)) (rest queue mpeg_length) queue

unfoldable pub after_turn : Channel → Turn → Channel
after_turn c (writes burst) =
    record { backlog = after_next (added c.backlog burst); queue = c.queue ++ packet_next (added c.backlog burst) }
after_turn c hands_out = record { backlog = c.backlog; queue = behind_first c.queue }

-- the packets that the channel sends, how things stand at the end, and the bursts that were added
unfoldable pub channel_sends : Channel → List Turn → List (List ℕ)
channel_sends c [] = []
channel_sends c (writes burst ∷ more) = channel_sends (after_turn c (writes burst)) more
channel_sends c (hands_out ∷ more) = handed_out c.queue ∷ channel_sends (after_turn c hands_out) more

unfoldable pub channel_end : Channel → List Turn → Channel
channel_end c [] = c
channel_end c (turn ∷ more) = channel_end (after_turn c turn) more

unfoldable pub bursts_of : List Turn → List Burst
bursts_of [] = []
bursts_of (writes burst ∷ more) = burst ∷ bursts_of more
bursts_of (hands_out ∷ more) = bursts_of more

-- What the host has to see to: wherever a packet is handed out while the queue has none, no frame has begun. All that was written has been
-- handed out then, so the backlog's place says it: it stands at a frame's start, and nothing is left of a frame that has begun.
unfoldable pub NullsBetweenFrames : Channel → List Turn → Type 0
NullsBetweenFrames c [] = Unit {0}
NullsBetweenFrames c (writes burst ∷ more) = NullsBetweenFrames (after_turn c (writes burst)) more
NullsBetweenFrames c (hands_out ∷ more) =
    (length c.queue < mpeg_length → left_in c.backlog ≡ 0) × NullsBetweenFrames (after_turn c hands_out) more

-- `channel_is_read`: the reader takes what was handed out. Where the queue is empty at the end it gives back the frames that were sent
-- whole, and where besides nothing waits, all frames.
pub record ChannelRead (count : ℕ) (turns : List Turn) : Type 0 where
  pub taken : (reading (joined (channel_sends (idle count) turns))).sound ≡ true
  pub given_back : (channel_end (idle count) turns).queue ≡ [] →
      (reading (joined (channel_sends (idle count) turns))).frames
      ≡ sent_whole (all_frames (bursts_of turns)) (channel_end (idle count) turns).backlog.place
  pub all_given_back : (channel_end (idle count) turns).queue ≡ [] → waiting_in (channel_end (idle count) turns).backlog ≡ [] →
      (reading (joined (channel_sends (idle count) turns))).frames ≡ all_frames (bursts_of turns)

abbrev pub ChannelIsRead : Type 0
ChannelIsRead =
    (count : ℕ) (turns : List Turn) → GoodBursts (bursts_of turns) → NullsBetweenFrames (idle count) turns → ChannelRead count turns
