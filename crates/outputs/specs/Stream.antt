-- What pspmpeg writes (W3): the frames that a capture delivers on a session, in the order delivered, as MPEG packets for the modulator. All
-- frames wait before the first packet is written, and the first count is 0; packets are written until nothing waits. So only the last one
-- is filled up, and there is no null packet. A capture that is refused comes to one line, as in a listing, and so does a frame that W3 does
-- not let travel, by 52.
use Rattle.std.specs.Prelude.{ℕ, zero, suc, Bool, true, not, cond, ◌&&◌, ◌||◌, List, [], ◌∷◌, ◌++◌, eqb, length}
use Rattle.refusal.specs.Refusal.{first}
use Rattle.octets.specs.Stretch.{joined}
use Rattle.octets.specs.Tests.{none}
use Rattle.packet.specs.Header.{session_id, before_session}
use Rattle.table.specs.declared.Table.{Table}
use Rattle.table.specs.Rows.{is_dmpt, terms_at, find}
use Rattle.table.specs.Calls.{is_open}
use Rattle.card.specs.History.{frames_of}
use Rattle.capture.specs.File.{Entry, data_entry, data_over_udp, head_length, entry_count, file_refusal, nth_entry}
use Rattle.replay.specs.Run.{packet_of, standing, answer_at}
use Rattle.tool.specs.Refused.{refused_line}
use Rattle.mpeg.specs.Frame.{good}
use Rattle.mpeg.specs.Run.{Backlog, waiting_in, packet_next, after_next}

-- The session is open as PSP; an entry is a packet for it then, by either transport. (A packet that 24, 2, 3, 15 or 4 refuses delivers
-- nothing, so it is not asked for its session.)
abbrev pub open_as_psp : Table → ℕ → Bool
open_as_psp t id = is_open t id && not (is_dmpt (terms_at t (find t id)).kind)

abbrev pub is_for : ℕ → Table → Entry → Bool
is_for session t e =
    (eqb e.kind data_entry || eqb e.kind data_over_udp)
    && (eqb (first (before_session (packet_of e))) 0 && (eqb (session_id (packet_of e)) session && open_as_psp t session))

-- the frames that entry k delivers on the session; those of all entries before entry k; and those of the whole capture
unfoldable pub frames_at : ℕ → List ℕ → ℕ → List (List ℕ)
frames_at session file k = cond (is_for session (standing file k).card.table (nth_entry file k)) (frames_of (answer_at file k)) []

unfoldable pub delivered_before : ℕ → List ℕ → ℕ → List (List ℕ)
delivered_before session file zero = []
delivered_before session file (suc k) = delivered_before session file k ++ frames_at session file k

abbrev pub delivered : ℕ → List ℕ → List (List ℕ)
delivered session file = delivered_before session file (entry_count head_length file)

-- The packets of a backlog to which nothing is added, until nothing waits. Each carries a byte at least, so as many steps as there are
-- bytes are enough.
unfoldable pub drain : ℕ → Backlog → List (List ℕ)
drain zero q = []
drain (suc n) q = cond (none (waiting_in q)) [] (packet_next q ∷ drain n (after_next q))

abbrev pub packets_of : List (List ℕ) → List (List ℕ)
packets_of frames = drain (length (joined frames)) (record { frames = frames; place = 0; count = 0 })

-- every frame may be written
unfoldable pub all_good : List (List ℕ) → Bool
all_good [] = true
all_good (f ∷ more) = good f && all_good more

abbrev pub stream_of : List (List ℕ) → List ℕ
stream_of frames = cond (all_good frames) (joined (packets_of frames)) (refused_line 52)

-- what is written for a capture, by the number of the first refusal that applies
unfoldable pub stream_by : ℕ → ℕ → List ℕ → List ℕ
stream_by zero session file = stream_of (delivered session file)
stream_by (suc c) session file = refused_line (suc c)

unfoldable pub stream : ℕ → List ℕ → List ℕ
stream session file = stream_by (file_refusal file) session file
