-- The promises, by name. What each says stands in specs/, in the file that is named beside it; why it is so, in the file of this folder
-- that it is cited from. No axiom is used, and no premise but those that the statements have. They speak of the very definitions that the
-- contracts of `open`, `close`, `receive`, `send`, `write`, `read` and `hand_out` cite, so they hold of the code. `marked` and
-- `besides_marked` (specs/Marked.antt) are computed, as the closed instances of these theorems are: they stand with them, in the crate
-- `instances`.
use Rattle.promises.specs.Arrivals.{InTimeIsMeant}
use Rattle.promises.specs.Demand.{Demand3, FewerLost}
use Rattle.promises.specs.Gaps.{GapsAreTold}
use Rattle.promises.specs.Account.{ByteAccount, EachByte}
use Rattle.promises.specs.Dmpt.{DmptDelivers}
use Rattle.promises.specs.Unnumbered.{UnnumberedAccepted, UnnumberedDelivers, NeverGiven}
use Rattle.promises.specs.Isolation.{Isolation, OpenByIds}
use Rattle.promises.specs.Limits.{WithinLimits, NeverBroken}
use Rattle.promises.specs.Refusals.{RefusalsChangeNothing}
use Rattle.promises.specs.Unique.{UniqueOpen, UniqueClose, UniqueReceive, UniqueSend, UniqueCheck, UniqueSegment, UniqueCapture}
use Rattle.promises.specs.Unique.{UniqueFlow, UniqueNull, UniquePcap}
use Rattle.promises.specs.Transports.{SamePacket}
use Rattle.promises.specs.Ignored.{IgnoredBits}
use Rattle.promises.specs.RoundTrip.{SenderKeepsRules, SendingsGoOn, KeepsLimit, RoundTrip}
use Rattle.promises.specs.Modulator.{CoreToModulator, SentMayTravel, UniqueMpeg}
use Rattle.promises.specs.Captures.{ReadsBack}
use Rattle.promises.specs.Programs.{StreamComesBack, ProgramsInARow}
use Rattle.promises.specs.Pcap.{PcapComesBack, ExportWellFormed, ImportNeverInvents, ImportAddsUp, EitherOrder, ReaderHandsOut}
use Rattle.mpeg.specs.Run.{RunsAreRead, ReadIsRun, AllComeBack, DrainedIsEmpty, CallsMakeRuns, JudgedByFrames, SentMayGo, NullsBetween}
use Rattle.mpeg.specs.HandOut.{HandsOutPackets}
use Rattle.mpeg.specs.Channel.{ChannelIsRead}
use Rattle.mpeg.proofs.RunsRead as runs-read
use Rattle.mpeg.proofs.ReadRuns as read-runs
use Rattle.mpeg.proofs.Steps as steps
use Rattle.mpeg.proofs.Channels as channels
use Rattle.promises.proofs.InTime as in_time_lem
use Rattle.promises.proofs.Demand as demand
use Rattle.promises.proofs.Gaps as gaps
use Rattle.promises.proofs.Bytes as bytes
use Rattle.promises.proofs.Account as account
use Rattle.promises.proofs.Mpegs as mpegs
use Rattle.promises.proofs.Unnumbered as unnumbered
use Rattle.promises.proofs.Isolation as isolated
use Rattle.promises.proofs.Limits as limits
use Rattle.promises.proofs.Refusals as refusals
use Rattle.promises.proofs.Uniqueness as unique
use Rattle.promises.proofs.Transports as transports
use Rattle.promises.proofs.Ignored as ignored
use Rattle.promises.proofs.RoundTrip as trip
use Rattle.promises.proofs.Modulator as modulator
use Rattle.promises.proofs.Programs as programs
use Rattle.promises.proofs.Pcap as pcap
use Rattle.capture.proofs.ReadsBack as capture

-- Demand 3, and what goes with it: specs/Demand.antt, with specs/Arrivals.antt for what the network does, and specs/Gaps.antt.
pub demand_3 : Demand3
demand_3 = demand.demand_3

pub fewer_lost : FewerLost
fewer_lost = demand.fewer_lost

pub gaps_are_told : GapsAreTold
gaps_are_told = gaps.gaps_are_told

pub in_time_is_meant : InTimeIsMeant
in_time_is_meant = in_time_lem.in_time_is_meant

-- The byte account: specs/Account.antt. What D-MPT delivers: specs/Dmpt.antt. What a PSP packet without a number does:
-- specs/Unnumbered.antt.
pub byte_account : ByteAccount
byte_account = account.byte_account

pub each_byte : EachByte
each_byte = bytes.each_byte

pub dmpt_delivers : DmptDelivers
dmpt_delivers = mpegs.dmpt_delivers

pub unnumbered-accepted : UnnumberedAccepted
unnumbered-accepted = unnumbered.unnumbered-accepted

pub unnumbered_delivers : UnnumberedDelivers
unnumbered_delivers = unnumbered.unnumbered_delivers

pub never_given : NeverGiven
never_given = unnumbered.never_given

-- Session against session: specs/Isolation.antt.
pub isolation : Isolation
isolation = isolated.isolation

pub open_by_ids : OpenByIds
open_by_ids = isolated.open_by_ids

-- What no call does: specs/Limits.antt, specs/Refusals.antt.
pub never_broken : NeverBroken
never_broken = account.never_broken

pub within_limits : WithinLimits
within_limits = limits.within_limits

pub refusals_change_nothing : RefusalsChangeNothing
refusals_change_nothing = refusals.refusals_change_nothing

-- One outcome for each call: specs/Unique.antt.
pub unique_open : UniqueOpen
unique_open = unique.unique_open

pub unique_close : UniqueClose
unique_close = unique.unique_close

pub unique_receive : UniqueReceive
unique_receive = unique.unique_receive

pub unique_send : UniqueSend
unique_send = unique.unique_send

pub unique_check : UniqueCheck
unique_check = unique.unique_check

pub unique_segment : UniqueSegment
unique_segment = unique.unique_segment

pub unique_capture : UniqueCapture
unique_capture = unique.unique_capture

pub unique_flow : UniqueFlow
unique_flow = unique.unique_flow

pub unique_null : UniqueNull
unique_null = unique.unique_null

pub unique_pcap : UniquePcap
unique_pcap = unique.unique_pcap

-- Over IP and over UDP: specs/Transports.antt. What nobody reads: specs/Ignored.antt.
pub same-packet : SamePacket
same-packet = transports.same-packet

pub ignored_bits : IgnoredBits
ignored_bits = ignored.ignored_bits

-- Our own sender, and there and back: specs/RoundTrip.antt.
pub sender_keeps_rules : SenderKeepsRules
sender_keeps_rules = trip.sender_keeps_rules

pub sendings_go_on : SendingsGoOn
sendings_go_on = trip.sendings_go_on

pub keeps_limit : KeepsLimit
keeps_limit = trip.keeps_limit

pub round_trip : RoundTrip
round_trip = trip.round_trip

-- To the modulator: specs/Modulator.antt; what is said of single packets, of runs of the writer and of a channel, in specs/Run.antt,
-- specs/HandOut.antt and specs/Channel.antt of crate mpeg.
pub core_to_modulator : CoreToModulator
core_to_modulator = modulator.core_to_modulator

pub sent_may_travel : SentMayTravel
sent_may_travel = modulator.sent_may_travel

pub runs_are_read : RunsAreRead
runs_are_read = runs-read.runs_are_read

pub read_is_run : ReadIsRun
read_is_run = read-runs.read_is_run

pub all_come_back : AllComeBack
all_come_back = runs-read.all_come_back

pub drained_is_empty : DrainedIsEmpty
drained_is_empty = runs-read.drained_is_empty

pub calls_make_runs : CallsMakeRuns
calls_make_runs = steps.calls_make_runs

pub judged_by-frames : JudgedByFrames
judged_by-frames = steps.judged_by-frames

pub sent_may_go : SentMayGo
sent_may_go = steps.sent_may_go

pub nulls-between : NullsBetween
nulls-between = steps.nulls-between

pub hands_out-packets : HandsOutPackets
hands_out-packets = steps.hands_out-packets

pub channel_is_read : ChannelIsRead
channel_is_read = channels.channel_is_read

pub unique_mpeg : UniqueMpeg
unique_mpeg = modulator.unique_mpeg

-- Capture files: specs/Captures.antt.
pub reads_back : ReadsBack
reads_back =
    record { read_then_written = capture.reads_back; written_passes = capture.written-sound; written_then_read = capture.written_reads }

-- The programs one behind the other: specs/Programs.antt.
pub stream_comes_back : StreamComesBack
stream_comes_back = programs.stream_comes_back

pub programs_in_a_row : ProgramsInARow
programs_in_a_row = programs.programs_in_a_row

-- Captures from and to pcap files: specs/Pcap.antt.
pub pcap_comes_back : PcapComesBack
pcap_comes_back = pcap.pcap_comes_back

pub export_well_formed : ExportWellFormed
export_well_formed = pcap.export_well_formed

pub import_never_invents : ImportNeverInvents
import_never_invents = pcap.import_never_invents

pub import_adds_up : ImportAddsUp
import_adds_up = pcap.import_adds_up

pub either_order : EitherOrder
either_order = pcap.either_order

pub reader_hands_out : ReaderHandsOut
reader_hands_out = pcap.reader_hands_out
