-- Each theorem, given to its application: the applications take a statement as their argument and say what it concludes for closed data, so
-- that they can be held against wrong statements (tests/definitions), which needs no proof of any. Here is that it is the theorems' own
-- statements that they take. A line for each theorem of promises/proofs/Promises.antt, in the order that they have there; `gaps_are_told`
-- has two, for PSP and for D-MPT.
use Rattle.promises.proofs.Promises.{demand_3, fewer_lost, gaps_are_told, in_time_is_meant, byte_account, each_byte, dmpt_delivers}
use Rattle.promises.proofs.Promises.{unnumbered-accepted, unnumbered_delivers, never_given, isolation, open_by_ids, never_broken}
use Rattle.promises.proofs.Promises.{within_limits, refusals_change_nothing, unique_open, unique_close, unique_receive, unique_send}
use Rattle.promises.proofs.Promises.{unique_check, unique_segment, unique_capture, unique_flow, unique_null, same-packet, ignored_bits}
use Rattle.promises.proofs.Promises.{sender_keeps_rules, sendings_go_on, keeps_limit, round_trip, core_to_modulator, sent_may_travel}
use Rattle.promises.proofs.Promises.{runs_are_read, read_is_run, all_come_back, drained_is_empty, calls_make_runs, judged_by-frames}
use Rattle.promises.proofs.Promises.{sent_may_go, nulls-between, hands_out-packets, channel_is_read, unique_mpeg, reads_back}
use Rattle.promises.proofs.Promises.{stream_comes_back, programs_in_a_row, unique_pcap, pcap_comes_back, export_well_formed}
use Rattle.promises.proofs.Promises.{import_never_invents, import_adds_up, either_order, reader_hands_out}
use Rattle.instances.proofs.DemandInstance.{Demand3Here, demand_3_applied, FewerLostHere, fewer_lost_applied, GapsAreToldHere}
use Rattle.instances.proofs.DemandInstance.{gaps_are_told_applied, InTimeIsMeantHere, in_time_is_meant_applied}
use Rattle.instances.proofs.AccountInstance.{ByteAccountHere, byte_account_applied, EachByteHere, each_byte_applied}
use Rattle.instances.proofs.AccountInstance.{NeverBrokenHere, never_broken_applied}
use Rattle.instances.proofs.DmptInstance.{DmptDeliversHere, dmpt_delivers_applied}
use Rattle.instances.proofs.UnnumberedInstance.{UnnumberedAcceptedHere, unnumbered-accepted_applied, UnnumberedDeliversHere}
use Rattle.instances.proofs.UnnumberedInstance.{unnumbered_delivers_applied, NeverGivenHere, never_given_applied}
use Rattle.instances.proofs.IsolationInstance.{IsolationHere, isolation_applied, OpenByIdsHere, open_by_ids_applied}
use Rattle.instances.proofs.LimitsInstance.{WithinLimitsHere, within_limits_applied, RefusalsChangeNothingHere}
use Rattle.instances.proofs.LimitsInstance.{refusals_change_nothing_applied}
use Rattle.instances.proofs.UniqueInstance.{UniqueOpenHere, unique_open_applied, UniqueCloseHere, unique_close_applied}
use Rattle.instances.proofs.UniqueInstance.{UniqueReceiveHere, unique_receive_applied, UniqueSendHere, unique_send_applied}
use Rattle.instances.proofs.UniqueInstance.{UniqueCheckHere, unique_check_applied, UniqueSegmentHere, unique_segment_applied}
use Rattle.instances.proofs.UniqueInstance.{UniqueCaptureHere, unique_capture_applied, UniqueFlowHere, unique_flow_applied}
use Rattle.instances.proofs.UniqueInstance.{UniqueNullHere, unique_null_applied, UniquePcapHere, unique_pcap_applied}
use Rattle.instances.proofs.TransportsInstance.{SamePacketHere, same-packet_applied}
use Rattle.instances.proofs.IgnoredInstance.{IgnoredBitsHere, ignored_bits_applied}
use Rattle.instances.proofs.RoundTripInstance.{SenderKeepsRulesHere, sender_keeps_rules_applied, SendingsGoOnHere}
use Rattle.instances.proofs.RoundTripInstance.{sendings_go_on_applied, KeepsLimitHere, keeps_limit_applied, RoundTripHere}
use Rattle.instances.proofs.RoundTripInstance.{round_trip_applied}
use Rattle.instances.proofs.ModulatorInstance.{CoreToModulatorHere, core_to_modulator_applied, SentMayTravelHere}
use Rattle.instances.proofs.ModulatorInstance.{sent_may_travel_applied}
use Rattle.instances.proofs.StreamInstance.{RunsAreReadHere, runs_are_read_applied, ReadIsRunHere, read_is_run_applied}
use Rattle.instances.proofs.StreamInstance.{AllComeBackHere, all_come_back_applied, DrainedIsEmptyHere, drained_is_empty_applied}
use Rattle.instances.proofs.StreamInstance.{CallsMakeRunsHere, calls_make_runs_applied, JudgedByFramesHere}
use Rattle.instances.proofs.StreamInstance.{judged_by-frames_applied, SentMayGoHere, sent_may_go_applied, NullsBetweenHere}
use Rattle.instances.proofs.StreamInstance.{nulls-between_applied, HandsOutPacketsHere, hands_out-packets_applied}
use Rattle.instances.proofs.StreamInstance.{ChannelIsReadHere, channel_is_read_applied, UniqueMpegHere, unique_mpeg_applied}
use Rattle.instances.proofs.CaptureInstance.{ReadsBackHere, reads_back_applied}
use Rattle.instances.proofs.ProgramsInstance.{StreamComesBackHere, stream_comes_back_applied, ProgramsInARowHere}
use Rattle.instances.proofs.ProgramsInstance.{programs_in_a_row_applied}
use Rattle.instances.proofs.PcapInstance.{PcapComesBackHere, pcap_comes_back_applied, ExportWellFormedHere}
use Rattle.instances.proofs.PcapInstance.{export_well_formed_applied, ImportNeverInventsHere, import_never_invents_applied}
use Rattle.instances.proofs.PcapInstance.{ImportAddsUpHere, import_adds_up_applied, EitherOrderHere, either_order_applied}
use Rattle.instances.proofs.PcapInstance.{ReaderHandsOutHere, reader_hands_out_applied}
use Rattle.instances.proofs.GapsInstance.{DmptGapsHere, dmpt_gaps_applied}

-- Demand 3, and what goes with it
demand_3_here : Demand3Here
demand_3_here = demand_3_applied demand_3

fewer_lost_here : FewerLostHere
fewer_lost_here = fewer_lost_applied fewer_lost

gaps_are_told_here : GapsAreToldHere
gaps_are_told_here = gaps_are_told_applied gaps_are_told

dmpt_gaps_here : DmptGapsHere
dmpt_gaps_here = dmpt_gaps_applied gaps_are_told

in_time_is_meant_here : InTimeIsMeantHere
in_time_is_meant_here = in_time_is_meant_applied in_time_is_meant

-- The byte account; D-MPT; PSP packets without a number
byte_account_here : ByteAccountHere
byte_account_here = byte_account_applied byte_account

each_byte_here : EachByteHere
each_byte_here = each_byte_applied each_byte

dmpt_delivers_here : DmptDeliversHere
dmpt_delivers_here = dmpt_delivers_applied dmpt_delivers

unnumbered-accepted_here : UnnumberedAcceptedHere
unnumbered-accepted_here = unnumbered-accepted_applied unnumbered-accepted

unnumbered_delivers_here : UnnumberedDeliversHere
unnumbered_delivers_here = unnumbered_delivers_applied unnumbered_delivers

never_given_here : NeverGivenHere
never_given_here = never_given_applied never_given

-- Session against session
isolation_here : IsolationHere
isolation_here = isolation_applied isolation

open_by_ids_here : OpenByIdsHere
open_by_ids_here = open_by_ids_applied open_by_ids

-- What no call does
never_broken_here : NeverBrokenHere
never_broken_here = never_broken_applied never_broken

within_limits_here : WithinLimitsHere
within_limits_here = within_limits_applied within_limits

refusals_change_nothing_here : RefusalsChangeNothingHere
refusals_change_nothing_here = refusals_change_nothing_applied refusals_change_nothing

-- One outcome for each call
unique_open_here : UniqueOpenHere
unique_open_here = unique_open_applied unique_open

unique_close_here : UniqueCloseHere
unique_close_here = unique_close_applied unique_close

unique_receive_here : UniqueReceiveHere
unique_receive_here = unique_receive_applied unique_receive

unique_send_here : UniqueSendHere
unique_send_here = unique_send_applied unique_send

unique_check_here : UniqueCheckHere
unique_check_here = unique_check_applied unique_check

unique_segment_here : UniqueSegmentHere
unique_segment_here = unique_segment_applied unique_segment

unique_capture_here : UniqueCaptureHere
unique_capture_here = unique_capture_applied unique_capture

unique_flow_here : UniqueFlowHere
unique_flow_here = unique_flow_applied unique_flow

unique_null_here : UniqueNullHere
unique_null_here = unique_null_applied unique_null

unique_pcap_here : UniquePcapHere
unique_pcap_here = unique_pcap_applied unique_pcap

-- Over IP and over UDP; what nobody reads
same-packet_here : SamePacketHere
same-packet_here = same-packet_applied same-packet

ignored_bits_here : IgnoredBitsHere
ignored_bits_here = ignored_bits_applied ignored_bits

-- Our own sender, and there and back
sender_keeps_rules_here : SenderKeepsRulesHere
sender_keeps_rules_here = sender_keeps_rules_applied sender_keeps_rules

sendings_go_on_here : SendingsGoOnHere
sendings_go_on_here = sendings_go_on_applied sendings_go_on

keeps_limit_here : KeepsLimitHere
keeps_limit_here = keeps_limit_applied keeps_limit

round_trip_here : RoundTripHere
round_trip_here = round_trip_applied round_trip

-- To the modulator
core_to_modulator_here : CoreToModulatorHere
core_to_modulator_here = core_to_modulator_applied core_to_modulator

sent_may_travel_here : SentMayTravelHere
sent_may_travel_here = sent_may_travel_applied sent_may_travel

runs_are_read_here : RunsAreReadHere
runs_are_read_here = runs_are_read_applied runs_are_read

read_is_run_here : ReadIsRunHere
read_is_run_here = read_is_run_applied read_is_run

all_come_back_here : AllComeBackHere
all_come_back_here = all_come_back_applied all_come_back

drained_is_empty_here : DrainedIsEmptyHere
drained_is_empty_here = drained_is_empty_applied drained_is_empty

calls_make_runs_here : CallsMakeRunsHere
calls_make_runs_here = calls_make_runs_applied calls_make_runs

judged_by-frames_here : JudgedByFramesHere
judged_by-frames_here = judged_by-frames_applied judged_by-frames

sent_may_go_here : SentMayGoHere
sent_may_go_here = sent_may_go_applied sent_may_go

nulls-between_here : NullsBetweenHere
nulls-between_here = nulls-between_applied nulls-between

hands_out-packets_here : HandsOutPacketsHere
hands_out-packets_here = hands_out-packets_applied hands_out-packets

channel_is_read_here : ChannelIsReadHere
channel_is_read_here = channel_is_read_applied channel_is_read

unique_mpeg_here : UniqueMpegHere
unique_mpeg_here = unique_mpeg_applied unique_mpeg

-- Capture files
reads_back_here : ReadsBackHere
reads_back_here = reads_back_applied reads_back

-- The programs in a row
stream_comes_back_here : StreamComesBackHere
stream_comes_back_here = stream_comes_back_applied stream_comes_back

programs_in_a_row_here : ProgramsInARowHere
programs_in_a_row_here = programs_in_a_row_applied programs_in_a_row

-- Captures from and to pcap files
pcap_comes_back_here : PcapComesBackHere
pcap_comes_back_here = pcap_comes_back_applied pcap_comes_back

export_well_formed_here : ExportWellFormedHere
export_well_formed_here = export_well_formed_applied export_well_formed

import_never_invents_here : ImportNeverInventsHere
import_never_invents_here = import_never_invents_applied import_never_invents

import_adds_up_here : ImportAddsUpHere
import_adds_up_here = import_adds_up_applied import_adds_up

either_order_here : EitherOrderHere
either_order_here = either_order_applied either_order

reader_hands_out_here : ReaderHandsOutHere
reader_hands_out_here = reader_hands_out_applied reader_hands_out
