-- No call leaves its outcome open: what the definition says is permitted, and any two permitted outcomes are the same. Each crate has
-- proved this of its own calls; here the laws stand together.
use Prim.Native.Nat.{◌+◌}
use Rattle.flow.specs.Flow.{fresh, judge}
use Rattle.flow.proofs.Unique.{fresh-permitted, fresh_unique, judge-permitted, judge_unique}
use Rattle.ts.specs.Packet.{null_packet}
use Rattle.ts.proofs.Unique.{null_permitted, null_unique, packet_with, same-packet}
use Rattle.packet.specs.Header.{packet_by}
use Rattle.packet.specs.Check as packet
use Rattle.packet.proofs.Unique as packet-laws
use Rattle.table.specs.Rows.{empty}
use Rattle.table.specs.Calls.{opened, opened_by_number, closed}
use Rattle.table.proofs.Unique.{empty-permitted, empty_unique, open_permitted, open_unique, close_permitted, close_unique}
use Rattle.table.proofs.Unique.{open_by_number-permitted, open_by_number_unique}
use Rattle.card.specs.Receive.{received}
use Rattle.card.proofs.Unique.{receive_permitted, receive_unique}
use Rattle.sender.specs.Send.{sent}
use Rattle.sender.proofs.Unique.{send_permitted, send_unique}
use Rattle.capture.specs.File as capture
use Rattle.capture.proofs.Unique as capture-laws
use Rattle.promises.specs.Unique.{UniqueOpen, UniqueClose, UniqueReceive, UniqueSend}
use Rattle.promises.specs.Unique.{UniqueCheck, UniqueSegment, UniqueCapture, UniqueFlow, UniqueNull, UniquePcap}
use Rattle.pcap.specs.Import.{imported}
use Rattle.pcap.specs.Export.{exported}
use Rattle.pcap.proofs.Outcomes as pcap-laws

pub unique_open : UniqueOpen
unique_open = (
  (λ t q. record { outcome = opened t q; permitted = open_permitted t q; only_one = open_unique t q }),
  (λ t id kind.
      record {
        outcome = opened_by_number t id kind;
        permitted = open_by_number-permitted t id kind;
        only_one = open_by_number_unique t id kind;
      }),
)

pub unique_close : UniqueClose
unique_close t id = record { outcome = closed t id; permitted = close_permitted t id; only_one = close_unique t id }

pub unique_receive : UniqueReceive
unique_receive t packet s =
    record {
      outcome = received t packet s;
      permitted = receive_permitted t packet s;
      only_one = receive_unique t packet s;
    }

pub unique_send : UniqueSend
unique_send a = record { outcome = sent a; permitted = send_permitted a; only_one = send_unique a }

pub unique_check : UniqueCheck
unique_check kind p =
    record {
      outcome = packet.check kind p;
      permitted = packet-laws.check-permitted kind p;
      only_one = packet-laws.check_unique kind p;
    }

-- a segment's body is the stretch of the packet that the definition says, with those bytes
pub unique_segment : UniqueSegment
unique_segment kind transport slice k = (
  record {
    outcome = record {
      ref_ptr = (slice.ref_ptr.0, slice.ref_ptr.1 + (packet.segment_extent kind (packet_by transport slice.now) k).start);
      now = packet.segment_given kind (packet_by transport slice.now) k;
    };
    permitted = packet-laws.segment_permitted kind transport slice k;
    only_one = packet-laws.segment_unique kind transport slice k;
  },
  record {
    outcome = packet.segment_cause kind (packet_by transport slice.now) k;
    permitted = packet-laws.cause_permitted kind (packet_by transport slice.now) k;
    only_one = packet-laws.cause_unique kind (packet_by transport slice.now) k;
  },
  record {
    outcome = packet.segment_extent kind (packet_by transport slice.now) k;
    permitted = packet-laws.extent_permitted kind (packet_by transport slice.now) k;
    only_one = packet-laws.extent_unique kind (packet_by transport slice.now) k;
  },
  λ output. record {
    outcome = packet.segment_copied kind (packet_by transport slice.now) k output;
    permitted = packet-laws.copy_permitted kind (packet_by transport slice.now) k output;
    only_one = packet-laws.copy_unique kind (packet_by transport slice.now) k output;
  },
)

pub unique_capture : UniqueCapture
unique_capture file index = (
  record {
    outcome = capture.file_refusal file.now;
    permitted = capture-laws.check-permitted file.now;
    only_one = capture-laws.check_unique file.now;
  },
  record {
    outcome = capture-laws.body-there file index;
    permitted = capture-laws.body-permitted file index;
    only_one = capture-laws.body_unique file index;
  },
)

pub unique_flow : UniqueFlow
unique_flow = (
  record { outcome = fresh; permitted = fresh-permitted; only_one = fresh_unique },
  λ f number. record { outcome = judge f number; permitted = judge-permitted f number; only_one = judge_unique f number },
  record { outcome = empty; permitted = empty-permitted; only_one = empty_unique },
)

pub unique_null : UniqueNull
unique_null = (
  record { outcome = null_packet; permitted = null_permitted; only_one = null_unique },
  record {
    outcome = packet_with null_packet;
    permitted = null_permitted;
    only_one = λ a b p q. same-packet a b (null_unique a.bytes b.bytes p q);
  },
)

pub unique_pcap : UniquePcap
unique_pcap = (
  λ sessions file output.
      record {
        outcome = imported sessions file output;
        permitted = pcap-laws.import_permitted sessions file output;
        only_one = pcap-laws.import_unique sessions file output;
      },
  λ by file output.
      record {
        outcome = exported by file output;
        permitted = pcap-laws.export_permitted by file output;
        only_one = pcap-laws.export_unique by file output;
      },
  λ file at little.
      record {
        outcome = pcap-laws.bytes-there file at little;
        permitted = pcap-laws.bytes-permitted file at little;
        only_one = pcap-laws.bytes_unique file at little;
      },
)
