-- A capture, run from an empty table (document 01, "Capture file and listing"): each entry is a call, and the card goes from entry to
-- entry. The output and the lengths slice are the runner's own, lent again and again, so they go along. All three slices begin as zeros.
use Rattle.std.specs.Prelude.{ℕ, zero, suc, cond, List, eqb, replicate}
use Rattle.octets.specs.Bytes.{be32_at}
use Rattle.packet.specs.Header.{Packet, packet_by, over_ip, over_udp}
use Rattle.table.specs.declared.Kind.{Kind}
use Rattle.table.specs.declared.Request.{Request}
use Rattle.table.specs.declared.Kind.TheVariants as kind
use Rattle.table.specs.Calls.{asking}
use Rattle.join.specs.Slices.{most_bytes, most_frames}
use Rattle.card.specs.Receive.{holding_size}
use Rattle.card.specs.History.{Card, Call, opens, closes, hands, Answer, answer, after, empty_card}
use Rattle.capture.specs.File.{Entry, open_psp, open_dmpt, closing, data_over_udp, nth_entry}

pub record Running : Type 0 where
  pub card : Card
  pub output : List ℕ
  pub lengths : List ℕ

-- the open that an entry stands for: of its session ID, as PSP or as D-MPT
abbrev pub asks : Kind → Entry → Request
asks asked e = asking asked (be32_at e.body 0)

-- the packet of a data entry, by the transport that its kind names
abbrev pub transport_of : ℕ → ℕ
transport_of number = cond (eqb number data_over_udp) over_udp over_ip

abbrev pub packet_of : Entry → Packet
packet_of e = packet_by (transport_of e.kind) e.body

-- the call that an entry stands for
abbrev pub call_of : Running → Entry → Call
call_of r e =
    cond (eqb e.kind open_psp) (opens (asks kind.Psp e))
    (cond (eqb e.kind open_dmpt) (opens (asks kind.Dmpt e))
    (cond (eqb e.kind closing) (closes (be32_at e.body 0))
    (hands (record { packet = packet_of e; output = r.output; lengths = r.lengths }))))

-- the slices after a call: a data call leaves them as its answer has them, and the other calls are not lent any
abbrev pub output_after : Call → List ℕ → Answer → List ℕ
output_after (opens q) output a = output
output_after (closes id) output a = output
output_after (hands x) output a = a.output

abbrev pub lengths_after : Call → List ℕ → Answer → List ℕ
lengths_after (opens q) lengths a = lengths
lengths_after (closes id) lengths a = lengths
lengths_after (hands x) lengths a = a.lengths

-- an entry: its answer, and how things stand afterwards
abbrev pub answer_to : Running → Entry → Answer
answer_to r e = answer r.card (call_of r e)

unfoldable pub run_one : Running → Entry → Running
run_one r e =
    record {
      card = after r.card (call_of r e);
      output = output_after (call_of r e) r.output (answer_to r e);
      lengths = lengths_after (call_of r e) r.lengths (answer_to r e);
    }

-- how things stand before entry k of a file, and the answer to that entry
unfoldable pub begin : Running
begin =
    record { card = empty_card (replicate holding_size 0); output = replicate most_bytes 0; lengths = replicate most_frames 0 }

unfoldable pub standing : List ℕ → ℕ → Running
standing file zero = begin
standing file (suc k) = run_one (standing file k) (nth_entry file k)

unfoldable pub answer_at : List ℕ → ℕ → Answer
answer_at file k = answer_to (standing file k) (nth_entry file k)
