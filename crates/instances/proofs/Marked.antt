-- The marked cases, by computation: the definitions give what document 01 gives.
use mathlib.Core.Path.{refl}
use Rattle.octets.specs.Stretch.{part, rest, put, joined, lengths_of, cut_by}
use Rattle.octets.specs.Count.{any, least, sum_to, up_to}
use Rattle.flow.specs.Numbers.{ahead, next}
use Rattle.packet.specs.Segments.{body_at, segment_at, segments}
use Rattle.packet.specs.Psp.{wanted}
use Rattle.table.specs.Broken.{broken}
use Rattle.table.specs.Calls.{opened}
use Rattle.join.specs.Join.{settled_by, settled, fate_by, fate, at_gap, in_order, psp_fate}
use Rattle.card.specs.Hear.{hear}
use Rattle.card.specs.Receive.{carried_out, refused, received_by, received}
use Rattle.card.specs.History.{answer, after}
use Rattle.sender.specs.Cut.{cut, frame_start}
use Rattle.sender.specs.Packet.{packet_of}
use Rattle.sender.specs.Send as sender
use Rattle.sender.specs.Series.{series_packets}
use Rattle.promises.specs.Marked.{handed-card, Marked, BesidesMarked}

pub marked : Marked
unfolding part rest put joined lengths_of cut_by any least sum_to up_to ahead next body_at segment_at segments wanted broken opened
    settled_by settled fate_by fate at_gap in_order psp_fate hear carried_out refused received_by received answer after handed-card
    series_packets frame_start cut packet_of sender.cut_for sender.written sender.refused sender.sent_by sender.sent
marked = (refl, (refl, (refl, (refl, (refl, (refl, (refl, (refl, (refl, (refl, (refl, (refl, tt))))))))))))

pub besides_marked : BesidesMarked
unfolding part rest put joined lengths_of cut_by any least sum_to up_to ahead next body_at segment_at segments wanted broken opened
    settled_by settled fate_by fate at_gap in_order psp_fate hear carried_out refused received_by received answer after handed-card
besides_marked = (refl, (refl, (refl, (refl, (refl, (refl, tt))))))
