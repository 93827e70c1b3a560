-- `pcap::import::write` lays all entries into the room for them, and then writes their number.
use Rattle.std.proofs.Common.{◌≡◌, List, ℕ, rules, ◌∙◌}
use Rattle.pcap.proofs.Importing.{opens-room, records_room, finish_fits, capture_written}
use Rattle.pcap.proofs.import.write.Goals as goal

-- who lent the slice finds there what the capture left in it
found_there : {lent output file : List ℕ} → lent ≡ file → output ≡ lent → output ≡ file
found_there is there = there ∙ is

pub write_opens-requires : goal.write_opens-requires
write_opens-requires c = rw c.begin.ensures (opens-room c.args.sessions.now c.args.file.now c.requires.room_for)

pub write_records-requires : goal.write_records-requires
write_records-requires c =
    let opened = rw c.begin.ensures at c.write_opens.ensures.lays_on in
    rw c.write_opens.ensures.same_file.1 (records_room c.args.sessions.now c.args.file.now c.requires.room_for opened)

pub finish-requires : goal.finish-requires
finish-requires c =
    let opened = rw c.begin.ensures at c.write_opens.ensures.lays_on in
    let wrote = rw c.write_opens.ensures.same_file.1 at c.write_records.ensures.lays_on in
    finish_fits c.args.sessions.now c.args.file.now c.requires.room_for opened wrote

pub returns : goal.returns
returns c =
    let opened = rw c.begin.ensures at c.write_opens.ensures.lays_on in
    let wrote = rw c.write_opens.ensures.same_file.1 at c.write_records.ensures.lays_on in
    found_there {lent = c.finish.new.self.file.now}
    (capture_written c.args.sessions.now c.args.file.now c.requires.room_for opened wrote _ c.requires.count_value
    c.finish.ensures.file_after)
    (search rules)
