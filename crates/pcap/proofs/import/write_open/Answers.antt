-- `pcap::import::write_open` lays an entry whose four bytes are the session's number.
use Rattle.std.proofs.Common.{◌∙◌}
use Rattle.octets.proofs.Numbers.{four_bytes}
use Rattle.pcap.proofs.Laying.{open_fits, open_lays}
use Rattle.pcap.proofs.import.write_open.Goals as goal

pub lay-requires : goal.lay-requires
lay-requires c = open_fits c.args.session c.requires _ (c.to_be_bytes.ensures ∙ four_bytes c.args.session)

pub returns : goal.returns
returns c =
    record {
      lays_on =
          open_lays c.args.session c.requires _ (c.to_be_bytes.ensures ∙ four_bytes c.args.session) _ _ c.lay.ensures.value
          (rw c.from.ensures at c.lay.ensures.file_after);
      same_file = c.lay.ensures.same_file;
    }
