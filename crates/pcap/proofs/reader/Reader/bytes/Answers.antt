-- `pcap::reader::Reader::bytes`: where no whole record is at hand, its bytes are none, at the file's end.
use Rattle.std.proofs.Common.{refl, sym, ◌∙◌, arith}
use Rattle.octets.proofs.Stretches.{sliced_part}
use Rattle.pcap.proofs.Reading.{start_none, size_none, bytes_from}
use Rattle.pcap.proofs.reader.Reader.bytes.Goals as goal

pub returns-in-None : goal.returns-in-None
returns-in-None c =
    let none = c.in-None.ensures in
    record {
      in_the_file = refl;
      at_its_place = omega (arith, start_none _ _ _ none);
      its_bytes =
          sliced_part _ _ _ _ (omega arith)
          ∙ bytes_from c.args.self.file.now c.args.self.at c.args.self.little (sym (start_none _ _ _ none)) (sym (size_none _ _ _ none));
    }
