-- `pcap::reader::Reader::record` hands out what stands behind the record's header; a whole record ends in the file (`whole-inside`).
use Rattle.std.proofs.Common.{refl, sym, ◌∙◌, arith}
use Rattle.octets.proofs.Stretches.{sliced_part}
use Rattle.pcap.proofs.Reading.{whole-inside, start-whole, size-whole, bytes_from}
use Rattle.pcap.proofs.reader.Reader.record.Goals as goal

pub overflow_add-begin : goal.overflow_add-begin
overflow_add-begin c = omega (arith, whole-inside _ _ _ (sym c.more.ensures ∙ c.if-not-more.false))

pub kept-requires : goal.kept-requires
kept-requires c = omega (arith, whole-inside _ _ _ (sym c.more.ensures ∙ c.if-not-more.false))

pub overflow_add-end : goal.overflow_add-end
overflow_add-end c = omega (arith, whole-inside _ _ _ (sym c.more.ensures ∙ c.if-not-more.false), c.kept.ensures)

pub slice_bounds-result-end : goal.slice_bounds-result-end
slice_bounds-result-end c = omega (arith, whole-inside _ _ _ (sym c.more.ensures ∙ c.if-not-more.false), c.kept.ensures)

pub returns : goal.returns
returns c =
    let there = sym c.more.ensures ∙ c.if-not-more.false in (
      there,
      record {
        in_the_file = refl;
        at_its_place = omega (arith, start-whole _ _ _ there);
        its_bytes =
            sliced_part _ _ _ _ (omega arith)
            ∙ bytes_from c.args.self.file.now c.args.self.at c.args.self.little (sym (start-whole _ _ _ there))
            (c.kept.ensures ∙ sym (size-whole _ _ _ there));
      },
    )
