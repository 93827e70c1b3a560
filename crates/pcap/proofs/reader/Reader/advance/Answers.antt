-- `pcap::reader::Reader::advance`: a whole record ends in the file (`whole-inside`), so that its end is a place.
use Rattle.std.proofs.Common.{sym, ap, length, List, ℕ, arith}
use Rattle.pcap.proofs.Reading.{whole-inside, after-whole, after_none, size-whole, length_bytes}
use Rattle.pcap.proofs.reader.Reader.advance.Goals as goal

pub overflow_add-result : goal.overflow_add-result
overflow_add-result c = omega (arith, whole-inside _ _ _ c.in-Some.ensures.0)

pub overflow_add-result-in-Some : goal.overflow_add-result-in-Some
overflow_add-result-in-Some c =
    let there = c.in-Some.ensures in
    let size = length_bytes c.args.self.file.now c.args.self.at c.args.self.little in
    omega (arith, whole-inside _ _ _ there.0, size-whole _ _ _ there.0, size, ap (λ (l : List ℕ). length l) there.1.its_bytes)

pub returns-in-Some : goal.returns-in-Some
returns-in-Some c =
    let there = c.in-Some.ensures in
    let size = length_bytes c.args.self.file.now c.args.self.at c.args.self.little in
    ap (λ (at : ℕ). record { file = c.args.self.file; at = at; little = c.args.self.little })
    (omega (arith, after-whole _ _ _ there.0, size-whole _ _ _ there.0, size, ap (λ (l : List ℕ). length l) there.1.its_bytes))

pub returns-in-None : goal.returns-in-None
returns-in-None c = ap (λ (at : ℕ). record {
  file = c.args.self.file;
  at = at;
  little =
      c.args.self.little;
}) (sym (after_none _ _ _ c.in-None.ensures))
