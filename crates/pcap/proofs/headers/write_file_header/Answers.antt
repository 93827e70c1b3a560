-- `pcap::headers::write_file_header` writes seven numbers, each behind the one before: one put (`put_more`).
use Rattle.std.proofs.Common.{refl, arith}
use Rattle.octets.proofs.Stretches.{put_more}
use Rattle.pcap.proofs.headers.write_file_header.Goals as goal

pub returns : goal.returns
returns c =
    let two = put_more _ _ _ _ _ (omega arith) c.write_little_u32.ensures refl c.write_little_u16.ensures in
    let three = put_more _ _ _ _ _ (omega arith) two refl c.write_little_u16-2.ensures in
    let four = put_more _ _ _ _ _ (omega arith) three refl c.write_little_u32-2.ensures in
    let five = put_more _ _ _ _ _ (omega arith) four refl c.write_little_u32-3.ensures in
    let six = put_more _ _ _ _ _ (omega arith) five refl c.write_little_u32-4.ensures in
    put_more _ _ _ _ _ (omega arith) six refl c.write_little_u32-5.ensures
