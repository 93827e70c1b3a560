-- `pcap::headers::write_unchecked_ipv4` writes the fields, each behind the one before: one put (`put_more`).
use Rattle.std.proofs.Common.{refl, arith}
use Rattle.octets.proofs.Stretches.{put_more}
use Rattle.pcap.proofs.headers.write_unchecked_ipv4.Goals as goal

pub returns : goal.returns
returns c =
    let two = put_more _ _ _ _ _ (omega arith) c.write_pair.ensures refl c.write_u16.ensures in
    let three = put_more _ _ _ _ _ (omega arith) two refl c.write_u32.ensures in
    let four = put_more _ _ _ _ _ (omega arith) three refl c.write_pair-2.ensures in
    let five = put_more _ _ _ _ _ (omega arith) four refl c.write_u16-2.ensures in
    let six = put_more _ _ _ _ _ (omega arith) five refl c.write_u32-2.ensures in
    put_more _ _ _ _ _ (omega arith) six refl c.write_u32-3.ensures
