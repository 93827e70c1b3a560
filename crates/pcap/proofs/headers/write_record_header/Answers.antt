-- `pcap::headers::write_record_header` writes four numbers, each behind the one before: one put (`put_more`).
use Rattle.std.proofs.Common.{refl, arith}
use Rattle.octets.proofs.Stretches.{put_more}
use Rattle.pcap.proofs.headers.write_record_header.Goals as goal

pub returns : goal.returns
returns c =
    let half = put_more _ _ _ _ _ (omega arith) c.write_little_u32.ensures refl c.write_little_u32-2.ensures in
    let more = put_more _ _ _ _ _ (omega arith) half refl c.write_little_u32-3.ensures in
    put_more _ _ _ _ _ (omega arith) more refl c.write_little_u32-4.ensures
