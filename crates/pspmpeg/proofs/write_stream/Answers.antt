-- `pspmpeg::write_stream` is right by its two ways out: the capture is refused, or its frames are gathered and their packets written.
use Rattle.std.proofs.Common.{rules, arith, sym, ◌∙◌}
use Rattle.refusal.proofs.Numbers.{number_some}
use Rattle.text.proofs.Writing.{wrote_as}
use Rattle.pspmpeg.proofs.Streaming.{stream-refused, stream-sound}
use Rattle.pspmpeg.proofs.write_stream.Goals as goal

pub returns-in-Err-clause-wrote : goal.returns-in-Err-clause-wrote
returns-in-Err-clause-wrote c =
    wrote_as
    (stream-refused _ _ _ (c.from.ensures ∙ c.in-Err.ensures) (λ none. number_some c.in-Err.refusal (sym c.from.ensures ∙ none)))
    c.write_refused.ensures.wrote

pub returns-clause-wrote : goal.returns-clause-wrote
returns-clause-wrote c =
    let few = c.gather-bytes.ensures.total_le_longest_file in
    stream-sound c.args.session c.args.file.now (search rules) c.gather-bytes.ensures.gathers
    (omega (arith, few.0)) (omega (arith, few.1)) c.write_packets.ensures.wrote
