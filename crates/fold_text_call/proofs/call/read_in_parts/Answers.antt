use Rattle.std.proofs.Common.{arith}
use Rattle.fold_text_reader.proofs.CodeSplits.{nothing_read}
use Rattle.fold_text_call.proofs.TextParts.{read-further}
use Rattle.fold_text_call.proofs.call.read_in_parts.Goals as goal

pub loop-end-init : goal.loop-end-init
loop-end-init c = record { within = omega arith; after = nothing_read c.requires c.start-reader.ensures }

pub loop-end-preserved : goal.loop-end-preserved
loop-end-preserved c =
    let l = c.loop-end in
    record { within = omega arith; after = read-further c.args.text.now l.at l.invariant.after _ (omega arith) c.feed-reader.ensures }
