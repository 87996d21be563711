use Rattle.std.proofs.Common.{arith}
use Rattle.fold_text_call.proofs.ToHost.{fold-answer}
use Rattle.texts_parts.proofs.parts_fold_text.Goals as goal

-- `parts_fold_text` hands on the answer to the fold text in parts, over buffers of its own.
pub returns : goal.returns
returns c = fold-answer c.fold_in_parts.ensures (omega arith) (omega arith) (omega arith) (omega arith) (omega arith)
