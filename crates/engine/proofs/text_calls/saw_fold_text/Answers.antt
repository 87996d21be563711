use Rattle.std.proofs.Common.{arith}
use Rattle.fold_text_call.proofs.ToHost.{fold-answer}
use Rattle.engine.proofs.text_calls.saw_fold_text.Goals as goal

-- `saw_fold_text` hands on the answer to the fold text, over buffers of its own.
pub returns : goal.returns
returns c = fold-answer c.fold_text.ensures (omega arith) (omega arith) (omega arith) (omega arith) (omega arith)
