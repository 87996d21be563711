use Rattle.std.proofs.Common.{arith}
use Rattle.saw_text_call.proofs.ToHost.{saw-answer}
use Rattle.engine.proofs.text_calls.saw_text.Goals as goal

-- `saw_text` hands on the answer to the saw text, over buffers of its own.
pub returns : goal.returns
returns c =
    saw-answer
    c.saw_text.ensures
    (record { for-job = omega arith; for-plates = omega arith; for-cuts = omega arith; for-counts = omega arith; for-prices = omega arith })
    (omega arith)
