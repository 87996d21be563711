use Rattle.std.proofs.Common.{arith}
use Rattle.saw_text_call.proofs.ToHost.{saw-answer}
use Rattle.texts_parts.proofs.parts_saw_text.Goals as goal

-- `parts_saw_text` hands on the answer to the saw text in parts, over buffers of its own.
pub returns : goal.returns
returns c =
    saw-answer
    c.saw_in_parts.ensures
    (record { for-job = omega arith; for-plates = omega arith; for-cuts = omega arith; for-counts = omega arith; for-prices = omega arith })
    (omega arith)
