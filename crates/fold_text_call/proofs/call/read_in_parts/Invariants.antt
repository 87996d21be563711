use Rattle.fold_text_call.proofs.TextParts.{ReadTo}
use Rattle.fold_text_call.proofs.call.read_in_parts.Given as goal

-- `read_in_parts` feeds one part after another: up to `at` the text has been fed.
abbrev pub invariant-loop-end : goal.invariant-loop-end
invariant-loop-end l = ReadTo l.text l.at l.reader l.job l.layouts
