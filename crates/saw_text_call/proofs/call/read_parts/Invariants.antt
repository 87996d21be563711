use Rattle.saw_text_lines.specs.SawKept.{lent}
use Rattle.saw_text_call.proofs.TextParts.{ReadTo}
use Rattle.saw_text_call.proofs.call.read_parts.Given as goal

-- `read_parts` reads part after part: up to `at` the text has been read, whatever the parts were.
abbrev pub invariant-loop-end : goal.invariant-loop-end
invariant-loop-end l = ReadTo l.text l.at l.reader (lent l.job l.plates l.cuts l.counts l.prices)
