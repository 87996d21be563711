use Prim.Native.Nat.{◌-◌}
use lib.ListN.{length}
use Rattle.saw_text_lines.specs.SawKept.{lent}
use Rattle.saw_text_reader.proofs.PartSteps.{Going}
use Rattle.saw_text_reader.proofs.saw.SawReader.feed_ready.Given as goal

-- `feed_ready` goes line by line, and over the lines 3 or 6 that stand whole after it: what is left of the part makes of the reader that is kept what the whole makes of the first.
abbrev pub invariant-loop-at : goal.invariant-loop-at
invariant-loop-at l = Going l.part l.initial.reader (lent l.initial.job l.initial.plates l.initial.cuts l.initial.counts l.initial.prices) l.reader (lent l.job l.plates l.cuts l.counts l.prices) l.at

abbrev pub decreases-loop-at : goal.decreases-loop-at
decreases-loop-at l = length l.part - l.at
