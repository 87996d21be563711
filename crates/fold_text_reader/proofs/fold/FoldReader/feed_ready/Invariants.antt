use Prim.Native.Nat.{◌-◌}
use lib.ListN.{length}
use Rattle.fold_text_reader.proofs.CodeParts.{Going}
use Rattle.fold_text_reader.proofs.fold.FoldReader.feed_ready.Given as goal

-- `feed_ready` goes line by line: what is left of the part makes of the reader that is kept what the whole makes of the first.
abbrev pub invariant-loop-at : goal.invariant-loop-at
invariant-loop-at l = Going l.part l.initial.reader l.initial.job l.initial.layouts l.reader l.job l.layouts l.at

abbrev pub decreases-loop-at : goal.decreases-loop-at
decreases-loop-at l = length l.part - l.at
