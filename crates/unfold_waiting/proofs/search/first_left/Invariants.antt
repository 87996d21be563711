use mathlib.Core.Path.{◌≡◌}
use lib.ListN.{drop}
use Rattle.layouts.specs.OwnCuts.{first_left}
use Rattle.unfold_waiting.proofs.search.first_left.Given as goal

-- `first_left` looks at the counts from the first on: what is left to search from count i on is the whole search.
abbrev pub invariant-loop-i : goal.invariant-loop-i
invariant-loop-i l = first_left 0 l.part ≡ first_left l.i (drop l.i l.part)
