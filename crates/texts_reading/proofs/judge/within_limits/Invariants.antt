use mathlib.Core.Path.{◌≡◌}
use lib.ListN.{drop}
use Rattle.texts.specs.Shape.{each_within}
use Rattle.texts_reading.specs.Judged.{limits_of}
use Rattle.texts_reading.proofs.judge.within_limits.Given as goal

-- the values from the i-th on decide as all of them do
abbrev pub invariant-loop-i : goal.invariant-loop-i
invariant-loop-i l =
    each_within (limits_of l.low l.high) l.values
    ≡ each_within (limits_of (drop l.i l.low) (drop l.i l.high)) (drop l.i l.values)
