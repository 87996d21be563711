use mathlib.Core.Path.{◌≡◌}
use mathlib.Core.List.{List}
use lib.Dec.{ltb}
use lib.ListN.{length, get_or, drop}
use Rattle.job.specs.Verdict.{lowest}
use Rattle.listing.specs.declared.plate.Plate.{Plate}
use Rattle.plan_test.proofs.plan_row.types_overdrawn.Given as goal

-- `types_overdrawn` looks at the residual types in rising number: those from j on decide as all of them do.
abbrev pub invariant-loop-j : goal.invariant-loop-j
invariant-loop-j l = (ps : List Plate) → length ps ≡ l.j-end → lowest 12 (λ i _. ltb (get_or l.left i 0) (get_or l.on i 0)) l.initial.j (drop l.initial.j ps) ≡ lowest 12 (λ i _. ltb (get_or l.left i 0) (get_or l.on i 0)) l.j (drop l.j ps)
