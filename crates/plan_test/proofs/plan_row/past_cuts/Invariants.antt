use mathlib.Core.Path.{◌≡◌}
use mathlib.Core.Bool.{not}
use Prim.Native.Nat.{suc, ◌+◌}
use lib.Dec.{eqb}
use lib.ListN.{drop}
use Rattle.job.specs.Verdict.{lowest}
use Rattle.plan_test.proofs.plan_row.past_cuts.Given as goal

-- `past_cuts` looks at the words past the last cut in rising order: those from c on decide as all of them do.
abbrev pub invariant-loop-c : goal.invariant-loop-c
invariant-loop-c l = lowest 8 (λ _ n. not (eqb n 0)) (suc l.initial.c) (drop l.initial.c l.counts) ≡ lowest 8 (λ _ n. not (eqb n 0)) (l.c + 1) (drop l.c l.counts)
