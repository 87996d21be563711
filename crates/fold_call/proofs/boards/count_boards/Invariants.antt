use mathlib.Core.Path.{◌≡◌}
use Prim.Native.Nat.{◌+◌, ◌*◌, ◌≤◌, ◌<◌}
use lib.ListN.{get_or, drop}
use Rattle.job.specs.Job.{job_of}
use Rattle.plan.specs.Plan.{cost_at}
use Rattle.layouts.specs.Lines.{grouped, rows_of, set_of}
use Rattle.layouts_strips.specs.Measures.{max_word}
use Rattle.fold_call.proofs.Boarding.{value_of, value_from}
use Rattle.fold_call.proofs.boards.count_boards.Given as goal

-- `count_boards` counts where boards end: those counted, and those of the lines that are left, are all; so it is with what they cost.
abbrev pub invariant-loop-c : goal.invariant-loop-c
invariant-loop-c l = (l.at.number ≤ l.c)
    × (l.at.cost ≤ max_word * l.c)
    × (l.c < l.lines.number → l.at.size.0 < get_or l.lines.job.now 2 0)
    × (l.at.number + value_from (λ _. 1) l.at.size.0 (grouped (drop l.c (rows_of l.lines.layouts.now))) ≡ value_of (λ _. 1) (set_of l.lines.layouts.now))
    × (l.at.cost + value_from (cost_at (job_of l.lines.job.now)) l.at.size.0 (grouped (drop l.c (rows_of l.lines.layouts.now))) ≡ value_of (cost_at (job_of l.lines.job.now)) (set_of l.lines.layouts.now))
