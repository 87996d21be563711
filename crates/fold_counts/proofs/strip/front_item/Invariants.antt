use mathlib.Core.Path.{◌≡◌}
use mathlib.Core.Bool.{true}
use Prim.Native.Nat.{◌-◌, ◌<◌}
use lib.ListN.{drop}
use Rattle.job.specs.Lists.{any}
use Rattle.job.specs.Job.{job_of}
use Rattle.layouts.specs.Layout.{full_stack}
use Rattle.layouts.specs.Lines.{rows_of}
use Rattle.layouts.specs.Fold.{first_of}
use Rattle.layouts_strips.specs.First.{strip_of}
use Rattle.fold_counts.proofs.strip.front_item.Given as goal

-- `front_item` passes the stacks that are not full.
abbrev pub invariant-loop-m : goal.invariant-loop-m
invariant-loop-m l = (l.p < l.lines.number)
    × (any (full_stack (job_of l.lines.job.now) l.height) (strip_of (drop l.p (rows_of l.lines.layouts.now))) ≡ true)
    × (first_of (full_stack (job_of l.lines.job.now) l.height) (strip_of (drop l.a (rows_of l.lines.layouts.now))) ≡ first_of (full_stack (job_of l.lines.job.now) l.height) (strip_of (drop l.p (rows_of l.lines.layouts.now))))

abbrev pub decreases-loop-m : goal.decreases-loop-m
decreases-loop-m l = l.lines.number - l.p
