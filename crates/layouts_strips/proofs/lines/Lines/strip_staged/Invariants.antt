use mathlib.Core.Path.{◌≡◌}
use mathlib.Core.Bool.{◌||◌}
use Prim.Native.Nat.{◌-◌, ◌<◌}
use lib.ListN.{drop}
use Rattle.job.specs.Lists.{any, all}
use Rattle.job.specs.Job.{job_of}
use Rattle.layouts.specs.Layout.{full_stack}
use Rattle.layouts.specs.Lines.{rows_of}
use Rattle.layouts_strips.specs.First.{strip_of}
use Rattle.layouts_strips.proofs.CodeStaged.{kept}
use Rattle.layouts_strips.proofs.lines.Lines.strip_staged.Given as goal

-- `strip_staged` looks at the stacks in turn: those from c on decide as all of them do.
abbrev pub invariant-loop-mode : goal.invariant-loop-mode
invariant-loop-mode l = ((all (kept (job_of l.self.job.now) l.height) (strip_of (drop l.a (rows_of l.self.layouts.now))) ≡ all (kept (job_of l.self.job.now) l.height) (strip_of (drop l.c (rows_of l.self.layouts.now)))) × (any (full_stack (job_of l.self.job.now) l.height) (strip_of (drop l.a (rows_of l.self.layouts.now))) ≡ (l.full || any (full_stack (job_of l.self.job.now) l.height) (strip_of (drop l.c (rows_of l.self.layouts.now)))))) × (l.c < l.self.number)

abbrev pub decreases-loop-mode : goal.decreases-loop-mode
decreases-loop-mode l = l.self.number - l.c
