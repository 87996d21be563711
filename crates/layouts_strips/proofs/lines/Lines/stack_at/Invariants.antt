use Prim.Native.Nat.{◌-◌}
use lib.ListN.{drop}
use Rattle.job.specs.Job.{job_of}
use Rattle.layouts.specs.Lines.{rows_of}
use Rattle.layouts_strips.specs.First.{stack_of}
use Rattle.layouts_strips.specs.Measures.{StackIs, StackSmall}
use Rattle.layouts_strips.proofs.CodeStacks.{items_on, items_left}
use Rattle.layouts_strips.proofs.lines.Lines.stack_at.Given as goal

-- `stack_at` measures the items of a stack one by one: with those that are left, what it has measured is the whole stack.
abbrev pub invariant-loop-head : goal.invariant-loop-head
invariant-loop-head l = (StackIs (job_of l.self.job.now) l.c (stack_of (drop l.c (rows_of l.self.layouts.now))) (items_on (job_of l.self.job.now) l.m (items_left l.self.layouts.now l.m.end))) × (StackSmall l.c l.self.number l.m)

abbrev pub decreases-loop-head : goal.decreases-loop-head
decreases-loop-head l = l.self.number - l.m.end
