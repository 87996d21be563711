use Prim.Native.Nat.{◌-◌, ◌<◌}
use lib.ListN.{drop}
use Rattle.job.specs.Job.{job_of}
use Rattle.layouts.specs.Lines.{rows_of}
use Rattle.layouts_strips.specs.First.{strip_of}
use Rattle.layouts_strips.specs.Measures.{StripIs, StripSmall}
use Rattle.layouts_strips.proofs.CodeStrips.{stacks_in}
use Rattle.layouts_strips.proofs.lines.Lines.strip_at.Given as goal

-- `strip_at` measures the stacks of a strip one by one: with those that are left, what it has measured is the whole strip.
abbrev pub invariant-loop-head : goal.invariant-loop-head
invariant-loop-head l = (StripIs (job_of l.self.job.now) l.a (strip_of (drop l.a (rows_of l.self.layouts.now))) (stacks_in (job_of l.self.job.now) l.m (strip_of (drop l.m.end (rows_of l.self.layouts.now))))) × ((StripSmall l.a l.self.number l.m) × (l.m.end < l.self.number))

abbrev pub decreases-loop-head : goal.decreases-loop-head
decreases-loop-head l = l.self.number - l.m.end
