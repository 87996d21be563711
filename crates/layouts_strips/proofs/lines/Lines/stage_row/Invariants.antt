use mathlib.Core.Path.{◌≡◌}
use Prim.Native.Nat.{ℕ, ◌+◌, ◌-◌, ◌≤◌}
use lib.ListN.{drop}
use Rattle.job.specs.Job.{job_of}
use Rattle.layouts.specs.Lines.{rows_of, grouped}
use Rattle.layouts.specs.LayoutsRow.{laid_set, lowest_strip, breaks_stage}
use Rattle.layouts_strips.specs.First.{laid_from}
use Rattle.layouts_strips.proofs.lines.Lines.stage_row.Given as goal

-- `stage_row` looks at the strips in turn: those from a on, whatever lies below them, decide as all of them do.
abbrev pub invariant-loop-a : goal.invariant-loop-a
invariant-loop-a l = ((z : ℕ) × (y : ℕ) × (lowest_strip 16 (breaks_stage (job_of l.self.job.now)) (laid_set (job_of l.self.job.now) l.k (grouped (rows_of l.self.layouts.now))) ≡ lowest_strip 16 (breaks_stage (job_of l.self.job.now)) (laid_from (job_of l.self.job.now) z (l.k + l.a) y (grouped (drop l.a (rows_of l.self.layouts.now)))))) × (l.a ≤ l.self.number)

abbrev pub decreases-loop-a : goal.decreases-loop-a
decreases-loop-a l = l.self.number - l.a
