use mathlib.Core.Path.{◌≡◌}
use Prim.Native.Nat.{◌+◌, ◌-◌, ◌*◌, ◌≤◌, ◌<◌}
use lib.ListN.{get_or, drop}
use Rattle.job.specs.Job.{job_of}
use Rattle.layouts.specs.Lines.{rows_of, grouped}
use Rattle.layouts.specs.LayoutsRow.{laid_set, lowest_strip, past_board}
use Rattle.layouts_strips.specs.First.{laid_from}
use Rattle.layouts_strips.specs.Measures.{max_word, max_step}
use Rattle.layouts_strips.proofs.lines.Lines.past_row.Given as goal

-- `past_row` looks at the strips in turn: those from a on, on a board of this size and above the height below them, decide as all of them do.
abbrev pub invariant-loop-a : goal.invariant-loop-a
invariant-loop-a l = (lowest_strip 17 (past_board (job_of l.self.job.now)) (laid_set (job_of l.self.job.now) l.k (grouped (rows_of l.self.layouts.now))) ≡ lowest_strip 17 (past_board (job_of l.self.job.now)) (laid_from (job_of l.self.job.now) l.size.0 (l.k + l.a) l.below (grouped (drop l.a (rows_of l.self.layouts.now)))))
    × (l.a ≤ l.self.number)
    × (l.below ≤ (max_step + max_word) * l.a)
    × (l.a < l.self.number → l.size.0 < get_or l.self.job.now 2 0)

abbrev pub decreases-loop-a : goal.decreases-loop-a
decreases-loop-a l = l.self.number - l.a
