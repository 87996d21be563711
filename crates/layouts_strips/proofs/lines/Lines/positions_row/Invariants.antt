use mathlib.Core.Path.{◌≡◌}
use Prim.Native.Nat.{◌+◌}
use lib.ListN.{drop}
use Rattle.job.specs.Job.{job_of}
use Rattle.layouts.specs.Placement.{lines_of}
use Rattle.layouts.specs.Lines.{rows_of, grouped}
use Rattle.layouts.specs.LayoutsRow.{positioned}
use Rattle.layouts_strips.specs.Spots.{SpotSmall}
use Rattle.layouts_strips.proofs.CodeSpots.{spotted}
use Rattle.layouts_strips.proofs.lines.Lines.positions_row.Given as goal

-- `positions_row` looks at the lines in turn: those from c on, from the spot there, decide as all of them do.
abbrev pub invariant-loop-c : goal.invariant-loop-c
invariant-loop-c l = (positioned l.k (rows_of l.self.layouts.now) (lines_of (job_of l.self.job.now) (grouped (rows_of l.self.layouts.now))) ≡ spotted (job_of l.self.job.now) (l.k + l.c) l.spot (drop l.c (rows_of l.self.layouts.now))) × (SpotSmall l.c l.spot)
