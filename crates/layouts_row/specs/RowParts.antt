-- Document 01, "Where each number is given": the part of the layouts row that the strips decide.
use Rattle.std.specs.Prelude.{ℕ, List}
use Rattle.job.specs.Verdict.{Verdict, ◌then◌}
use Rattle.job.specs.Job.{Job}
use Rattle.layouts.specs.Placement.{Placement, lines_of}
use Rattle.layouts.specs.Lines.{grouped}
use Rattle.layouts.specs.LayoutsRow.{laid_set, lowest_strip, breaks_stage, past_board, positioned}

-- 16, 17 and 18, over lines that are numbered from k
abbrev pub strips_row : ℕ → Job → List Placement → Verdict
strips_row k job rs =
    lowest_strip 16 (breaks_stage job) (laid_set job k (grouped rs))
    then lowest_strip 17 (past_board job) (laid_set job k (grouped rs))
    then positioned k rs (lines_of job (grouped rs))
