use Prim.Native.Nat.{◌*◌}
use native.Mathlib.Omega.{arith}
use lib.ListN.{take}
use Rattle.job.specs.Job.{job_of}
use Rattle.layouts.specs.Lines.{rows_of}
use Rattle.layouts.specs.LayoutsRow.{layouts_row}
use Rattle.texts.specs.JobLines.{body_line}
use Rattle.fold_text_ending.proofs.JobPart.{lines-kept, lines-many, by-words}
use Rattle.job.specs.Sizes.{words_of_placement}
use Rattle.fold_text_ending.proofs.ending.answer_listed.Goals as goal

-- `answer_listed` answers 10, or by the words of the lines.
pub returns-then-rows-gt-MOST_ROWS : goal.returns-then-rows-gt-MOST_ROWS
returns-then-rows-gt-MOST_ROWS c ls size lines held =
    let a = c.args in
    let ws = a.job.now in
    c.refuse.ensures (layouts_row (body_line ws) (job_of ws) (rows_of ls)) ws ls
    (rw c.number.ensures (lines-many ws ls a.layouts.now a.rows size (body_line ws) (job_of ws) lines c.if-rows-gt-MOST_ROWS.true))
    (omega arith)

pub returns : goal.returns
returns c ls size lines held =
    let a = c.args in
    let ws = a.job.now in
    let x = c.answer_rows in
    by-words (body_line ws) (job_of ws) ws (take (words_of_placement * a.rows) a.layouts.now) ls
    (lines-kept ws ls a.layouts.now a.rows size (omega arith) held)
    x.ensures
    lines
