use native.Mathlib.Omega.{arith}
use mathlib.Core.Path.{sym, ap, ◌∙◌}
use Rattle.job.specs.Job.{job_of}
use Rattle.job.specs.Refused.{row_verdict}
use Rattle.job.proofs.CodeAdmission.{passed_length, passed-few-sizes, passed-few}
use Rattle.layouts.specs.Lines.{rows_of}
use Rattle.layouts.specs.LayoutsRow.{layouts_row}
use Rattle.fold_call.proofs.Passed.{lines-passed}
use Rattle.texts.specs.JobLines.{body_line}
use Rattle.texts.proofs.Places.{few-types, near-place}
use Rattle.texts.proofs.LayoutPlaces.{near-row}
use Rattle.texts.proofs.FoldRows.{layouts-any}
use Rattle.fold_text_ending.proofs.Answers.{accepted-answer}
use Rattle.fold_text_ending.proofs.JobPart.{first-line}
use Rattle.fold_text_ending.proofs.fold_part.answer_rows.Goals as goal

-- `answer_rows` answers by the layouts row and the fold.
pub head_of-head-requires : goal.head_of-head-requires
head_of-head-requires c = omega (arith, passed_length c.args.job.now c.requires.listed_lent.words)

pub layouts_row-requires : goal.layouts_row-requires
layouts_row-requires c =
    let ws = c.args.job.now in record { job_value = (c.requires.listed_lent.words, lines-passed ws c.args.layouts.now (sym c.layout_checks.ensures ∙ ap row_verdict c.in-Ok.is)); k_bound = omega (arith, passed-few-sizes ws c.requires.listed_lent.words, passed-few ws c.requires.listed_lent.words, c.head_of-head.ensures.of-sizes, c.head_of-head.ensures.of_types) }

pub write_fold-requires : goal.write_fold-requires
write_fold-requires c =
    let ws = c.args.job.now in
    let ls = c.args.layouts.now in
    let row = sym c.layouts_row.ensures ∙ ap row_verdict c.in-Ok-layouts_row.is in record { listed_lent = c.requires.listed_lent; layouts_value = (lines-passed ws ls (sym c.layout_checks.ensures ∙ ap row_verdict c.in-Ok.is), layouts-any _ 1 (job_of ws) (rows_of ls) row); counts_size_in_bounds = c.requires.counts_size_in_bounds }

pub returns-in-Err-layouts_row : goal.returns-in-Err-layouts_row
returns-in-Err-layouts_row c h =
    let ws = c.args.job.now in
    let ls = c.args.layouts.now in
    let few = few-types ws c.requires.listed_lent.words in
    let e = sym (first-line ws ls c.head_of-head.ensures.of-sizes c.head_of-head.ensures.of_types) ∙ sym c.layouts_row.ensures ∙ ap row_verdict c.in-Err-layouts_row.is in
    c.refuse-in-Err-layouts_row.ensures (layouts_row (body_line ws) (job_of ws) (rows_of ls)) ws ls (rw c.number-in-Err-layouts_row.ensures e)
    (near-place (near-row (body_line ws) (job_of ws) (rows_of ls) (omega arith) (omega (arith, few.1, few.2)) few.0) _ _ e)

pub returns-in-Ok-layouts_row : goal.returns-in-Ok-layouts_row
returns-in-Ok-layouts_row c h =
    let ws = c.args.job.now in
    let ls = c.args.layouts.now in
    let x = c.write_fold in
    accepted-answer ws ls
    (sym (first-line ws ls c.head_of-head.ensures.of-sizes c.head_of-head.ensures.of_types) ∙ sym c.layouts_row.ensures ∙ ap row_verdict c.in-Ok-layouts_row.is)
    x.ensures.wrote
    c.requires.listed_lent
    x.ensures.counts_after
