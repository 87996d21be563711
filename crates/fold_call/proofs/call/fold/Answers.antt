use mathlib.Core.Path.{sym, ap, ◌∙◌}
use Rattle.job.specs.Refused.{row_verdict}
use Rattle.fold_call.proofs.CodeEnding.{before-refuses, before-passed, before-pass}
use Rattle.fold_call.proofs.call.fold.Goals as goal

-- `fold` checks the words, the job and the lent buffers, and then lists, checks the layouts and folds.
pub fold_listed-requires : goal.fold_listed-requires
fold_listed-requires c =
    let a = c.args in
    let p = before-passed a.job.now a.layouts.now a.plates.now a.cuts.now a.counts.now (sym c.fold_checks.ensures ∙ ap row_verdict c.in-Ok.is) in
    record { job_value = p.0; plates_size_in_bounds = p.1 }

pub returns-in-Err : goal.returns-in-Err
returns-in-Err c =
    let a = c.args in
    let p = before-refuses a.job.now a.layouts.now a.plates.now a.cuts.now a.counts.now c.in-Err.refused (sym c.fold_checks.ensures ∙ ap row_verdict c.in-Err.is) c.end.ensures c.end-in-Err.ensures c.end-in-Err-2.ensures in
    record { result_value = p.0; plates_after = p.1.0; cuts_after = p.1.1.0; counts_after = p.1.1.1.0; on_success = p.1.1.1.1 }

pub returns-in-Ok : goal.returns-in-Ok
returns-in-Ok c =
    let a = c.args in
    let p = before-pass a.job.now a.layouts.now a.plates.now a.cuts.now a.counts.now (sym c.fold_checks.ensures ∙ ap row_verdict c.in-Ok.is) c.fold_listed.result _ _ _ c.fold_listed.ensures in
    record { result_value = p.0; plates_after = p.1.0; cuts_after = p.1.1.0; counts_after = p.1.1.1.0; on_success = p.1.1.1.1 }
