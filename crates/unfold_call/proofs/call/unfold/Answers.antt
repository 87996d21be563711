use mathlib.Core.Path.{sym, ap, ◌∙◌}
use Rattle.job.specs.Refused.{row_verdict}
use Rattle.unfold_call.proofs.CodeEnding.{before-refuses, before-passed, before-pass}
use Rattle.unfold_call.proofs.call.unfold.Goals as goal

-- `unfold` checks the job, the two lengths and the lent buffers, and then lists, tests and unfolds.
pub unfold_into-requires : goal.unfold_into-requires
unfold_into-requires c =
    let a = c.args in
    let passed = sym c.unfold_checks.ensures ∙ ap row_verdict c.in-Ok.is in
    let ns = a.counts.now in
    let r = before-passed a.job.now a.first a.second ns a.plates.now a.cuts.now a.placements.now a.offcuts.now passed in
    record { job_value = r.0; plates_size_in_bounds = r.1 }

pub returns-in-Err : goal.returns-in-Err
returns-in-Err c =
    let a = c.args in
    let refused = sym c.unfold_checks.ensures ∙ ap row_verdict c.in-Err.is in
    let ns = a.counts.now in
    let at = before-refuses a.job.now a.first a.second ns a.plates.now a.cuts.now a.placements.now a.offcuts.now in
    let ends = at c.in-Err.refused refused in
    let r = ends c.end.ensures c.end-in-Err.ensures c.end-in-Err-2.ensures c.end-in-Err-3.ensures in
    record {
      result_value = r.0;
      plates_after = r.1;
      cuts_after = r.2;
      placements_after = r.3;
      offcuts_after = r.4;
      on_success = r.5;
    }

pub returns-in-Ok : goal.returns-in-Ok
returns-in-Ok c =
    let a = c.args in
    let x = c.unfold_into in
    let passed = sym c.unfold_checks.ensures ∙ ap row_verdict c.in-Ok.is in
    let ns = a.counts.now in
    let os = a.offcuts.now in
    let pass = before-pass a.job.now a.first a.second ns a.plates.now a.cuts.now a.placements.now os passed in
    let r = pass x.result _ _ _ _ x.ensures in
    record {
      result_value = r.0;
      plates_after = r.1;
      cuts_after = r.2;
      placements_after = r.3;
      offcuts_after = r.4;
      on_success = r.5;
    }
