use native.Mathlib.Omega.{arith}
use mathlib.Core.Path.{sym}
use lib.Seq.{length-take-le}
use Rattle.saw_text_lines.proofs.TakeLaws.{part-head}
use Rattle.texts.specs.JobLines.{board_sizes, types_of}
use Rattle.saw_text_reader.specs.BodyRun.{InBody, WholeWords}
use Rattle.saw_text_reader.proofs.BodySteps.{read-on}
use Rattle.saw_text_reader.proofs.saw.SawReader.body.Goals as goal

pub slice_bounds-plan_run-end : goal.slice_bounds-plan_run-end
slice_bounds-plan_run-end c =
    let w : WholeWords c.args.job.now c.in-Some-Some.words = c.in-Some-Some.ensures' in
    sym (length-take-le _ c.args.job.now (omega (arith, w.size, c.requires.longest_job_in_bounds.0)))

pub plan_run-run-requires : goal.plan_run-run-requires
plan_run-run-requires c =
    let job = c.args.job.now in
    let listed : InBody c.args.self c.in-Some-Some.k = c.in-Some-Some.ensures in
    let w : WholeWords job c.in-Some-Some.words = c.in-Some-Some.ensures' in
    let part = part-head (board_sizes job) (types_of job) job (omega (arith, c.requires.longest_job_in_bounds.0)) in
    let head = rw (← w.size) at part in
    record {
      from_in_bounds = (c.requires.from_in_bounds.0, c.requires.from_in_bounds.1.few);
      words_of_head_in_bounds = (head.0, omega (arith, head.1, w.few-types));
      k_le_max_cuts = (listed.few-cuts, c.requires.longest_job_in_bounds.1);
    }

pub returns : goal.returns
returns c prices =
    let run = c.plan_run-run in
    rw c.in_body.ensures (read-on _ _ c.args.self c.args.job.now _ _ _ _ _ run.result _ c.in-Some-Some.ensures c.in-Some-Some.ensures' run.ensures prices)
