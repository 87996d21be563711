use native.Mathlib.Omega.{arith}
use mathlib.Core.Path.{ap, ◌∙◌}
use Rattle.std.proofs.lemmas.Result.{err_from_is_err_and}
use Rattle.texts.specs.SawText.{counted_in}
use Rattle.texts_reading.specs.Judged.{number_said}
use Rattle.texts_reading.proofs.CodeJobLines.{said-passed}
use Rattle.saw_text_body.proofs.BodyRows.{plan-judged, more-types}
use Rattle.saw_text_lines.proofs.TakeLaws.{plan-refused, plan-taken}
use Rattle.saw_text_lines.proofs.held.take_plan.Goals as goal

-- `take_plan` judges a line 3 and counts it.
pub returns-in_err-plan_line : goal.returns-in_err-plan_line
returns-in_err-plan_line c s lines buffer prices e not4 here words kept =
    let p = err_from_is_err_and c.from_residual.result c.from_residual.ensures.1 in
    rw (p.1, p.2)
    (plan-refused s lines _ _ _ buffer _ _ _ prices _ e not4 words c.plan_line.ensures kept _ (ap number_said c.in_err-plan_line.was))

pub plan_numbers-here-requires : goal.plan_numbers-here-requires
plan_numbers-here-requires c =
    more-types c.requires.words_of_head_in_bounds.1 (plan-judged _ c.args.numbers.now (said-passed c.in_ok-plan_line.was) c.args.job.now c.plan_line.ensures)

pub count_line-plan-requires : goal.count_line-plan-requires
count_line-plan-requires c =
    let known = plan-judged _ c.args.numbers.now (said-passed c.in_ok-plan_line.was) c.args.job.now c.plan_line.ensures in
    record {
      line_nonzero = c.requires.line_nonzero;
      plate_le_max_residuals = omega (arith, known.plate, c.plan_numbers-here.ensures.plate-is);
    }

pub returns : goal.returns
returns c s lines buffer prices e not4 here words kept =
    let a = c.args in
    let judged = c.plan_line.ensures in
    let z = said-passed c.in_ok-plan_line.was in
    plan-taken s lines _ _ _ buffer _ _ _ prices _ e not4 words judged kept _ _ z (plan-judged _ a.numbers.now z a.job.now judged).kind
    (λ ws rs model at held. c.count_line-plan.ensures ws rs (counted_in a.numbers.now) model (at ∙ here) c.plan_numbers-here.ensures held)
