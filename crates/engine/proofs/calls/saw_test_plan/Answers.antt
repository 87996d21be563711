use mathlib.Core.Path.{sym, ap, ◌∙◌}
use Prim.Native.Nat.{ℕ}
use Rattle.job.specs.Buffers.{refused}
use Rattle.plan_test.specs.PlanSays.{says_of}
use Rattle.answers.specs.AnswerWords.{answer_words}
use Rattle.engine.proofs.Promises.{plan-exactly}
use Rattle.engine.proofs.calls.saw_test_plan.Goals as goal

-- `saw_test_plan` hands on the answer of the plan test.
pub returns-in-Ok : goal.returns-in-Ok
returns-in-Ok c =
    let call = c.test_plan.ensures in
    let args = c.args in
    let words = c.accept.ensures ∙ ap answer_words (sym (ap says_of c.in-Ok.is) ∙ call.result_value) in
    record {
      answer_after = words;
      plates_after = call.plates_after;
      cuts_after = call.cuts_after;
      variant = plan-exactly args.job.now args.counts.now args.plates.now args.cuts.now _ words;
    }

pub returns-in-Err : goal.returns-in-Err
returns-in-Err c =
    let call = c.test_plan.ensures in
    let args = c.args in
    let number = ap (λ (n : ℕ). answer_words (refused n c.in-Err.refused.place)) c.number.ensures in
    let words = c.refuse.ensures ∙ number ∙ ap answer_words (sym (ap says_of c.in-Err.is) ∙ call.result_value) in
    record {
      answer_after = words;
      plates_after = call.plates_after;
      cuts_after = call.cuts_after;
      variant = plan-exactly args.job.now args.counts.now args.plates.now args.cuts.now _ words;
    }
