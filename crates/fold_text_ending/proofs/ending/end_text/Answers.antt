use native.Mathlib.Omega.{arith}
use mathlib.Core.Path.{refl, sym, ap, ◌∙◌}
use lib.ListN.{length}
use Rattle.job.specs.Verdict.{◌then◌}
use Rattle.job.proofs.Tests.{not-both}
use Rattle.job.proofs.Verdicts.{then-passed, then-refused}
use Rattle.texts.specs.Reader.{text_row}
use Rattle.texts.specs.FoldText.{fold_grammar, fold_rows}
use Rattle.texts_reading.specs.TextEnd.{text_verdict}
use Rattle.texts_reading.proofs.CodeEnd.{line-named}
use Rattle.fold_text_ending.proofs.Answers.{answered-again}
use Rattle.fold_text_ending.proofs.JobPart.{fold-rows}
use Rattle.fold_text_ending.proofs.Room.{room-sizes}
use Rattle.fold_text_ending.proofs.ending.end_text.Goals as goal

-- `end_text` answers by the line row, then by the rows after it.
pub refuse-requires : goal.refuse-requires
refuse-requires c = (room-sizes (length c.args.job.now) (length c.args.layouts.now) (length c.args.plates.now) (length c.args.cuts.now) (length c.args.counts.now) (length c.args.out.now) (sym c.has_room.ensures ∙ c.if-has_room.true)).for-out

pub answer_job-requires : goal.answer_job-requires
answer_job-requires c =
    let z = room-sizes (length c.args.job.now) (length c.args.layouts.now) (length c.args.plates.now) (length c.args.cuts.now) (length c.args.counts.now) (length c.args.out.now) (sym c.has_room.ensures ∙ c.if-has_room.true) in record { longest_job_in_bounds = (z.for-job, z.for-layouts); plates_size_in_bounds = (z.for-plates, z.for-cuts); counts_size_in_bounds = (z.for-counts, z.for-out) }

pub returns-in-Err : goal.returns-in-Err
returns-in-Err c =
    let a = c.args in
    let row = c.fold_row in
    let is = c.in-Err.is in record {
      unchanged = (λ h. absurd (not-both (sym c.has_room.ensures ∙ c.if-has_room.true) h));
      answered = (λ h r ends.
          c.refuse.ensures (text_row fold_grammar r then fold_rows r.state) r.state.job r.state.layouts
          (then-refused (text_row fold_grammar r) (fold_rows r.state) _ _ (sym (row.ensures.result_value r ends.stands) ∙ ap text_verdict is))
          (omega (arith, line-named a.text.lines is row.ensures.line_named, ends.stands.lines, ends.few)));
    }

pub returns-in-Ok : goal.returns-in-Ok
returns-in-Ok c =
    let row = c.fold_row in record {
      unchanged = (λ h. absurd (not-both (sym c.has_room.ensures ∙ c.if-has_room.true) h));
      answered = (λ h r ends.
          let passed = sym (row.ensures.result_value r ends.stands) ∙ ap text_verdict c.in-Ok.is in
          answered-again refl refl
          (fold-rows r.state ∙ sym (then-passed (text_row fold_grammar r) (fold_rows r.state) passed))
          (c.answer_job.ensures r.state.job r.state.layouts (ends.whole passed)));
    }
