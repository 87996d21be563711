use native.Mathlib.Omega.{arith}
use mathlib.Core.Path.{refl, sym, ap, ◌∙◌}
use lib.ListN.{length}
use Rattle.job.proofs.Verdicts.{then-passed, then-refused}
use Rattle.listing.proofs.CodeHolds.{cleared}
use Rattle.texts_reading.specs.TextEnd.{text_verdict}
use Rattle.texts.specs.Reader.{text_row}
use Rattle.texts.specs.SawText.{saw_grammar, saw_rows}
use Rattle.texts_reading.proofs.CodeEnd.{line-named}
use Rattle.saw_text_ending.proofs.Answers.{refused-answer, answered-again}
use Rattle.saw_text_ending.proofs.KeptEnds.{row-says}
use Rattle.saw_text_ending.proofs.ending.end_text.Goals as goal

-- `end_text` answers by the line row, then by the rows after it.
pub answer_job-requires : goal.answer_job-requires
answer_job-requires c =
    let r = c.requires.text_ends.0 in
    let ends = c.requires.text_ends.1 in
    let x = c.clear in record {
      room = ends.room;
      whole_kept = (r.state, ends.whole (sym (row-says r c.args.text _ ends.stands c.may_end.ensures c.text_row.ensures.result_value) ∙ ap text_verdict c.in-Ok.is));
      ready = record {
        for-counts = ends.room.for-counts;
        for-prices = ends.room.for-prices;
        cleared = cleared (length c.args.placements.now) x.ensures;
        for-placements = omega (arith, c.requires.placements_size_in_bounds.0, x.auto.buffer);
        for-out = c.requires.placements_size_in_bounds.1;
      };
    }

pub returns-in-Err : goal.returns-in-Err
returns-in-Err c r ends =
    let a = c.args in
    let x = c.clear in
    let row = c.text_row in
    let is = c.in-Err.is in
    answered-again r.state x.auto.buffer
    (sym (then-refused (text_row saw_grammar r) (saw_rows r.state) _ _ (sym (row-says r a.text _ ends.stands c.may_end.ensures row.ensures.result_value) ∙ ap text_verdict is)))
    (refused-answer r.state refl
    (c.refuse.ensures (omega (arith, line-named a.text.lines is row.ensures.line_named, ends.stands.lines, ends.few)))
    (cleared (length a.placements.now) x.ensures)
    refl)

pub returns-in-Ok : goal.returns-in-Ok
returns-in-Ok c r ends =
    let x = c.clear in
    let passed = sym (row-says r _ _ ends.stands c.may_end.ensures c.text_row.ensures.result_value) ∙ ap text_verdict c.in-Ok.is in
    answered-again r.state x.auto.buffer
    (sym (then-passed (text_row saw_grammar r) (saw_rows r.state) passed))
    (c.answer_job.ensures r.state (ends.whole passed))
