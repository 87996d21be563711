use native.Mathlib.Omega.{arith}
use Rattle.job.proofs.CodeEnds.{given-pass, refused-refuse}
use mathlib.Core.Path.{refl, sym, ap, ◌∙◌}
use Rattle.layouts.specs.Demand3.{J, L}
use Rattle.plan_test.specs.PlanSays.{says_of as plan_says}
use Rattle.price_test.specs.PriceSays.{says_of as price_says}
use Rattle.texts.specs.JobLines.{body_line}
use Rattle.texts.specs.SawText.{saw_of, price_lines_row}
use Rattle.saw_text_rows.specs.Tail.{lines_row}
use Rattle.texts.proofs.Places.{near-place, near-prices}
use Rattle.saw_text_rows.proofs.PlanPart.{counts_whole, tested-accepted, fits_refused}
use Rattle.saw_text_ending.proofs.Answers.{refused-answer, accepted-answer, plan-refused, prices-refused, rows_pass, placements-are, bytes-are}
use Rattle.saw_text_ending.proofs.ending.answer_listed.Goals as goal

pub new-requires : goal.new-requires
new-requires c = c.requires.listed_lent.words

pub invariant_of-listed : goal.invariant_of-listed
invariant_of-listed c =
    let head = c.new.ensures.head in
    record { lent = rw (c.new.ensures.words_same, head.of-sizes, head.of_types) c.requires.listed_lent.lent }

pub plan_row_of_text-requires : goal.plan_row_of_text-requires
plan_row_of_text-requires c = omega (arith, c.requires.listed_lent.lent.few-cuts, c.requires.ready.for-counts)

pub prices_of_text-requires : goal.prices_of_text-requires
prices_of_text-requires c = (rw c.new.ensures.words_same c.requires.listed_lent.words, c.requires.ready.for-prices)

pub returns-in-Err : goal.returns-in-Err
returns-in-Err c place rs o pk pe =
    let ws = c.args.job.now in
    let told = rw c.new.ensures.words_same at (c.plan_row_of_text.ensures (L ws) (c.requires.listed_lent.sizes ∙ sym c.new.ensures.head.of-sizes) c.requires.listed_lent.types c.requires.listed_lent.listed) in
    let is = c.in-Err.is in
    refused-answer (saw_of place ws rs o)
    (plan-refused place ws rs o (sym (ap plan_says is) ∙ told.says (body_line ws) rs pk))
    (rw c.number.ensures at (c.refuse.ensures (fits_refused is (told.fits (body_line ws) rs pk))))
    c.requires.ready.cleared
    refl

pub returns-in-Err-prices_of_text : goal.returns-in-Err-prices_of_text
returns-in-Err-prices_of_text c place rs o pk pe =
    let ws = c.args.job.now in
    let sizes = c.requires.listed_lent.sizes ∙ sym c.new.ensures.head.of-sizes in
    let told = rw c.new.ensures.words_same at (c.plan_row_of_text.ensures (L ws) sizes c.requires.listed_lent.types c.requires.listed_lent.listed) in
    let plan = given-pass (lines_row (J ws) (L ws) (body_line ws) rs) _ (sym (ap plan_says c.in-Ok.is) ∙ told.says (body_line ws) rs pk) in
    let e = sym (ap price_says c.in-Err-prices_of_text.is) ∙ (rw c.new.ensures.words_same at (c.prices_of_text.ensures (L ws) o sizes c.requires.listed_lent.types c.requires.listed_lent.listed pe)) in
    refused-answer (saw_of place ws rs o)
    (prices-refused place ws rs o plan e)
    (rw c.number-in-Err-prices_of_text.ensures at (c.refuse-in-Err-prices_of_text.ensures (near-place (near-prices (J ws) (L ws) o c.requires.listed_lent.model.lent.model.few-cuts) _ _ (refused-refuse (price_lines_row (J ws) (L ws) o) _ e))))
    c.requires.ready.cleared
    refl

pub returns-in-Ok-prices_of_text : goal.returns-in-Ok-prices_of_text
returns-in-Ok-prices_of_text c place rs o pk pe =
    let ws = c.args.job.now in
    let counts = c.args.counts.now in
    let sizes = c.requires.listed_lent.sizes ∙ sym c.new.ensures.head.of-sizes in
    let told = rw c.new.ensures.words_same at (c.plan_row_of_text.ensures (L ws) sizes c.requires.listed_lent.types c.requires.listed_lent.listed) in
    let is = c.in-Ok.is in
    let plan = given-pass (lines_row (J ws) (L ws) (body_line ws) rs) _ (sym (ap plan_says is) ∙ told.says (body_line ws) rs pk) in
    let e = sym (ap price_says c.in-Ok-prices_of_text.is) ∙ (rw c.new.ensures.words_same at (c.prices_of_text.ensures (L ws) o sizes c.requires.listed_lent.types c.requires.listed_lent.listed pe)) in
    let kept = counts_whole (J ws) (L ws) (body_line ws) rs pk plan in
    let y = c.write_plan in
    accepted-answer (saw_of place ws rs o)
    (rows_pass place ws rs o plan _ _ e)
    y.ensures.wrote
    (bytes-are place ws rs o plan _ _ e counts kept (tested-accepted (L ws) (J ws) counts is told.tested).1.1)
    (rw (placements-are place ws rs o plan _ _ e counts kept) at y.ensures.holds_2)
    y.auto.placements
