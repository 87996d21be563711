use mathlib.Core.Path.{◌∙◌}
use Rattle.fold_text_ending.proofs.TextRow.{fold-text-row}
use Rattle.fold_text_ending.proofs.line_row.fold_row.Goals as goal

-- `fold_row` says the line row of a text that ends.
pub returns : goal.returns
returns c =
    let t = c.args.text in
    let x = c.text_row in record { result_value = λ r kept. x.ensures.result_value ∙ fold-text-row r t _ c.may_end.ensures kept; line_named = x.ensures.line_named }
