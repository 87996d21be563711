use native.Mathlib.Omega.{arith}
use mathlib.Core.Path.{sym, ap, ◌∙◌}
use Rattle.listing_find.specs.Found.{cut_found, Among}
use Rattle.saw_text_body.proofs.plan_lines.cut_named.Goals as goal

-- `cut_named` hands on the number that the search finds.
pub returns-in_default : goal.returns-in_default
returns-in_default c = record { result_value = λ l e r. sym (ap cut_found c.in_default.is) ∙ c.find_cut_near.ensures.result_value l e r; result_le_k = omega arith }

pub returns : goal.returns
returns c =
    let found = c.in-Some.is in
    let search = c.find_cut_near in
    let among : Among c.args.k.0 search.result = search.ensures.among in record { result_value = λ l e r. sym (ap cut_found found) ∙ search.ensures.result_value l e r; result_le_k = (rw found at among).1 }
