use native.Mathlib.Omega.{arith}
use mathlib.Core.Path.{◌≡◌, ap, ◌∙◌}
use lib.ListN.{length}
use Rattle.listing.proofs.CodeCuts.{length-cuts_from}
use Rattle.texts.specs.SawText.{named_cut}
use Rattle.saw_text_body.proofs.PlanSteps.{shown-other}
use Rattle.saw_text_body.proofs.plan_lines.PlanLines.more.Goals as goal

-- `more` finds the cut that the line names, compares the plate that it shows, and counts the cut.
pub returns : goal.returns
unfolding named_cut
returns c job l first rs r plates e rising here line kept =
    let a = c.args in
    let found = c.cut_named-c in
    let k : length l.cuts ≡ a.k.0 = ap length e ∙ length-cuts_from a.k.0 0 a.cuts.now in
    c.named.ensures l first rs r here
    (rw (line.plate-is, line.lies) (found.ensures.result_value l e rising))
    (omega (arith, k, found.ensures.result_le_k))
    (shown-other job l a.here r plates line c.shows_other-other.ensures)
    line.count-is
    kept
