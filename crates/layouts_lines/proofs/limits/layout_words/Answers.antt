use mathlib.Core.Path.{◌≡◌, sym, ap, ◌∙◌}
use mathlib.Core.List.{List}
use Prim.Native.Nat.{ℕ, ◌/◌}
use native.Mathlib.Omega.{arith}
use lib.ListN.{length, get_or}
use Rattle.std.proofs.lemmas.Result.{err_from_is_err_and}
use Rattle.job.specs.declared.head.Head.{Head}
use Rattle.job.specs.Sizes.{words_of_placement}
use Rattle.job.specs.Verdict.{pass}
use Rattle.job.specs.Refused.{row_verdict}
use Rattle.job.specs.Head.{HeadOf}
use Rattle.job.specs.Job.{job_of, job_words}
use Rattle.job.proofs.CodeAdmission.{passed_length}
use Rattle.job.proofs.CodeEnds.{then-on}
use Rattle.job.proofs.Verdicts.{then-refused}
use Rattle.job.proofs.CodeItems.{items-length}
use Rattle.job.proofs.SizeWords.{sizes-length}
use Rattle.layouts_lines.proofs.CodeLimits.{whole-lines, cut_short, by-limits, limits-typed}
use Rattle.layouts_lines.proofs.limits.layout_words.Goals as goal

-- `layout_words` looks for a line cut short, then at the limits of the lines, and then at their positions.
-- the head has the number of the job's item types
types : (ws : List ℕ) {head : Head} → job_words ws ≡ pass → HeadOf ws head → length (job_of ws).items ≡ head.types.0
types ws j h = rw h.of_types (items-length ws (get_or ws 3 0) (passed_length ws j))

-- and the number of its sizes
sizes : (ws : List ℕ) {head : Head} → job_words ws ≡ pass → HeadOf ws head → length (job_of ws).sizes ≡ head.sizes.0
sizes ws j h = rw h.of-sizes (sizes-length ws (omega (arith, passed_length ws j)))

pub head_of-head-requires : goal.head_of-head-requires
head_of-head-requires c = omega (arith, passed_length _ c.requires)

pub returns-then-layouts-ne0 : goal.returns-then-layouts-ne0
returns-then-layouts-ne0 c = rw c.at.ensures (cut_short (job_of c.args.job.now) c.args.layouts.now c.if-layouts-ne0.true)

pub permitted_row-requires : goal.permitted_row-requires
permitted_row-requires c =
    let job = c.args.job.now in
    let layouts = c.args.layouts.now in
    let whole = whole-lines layouts c.if-layouts-ne0.false in
    let says = c.lines_right.ensures (job_of job) (sizes job c.requires c.head_of-head.ensures) (types job c.requires c.head_of-head.ensures) in record { job_value = c.requires; layouts_len = (whole, limits-typed (job_of job) layouts (length layouts / words_of_placement) says (ap row_verdict c.in_ok-lines_right.was) whole) }

pub returns-in_err-lines_right : goal.returns-in_err-lines_right
returns-in_err-lines_right c =
    let job = c.args.job.now in
    let says = c.lines_right.ensures (job_of job) (sizes job c.requires c.head_of-head.ensures) (types job c.requires c.head_of-head.ensures) in
    let p = err_from_is_err_and c.from_residual.result c.from_residual.ensures.1 in
    rw (p.1, p.2)
    (by-limits (job_of job) c.args.layouts.now c.if-layouts-ne0.false
    (sym (then-refused _ _ _ _ (sym says ∙ ap row_verdict c.in_err-lines_right.was))))

pub returns : goal.returns
returns c =
    let job = c.args.job.now in
    let says = c.lines_right.ensures (job_of job) (sizes job c.requires c.head_of-head.ensures) (types job c.requires c.head_of-head.ensures) in
    by-limits (job_of job) c.args.layouts.now c.if-layouts-ne0.false
    (then-on (sym says ∙ ap row_verdict c.in_ok-lines_right.was) c.permitted_row.ensures)
