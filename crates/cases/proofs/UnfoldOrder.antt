-- The order of unfolding, by computation.
use mathlib.Core.Path.{refl}
use Rattle.cases.specs.Jobs.{job_a}
use Rattle.cases.specs.UnfoldOrder.{UnfoldOrder, two_stacks_lines, left_over_lines}
use Rattle.cases.proofs.Opened.{computed}

pub unfold_order : UnfoldOrder
unfolding computed job_a two_stacks_lines left_over_lines
unfold_order =
    record {
      highest-stage = refl;
      all-boards = refl;
      boards-of-sizes = refl;
    }
