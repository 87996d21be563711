-- The order of folding, by computation.
use mathlib.Core.Path.{refl}
use Rattle.cases.specs.FoldOrder.{FoldOrder, job_lines_h, job_lines_i, job_lines_k}
use Rattle.cases.proofs.Opened.{computed}

pub fold_order : FoldOrder
unfolding computed job_lines_h job_lines_i job_lines_k
fold_order =
    record {
      high-before-wide = refl;
      leftmost-to-front = refl;
      single-to-front = refl;
      equally-wide = refl;
    }
