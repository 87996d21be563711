use mathlib.Core.Logic.{⊎_elim}
use native.Mathlib.Omega.{arith}
use Rattle.columns.proofs.GroupLaws.{mark-cases}
use Rattle.columns.proofs.group.mark.Goals as goal

-- `columns::group::mark` meets its contract: the two cases of `mark`.
pub returns-then-n-eq0 : goal.returns-then-n-eq0
returns-then-n-eq0 c = ⊎_elim (λ w. omega arith) (λ w. omega arith) (mark-cases c.args.n)

pub returns : goal.returns
returns c = ⊎_elim (λ w. omega arith) (λ w. omega arith) (mark-cases c.args.n)
