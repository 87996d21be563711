use borrow.Author.Tests.{eq-eqb, ne_eqb}
use Rattle.job.specs.Job.{turned}
use Rattle.job.proofs.position.turned.Goals as goal

-- `turned` has the item's sides changed, and asks for leave and for sides that differ.
pub returns-then-item-eq1 : goal.returns-then-item-eq1
unfolding turned
returns-then-item-eq1 c = simp (eq-eqb _ _ c.if-item-eq1.true)

pub returns-else-item-eq1 : goal.returns-else-item-eq1
unfolding turned
returns-else-item-eq1 c = simp (ne_eqb _ _ c.if-item-eq1.false)
