use mathlib.Core.Path.{◌≡◌}
use lib.ListN.{length}
use Rattle.columns.proofs.GroupLaws.{Writing}
use Rattle.columns.proofs.group.put_lead.Given as goal

-- the columns from the i-th on are written
abbrev pub invariant-loop-i : goal.invariant-loop-i
invariant-loop-i l = (length l.out ≡ length l.initial.out) × Writing l.initial.out l.out l.at l.n l.i l.rest
