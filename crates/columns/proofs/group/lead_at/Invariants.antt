use lib.ListN.{take, drop}
use Rattle.columns.specs.Columns.{Columns}
use Rattle.columns.proofs.group.lead_at.Given as goal

-- v is the value of the i columns passed
abbrev pub invariant-loop-i : goal.invariant-loop-i
invariant-loop-i l = Columns (take l.i (drop l.at l.s)) l.i l.v
