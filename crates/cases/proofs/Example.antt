-- The 6 by 6 example, by computation.
use mathlib.Core.Path.{refl}
use Rattle.cases.specs.Calls.{plates, cuts, counts, placements, offcuts, listing, plan, unfolding', succeeds}
use Rattle.cases.specs.Jobs.{job6, plan6}
use Rattle.cases.specs.Example.{plates6, cuts6, Example}
use Rattle.cases.proofs.Opened.{computed}

pub example : Example
unfolding computed plates cuts counts placements offcuts listing plan unfolding' succeeds job6 plan6 plates6 cuts6
example = record { listed = refl; accepted = refl; unfolded = refl; spent = refl }
