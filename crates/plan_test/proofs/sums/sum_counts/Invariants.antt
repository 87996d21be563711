use lib.ListN.{take}
use Rattle.listing.specs.CutRead.{cuts_read}
use Rattle.plan_test.specs.Sums.{Sums}
use Rattle.plan_test.proofs.sums.sum_counts.Given as goal

-- `sum_counts` adds up the counts one cut after another: after c turns the sums are those of the first c cuts.
abbrev pub invariant-loop-c : goal.invariant-loop-c
invariant-loop-c l = Sums (take l.c (cuts_read l.c-end l.cuts)) l.counts l.items l.on l.left
