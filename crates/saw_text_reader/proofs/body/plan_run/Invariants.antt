use Prim.Native.Nat.{◌-◌}
use lib.ListN.{length}
use Rattle.saw_text_reader.specs.BodyRun.{Ran}
use Rattle.saw_text_reader.proofs.body.plan_run.Given as goal

-- `plan_run` goes line by line: each line that it takes is one that the definition's reader takes.
abbrev pub invariant-loop-at : goal.invariant-loop-at
invariant-loop-at l = Ran l.part l.from l.job l.plates l.cuts l.k l.initial.plan l.before l.initial.counts (record { plan = l.plan; lines = l.lines; at = l.at }) l.counts

abbrev pub decreases-loop-at : goal.decreases-loop-at
decreases-loop-at l = length l.part - l.at
