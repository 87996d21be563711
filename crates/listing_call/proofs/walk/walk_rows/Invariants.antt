use mathlib.Core.Path.{◌≡◌}
use mathlib.Core.Bool.{true}
use Prim.Native.Nat.{◌+◌, ◌-◌, ◌≤◌}
use Rattle.job.specs.Sizes.{max_plates}
use Rattle.job.specs.Job.{job_of, permitted}
use Rattle.listing_call.specs.Steps.{Stands, rest_walk, rest_row}
use Rattle.listing_call.proofs.Walking.{Lengths}
use Rattle.listing_call.proofs.walk.walk_rows.Given as goal

-- `walk_rows` takes the plate types in rising number and at each the permitted positions in rising number; both loops keep that the rest is the whole walk.
abbrev pub invariant-loop-i : goal.invariant-loop-i
invariant-loop-i l = Stands (job_of l.job.words.now) (rest_row (job_of l.job.words.now) l.j l.plate l.i) l.plates l.index l.leasts l.cuts l.at.plates.0 l.at.cuts.0
    × (Lengths l.initial.plates l.initial.index l.initial.leasts l.initial.cuts l.plates l.index l.leasts l.cuts
    × ((2 ≤ l.i) × ((l.i ≤ l.last + 2) × (l.i ≤ l.last → permitted (job_of l.job.words.now) l.i ≡ true))))

abbrev pub decreases-loop-i : goal.decreases-loop-i
decreases-loop-i l = l.last + 2 - l.i

abbrev pub invariant-walk : goal.invariant-walk
invariant-walk l = Stands (job_of l.job.words.now) (rest_walk (job_of l.job.words.now) l.j) l.plates l.index l.leasts l.cuts l.at.plates.0 l.at.cuts.0 × Lengths l.initial.plates l.initial.index l.initial.leasts l.initial.cuts l.plates l.index l.leasts l.cuts

abbrev pub decreases-walk : goal.decreases-walk
decreases-walk l = max_plates - l.j
