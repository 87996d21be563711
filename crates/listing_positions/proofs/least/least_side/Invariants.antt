use mathlib.Core.Path.{◌≡◌}
use Prim.Native.Nat.{ℕ, ◌-◌}
use lib.ListN.{drop}
use Rattle.job.specs.Job.{Job, job_of, positions}
use Rattle.listing.specs.declared.plate.Plate.{Plate}
use Rattle.listing_positions.specs.Least.{along, asks, least_from, least_of}
use Rattle.listing_positions.proofs.least.least_side.Given as goal

-- `least_side` looks at the positions in rising number.
-- the positions from q on lower `least` to the least side of all
abbrev pub Lowers : Job → Plate → ℕ → ℕ → Type 0
Lowers job p least q = least_from (asks job.mode p) (λ item. along p.stage item.width item.height) least (drop (q - 1) (positions job)) ≡ least_of job p

abbrev pub invariant-loop-q : goal.invariant-loop-q
invariant-loop-q l = Lowers (job_of l.job.words.now) l.p l.least l.q
