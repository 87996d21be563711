-- What the search of a cut answers.
use Rattle.std.specs.Prelude.{ℕ, ◌≤◌, Option, Some, None}
use Rattle.job.specs.declared.counters.CutNumber.{CutNumber}

-- the number of the cut, 0 where there is none
abbrev pub cut_found : Option CutNumber → ℕ
cut_found (Some k) = k.0
cut_found None = 0

-- a number that is found is that of one of k cuts
abbrev pub Among : ℕ → Option CutNumber → Type 0
Among k (Some c) = (1 ≤ c.0) × (c.0 ≤ k)
Among k None = Unit {0}
