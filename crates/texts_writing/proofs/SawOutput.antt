-- The lines 7 and the line 8 that are written are the saw program's output.
use Prim.Native.Nat.{ℕ, ◌-◌, ◌*◌}
use native.Mathlib.Omega.{arith}
use mathlib.Core.Path.{◌≡◌, refl, ap}
use mathlib.Core.Bool.{false}
use mathlib.Core.List.{List, ◌++◌, flat_map}
use mathlib.Core.Option.{Option, none, some}
use borrow.Author.Tests.{le-ltb}
use Rattle.job.specs.Job.{Job, job_of}
use Rattle.plan.specs.Prices.{is_cheapest}
use Rattle.layouts.specs.Placement.{Placement}
use Rattle.texts.specs.SawText.{PriceLines, Saw, placement_line, result_row, result_line, saw_lines}
use Rattle.texts.specs.Printed.{saw_run, saw_cost}
use Rattle.texts_writing.specs.Wrote.{summary_line, sum_given, denominator_given}

-- a sum of 0 is not above anything
never-cheapest : (cost d : ℕ) → is_cheapest cost 0 d ≡ false
unfolding is_cheapest
never-cheapest cost d = le-ltb ((cost - 1) * d) 0 (omega arith)

-- line 8 of the saw program
pub summary-is : (job : Job) (cost : ℕ) (o : Option PriceLines) → summary_line cost (sum_given job o) (denominator_given job o) ≡ result_line job cost o
unfolding summary_line result_row result_line sum_given denominator_given
summary-is job cost none = rw (never-cheapest cost 1)
summary-is job cost (some pl) = refl

-- lines 7 and line 8, whole
pub saw-output :
    (s : Saw) (ps : List Placement) (cost sum d : ℕ)
    → ps ≡ (saw_run s).placements
    → cost ≡ saw_cost s
    → sum ≡ sum_given (job_of s.job) s.prices
    → d ≡ denominator_given (job_of s.job) s.prices
    → flat_map placement_line ps ++ summary_line cost sum d ≡ saw_lines s
unfolding saw_lines
saw-output s ps cost sum d e b p q =
    rw (e, b, p, q) (ap (λ (l : List ℕ). flat_map placement_line (saw_run s).placements ++ l) (summary-is (job_of s.job) (saw_cost s) s.prices))
