use mathlib.Core.Path.{◌≡◌}
use Prim.Native.Nat.{◌+◌, ◌*◌, ◌-◌, ◌≤◌}
use lib.ListN.{drop}
use Rattle.job.specs.Sizes.{max_pieces, max_price}
use Rattle.job.specs.Job.{job_of}
use Rattle.plan.specs.Prices.{prices_at, priced, price_sum}
use Rattle.price_test.proofs.prices.Priced.sum.Given as goal

-- `price_sum` adds up price times demand in rising number: after the types below i the rest is that of the types from
-- i on.
abbrev pub invariant-loop-i : goal.invariant-loop-i
invariant-loop-i l =
    let job = job_of l.fn.self.listed.job.words.now in
    let prices = prices_at l.fn.self.listed.job.head.types.0 l.fn.self.prices.now in
    (l.sum ≤ max_price * max_pieces * (l.i - 1))
    × (price_sum job prices ≡ l.sum + priced (drop (l.i - 1) job.items) (drop (l.i - 1) prices.items))
