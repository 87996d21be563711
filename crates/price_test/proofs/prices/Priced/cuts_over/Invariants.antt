use mathlib.Core.Path.{◌≡◌}
use Prim.Native.Nat.{◌+◌}
use lib.ListN.{drop}
use Rattle.job.specs.Verdict.{lowest}
use Rattle.job.specs.Job.{job_of}
use Rattle.plan.specs.Prices.{prices_at, over_limit}
use Rattle.listing.specs.CutRead.{cuts_read}
use Rattle.price_test.proofs.prices.Priced.cuts_over.Given as goal

-- `cuts_over` looks at the cuts in rising number: those from c on decide as all of them do.
abbrev pub invariant-loop-c : goal.invariant-loop-c
invariant-loop-c l =
    let job = job_of l.fn.self.listed.job.words.now in
    let prices = prices_at l.fn.self.listed.job.head.types.0 l.fn.self.prices.now in
    let cuts = cuts_read l.c-end l.fn.self.listed.cuts.now in
    lowest 14 (λ _ d. over_limit job prices d) 1 cuts ≡ lowest 14 (λ _ d. over_limit job prices d) (l.c + 1) (drop l.c cuts)
