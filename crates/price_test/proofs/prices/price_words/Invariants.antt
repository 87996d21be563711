use mathlib.Core.Path.{◌≡◌}
use Prim.Native.Nat.{◌+◌}
use lib.Dec.{ltb}
use lib.ListN.{drop}
use Rattle.job.specs.Verdict.{lowest}
use Rattle.plan.specs.Prices.{max_price, price_words}
use Rattle.price_test.proofs.prices.price_words.Given as goal

-- `price_words` looks whether D is 0, and then at all words in rising order, D among them: those from i on decide as
-- all of them do.
abbrev pub invariant-loop-i : goal.invariant-loop-i
invariant-loop-i l = price_words l.prices ≡ lowest 2 (λ _ x. ltb max_price x) (l.i + 1) (drop l.i l.prices)
