-- The prices row that the code decides is that of the definitions.
use mathlib.Core.Path.{◌≡◌}
use Prim.Native.Nat.{ℕ, ◌+◌, ◌-◌}
use mathlib.Core.List.{List, [], ◌∷◌}
use borrow.Author.Tests.{eq-eqb, ne_eqb}
use lib.ListN.{length, get_or}
use Rattle.job.specs.Verdict.{◌then◌, lowest}
use Rattle.job.specs.Buffers.{given, refused, answer}
use Rattle.job.specs.Job.{Job}
use Rattle.listing.specs.Listing.{Listing, residual_types}
use Rattle.std.specs.Prelude.{Result, Ok, Err}
use Rattle.job.specs.declared.refused.Refused.{Refused}
use Rattle.plan.specs.Prices.{prices_at, prices_of, over_limit, prices_sized, prices_row, price_sum}
use Rattle.job.specs.Refused.{number_of, row_verdict}
use Rattle.price_test.specs.PriceSays.{sum_and_d}

-- price words for n item types, of a listing of m plate types, t sizes among them
module _ (job : Job) (l : Listing) (t n m : ℕ) (ws : List ℕ) (z : l.sizes ≡ t) (e : length job.items ≡ n) (p : length l.plates ≡ m) where
  -- the words that the model asks for
  size : 1 + length job.items + residual_types l ≡ 1 + n + (m - t)
  unfolding residual_types
  size = rw (e, p, z)

  prices-at : prices_of job ws ≡ prices_at n ws
  unfolding prices_of
  prices-at = rw e

  -- another length is 13
  pub other-size : (length ws ≡ 1 + n + (m - t) → ⊥) → refused 13 0 ≡ answer (prices_sized job l ws then prices_row job l (prices_of job ws)) (sum_and_d job ws)
  unfolding prices_sized
  other-size h = rw (size, ne_eqb _ _ h)

  module _ (h : length ws ≡ 1 + n + (m - t)) {r : Result (Unit {0}) Refused} (says : row_verdict r ≡ lowest 14 (λ _ c. over_limit job (prices_at n ws) c) 1 l.cuts) where
    -- a cut over its limit is 14
    pub over-refused : {x : Refused} → r ≡ Err x → refused (number_of x.refusal) x.place ≡ answer (prices_sized job l ws then prices_row job l (prices_of job ws)) (sum_and_d job ws)
    unfolding prices_sized prices_row
    over-refused f = rw (size, eq-eqb _ _ h, prices-at, ← says, f)

    -- else the answer is the sum and D
    pub prices-accepted : r ≡ Ok tt → {sum : ℕ} → sum ≡ price_sum job (prices_at n ws) → given (sum ∷ get_or ws 0 0 ∷ []) ≡ answer (prices_sized job l ws then prices_row job l (prices_of job ws)) (sum_and_d job ws)
    unfolding prices_sized prices_row
    prices-accepted f g = rw (size, eq-eqb _ _ h, prices-at, ← says, f, g)
