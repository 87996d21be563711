-- Document 01, "Prices": what the price test and "cheapest" say in plain statements, both ways.
use Prim.Native.Nat.{ℕ, zero, suc, ◌*◌, ◌-◌, ◌≤◌, ◌<◌}
use native.Mathlib.Omega.{arith}
use mathlib.Core.Path.{◌≡◌}
use mathlib.Core.Logic.{◌↔◌, ◌⊎◌, inl, inr}
use mathlib.Core.Bool.{true, false}
use mathlib.Core.List.{List, [], ◌∷◌}
use lib.Dec.{ltb}
use lib.ListN.{length, get_or}
use borrow.Author.Tests.{ltb-true, ltb-false, lt-ltb, le-ltb}
use Rattle.job.specs.Sizes.{max_price}
use Rattle.job.specs.Verdict.{pass}
use Rattle.job.specs.Job.{Job}
use Rattle.job.specs.Admitted.{Between}
use Rattle.job.proofs.Decides.{decides-within, Passes, passes_then, passes-test, passes-places}
use Rattle.job.proofs.Tests.{at-most-or-above}
use Rattle.listing.specs.Listing.{Listing, cut_at, no_cut}
use Rattle.plan.specs.Plan.{cost_at}
use Rattle.plan.specs.Prices.{Prices, price_words, residual_price, price_limit, worth, over_limit, prices_row, price_sum, is_cheapest, cheapest}
use Rattle.plan.specs.Feasible.{DualFeasible}

-- the limit of a cut on a size, and of a cut on a residual type
pub limit-size : (job : Job) (ps : Prices) (j : ℕ) → j < length job.sizes → price_limit job ps j ≡ ps.denominator * cost_at job j
unfolding price_limit
limit-size job ps j p = rw (lt-ltb j (length job.sizes) p)

pub limit-residual : (job : Job) (ps : Prices) (j : ℕ) → length job.sizes ≤ j → price_limit job ps j ≡ residual_price job ps j
unfolding price_limit
limit-residual job ps j p = rw (le-ltb j (length job.sizes) p)

-- residual types have their prices in order, the first that of number t; below t there is none
pub residual-priced : (job : Job) (ps : Prices) (j : ℕ) → length job.sizes ≤ j → residual_price job ps j ≡ get_or ps.residuals (j - length job.sizes) 0
unfolding residual_price
residual-priced job ps j p = rw (le-ltb j (length job.sizes) p)

pub not-priced : (job : Job) (ps : Prices) (j : ℕ) → j < length job.sizes → residual_price job ps j ≡ 0
unfolding residual_price
not-priced job ps j p = rw (lt-ltb j (length job.sizes) p)

module _ (job : Job) (l : Listing) (ps : Prices) where
  -- the prices row passes exactly where the prices are accepted
  pub prices-exact : (prices_row job l ps ≡ pass) ↔ DualFeasible job l ps
  unfolding prices_row over_limit worth cut_at
  prices-exact = (to, from)
    where
      to : prices_row job l ps ≡ pass → DualFeasible job l ps
      to h =
          let within : (c : ℕ) → c < length l.cuts → worth job ps (cut_at l (suc c)) ≤ price_limit job ps (cut_at l (suc c)).plate
          = λ c p. ltb-false _ _ ((passes-places 14 (λ _ c. over_limit job ps c) no_cut 1 l.cuts).0 h c p) in
          record {
            on-size = λ c p e. omega (arith, within c p, limit-size job ps (cut_at l (suc c)).plate e);
            on-residual = λ c p q. omega (arith, within c p, limit-residual job ps (cut_at l (suc c)).plate q);
          }

      from : DualFeasible job l ps → prices_row job l ps ≡ pass
      from a =
          (passes-places 14 (λ _ c. over_limit job ps c) no_cut 1 l.cuts).1
          (λ c p. le-ltb _ _ (at c p (at-most-or-above (length job.sizes) (cut_at l (suc c)).plate)))
        where
          at : (c : ℕ) → c < length l.cuts → (length job.sizes ≤ (cut_at l (suc c)).plate) ⊎ ((cut_at l (suc c)).plate < length job.sizes)
              → worth job ps (cut_at l (suc c)) ≤ price_limit job ps (cut_at l (suc c)).plate
          at c p (inr e) = omega (arith, a.on-size c p e, limit-size job ps (cut_at l (suc c)).plate e)
          at c p (inl e) = omega (arith, a.on-residual c p e, limit-residual job ps (cut_at l (suc c)).plate e)

-- "cheapest" says that a cost of one less would come to less than the sum of price times demand, nothing rounded
pub cheapest-exact : (job : Job) (ps : Prices) (cost : ℕ) → (cheapest job ps cost ≡ true) ↔ ((cost - 1) * ps.denominator < price_sum job ps)
unfolding is_cheapest
cheapest-exact job ps cost = (ltb-true _ _, lt-ltb _ _)

-- the line row of price words passes exactly where D and every price is within its limits
pub price-words-exact :
    (ws : List ℕ)
    → 1 ≤ length ws
    → (price_words ws ≡ pass) ↔ (Between 1 max_price (get_or ws 0 0) × ((k : ℕ) → 1 ≤ k → k < length ws → get_or ws k 0 ≤ max_price))
unfolding price_words
price-words-exact [] some = absurd (omega arith)
price-words-exact (d ∷ prices) some = (λ h. ((rows.0 h).0, to (rows.0 h).1), λ r. rows.1 (r.0, from r.1))
  where
    rows : Passes (price_words (d ∷ prices)) (Between 1 max_price d × ((i : ℕ) → i < length prices → ltb max_price (get_or prices i 0) ≡ false))
    rows = passes_then (passes-test 2 1 (decides-within 1 max_price d)) (passes-places 2 (λ _ x. ltb max_price x) 0 2 prices)

    to : ((i : ℕ) → i < length prices → ltb max_price (get_or prices i 0) ≡ false) → (k : ℕ) → 1 ≤ k → k < length (d ∷ prices) → get_or (d ∷ prices) k 0 ≤ max_price
    to f zero p q = absurd (omega arith)
    to f (suc k) p q = ltb-false _ _ (f k (omega arith))

    from : ((k : ℕ) → 1 ≤ k → k < length (d ∷ prices) → get_or (d ∷ prices) k 0 ≤ max_price) → (i : ℕ) → i < length prices → ltb max_price (get_or prices i 0) ≡ false
    from f i p = le-ltb _ _ (f (suc i) (omega arith) (omega arith))
