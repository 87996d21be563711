-- Document 01, "Prices": a denominator and prices, when they are refused, and the bound that they give.
use Rattle.std.specs.Prelude.{ℕ, zero, suc, ◌+◌, ◌*◌, ◌-◌, Bool, cond, not, ◌||◌, List, [], ◌∷◌, ltb, eqb, length, get_or, take, drop}
pub use Rattle.job.specs.Sizes.{max_price}
use Rattle.job.specs.declared.item.Item.{Item}
use Rattle.job.specs.Verdict.{Verdict, pass, ◌then◌, refuse_if, within, lowest}
use Rattle.job.specs.Job.{Job, type_of}
use Rattle.listing.specs.Listing.{Cut, Listing, residual_types}
use Rattle.plan.specs.Plan.{cost_at}

-- the denominator D; a price for each item type and each residual type, both in order
pub record Prices : Type 0 where
  pub denominator : ℕ
  pub items : List ℕ
  pub residuals : List ℕ

-- as words "prices are D, the n, the m": for n item types
abbrev pub prices_at : ℕ → List ℕ → Prices
prices_at n ws = record { denominator = get_or ws 0 0; items = take n (drop 1 ws); residuals = drop (1 + n) ws }

-- for those of a job
unfoldable pub prices_of : Job → List ℕ → Prices
prices_of job ws = prices_at (length job.items) ws

-- the line row of price words: 2 "a price above 9,999, or a D outside its limits", "naming the word from 1"; D is word 1, the prices come after it
unfoldable pub price_words : List ℕ → Verdict
price_words [] = pass
price_words (d ∷ prices) =
    refuse_if (not (within 1 max_price d)) 2 1
    then lowest 2 (λ _ price. ltb max_price price) 2 prices

-- the price of item type i, from 1
unfoldable pub item_price : Prices → ℕ → ℕ
item_price ps zero = 0
item_price ps (suc i) = get_or ps.items i 0

-- the price of residual type j; the first has the number that follows the sizes (request Six), and 0, which is a size's, stands for a residual that is not
-- kept and has no price
unfoldable pub residual_price : Job → Prices → ℕ → ℕ
residual_price job ps j = cond (ltb j (length job.sizes)) 0 (get_or ps.residuals (j - length job.sizes) 0)

-- what a cut may come to: on a size "D times its cost" (request Six), "else at most the price of the plate cut"
unfoldable pub price_limit : Job → Prices → ℕ → ℕ
price_limit job ps j = cond (ltb j (length job.sizes)) (ps.denominator * cost_at job j) (residual_price job ps j)

-- "the item's price plus the prices of its kept residuals": a type has one price in both turns (request One)
unfoldable pub worth : Job → Prices → Cut → ℕ
worth job ps c = item_price ps (type_of c.item) + residual_price job ps c.top + residual_price job ps c.right

unfoldable pub over_limit : Job → Prices → Cut → Bool
over_limit job ps c = ltb (price_limit job ps c.plate) (worth job ps c)

-- 13: "n or m not the model's"
unfoldable pub model_sized : Job → Listing → ℕ → ℕ → Verdict
model_sized job l n m =
    refuse_if (not (eqb n (length job.items)) || not (eqb m (residual_types l))) 13 0

-- 13 for price words, of which another length says so
unfoldable pub prices_sized : Job → Listing → List ℕ → Verdict
prices_sized job l ws = refuse_if (not (eqb (length ws) (1 + length job.items + residual_types l))) 13 0

-- the prices row from 14 on: 14 a cut over its limit
unfoldable pub prices_row : Job → Listing → Prices → Verdict
prices_row job l ps = lowest 14 (λ _ c. over_limit job ps c) 1 l.cuts

-- price times demand, added up over item types and their prices
unfoldable pub priced : List Item → List ℕ → ℕ
priced [] ps = 0
priced (item ∷ items) [] = 0
priced (item ∷ items) (p ∷ ps) = p * item.demand + priced items ps

-- "the sum of price times demand"; the bound is this over D
unfoldable pub price_sum : Job → Prices → ℕ
price_sum job ps = priced job.items ps.items

-- request Six, "cheapest": "cost minus 1, times D, below the sum"
unfoldable pub is_cheapest : ℕ → ℕ → ℕ → Bool
is_cheapest cost sum d = ltb ((cost - 1) * d) sum

-- the same of the sum and D of prices
abbrev pub cheapest : Job → Prices → ℕ → Bool
cheapest job ps cost = is_cheapest cost (price_sum job ps) ps.denominator
