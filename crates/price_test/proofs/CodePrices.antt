-- The price words that the code reads are the prices of the definitions; 2 and 14 as the code decides them; the sum of price times demand.
use mathlib.Core.Path.{◌≡◌, refl, sym, ◌∙◌}
use Prim.Native.Nat.{ℕ, zero, suc, ◌+◌, ◌*◌, ◌-◌, ◌≤◌, ◌<◌, min}
use mathlib.Core.Logic.{◌⊎◌, inl, inr}
use mathlib.Core.Bool.{Bool, true, false, not}
use mathlib.Core.List.{List, [], ◌∷◌}
use native.Mathlib.Omega.{arith}
use native.Mathlib.Nat.{mul-le-mul, pos_of_ne-zero}
use Rattle.std.specs.Prelude.{None, Some}
use Rattle.std.specs.List.{slice_get}
use Rattle.std.proofs.lemmas.Option.{get_or_from_slice_get, slice_get-get_or, slice_get_past}
use borrow.Author.Tests.{ltb-true, ltb-false, lt-ltb, le-ltb, not-false}
use lib.Dec.{ltb}
use lib.ListN.{length, get_or, take, drop, length-take, length-drop, get_or-eq_default}
use lib.Seq.{get_or-take, get_or-drop, drop-cons}
use Rattle.job.specs.declared.item.Item.{Item}
use Rattle.job.specs.Sizes.{max_pieces, max_price, job_size}
use Rattle.job.specs.Verdict.{pass, refuse, refuse_if, lowest, within}
use Rattle.job.specs.Job.{Job, job_of, item_at, type_of, job_words}
use Rattle.job.proofs.CodeItems.{items-from, items-end}
use Rattle.job.proofs.Tests.{within-high, within-limits, above-limits, at-most-or-above}
use Rattle.job.proofs.Verdicts.{then-first, then-second, refuse_if-pass, lowest-good}
use Rattle.job.proofs.Admission.{words_right}
use Rattle.listing.specs.Listing.{Cut}
use Rattle.plan.proofs.PriceExact.{residual-priced, not-priced}
use Rattle.plan.specs.Prices.{Prices, prices_at, price_words, item_price, residual_price, price_limit, worth, over_limit, priced}

-- prices by their words
module _ (n : ℕ) (ws : List ℕ) where
  pub item-price : (i : ℕ) → 1 ≤ i → i ≤ n → get_or ws i 0 ≡ item_price (prices_at n ws) i
  unfolding item_price
  item-price zero h l = absurd (omega arith)
  item-price (suc i) h l = let e : 1 + i ≡ suc i = omega arith in sym (get_or-take n (drop 1 ws) i 0 (omega arith) ∙ get_or-drop 1 ws i 0 ∙ rw e)

  -- of a job of t sizes
  module _ (job : Job) (t : ℕ) (sizes : length job.sizes ≡ t) where
    -- a residual that is not kept has none, and its number is a size's
    pub no-residual : (j : ℕ) → j < t → 0 ≡ residual_price job (prices_at n ws) j
    no-residual j h = sym (not-priced job (prices_at n ws) j (omega arith))

    pub residual-price : (j : ℕ) → t ≤ j → get_or ws (1 + n + (j - t)) 0 ≡ residual_price job (prices_at n ws) j
    residual-price j h = sym (residual-priced job (prices_at n ws) j (omega arith) ∙ get_or-drop (1 + n) ws (j - length job.sizes) 0 ∙ rw sizes)

  -- a cut is over its limit if the limit is below its item's price and those of its residuals
  pub over-limit : (job : Job) (c : Cut) {item top right limit : ℕ} → item ≡ item_price (prices_at n ws) (type_of c.item) → top ≡ residual_price job (prices_at n ws) c.top → right ≡ residual_price job (prices_at n ws) c.right → limit ≡ price_limit job (prices_at n ws) c.plate → ltb limit (item + top + right) ≡ over_limit job (prices_at n ws) c
  unfolding over_limit worth
  over-limit job c a b d e = rw (a, b, d, e)

-- what is said of the cut that was read is said of that cut of the list
pub over-said : (job : Job) (ps : Prices) {b t : Bool} {x y z : Cut} → b ≡ over_limit job ps x → x ≡ y → z ≡ y → b ≡ t → over_limit job ps z ≡ t
over-said job ps e f g h = cc

-- no words at all pass
pub no_words : (ws : List ℕ) → None ≡ slice_get ws 0 → pass ≡ price_words ws
unfolding price_words
no_words [] h = refl
no_words (d ∷ ws) h = let e = slice_get-get_or (d ∷ ws) 0 0 (omega arith) in cc

-- a D of 0 is word 1
pub no-denominator : (ws : List ℕ) {d : ℕ} → Some d ≡ slice_get ws 0 → d ≡ 0 → refuse 2 1 ≡ price_words ws
unfolding price_words
no-denominator [] h e = let n = slice_get_past {X = ℕ} [] 0 (omega arith) in absurd cc
no-denominator (d ∷ ws) h e = let g = get_or_from_slice_get (d ∷ ws) 0 _ 0 (sym h) in rw (g ∙ e)

-- where D is not 0, it has the limit of the prices
pub words-all : (ws : List ℕ) → (get_or ws 0 0 ≡ 0 → ⊥) → price_words ws ≡ lowest 2 (λ _ x. ltb max_price x) 1 ws
unfolding price_words lowest
words-all [] h = refl
words-all (d ∷ ws) h = go (at-most-or-above d max_price)
  where
    go : (d ≤ max_price) ⊎ (max_price < d) → price_words (d ∷ ws) ≡ lowest 2 (λ _ x. ltb max_price x) 1 (d ∷ ws)
    go (inl l) = rw (within-limits 1 max_price d (pos_of_ne-zero h) l, lowest, le-ltb max_price d l)
    go (inr l) = rw (above-limits 1 max_price d l, lowest, lt-ltb max_price d l)

-- words that passed are at most 9,999
pub prices-small : (ws : List ℕ) → price_words ws ≡ pass → (i : ℕ) → get_or ws i 0 ≤ max_price
unfolding price_words
prices-small [] e i = omega arith
prices-small (d ∷ ws) e zero =
    within-high 1 max_price d (not-false _ (refuse_if-pass (not (within 1 max_price d)) 2 1 (then-first (refuse_if (not (within 1 max_price d)) 2 1) _ e)))
prices-small (d ∷ ws) e (suc i) = go (ltb i (length ws)) refl
  where
    go : (t : Bool) → ltb i (length ws) ≡ t → get_or ws i 0 ≤ max_price
    go true h =
        ltb-false max_price (get_or ws i 0)
        (lowest-good 2 (λ _ x. ltb max_price x) 0 2 ws (then-second (refuse_if (not (within 1 max_price d)) 2 1) _ e) i (ltb-true _ _ h))
    go false h = rw (get_or-eq_default ws 0 {n = i} (ltb-false _ _ h)) (omega arith)

-- demands of words that passed are at most 4,000
pub demands-small : (ws : List ℕ) (n : ℕ) → job_words ws ≡ pass → length ws ≡ job_size (get_or ws 2 0) n → (i : ℕ) → 1 ≤ i → i ≤ n → (item_at (job_of ws) i).demand ≤ max_pieces
demands-small ws n e l i h g = let r = words_right ws e in (r.each_item i h (omega (arith, r.whole))).demand-limits.1

-- the price of an item type times its demand
pub product-most :
    (ws prices : List ℕ) (n : ℕ)
    → (job_words ws ≡ pass) × (price_words prices ≡ pass)
    → length ws ≡ job_size (get_or ws 2 0) n
    → (i : ℕ) → 1 ≤ i → i ≤ n → {x : Item} → x ≡ item_at (job_of ws) i
    → get_or prices i 0 * x.demand ≤ max_price * max_pieces
product-most ws prices n p l i h g e = mul-le-mul {n₂ = max_price} {m₂ = max_pieces} (prices-small prices p.1 i) (rw e (demands-small ws n p.0 l i h g))

-- the sum of price times demand: what has been added up, and the rest
module _ (job : Job) (n : ℕ) (ws : List ℕ) (e : length job.items ≡ n) (l : n < length ws) where
  prices-from : (i : ℕ) → 1 ≤ i → i ≤ n → drop (i - 1) (prices_at n ws).items ≡ get_or ws i 0 ∷ drop (i + 1 - 1) (prices_at n ws).items
  prices-from zero h g = absurd (omega arith)
  prices-from (suc j) h g =
      let a : suc j - 1 ≡ j = omega arith in
      let b : suc j + 1 - 1 ≡ suc j = omega arith in
      let d : 1 + j ≡ suc j = omega arith in
      let m : length (take n (drop 1 ws)) ≡ min n (length (drop 1 ws)) = length-take n (drop 1 ws) in
      let r : length (drop 1 ws) ≡ length ws - 1 = length-drop 1 ws in
      let v : get_or (take n (drop 1 ws)) j 0 ≡ get_or ws (suc j) 0 = get_or-take n (drop 1 ws) j 0 (omega arith) ∙ get_or-drop 1 ws j 0 ∙ rw d in
      rw (a, b) (drop-cons (take n (drop 1 ws)) j 0 (omega arith) ∙ rw v)

  module _ (i sum : ℕ) {whole : ℕ} (w : whole ≡ sum + priced (drop (i - 1) job.items) (drop (i - 1) (prices_at n ws).items)) where
    pub priced-next : {x : Item} → x ≡ item_at job i → 1 ≤ i → i ≤ n → whole ≡ sum + get_or ws i 0 * x.demand + priced (drop (i + 1 - 1) job.items) (drop (i + 1 - 1) (prices_at n ws).items)
    unfolding priced
    priced-next f h g = w ∙ rw (items-from job i h (omega arith), prices-from i h g, f) (omega arith)

    pub priced-end : n < i → sum ≡ whole
    unfolding priced
    priced-end h = let z : whole ≡ sum + 0 = w ∙ rw (items-end job i (omega arith)) in omega arith
