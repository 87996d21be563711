-- Every refusal has a number above 0, so the number 0 says that a call is accepted.
use mathlib.Core.Path.{◌≡◌, sym}
use mathlib.Core.Logic.{◌⊎◌, inl, inr}
use mathlib.Core.Bool.{Bool, true, false, not}
use mathlib.Core.List.{List, [], ◌∷◌}
use Prim.Native.Nat.{ℕ, suc, ◌+◌, ◌≤◌}
use native.Mathlib.Omega.{arith}
use lib.Dec.{ltb, eqb}
use lib.ListN.{length, get_or, drop}
use Rattle.job.specs.Sizes.{max_pieces, max_price, job_size}
use Rattle.job.specs.Verdict.{Verdict, pass, refuse, ◌then◌, refuse_if, within, lowest}
use Rattle.job.specs.Buffers.{sized}
use Rattle.job.specs.Job.{Job, job_of, job_words, admission, board_right, item_right, demanded}
use Rattle.job.proofs.CodeEnds.{refused-not}
use Rattle.listing.specs.Listing.{Listing, model_row, residual_types}
use Rattle.listing.proofs.Limits.{row-cases}
use Rattle.plan.specs.Plan.{total, short, overdrawn, counts_row, plan_row}
use Rattle.plan.specs.Prices.{Prices, price_words, prices_sized, prices_row}
use Rattle.layouts.specs.UnfoldCall.{lengths_right, lengths_row}

-- some checks refuse with a number above 0 alone
pub record Above (v : Verdict) : Type 0 where
  pub above : (number place : ℕ) → v ≡ refuse number place → 1 ≤ number

pub above-pass : Above pass
above-pass = record { above = λ number place e. absurd (refused-not (sym e)) }

pub above-refuse : (number place : ℕ) → 1 ≤ number → Above (refuse number place)
above-refuse number place h = record { above = λ n p e. let same : number ≡ n = cc in omega arith }

pub above_if : (b : Bool) (number place : ℕ) → 1 ≤ number → Above (refuse_if b number place)
above_if true number place h = above-refuse number place h
above_if false number place h = above-pass

pub above_then : (v w : Verdict) → Above v → Above w → Above (v then w)
above_then pass w a b = b
above_then (refuse number place) w a b = a

module _ {A : Type 0} where
  pub above-lowest : (number : ℕ) (bad : ℕ → A → Bool) (k : ℕ) (as' : List A) → 1 ≤ number → Above (lowest number bad k as')
  unfolding lowest
  above-lowest number bad k [] h = above-pass
  above-lowest number bad k (a ∷ as') h = by-test (bad k a) (above-lowest number bad (suc k) as' h)
    where
      by-test : (b : Bool) {v : Verdict} → Above v → Above (elim b [ true ↦ refuse number k | false ↦ v ])
      by-test true n = above-refuse number k h
      by-test false n = n

-- the rows, one by one
pub words-above : (ws : List ℕ) → Above (job_words ws)
unfolding job_words
words-above ws =
    let wrong-length = not (eqb (length ws) (job_size (get_or ws 2 0) (get_or ws 3 0))) in
    let types = lowest 2 (λ _ it. not (item_right it)) 1 (job_of ws).items in
    above_then (refuse_if wrong-length 1 0) (refuse_if (not (board_right ws)) 2 0 then types) (above_if wrong-length 1 0 (omega arith))
    (above_then (refuse_if (not (board_right ws)) 2 0) types (above_if (not (board_right ws)) 2 0 (omega arith)) (above-lowest 2 _ 1 (job_of ws).items (omega arith)))

pub lengths-above : (first second : ℕ) → Above (lengths_row first second)
unfolding lengths_row
lengths-above first second = above_if (not (lengths_right first second)) 2 0 (omega arith)

pub admission-above : (job : Job) → Above (admission job)
unfolding admission
admission-above job =
    above_then (lowest 3 _ 1 job.items) (refuse_if (ltb max_pieces (demanded job)) 4 0)
    (above-lowest 3 _ 1 job.items (omega arith)) (above_if (ltb max_pieces (demanded job)) 4 0 (omega arith))

pub sized-above : (number size : ℕ) (buffer : List ℕ) → Above (sized number size buffer)
unfolding sized
sized-above number size buffer = above_if (ltb (length buffer) size) 5 number (omega arith)

pub model-above : (job : Job) → Above (model_row job)
model-above job = by-case (row-cases job)
  where
    by-case : (model_row job ≡ pass) ⊎ ((model_row job ≡ refuse 6 0) ⊎ (model_row job ≡ refuse 7 0)) → Above (model_row job)
    by-case (inl p) = rw p above-pass
    by-case (inr (inl p)) = rw p (above-refuse 6 0 (omega arith))
    by-case (inr (inr p)) = rw p (above-refuse 7 0 (omega arith))

pub plan-above : (job : Job) (l : Listing) (ns : List ℕ) → Above (counts_row l ns then plan_row job l ns)
unfolding counts_row plan_row
plan-above job l ns =
    let Short-row = lowest 11 (short l ns) 1 job.items in
    let overdrawn-row = lowest 12 (overdrawn l ns) l.sizes (drop l.sizes l.plates) in
    above_then (counts_row l ns) (plan_row job l ns) (above-lowest 8 _ _ _ (omega arith))
    (above_then (refuse_if (ltb max_pieces (total ns)) 10 0) (Short-row then overdrawn-row) (above_if (ltb max_pieces (total ns)) 10 0 (omega arith))
    (above_then Short-row overdrawn-row (above-lowest 11 (short l ns) 1 job.items (omega arith)) (above-lowest 12 (overdrawn l ns) l.sizes (drop l.sizes l.plates) (omega arith))))

pub price-words-above : (ws : List ℕ) → Above (price_words ws)
unfolding price_words
price-words-above [] = above-pass
price-words-above (d ∷ prices) =
    let out = not (within 1 max_price d) in
    let high = lowest 2 (λ _ price. ltb max_price price) 2 prices in
    above_then (refuse_if out 2 1) high (above_if out 2 1 (omega arith)) (above-lowest 2 _ 2 prices (omega arith))

pub prices-above : (job : Job) (l : Listing) (ws : List ℕ) (ps : Prices) → Above (prices_sized job l ws then prices_row job l ps)
unfolding prices_sized prices_row
prices-above job l ws ps =
    above_then (prices_sized job l ws) (prices_row job l ps)
    (above_if (not (eqb (length ws) (1 + length job.items + residual_types l))) 13 0 (omega arith))
    (above-lowest 14 _ 1 l.cuts (omega arith))
