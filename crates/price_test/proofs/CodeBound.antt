-- What the price test accepts, and its promise of demand 3: prices that it accepts bound every set of layouts.
use Prim.Native.Nat.{ℕ}
use mathlib.Core.Path.{◌≡◌}
use mathlib.Core.Logic.{◌↔◌}
use mathlib.Core.List.{List, [], ◌∷◌}
use Rattle.job.specs.Sizes.{plates_size, cuts_size}
use Rattle.job.specs.Verdict.{pass, ◌then◌}
use Rattle.job.specs.Buffers.{given, sized}
use Rattle.job.specs.Job.{job_of, job_words, admission}
use Rattle.job.proofs.Verdicts.{then-first, then-second, then-both}
use Rattle.job.proofs.CodeEnds.{given-pass}
use Rattle.listing.specs.Listing.{model_row}
use Rattle.listing.specs.ListCall.{plates_end, cuts_end}
use Rattle.plan.specs.Prices.{prices_of, price_words, price_sum}
use Rattle.plan.specs.PriceCall.{price_verdict, price_answer}
use Rattle.plan.specs.Exactly.{Accepts, PricesRight}
use Rattle.plan.proofs.AcceptsExactly.{accepts-exactly, answer-accepts}
use Rattle.layouts.specs.Demand3.{J, L, Listed, Priced}
use Rattle.layouts.specs.Promises.{PricePromise}
use Rattle.layouts.proofs.demand.Demand3.{demand3}
use Rattle.std.specs.Prelude.{Result, Ok, Err}
use Rattle.job.specs.declared.refused.Refused.{Refused}
use Rattle.price_test.specs.declared.prices.Bound.{Bound}
use Rattle.price_test.specs.PriceSays.{says_of, OnAccepted, sum_and_d, price_tail}
use Rattle.listing_call.proofs.CodeEnding.{Ended}

module _ (ws prices plates cuts : List ℕ) where
  -- a call that accepts has passed every row
  module _ (e : price_verdict ws prices plates cuts ≡ pass) where
    words : job_words ws ≡ pass
    unfolding price_verdict
    words = then-first (job_words ws) _ e

    after-words : (price_words prices then (admission (job_of ws) then (sized 1 plates_size plates then (sized 2 cuts_size cuts then price_tail (job_of ws) prices)))) ≡ pass
    unfolding price_verdict
    after-words = then-second (job_words ws) _ e

    after-prices : (admission (job_of ws) then (sized 1 plates_size plates then (sized 2 cuts_size cuts then price_tail (job_of ws) prices))) ≡ pass
    after-prices = then-second (price_words prices) _ after-words

    tail : price_tail (job_of ws) prices ≡ pass
    tail = then-second (sized 2 cuts_size cuts) _ (then-second (sized 1 plates_size plates) _ (then-second (admission (job_of ws)) _ after-prices))

    listed : Listed ws
    listed =
        then-both (job_words ws) _ words
        (then-both (admission (job_of ws)) (model_row (job_of ws)) (then-first (admission (job_of ws)) _ after-prices) (then-first (model_row (job_of ws)) _ tail))

    priced : Priced (J ws) (L ws) prices
    priced = then-both (price_words prices) _ (then-first (price_words prices) _ after-words) (then-second (model_row (job_of ws)) _ tail)

    bounds : PricePromise ws (price_sum (job_of ws) (prices_of (job_of ws) prices)) (prices_of (job_of ws) prices).denominator
    bounds = (demand3.every-listed ws listed).bounds prices priced

  -- what the test accepts bounds
  promised : (r : Result Bound Refused) → says_of r ≡ price_answer ws prices plates cuts → OnAccepted r (PricePromise ws)
  unfolding price_answer
  promised (Err r) e = tt
  promised (Ok b) e =
      let p = given-pass (price_verdict ws prices plates cuts) (sum_and_d (job_of ws) prices) e in
      let f : given (b.sum ∷ b.d ∷ []) ≡ given (sum_and_d (job_of ws) prices) = rw p at e in
      let s : b.sum ≡ price_sum (job_of ws) (prices_of (job_of ws) prices) = cc in
      let t : b.d ≡ (prices_of (job_of ws) prices).denominator = cc in
      rw (s, t) (bounds p)

  -- what the call ensures: its answer, both buffers, what it accepts, and its promise
  pub with_bound :
      (r : Result Bound Refused) {plates' cuts' : List ℕ}
      → Ended (price_verdict ws prices plates cuts) (sum_and_d (job_of ws) prices) ws plates cuts (says_of r) plates' cuts'
      → (says_of r ≡ price_answer ws prices plates cuts)
      × ((plates' ≡ plates_end (price_verdict ws prices plates cuts) ws plates)
      × ((cuts' ≡ cuts_end (price_verdict ws prices plates cuts) ws cuts)
      × ((Accepts (says_of r) ↔ PricesRight ws prices plates cuts) × OnAccepted r (PricePromise ws))))
  unfolding price_answer
  with_bound r h =
      let exactly = answer-accepts (price_verdict ws prices plates cuts) _ (says_of r) h.0 (accepts-exactly.prices ws prices plates cuts) in
      (h.0, (h.1.0, (h.1.1, (exactly, promised r h.0))))
