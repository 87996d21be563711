-- The price test's rows in their order, on plain values: those before the model, and those from it on.
use mathlib.Core.Path.{◌≡◌, sym, ap, ◌∙◌}
use Prim.Native.Nat.{ℕ, ◌+◌, ◌≤◌}
use mathlib.Core.Bool.{not}
use mathlib.Core.List.{List}
use native.Mathlib.Omega.{arith}
use lib.Dec.{eqb}
use lib.ListN.{length}
use Rattle.job.specs.Sizes.{plates_size, cuts_size}
use Rattle.job.specs.Verdict.{Verdict, pass, ◌then◌}
use Rattle.job.specs.Buffers.{sized}
use Rattle.job.specs.Job.{Job, job_of, job_words, admission}
use Rattle.job.proofs.Verdicts.{then-assoc, then-assoc-3, then-first, then-second, then-both}
use Rattle.job.proofs.Buffers.{sized-pass}
use Rattle.job.proofs.CodeEnds.{Not5, not5-if, not5-then, not5-lowest}
use Rattle.listing.specs.Listing.{Listing, residual_types}
use Rattle.plan.specs.Prices.{Prices, price_words, prices_sized, prices_row}
use Rattle.plan.specs.PriceCall.{price_verdict}
use Rattle.price_test.specs.PriceSays.{price_tail}

-- the prices row does not refuse with 5
pub prices-not5 : (job : Job) (l : Listing) (ws : List ℕ) (ps : Prices) → Not5 (prices_sized job l ws then prices_row job l ps)
unfolding prices_sized prices_row
prices-not5 job l ws ps =
    not5-then (prices_sized job l ws) (prices_row job l ps)
    (not5-if (not (eqb (length ws) (1 + length job.items + residual_types l))) 13 0 (λ e. omega arith))
    (not5-lowest 14 _ 1 l.cuts (λ e. omega arith))

-- where words and job pass, the job is admitted
pub words-and-job : (ws prices : List ℕ) → (job_words ws then price_words prices then admission (job_of ws)) ≡ pass → (job_words ws then admission (job_of ws)) ≡ pass
words-and-job ws prices e =
    let after = then-second (job_words ws) _ e in
    then-both (job_words ws) _ (then-first (job_words ws) _ e) (then-second (price_words prices) _ after)

-- the rows before the model: the words and the job, and then the lent buffers; "words of prices and layouts belong to the line row, after the job's words"
abbrev rows_before : List ℕ → List ℕ → List ℕ → List ℕ → Verdict
rows_before ws prices plates cuts = (job_words ws then price_words prices then admission (job_of ws)) then sized 1 plates_size plates then sized 2 cuts_size cuts

module _ (ws prices plates cuts : List ℕ) where
  -- the call's verdict: these rows, and those from the model on
  pub price-rows : price_verdict ws prices plates cuts ≡ (rows_before ws prices plates cuts then price_tail (job_of ws) prices)
  unfolding price_verdict
  price-rows =
      let a = job_words ws in
      let p = price_words prices in
      let b = admission (job_of ws) in
      let c = sized 1 plates_size plates in
      let d = sized 2 cuts_size cuts in
      let e = price_tail (job_of ws) prices in
      sym (then-assoc (a then p then b) (c then d) e ∙ then-assoc-3 a p b ((c then d) then e) ∙ ap (λ (v : Verdict). a then p then b then v) (then-assoc c d e))

  -- where these rows pass, words and job are right and both buffers of full size
  pub before-passed : rows_before ws prices plates cuts ≡ pass → ((job_words ws then price_words prices then admission (job_of ws)) ≡ pass) × ((plates_size ≤ length plates) × (cuts_size ≤ length cuts))
  before-passed e =
      let a = job_words ws then price_words prices then admission (job_of ws) in
      let b = then-second a _ e in
      (then-first a _ e, (sized-pass 1 plates_size plates (then-first (sized 1 plates_size plates) _ b), sized-pass 2 cuts_size cuts (then-second (sized 1 plates_size plates) _ b)))
