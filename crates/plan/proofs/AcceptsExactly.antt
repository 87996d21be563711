-- The plan test and the price test accept exactly what demand 2 says.
use Prim.Native.Nat.{ℕ, ◌+◌, ◌≤◌}
use native.Mathlib.Omega.{arith}
use mathlib.Core.Path.{◌≡◌, refl}
use mathlib.Core.Logic.{◌↔◌}
use mathlib.Core.List.{List}
use lib.ListN.{length}
use Rattle.job.specs.Sizes.{plates_size, cuts_size, counts_size}
use Rattle.job.specs.Verdict.{Verdict, pass, refuse}
use Rattle.job.specs.Buffers.{Answer, answer, sized}
use Rattle.job.specs.Job.{job_of, job_words, admission}
use Rattle.job.proofs.Verdicts.{then-both}
use Rattle.job.proofs.Buffers.{sized-pass, sized-full}
use Rattle.job.proofs.CodeEnds.{refused-not}
use Rattle.job.proofs.Decides.{decides_eq, Passes, passes-self, passes_then, passes-test}
use Rattle.job.proofs.Admission.{admitted-words, right-words, fitting-job}
use Rattle.listing.specs.Listing.{model_row, listing_of, residual_types}
use Rattle.plan.specs.Prices.{prices_of, price_words, prices_sized}
use Rattle.plan.specs.PlanCall.{plan_verdict}
use Rattle.plan.specs.PriceCall.{price_verdict}
use Rattle.plan.specs.Exactly.{PlanRight, PricesRight, Accepts, AcceptsExactly}
use Rattle.plan.proofs.PlanExact.{plan-exact, counts-exact}
use Rattle.plan.proofs.PriceExact.{prices-exact, price-words-exact}

-- a buffer passes exactly where it is of full size
full : (number size : ℕ) (buffer : List ℕ) → Passes (sized number size buffer) (size ≤ length buffer)
full number size buffer = (sized-pass number size buffer, sized-full number size buffer)

module _ (ws plates cuts : List ℕ) where
  plan-accepted : (counts : List ℕ) → (plan_verdict ws counts plates cuts ≡ pass) ↔ PlanRight ws counts plates cuts
  unfolding plan_verdict
  plan-accepted counts =
      let job = job_of ws in
      let l = listing_of job in
      let rows =
      passes_then (passes-self (job_words ws))
      (passes_then (passes-self (admission job))
      (passes_then (full 1 plates_size plates)
      (passes_then (full 2 cuts_size cuts)
      (passes_then (full 3 counts_size counts)
      (passes_then (passes-self (model_row job))
      (passes_then (counts-exact l counts) (plan-exact job l counts))))))) in (
        λ h.
            let (words, (fits, (plates-full, (cuts-full, (counts-full, (within-limits, (none-past, feasible))))))) = rows.0 h in
            record {
              admitted = (admitted-words ws).0 (then-both (job_words ws) (admission job) words fits);
              plates-full = plates-full;
              cuts-full = cuts-full;
              counts-full = counts-full;
              within-limits = within-limits;
              none-past = none-past;
              feasible = feasible;
            },
        λ r.
            rows.1 (right-words ws r.admitted.right, (fitting-job job r.admitted.fitting, (r.plates-full, (r.cuts-full, (r.counts-full, (r.within-limits, (r.none-past, r.feasible))))))),
      )

  prices-accepted : (prices : List ℕ) → (price_verdict ws prices plates cuts ≡ pass) ↔ PricesRight ws prices plates cuts
  unfolding price_verdict prices_sized
  prices-accepted prices =
      let job = job_of ws in
      let l = listing_of job in
      let size = 1 + length job.items + residual_types l in
      let rows =
      passes_then (passes-self (job_words ws))
      (passes_then (passes-self (price_words prices))
      (passes_then (passes-self (admission job))
      (passes_then (full 1 plates_size plates)
      (passes_then (full 2 cuts_size cuts)
      (passes_then (passes-self (model_row job))
      (passes_then (passes-test 13 0 (decides_eq (length prices) size)) (prices-exact job l (prices_of job prices)))))))) in (
        λ h.
            let (words, (priced, (fits, (plates-full, (cuts-full, (within-limits, (number, feasible))))))) = rows.0 h in
            let limits = (price-words-exact prices (omega arith)).0 priced in
            record {
              admitted = (admitted-words ws).0 (then-both (job_words ws) (admission job) words fits);
              plates-full = plates-full;
              cuts-full = cuts-full;
              within-limits = within-limits;
              number = number;
              denominator-limits = limits.0;
              price-limits = limits.1;
              feasible = feasible;
            },
        λ r.
            let priced = (price-words-exact prices (omega (arith, r.number))).1 (r.denominator-limits, r.price-limits) in
            rows.1 (right-words ws r.admitted.right, (priced, (fitting-job job r.admitted.fitting, (r.plates-full, (r.cuts-full, (r.within-limits, (r.number, r.feasible))))))),
      )

pub accepts-exactly : AcceptsExactly
accepts-exactly =
    record {
      plans = λ ws counts plates cuts. plan-accepted ws plates cuts counts;
      prices = λ ws prices plates cuts. prices-accepted ws plates cuts prices;
    }

-- an answer by a verdict accepts exactly where the verdict passes
pub answer-accepts : {P : Type 0} (v : Verdict) (results : List ℕ) (a : Answer) → a ≡ answer v results → Passes v P → Accepts a ↔ P
answer-accepts pass results a e p = (λ _. p.0 refl, λ _. rw e tt)
answer-accepts (refuse number place) results a e p = (λ h. absurd (rw e at h), λ h. absurd (refused-not (p.1 h)))
