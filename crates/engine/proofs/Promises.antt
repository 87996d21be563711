-- What a refusal number of 0 says: which calls have it exactly where they accept, and what it promises.
use mathlib.Core.Path.{◌≡◌, refl, ap}
use mathlib.Core.Logic.{◌↔◌}
use mathlib.Core.List.{List, [], ◌∷◌}
use Rattle.std.proofs.Common.{Result, Ok}
use Prim.Native.Nat.{ℕ, ◌≤◌}
use native.Mathlib.Omega.{arith}
use lib.ListN.{length, get_or}
use Rattle.job.specs.Sizes.{words_of_head, plates_size, cuts_size, counts_size, placements_size, offcuts_size}
use Rattle.job.specs.Verdict.{Verdict, pass, refuse}
use Rattle.job.specs.declared.refused.Refused.{Refused}
use Rattle.job.specs.Buffers.{given, refused, answer, sized}
use Rattle.job.specs.Job.{job_of, job_words, admission}
use Rattle.job.proofs.Verdicts.{then-first}
use Rattle.job.proofs.SizeWords.{sizes-length}
use Rattle.job.proofs.CodeAdmission.{passed_length}
use Rattle.job.proofs.CodeEnds.{refused-not, refused-refuse, given-pass}
use Rattle.job.proofs.Decides.{Passes}
use Rattle.listing.specs.Listing.{model_row, listing_of}
use Rattle.listing.specs.ListCall.{list_verdict, list_answer}
use Rattle.plan.specs.Prices.{prices_of, price_words}
use Rattle.plan.specs.PlanCall.{plan_verdict, plan_answer}
use Rattle.plan.specs.PriceCall.{price_verdict, price_answer}
use Rattle.plan.specs.Exactly.{PlanRight, PricesRight}
use Rattle.plan.proofs.AcceptsExactly.{accepts-exactly}
use Rattle.layouts.specs.Lines.{rows_of, layout_words}
use Rattle.layouts.specs.FoldCall.{fold_verdict, fold_answer}
use Rattle.layouts.specs.UnfoldCall.{lengths_row, unfold_verdict, unfold_answer}
use Rattle.layouts.specs.Promises.{PricePromise}
use Rattle.price_test.specs.declared.prices.Bound.{Bound}
use Rattle.price_test.specs.PriceSays.{OnAccepted}
use Rattle.unfold_run.specs.declared.run.Ran.{Ran}
use Rattle.unfold_call.specs.UnfoldSays.{OnSuccess}
use Rattle.fold_call.specs.declared.boards.Boards.{Boards}
use Rattle.fold_call.specs.FoldSays.{OnSuccess as OnFolded}
use Rattle.answers.specs.AnswerWords.{answer_words, four_words, WordsAccept, WhereAccepted, WhereUnfolded}
use Rattle.engine.proofs.Numbers.{Above, above_then, words-above, lengths-above, admission-above, sized-above, model-above, plan-above, price-words-above, prices-above}
use Rattle.engine.proofs.LayoutNumbers.{layout-words-above, layouts-above}

-- the same words have the same number first
first_word : {words words' : List ℕ} → words ≡ words' → get_or words 0 0 ≡ get_or words' 0 0
first_word w = ap (λ (l : List ℕ). get_or l 0 0) w

-- a refusal accepts nothing, since its number is above 0
none-refused :
    (v : Verdict) (results words : List ℕ) {number place : ℕ}
    → Above v
    → refused number place ≡ answer v results
    → get_or words 0 0 ≡ number
    → WordsAccept words
    → ⊥
none-refused v results words {number} {place} a e same zero =
    let h = a.above number place (refused-refuse v results e) in
    omega arith

-- the number is 0 exactly where the verdict passes
zero-accepts : {P : Type 0} (v : Verdict) (results words : List ℕ) → Above v → words ≡ answer_words (answer v results) → Passes v P → WordsAccept words ↔ P
zero-accepts pass results words a w p = (λ zero. p.0 refl, λ h. rw w)
zero-accepts (refuse number place) results words a w p = (
  λ zero.
      let h = a.above number place refl in
      let same : get_or words 0 0 ≡ number = first_word w in
      absurd (omega arith),
  λ h. absurd (refused-not (p.1 h)),
)

module _ (ws plates cuts : List ℕ) where
  list-above : Above (list_verdict ws plates cuts)
  unfolding list_verdict
  list-above =
      above_then (job_words ws) _ (words-above ws)
      (above_then (admission (job_of ws)) _ (admission-above (job_of ws))
      (above_then (sized 1 plates_size plates) _ (sized-above 1 plates_size plates)
      (above_then (sized 2 cuts_size cuts) _ (sized-above 2 cuts_size cuts)
      (model-above (job_of ws)))))

  -- where the listing refuses, no more is promised
  pub list-refused : (words : List ℕ) {number place : ℕ} → refused number place ≡ list_answer ws plates cuts → words ≡ answer_words (refused number place) → WordsAccept words → ⊥
  unfolding list_answer
  list-refused words e w = none-refused (list_verdict ws plates cuts) _ words list-above e (first_word w)

  -- where it is accepted, the job's words have passed: the head has its words, and there are as many sizes as it says
  list-words : (results : List ℕ) → given results ≡ list_answer ws plates cuts → job_words ws ≡ pass
  unfolding list_answer list_verdict
  list-words results e = then-first (job_words ws) _ (given-pass (list_verdict ws plates cuts) _ e)

  pub list-head : (results : List ℕ) → given results ≡ list_answer ws plates cuts → words_of_head ≤ length ws
  list-head results e = omega (arith, passed_length ws (list-words results e))

  pub list-sizes : (results : List ℕ) → given results ≡ list_answer ws plates cuts → length (job_of ws).sizes ≡ get_or ws 2 0
  list-sizes results e = sizes-length ws (omega (arith, passed_length ws (list-words results e)))

module _ (ws counts plates cuts : List ℕ) where
  test-above : Above (plan_verdict ws counts plates cuts)
  unfolding plan_verdict
  test-above =
      above_then (job_words ws) _ (words-above ws)
      (above_then (admission (job_of ws)) _ (admission-above (job_of ws))
      (above_then (sized 1 plates_size plates) _ (sized-above 1 plates_size plates)
      (above_then (sized 2 cuts_size cuts) _ (sized-above 2 cuts_size cuts)
      (above_then (sized 3 counts_size counts) _ (sized-above 3 counts_size counts)
      (above_then (model_row (job_of ws)) _ (model-above (job_of ws))
      (plan-above (job_of ws) (listing_of (job_of ws)) counts))))))

  -- the plan test accepts exactly what is right
  pub plan-exactly : (words : List ℕ) → words ≡ answer_words (plan_answer ws counts plates cuts) → WordsAccept words ↔ PlanRight ws counts plates cuts
  unfolding plan_answer
  plan-exactly words w =
      zero-accepts (plan_verdict ws counts plates cuts) _ words test-above w (accepts-exactly.plans ws counts plates cuts)

module _ (ws prices plates cuts : List ℕ) where
  price-above : Above (price_verdict ws prices plates cuts)
  unfolding price_verdict
  price-above =
      above_then (job_words ws) _ (words-above ws)
      (above_then (price_words prices) _ (price-words-above prices)
      (above_then (admission (job_of ws)) _ (admission-above (job_of ws))
      (above_then (sized 1 plates_size plates) _ (sized-above 1 plates_size plates)
      (above_then (sized 2 cuts_size cuts) _ (sized-above 2 cuts_size cuts)
      (above_then (model_row (job_of ws)) _ (model-above (job_of ws))
      (prices-above (job_of ws) (listing_of (job_of ws)) prices (prices_of (job_of ws) prices)))))))

  -- the price test accepts exactly what is right
  pub prices-exactly : (words : List ℕ) → words ≡ answer_words (price_answer ws prices plates cuts) → WordsAccept words ↔ PricesRight ws prices plates cuts
  unfolding price_answer
  prices-exactly words w =
      zero-accepts (price_verdict ws prices plates cuts) _ words price-above w (accepts-exactly.prices ws prices plates cuts)

  -- and where it refuses, no more is promised
  pub price-refused : (words : List ℕ) {number place : ℕ} → refused number place ≡ price_answer ws prices plates cuts → words ≡ answer_words (refused number place) → WordsAccept words → ⊥
  unfolding price_answer
  price-refused words e w = none-refused (price_verdict ws prices plates cuts) _ words price-above e (first_word w)

-- the price test's promise, where it accepts
pub price-accepted : (ws words : List ℕ) (r : Result Bound Refused) {b : Bound} → r ≡ Ok b → OnAccepted r (PricePromise ws) → words ≡ answer_words (given (b.sum ∷ b.d ∷ [])) → WhereAccepted words (PricePromise ws)
price-accepted ws words r told h w = rw w (λ zero. rw told at h)

module _ (ws : List ℕ) (first second : ℕ) (counts plates cuts placements offcuts : List ℕ) where
  unfold-above : Above (unfold_verdict ws first second counts plates cuts placements offcuts)
  unfolding unfold_verdict
  unfold-above =
      above_then (job_words ws) _ (words-above ws)
      (above_then (lengths_row first second) _ (lengths-above first second)
      (above_then (admission (job_of ws)) _ (admission-above (job_of ws))
      (above_then (sized 1 plates_size plates) _ (sized-above 1 plates_size plates)
      (above_then (sized 2 cuts_size cuts) _ (sized-above 2 cuts_size cuts)
      (above_then (sized 3 counts_size counts) _ (sized-above 3 counts_size counts)
      (above_then (sized 4 placements_size placements) _ (sized-above 4 placements_size placements)
      (above_then (sized 5 offcuts_size offcuts) _ (sized-above 5 offcuts_size offcuts)
      (above_then (model_row (job_of ws)) _ (model-above (job_of ws))
      (plan-above (job_of ws) (listing_of (job_of ws)) counts)))))))))

  -- where the unfolding refuses, no more is promised
  pub unfold-refused : (words : List ℕ) {number place : ℕ} → refused number place ≡ unfold_answer ws first second counts plates cuts placements offcuts → words ≡ four_words (refused number place) → WordsAccept words → ⊥
  unfolding unfold_answer
  unfold-refused words e w =
      none-refused (unfold_verdict ws first second counts plates cuts placements offcuts) _ words unfold-above e (first_word w)

-- the unfolding's promise, where it accepts
pub unfold-accepted : (words : List ℕ) (r : Result Ran Refused) {a : Ran} (promise : ℕ → ℕ → ℕ → Type 0) → r ≡ Ok a → OnSuccess r promise → words ≡ four_words (given (a.boards ∷ a.pieces ∷ a.offcuts ∷ [])) → WhereUnfolded words promise
unfold-accepted words r promise told h w = rw w (λ zero. rw told at h)

module _ (ws layouts plates cuts counts : List ℕ) where
  fold-above : Above (fold_verdict ws layouts plates cuts counts)
  unfolding fold_verdict
  fold-above =
      above_then (job_words ws) _ (words-above ws)
      (above_then (layout_words (job_of ws) layouts) _ (layout-words-above (job_of ws) layouts)
      (above_then (admission (job_of ws)) _ (admission-above (job_of ws))
      (above_then (sized 1 plates_size plates) _ (sized-above 1 plates_size plates)
      (above_then (sized 2 cuts_size cuts) _ (sized-above 2 cuts_size cuts)
      (above_then (sized 3 counts_size counts) _ (sized-above 3 counts_size counts)
      (above_then (model_row (job_of ws)) _ (model-above (job_of ws))
      (layouts-above 1 (job_of ws) (rows_of layouts))))))))

  -- where the folding refuses, no more is promised
  pub fold-refused : (words : List ℕ) {number place : ℕ} → refused number place ≡ fold_answer ws layouts plates cuts counts → words ≡ answer_words (refused number place) → WordsAccept words → ⊥
  unfolding fold_answer
  fold-refused words e w = none-refused (fold_verdict ws layouts plates cuts counts) _ words fold-above e (first_word w)

-- the folding's promise, where it accepts
pub fold-accepted : (words : List ℕ) (r : Result Boards Refused) {b : Boards} (promise : ℕ → ℕ → Type 0) → r ≡ Ok b → OnFolded r promise → words ≡ answer_words (given (b.number ∷ b.cost ∷ [])) → WhereAccepted words promise
fold-accepted words r promise told h w = rw w (λ zero. rw told at h)
