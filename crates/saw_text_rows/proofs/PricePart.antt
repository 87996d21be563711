-- The prices row of a saw text by what is kept of its lines 4, 5 and 6.
use Prim.Native.Nat.{ℕ, ◌+◌, ◌-◌}
use native.Mathlib.Decide.{ℕ_discrete}
use native.Mathlib.Omega.{arith}
use mathlib.Core.Path.{◌≡◌, refl, sym, ap, ◌∙◌}
use mathlib.Core.Bool.{Bool, true, false, not, ◌||◌}
use mathlib.Core.List.{List, [], ◌∷◌}
use mathlib.Core.Option.{Option, none, some}
use lib.Dec.{eqb}
use lib.ListN.{length, take}
use borrow.Author.Tests.{eq-eqb, ne_eqb}
use Rattle.job.specs.Verdict.{pass, refuse, ◌then◌}
use Rattle.job.specs.Buffers.{Answer, given, refused, answer}
use Rattle.job.specs.Job.{Job}
use Rattle.job.proofs.Tests.{not-both}
use Rattle.job.proofs.Verdicts.{pass-not-refuse}
use Rattle.listing.specs.Listing.{Listing, residual_types}
use Rattle.plan.specs.Prices.{prices_of, price_words, model_sized, prices_sized, prices_row}
use Rattle.price_test.specs.PriceSays.{sum_and_d}
use Rattle.texts.specs.SawText.{PriceLines, price_lines_row}
use Rattle.texts.proofs.CallRows.{model-sized}
use Rattle.texts_writing.specs.Wrote.{sum_given, denominator_given}
use Rattle.saw_text_body.specs.declared.price_lines.PriceLines.{PriceLines as CodePrices}
use Rattle.texts_reading.proofs.JobKept.{held-take}
use Rattle.saw_text_rows.specs.Tail.{PricesGiven, PricesEnd}

or-last : (t : Bool) → (t || true) ≡ true
or-last true = refl
or-last false = refl

-- the sum and D
abbrev pub results : Job → Option PriceLines → List ℕ
results job o = sum_given job o ∷ denominator_given job o ∷ []

module _ (job : Job) (l : Listing) (ps : PriceLines) (p : CodePrices) (buffer : List ℕ) (t n m : ℕ) (items : length job.items ≡ n) (sizes : l.sizes ≡ t) (types : length l.plates ≡ m) (g : PricesGiven ps p buffer) where
  -- the residual types are all plate types but the sizes
  residuals-are : residual_types l ≡ m - t
  unfolding residual_types
  residuals-are = omega (arith, sizes, types)

  -- 13: another n or another m
  pub other-numbers : ((p.types.0 ≡ n) × (p.residuals ≡ m - t) → ⊥) → refused 13 0 ≡ answer (price_lines_row job l (some ps)) (results job (some ps))
  unfolding price_lines_row model_sized
  other-numbers h = go (ℕ_discrete ps.types (length job.items)) (ℕ_discrete ps.residuals (residual_types l))
    where
      go : Dec (ps.types ≡ length job.items) → Dec (ps.residuals ≡ residual_types l) → refused 13 0 ≡ answer (price_lines_row job l (some ps)) (results job (some ps))
      go (no q) d = rw (ne_eqb ps.types (length job.items) q)
      go (yes q) (no z) = rw (ne_eqb ps.residuals (residual_types l) z, or-last (not (eqb ps.types (length job.items))))
      go (yes q) (yes z) = absurd (h (g.types ∙ q ∙ items, g.residuals ∙ z ∙ residuals-are))

  module _ (te : p.types.0 ≡ n) (r : p.residuals ≡ m - t) where
    -- both are the model's
    sized : model_sized job l ps.types ps.residuals ≡ pass
    unfolding model_sized
    sized =
        rw (eq-eqb ps.types (length job.items) (sym g.types ∙ te ∙ sym items), eq-eqb ps.residuals (residual_types l) (sym g.residuals ∙ r ∙ sym residuals-are))

    -- the price words are the first words of the buffer
    words_are : take (1 + n + (m - t)) buffer ≡ ps.words
    words_are = held-take (1 + n + (m - t)) (g.size ∙ omega (arith, g.types, g.residuals)) g.words

    pub words-pass : {number place : ℕ} → refuse number place ≡ price_words (take (1 + n + (m - t)) buffer) → ⊥
    words-pass e = pass-not-refuse (ap price_words words_are ∙ g.passed) (sym e)

    -- 14
    pub rows-given :
        {a : Answer}
        → a ≡ answer (prices_sized job l (take (1 + n + (m - t)) buffer) then prices_row job l (prices_of job (take (1 + n + (m - t)) buffer))) (sum_and_d job (take (1 + n + (m - t)) buffer))
        → a ≡ answer (price_lines_row job l (some ps)) (results job (some ps))
    unfolding price_lines_row sum_given denominator_given
    rows-given e =
        e
        ∙ ap (λ (ws : List ℕ). answer (prices_sized job l ws then prices_row job l (prices_of job ws)) (sum_and_d job ws)) words_are
        ∙ rw (model-sized job l ps.types ps.residuals ps.words g.size sized, sized)

-- whether there is a line 4
module _ (job : Job) (l : Listing) (p : CodePrices) (buffer : List ℕ) where
  pub with-prices :
      {a : Answer} (o : Option PriceLines)
      → p.given ≡ true
      → PricesEnd o p buffer
      → ((ps : PriceLines) → PricesGiven ps p buffer → a ≡ answer (price_lines_row job l (some ps)) (results job (some ps)))
      → a ≡ answer (price_lines_row job l o) (results job o)
  with-prices none t h f = absurd (not-both t h)
  with-prices (some ps) t h f = f ps h.1

  pub without-prices :
      (o : Option PriceLines) → p.given ≡ false → PricesEnd o p buffer → given (0 ∷ 1 ∷ []) ≡ answer (price_lines_row job l o) (results job o)
  unfolding price_lines_row sum_given denominator_given
  without-prices none t h = refl
  without-prices (some ps) t h = absurd (not-both h.0 t)
