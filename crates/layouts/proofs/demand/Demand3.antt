-- Demand 3: its proof, for every job whose listing is not refused.
use Prim.Native.Nat.{ℕ}
use native.Mathlib.Omega.{arith}
use mathlib.Core.Path.{◌≡◌, refl, sym, ◌∙◌, ap}
use mathlib.Core.Logic.{inl, inr}
use mathlib.Core.Bool.{Bool, true, false}
use mathlib.Core.List.{List}
use lib.Dec.{ltb}
use lib.ListN.{length}
use Rattle.job.specs.Verdict.{Verdict, pass, refuse, ◌then◌, refuse_if}
use Rattle.job.specs.Buffers.{sized, plates_size, cuts_size, counts_size, placements_size, offcuts_size}
use Rattle.job.specs.Job.{job_words, admission}
use Rattle.job.specs.Admitted.{Admitted, Sided}
use Rattle.job.proofs.Verdicts.{then-first, then-second, then-both}
use Rattle.job.proofs.Admission.{admitted-words, admitted-job, admitted-sided, admitted-stocked}
use Rattle.job.proofs.Positions.{positions-exact}
use Rattle.listing.specs.Listing.{model_row}
use Rattle.listing.specs.Model.{Model}
use Rattle.listing.proofs.WalkModel.{row-model}
use Rattle.plan.specs.Prices.{prices_of, price_sum}
use Rattle.plan.proofs.PriceExact.{cheapest-exact}
use Rattle.layouts.specs.Layout.{Sheet, width_of, stack_height}
use Rattle.layouts.specs.Placement.{placement_words, lines_of, items_of_set}
use Rattle.layouts.specs.Lines.{lines_in, rows_of, layout_words, set_of}
use Rattle.layouts.specs.LayoutsRow.{layouts_row}
use Rattle.layouts.specs.UnfoldCall.{lengths_right, lengths_row, unfold_verdict}
use Rattle.layouts.specs.FoldCall.{fold_verdict}
use Rattle.layouts.specs.Demand3.{Listed, OnlyFive, Accepted, Named, Priced, Folds, Bounds, J, L, Demand3Of, Demand3}
use Rattle.layouts.proofs.lists.Every.{every_map}
use Rattle.layouts.proofs.row.RowLines.{words-rows, rows_words, lines-length}
use Rattle.layouts.proofs.row.RowWords.{LineOk, words-exact, words-set}
use Rattle.layouts.proofs.demand.DemandUnfold.{unfolds-so}
use Rattle.layouts.proofs.demand.DemandFold.{bounded, none-cheaper, folds-so}
use Rattle.layouts.proofs.demand.Exact.{tests-exact, in_order}

-- a check that passes leaves the refusals of those after it
five-after : (u v : Verdict) → u ≡ pass → OnlyFive v → OnlyFive (u then v)
five-after u v e h = rw e h

-- a short buffer is refused with 5
five-sized : (number size : ℕ) (buffer : List ℕ) (v : Verdict) → OnlyFive v → OnlyFive (sized number size buffer then v)
unfolding sized
five-sized number size buffer v h = go (ltb (length buffer) size)
  where
    go : (t : Bool) → OnlyFive (refuse_if t 5 number then v)
    go true = inr (number, refl)
    go false = h

-- two lengths within their limits pass
lengths-pass : (first second : ℕ) → lengths_right first second ≡ true → lengths_row first second ≡ pass
unfolding lengths_row
lengths-pass first second h = rw h

module _ (ws : List ℕ) (listed : Listed ws) where
  rest : (admission (J ws) then model_row (J ws)) ≡ pass
  rest = then-second (job_words ws) (admission (J ws) then model_row (J ws)) listed

  words : job_words ws ≡ pass
  words = then-first (job_words ws) (admission (J ws) then model_row (J ws)) listed

  fits : admission (J ws) ≡ pass
  fits = then-first (admission (J ws)) (model_row (J ws)) rest

  row : model_row (J ws) ≡ pass
  row = then-second (admission (J ws)) (model_row (J ws)) rest

  admitted : Admitted (J ws)
  admitted = admitted-job ws ((admitted-words ws).0 (then-both (job_words ws) (admission (J ws)) words fits))

  sided : Sided (J ws)
  sided = admitted-sided (J ws) admitted

  -- the listing of such a job is a model
  pub model : Model (J ws) (L ws)
  model = row-model (J ws) sided (admitted-stocked (J ws) admitted) row

  folds : (set : List Sheet) → Named (J ws) (L ws) set → Folds (J ws) (L ws) set
  folds set named =
      folds-so (J ws) (L ws) model sided admitted.each-size set named

  unfolds-but-for-five : (counts : List ℕ) → Accepted (J ws) (L ws) counts → (first second : ℕ) → lengths_right first second ≡ true → (plates cuts placements offcuts : List ℕ)
      → OnlyFive (unfold_verdict ws first second counts plates cuts placements offcuts)
  unfolding unfold_verdict
  unfolds-but-for-five counts plan first second h plates cuts placements offcuts =
      five-after (job_words ws) _ words
      (five-after (lengths_row first second) _ (lengths-pass first second h)
      (five-after (admission (J ws)) _ fits
      (five-sized 1 plates_size plates _
      (five-sized 2 cuts_size cuts _
      (five-sized 3 counts_size counts _
      (five-sized 4 placements_size placements _
      (five-sized 5 offcuts_size offcuts _
      (five-after (model_row (J ws)) _ row (inl plan.passed)))))))))

  lengths-refused : (first second : ℕ) → lengths_right first second ≡ false → (counts plates cuts placements offcuts : List ℕ)
      → unfold_verdict ws first second counts plates cuts placements offcuts ≡ refuse 2 0
  unfolding unfold_verdict lengths_row
  lengths-refused first second h counts plates cuts placements offcuts = rw (words, h)

  folds-but-for-five : (set : List Sheet) → Named (J ws) (L ws) set → (plates cuts counts : List ℕ) → OnlyFive (fold_verdict ws (placement_words (lines_of (J ws) set)) plates cuts counts)
  unfolding fold_verdict
  folds-but-for-five set named plates cuts counts =
      five-after (job_words ws) _ words
      (five-after (layout_words (J ws) (placement_words (lines_of (J ws) set))) _ (folds set named).words
      (five-after (admission (J ws)) _ fits
      (five-sized 1 plates_size plates _
      (five-sized 2 cuts_size cuts _
      (five-sized 3 counts_size counts _
      (five-after (model_row (J ws)) _ row (inl (rw (words-rows (lines_of (J ws) set)) (folds set named).row))))))))

  folds-only : (layouts plates cuts counts : List ℕ) → fold_verdict ws layouts plates cuts counts ≡ pass → Named (J ws) (L ws) (set_of layouts) × (layouts ≡ placement_words (lines_of (J ws) (set_of layouts)))
  unfolding fold_verdict set_of
  folds-only layouts plates cuts counts h =
      let a = then-second (job_words ws) _ h in
      let lines = then-first (layout_words (J ws) layouts) _ a in
      let b = then-second (layout_words (J ws) layouts) _ a in
      let c = then-second (admission (J ws)) _ b in
      let d = then-second (sized 1 plates_size plates) _ c in
      let e = then-second (sized 2 cuts_size cuts) _ d in
      let f = then-second (sized 3 counts_size counts) _ e in
      let g = then-second (model_row (J ws)) (layouts_row 1 (J ws) (rows_of layouts)) f in
      let s = words-set (J ws) 1 layouts lines g in
      let exact = (words-exact (J ws) layouts).0 lines in
      let number : length (rows_of layouts) ≡ length (items_of_set (set_of layouts)) = ap length s.lines ∙ lines-length (J ws) (set_of layouts) in (
        record { rules = s.rules; demands = s.demands; pieces = omega (arith, s.few) },
        sym (rows_words layouts exact.0 (every_map (λ r (q : LineOk (J ws) r). q.turned) (lines_in layouts) exact.1.0)) ∙ ap placement_words s.lines,
      )

  bounds : (prices : List ℕ) → Priced (J ws) (L ws) prices → Bounds (J ws) (L ws) (price_sum (J ws) (prices_of (J ws) prices)) (prices_of (J ws) prices).denominator
  bounds prices priced =
      record {
        at_least = λ set rules demands. bounded (J ws) (L ws) model sided set rules demands prices priced;
        none-cheaper = λ n few set rules demands.
            none-cheaper (J ws) (L ws) model sided set rules demands prices priced n ((cheapest-exact (J ws) (prices_of (J ws) prices) n).1 few);
      }

  demand3-of : Demand3Of ws
  demand3-of =
      record {
        unfolds = λ counts plan. unfolds-so (J ws) (L ws) model sided counts plan;
        unfolds-but-for-five = unfolds-but-for-five;
        lengths-refused = lengths-refused;
        folds = folds;
        folds-but-for-five = folds-but-for-five;
        folds-only = folds-only;
        bounds = bounds;
        cheapest-set = λ prices priced n few set rules demands. none-cheaper (J ws) (L ws) model sided set rules demands prices priced n few;
      }

-- demand 3
pub demand3 : Demand3
demand3 =
    record {
      every-listed = demand3-of;
      positions = positions-exact;
      tests = tests-exact;
      strip-order = λ job strip. in_order (stack_height job) strip;
      stack-order = λ job stack. in_order (width_of job) stack;
    }
