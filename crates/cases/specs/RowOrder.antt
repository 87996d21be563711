-- Document 01, "Where each number is given": "rows apply from the top, within a row lower numbers first, each over all its places, lowest place first",
-- for every input of each call and each text. The rows stand in the table's order, with its numbers, sizes and limits as figures.
use Rattle.std.specs.Prelude.{ℕ, suc, ◌+◌, ◌-◌, ◌*◌, ◌/◌, ◌%◌, ◌≡◌, false, ◌&&◌, ltb, eqb, length, get_or, drop, replicate}
use Rattle.std.proofs.Math.Bool.{true, not}
use mathlib.Core.List.{List, [], ◌∷◌, ◌++◌}
use Rattle.std.proofs.Math.Option.{some}
use Rattle.job.specs.Verdict.{Verdict, pass, refuse, refuse_if, within, lowest}
use Rattle.job.specs.Buffers.{ends, sized}
use Rattle.job.specs.Job.{Job, permitted, job_of, board_right, item_right, job_words, larger, demanded, admission}
use Rattle.listing.specs.Listing.{Listing, going, stopped, walk, model_row, listing_of}
use Rattle.listing.specs.ListCall.{list_verdict}
use Rattle.plan.specs.Plan.{total, short, overdrawn, counts_row, plan_row}
use Rattle.plan.specs.Prices.{prices_of, price_words, over_limit, model_sized, prices_sized, prices_row}
use Rattle.plan.specs.PlanCall.{plan_verdict}
use Rattle.plan.specs.PriceCall.{price_verdict}
use Rattle.layouts.specs.Placement.{Placement, lines_of}
use Rattle.layouts.specs.Lines.{lines_in, rows_of, row_right, layout_words, turns, grouped}
use Rattle.layouts.specs.LayoutsRow.{laid_set, lowest_strip, breaks_stage, past_board, positioned, lacks, layouts_row}
use Rattle.layouts.specs.UnfoldCall.{lengths_row, unfold_verdict}
use Rattle.layouts.specs.FoldCall.{fold_verdict}
use Rattle.texts.specs.Shape.{Shape, formed, each_within, values, numbers_row}
use Rattle.texts.specs.Reader.{started, fed, text_row, written}
use Rattle.texts.specs.SawText.{Saw, PriceLines, saw_grammar, cuts_named, plates_shown, cuts_rising, plan_counts, price_lines_row, saw_rows, saw_lines, saw_text}
use Rattle.texts.specs.FoldText.{Fold, fold_grammar, fold_rows, fold_lines, fold_text}

-- what some rows say: the first refusal from the top, or that all pass
unfoldable pub from_the_top : List Verdict → Verdict
from_the_top [] = pass
from_the_top (pass ∷ rows) = from_the_top rows
from_the_top (refuse number place ∷ rows) = refuse number place

-- the number of a text's first line after the job's: one line 1, t lines 10 (request Six), and n lines 2
abbrev pub first_after_job : List ℕ → ℕ
first_after_job ws = suc (suc (get_or ws 2 0 + get_or ws 3 0))

-- the numbers within each row
pub record WithinRows : Type 0 where
  -- job words: 1, then 2 of the head and the sizes (request Six), then 2 of the types
  pub job-words :
      (ws : List ℕ)
      → job_words ws
      ≡ from_the_top
      (refuse_if (not (eqb (length ws) (5 + 3 * get_or ws 2 0 + 4 * get_or ws 3 0))) 1 0
      ∷ refuse_if (not (board_right ws)) 2 0
      ∷ lowest 2 (λ _ it. not (item_right it)) 1 (job_of ws).items
      ∷ [])
  -- layout words: 1, then 2 over all lines, then request One's 19 over all lines
  pub layout-words :
      (job : Job) (ws : List ℕ)
      → layout_words job ws
      ≡ from_the_top
      (refuse_if (not (eqb (length ws % 9) 0)) 1 (suc (length ws / 9))
      ∷ lowest 2 (λ _ r. not (row_right job r)) 1 (lines_in ws)
      ∷ lowest 19 (λ _ r. not (permitted job r.item)) 1 (rows_of ws)
      ∷ [])
  -- the lengths of an unfolding: request Two's 2
  pub lengths :
      (first second : ℕ)
      → lengths_row first second
      ≡ from_the_top (refuse_if (not (within 1 10000 first && within 1 10000 second)) 2 0 ∷ [])
  -- a line of a text that is of the form, and "1" has not been given: 2, then request One's 19, on this line alone
  pub text-line :
      (line : ℕ) (s : Shape) (ss : List Shape) (ns : List ℕ)
      → formed s ns ≡ true
      → numbers_row line (s ∷ ss) ns
      ≡ from_the_top
      (refuse_if (not (each_within s.limits (values s ns))) 2 line
      ∷ refuse_if (not (s.permits (values s ns))) 19 line
      ∷ [])
  -- the job: 3, 4
  pub job :
      (job : Job)
      → admission job
      ≡ from_the_top
      (lowest 3 (λ _ it. larger job it) 1 job.items
      ∷ refuse_if (ltb 4000 (demanded job)) 4 0
      ∷ [])
  -- the model: 6 or 7, as the walk has met it, at place 0
  pub model-refused : (job : Job) (number : ℕ) → walk job ≡ stopped number → model_row job ≡ refuse number 0
  pub model-passed : (job : Job) (l : Listing) → walk job ≡ going l → model_row job ≡ pass
  -- the plan after 8, 20 and 9: 10, 11, 12
  pub plan :
      (job : Job) (l : Listing) (ns : List ℕ)
      → plan_row job l ns
      ≡ from_the_top
      (refuse_if (ltb 4000 (total ns)) 10 0
      ∷ lowest 11 (short l ns) 1 job.items
      ∷ lowest 12 (overdrawn l ns) l.sizes (drop l.sizes l.plates)
      ∷ [])
  -- the prices of a text: 13, 14
  pub prices :
      (job : Job) (l : Listing) (ps : PriceLines)
      → price_lines_row job l (some ps)
      ≡ from_the_top
      (model_sized job l ps.types ps.residuals
      ∷ lowest 14 (λ _ c. over_limit job (prices_of job ps.words) c) 1 l.cuts
      ∷ [])
  -- "the layouts row runs 10, 15, 16, 17, 18, then 11", over lines that are numbered from k
  pub layouts :
      (k : ℕ) (job : Job) (rs : List Placement)
      → layouts_row k job rs
      ≡ from_the_top
      (refuse_if (ltb 4000 (length rs)) 10 0
      ∷ turns k rs
      ∷ lowest_strip 16 (breaks_stage job) (laid_set job k (grouped rs))
      ∷ lowest_strip 17 (past_board job) (laid_set job k (grouped rs))
      ∷ positioned k rs (lines_of job (grouped rs))
      ∷ lowest 11 (lacks rs) 1 job.items
      ∷ [])

-- the rows of each call
pub record RowsOfCalls : Type 0 where
  -- line, job, buffers 1 and 2, model
  pub listing :
      (ws plates cuts : List ℕ)
      → list_verdict ws plates cuts
      ≡ from_the_top
      (job_words ws
      ∷ admission (job_of ws)
      ∷ sized 1 8192 plates
      ∷ sized 2 32768 cuts
      ∷ model_row (job_of ws)
      ∷ [])
  -- line, job, buffers 1 to 3, model, plan: 8, and from 10 on
  pub plan :
      (ws counts plates cuts : List ℕ)
      → plan_verdict ws counts plates cuts
      ≡ from_the_top
      (job_words ws
      ∷ admission (job_of ws)
      ∷ sized 1 8192 plates
      ∷ sized 2 32768 cuts
      ∷ sized 3 8192 counts
      ∷ model_row (job_of ws)
      ∷ counts_row (listing_of (job_of ws)) counts
      ∷ plan_row (job_of ws) (listing_of (job_of ws)) counts
      ∷ [])
  -- line: "words of prices and layouts belong to the line row, after the job's words"; job, buffers 1 and 2, model, prices: 13, 14
  pub prices :
      (ws prices plates cuts : List ℕ)
      → price_verdict ws prices plates cuts
      ≡ from_the_top
      (job_words ws
      ∷ price_words prices
      ∷ admission (job_of ws)
      ∷ sized 1 8192 plates
      ∷ sized 2 32768 cuts
      ∷ model_row (job_of ws)
      ∷ prices_sized (job_of ws) (listing_of (job_of ws)) prices
      ∷ prices_row (job_of ws) (listing_of (job_of ws)) (prices_of (job_of ws) prices)
      ∷ [])
  -- as the plan test, with request Two's lengths in the line row, after the job's words, and buffers 4 and 5
  pub unfolding' :
      (ws : List ℕ) (first second : ℕ) (counts plates cuts placements offcuts : List ℕ)
      → unfold_verdict ws first second counts plates cuts placements offcuts
      ≡ from_the_top
      (job_words ws
      ∷ lengths_row first second
      ∷ admission (job_of ws)
      ∷ sized 1 8192 plates
      ∷ sized 2 32768 cuts
      ∷ sized 3 8192 counts
      ∷ sized 4 36000 placements
      ∷ sized 5 48000 offcuts
      ∷ model_row (job_of ws)
      ∷ counts_row (listing_of (job_of ws)) counts
      ∷ plan_row (job_of ws) (listing_of (job_of ws)) counts
      ∷ [])
  -- line, job, buffers 1 to 3, model, layouts, whose lines count "from the first .. of the layout words"
  pub folding :
      (ws layouts plates cuts counts : List ℕ)
      → fold_verdict ws layouts plates cuts counts
      ≡ from_the_top
      (job_words ws
      ∷ layout_words (job_of ws) layouts
      ∷ admission (job_of ws)
      ∷ sized 1 8192 plates
      ∷ sized 2 32768 cuts
      ∷ sized 3 8192 counts
      ∷ model_row (job_of ws)
      ∷ layouts_row 1 (job_of ws) (rows_of layouts)
      ∷ [])

-- the rows of each text; lines count "from the first of the text"
pub record RowsOfTexts : Type 0 where
  -- the line row, then the others
  pub saw-text :
      (bs : List ℕ)
      → let r = fed saw_grammar (started saw_grammar) bs in
      saw_text bs ≡ written (from_the_top (text_row saw_grammar r ∷ saw_rows r.state ∷ [])) (saw_lines r.state)
  -- job, model, plan: 8, request Five's 20, 9, and from 10 on; prices
  pub saw :
      (s : Saw)
      → let job = job_of s.job in
      let l = listing_of job in
      let line = first_after_job s.job in
      saw_rows s
      ≡ from_the_top
      (admission job
      ∷ model_row job
      ∷ cuts_named l line s.plan
      ∷ plates_shown l line s.plan
      ∷ cuts_rising l 0 line s.plan
      ∷ plan_row job l (plan_counts l s.plan)
      ∷ price_lines_row job l s.prices
      ∷ [])
  -- the line row, then the others
  pub fold-text :
      (bs : List ℕ)
      → let r = fed fold_grammar (started fold_grammar) bs in
      fold_text bs ≡ written (from_the_top (text_row fold_grammar r ∷ fold_rows r.state ∷ [])) (fold_lines r.state)
  -- job, model, layouts
  pub fold :
      (f : Fold)
      → let job = job_of f.job in
      fold_rows f
      ≡ from_the_top
      (admission job
      ∷ model_row job
      ∷ layouts_row (first_after_job f.job) job (rows_of f.layouts)
      ∷ [])

-- "after 5 output buffers are unchanged; after any other refusal every word of them is 0; after success unused words are 0": of every buffer, whatever it held
pub record BuffersAfter : Type 0 where
  pub after-five : (place : ℕ) (buffer ws : List ℕ) → ends (refuse 5 place) buffer ws ≡ buffer
  pub after-refusal :
      (number place : ℕ) (buffer ws : List ℕ)
      → eqb number 5 ≡ false
      → ends (refuse number place) buffer ws ≡ replicate (length buffer) 0
  pub after-success : (buffer ws : List ℕ) → ends pass buffer ws ≡ ws ++ replicate (length buffer - length ws) 0
