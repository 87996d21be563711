-- The rows of calls and texts in their order, for every input.
use Prim.Native.Nat.{ℕ}
use mathlib.Core.Path.{◌≡◌, refl, ap, ◌∙◌}
use mathlib.Core.Bool.{true, false, not}
use mathlib.Core.List.{List, [], ◌∷◌}
use lib.Dec.{eqb}
use lib.ListN.{length, replicate}
use Rattle.job.specs.Verdict.{Verdict, pass, refuse, ◌then◌, refuse_if}
use Rattle.job.specs.Buffers.{ends, filled}
use Rattle.job.specs.Job.{job_words, admission}
use Rattle.listing.specs.ListCall.{list_verdict}
use Rattle.listing.proofs.Steps.{row-going, row-stopped}
use Rattle.plan.specs.Plan.{plan_row}
use Rattle.plan.specs.Prices.{prices_row}
use Rattle.plan.specs.PlanCall.{plan_verdict}
use Rattle.plan.specs.PriceCall.{price_verdict}
use Rattle.layouts.specs.Lines.{layout_words}
use Rattle.layouts.specs.LayoutsRow.{layouts_row}
use Rattle.layouts.specs.UnfoldCall.{lengths_right, lengths_row, unfold_verdict}
use Rattle.layouts.specs.FoldCall.{fold_verdict}
use Rattle.texts.specs.Shape.{Shape, formed, each_within, values, numbers_row}
use Rattle.texts.specs.Reader.{started, fed, text_row, written}
use Rattle.texts.specs.SawText.{saw_grammar, price_lines_row, saw_rows, saw_lines, saw_written, saw_text}
use Rattle.texts.specs.FoldText.{fold_grammar, fold_rows, fold_lines, fold_written, fold_text}
use Rattle.cases.specs.RowOrder.{from_the_top, WithinRows, RowsOfCalls, RowsOfTexts, BuffersAfter}

-- rows one after another, as the definitions have them
unfoldable chain : List Verdict → Verdict
chain [] = pass
chain (v ∷ []) = v
chain (v ∷ w ∷ rows) = v then chain (w ∷ rows)

chained : (rows : List Verdict) → chain rows ≡ from_the_top rows
unfolding chain from_the_top
chained [] = refl
chained (pass ∷ []) = refl
chained (refuse number place ∷ []) = refl
chained (pass ∷ w ∷ rows) = chained (w ∷ rows)
chained (refuse number place ∷ w ∷ rows) = refl

-- a line of a text that is of the form
line_row :
    (line : ℕ) (s : Shape) (ss : List Shape) (ns : List ℕ)
    → formed s ns ≡ true
    → numbers_row line (s ∷ ss) ns
    ≡ (refuse_if (not (each_within s.limits (values s ns))) 2 line then refuse_if (not (s.permits (values s ns))) 19 line)
unfolding numbers_row
line_row line s ss ns e = rw (e, numbers_row)

pub within_rows : WithinRows
unfolding chain job_words layout_words lengths_right lengths_row admission plan_row price_lines_row prices_row layouts_row
within_rows =
    record {
      job-words = λ ws. chained _;
      layout-words = λ job ws. chained _;
      lengths = λ first second. chained _;
      text-line = λ line s ss ns e. line_row line s ss ns e ∙ chained _;
      job = λ job. chained _;
      model-refused = row-stopped;
      model-passed = row-going;
      plan = λ job l ns. chained _;
      prices = λ job l ps. chained _;
      layouts = λ k job rs. chained _;
    }

pub rows_of_calls : RowsOfCalls
unfolding chain list_verdict plan_verdict price_verdict unfold_verdict fold_verdict
rows_of_calls =
    record {
      listing = λ ws plates cuts. chained _;
      plan = λ ws counts plates cuts. chained _;
      prices = λ ws prices plates cuts. chained _;
      unfolding' = λ ws first second counts plates cuts placements offcuts. chained _;
      folding = λ ws layouts plates cuts counts. chained _;
    }

saw-text :
    (bs : List ℕ)
    → let r = fed saw_grammar (started saw_grammar) bs in
    saw_text bs ≡ written (from_the_top (text_row saw_grammar r ∷ saw_rows r.state ∷ [])) (saw_lines r.state)
unfolding chain saw_text saw_written
saw-text bs =
    let r = fed saw_grammar (started saw_grammar) bs in
    ap (λ v. written v (saw_lines r.state)) (chained (text_row saw_grammar r ∷ saw_rows r.state ∷ []))

fold-text :
    (bs : List ℕ)
    → let r = fed fold_grammar (started fold_grammar) bs in
    fold_text bs ≡ written (from_the_top (text_row fold_grammar r ∷ fold_rows r.state ∷ [])) (fold_lines r.state)
unfolding chain fold_text fold_written
fold-text bs =
    let r = fed fold_grammar (started fold_grammar) bs in
    ap (λ v. written v (fold_lines r.state)) (chained (text_row fold_grammar r ∷ fold_rows r.state ∷ []))

pub rows_of_texts : RowsOfTexts
unfolding chain saw_rows fold_rows
rows_of_texts =
    record {
      saw-text = saw-text;
      saw = λ s. chained _;
      fold-text = fold-text;
      fold = λ f. chained _;
    }

after-refusal :
    (number place : ℕ) (buffer ws : List ℕ)
    → eqb number 5 ≡ false
    → ends (refuse number place) buffer ws ≡ replicate (length buffer) 0
after-refusal number place buffer ws e = rw (e, ends)

pub buffers_after : BuffersAfter
unfolding filled
buffers_after =
    record {
      after-five = λ place buffer ws. refl;
      after-refusal = after-refusal;
      after-success = λ buffer ws. refl;
    }
