-- Document 01, "Texts": job A's printed output, whole, and its fold.
use Rattle.std.specs.Prelude.{◌≡◌, [], ◌∷◌, ◌++◌}
use Rattle.std.proofs.Math.Bool.{true}
use Rattle.job.specs.Lists.{all}
use Rattle.job.specs.Buffers.{filled, placements_size, counts_size}
use Rattle.job.specs.Job.{job_of}
use Rattle.layouts.specs.Layout.{layout_rules}
use Rattle.layouts.specs.Placement.{placement_words, lines_of, meets_demands}
use Rattle.layouts.specs.Rectangle.{inside, all_apart}
use Rattle.layouts.specs.Lines.{set_of}
use Rattle.texts.specs.SawText.{saw_text}
use Rattle.texts.specs.FoldText.{fold_text}
use Rattle.cases.specs.Calls.{unfolding', folding, succeeds}
use Rattle.cases.specs.Jobs.{job_a, plates_a, cuts_a, plan_a, lines_a}
use Rattle.cases.specs.TextsA.{job_lines_a, plan_lines_a, price_lines_a, printed_a, result_a, result_plain}

pub record Output : Type 0 where
  -- "Output, whole"
  pub printed : saw_text (job_lines_a ++ plan_lines_a ++ price_lines_a) ≡ printed_a ++ result_a
  -- "without prices: sum 0, D 1", and cheapest 0 (request Six)
  pub without-prices : saw_text (job_lines_a ++ plan_lines_a) ≡ printed_a ++ result_plain
  -- the printed lines are a fold text, and give the plan's lines back
  pub folded_back : fold_text (job_lines_a ++ printed_a) ≡ plan_lines_a
  -- the same at the level of the calls
  pub unfolded : unfolding' job_a plan_a ≡ succeeds (2 ∷ 5 ∷ 3 ∷ []) plates_a cuts_a (filled placements_size lines_a)
  pub folded : folding job_a lines_a ≡ succeeds (2 ∷ 2 ∷ []) plates_a cuts_a (filled counts_size plan_a)
  -- what demand 3 says of these layouts
  pub rules : layout_rules (job_of job_a) (set_of lines_a) ≡ true
  pub demands : meets_demands (job_of job_a) (set_of lines_a) ≡ true
  pub positions : placement_words (lines_of (job_of job_a) (set_of lines_a)) ≡ lines_a
  pub inside-board : all (inside (job_of job_a)) (lines_of (job_of job_a) (set_of lines_a)) ≡ true
  pub items_apart : all_apart (job_of job_a) (lines_of (job_of job_a) (set_of lines_a)) ≡ true
