-- What the code knows of a job and of layout lines that have passed their rows.
use Prim.Native.Nat.{ℕ, ◌/◌, ◌≤◌}
use native.Mathlib.Omega.{arith}
use mathlib.Core.Path.{◌≡◌}
use mathlib.Core.Bool.{true, ◌&&◌}
use mathlib.Core.List.{List}
use lib.ListN.{length, get_or}
use lib.Dec.{ltb, leb}
use Rattle.job.specs.Sizes.{max_side, max_pieces, words_of_placement, job_size}
use Rattle.job.specs.Lists.{all, non_empty}
use Rattle.job.specs.Verdict.{pass, ◌then◌}
use Rattle.job.specs.declared.size.Size.{Size}
use Rattle.job.specs.Job.{Job, size_at, type_of, unturned, turned, position_at, permitted, job_of, job_words, admission}
use Rattle.job.proofs.CodeAdmission.{passed_length}
use Rattle.job.proofs.CodeItems.{items-length}
use Rattle.job.proofs.Positions.{position-by}
use Rattle.job.proofs.Tests.{and_left, and_right}
use Rattle.job.proofs.Verdicts.{then-first, then-second, then-both}
use Rattle.job.specs.Admitted.{Admitted}
use Rattle.job.proofs.Admission.{words_right, admitted-words, admitted-job, admitted-sided, admitted-stocked}
use Rattle.listing.specs.Listing.{model_row, listing_of}
use Rattle.listing.specs.Model.{Model}
use Rattle.listing.proofs.WalkModel.{row-model}
use Rattle.plan_test.proofs.CodeListed.{Ready}
use Rattle.layouts.specs.Layout.{Board, Sheet, sheet_size, strips_of, strip_width, board_height, stage_rule, board_rules, sheet_rules, layout_rules}
use Rattle.layouts.specs.Lines.{rows_of, layout_words, set_of}
use Rattle.layouts.specs.LayoutsRow.{layouts_row}
use Rattle.layouts.proofs.lists.Every.{all-every}
use Rattle.layouts.proofs.row.RowWords.{words-set}
use Rattle.placement.proofs.Rows.{whole-rows}
use Rattle.layouts_row.proofs.CodeRows.{passed-whole, passed-lent}
use Rattle.listing_find.proofs.Narrowing.{model-rising}
use Rattle.fold_counts.specs.Lent.{CutsLent, LinesLent}
use Rattle.fold_counts.specs.Strip.{EachStaged}

-- the rows before the buffers, which have passed: of the job's words, of the layout words, of the job
module _ (ws layouts : List ℕ) (checked : (job_words ws then layout_words (job_of ws) layouts then admission (job_of ws)) ≡ pass) where
  pub words-passed : job_words ws ≡ pass
  words-passed = then-first (job_words ws) _ checked

  lines-and-job : (layout_words (job_of ws) layouts then admission (job_of ws)) ≡ pass
  lines-and-job = then-second (job_words ws) _ checked

  pub lines-passed : layout_words (job_of ws) layouts ≡ pass
  lines-passed = then-first (layout_words (job_of ws) layouts) _ lines-and-job

  pub job-passed : admission (job_of ws) ≡ pass
  job-passed = then-second (layout_words (job_of ws) layouts) _ lines-and-job

-- the listing of an admitted job is a model, and its cuts, which the buffer has, rise
module _ (ws : List ℕ) (words : job_words ws ≡ pass) (admitted : admission (job_of ws) ≡ pass) (model : model_row (job_of ws) ≡ pass) where
  pub listed-model : Model (job_of ws) (listing_of (job_of ws))
  listed-model =
      let all : Admitted (job_of ws) = admitted-job ws ((admitted-words ws).0 (then-both (job_words ws) (admission (job_of ws)) words admitted)) in
      row-model (job_of ws) (admitted-sided (job_of ws) all) (admitted-stocked (job_of ws) all) model

  pub listed-cuts : {cuts : List ℕ} {t n m k : ℕ} → Ready ws cuts t n m k → CutsLent (listing_of (job_of ws)) cuts k
  listed-cuts ready = record { listed = ready.listed; rising = model-rising (job_of ws) (listing_of (job_of ws)) listed-model; cut-words = ready.lent.cut-words }

-- the strips of a board that keeps the rules keep the stage rule
board-staged : (job : Job) (z : Size) (b : Board) → board_rules job z b ≡ true → all (stage_rule job) b ≡ true
unfolding board_rules
board-staged job z b e =
    let before = non_empty b && all non_empty b && all (all non_empty) b && all (all (all (permitted job))) b in
    let stages = all (stage_rule job) b in
    let across = all (λ s. leb (strip_width job s) z.width) b in
    and_right before stages (and_left (before && stages) across (and_left (before && stages && across) (leb (board_height job b) z.height) e))

sheet-staged : (job : Job) (b : Sheet) → sheet_rules job b ≡ true → all (stage_rule job) (strips_of b) ≡ true
unfolding sheet_rules
sheet-staged job b e = board-staged job (size_at job (sheet_size b)) (strips_of b) (and_right (ltb (sheet_size b) (length job.sizes)) _ e)

set-staged : (job : Job) (bs : List Sheet) → layout_rules job bs ≡ true → EachStaged job bs
unfolding layout_rules
set-staged job bs e =
    all-every (sheet_rules job) _ (λ b f. all-every (stage_rule job) (λ s. stage_rule job s ≡ true) (λ s g. g) (strips_of b) (sheet-staged job b f)) bs e

module _ (ws layouts : List ℕ) (words : job_words ws ≡ pass) (lines : layout_words (job_of ws) layouts ≡ pass) (row : layouts_row 1 (job_of ws) (rows_of layouts) ≡ pass) where
  pub few-lines : length layouts / words_of_placement ≤ max_pieces
  few-lines = omega (arith, (words-set (job_of ws) 1 layouts lines row).few, whole-rows layouts (length layouts / words_of_placement) (passed-whole (job_of ws) layouts lines))

  -- the sides of an item type's positions
  sides-within : (q : ℕ) → 1 ≤ type_of q → job_size (get_or ws 2 0) (type_of q) ≤ length ws → ((position_at (job_of ws) q).width ≤ max_side) × ((position_at (job_of ws) q).height ≤ max_side)
  unfolding unturned turned
  sides-within q h g =
      let l = passed_length ws words in
      let t = (words_right ws words).each_item (type_of q) h (omega (arith, l)) in
      position-by (job_of ws) (λ _ p. (p.width ≤ max_side) × (p.height ≤ max_side)) q h (omega (arith, l, items-length ws (get_or ws 3 0) l)) (t.width-limits.1, t.height-limits.1) (t.height-limits.1, t.width-limits.1)

  pub lent-lines : LinesLent ws layouts (length layouts / words_of_placement)
  lent-lines = record { lines-lent = passed-lent ws layouts words lines few-lines; sides = sides-within }

  pub staged : EachStaged (job_of ws) (set_of layouts)
  unfolding set_of
  staged = set-staged (job_of ws) (set_of layouts) (words-set (job_of ws) 1 layouts lines row).rules
