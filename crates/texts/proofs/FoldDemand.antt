-- Demand 3 of an accepted fold text: its layouts are a set that demand 3 names, and the counts of its fold are an accepted plan.
use Prim.Native.Nat.{ℕ, ◌≤◌}
use native.Mathlib.Omega.{arith}
use mathlib.Core.Path.{◌≡◌}
use mathlib.Core.List.{List}
use lib.ListN.{length}
use Rattle.job.specs.Verdict.{pass}
use Rattle.job.specs.Job.{Job, job_of, admission, max_pieces}
use Rattle.job.proofs.Verdicts.{then-second}
use Rattle.job.proofs.CodeEnds.{then-pass}
use Rattle.job.proofs.Sums.{tally-length}
use Rattle.listing.specs.Listing.{Listing, model_row, listing_of}
use Rattle.plan.specs.Plan.{total, counts_row, plan_row}
use Rattle.plan.proofs.PlanExact.{plan-exact}
use Rattle.layouts.specs.Lines.{rows_of, layout_words, set_of}
use Rattle.layouts.specs.LayoutsRow.{layouts_row}
use Rattle.layouts.specs.Fold.{set_cuts, folded}
use Rattle.layouts.specs.Demand3.{Named, J, L}
use Rattle.layouts.proofs.row.RowWords.{words-set}
use Rattle.texts.specs.JobLines.{body_line}
use Rattle.texts.specs.FoldText.{Fold, fold_rows}
use Rattle.texts.specs.Held.{FoldWhole}
use Rattle.texts.specs.Printed.{fold_counts}
use Rattle.texts.proofs.Modelled.{demands}
use Rattle.texts.proofs.LayoutPlaces.{items-grouped}

-- layout words that pass the line row and the layouts row are a set that demand 3 names
pub words-named :
    (job : Job) (l : Listing) (k : ℕ) (ls : List ℕ)
    → layout_words job ls ≡ pass
    → layouts_row k job (rows_of ls) ≡ pass
    → Named job l (set_of ls)
unfolding set_of
words-named job l k ls lines row =
    let s = words-set job k ls lines row in
    record { rules = s.rules; demands = s.demands; pieces = omega (arith, items-grouped (rows_of ls), s.few) }

-- the rows of a fold text that is accepted
pub record FoldAccepted (f : Fold) : Type 0 where
  pub admitted : admission (job_of f.job) ≡ pass
  pub listed : model_row (job_of f.job) ≡ pass
  pub laid : layouts_row (body_line f.job) (job_of f.job) (rows_of f.layouts) ≡ pass

-- each of them passes
pub fold-accepted : (f : Fold) → fold_rows f ≡ pass → FoldAccepted f
unfolding fold_rows
fold-accepted f h =
    let a = then-pass (admission (job_of f.job)) _ h in
    let b = then-pass (model_row (job_of f.job)) (layouts_row (body_line f.job) (job_of f.job) (rows_of f.layouts)) a.1 in
    record { admitted = a.0; listed = b.0; laid = b.1 }

-- a count for each cut
pub fold-length : (f : Fold) → length (fold_counts f) ≡ length (listing_of (job_of f.job)).cuts
unfolding folded
fold-length f =
    let job = job_of f.job in
    tally-length (length (listing_of job).cuts) 1 (set_cuts job (listing_of job) (set_of f.layouts))

module _ (f : Fold) (held : FoldWhole f) (a : FoldAccepted f) where
  -- its counts pass the plan row
  pub fold-plan : plan_row (J f.job) (L f.job) (fold_counts f) ≡ pass
  fold-plan =
      let named = words-named (J f.job) (L f.job) (body_line f.job) f.layouts held.layouts a.laid in
      let d = (demands f.job held.job a.admitted a.listed).folds (set_of f.layouts) named in
      then-second (counts_row (L f.job) (fold_counts f)) (plan_row (J f.job) (L f.job) (fold_counts f)) d.folds-to.accepted.passed

  -- and come to at most 4,000 pieces
  pub fold-few : total (fold_counts f) ≤ max_pieces
  fold-few = ((plan-exact (J f.job) (L f.job) (fold_counts f)).0 fold-plan).few
