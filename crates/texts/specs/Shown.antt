-- Request Five, "plan lines that show their plate": what it means that lines 3 show their plates, and where it holds.
use Rattle.std.specs.Prelude.{ℕ, ◌≡◌, ◌↔◌, List, [], ◌∷◌}
use Rattle.job.specs.Verdict.{pass}
use Rattle.job.specs.Job.{job_of}
use Rattle.listing.specs.declared.plate.Plate.{Plate}
use Rattle.listing.specs.Listing.{Listing, plate_at, listing_of}
use Rattle.columns.specs.Line.{Fit}
use Rattle.texts.specs.Shape.{Shape, plan_line, numbers_row}
use Rattle.texts.specs.SawText.{Counted, plates_shown}
use Rattle.texts.specs.FoldText.{Fold}
use Rattle.texts.specs.Printed.{saw_holds, fold_plan}
use Rattle.texts.specs.Refused.{verdict_on_saw}

-- each of some lines 3 shows its plate, where `plates` gives the plate type of a number
abbrev pub Shows : (ℕ → Plate) → List Counted → Type 0
Shows plates [] = Unit {0}
Shows plates (r ∷ rs) = (r.shown ≡ plates r.plate) × Shows plates rs

pub record ShownPlates : Type 0 where
  -- 20 passes exactly the lines 3 that show the plate types of the listing
  pub exactly : (l : Listing) (k : ℕ) (rs : List Counted) → (plates_shown l k rs ≡ pass) ↔ Shows (plate_at l) rs
  -- so the lines 3 of an accepted saw text do
  pub accepted : (bs : List ℕ) → verdict_on_saw bs ≡ pass → Shows (plate_at (listing_of (job_of (saw_holds bs).job))) (saw_holds bs).plan
  -- and those that the fold program writes
  pub written : (f : Fold) → Shows (plate_at (listing_of (job_of f.job))) (fold_plan f)
  -- "these three have no limits of their own": the line row of a line 3 is the same, whatever numbers of nine columns they are
  pub unlimited :
      (line : ℕ) (ws : List ℕ) (ss : List Shape) (j i n w h s t w' h' s' : ℕ)
      → Fit (w ∷ h ∷ s ∷ [])
      → Fit (w' ∷ h' ∷ s' ∷ [])
      → numbers_row line (plan_line ws ∷ ss) (3 ∷ j ∷ i ∷ n ∷ w ∷ h ∷ s ∷ t ∷ [])
      ≡ numbers_row line (plan_line ws ∷ ss) (3 ∷ j ∷ i ∷ n ∷ w' ∷ h' ∷ s' ∷ t ∷ [])
