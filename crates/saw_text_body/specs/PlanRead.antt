-- Document 01, "Where each number is given", plan: 8, 20 (request Five) and 9 of the lines 3 and the counts that they give, as they are kept line by line.
use Rattle.std.specs.Prelude.{ℕ, zero, suc, ◌≤◌, ◌≡◌, Bool, true, false, cond, List, [], ◌∷◌, leb, eqb, length, get_or}
use Rattle.job.specs.Sizes.{max_residuals, max_pieces}
use Rattle.job.specs.Verdict.{Verdict, pass, refuse}
use Rattle.listing.specs.declared.plate.Plate.{Plate}
use Rattle.listing.specs.Plate.{plate}
use Rattle.listing.specs.Listing.{Listing}
use Rattle.listing.specs.Holds.{Holds}
use Rattle.texts.specs.SawText.{Counted, position_on, named_cut, cuts_named, plates_shown, cuts_rising, plan_counts}
use Rattle.saw_text_body.specs.declared.plan_lines.Shown.{Shown}
use Rattle.saw_text_body.specs.declared.plan_lines.PlanLine.{PlanLine}
use Rattle.saw_text_body.specs.declared.plan_lines.PlanLines.{PlanLines}

-- the plate that a line 3 shows (request Five), from the code's numbers
abbrev pub plate_shown : Shown → Plate
plate_shown s = plate s.width s.height s.stage

-- the numbers of a line 3, the kind first, that passes the line row of a job of n types: plate, item, count, the plate's width, height and stage, which
-- have no limits of their own (request Five), turn
pub record PlanNumbers (n : ℕ) (ns : List ℕ) : Type 0 where
  pub size : length ns ≡ 8
  pub kind : get_or ns 0 0 ≡ 3
  pub plate : get_or ns 1 0 ≤ max_residuals
  pub type : get_or ns 2 0 ≤ n
  pub count : get_or ns 3 0 ≤ max_pieces
  pub turn : get_or ns 7 0 ≤ 1

-- the code's numbers of a line 3 are those of r
pub record LineOf (here : PlanLine) (r : Counted) : Type 0 where
  pub plate-is : r.plate ≡ here.plate.0
  pub lies : position_on r ≡ here.item.0
  pub count-is : r.count ≡ here.count
  pub shown-is : r.shown ≡ plate_shown here.shown

-- the first line refused with a number, 0 where there is none
abbrev pub at_line : ℕ → ℕ → Verdict
at_line number zero = pass
at_line number (suc line) = refuse number (suc line)

-- the first line refused so far, with one line more
unfoldable pub first_line : ℕ → Bool → ℕ → ℕ
first_line so_far here line = cond (eqb so_far 0) (cond here line 0) so_far

-- the lines 3 before the first whose cut is not after the last, which is c before them; a line that names no cut is one of these
unfoldable pub risen : Listing → ℕ → List Counted → List Counted
risen l c [] = []
risen l c (r ∷ rs) = elim (leb (named_cut l r) c) [ true ↦ [] | false ↦ r ∷ risen l (named_cut l r) rs ]

-- the cut that the last of some lines 3 names, c where there is none
unfoldable pub last_cut : Listing → ℕ → List Counted → ℕ
last_cut l c [] = c
last_cut l c (r ∷ rs) = last_cut l (named_cut l r) rs

-- the lines 3 so far, the first of which is line `first`: 8, 20, 9, the last cut that rose, and the counts of the lines that did
pub record PlanKept (l : Listing) (first : ℕ) (rs : List Counted) (p : PlanLines) (counts : List ℕ) : Type 0 where
  pub unnamed-is : cuts_named l first rs ≡ at_line 8 p.unnamed
  pub misshown-is : plates_shown l first rs ≡ at_line 20 p.misshown
  pub fallen-is : cuts_rising l 0 first rs ≡ at_line 9 p.fallen
  pub last-is : p.last.0 ≡ last_cut l 0 (risen l 0 rs)
  pub counts-are : Holds counts (plan_counts l (risen l 0 rs))
