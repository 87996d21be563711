-- The lines 3 of layouts that fold: counts with zeros behind them give the same lines, and these are within the longest output.
use Prim.Native.Nat.{ℕ, ◌*◌, ◌-◌, ◌≤◌}
use native.Mathlib.Omega.{arith}
use mathlib.Core.Path.{◌≡◌, refl, ap}
use mathlib.Core.Bool.{Bool, true, false}
use mathlib.Core.List.{List, [], ◌∷◌, ◌++◌}
use lib.Dec.{eqb}
use lib.ListN.{length, replicate}
use Rattle.job.specs.Verdict.{pass}
use Rattle.job.specs.Buffers.{filled}
use Rattle.job.specs.Job.{job_of}
use Rattle.listing.specs.declared.plate.Plate.{Plate}
use Rattle.listing.specs.Listing.{Cut, plate_at, listing_of}
use Rattle.listing.specs.Holds.{plate_read}
use Rattle.listing.proofs.CodeHolds.{held-plate}
use Rattle.plan.specs.Plan.{total}
use Rattle.layouts.specs.Lines.{rows_of, layout_words, set_of}
use Rattle.layouts.specs.LayoutsRow.{layouts_row}
use Rattle.layouts.specs.Fold.{folded}
use Rattle.listing.specs.CutRead.{cuts_read}
use Rattle.columns.specs.Line.{line_of}
use Rattle.texts.specs.Widths.{plan_line_bytes}
use Rattle.texts.specs.JobLines.{body, body_line}
use Rattle.texts.specs.FoldText.{fold_of, count_row, count_lines, fold_lines}
use Rattle.texts.specs.Held.{FoldWhole}
use Rattle.texts.proofs.FoldRows.{layouts-any}
use Rattle.texts.proofs.FoldDemand.{FoldAccepted, fold-length, fold-few}
use Rattle.texts_writing.specs.Wrote.{Wrote, longest_fold}
use Rattle.texts_writing.proofs.CountLaws.{lines-few}
use Rattle.fold_text_ending.specs.FoldEnd.{ListedLent}

-- counts past the last cut give no line
lines-past : (plates : ℕ → Plate) (cs : List Cut) (ns zs : List ℕ) → length ns ≡ length cs → count_lines plates cs (ns ++ zs) ≡ count_lines plates cs ns
unfolding count_lines
lines-past plates [] [] zs h = refl
lines-past plates [] (n ∷ ns) zs h = refl
lines-past plates (c ∷ cs) [] zs h = absurd (omega arith)
lines-past plates (c ∷ cs) (n ∷ ns) zs h = go (eqb n 0) (lines-past plates cs ns zs (omega arith))
  where
    line : List ℕ
    line = line_of (count_row (plates c.plate) c n)

    go :
        (t : Bool)
        → count_lines plates cs (ns ++ zs) ≡ count_lines plates cs ns
        → ◌≡◌ {A = List ℕ} (elim t [ true ↦ count_lines plates cs (ns ++ zs) | false ↦ line ++ count_lines plates cs (ns ++ zs) ])
        (elim t [ true ↦ count_lines plates cs ns | false ↦ line ++ count_lines plates cs ns ])
    go true e = e
    go false e = ap (λ (l : List ℕ). line ++ l) e

module _ (ws ls plates cuts : List ℕ) (k : ℕ) (lent : ListedLent ws plates cuts k) (lines : layout_words (job_of ws) ls ≡ pass) (row : layouts_row 1 (job_of ws) (rows_of ls) ≡ pass) where
  abbrev plan : List ℕ
  plan = folded (job_of ws) (listing_of (job_of ws)) (set_of ls)

  -- the words pass as those of a fold text
  held : FoldWhole (fold_of body ws ls)
  held = record { place = refl; job = lent.words; layouts = lines }

  passed : FoldAccepted (fold_of body ws ls)
  passed = record { admitted = lent.admitted; listed = lent.modelled; laid = layouts-any 1 (body_line ws) (job_of ws) (rows_of ls) row }

  -- the plate types that are read are the listing's
  plates-are : plate_read plates ≡ plate_at (listing_of (job_of ws))
  unfolding plate_at
  plates-are = λ i j. held-plate (job_of ws) (listing_of (job_of ws)).plates lent.plates-hold j i

  module _ (size : ℕ) (counts : List ℕ) (e : counts ≡ filled size plan) where
    pub lines_are : count_lines (plate_read plates) (cuts_read k cuts) counts ≡ fold_lines (fold_of body ws ls)
    unfolding filled fold_lines
    lines_are =
        rw (plates-are, ← lent.lent.listed, e)
        (lines-past (plate_at (listing_of (job_of ws))) (listing_of (job_of ws)).cuts plan (replicate (size - length plan) 0) (fold-length (fold_of body ws ls)))

    pub lines_fit : length (count_lines (plate_read plates) (cuts_read k cuts) counts) ≤ longest_fold
    unfolding fold_lines
    lines_fit =
        let e' = ap length lines_are in
        let f : length (fold_lines (fold_of body ws ls)) ≤ plan_line_bytes * total plan = lines-few (plate_at (listing_of (job_of ws))) (listing_of (job_of ws)).cuts plan in
        omega (arith, e', f, fold-few (fold_of body ws ls) held passed)

    pub lines-written : {out out' : List ℕ} {n : ℕ} → Wrote out 0 (count_lines (plate_read plates) (cuts_read k cuts) counts) n out' → Wrote out 0 (fold_lines (fold_of body ws ls)) n out'
    lines-written w = rw lines_are at w
