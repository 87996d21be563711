-- Document 01, "Texts": any text of lines read as its numbers, what the programs write as numbers, and what it says when it is read back.
use Rattle.std.specs.Prelude.{ℕ, ◌+◌, ◌≤◌, ◌≡◌, true, false, eqb, length}
use mathlib.Core.List.{List, [], ◌∷◌, ◌++◌, map, flat_map}
use Rattle.std.proofs.Math.Option.{Option, none, some}
use Rattle.job.specs.Verdict.{pass}
use Rattle.job.specs.Job.{max_pieces, type_of, turn_of, job_of, job_words}
use Rattle.listing.specs.declared.plate.Plate.{Plate}
use Rattle.listing.specs.Listing.{Cut, plate_at, listing_of}
use Rattle.plan.specs.Plan.{plan_cost}
use Rattle.layouts.specs.Placement.{Placement, placement_words}
use Rattle.layouts.specs.Lines.{layout_words, set_of}
use Rattle.layouts.specs.Unfold.{Run, unfolded}
use Rattle.layouts.specs.Fold.{folded}
use Rattle.columns.specs.Line.{Fit, line_of, read_line}
use Rattle.texts.specs.Reader.{started, fed, text_row}
use Rattle.texts.specs.JobLines.{body, job_lines}
use Rattle.texts.specs.SawText.{Counted, Saw, saw_grammar, plan_counts, saw_rows, placement_row, placement_line, result_row, saw_lines, saw_text}
use Rattle.texts.specs.FoldText.{Fold, fold_grammar, fold_lines}
use Rattle.texts.specs.TextOf.{job_rows, plan_rows}

-- a line before the lines after it
abbrev pub also_line : Option (List ℕ) → Option (List (List ℕ)) → Option (List (List ℕ))
also_line none o = none
also_line (some ns) none = none
also_line (some ns) (some nss) = some (ns ∷ nss)

-- the numbers of the lines of a text, where `begun` are the bytes of the line that has begun
unfoldable pub lines_from : List ℕ → List ℕ → Option (List (List ℕ))
lines_from [] [] = some []
lines_from (c ∷ begun) [] = none
lines_from begun (b ∷ bs) =
    elim (eqb b 10) [
      | true ↦ also_line (read_line (begun ++ (b ∷ []))) (lines_from [] bs)
      | false ↦ lines_from (begun ++ (b ∷ [])) bs
    ]

-- the numbers of the lines of a text, if it is lines of numbers
unfoldable pub lines_in : List ℕ → Option (List (List ℕ))
lines_in bs = lines_from [] bs

-- the numbers of each line fit nine columns
abbrev pub AllFit : List (List ℕ) → Type 0
AllFit [] = Unit {0}
AllFit (ns ∷ nss) = Fit ns × AllFit nss

-- lines of numbers both ways
pub record LinesBothWays : Type 0 where
  pub read : (bs : List ℕ) (nss : List (List ℕ)) → lines_in bs ≡ some nss → (bs ≡ flat_map line_of nss) × AllFit nss
  pub written : (nss : List (List ℕ)) → AllFit nss → lines_in (flat_map line_of nss) ≡ some nss

-- what a saw text holds
abbrev pub saw_holds : List ℕ → Saw
saw_holds bs = (fed saw_grammar (started saw_grammar) bs).state

-- the unfolding that it asks for
abbrev pub saw_run : Saw → Run
saw_run s =
    let l = listing_of (job_of s.job) in unfolded (job_of s.job) l (plan_counts l s.plan)

-- and what its boards cost (request Six)
abbrev pub saw_cost : Saw → ℕ
saw_cost s =
    let l = listing_of (job_of s.job) in plan_cost (job_of s.job) l (plan_counts l s.plan)

-- what the saw program writes, as numbers: a line 7 for each placement, then line 8
unfoldable pub printed_rows : Saw → List (List ℕ)
printed_rows s =
    map placement_row (saw_run s).placements ++ (result_row (job_of s.job) (saw_cost s) s.prices ∷ [])

-- line 3 of a cut on plate type p that is counted n times
abbrev pub counted_cut : Plate → Cut → ℕ → Counted
counted_cut p c n = record { plate = c.plate; type = type_of c.item; turn = turn_of c.item; count = n; shown = p }

-- the counted cuts of a fold, as lines 3 that show their plates (request Five), where `plates` gives the plate type of a number
unfoldable pub counted_of : (ℕ → Plate) → List Cut → List ℕ → List Counted
counted_of plates [] ns = []
counted_of plates (c ∷ cs) [] = []
counted_of plates (c ∷ cs) (n ∷ ns) =
    elim (eqb n 0) [
      | true ↦ counted_of plates cs ns
      | false ↦ counted_cut (plates c.plate) c n ∷ counted_of plates cs ns
    ]

-- the counts that a fold text folds to, and the lines 3 of the cuts counted
abbrev pub fold_counts : Fold → List ℕ
fold_counts f = let job = job_of f.job in folded job (listing_of job) (set_of f.layouts)

abbrev pub fold_plan : Fold → List Counted
fold_plan f = let l = listing_of (job_of f.job) in counted_of (plate_at l) l.cuts (fold_counts f)

-- the output of the programs read back
pub record PrintedBack : Type 0 where
  -- what is written of an accepted plan is lines of these numbers
  pub lines : (s : Saw) → saw_lines s ≡ flat_map line_of (printed_rows s)
  -- and they are read back from the answer to an accepted text
  pub back :
      (bs : List ℕ)
      → text_row saw_grammar (fed saw_grammar (started saw_grammar) bs) ≡ pass
      → saw_rows (saw_holds bs) ≡ pass
      → lines_in (saw_text bs) ≡ some (printed_rows (saw_holds bs))
  -- what the fold program writes is the lines 3 of the cuts counted
  pub counts : (f : Fold) → fold_lines f ≡ flat_map line_of (plan_rows (fold_plan f))
  -- after the job's lines the lines 7 are a fold text, which holds the job's words and the placements
  pub folds :
      (ws : List ℕ) (ps : List Placement)
      → job_words ws ≡ pass
      → layout_words (job_of ws) (placement_words ps) ≡ pass
      → length ps ≤ max_pieces
      → (fed fold_grammar (started fold_grammar) (flat_map line_of (job_rows ws) ++ flat_map placement_line ps)
      ≡ record {
        state = record { place = body; job = ws; layouts = placement_words ps };
        lines = job_lines ws + length ps;
        pending = [];
        verdict = pass;
      })
      × (text_row fold_grammar (fed fold_grammar (started fold_grammar) (flat_map line_of (job_rows ws) ++ flat_map placement_line ps)) ≡ pass)
