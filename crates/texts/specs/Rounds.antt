-- Document 01, "Texts" and "Folding an unfolded plan gives back its counts": what one program writes is, after the job's lines, a text for the other.
use Rattle.std.specs.Prelude.{ℕ, ◌≡◌, true, false, eqb, get_or}
use mathlib.Core.List.{List, [], ◌∷◌, ◌++◌, flat_map}
use Rattle.std.proofs.Math.Option.{none, some}
use Rattle.job.specs.Verdict.{pass}
use Rattle.job.specs.Job.{job_of}
use Rattle.listing.specs.Listing.{listing_of}
use Rattle.layouts.specs.Placement.{placement_words}
use Rattle.columns.specs.Line.{line_of}
use Rattle.texts.specs.JobLines.{body}
use Rattle.texts.specs.SawText.{Saw, plan_counts, saw_text, saw_of}
use Rattle.texts.specs.FoldText.{Fold, fold_text, fold_of}
use Rattle.texts.specs.TextOf.{job_rows, plan_rows}
use Rattle.texts.specs.Printed.{lines_in, saw_holds, saw_run, fold_counts, fold_plan}
use Rattle.texts.specs.Refused.{fold_holds, verdict_on_saw, verdict_on_fold}

-- the lines 1, 10 and 2 of job words, as bytes
abbrev pub job_text : List ℕ → List ℕ
job_text ws = flat_map line_of (job_rows ws)

-- of lines as numbers, those of a kind
unfoldable pub of_kind : ℕ → List (List ℕ) → List (List ℕ)
of_kind kind [] = []
of_kind kind (ns ∷ nss) = elim (eqb (get_or ns 0 0) kind) [ true ↦ ns ∷ of_kind kind nss | false ↦ of_kind kind nss ]

-- of a text that is lines of numbers, the lines of a kind, as bytes
unfoldable pub lines_of_kind : ℕ → List ℕ → List ℕ
lines_of_kind kind bs = elim (lines_in bs) [ none ↦ [] | some nss ↦ flat_map line_of (of_kind kind nss) ]

-- the counts of the plan that a saw text holds
abbrev pub saw_counts : Saw → List ℕ
saw_counts s = plan_counts (listing_of (job_of s.job)) s.plan

-- the fold program's output `out` of an accepted text that holds f
pub record FoldThenSaw (f : Fold) (out : List ℕ) : Type 0 where
  -- it is read back as the lines 3 of the cuts counted
  pub read : lines_in out ≡ some (plan_rows (fold_plan f))
  -- after the job's lines it is a saw text that holds the job's words, these lines 3 and no prices
  pub holds : saw_holds (job_text f.job ++ out) ≡ saw_of body f.job (fold_plan f) none
  -- that text is accepted
  pub accepted : verdict_on_saw (job_text f.job ++ out) ≡ pass
  -- and its counts are those of the fold
  pub counts : saw_counts (saw_holds (job_text f.job ++ out)) ≡ fold_counts f

-- the lines 7 of the saw program's output `out` of an accepted text that holds s
pub record SawThenFold (s : Saw) (out : List ℕ) : Type 0 where
  -- after the job's lines they are a fold text that holds the job's words and the placements of the unfolding
  pub holds : fold_holds (job_text s.job ++ lines_of_kind 7 out) ≡ fold_of body s.job (placement_words (saw_run s).placements)
  -- that text is accepted
  pub accepted : verdict_on_fold (job_text s.job ++ lines_of_kind 7 out) ≡ pass
  -- its counts are those of the plan
  pub counts : fold_counts (fold_holds (job_text s.job ++ lines_of_kind 7 out)) ≡ saw_counts s
  -- and what the fold program writes of it is the plan's lines 3, byte for byte
  pub back : fold_text (job_text s.job ++ lines_of_kind 7 out) ≡ flat_map line_of (plan_rows s.plan)

-- from each program to the other
pub record Rounds : Type 0 where
  pub fold-saw : (bs : List ℕ) → verdict_on_fold bs ≡ pass → FoldThenSaw (fold_holds bs) (fold_text bs)
  pub saw-fold : (bs : List ℕ) → verdict_on_saw bs ≡ pass → SawThenFold (saw_holds bs) (saw_text bs)
