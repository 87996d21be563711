-- Document 01, "Texts" and "Where each number is given": the lines 7 of the saw program are the words that the unfolding call leaves of the same plan, and its
-- line 8 has the cost that the plan test gives (request Six).
use Rattle.std.specs.Prelude.{ℕ, ◌≤◌, ◌≡◌, true}
use mathlib.Core.List.{List, [], ◌∷◌, map, flat_map}
use Rattle.std.proofs.Math.ListN.{length}
use Rattle.job.specs.Verdict.{pass}
use Rattle.job.specs.Buffers.{given, filled, plates_size, cuts_size, counts_size, placements_size, offcuts_size}
use Rattle.job.specs.Job.{job_of}
use Rattle.plan.specs.PlanCall.{plan_answer}
use Rattle.layouts.specs.Placement.{placement_words}
use Rattle.layouts.specs.Lines.{rows_of}
use Rattle.layouts.specs.UnfoldCall.{lengths_right, unfold_verdict, offcuts_from, unfold_answer, placements_end}
use Rattle.columns.specs.Line.{line_of}
use Rattle.texts.specs.SawText.{Saw, placement_row, result_line, saw_text}
use Rattle.texts.specs.Printed.{saw_holds, saw_run, saw_cost}
use Rattle.texts.specs.Refused.{verdict_on_saw}
use Rattle.texts.specs.Rounds.{lines_of_kind, saw_counts}

-- the counts of the plan that a saw text holds, as they are passed to a call
abbrev pub counts_passed : Saw → List ℕ
counts_passed s = filled counts_size (saw_counts s)

-- the unfolding call with the job's words and the counts of a text that holds s, and with two lengths, and the plan test with the same words and counts, beside
-- the saw program's output `out`
pub record AsUnfolding (s : Saw) (first second : ℕ) (out plates cuts placements offcuts : List ℕ) : Type 0 where
  -- the unfolding call accepts them
  pub accepted : unfold_verdict s.job first second (counts_passed s) plates cuts placements offcuts ≡ pass
  -- its boards are those of the text's unfolding, its pieces as many as the lines 7; the offcuts, which a saw text does not list, are its own
  pub answered :
      unfold_answer s.job first second (counts_passed s) plates cuts placements offcuts
      ≡ given ((saw_run s).last.turn.board.number ∷ length (saw_run s).placements ∷ length (offcuts_from s.job (counts_passed s)) ∷ [])
  -- it leaves the words of the placements, and then zeros
  pub left :
      placements_end (unfold_verdict s.job first second (counts_passed s) plates cuts placements offcuts) s.job (counts_passed s) placements
      ≡ filled (length placements) (placement_words (saw_run s).placements)
  -- and the lines 7 of the output are the lines of these words
  pub lines : lines_of_kind 7 out ≡ flat_map line_of (map placement_row (rows_of (placement_words (saw_run s).placements)))
  -- the plan test gives the same boards and what they cost (request Six)
  pub costed : plan_answer s.job (counts_passed s) plates cuts ≡ given ((saw_run s).last.turn.board.number ∷ saw_cost s ∷ [])
  -- and line 8 of the output gives that cost
  pub result : lines_of_kind 8 out ≡ result_line (job_of s.job) (saw_cost s) s.prices

-- for every accepted saw text, two lengths within their limits, and lent buffers of their full sizes
abbrev pub LinesAsWords : Type 0
LinesAsWords =
    (bs : List ℕ) (first second : ℕ) (plates cuts placements offcuts : List ℕ)
    → verdict_on_saw bs ≡ pass
    → lengths_right first second ≡ true
    → plates_size ≤ length plates
    → cuts_size ≤ length cuts
    → placements_size ≤ length placements
    → offcuts_size ≤ length offcuts
    → AsUnfolding (saw_holds bs) first second (saw_text bs) plates cuts placements offcuts
