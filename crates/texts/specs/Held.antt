-- Document 01, "Texts" and "Where each number is given": what a text that passes the line row holds, as words and limits of the calls.
use Rattle.std.specs.Prelude.{ℕ, ◌+◌, ◌≤◌, ◌≡◌, true, length}
use mathlib.Core.List.{List, [], ◌∷◌, flat_map}
use Rattle.std.proofs.Math.Option.{Option, none, some}
use Rattle.job.specs.Sizes.{max_residuals}
use Rattle.job.specs.Verdict.{pass}
use Rattle.job.specs.Job.{max_types, max_pieces, permitted, job_of, job_words}
use Rattle.plan.specs.Prices.{price_words}
use Rattle.layouts.specs.Lines.{layout_words}
use Rattle.columns.specs.Line.{Fit, line_of}
use Rattle.texts.specs.Reader.{Grammar, max_lines, started, fed, text_row}
use Rattle.texts.specs.JobLines.{Place, body, done, types_of}
use Rattle.texts.specs.SawText.{Counted, PriceLines, Saw, saw_grammar, position_on}
use Rattle.texts.specs.FoldText.{Fold, fold_grammar}
use Rattle.texts.specs.TextOf.{saw_rows_of, fold_rows_of}

-- a line 3 within its limits, in a position that the job of the words ws permits; what it shows of its plate fits nine columns (request Five)
pub record InPlan (ws : List ℕ) (r : Counted) : Type 0 where
  pub plate : r.plate ≤ max_residuals
  pub low : 1 ≤ r.type
  pub high : r.type ≤ types_of ws
  pub counted : 1 ≤ r.count
  pub few : r.count ≤ max_pieces
  pub shown : Fit (r.shown.width ∷ r.shown.height ∷ r.shown.stage ∷ [])
  pub turned : r.turn ≤ 1
  pub lies : permitted (job_of ws) (position_on r) ≡ true

-- and each of some lines 3
abbrev pub PlanLimits : List ℕ → List Counted → Type 0
PlanLimits ws [] = Unit {0}
PlanLimits ws (r ∷ rs) = InPlan ws r × PlanLimits ws rs

-- lines 4, 5 and 6, all of them: the n and the m of line 4 are within their limits, there are 1 + n + m price words, and they pass their own row
pub record PricesWhole (ps : PriceLines) : Type 0 where
  pub low : 1 ≤ ps.types
  pub high : ps.types ≤ max_types
  pub residuals : ps.residuals ≤ max_residuals
  pub size : length ps.words ≡ 1 + ps.types + ps.residuals
  pub words : price_words ps.words ≡ pass

-- a saw text ends in its body, or after all of its prices
abbrev pub PricesHeld : Place → Option PriceLines → Type 0
PricesHeld p none = p ≡ body
PricesHeld p (some ps) = (p ≡ done) × PricesWhole ps

-- a saw text holds job words that pass their own row, lines 3 within their limits, and no prices or whole ones
pub record SawWhole (s : Saw) : Type 0 where
  pub job : job_words s.job ≡ pass
  pub plan : PlanLimits s.job s.plan
  pub prices : PricesHeld s.place s.prices

-- a fold text holds job words and layout words that pass their own rows
pub record FoldWhole (f : Fold) : Type 0 where
  pub place : f.place ≡ body
  pub job : job_words f.job ≡ pass
  pub layouts : layout_words (job_of f.job) f.layouts ≡ pass

-- texts both ways, where `rows` are the lines of what a text holds
pub record BothWays {S : Type 0} (g : Grammar S) (Held : S → Type 0) (rows : S → List (List ℕ)) : Type 0 where
  -- a text that passes is, written again from what was read of it, the same bytes
  pub read :
      (bs : List ℕ)
      → text_row g (fed g (started g) bs) ≡ pass
      → Held (fed g (started g) bs).state
      × (bs ≡ flat_map line_of (rows (fed g (started g) bs).state))
      × (length (rows (fed g (started g) bs).state) ≤ max_lines)
  -- what a text may hold, written in at most 99,999 lines, is read back, and the text passes
  pub written :
      (s : S)
      → Held s
      → length (rows s) ≤ max_lines
      → (fed g (started g) (flat_map line_of (rows s)) ≡ record { state = s; lines = length (rows s); pending = []; verdict = pass })
      × (text_row g (fed g (started g) (flat_map line_of (rows s))) ≡ pass)

-- saw texts and fold texts
abbrev pub SawBothWays : Type 0
SawBothWays = BothWays saw_grammar SawWhole saw_rows_of

abbrev pub FoldBothWays : Type 0
FoldBothWays = BothWays fold_grammar FoldWhole fold_rows_of
