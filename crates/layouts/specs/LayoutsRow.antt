-- Document 01, "Where each number is given": the layouts row, 10, 15, 16, 17, 18, then 11.
use Rattle.std.specs.Prelude.{ℕ, suc, ◌+◌, Bool, true, false, not, ◌&&◌, ◌||◌, List, [], ◌∷◌, ◌++◌, map, ltb, eqb, length}
use Rattle.job.specs.declared.item.Item.{Item}
use Rattle.job.specs.Lists.{occurs}
use Rattle.job.specs.Verdict.{Verdict, pass, refuse, ◌then◌, refuse_if, lowest}
use Rattle.job.specs.Job.{Job, size_at, type_of, max_pieces}
use Rattle.layouts.specs.Layout.{Strip, Board, Sheet, sheet, strip_width, strip_height, stage_rule}
use Rattle.layouts.specs.Placement.{Placement, items_of_strip, items_of_board, lines_of}
use Rattle.layouts.specs.Lines.{turns, grouped}

-- a strip of a set, the number of its first line, the size of its board (request Six), and the height of the strips below it, b after each of them
-- (request Four)
pub record Laid : Type 0 where
  pub line : ℕ
  pub size : ℕ
  pub below : ℕ
  pub strip : Strip

abbrev pub laid_at : ℕ → ℕ → ℕ → Strip → Laid
laid_at z line y s = record { line = line; size = z; below = y; strip = s }

-- the strips of a board of size z that begins at a line, from y upwards
unfoldable pub laid_board : Job → ℕ → ℕ → ℕ → Board → List Laid
laid_board job z line y [] = []
laid_board job z line y (s ∷ ss) =
    laid_at z line y s ∷ laid_board job z (line + length (items_of_strip s)) (y + strip_height job s + job.blade) ss

-- the strips of a set that begins at a line
unfoldable pub laid_set : Job → ℕ → List Sheet → List Laid
laid_set job line [] = []
laid_set job line (sheet z b ∷ bs) = laid_board job z line 0 b ++ laid_set job (line + length (items_of_board b)) bs

-- a refusal that names "first line of the strip", of the lowest strip that is bad
unfoldable pub lowest_strip : ℕ → (Laid → Bool) → List Laid → Verdict
lowest_strip number bad [] = pass
lowest_strip number bad (s ∷ ss) = elim (bad s) [ true ↦ refuse number s.line | false ↦ lowest_strip number bad ss ]

-- 16: the strip breaks the stage rule of the mode
unfoldable pub breaks_stage : Job → Laid → Bool
breaks_stage job s = not (stage_rule job s.strip)

-- 17: the strip's stack widths pass the W of its board's size, or its own top edge passes the H of that size (request Six)
unfoldable pub past_board : Job → Laid → Bool
past_board job s =
    let z = size_at job s.size in
    ltb z.width (strip_width job s.strip) || ltb z.height (s.below + strip_height job s.strip)

-- 18 at the lowest line, from line k on, whose x or y is not the item's position
unfoldable pub positioned : ℕ → List Placement → List Placement → Verdict
positioned k [] ps = pass
positioned k (r ∷ rs) [] = pass
positioned k (r ∷ rs) (p ∷ ps) =
    elim (eqb r.x p.x && eqb r.y p.y) [
      | false ↦ refuse 18 k
      | true ↦ positioned (suc k) rs ps
    ]

-- 11: item type i lies in the lines, in both turns together (request One), less often than demanded
unfoldable pub lacks : List Placement → ℕ → Item → Bool
lacks rs i item = ltb (occurs i (map (λ r. type_of r.item) rs)) item.demand

-- the layouts row over lines that are numbered from k: 1 for layout words, t + n + 2 in a fold text
unfoldable pub layouts_row : ℕ → Job → List Placement → Verdict
layouts_row k job rs =
    refuse_if (ltb max_pieces (length rs)) 10 0
    then turns k rs
    then lowest_strip 16 (breaks_stage job) (laid_set job k (grouped rs))
    then lowest_strip 17 (past_board job) (laid_set job k (grouped rs))
    then positioned k rs (lines_of job (grouped rs))
    then lowest 11 (lacks rs) 1 job.items
