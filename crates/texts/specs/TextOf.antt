-- Document 01, "Texts": the lines of a text, as numbers, from what the text holds: job words, plan, prices, layout words.
use Rattle.std.specs.Prelude.{ℕ, suc, ◌+◌, ◌-◌, ◌*◌, cond, List, [], ◌∷◌, ◌++◌, map, leb, get_or, take, drop}
use Rattle.std.proofs.Math.Option.{Option, none, some}
use Rattle.job.specs.Sizes.{words_of_head, words_of_size, words_before}
use Rattle.layouts.specs.Lines.{rows_of}
use Rattle.texts.specs.JobLines.{board_sizes}
use Rattle.texts.specs.SawText.{Counted, PriceLines, Saw, placement_row}
use Rattle.texts.specs.FoldText.{Fold}

-- a line 10 for each size, from size j on, of three words each (request Six)
unfoldable pub size_rows : ℕ → List ℕ → List (List ℕ)
size_rows j [] = []
size_rows j (w ∷ []) = []
size_rows j (w ∷ h ∷ []) = []
size_rows j (w ∷ h ∷ c ∷ ws) = (10 ∷ j ∷ w ∷ h ∷ c ∷ []) ∷ size_rows (suc j) ws

-- a line 2 for each type, from type i on, of four words each
unfoldable pub item_rows : ℕ → List ℕ → List (List ℕ)
item_rows i [] = []
item_rows i (w ∷ []) = []
item_rows i (w ∷ h ∷ []) = []
item_rows i (w ∷ h ∷ d ∷ []) = []
item_rows i (w ∷ h ∷ d ∷ v ∷ ws) = (2 ∷ i ∷ w ∷ h ∷ d ∷ v ∷ []) ∷ item_rows (suc i) ws

-- line 1, the lines 10 and the lines 2 of job words
unfoldable pub job_rows : List ℕ → List (List ℕ)
job_rows ws =
    let t = board_sizes ws in
    (1 ∷ take words_of_head ws) ∷ (size_rows 0 (take (words_of_size * t) (drop words_of_head ws)) ++ item_rows 1 (drop (words_before t) ws))

-- the numbers of a line 3; request Five, the plate that it shows stands "after the count" and "the turn comes last"
unfoldable pub counted_row : Counted → List ℕ
counted_row r =
    3 ∷ r.plate ∷ r.type ∷ r.count ∷ r.shown.width ∷ r.shown.height ∷ r.shown.stage ∷ r.turn ∷ []

-- the lines 3 of a plan
unfoldable pub plan_rows : List Counted → List (List ℕ)
plan_rows rs = map counted_row rs

-- a line for each price, from the k-th on: of n item types a line 5, then a line 6, whose plate types are numbered from t on (request Six)
unfoldable pub price_rows_from : ℕ → ℕ → ℕ → List ℕ → List (List ℕ)
price_rows_from t n k [] = []
price_rows_from t n k (x ∷ xs) =
    cond (leb k n) (5 ∷ k ∷ x ∷ []) (6 ∷ (t + (k - suc n)) ∷ x ∷ []) ∷ price_rows_from t n (suc k) xs

-- the lines 4, 5 and 6 of a job of t sizes, if there are any
unfoldable pub price_rows : ℕ → Option PriceLines → List (List ℕ)
price_rows t none = []
price_rows t (some ps) =
    (4 ∷ get_or ps.words 0 0 ∷ ps.types ∷ ps.residuals ∷ []) ∷ price_rows_from t ps.types 1 (drop 1 ps.words)

-- the lines of what a saw text holds, and of what a fold text holds
unfoldable pub saw_rows_of : Saw → List (List ℕ)
saw_rows_of s = job_rows s.job ++ (plan_rows s.plan ++ price_rows (board_sizes s.job) s.prices)

unfoldable pub fold_rows_of : Fold → List (List ℕ)
fold_rows_of f = job_rows f.job ++ map placement_row (rows_of f.layouts)
