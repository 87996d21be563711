-- Document 01, "Texts": "a line is the numbers of its kind, each right-justified in nine columns .., then byte 10".
use Rattle.std.specs.Prelude.{Option as Option·std, Some, None, ℕ, zero, suc, ◌-◌, ◌/◌, ◌≤◌, ◌<◌, ◌≡◌, Bool, true, false, List, [], ◌∷◌, ◌++◌, length, take, drop, get_or, replicate, eqb}
use Rattle.std.proofs.Math.Option.{Option, none, some}
use Rattle.columns.specs.Widths.{group_bytes, most_numbers, line_bytes}
use Rattle.columns.specs.Group.{limit, group, number_of}

-- the columns of some numbers
unfoldable pub groups : List ℕ → List ℕ
groups [] = []
groups (n ∷ ns) = group n ++ groups ns

-- the line of some numbers
unfoldable pub line_of : List ℕ → List ℕ
line_of ns = groups ns ++ (10 ∷ [])

-- each number fits nine columns
unfoldable pub Fit : List ℕ → Type 0
Fit [] = Unit
Fit (n ∷ ns) = (n < limit) × Fit ns

-- no number more: byte 10 is here
abbrev pub at_end : Bool → Option (List ℕ)
at_end true = some []
at_end false = none

-- a number before the numbers after it
abbrev pub also : Option·std ℕ → Option (List ℕ) → Option (List ℕ)
also (Some n) (some ns) = some (n ∷ ns)
also (Some n) none = none
also None r = none

-- the k numbers of the line that bs begins with
unfoldable pub numbers_of : ℕ → List ℕ → Option (List ℕ)
numbers_of zero bs = at_end (eqb (get_or bs 0 0) 10)
numbers_of (suc k) bs = also (number_of (take group_bytes bs)) (numbers_of k (drop group_bytes bs))

-- the numbers of a whole line, byte 10 included, if it is the line of some numbers
unfoldable pub read_line : List ℕ → Option (List ℕ)
read_line bs =
    let k = length bs / group_bytes in elim (eqb (length bs) (line_bytes k)) [ true ↦ numbers_of k bs | false ↦ none ]

-- the answer of `line_at`: the numbers, then zeros up to ten, where there are numbers
abbrev pub line_from : Option (List ℕ) → Option·std (List ℕ)
line_from (some ns) = Some (ns ++ replicate (most_numbers - length ns) 0)
line_from none = None

-- what `complete_line` says of bytes bs: the line that they begin with has k numbers, at most ten, which stand in an array before what was behind them; or
-- they begin with the line of no number of numbers up to ten
abbrev pub CompleteAs : List ℕ → List ℕ → List ℕ → Option·std ℕ → Type 0
CompleteAs bs before after (Some k) =
    (k ≤ most_numbers) × ((ns : List ℕ) × (numbers_of k bs ≡ some ns) × (after ≡ ns ++ drop k before))
CompleteAs bs before after None = (k : ℕ) → k ≤ most_numbers → numbers_of k bs ≡ none
