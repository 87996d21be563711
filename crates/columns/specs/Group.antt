-- Document 01, "Texts": a number "right-justified in nine columns with blanks, no leading zeros (zero is "0")", by the bytes that writing it gives.
use Rattle.std.specs.Prelude.{Option, Some, None, ℕ, zero, suc, ◌+◌, ◌-◌, ◌*◌, ◌/◌, ◌%◌, Bool, true, false, cond, List, [], ◌∷◌, ◌++◌, length, take, drop, eqb}
use Rattle.columns.specs.Widths.{lead_bytes}

-- one past the greatest number that the columns before the last hold, and one past the greatest that nine columns hold
abbrev pub lead_limit : ℕ
lead_limit = 100000000

abbrev pub limit : ℕ
limit = 10 * lead_limit

-- a column before the last, where n is what stands in the columns up to it: a blank for 0, else n's last digit
unfoldable pub mark : ℕ → ℕ
mark n = cond (eqb n 0) 32 (48 + n % 10)

-- k columns before the last
unfoldable pub lead : ℕ → ℕ → List ℕ
lead zero n = []
lead (suc k) n = lead k (n / 10) ++ (mark n ∷ [])

-- the nine columns of n
unfoldable pub group : ℕ → List ℕ
group n = lead lead_bytes (n / 10) ++ ((48 + n % 10) ∷ [])

-- the number that decimal digits make after v, a blank as 0
unfoldable pub digits_after : ℕ → List ℕ → ℕ
digits_after v [] = v
digits_after v (b ∷ bs) = digits_after (v * 10 + (b - 48)) bs

-- two lists of bytes are the same
unfoldable pub same : List ℕ → List ℕ → Bool
same [] [] = true
same [] (y ∷ ys) = false
same (x ∷ xs) [] = false
same (x ∷ xs) (y ∷ ys) = cond (eqb x y) (same xs ys) false

abbrev pub pick_number : Bool → Option ℕ → Option ℕ → Option ℕ
pick_number true a b = a
pick_number false a b = b

-- what columns bs hold: the number whose columns they are, if there is one
unfoldable pub number_of : List ℕ → Option ℕ
number_of bs =
    let n : ℕ = digits_after 0 bs % limit in
    pick_number (same bs (group n)) (Some n) None

-- d with the bytes from `at` on replaced by xs
unfoldable pub put : List ℕ → ℕ → List ℕ → List ℕ
put d at xs = take at d ++ (xs ++ drop (at + length xs) d)
