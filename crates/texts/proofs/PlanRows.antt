-- The lines 3 of a plan and the lines 4, 5 and 6 of prices: one more of them, how many they are, and how many bytes.
use Prim.Native.Nat.{ℕ, suc, ◌+◌, ◌-◌, ◌*◌, ◌≤◌}
use native.Mathlib.Omega.{arith}
use mathlib.Core.Path.{◌≡◌, refl, ap, ◌∙◌}
use mathlib.Core.Bool.{Bool, true, false, not, cond}
use mathlib.Core.List.{List, [], ◌∷◌, ◌++◌}
use mathlib.Core.Option.{Option, none, some}
use lib.Dec.{leb, ltb}
use lib.ListN.{length, get_or, drop, get_or-append}
use lib.Seq.{drop-append-le}
use borrow.Author.Tests.{le-ltb}
use Rattle.job.specs.Verdict.{pass, refuse_if, within, lowest}
use Rattle.job.proofs.Tests.{within-limits}
use Rattle.job.proofs.Verdicts.{then-first, then-second, then-both}
use Rattle.plan.specs.Prices.{max_price, price_words}
use Rattle.texts.specs.Widths.{plan_line_bytes, prices_line_bytes, price_line_bytes}
use Rattle.texts.specs.SawText.{Counted, PriceLines, with_price}
use Rattle.texts.specs.TextOf.{counted_row, plan_rows, price_rows_from, price_rows}
use Rattle.texts.specs.Held.{InPlan, PlanLimits}
use Rattle.texts.proofs.Basics.{lowest-both, lowest-one}
use Rattle.texts.proofs.Lists.{bytes_of, bytes-cons}

-- ---- lines 3

-- one line 3 more
pub plan_rows-more : (rs : List Counted) (r : Counted) → plan_rows (rs ++ (r ∷ [])) ≡ plan_rows rs ++ (counted_row r ∷ [])
unfolding plan_rows
plan_rows-more [] r = refl
plan_rows-more (s ∷ rs) r = ap (λ (l : List (List ℕ)). counted_row s ∷ l) (plan_rows-more rs r)

-- a line for each, of 73 bytes
pub plan_rows-size : (rs : List Counted) → (length (plan_rows rs) ≡ length rs) × (length (bytes_of (plan_rows rs)) ≡ plan_line_bytes * length rs)
unfolding plan_rows counted_row mathlib.Core.List.flat_map
plan_rows-size [] = (refl, refl)
plan_rows-size (r ∷ rs) =
    let p = plan_rows-size rs in
    (ap suc p.0, bytes-cons (counted_row r) (plan_rows rs) ∙ omega arith)

-- within their limits with one more
pub plan-limits-more :
    (ws : List ℕ) (rs : List Counted) (r : Counted)
    → PlanLimits ws rs
    → InPlan ws r
    → PlanLimits ws (rs ++ (r ∷ []))
plan-limits-more ws [] r p q = (q, tt)
plan-limits-more ws (s ∷ rs) r p q = (p.0, plan-limits-more ws rs r p.1 q)

-- ---- lines 4, 5 and 6

-- the line of the k-th price, of t sizes and n item types
abbrev pub price_row : ℕ → ℕ → ℕ → ℕ → List ℕ
price_row t n k x = cond (leb k n) (5 ∷ k ∷ x ∷ []) (6 ∷ (t + (k - suc n)) ∷ x ∷ [])

from-append : (t n k : ℕ) (xs ys : List ℕ) → price_rows_from t n k (xs ++ ys) ≡ price_rows_from t n k xs ++ price_rows_from t n (k + length xs) ys
unfolding price_rows_from
from-append t n k [] ys = ap (λ (j : ℕ). price_rows_from t n j ys) (omega arith)
from-append t n k (x ∷ xs) ys =
    let e : k + suc (length xs) ≡ suc k + length xs = omega arith in
    rw e (ap (λ (l : List (List ℕ)). price_row t n k x ∷ l) (from-append t n (suc k) xs ys))

row-length : (t n k x : ℕ) → length (price_row t n k x) ≡ 3
row-length t n k x = go (leb k n)
  where
    go : (b : Bool) → length (cond b (5 ∷ k ∷ x ∷ []) (6 ∷ (t + (k - suc n)) ∷ x ∷ [])) ≡ 3
    go true = refl
    go false = refl

from-size : (t n k : ℕ) (xs : List ℕ) → (length (price_rows_from t n k xs) ≡ length xs) × (length (bytes_of (price_rows_from t n k xs)) ≡ price_line_bytes * length xs)
unfolding price_rows_from mathlib.Core.List.flat_map
from-size t n k [] = (refl, refl)
from-size t n k (x ∷ xs) =
    let p = from-size t n (suc k) xs in
    (ap suc p.0, bytes-cons (price_row t n k x) (price_rows_from t n (suc k) xs) ∙ omega (arith, row-length t n k x))

-- one line more
pub price_rows-more :
    (t : ℕ) (ps : PriceLines) (x k : ℕ)
    → length ps.words ≡ suc k
    → price_rows t (some (with_price ps x)) ≡ price_rows t (some ps) ++ (price_row t ps.types (suc k) x ∷ [])
unfolding price_rows price_rows_from
price_rows-more t ps x k e =
    let d : drop 1 (ps.words ++ (x ∷ [])) ≡ drop 1 ps.words ++ (x ∷ []) = drop-append-le 1 ps.words (x ∷ []) (omega arith) in
    let first : get_or (ps.words ++ (x ∷ [])) 0 0 ≡ get_or ps.words 0 0 = get_or-append ps.words (x ∷ []) 0 0 (omega arith) in
    let l : length (drop 1 ps.words) ≡ k = lib.ListN.length-drop 1 ps.words ∙ omega arith in
    let place : 1 + length (drop 1 ps.words) ≡ suc k = omega arith in
    let f = from-append t ps.types 1 (drop 1 ps.words) (x ∷ []) in
    rw (d, first) (ap (λ (l : List (List ℕ)). (4 ∷ get_or ps.words 0 0 ∷ ps.types ∷ ps.residuals ∷ []) ∷ l) (rw place at f))

-- at most the bytes of a line 4 for each line
pub price_rows-bound : (t : ℕ) (o : Option PriceLines) → length (bytes_of (price_rows t o)) ≤ prices_line_bytes * length (price_rows t o)
unfolding price_rows mathlib.Core.List.flat_map
price_rows-bound t none = omega arith
price_rows-bound t (some ps) =
    let p = from-size t ps.types 1 (drop 1 ps.words) in
    let b = bytes-cons (4 ∷ get_or ps.words 0 0 ∷ ps.types ∷ ps.residuals ∷ []) (price_rows_from t ps.types 1 (drop 1 ps.words)) in
    omega arith

-- the denominator passes as a word
pub denominator-passes : (x : ℕ) → 1 ≤ x → x ≤ max_price → price_words (x ∷ []) ≡ pass
unfolding price_words lowest
denominator-passes x l h = rw (within-limits 1 max_price x l h)

-- one more price passes as a word
pub price-passes : (ws : List ℕ) (x : ℕ) → 1 ≤ length ws → x ≤ max_price → price_words ws ≡ pass → price_words (ws ++ (x ∷ [])) ≡ pass
unfolding price_words
price-passes [] x l h p = absurd (omega arith)
price-passes (d ∷ ws) x l h p =
    let out = refuse_if (not (within 1 max_price d)) 2 1 in
    let high : ℕ → ℕ → Bool = λ k y. ltb max_price y in
    then-both out (lowest 2 high 2 (ws ++ (x ∷ []))) (then-first out _ p)
    (lowest-both 2 high 2 ws (x ∷ []) (then-second out _ p) (lowest-one 2 high (2 + length ws) x (le-ltb max_price x h)))
