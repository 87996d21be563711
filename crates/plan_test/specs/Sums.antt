-- The counts of a plan, added up in words: by item type, by the plate type that a cut is on, by the residual types that it leaves; and over the sizes.
use Rattle.std.specs.Prelude.{ℕ, zero, suc, ◌+◌, ◌≤◌, ◌<◌, ◌≡◌, Bool, List, length, get_or, set}
use Rattle.job.specs.Sizes.{max_types, max_plates}
use Rattle.listing.specs.Listing.{Cut}
use Rattle.plan.specs.Plan.{count_of, of_item, on_plate, leaves_plate}

-- n more in word j
abbrev pub added : List ℕ → ℕ → ℕ → List ℕ
added s j n = set s j (get_or s j 0 + n)

-- word j is there and has room for n more
pub record Fit (s : List ℕ) (j n : ℕ) : Type 0 where
  pub inside : j < length s
  pub small : get_or s j 0 + n < 65536

-- word j, of as many as there are, is the sum of the counts of the cuts that pass test j
abbrev pub SumsOf : (ℕ → Cut → Bool) → List Cut → List ℕ → List ℕ → Type 0
SumsOf test cs ns s = (j : ℕ) → j < length s → get_or s j 0 ≡ count_of (test j) cs ns

-- the three sums of the counts of some cuts
pub record Sums (cs : List Cut) (ns items on left : List ℕ) : Type 0 where
  pub by-item : SumsOf of_item cs ns items
  pub by-plate : SumsOf on_plate cs ns on
  pub by-residual : SumsOf leaves_plate cs ns left

-- room for a sum of each item type and of each plate type
pub record SumRoom (items on left : List ℕ) : Type 0 where
  pub for-items : max_types < length items
  pub for-plates : max_plates ≤ length on
  pub for-residuals : max_plates ≤ length left

-- the values of f at 0 to t - 1, added up
unfoldable pub sum_below : (ℕ → ℕ) → ℕ → ℕ
sum_below f zero = 0
sum_below f (suc t) = sum_below f t + f t
