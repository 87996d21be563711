-- Document 01, "Layouts and folding": "it then counts the cuts of that order". A run of items, each cut from what the cut before it left.
use Rattle.std.specs.Prelude.{ℕ, ◌+◌, ◌^◌, ◌≤◌, ◌<◌, ◌≡◌, Bool, cond, List, [], ◌∷◌, ◌++◌, length, Option, is_some, unwrap_or}
use Rattle.job.specs.declared.counters.PlateType.{PlateType}
use Rattle.job.specs.Lists.{tally, non_empty}
use Rattle.listing.specs.Listing.{Cut, Listing, cut_at}
use Rattle.listing.specs.Holds.{Holds}
use Rattle.layouts.specs.Fold.{cut_of}
use Rattle.fold_counts.specs.declared.count.Left.{Left}
use Rattle.fold_counts.specs.declared.chain.Chain.{Chain}

-- the residual that the next item of the run is cut from: the top in a stack of three stages, the right in a strip of two; and the other one
abbrev pub own : Bool → Cut → ℕ
own three c = cond three c.top c.right

abbrev pub other : Bool → Cut → ℕ
other three c = cond three c.right c.top

-- the code's record has what a cut leaves
pub record LeftBy (three : Bool) (c : Cut) (r : Left) : Type 0 where
  pub own-left : r.own.0 ≡ own three c
  pub other-left : r.other.0 ≡ other three c

-- what else the first cut of a run left, 0 where none has been made
abbrev pub rest_of : Option PlateType → ℕ
rest_of rest = (unwrap_or rest (record { 0 = 0 })).0

module _ (l : Listing) (three : Bool) where
  -- the cuts of a run that begins on plate type j
  unfoldable pub chain_cuts : ℕ → List ℕ → List ℕ
  chain_cuts j [] = []
  chain_cuts j (i ∷ is) = cut_of l j i ∷ chain_cuts (own three (cut_at l (cut_of l j i))) is

  -- the plate type that the next item is cut from
  unfoldable pub chain_plate : ℕ → List ℕ → ℕ
  chain_plate j [] = j
  chain_plate j (i ∷ is) = chain_plate (own three (cut_at l (cut_of l j i))) is

  -- what else the first cut leaves
  unfoldable pub chain_rest : ℕ → List ℕ → ℕ
  chain_rest j [] = 0
  chain_rest j (i ∷ is) = other three (cut_at l (cut_of l j i))

-- a run that began on plate type j has come past the items `xs`, and their cuts are counted behind the cuts `ks`
pub record Chained (l : Listing) (three : Bool) (j k : ℕ) (ks xs : List ℕ) (s : Chain) (counts : List ℕ) : Type 0 where
  pub on : s.plate.0 ≡ chain_plate l three j xs
  pub beside : rest_of s.rest ≡ chain_rest l three j xs
  pub some : is_some s.rest ≡ non_empty xs
  pub counted : Holds counts (tally k 1 (ks ++ chain_cuts l three j xs))

-- some run goes on, of which n more items can be counted
pub record ChainGoing (l : Listing) (three : Bool) (k : ℕ) (s : Chain) (counts : List ℕ) (n : ℕ) : Type 0 where
  pub from : ℕ
  pub before : List ℕ
  pub past : List ℕ
  pub chained : Chained l three from k before past s counts
  pub few : length before + length past + n < 2 ^ 16
  pub room : k ≤ length counts
