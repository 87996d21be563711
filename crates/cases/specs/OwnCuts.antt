-- Document 02, request Seven: where the cuts of each plate type begin, the parts of the counts, and the unfolding found in them, where a size has no cut; each
-- field says what it shows or shuts out.
use Rattle.std.specs.Prelude.{ℕ, ◌≡◌, List, [], ◌∷◌, ◌++◌, map}
use Rattle.std.proofs.Math.Option.{Option, none, some}
use Rattle.job.specs.Job.{job_of}
use Rattle.listing.specs.Listing.{listing_of}
use Rattle.layouts.specs.Placement.{opened, turn, placement_words}
use Rattle.layouts.specs.Unfold.{State, nothing_waits, steps_for}
use Rattle.layouts.specs.Offcuts.{offcuts_in, offcut_words}
use Rattle.layouts.specs.OwnCuts.{begin_of, own_part, part_search, part_run, part_events}
use Rattle.cases.specs.Jobs.{plan_a}
use Rattle.cases.specs.Offcuts.{offcuts_a}
use Rattle.cases.specs.BoardSizes.{stock_a, none_fits}

-- the numbers 0 to 9: plate types, or words that name their own place
unfoldable pub numbers : List ℕ
numbers = 0 ∷ 1 ∷ 2 ∷ 3 ∷ 4 ∷ 5 ∷ 6 ∷ 7 ∷ 8 ∷ 9 ∷ []

-- where the cuts of plate types 0 to 9 begin, and which places their parts have
unfoldable pub beginnings : List ℕ → List ℕ
beginnings ws = map (begin_of (listing_of (job_of ws)).cuts) numbers

unfoldable pub parts : List ℕ → List (List ℕ)
parts ws = map (λ j. own_part (listing_of (job_of ws)) j numbers) numbers

-- the cut that is found on a plate type in its part
unfoldable pub found_on : List ℕ → ℕ → List ℕ → Option ℕ
found_on ws j ns = part_search (listing_of (job_of ws)) j ns

-- the unfolding found in the parts, from before the first board: the words of its placements, and of its offcuts, marked by the lengths 4 and 3
pub record ByParts : Type 0 where
  pub placed : List ℕ
  pub left : List ℕ

unfoldable pub by_parts : List ℕ → List ℕ → ByParts
by_parts ws ns =
    let job = job_of ws in
    let l = listing_of job in
    let start : State = record { counts = ns; waiting = nothing_waits; turn = turn (opened 0 0) 0 0 0 } in
    record {
      placed = placement_words (part_run (steps_for ns) job l start).placements;
      left = offcut_words 4 3 (offcuts_in l (part_events (steps_for ns) job l start));
    }

-- sizes 9 by 7, 2 by 2, which no item fits, and 9 by 7 again
unfoldable pub none_between : List ℕ
none_between = stock_a 3 (9 ∷ 7 ∷ 1 ∷ 2 ∷ 2 ∷ 1 ∷ 9 ∷ 7 ∷ 1 ∷ [])

-- sizes 9 by 7, and 2 by 2, which no item fits
unfoldable pub none_last : List ℕ
none_last = stock_a 2 (9 ∷ 7 ∷ 1 ∷ 2 ∷ 2 ∷ 1 ∷ [])

pub record OwnCutsCases : Type 0 where
  -- an empty part, that of a size before all cuts: the next type begins there too. Past the last type all cuts have begun
  pub begins-first : beginnings none_fits ≡ 0 ∷ 0 ∷ 2 ∷ 3 ∷ 4 ∷ 6 ∷ 7 ∷ 8 ∷ 8 ∷ 8 ∷ []
  pub parts_first : parts none_fits ≡ [] ∷ (0 ∷ 1 ∷ []) ∷ (2 ∷ []) ∷ (3 ∷ []) ∷ (4 ∷ 5 ∷ []) ∷ (6 ∷ []) ∷ (7 ∷ []) ∷ [] ∷ [] ∷ [] ∷ []
  -- one between two sizes that have cuts, and one between the sizes and the residual types: shuts out a beginning of 0 and a part with a neighbour's cuts
  pub begins-between : beginnings none_between ≡ 0 ∷ 2 ∷ 2 ∷ 4 ∷ 5 ∷ 6 ∷ 8 ∷ 9 ∷ 10 ∷ 10 ∷ []
  pub parts-between : parts none_between ≡ (0 ∷ 1 ∷ []) ∷ [] ∷ (2 ∷ 3 ∷ []) ∷ (4 ∷ []) ∷ (5 ∷ []) ∷ (6 ∷ 7 ∷ []) ∷ (8 ∷ []) ∷ (9 ∷ []) ∷ [] ∷ [] ∷ []
  pub parts_last : parts none_last ≡ (0 ∷ 1 ∷ []) ∷ [] ∷ (2 ∷ []) ∷ (3 ∷ []) ∷ (4 ∷ 5 ∷ []) ∷ (6 ∷ []) ∷ (7 ∷ []) ∷ [] ∷ [] ∷ [] ∷ []
  -- the first and the last count of a part, and none in an empty one, whatever its neighbours have left
  pub first-of-part : found_on none_between 2 (1 ∷ 1 ∷ 1 ∷ 1 ∷ 1 ∷ []) ≡ some 3
  pub last-of-part : found_on none_between 2 (1 ∷ 1 ∷ 0 ∷ 1 ∷ 1 ∷ []) ≡ some 4
  pub none-in-part : found_on none_between 2 (1 ∷ 1 ∷ 0 ∷ 0 ∷ 1 ∷ []) ≡ none
  pub none_in_empty : found_on none_between 1 (1 ∷ 1 ∷ 1 ∷ 1 ∷ 1 ∷ []) ≡ none
  -- the unfolding on the size that has cuts: job A's boards and its offcuts
  pub unfolded-past-empty :
      (by_parts none_fits plan_a).placed
      ≡ ((1 ∷ 1 ∷ 1 ∷ 1 ∷ 1 ∷ 1 ∷ 0 ∷ 0 ∷ 0 ∷ []) ++ (1 ∷ 1 ∷ 1 ∷ 2 ∷ 1 ∷ 2 ∷ 5 ∷ 0 ∷ 0 ∷ []) ++ (1 ∷ 1 ∷ 2 ∷ 1 ∷ 1 ∷ 2 ∷ 0 ∷ 4 ∷ 0 ∷ [])
      ++ (1 ∷ 1 ∷ 2 ∷ 2 ∷ 1 ∷ 2 ∷ 3 ∷ 4 ∷ 0 ∷ []) ++ (2 ∷ 1 ∷ 1 ∷ 1 ∷ 1 ∷ 1 ∷ 0 ∷ 0 ∷ 0 ∷ []))
  pub left-past-empty : (by_parts none_fits plan_a).left ≡ offcuts_a 0 1 1
