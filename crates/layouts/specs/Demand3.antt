-- Demand 3, in its own words, for every job whose listing is not refused: every accepted plan unfolds into layouts that keep the rules, with the offcuts
-- and the area balance of requests Two and Four; every set of layouts that keeps the rules folds into an accepted plan; every accepted price list bounds every such
-- set. `Demand3` is the whole of it.
use Rattle.std.specs.Prelude.{ℕ, ◌*◌, ◌-◌, ◌≤◌, ◌<◌, ◌≡◌, ◌⊎◌}
use Rattle.std.proofs.Math.Bool.{true, false}
use mathlib.Core.List.{List, map}
use Rattle.std.proofs.Math.ListN.{length, replicate}
use Rattle.job.specs.Lists.{all, non_empty, occurs}
use Rattle.job.specs.Verdict.{Verdict, pass, refuse, ◌then◌}
use Rattle.job.specs.Buffers.{filled, placements_size, offcuts_size}
use Rattle.job.specs.Job.{Job, job_of, job_words, admission, max_pieces}
use Rattle.job.specs.Admitted.{PositionsExact}
use Rattle.listing.specs.Listing.{Listing, model_row, listing_of}
use Rattle.plan.specs.Plan.{count_of, of_item, of_position, boards_of, boards, plan_cost, total, counts_row, plan_row}
use Rattle.plan.specs.Prices.{prices_of, price_words, prices_sized, prices_row, price_sum, cheapest}
use Rattle.layouts.specs.Layout.{Stack, Strip, Sheet, sheet_size, strips_of, width_of, stack_height, layout_rules}
use Rattle.layouts.specs.Placement.{placement_words, lines_of, items_of_set, sheets_of, set_cost, types_of_set, meets_demands}
use Rattle.layouts.specs.Rectangle.{inside, all_apart}
use Rattle.layouts.specs.Rules.{NeverFalls}
use Rattle.layouts.specs.Unfold.{Run, unfolded}
use Rattle.layouts.specs.Lines.{layout_words, turns, set_of}
use Rattle.layouts.specs.LayoutsRow.{layouts_row}
use Rattle.layouts.specs.Fold.{folded}
use Rattle.layouts.specs.Offcuts.{Event, events_of, offcuts_in, offcut_words}
use Rattle.layouts.specs.Balance.{AreaBalance}
use Rattle.layouts.specs.Parts.{OffcutsLie}
use Rattle.layouts.specs.UnfoldCall.{lengths_right, unfold_verdict}
use Rattle.layouts.specs.FoldCall.{fold_verdict}
use Rattle.layouts.specs.Exact.{TestsExact, InOrder}

-- a job whose listing is not refused, of which alone demand 3 speaks: its words are admitted, and its walk meets no limit
abbrev pub Listed : List ℕ → Type 0
Listed ws = (job_words ws then admission (job_of ws) then model_row (job_of ws)) ≡ pass

-- a refusal, if there is one, is 5
abbrev pub OnlyFive : Verdict → Type 0
OnlyFive v = (v ≡ pass) ⊎ ((place : ℕ) × (v ≡ refuse 5 place))

module _ (job : Job) (l : Listing) where
  -- an accepted plan: counts for all cuts that the plan row accepts
  pub record Accepted (counts : List ℕ) : Type 0 where
    pub counted : length l.cuts ≤ length counts
    pub passed : (counts_row l counts then plan_row job l counts) ≡ pass

  -- a set of layouts that demand 3 names: it keeps the rules, which leave no board empty, meets the demands and has at most 4,000 pieces
  pub record Named (set : List Sheet) : Type 0 where
    pub rules : layout_rules job set ≡ true
    pub demands : meets_demands job set ≡ true
    pub pieces : length (items_of_set set) ≤ max_pieces

  -- an accepted price list
  abbrev pub Priced : List ℕ → Type 0
  Priced prices = (price_words prices then prices_sized job l prices then prices_row job l (prices_of job prices)) ≡ pass

  -- the set of layouts that a plan unfolds into, and what the steps of the unfolding do, es
  pub record UnfoldsTo (counts : List ℕ) (set : List Sheet) (es : List Event) : Type 0 where
    -- it keeps the rules of the mode, meets every demand and has at most 4,000 pieces
    pub named : Named set
    -- rectangles inside their boards; any two of a board at least b apart across or at least b apart upwards (request Four), so that none overlap
    pub inside-boards : all (inside job) (lines_of job set) ≡ true
    pub items_apart : all_apart job (lines_of job set) ≡ true
    -- exactly as many boards as the plan opened, none of them empty
    pub as_many : length set ≡ boards l counts
    pub none-empty : all (λ b. non_empty (strips_of b)) set ≡ true
    -- request Six: as many of each size, opened size by size in rising number; so they cost what the plan costs
    pub as-many-each : (j : ℕ) → j < length job.sizes → sheets_of j set ≡ boards_of l j counts
    pub size-by-size : NeverFalls (map sheet_size set)
    pub same-cost : set_cost job set ≡ plan_cost job l counts
    -- exactly as many pieces as the counts come to, and each item type exactly as often as the plan cuts it
    pub all-pieces : length (items_of_set set) ≡ total counts
    pub as-often : (i : ℕ) → occurs i (types_of_set set) ≡ count_of (of_item i) l.cuts counts
    -- and so each type in each turn, whose number is q (request One)
    pub turns-as-often : (q : ℕ) → occurs q (items_of_set set) ≡ count_of (of_position q) l.cuts counts
    -- board, strip, stack and place run in turn from 1
    pub in-turn : turns 1 (lines_of job set) ≡ pass
    -- folding it gives back the counts, word for word
    pub back : filled (length counts) (folded job l set) ≡ counts
    -- requests Two and Four: the area balance of every board with the blade's swath, what is left over of each type, the number of offcuts
    pub balance : AreaBalance job l counts (lines_of job set) es
    -- its offcuts are inside their boards, and at least b apart from each other and from every item
    pub offcuts-lie : OffcutsLie job (lines_of job set) (offcuts_in l es)

  -- what the unfolding r of a plan gives, and its steps, es
  pub record Unfolds (counts : List ℕ) (r : Run) (es : List Event) : Type 0 where
    -- every count ends at 0
    pub spent : r.last.counts ≡ replicate (length counts) 0
    -- the placements are the lines of a set of layouts, which their words are read as
    pub set : List Sheet
    pub lines : r.placements ≡ lines_of job set
    pub read : set_of (placement_words r.placements) ≡ set
    pub unfolds-to : UnfoldsTo counts set es
    -- the result's boards and pieces are the set's; the pieces fit the buffer
    pub boards-given : r.last.turn.board.number ≡ length set
    pub pieces-given : length r.placements ≡ length (items_of_set set)
    pub room : length (placement_words r.placements) ≤ placements_size
    -- and the offcuts theirs, whatever the two lengths (request Two)
    pub offcuts-room : (first second : ℕ) → length (offcut_words first second (offcuts_in l es)) ≤ offcuts_size

  -- the plan that a set folds into
  pub record FoldsTo (set : List Sheet) (counts : List ℕ) : Type 0 where
    -- it is accepted
    pub accepted : Accepted counts
    -- it opens exactly as many boards as the set has, and cuts each type exactly as often as it lies there
    pub as_many : boards l counts ≡ length set
    -- request Six: "folding and later conversions keep the boards of each size", and so the cost
    pub as-many-each : (j : ℕ) → j < length job.sizes → boards_of l j counts ≡ sheets_of j set
    pub same-cost : plan_cost job l counts ≡ set_cost job set
    pub as-often : (i : ℕ) → count_of (of_item i) l.cuts counts ≡ occurs i (types_of_set set)
    -- and so each type in each turn, whose number is q (request One)
    pub turns-as-often : (q : ℕ) → count_of (of_position q) l.cuts counts ≡ occurs q (items_of_set set)

  -- what folding makes of a set
  pub record Folds (set : List Sheet) : Type 0 where
    -- the lines of the set pass the line row and the whole layouts row, and are read as the set
    pub words : layout_words job (placement_words (lines_of job set)) ≡ pass
    pub row : layouts_row 1 job (lines_of job set) ≡ pass
    pub read : set_of (placement_words (lines_of job set)) ≡ set
    -- the counts
    pub folds-to : FoldsTo set (folded job l set)

  -- what a sum and a D say of every set of layouts over the sizes of the job that keeps the rules and meets the demands, whoever made it
  pub record Bounds (sum d : ℕ) : Type 0 where
    -- "none costs less than" the bound (request Six): times D its cost is "at least the sum of price times demand, nothing rounded"
    pub at_least :
        (set : List Sheet)
        → layout_rules job set ≡ true
        → meets_demands job set ≡ true
        → sum ≤ set_cost job set * d
    -- where "cost minus 1, times D," is "below the sum", no such set costs less
    pub none-cheaper :
        (n : ℕ)
        → (n - 1) * d < sum
        → (set : List Sheet)
        → layout_rules job set ≡ true
        → meets_demands job set ≡ true
        → n ≤ set_cost job set

module _ (ws : List ℕ) where
  -- the job of the words, and its listing
  abbrev pub J : Job
  J = job_of ws

  abbrev pub L : Listing
  L = listing_of J

  -- demand 3 of one job
  pub record Demand3Of : Type 0 where
    -- for every accepted plan
    pub unfolds :
        (counts : List ℕ)
        → Accepted J L counts
        → Unfolds J L counts (unfolded J L counts) (events_of J L counts)
    pub unfolds-but-for-five :
        (counts : List ℕ)
        → Accepted J L counts
        → (first second : ℕ)
        → lengths_right first second ≡ true
        → (plates cuts placements offcuts : List ℕ)
        → OnlyFive (unfold_verdict ws first second counts plates cuts placements offcuts)
    -- request Two: for lengths outside their limits 2, place 0, "the one refusal besides 5 that demand 3 then leaves an unfolding"
    pub lengths-refused :
        (first second : ℕ)
        → lengths_right first second ≡ false
        → (counts plates cuts placements offcuts : List ℕ)
        → unfold_verdict ws first second counts plates cuts placements offcuts ≡ refuse 2 0
    -- for every set of layouts that it names
    pub folds :
        (set : List Sheet)
        → Named J L set
        → Folds J L set
    pub folds-but-for-five :
        (set : List Sheet)
        → Named J L set
        → (plates cuts counts : List ℕ)
        → OnlyFive (fold_verdict ws (placement_words (lines_of J set)) plates cuts counts)
    -- conversely, layout words that folding accepts are the lines of such a set
    pub folds-only :
        (layouts plates cuts counts : List ℕ)
        → fold_verdict ws layouts plates cuts counts ≡ pass
        → Named J L (set_of layouts) × (layouts ≡ placement_words (lines_of J (set_of layouts)))
    -- for every accepted price list, the sum and D bound every such set
    pub bounds :
        (prices : List ℕ)
        → Priced J L prices
        → Bounds J L (price_sum J (prices_of J prices)) (prices_of J prices).denominator
    -- where "cheapest" is 1 for a cost of n, no such set costs less (request Six)
    pub cheapest-set :
        (prices : List ℕ)
        → Priced J L prices
        → (n : ℕ)
        → cheapest J (prices_of J prices) n ≡ true
        → (set : List Sheet)
        → layout_rules J set ≡ true
        → meets_demands J set ≡ true
        → n ≤ set_cost J set

-- demand 3
pub record Demand3 : Type 0 where
  -- of every job whose listing is not refused
  pub every-listed : (ws : List ℕ) → Listed ws → Demand3Of ws
  -- the positions by which it speaks of items that are turned: which are permitted, and how an item lies there (request One)
  pub positions : (job : Job) → PositionsExact job
  -- the tests by which it speaks of rules, demands and rectangles decide the plain statements of `Rules`
  pub tests : (job : Job) → TestsExact job
  -- folding's order: "within each two-stage strip by falling height and within each three-stage stack by falling width"
  pub strip-order : (job : Job) (strip : Strip) → InOrder (stack_height job) strip
  pub stack-order : (job : Job) (stack : Stack) → InOrder (width_of job) stack
