-- What a call promises where it succeeds, by demand 3 and by request Seven: of the words that it is passed and lent, and of the values that it answers.
use Rattle.std.specs.Prelude.{ℕ, ◌≡◌}
use mathlib.Core.List.{List}
use Rattle.std.proofs.Math.ListN.{length}
use Rattle.job.specs.Buffers.{filled}
use Rattle.layouts.specs.Layout.{Sheet}
use Rattle.layouts.specs.Placement.{placement_words, lines_of, items_of_set, set_cost}
use Rattle.layouts.specs.Lines.{set_of}
use Rattle.layouts.specs.Offcuts.{Event, offcuts_in, offcut_words}
use Rattle.layouts.specs.Demand3.{J, L, Named, UnfoldsTo, FoldsTo, Bounds}
use Rattle.layouts.specs.OwnCuts.{OwnCuts}

-- `ws` are the job's words
module _ (ws : List ℕ) where
  -- unfolding: of the two lengths and the counts passed in, the placements and the offcuts as they end, "boards and pieces", and the number of offcuts
  pub record UnfoldPromise (first second : ℕ) (counts placements offcuts : List ℕ) (boards pieces left : ℕ) : Type 0 where
    -- there is a set of layouts; the placements end as its lines, and past them as zeros
    pub set : List Sheet
    pub lines : placements ≡ filled (length placements) (placement_words (lines_of (J ws) set))
    -- "the result's boards and pieces are the set's"
    pub boards-given : boards ≡ length set
    pub pieces-given : pieces ≡ length (items_of_set set)
    -- request Two: cuts are done and pieces left over; the offcuts end as the words of these pieces, and past them as zeros; "unfolding also gives their number"
    pub events : List Event
    pub pieces-over : offcuts ≡ filled (length offcuts) (offcut_words first second (offcuts_in (L ws) events))
    pub offcuts-given : left ≡ length (offcuts_in (L ws) events)
    -- it is the set that an accepted plan unfolds into: inside its boards, any two rectangles of a board at least b apart across or upwards, as many boards,
    -- of each size as many, and as often each type as the plan has; on each board items, offcuts, waste and the blade's swath make its W×H, at most 8,000
    -- offcuts lie inside their boards, at least b apart from each other and from every item
    pub unfolds-to : UnfoldsTo (J ws) (L ws) counts set events
    -- request Seven: the part of the counts in which a piece's cut is sought holds every cut on its plate type and no other, and the unfolding equals the one
    -- found by reading all
    pub own-cuts : OwnCuts (J ws) (L ws)

  -- folding: of the layouts passed in, the counts as they end, and "boards and cost" (request Six)
  pub record FoldPromise (layouts counts : List ℕ) (boards cost : ℕ) : Type 0 where
    -- the layouts are the lines of a set that demand 3 names: it keeps the rules, meets the demands and has at most 4,000 pieces
    pub named : Named (J ws) (L ws) (set_of layouts)
    pub lines : layouts ≡ placement_words (lines_of (J ws) (set_of layouts))
    -- the result's boards and cost are the set's
    pub boards-given : boards ≡ length (set_of layouts)
    pub cost-given : cost ≡ set_cost (J ws) (set_of layouts)
    -- the counts are an accepted plan, which opens as many boards as the set has, of each size as many, and cuts each type as often as it lies there
    pub folds-to : FoldsTo (J ws) (L ws) (set_of layouts) counts

  -- the price test: "sum and D" bound the cost of every set of layouts that keeps the rules and meets the demands, whoever made it
  abbrev pub PricePromise : ℕ → ℕ → Type 0
  PricePromise sum d = Bounds (J ws) (L ws) sum d
