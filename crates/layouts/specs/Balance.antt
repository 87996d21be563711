-- Request Two, "the area balance": "for every accepted plan and every board, item areas, offcuts and waste make W×H"; request Four: "the area balance gains
-- the blade's swath"; W and H are those of the board's own size (request Six). What is left over of each plate type, and how many offcuts there are, rest on
-- the same sums.
use Rattle.std.specs.Prelude.{ℕ, suc, ◌+◌, ◌*◌, ◌≤◌, ◌<◌, ◌≡◌, Bool, true, false, cond, List, [], ◌∷◌, map, ltb, eqb, length, get_or}
use Rattle.job.specs.Lists.{sum_of, occurs}
use Rattle.job.specs.Sizes.{max_offcuts}
use Rattle.job.specs.Job.{Job, size_at, position_at}
use Rattle.listing.specs.Listing.{Cut, Listing, plate_at, cut_at}
use Rattle.listing.specs.Model.{item_of}
use Rattle.listing.specs.Waste.{item_area, waste_of, swath_of}
use Rattle.plan.specs.Plan.{count_of, on_plate, leaves_plate, boards, total}
use Rattle.layouts.specs.Placement.{Placement}
use Rattle.layouts.specs.Offcuts.{Event, placed_in, cuts_in, cuts_on, types_over, Offcut, offcuts_in}

-- n, if c is board b
abbrev pub on_board : ℕ → ℕ → ℕ → ℕ
on_board b c n = cond (eqb c b) n 0

-- "item areas": of the items placed on board b, as they lie
unfoldable pub items_on : Job → ℕ → List Placement → ℕ
items_on job b ps = sum_of (λ p. on_board b p.turn.board.number (item_area (position_at job p.item))) ps

-- the areas of the offcuts of board b
unfoldable pub offcuts_on : ℕ → List Offcut → ℕ
offcuts_on b os = sum_of (λ o. on_board b o.board.number (o.width * o.height)) os

-- request Six: the size of board b, which its first placement names
unfoldable pub size_on : ℕ → List Placement → ℕ
size_on b [] = 0
size_on b (p ∷ ps) = elim (eqb p.turn.board.number b) [ true ↦ p.turn.board.size | false ↦ size_on b ps ]

-- the W×H of size j
unfoldable pub size_area : Job → ℕ → ℕ
size_area job j = (size_at job j).width * (size_at job j).height

-- the waste of some cuts
unfoldable pub waste_by : Job → Listing → List ℕ → ℕ
waste_by job l ks = sum_of (λ k. waste_of job (item_of job (cut_at l k)) (plate_at l (cut_at l k).plate)) ks

-- the blade's swath of some cuts (request Four)
unfoldable pub swath_by : Job → Listing → List ℕ → ℕ
swath_by job l ks = sum_of (λ k. swath_of job (item_of job (cut_at l k)) (plate_at l (cut_at l k).plate)) ks

-- the top, or the right, of a cut is kept: it has a number
abbrev pub keeps_top : Cut → Bool
keeps_top c = ltb 0 c.top

abbrev pub keeps_right : Cut → Bool
keeps_right c = ltb 0 c.right

-- what requests Two and Four say of a plan's counts, the placements ps of its unfolding, and what its steps do, es
pub record AreaBalance (job : Job) (l : Listing) (counts : List ℕ) (ps : List Placement) (es : List Event) : Type 0 where
  -- the steps place these items, each by a cut of its type and turn, and do each cut as often as it is counted
  pub same-items : placed_in es ≡ ps
  pub cut-items : map (λ k. (cut_at l k).item) (cuts_in es) ≡ map (λ p. p.item) ps
  pub cuts-done : (c : ℕ) → occurs (suc c) (cuts_in es) ≡ get_or counts c 0
  -- "for .. every board, item areas, offcuts and waste make W×H", with the swath of the cuts done on it (request Four); W×H of its own size (request Six)
  pub each-board :
      (b : ℕ)
      → 1 ≤ b
      → b ≤ boards l counts
      → items_on job b ps + offcuts_on b (offcuts_in l es) + waste_by job l (cuts_on b es) + swath_by job l (cuts_on b es) ≡ size_area job (size_on b ps)
  -- of each residual type as many are left over as arise and are not cut; of boards none
  pub left_over : (j : ℕ) → l.sizes ≤ j → occurs j (types_over es) + count_of (on_plate j) l.cuts counts ≡ count_of (leaves_plate j) l.cuts counts
  pub no-board-over : (j : ℕ) → j < l.sizes → occurs j (types_over es) ≡ 0
  -- all in all: boards and kept residuals, less cuts
  pub offcuts-number :
      length (offcuts_in l es) + total counts
      ≡ boards l counts + count_of keeps_top l.cuts counts + count_of keeps_right l.cuts counts
  -- so many offcuts have room in "a fifth buffer of 48,000 words"
  pub few-offcuts : length (offcuts_in l es) ≤ max_offcuts
