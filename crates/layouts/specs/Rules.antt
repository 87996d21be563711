-- Document 01, "Layouts and folding", first paragraph, and "The words of demand 3", in plain statements: what the tests `board_rules`,
-- `meets_demands`, `inside` and `all_apart` decide.
use Rattle.std.specs.Prelude.{ℕ, ◌+◌, ◌≤◌, ◌<◌, ◌≡◌, ◌⊎◌, true, false, List, [], ◌∷◌, length, get_or}
use Rattle.job.specs.Lists.{occurs}
use Rattle.job.specs.Mode.{three, exact}
use Rattle.job.specs.declared.size.Size.{Size}
use Rattle.job.specs.Job.{Job, size_at, item_at}
use Rattle.job.specs.Admitted.{MayLie}
use Rattle.layouts.specs.Layout.{Stack, Strip, Board, Sheet, sheet_size, strips_of, width_of, height_of, stack_height, strip_height, strip_width, board_height}
use Rattle.layouts.specs.Placement.{Placement, no_placement, items_of_strip, types_of_set}

module _ {A : Type 0} where
  -- every element, some element
  abbrev pub Every : (A → Type 0) → List A → Type 0
  Every P [] = Unit {0}
  Every P (a ∷ as') = P a × Every P as'

  abbrev pub Some : (A → Type 0) → List A → Type 0
  Some P [] = ⊥
  Some P (a ∷ as') = P a ⊎ Some P as'

  -- not empty
  abbrev pub Filled : List A → Type 0
  Filled [] = ⊥
  Filled (a ∷ as') = Unit {0}

  -- any two have the same value of f
  abbrev pub Alike : (A → ℕ) → List A → Type 0
  Alike f l = Every (λ a. Every (λ b. f a ≡ f b) l) l

-- numbers of which none is above a later one
abbrev pub NeverFalls : List ℕ → Type 0
NeverFalls [] = Unit {0}
NeverFalls (a ∷ as') = Every (λ b. a ≤ b) as' × NeverFalls as'

-- a stack that is one item
abbrev pub Single : Stack → Type 0
Single s = length s ≡ 1

-- an item type of the job, "1 to n", in a position that is permitted (request One)
abbrev pub OfJob : Job → ℕ → Type 0
OfJob job q = MayLie job q

-- the stage rule of a strip, by the mode
pub record Staged (job : Job) (s : Strip) : Type 0 where
  -- "two-stage: each stack is one item; in 2E all items of a strip are equally high"
  pub single : three job.mode ≡ false → Every Single s
  pub level : three job.mode ≡ false → exact job.mode ≡ true → Alike (height_of job) (items_of_strip s)
  -- "three-stage: some stack of each strip is a single item of the strip's height; in 3E all items of a stack are equally wide"
  pub full : three job.mode ≡ true → Some (λ k. Single k × (stack_height job k ≡ strip_height job s)) s
  pub even : three job.mode ≡ true → exact job.mode ≡ true → Every (Alike (width_of job)) s

-- a strip that keeps the rules: nothing in it is empty, its items are of the job in permitted positions, and "stack widths of a strip add up to at most W", with the
-- gaps between them (request Four)
pub record StripOk (job : Job) (z : Size) (s : Strip) : Type 0 where
  pub filled : Filled s
  pub stacks : Every Filled s
  pub types : Every (Every (OfJob job)) s
  pub staged : Staged job s
  pub across : strip_width job s ≤ z.width

-- a board that keeps the rules: added up with the gaps between them (request Four), "strip heights to at most H"; W and H are those of its size z (request Six)
pub record BoardOk (job : Job) (z : Size) (b : Board) : Type 0 where
  pub filled : Filled b
  pub strips : Every (StripOk job z) b
  pub up : board_height job b ≤ z.height

-- .. a board of one of the job's sizes
abbrev pub SheetOk : Job → Sheet → Type 0
SheetOk job b = (sheet_size b < length job.sizes) × BoardOk job (size_at job (sheet_size b)) (strips_of b)

-- a set of layouts that keeps the rules
abbrev pub SetOk : Job → List Sheet → Type 0
SetOk job bs = Every (SheetOk job) bs

-- "it meets the demands if each type lies in it at least as often as demanded"
abbrev pub MeetsDemands : Job → List Sheet → Type 0
MeetsDemands job bs = (i : ℕ) → 1 ≤ i → i ≤ length job.items → (item_at job i).demand ≤ occurs i (types_of_set bs)

-- "that is inside its board if x+wi and y+hi are at most the board's width and height", which are those of its size (request Six)
abbrev pub Inside : Job → Placement → Type 0
Inside job p =
    (p.x + width_of job p.item ≤ (size_at job p.turn.board.size).width)
    × (p.y + height_of job p.item ≤ (size_at job p.turn.board.size).height)

-- "any two rectangles of a board are at least b apart across or at least b apart upwards" (request Four)
abbrev pub Apart : Job → Placement → Placement → Type 0
Apart job p q =
    (p.x + width_of job p.item + job.blade ≤ q.x)
    ⊎ (q.x + width_of job q.item + job.blade ≤ p.x)
    ⊎ (p.y + height_of job p.item + job.blade ≤ q.y)
    ⊎ (q.y + height_of job q.item + job.blade ≤ p.y)

-- any two placements of one board are apart; j and k are their places in the list, from 0
abbrev pub AllApart : Job → List Placement → Type 0
AllApart job ps =
    (j k : ℕ)
    → j < k
    → k < length ps
    → (get_or ps j no_placement).turn.board.number ≡ (get_or ps k no_placement).turn.board.number
    → Apart job (get_or ps j no_placement) (get_or ps k no_placement)
