-- Document 01, "The job", in plain statements: what is true of a job's words, and of the job, where 1, 2, 3 and 4 do not refuse them.
use Rattle.std.specs.Prelude.{ℕ, ◌+◌, ◌*◌, ◌≤◌, ◌<◌, ◌≡◌, ◌⊎◌, ◌↔◌, true, List, length, get_or}
use Rattle.job.specs.declared.size.Size.{Size}
use Rattle.job.specs.declared.item.Item.{Item}
use Rattle.job.specs.declared.item.Position.{Position}
use Rattle.job.specs.Sizes.{job_size}
use Rattle.job.specs.Job.{Job, size_at, item_at, type_of, turn_of, position_at, permitted, board_sizes, types_of, job_of, demanded, max_side, max_blade, max_sizes, max_cost, max_types, max_pieces}

-- a value from one limit to another, both included
abbrev pub Between : ℕ → ℕ → ℕ → Type 0
Between low high x = (low ≤ x) × (x ≤ high)

-- an item type within its limits
pub record ItemLimits (it : Item) : Type 0 where
  pub width-limits : Between 1 max_side it.width
  pub height-limits : Between 1 max_side it.height
  pub demand-limits : Between 1 max_pieces it.demand
  pub leave-limits : Between 0 1 it.leave

-- request Six: a size within its limits
pub record SizeLimits (z : Size) : Type 0 where
  pub width-limits : Between 1 max_side z.width
  pub height-limits : Between 1 max_side z.height
  pub cost-limits : Between 1 max_cost z.cost

-- the words of a job, where neither 1 nor 2 refuses them: as many as their t and n say, each within its limits
pub record WordsRight (ws : List ℕ) : Type 0 where
  pub whole : length ws ≡ job_size (board_sizes ws) (types_of ws)
  pub stages-limits : Between 2 3 (get_or ws 0 0)
  pub exact-limits : Between 0 1 (get_or ws 1 0)
  pub sizes-limits : Between 1 max_sizes (board_sizes ws)
  pub types-limits : Between 1 max_types (types_of ws)
  pub blade-limits : Between 0 max_blade (get_or ws 4 0)
  pub each-size : (j : ℕ) → j < board_sizes ws → SizeLimits (size_at (job_of ws) j)
  pub each_item : (i : ℕ) → 1 ≤ i → i ≤ types_of ws → ItemLimits (item_at (job_of ws) i)

-- request One: an item may lie in position q. Its type is "1 to n", and its turn is 0, or else 1 for a type with leave that is not square
pub record MayLie (job : Job) (q : ℕ) : Type 0 where
  pub type : Between 1 (length job.items) (type_of q)
  pub turn : Between 0 1 (turn_of q)
  pub leave : turn_of q ≡ 1 → (item_at job (type_of q)).leave ≡ 1
  pub not-square : turn_of q ≡ 1 → (item_at job (type_of q)).width ≡ (item_at job (type_of q)).height → ⊥

-- the sides of an item as it lies
abbrev pub HasSides : Position → ℕ → ℕ → Type 0
HasSides p w h = (p.width ≡ w) × (p.height ≡ h)

-- the sides of position q: those of its type, and turned the one for the other
pub record LiesSo (job : Job) (q : ℕ) : Type 0 where
  pub unturned : turn_of q ≡ 0 → HasSides (position_at job q) (item_at job (type_of q)).width (item_at job (type_of q)).height
  pub turned : turn_of q ≡ 1 → HasSides (position_at job q) (item_at job (type_of q)).height (item_at job (type_of q)).width

-- request One: what the positions of a job are. A number is "twice the type plus the turn"; those positions are permitted in which an item may lie;
-- and so it lies there
pub record PositionsExact (job : Job) : Type 0 where
  pub number : (q : ℕ) → 2 * type_of q + turn_of q ≡ q
  pub may-lie : (q : ℕ) → (permitted job q ≡ true) ↔ MayLie job q
  pub sides : (q : ℕ) → MayLie job q → LiesSo job q

-- position q is permitted and no wider or taller than a board of size j
pub record Fits (job : Job) (q j : ℕ) : Type 0 where
  pub allowed : MayLie job q
  pub in-width : (position_at job q).width ≤ (size_at job j).width
  pub in-height : (position_at job q).height ≤ (size_at job j).height

-- a job that neither 3 nor 4 refuses: each item type fits a board of some size unturned or turned, and at most 4,000 demanded
pub record Fitting (job : Job) : Type 0 where
  pub in-board : (i : ℕ) → 1 ≤ i → i ≤ length job.items → (j : ℕ) × (j < length job.sizes) × (Fits job (2 * i) j ⊎ Fits job (2 * i + 1) j)
  pub few-demanded : demanded job ≤ max_pieces

-- the words of a job that is admitted
pub record AdmittedWords (ws : List ℕ) : Type 0 where
  pub right : WordsRight ws
  pub fitting : Fitting (job_of ws)

-- a job that is admitted
pub record Admitted (job : Job) : Type 0 where
  pub sizes-limits : Between 1 max_sizes (length job.sizes)
  pub each-size : (j : ℕ) → j < length job.sizes → SizeLimits (size_at job j)
  pub types-limits : Between 1 max_types (length job.items)
  pub blade-limits : Between 0 max_blade job.blade
  pub each_item : (i : ℕ) → 1 ≤ i → i ≤ length job.items → ItemLimits (item_at job i)
  pub fitting : Fitting job

-- request Six: a job with 1 to 6 sizes
abbrev pub Stocked : Job → Type 0
Stocked job = Between 1 max_sizes (length job.sizes)

-- every permitted position has sides of at least 1
abbrev pub Sided : Job → Type 0
Sided job = (q : ℕ) → permitted job q ≡ true → (1 ≤ (position_at job q).width) × (1 ≤ (position_at job q).height)
