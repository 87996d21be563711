-- Demand 2's sentence on plans, and document 01's on prices, as plain statements: what the plan row and the prices row decide.
use Rattle.std.specs.Prelude.{ℕ, suc, ◌*◌, ◌≤◌, ◌<◌, ◌≡◌, List, length, get_or}
use Rattle.job.specs.Job.{Job, item_at, max_pieces}
use Rattle.listing.specs.Listing.{Listing, cut_at}
use Rattle.plan.specs.Plan.{cost_at, count_of, of_item, on_plate, leaves_plate, total}
use Rattle.plan.specs.Prices.{Prices, residual_price, worth}

-- what demand 2 asks of a plan: each item type is cut at least as often as demanded, no residual type is cut more often than it arises, and the
-- counts add up to at most 4,000; "both turns count towards a type's demand" (request One); the residual types follow the sizes (request Six)
pub record Feasible (job : Job) (l : Listing) (ns : List ℕ) : Type 0 where
  pub few : total ns ≤ max_pieces
  pub met : (i : ℕ) → 1 ≤ i → i ≤ length job.items → (item_at job i).demand ≤ count_of (of_item i) l.cuts ns
  pub covered : (j : ℕ) → l.sizes ≤ j → j < length l.plates → count_of (on_plate j) l.cuts ns ≤ count_of (leaves_plate j) l.cuts ns

-- every word past the last cut is 0
abbrev pub NonePast : Listing → List ℕ → Type 0
NonePast l ns = (c : ℕ) → length l.cuts ≤ c → get_or ns c 0 ≡ 0

-- prices are accepted exactly when the worth of each cut is at most "D times its cost" on a size (request Six), "else at most the price of the plate cut"
pub record DualFeasible (job : Job) (l : Listing) (ps : Prices) : Type 0 where
  pub on-size : (c : ℕ) → c < length l.cuts → (cut_at l (suc c)).plate < length job.sizes → worth job ps (cut_at l (suc c)) ≤ ps.denominator * cost_at job (cut_at l (suc c)).plate
  pub on-residual : (c : ℕ) → c < length l.cuts → length job.sizes ≤ (cut_at l (suc c)).plate → worth job ps (cut_at l (suc c)) ≤ residual_price job ps (cut_at l (suc c)).plate
