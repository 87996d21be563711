-- Document 01, "Plan": a count for each cut, the boards that it opens and what they cost (request Six), and when it is refused.
use Rattle.std.specs.Prelude.{ℕ, suc, ◌+◌, ◌*◌, Bool, cond, not, ◌||◌, List, [], ◌∷◌, ltb, eqb, length, drop}
use Rattle.job.specs.declared.item.Item.{Item}
use Rattle.job.specs.Lists.{sum_of}
use Rattle.job.specs.Verdict.{Verdict, ◌then◌, refuse_if, lowest}
use Rattle.job.specs.Job.{Job, size_at, type_of, max_pieces}
use Rattle.listing.specs.declared.plate.Plate.{Plate}
use Rattle.listing.specs.Listing.{Cut, Listing}

-- the counts of the cuts that pass a test, added up; the counts stand in the order of the cuts
unfoldable pub count_of : (Cut → Bool) → List Cut → List ℕ → ℕ
count_of test [] ns = 0
count_of test (c ∷ cs) [] = 0
count_of test (c ∷ cs) (n ∷ ns) = cond (test c) n 0 + count_of test cs ns

-- the cut is of item type i, in either turn: "both turns count towards a type's demand" (request One)
unfoldable pub of_item : ℕ → Cut → Bool
of_item i c = eqb (type_of c.item) i

-- the cut is of position q: of one type in one turn (request One)
unfoldable pub of_position : ℕ → Cut → Bool
of_position q c = eqb c.item q

-- the cut is on plate type j
unfoldable pub on_plate : ℕ → Cut → Bool
on_plate j c = eqb c.plate j

-- the cut is on a size, of which there are t (request Six)
unfoldable pub on_size : ℕ → Cut → Bool
on_size t c = ltb c.plate t

-- the cut leaves residual type j
unfoldable pub leaves_plate : ℕ → Cut → Bool
leaves_plate j c = eqb c.top j || eqb c.right j

-- the boards of size j that are opened: the counts of its cuts added up (request Six)
unfoldable pub boards_of : Listing → ℕ → List ℕ → ℕ
boards_of l j ns = count_of (on_plate j) l.cuts ns

-- the boards opened in all: the counts of the cuts on sizes added up
unfoldable pub boards : Listing → List ℕ → ℕ
boards l ns = count_of (on_size l.sizes) l.cuts ns

-- a value of each cut times its count, added up
unfoldable pub weighed : (Cut → ℕ) → List Cut → List ℕ → ℕ
weighed f [] ns = 0
weighed f (c ∷ cs) [] = 0
weighed f (c ∷ cs) (n ∷ ns) = f c * n + weighed f cs ns

-- what a board of plate type j costs: the cost of the size, and 0 for a residual type (request Six)
unfoldable pub cost_at : Job → ℕ → ℕ
cost_at job j = (size_at job j).cost

-- the cost of a plan: the costs of the boards that it opens, added up (request Six)
unfoldable pub plan_cost : Job → Listing → List ℕ → ℕ
plan_cost job l ns = weighed (λ c. cost_at job c.plate) l.cuts ns

-- all counts together
unfoldable pub total : List ℕ → ℕ
total ns = sum_of (λ n. n) ns

-- item type i: its counts do not reach its demand
unfoldable pub short : Listing → List ℕ → ℕ → Item → Bool
short l ns i item = ltb (count_of (of_item i) l.cuts ns) item.demand

-- residual type j: the counts on it are more than the counts of cuts that leave it
unfoldable pub overdrawn : Listing → List ℕ → ℕ → Plate → Bool
overdrawn l ns j p = ltb (count_of (leaves_plate j) l.cuts ns) (count_of (on_plate j) l.cuts ns)

-- 8 for counts passed as words: "a nonzero word past the last cut", naming the cut that it would be
unfoldable pub counts_row : Listing → List ℕ → Verdict
counts_row l ns = lowest 8 (λ _ n. not (eqb n 0)) (suc (length l.cuts)) (drop (length l.cuts) ns)

-- the plan row from 11 on: 11 type short; 12 residual type overdrawn, whose number follows those of the sizes (request Six)
abbrev pub balance_row : Job → Listing → List ℕ → Verdict
balance_row job l ns = lowest 11 (short l ns) 1 job.items then lowest 12 (overdrawn l ns) l.sizes (drop l.sizes l.plates)

-- the plan row from 10 on: 10 total above 4,000, and then 11 and 12
unfoldable pub plan_row : Job → Listing → List ℕ → Verdict
plan_row job l ns =
    refuse_if (ltb max_pieces (total ns)) 10 0
    then balance_row job l ns
