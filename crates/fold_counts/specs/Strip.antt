-- Document 01, "Layouts and folding": the cuts of a set in folding's order, strip by strip and stack by stack.
use Rattle.std.specs.Prelude.{ℕ, ◌≡◌, Bool, true, cond, List, [], ◌∷◌, ◌++◌, map}
use Rattle.job.specs.Job.{Job}
use Rattle.listing.specs.Listing.{Listing, cut_at}
use Rattle.layouts.specs.Layout.{Strip, Sheet, sheet, strips_of, width_of, full_stack, stage_rule}
use Rattle.layouts.specs.Rules.{Every}
use Rattle.layouts.specs.Fold.{falling, without, ordered, cut_of, strip_cuts, board_cuts, set_cuts}
use Rattle.fold_counts.specs.Chain.{chain_cuts, chain_rest}

module _ (l : Listing) where
  -- the cuts of one strip of a board, whose first item is cut from plate type j
  unfoldable pub strip_begun : ℕ → Strip → List ℕ
  strip_begun j [] = []
  strip_begun j ([] ∷ ks) = []
  strip_begun j ((i ∷ is) ∷ ks) = cut_of l j i ∷ strip_cuts l (cut_at l (cut_of l j i)).right ks

  -- the plate type that the next strip of the board is cut from
  unfoldable pub strip_above : ℕ → Strip → ℕ
  strip_above j [] = j
  strip_above j ([] ∷ ks) = j
  strip_above j ((i ∷ is) ∷ ks) = (cut_at l (cut_of l j i)).top

-- the cuts of a set whose first board goes on from plate type j
unfoldable pub set_from : Job → Listing → ℕ → List Sheet → List ℕ
set_from job l j [] = []
set_from job l j (sheet z b ∷ bs) = board_cuts l j (map (ordered job) b) ++ set_cuts job l bs

-- each strip of a set keeps the stage rule
abbrev pub EachStaged : Job → List Sheet → Type 0
EachStaged job bs = Every (λ b. Every (λ s. stage_rule job s ≡ true) (strips_of b)) bs

-- the stacks of a three-stage strip of height h, each by falling width, but for the one that comes to the front if that is still to be passed
abbrev pub others : Job → ℕ → Bool → Strip → Strip
others job h passed s =
    cond passed (map (falling (width_of job)) s) (without (full_stack job h) (map (falling (width_of job)) s))

-- what the code does with a stack whose items, in order, are `xs`: nothing where it comes to the front, else it cuts it from plate type j
abbrev pub turn_cuts : Listing → Bool → ℕ → List ℕ → List ℕ
turn_cuts l front j xs = cond front [] (chain_cuts l true j xs)

abbrev pub turn_next : Listing → Bool → ℕ → List ℕ → ℕ
turn_next l front j xs = cond front j (chain_rest l true j xs)
