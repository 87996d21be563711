-- Demand 3, folding and bound: what folding makes of a set of layouts that keeps the rules, and how prices bound it.
use Prim.Native.Nat.{ℕ, ◌*◌, ◌≤◌, ◌<◌}
use native.Mathlib.Omega.{arith}
use mathlib.Core.Path.{◌≡◌, refl}
use mathlib.Core.Bool.{true}
use mathlib.Core.List.{List, [], ◌∷◌, map}
use lib.ListN.{length}
use Rattle.job.specs.Lists.{sum_of}
use Rattle.job.specs.Job.{Job, size_at}
use Rattle.job.specs.Admitted.{Sided, SizeLimits}
use Rattle.job.proofs.Verdicts.{then-second, then-both}
use Rattle.listing.specs.Listing.{Listing}
use Rattle.listing.specs.Model.{Model}
use Rattle.plan.specs.Plan.{counts_row, plan_row}
use Rattle.plan.specs.Prices.{Prices, prices_of, price_words, prices_sized, prices_row, price_sum, cheapest}
use Rattle.plan.specs.Feasible.{DualFeasible}
use Rattle.plan.proofs.PlanExact.{plan-exact, counts-exact}
use Rattle.plan.proofs.PriceExact.{prices-exact}
use Rattle.layouts.specs.Layout.{Sheet, sheet, layout_rules}
use Rattle.layouts.specs.Placement.{lines_of, items_of_set, set_cost, meets_demands}
use Rattle.layouts.specs.Lines.{set_of}
use Rattle.layouts.specs.Fold.{ordered, folded}
use Rattle.layouts.specs.Rules.{SetOk}
use Rattle.layouts.specs.Demand3.{Named, Folds, Priced}
use Rattle.layouts.proofs.patterns.Order.{ordered-board-sum}
use Rattle.layouts.proofs.patterns.OrderPattern.{Cuttable, board-cuttable}
use Rattle.layouts.proofs.rules.RulesExact.{set-exact}
use Rattle.layouts.proofs.rules.RulesWords.{demands-exact}
use Rattle.layouts.proofs.row.Grouping.{ok-full, lines-grouped}
use Rattle.layouts.proofs.row.RowLines.{words-rows}
use Rattle.layouts.proofs.row.Row.{set-row}
use Rattle.layouts.proofs.row.RowWords.{lines-words}
use Rattle.layouts.proofs.trees.TreeItems.{set_sum}
use Rattle.layouts.proofs.fold.FoldCounts.{AllInOrder, all_ordered, Trees, fold-trees, folded-length, folded-past, folded-boards, folded-each, folded-cost, folded-types, folded_turns, folded-accepted}
use Rattle.layouts.proofs.demand.Bound.{bound-set, cheapest-set}

module _ (job : Job) (sided : Sided job) where
  -- boards that keep the rules are, in folding's order, the layouts of patterns
  in_order : (bs : List Sheet) → SetOk job bs → AllInOrder job bs
  in_order [] h = tt
  in_order (sheet j b ∷ bs) h =
      let c : Cuttable job (size_at job j) b = board-cuttable job (size_at job j) b h.0.1 in
      ((h.0.0, record { pattern = c.pattern; some-cut = c.some; same = c.back }), in_order bs h.1)

  -- ordering keeps the items of a set
  ordered-set-sum : (bs : List Sheet) (f : ℕ → ℕ) → sum_of f (items_of_set (all_ordered job bs)) ≡ sum_of f (items_of_set bs)
  ordered-set-sum [] f = refl
  ordered-set-sum (sheet j b ∷ bs) f =
      omega (
        arith,
        set_sum f j (map (ordered job) b) (all_ordered job bs),
        set_sum f j b bs,
        ordered-board-sum job f b,
        ordered-set-sum bs f,
      )

module _ (job : Job) (l : Listing) (m : Model job l) (sided : Sided job) where
  module _ (set : List Sheet) (rules : layout_rules job set ≡ true) where
    trees : Trees job l set
    trees = fold-trees job l m sided set (in_order job sided set ((set-exact job set).0 rules))

    module _ (demands : meets_demands job set ≡ true) (prices : List ℕ) (priced : Priced job l prices) where
      ps : Prices
      ps = prices_of job prices

      accepted : DualFeasible job l ps
      unfolding ps
      accepted =
          (prices-exact job l (prices_of job prices)).0
          (then-second (prices_sized job l prices) (prices_row job l (prices_of job prices)) (then-second (price_words prices) _ priced))

      -- the cost of the set, times D, is at least the sum
      pub bounded : price_sum job (prices_of job prices) ≤ set_cost job set * (prices_of job prices).denominator
      unfolding ps
      bounded = bound-set job l m sided (prices_of job prices) accepted set trees (ordered-set-sum job sided set) ((demands-exact job set).0 demands)

      -- no such set costs less than where "cheapest" is 1
      pub none-cheaper : (n : ℕ) → cheapest job (prices_of job prices) n ≡ true → n ≤ set_cost job set
      unfolding ps
      none-cheaper = cheapest-set job l m sided (prices_of job prices) accepted set trees (ordered-set-sum job sided set) ((demands-exact job set).0 demands)

  module _ (small : (j : ℕ) → j < length job.sizes → SizeLimits (size_at job j)) (set : List Sheet) (named : Named job l set) where
    ok : SetOk job set
    ok = (set-exact job set).0 named.rules

    kept : (f : ℕ → ℕ) → sum_of f (items_of_set (all_ordered job set)) ≡ sum_of f (items_of_set set)
    kept = ordered-set-sum job sided set

    ts : Trees job l set
    ts = trees set named.rules

    -- what folding makes of the set
    pub folds-so : Folds job l set
    unfolding set_of
    folds-so =
        record {
          words = lines-words job set small named.rules named.pieces;
          row = set-row job 1 set named.rules named.demands named.pieces;
          read = rw (words-rows (lines_of job set)) (lines-grouped job set (ok-full job set ok));
          folds-to =
              record {
                accepted =
                    record {
                      counted = omega (arith, folded-length job l m sided set ts);
                      passed =
                          then-both (counts_row l (folded job l set)) (plan_row job l (folded job l set))
                          ((counts-exact l (folded job l set)).1 (folded-past job l m sided set ts))
                          ((plan-exact job l (folded job l set)).1
                          (folded-accepted job l m sided set ts kept ((demands-exact job set).0 named.demands) named.pieces));
                    };
                as_many = folded-boards job l m sided set ts;
                as-many-each = folded-each job l m sided set ts;
                same-cost = folded-cost job l m sided set ts;
                as-often = folded-types job l m sided set ts kept;
                turns-as-often = folded_turns job l m sided set ts kept;
              };
        }
