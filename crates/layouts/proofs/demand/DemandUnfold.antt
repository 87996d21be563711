-- Demand 3, unfolding: what the unfolding of an accepted plan is, from the trees of cuts of its boards.
use Prim.Native.Nat.{ℕ, ◌≤◌, ◌<◌}
use native.Mathlib.Omega.{arith}
use mathlib.Core.Path.{◌≡◌, sym, ◌∙◌, ap, subst}
use mathlib.Core.Logic.{◌⊎◌, inl, inr}
use mathlib.Core.Bool.{true}
use mathlib.Core.List.{List, [], ◌∷◌, map}
use lib.Dec.{eqb}
use lib.ListN.{length, get_or, take, replicate, length-replicate, get_or-replicate, length-take, length-map, get_or-eq_default}
use lib.Seq.{ext_get_or, get_or-take}
use Rattle.job.specs.Lists.{occurs}
use Rattle.job.specs.Buffers.{filled}
use Rattle.job.specs.Job.{Job, size_at, type_of}
use Rattle.job.specs.Admitted.{Sided}
use Rattle.job.proofs.Tests.{at-most-or-above}
use Rattle.job.proofs.Verdicts.{then-first, then-second}
use Rattle.job.proofs.Buffers.{filled-length, filled-read}
use Rattle.job.proofs.Sums.{bit, sum_of-map, occurs-sum}
use Rattle.listing.specs.declared.plate.Plate.{Plate}
use Rattle.listing.specs.Plate.{plate}
use Rattle.listing.specs.Listing.{Listing, cut_at}
use Rattle.listing.specs.Model.{Model}
use Rattle.plan.specs.Plan.{count_of, of_item, of_position, on_plate, boards_of, cost_at, plan_cost, counts_row, plan_row}
use Rattle.plan.specs.Feasible.{NonePast, Feasible}
use Rattle.plan.proofs.PlanExact.{plan-exact, counts-exact}
use Rattle.layouts.specs.Layout.{Sheet, sheet_size, strips_of, layout_rules}
use Rattle.layouts.specs.Placement.{placement_words, lines_of, items_of_set, types_of_set, sheets_of, set_cost}
use Rattle.layouts.specs.Unfold.{Run, unfolded}
use Rattle.layouts.specs.Offcuts.{events_of}
use Rattle.layouts.specs.Lines.{set_of}
use Rattle.layouts.specs.Fold.{folded}
use Rattle.layouts.specs.Rules.{SetOk, SheetOk}
use Rattle.layouts.specs.Demand3.{Accepted, UnfoldsTo, Unfolds}
use Rattle.layouts.proofs.lists.Every.{every_map, decides-all, decides-filled}
use Rattle.layouts.proofs.trees.Tree.{Tree, node}
use Rattle.layouts.proofs.trees.Pattern.{Pattern}
use Rattle.layouts.proofs.patterns.PatternRules.{pattern-ok, stack-width, strip-height}
use Rattle.layouts.proofs.patterns.Order.{ordered-pattern}
use Rattle.layouts.proofs.rules.RulesExact.{set-exact}
use Rattle.layouts.proofs.rules.RulesWords.{demands-exact}
use Rattle.layouts.proofs.rules.Geometry.{rules-inside, rules-apart}
use Rattle.layouts.proofs.row.Grouping.{ok-full, lines-grouped}
use Rattle.layouts.proofs.row.RowTurns.{lines-turns}
use Rattle.layouts.proofs.row.RowLines.{words-rows, words-length, lines-length}
use Rattle.layouts.proofs.trees.WeightedSums.{weight, count_of-wsum, weighed-wsum}
use Rattle.layouts.proofs.trees.Balance.{Roots, root_size, root_below, size-set, cost-set}
use Rattle.layouts.proofs.trees.CutTree.{item_tree, root-pattern}
use Rattle.layouts.proofs.trees.TreeItems.{sheet_of, types-occur, roots-items}
use Rattle.layouts.proofs.machine.Greedy.{grows-length}
use Rattle.layouts.proofs.machine.Rising.{grows-rise, tree-sizes}
use Rattle.layouts.proofs.machine.MachineEnds.{Unfolding, unfolds}
use Rattle.layouts.proofs.machine.MachineLines.{FirstLargest, emitted-lines}
use Rattle.layouts.proofs.offcuts.AreaBalance.{offcuts-room, area-balance}
use Rattle.layouts.proofs.offcuts.OffcutsLie.{offcuts-lie}
use Rattle.layouts.proofs.fold.Back.{fold-back}

-- the first item of a pattern's stack is its widest, the first of its strip the highest
first-largest : (job : Job) → Sided job → FirstLargest job
first-largest job sided =
    record {
      wide = λ p e i a b h. stack-width job sided p.width p.height i a b (staged p 2 e (node i a b) h);
      high = λ p e i a b h. strip-height job sided p.width p.height i a b (staged p 1 e (node i a b) h);
    }
  where
    staged : (p : Plate) (s : ℕ) → p.stage ≡ s → (t : Tree) → Pattern job p t → Pattern job (plate p.width p.height s) t
    staged p s e t h = subst (λ (z : ℕ). Pattern job (plate p.width p.height z) t) e h

module _ (job : Job) (l : Listing) (m : Model job l) (sided : Sided job) where
  -- the layouts of trees of cuts keep the rules
  roots-ok : (ts : List Tree) → Roots l ts → SetOk job (map (sheet_of l) ts)
  roots-ok [] h = tt
  roots-ok (t ∷ ts) h =
      let p = root-pattern job l m t h.0 in (
        (omega (arith, root_below l t h.0, m.sized), pattern-ok job sided (size_at job (root_size l t)) (item_tree l t) p.1 p.0),
        roots-ok ts h.1,
      )

  module _ (ns : List ℕ) (plan : Accepted job l ns) where
    abbrev r : Run
    r = unfolded job l ns

    past : NonePast l ns
    past = (counts-exact l ns).0 (then-first (counts_row l ns) (plan_row job l ns) plan.passed)

    balanced : Feasible job l ns
    balanced = (plan-exact job l ns).0 (then-second (counts_row l ns) (plan_row job l ns) plan.passed)

    u : Unfolding job l ns r
    u = unfolds job l m sided ns past balanced

    -- the set of layouts of the unfolding
    abbrev set : List Sheet
    set = map (sheet_of l) u.trees

    ok : SetOk job set
    ok = roots-ok u.trees u.roots

    rules : layout_rules job set ≡ true
    rules = (set-exact job set).1 ok

    lines : r.placements ≡ lines_of job set
    lines = u.rows ∙ emitted-lines job (first-largest job sided) l m u.trees u.roots

    as-often : (i : ℕ) → occurs i (types_of_set set) ≡ count_of (of_item i) l.cuts ns
    unfolding of_item
    as-often i =
        types-occur i set
        ∙ roots-items (λ q. bit (eqb (type_of q) i)) job l m sided u.trees u.roots
        ∙ u.sums (weight (of_item i) l)
        ∙ sym (count_of-wsum (of_item i) l ns past)

    -- of each size as many boards as the plan opens, at its cost
    each-size : (j : ℕ) → j < length job.sizes → sheets_of j set ≡ boards_of l j ns
    unfolding sheets_of boards_of
    each-size j p =
        occurs-sum j (map sheet_size set)
        ∙ sum_of-map (λ k. bit (eqb k j)) sheet_size set
        ∙ sum_of-map (λ b. bit (eqb (sheet_size b) j)) (sheet_of l) u.trees
        ∙ sym (size-set job l m j (omega (arith, m.sized)) u.trees u.roots)
        ∙ u.sums (weight (on_plate j) l)
        ∙ sym (count_of-wsum (on_plate j) l ns past)

    same-cost : set_cost job set ≡ plan_cost job l ns
    unfolding set_cost plan_cost
    same-cost =
        sum_of-map (λ b. cost_at job (sheet_size b)) (sheet_of l) u.trees
        ∙ sym (cost-set job l m u.trees u.roots)
        ∙ u.sums (λ c. cost_at job (cut_at l c).plate)
        ∙ sym (weighed-wsum (λ c. cost_at job c.plate) l ns past)

    turns-as-often : (q : ℕ) → occurs q (items_of_set set) ≡ count_of (of_position q) l.cuts ns
    unfolding of_position
    turns-as-often q =
        occurs-sum q (items_of_set set)
        ∙ roots-items (λ k. bit (eqb k q)) job l m sided u.trees u.roots
        ∙ u.sums (weight (of_position q) l)
        ∙ sym (count_of-wsum (of_position q) l ns past)

    spent : r.last.counts ≡ replicate (length ns) 0
    spent =
        let e : length r.last.counts ≡ length ns = grows-length l u.greedy in
        ext_get_or 0 r.last.counts (replicate (length ns) 0) (e ∙ sym (length-replicate (length ns) 0))
        (λ c h. u.all-0 c ∙ sym (get_or-replicate (length ns) c 0 0 (omega arith)))

    number : length set ≡ length u.trees
    number = length-map u.trees (sheet_of l)

    -- the set is read from the words of the placements
    read : set_of (placement_words r.placements) ≡ set
    unfolding set_of
    read = rw (words-rows r.placements, lines) (lines-grouped job set (ok-full job set ok))

    -- the counts are those of the cuts, and zeros
    whole : filled (length ns) (take (length l.cuts) ns) ≡ ns
    whole =
        let k : ℕ = length l.cuts in
        let few : length (take k ns) ≤ length ns = omega (arith, length-take k ns) in
        ext_get_or 0 (filled (length ns) (take k ns)) ns (filled-length (length ns) (take k ns) few)
        (λ c h. filled-read (length ns) (take k ns) c ∙ at c (at-most-or-above k c))
      where
        at : (c : ℕ) → (length l.cuts ≤ c) ⊎ (c < length l.cuts) → get_or (take (length l.cuts) ns) c 0 ≡ get_or ns c 0
        at c (inr h) = get_or-take (length l.cuts) ns c 0 h
        at c (inl h) =
            let few : length (take (length l.cuts) ns) ≤ c = omega (arith, length-take (length l.cuts) ns) in
            get_or-eq_default (take (length l.cuts) ns) 0 few ∙ sym (past c h)

    back : filled (length ns) (folded job l set) ≡ ns
    back =
        ap (filled (length ns))
        (fold-back job l m sided (λ z. ordered-pattern job sided z.width z.height) ns r u plan.counted)
        ∙ whole

    -- as many pieces as lines
    pieces : length r.placements ≡ length (items_of_set set)
    pieces = ap length lines ∙ lines-length job set

    unfolds-to : UnfoldsTo job l ns set (events_of job l ns)
    unfolds-to =
        record {
          named =
              record {
                rules = rules;
                demands = (demands-exact job set).1 (λ i p q. omega (arith, balanced.met i p q, as-often i));
                pieces = omega (arith, pieces, u.pieces, balanced.few);
              };
          inside-boards = rules-inside job set rules;
          items_apart = rules-apart job set rules;
          as_many = number ∙ u.opens;
          none-empty = (decides-all (λ b. decides-filled (strips_of b)) set).1 (every_map (λ b (h : SheetOk job b). h.1.filled) set ok);
          as-many-each = each-size;
          size-by-size = rw (tree-sizes l u.trees) (grows-rise l u.greedy past);
          same-cost = same-cost;
          all-pieces = sym pieces ∙ u.pieces;
          as-often = as-often;
          turns-as-often = turns-as-often;
          in-turn = lines-turns job 1 set (ok-full job set ok);
          back = back;
          balance = rw lines at (area-balance job l m sided ns past balanced);
          offcuts-lie = rw lines at (offcuts-lie job l m sided ns);
        }

    pub unfolds-so : Unfolds job l ns r (events_of job l ns)
    unfolds-so =
        record {
          spent = spent;
          set = set;
          lines = lines;
          read = read;
          unfolds-to = unfolds-to;
          boards-given = u.last-board ∙ sym number;
          pieces-given = pieces;
          room = omega (arith, words-length r.placements, u.pieces, balanced.few);
          offcuts-room = offcuts-room job l m sided ns past balanced;
        }
