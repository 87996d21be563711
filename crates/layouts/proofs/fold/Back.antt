-- Document 01, "Layouts and folding": "folding an unfolded plan gives back its counts".
use Prim.Native.Nat.{ℕ, ◌+◌, ◌≤◌, ◌<◌}
use native.Mathlib.Omega.{arith}
use mathlib.Core.Path.{◌≡◌, refl, sym, ◌∙◌, ap, ap₂}
use mathlib.Core.List.{List, [], ◌∷◌, ◌++◌, map}
use lib.Dec.{eqb}
use lib.ListN.{length, get_or, take}
use lib.Seq.{ext_get_or, length-take-le, get_or-take}
use Rattle.job.specs.Lists.{tally}
use Rattle.job.specs.declared.size.Size.{Size}
use Rattle.job.specs.Job.{Job, size_at}
use Rattle.job.specs.Admitted.{Sided}
use Rattle.job.proofs.Sums.{bit, occurs-sum, tally-length, tally-at}
use Rattle.listing.specs.Plate.{board}
use Rattle.listing.specs.Listing.{Listing}
use Rattle.listing.specs.Model.{Model}
use Rattle.layouts.specs.Unfold.{Run}
use Rattle.layouts.specs.Fold.{ordered, board_cuts, set_cuts, folded}
use Rattle.layouts.proofs.trees.Tree.{Tree}
use Rattle.layouts.proofs.trees.Pattern.{Pattern, board_of}
use Rattle.layouts.proofs.trees.Balance.{Roots, root_size}
use Rattle.layouts.proofs.trees.CutTree.{item_tree, root-pattern}
use Rattle.layouts.proofs.trees.TreeItems.{sheet_of}
use Rattle.layouts.proofs.machine.MachineEnds.{Unfolding}
use Rattle.layouts.proofs.trees.Tally.{all_labels, all-labels-sum}
use Rattle.layouts.proofs.fold.FoldCuts.{root-cuts}

-- the tally of the cuts of an unfolding's trees is the counts of the plan
pub labels-back : (job : Job) (l : Listing) (ns : List ℕ) (r : Run) (u : Unfolding job l ns r) → length l.cuts ≤ length ns
    → tally (length l.cuts) 1 (all_labels u.trees) ≡ take (length l.cuts) ns
labels-back job l ns r u h =
    ext_get_or 0 (tally n 1 ks) (take n ns) (tally-length n 1 ks ∙ sym (length-take-le n ns h)) (λ c p. at c (omega (arith, tally-length n 1 ks)))
  where
    n : ℕ
    n = length l.cuts

    ks : List ℕ
    ks = all_labels u.trees

    at : (c : ℕ) → c < n → get_or (tally n 1 ks) c 0 ≡ get_or (take n ns) c 0
    at c p =
        tally-at n 1 ks c 0 p ∙ occurs-sum (1 + c) ks ∙ all-labels-sum (λ d. bit (eqb d (1 + c))) u.trees ∙ u.each c ∙ sym (get_or-take n ns c 0 p)

-- Where the layout of a pattern is in folding's order already:
module _ (job : Job) (l : Listing) (m : Model job l) (sided : Sided job)
    (in_order : (z : Size) (x : Tree) → Pattern job (board z) x → map (ordered job) (board_of x) ≡ board_of x) where
  -- the cuts of the layouts of some boards' trees are the trees' labels
  pub cuts_back : (ts : List Tree) → Roots l ts → set_cuts job l (map (sheet_of l) ts) ≡ all_labels ts
  unfolding set_cuts
  cuts_back [] h = refl
  cuts_back (t ∷ ts) h =
      ap₂ (λ (ks ms : List ℕ). ks ++ ms)
      (ap (board_cuts l (root_size l t)) (in_order (size_at job (root_size l t)) (item_tree l t) (root-pattern job l m t h.0).0) ∙ root-cuts job l m sided t h.0) (cuts_back ts h.1)

  -- folding the layouts of an unfolding gives back the counts
  pub fold-back : (ns : List ℕ) (r : Run) (u : Unfolding job l ns r) → length l.cuts ≤ length ns → folded job l (map (sheet_of l) u.trees) ≡ take (length l.cuts) ns
  unfolding folded
  fold-back ns r u h = ap (tally (length l.cuts) 1) (cuts_back u.trees u.roots) ∙ labels-back job l ns r u h
