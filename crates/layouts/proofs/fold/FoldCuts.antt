-- Document 01, "Layouts and folding": "it then counts the cuts of that order". The cuts of a layout that is the layout of a tree of cuts are the
-- tree's labels.
use Prim.Native.Nat.{ℕ, zero, suc, ◌+◌, ◌<◌}
use native.Mathlib.Omega.{arith}
use native.Mathlib.Nat.{add-suc, suc-add}
use mathlib.Core.Path.{◌≡◌, refl, sym, ◌∙◌, ap, ap₂}
use mathlib.Core.Bool.{Bool, true, false, ◌&&◌}
use mathlib.Core.List.{List, [], ◌∷◌, ◌++◌}
use lib.Dec.{eqb}
use lib.ListN.{length, get_or}
use borrow.Author.Tests.{eqb-true, eq-eqb}
use Rattle.job.specs.Job.{Job}
use Rattle.job.specs.Admitted.{Sided}
use Rattle.listing.specs.Listing.{Cut, Listing, plate_at, cut_at, no_cut}
use Rattle.listing.specs.Model.{Model}
use Rattle.plan.specs.Plan.{on_plate, of_position}
use Rattle.layouts.specs.Fold.{cut_from, cut_of, stack_cuts, strip_cuts, board_cuts}
use Rattle.layouts.proofs.trees.Tree.{Tree, leaf, node, labels}
use Rattle.layouts.proofs.trees.Pattern.{branch_of, rest_of, stack_of, strip_of, board_of}
use Rattle.layouts.proofs.trees.Cuts.{IsCut, plate_of, one-cut}
use Rattle.layouts.proofs.trees.Stages.{cut-stage, board-stage, branch-1, rest-1, branch-2, rest-2, rest-3, branch-stage-1, rest-stage-1, branch-stage-2, rest-stage-2, branch-stage-3, rest-stage-3}
use Rattle.layouts.proofs.trees.Balance.{Ok, Root, root_size, ok-none}
use Rattle.layouts.proofs.trees.CutTree.{item_tree}

-- the cut is on plate type j and of position i
both : (j i : ℕ) (c : Cut) → on_plate j c && of_position i c ≡ true → (c.plate ≡ j) × (c.item ≡ i)
unfolding on_plate of_position
both j i c h = go (eqb c.plate j) refl h
  where
    go : (t : Bool) → eqb c.plate j ≡ t → t && eqb c.item i ≡ true → (c.plate ≡ j) × (c.item ≡ i)
    go true e h = (eqb-true c.plate j e, eqb-true c.item i h)
    go false e h = absurd (mathlib.Core.Bool.false≢true h)

is-both : (j i : ℕ) (c : Cut) → c.plate ≡ j → c.item ≡ i → on_plate j c && of_position i c ≡ true
unfolding on_plate of_position
is-both j i c e f = rw (eq-eqb c.plate j e, eq-eqb c.item i f)

-- the number of the first cut of a pair
cut_from-is : (j i k : ℕ) (cs : List Cut) (d : ℕ) → d < length cs → (get_or cs d no_cut).plate ≡ j → (get_or cs d no_cut).item ≡ i
    → ((e : ℕ) → e < d → (get_or cs e no_cut).plate ≡ j → (get_or cs e no_cut).item ≡ i → ⊥) → cut_from j i k cs ≡ k + d
unfolding cut_from
cut_from-is j i k [] d p q r u = absurd (omega arith)
cut_from-is j i k (c ∷ cs) zero p q r u = rw (is-both j i c q r, cut_from) (omega arith)
cut_from-is j i k (c ∷ cs) (suc d) p q r u =
    go (on_plate j c && of_position i c) refl (cut_from-is j i (suc k) cs d (omega arith) q r (λ e s. u (suc e) (omega arith)))
  where
    go : (t : Bool) → on_plate j c && of_position i c ≡ t → cut_from j i (suc k) cs ≡ suc k + d → cut_from j i k (c ∷ cs) ≡ k + suc d
    go true e rec = let (a, b) = both j i c e in absurd (u 0 (omega arith) a b)
    go false e rec = rw (e, cut_from) (rw (add-suc, ← suc-add) rec)

module _ (job : Job) (l : Listing) (m : Model job l) where
  -- the cut of a plate type and a position is the one of that pair
  pub cut_of-is : (c j i : ℕ) → IsCut l c → (cut_at l c).plate ≡ j → (cut_at l c).item ≡ i → cut_of l j i ≡ c
  unfolding cut_of cut_at
  cut_of-is zero j i p e f = absurd (omega arith)
  cut_of-is (suc d) j i p e f =
      cut_from-is j i 1 l.cuts d (omega arith) e f
      (λ b s u v. let z : suc b ≡ suc d = one-cut job l m (suc b) (suc d) (omega arith, omega arith) p (u ∙ sym e) (v ∙ sym f) in omega arith)
      ∙ omega arith

  module _ (sided : Sided job) where
    cuts-3 : (j : ℕ) (t : Tree) → Ok l j t → (0 < j → (plate_at l j).stage ≡ 3) → stack_cuts l j (stack_of (item_tree l t)) ≡ labels t
    unfolding stack_cuts
    cuts-3 j leaf h s = refl
    cuts-3 j (node c a b) h s =
        let e : (plate_of l c).stage ≡ 3 = cut-stage l c j 3 h.2 (s h.0) in
        rw (cut_of-is c j (cut_at l c).item h.1 h.2 refl, ok-none l (branch_of l c) a h.3 (branch-stage-3 job l m sided c h.1 e))
        (ap (λ (ks : List ℕ). c ∷ ks)
        (ap (λ (z : ℕ). stack_cuts l z (stack_of (item_tree l b))) (sym (rest-3 l c e)) ∙ cuts-3 (rest_of l c) b h.4 (rest-stage-3 job l m sided c h.1 e)))

    cuts-2 : (j : ℕ) (t : Tree) → Ok l j t → (0 < j → (plate_at l j).stage ≡ 2) → strip_cuts l j (strip_of (item_tree l t)) ≡ labels t
    unfolding strip_cuts
    cuts-2 j leaf h s = refl
    cuts-2 j (node c a b) h s =
        let e : (plate_of l c).stage ≡ 2 = cut-stage l c j 2 h.2 (s h.0) in
        rw (cut_of-is c j (cut_at l c).item h.1 h.2 refl)
        (ap₂ (λ (ks ms : List ℕ). c ∷ (ks ++ ms))
        (ap (λ (z : ℕ). stack_cuts l z (stack_of (item_tree l a))) (sym (branch-2 l c e)) ∙ cuts-3 (branch_of l c) a h.3 (branch-stage-2 job l m sided c h.1 e))
        (ap (λ (z : ℕ). strip_cuts l z (strip_of (item_tree l b))) (sym (rest-2 l c e)) ∙ cuts-2 (rest_of l c) b h.4 (rest-stage-2 job l m sided c h.1 e)))

    -- the cuts of a stage 1 cut on plate type j, and of what it leaves
    cuts-node : (j c : ℕ) (a b : Tree) → IsCut l c → (cut_at l c).plate ≡ j → (plate_of l c).stage ≡ 1 → Ok l (branch_of l c) a
        → board_cuts l (rest_of l c) (board_of (item_tree l b)) ≡ labels b → board_cuts l j (board_of (item_tree l (node c a b))) ≡ labels (node c a b)
    unfolding board_cuts
    cuts-node j c a b i on e h rec =
        rw (cut_of-is c j (cut_at l c).item i on refl)
        (ap₂ (λ (ks ms : List ℕ). c ∷ (ks ++ ms))
        (ap (λ (z : ℕ). strip_cuts l z (strip_of (item_tree l a))) (sym (branch-1 l c e)) ∙ cuts-2 (branch_of l c) a h (branch-stage-1 job l m sided c i e))
        (ap (λ (z : ℕ). board_cuts l z (board_of (item_tree l b))) (sym (rest-1 l c e)) ∙ rec))

    cuts-1 : (j : ℕ) (t : Tree) → Ok l j t → (0 < j → (plate_at l j).stage ≡ 1) → board_cuts l j (board_of (item_tree l t)) ≡ labels t
    unfolding board_cuts
    cuts-1 j leaf h s = refl
    cuts-1 j (node c a b) h s =
        let e : (plate_of l c).stage ≡ 1 = cut-stage l c j 1 h.2 (s h.0) in
        cuts-node j c a b h.1 h.2 e h.3 (cuts-1 (rest_of l c) b h.4 (rest-stage-1 job l m sided c h.1 e))

    -- the cuts of the layout of a board's tree
    pub root-cuts : (t : Tree) → Root l t → board_cuts l (root_size l t) (board_of (item_tree l t)) ≡ labels t
    root-cuts leaf h = absurd h
    root-cuts (node c a b) h =
        let e : (plate_of l c).stage ≡ 1 = board-stage job l m c h.1 in
        cuts-node (cut_at l c).plate c a b h.0 refl e h.2 (cuts-1 (rest_of l c) b h.3 (rest-stage-1 job l m sided c h.0 e))
