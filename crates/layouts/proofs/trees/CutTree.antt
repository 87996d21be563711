-- Trees of cuts and patterns: the items of a tree of cuts are a pattern, and each pattern of the board has exactly one tree of cuts.
use Prim.Native.Nat.{ℕ, suc, ◌<◌}
use native.Mathlib.Omega.{arith}
use mathlib.Core.Path.{◌≡◌, refl, ◌∙◌, ap, subst}
use mathlib.Core.Logic.{inl, inr, ◌≢◌}
use lib.ListN.{length}
use Rattle.job.specs.Job.{Job, size_at}
use Rattle.listing.specs.declared.plate.Plate.{Plate}
use Rattle.listing.specs.Plate.{board}
use Rattle.listing.specs.Listing.{Listing, plate_at, cut_at}
use Rattle.listing.specs.Model.{Model, Numbered}
use Rattle.listing.proofs.Kept.{not-kept}
use Rattle.layouts.proofs.trees.Tree.{Tree, leaf, node, tmap}
use Rattle.layouts.proofs.trees.Pattern.{branch, rest, Pattern, branch_of, rest_of}
use Rattle.layouts.proofs.trees.Cuts.{IsCut, cut_fits, branch-number, rest-number}
use Rattle.layouts.proofs.trees.Balance.{Ok, Root, root_size}

-- the positions of a tree of cuts
abbrev pub item_tree : Listing → Tree → Tree
item_tree l t = tmap (λ c. (cut_at l c).item) t

node-not-leaf : {c : ℕ} {a b : Tree} → node c a b ≡ leaf → ⊥
node-not-leaf e = let z : ◌≡◌ {A = ℕ} 0 1 = cc in omega arith

module _ (job : Job) (l : Listing) (m : Model job l) where
  -- the residuals of a cut by the plate and the item that it has
  branch-at : (c : ℕ) → IsCut l c → (q : Plate) (i : ℕ) → plate_at l (cut_at l c).plate ≡ q → (cut_at l c).item ≡ i → Numbered job l (branch job q i) (branch_of l c)
  branch-at c p q i e f =
      subst (λ (z : Plate). Numbered job l (branch job z i) (branch_of l c)) e
      (subst (λ (k : ℕ). Numbered job l (branch job (plate_at l (cut_at l c).plate) k) (branch_of l c)) f (branch-number job l m c p))

  rest_at : (c : ℕ) → IsCut l c → (q : Plate) (i : ℕ) → plate_at l (cut_at l c).plate ≡ q → (cut_at l c).item ≡ i → Numbered job l (rest job q i) (rest_of l c)
  rest_at c p q i e f =
      subst (λ (z : Plate). Numbered job l (rest job z i) (rest_of l c)) e
      (subst (λ (k : ℕ). Numbered job l (rest job (plate_at l (cut_at l c).plate) k) (rest_of l c)) f (rest-number job l m c p))

  -- what can be cut from residual number j is a pattern of its plate
  to-pattern : (j : ℕ) (q : Plate) → Numbered job l q j → (t : Tree) → Ok l j t → Pattern job q (item_tree l t)
  to-pattern j q k leaf h = tt
  to-pattern j q (inl z) (node c a b) h = absurd (omega (arith, z.1, h.0))
  to-pattern j q (inr z) (node c a b) h =
      let e : plate_at l (cut_at l c).plate ≡ q = ap (plate_at l) h.2 ∙ z.3 in (
        rw e at (cut_fits job l m c h.1),
        to-pattern (branch_of l c) (branch job q (cut_at l c).item) (branch-at c h.1 q (cut_at l c).item e refl) a h.3,
        to-pattern (rest_of l c) (rest job q (cut_at l c).item) (rest_at c h.1 q (cut_at l c).item e refl) b h.4,
      )

  -- the items of a board's tree are a pattern of the board, and not none
  pub root-pattern : (t : Tree) → Root l t → Pattern job (board (size_at job (root_size l t))) (item_tree l t) × (item_tree l t ≢ leaf)
  root-pattern leaf h = absurd h
  root-pattern (node c a b) h =
      let p : Plate = board (size_at job (cut_at l c).plate) in
      let e : plate_at l (cut_at l c).plate ≡ p = m.first (cut_at l c).plate (omega (arith, h.1, m.sized)) in (
        (
          rw e at (cut_fits job l m c h.0),
          to-pattern (branch_of l c) (branch job p (cut_at l c).item) (branch-at c h.0 p (cut_at l c).item e refl) a h.2,
          to-pattern (rest_of l c) (rest job p (cut_at l c).item) (rest_at c h.0 p (cut_at l c).item e refl) b h.3,
        ),
        node-not-leaf,
      )

  -- a pattern of a numbered plate can be cut from its number
  from-pattern : (j : ℕ) (q : Plate) → Numbered job l q j → (x : Tree) → Pattern job q x → (t : Tree) × Ok l j t × (item_tree l t ≡ x)
  from-pattern j q k leaf p = (leaf, tt, refl)
  from-pattern j q (inl z) (node i a b) p = absurd (not-kept job q z.0 i p.0)
  from-pattern j q (inr z) (node i a b) p =
      let f = p.0 in
      let (d, d_c, ec, ei) = m.each j i z.2 f.from_one f.to_last (rw z.3 f.allowed) in
      let c : ℕ = suc d in
      let c_c : IsCut l c = omega arith in
      let e : plate_at l (cut_at l c).plate ≡ q = ap (plate_at l) ec ∙ z.3 in
      let (u, ou, eu) = from-pattern (branch_of l c) (branch job q i) (branch-at c c_c q i e ei) a p.1 in
      let (v, ov, ev) = from-pattern (rest_of l c) (rest job q i) (rest_at c c_c q i e ei) b p.2 in
      (node c u v, (z.1, c_c, ec, ou, ov), (λ s. node (ei s) (eu s) (ev s)))

  -- each pattern of a size that is not none has a tree of cuts
  pub root-tree : (k : ℕ) → k < length job.sizes → (x : Tree) → x ≢ leaf → Pattern job (board (size_at job k)) x
      → (t : Tree) × Root l t × (item_tree l t ≡ x) × (root_size l t ≡ k)
  root-tree k s leaf d p = absurd (d refl)
  root-tree k s (node i a b) d p =
      let f = p.0 in
      let q : Plate = board (size_at job k) in
      let (d, d_c, ec, ei) = m.each k i (omega (arith, m.size-plates)) f.from_one f.to_last (rw (m.first k s) f.allowed) in
      let c : ℕ = suc d in
      let c_c : IsCut l c = omega arith in
      let e : plate_at l (cut_at l c).plate ≡ q = ap (plate_at l) ec ∙ m.first k s in
      let (u, ou, eu) = from-pattern (branch_of l c) (branch job q i) (branch-at c c_c q i e ei) a p.1 in
      let (v, ov, ev) = from-pattern (rest_of l c) (rest job q i) (rest_at c c_c q i e ei) b p.2 in
      (node c u v, (c_c, omega (arith, ec, m.sized), ou, ov), (λ s. node (ei s) (eu s) (ev s)), ec)
