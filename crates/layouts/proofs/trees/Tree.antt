-- Trees of cuts, or of the items of cuts: what is cut from one piece.
-- The branch of a cut is its residual of the next stage, the rest that of its own stage: at stage 1 right and top, at stage 2 top and right,
-- at stage 3 nothing and top.
use Prim.Native.Nat.{ℕ, ◌+◌}
use mathlib.Core.List.{List, [], ◌∷◌, ◌++◌}
use Rattle.job.specs.Lists.{sum_of}

-- nothing is cut, or one cut is done, then what is cut from its branch and what is cut from its rest
pub data Tree : Type 0 where
  leaf : Tree
  node : ℕ → Tree → Tree → Tree

-- the sum of f over a tree
abbrev pub tsum : (ℕ → ℕ) → Tree → ℕ
tsum f leaf = 0
tsum f (node c a b) = f c + (tsum f a + tsum f b)

-- the sum of f over some trees
abbrev pub fsum : (ℕ → ℕ) → List Tree → ℕ
fsum f ts = sum_of (λ t. tsum f t) ts

-- the tree with f of each label
abbrev pub tmap : (ℕ → ℕ) → Tree → Tree
tmap f leaf = leaf
tmap f (node c a b) = node (f c) (tmap f a) (tmap f b)

-- the labels in the order of cutting
abbrev pub labels : Tree → List ℕ
labels leaf = []
labels (node c a b) = c ∷ (labels a ++ labels b)
