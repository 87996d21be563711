-- Request Six, "boards are opened size by size in rising number": what the next size is, by the boards of each size that are left to open.
use Prim.Native.Nat.{ℕ, zero, suc, ◌+◌, ◌≤◌, ◌<◌}
use native.Mathlib.Omega.{arith}
use mathlib.Core.Path.{◌≡◌, refl}
use mathlib.Core.Bool.{Bool, true, false}
use mathlib.Core.List.{List}
use mathlib.Core.Option.{none, some}
use lib.Dec.{ltb}
use borrow.Author.Tests.{ltb-true, le-ltb}
use Rattle.listing.specs.Listing.{Listing}
use Rattle.plan.specs.Plan.{boards_of}
use Rattle.layouts.specs.Unfold.{next_size}
use Rattle.layouts.proofs.machine.Search.{none-no-some}

-- the next size is one of the n sizes from j on, and boards of it are left
pub next-open : (l : Listing) (n j k : ℕ) (ns : List ℕ) → next_size n j l ns ≡ some k → (j ≤ k) × (k < n + j) × (0 < boards_of l k ns)
unfolding next_size
next-open l zero j k ns e = absurd (none-no-some e)
next-open l (suc n) j k ns e = go (ltb 0 (boards_of l j ns)) refl (next-open l n (suc j) k ns)
  where
    go : (t : Bool) → ltb 0 (boards_of l j ns) ≡ t → (next_size n (suc j) l ns ≡ some k → (suc j ≤ k) × (k < n + suc j) × (0 < boards_of l k ns))
        → (j ≤ k) × (k < suc n + j) × (0 < boards_of l k ns)
    go true f rec =
        let z : some j ≡ some k = rw (f, next_size) at e in
        let s : j ≡ k = cc in
        (omega arith, omega arith, rw s at (ltb-true 0 (boards_of l j ns) f))
    go false f rec = let (a, b, c) = rec (rw (f, next_size) at e) in (omega arith, omega arith, c)

-- there is none where no boards of these sizes are left
pub next-ended : (l : Listing) (n j : ℕ) (ns : List ℕ) → ((i : ℕ) → i < n + j → boards_of l i ns ≡ 0) → next_size n j l ns ≡ none
unfolding next_size
next-ended l zero j ns h = refl
next-ended l (suc n) j ns h = rw (le-ltb 0 (boards_of l j ns) (omega (arith, h j (omega arith))), next_size) (next-ended l n (suc j) ns (λ i p. h i (omega arith)))
