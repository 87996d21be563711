-- Request Six, "boards are opened size by size in rising number": what the code knows of the boards that are left to be opened.
use Rattle.std.specs.Prelude.{ℕ, ◌<◌, ◌≡◌, List}
use Rattle.listing.specs.Listing.{Listing}
use Rattle.plan.specs.Plan.{boards_of}
use Rattle.unfold_run.specs.declared.remaining.Remaining.{Remaining}

-- of t sizes those before the one that is named have no boards left, and that one has as many as are said
pub record OpensFrom (l : Listing) (t : ℕ) (r : Remaining) (ns : List ℕ) : Type 0 where
  pub listed : r.size.0 < t
  pub spent-before : (i : ℕ) → i < r.size.0 → boards_of l i ns ≡ 0
  pub left : r.boards ≡ boards_of l r.size.0 ns
