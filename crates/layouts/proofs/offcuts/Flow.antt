-- Request Two: one law of any run. Whatever a plate type counts for, what is cut and left over and what waits in the end make what waited at the
-- beginning, what arose, and the boards that were opened. Areas, pieces of one type and the number of pieces are instances.
use Prim.Native.Nat.{ℕ, zero, suc, ◌+◌, ◌≤◌}
use native.Mathlib.Omega.{arith}
use mathlib.Core.Path.{◌≡◌, refl, ap}
use mathlib.Core.Bool.{Bool, true, false, cond}
use mathlib.Core.List.{List, [], ◌∷◌, ◌++◌}
use lib.Dec.{eqb}
use lib.ListN.{length}
use Rattle.job.specs.Lists.{sum_of}
use Rattle.job.specs.Job.{Job}
use Rattle.job.proofs.Sums.{sum_of-append}
use Rattle.listing.specs.Listing.{Listing, cut_at}
use Rattle.layouts.specs.Layout.{width_of, height_of}
use Rattle.layouts.specs.Placement.{Opened}
use Rattle.layouts.specs.Unfold.{Piece}
use Rattle.layouts.specs.Offcuts.{Event, did, over}
use Rattle.layouts.proofs.trees.WeightedSums.{wsum}
use Rattle.layouts.proofs.trees.Cuts.{IsCut, plate_of}
use Rattle.layouts.proofs.machine.MachineSteps.{slot}
use Rattle.layouts.proofs.machine.Search.{found-cut, spent-sum}
use Rattle.layouts.proofs.offcuts.Events.{Runs, stays, leaves, cuts, opens, maybe, top_at, right_at, kids}

-- sums over the cuts done, by board and cut, and over the pieces left over, by board and plate type
abbrev pub did_sum : (ℕ → ℕ → ℕ) → List Event → ℕ
did_sum f [] = 0
did_sum f (did c p ∷ es) = f p.turn.board.number c + did_sum f es
did_sum f (over b p ∷ es) = did_sum f es

abbrev pub over_sum : (ℕ → ℕ → ℕ) → List Event → ℕ
over_sum f [] = 0
over_sum f (did c p ∷ es) = over_sum f es
over_sum f (over b p ∷ es) = f b.number p.plate + over_sum f es

-- the sum over the pieces that wait on board b
abbrev pub wait_sum : (ℕ → ℕ → ℕ) → ℕ → List Piece → ℕ
wait_sum f b ps = sum_of (λ p. f b p.plate) ps

-- what a residual counts for, if it is kept
abbrev pub if_kept : (ℕ → ℕ) → ℕ → ℕ
if_kept f zero = 0
if_kept f (suc j) = f (suc j)

-- the next boards that are opened after board b, of the sizes zs (request Six)
abbrev pub opened_sum : (ℕ → ℕ → ℕ) → ℕ → List ℕ → ℕ
opened_sum f b [] = 0
opened_sum f b (z ∷ zs) = f (suc b) z + opened_sum f (suc b) zs

pub did_sum-le : (f g : ℕ → ℕ → ℕ) → ((b c : ℕ) → f b c ≤ g b c) → (es : List Event) → did_sum f es ≤ did_sum g es
did_sum-le f g h [] = omega arith
did_sum-le f g h (did c p ∷ es) = omega (arith, h p.turn.board.number c, did_sum-le f g h es)
did_sum-le f g h (over b p ∷ es) = did_sum-le f g h es

pub did_sum-add : (f g : ℕ → ℕ → ℕ) (es : List Event) → did_sum (λ b c. f b c + g b c) es ≡ did_sum f es + did_sum g es
did_sum-add f g [] = refl
did_sum-add f g (did c p ∷ es) = omega (arith, did_sum-add f g es)
did_sum-add f g (over b p ∷ es) = did_sum-add f g es

pub did_sum-none : (es : List Event) → did_sum (λ _ _. 0) es ≡ 0
did_sum-none [] = refl
did_sum-none (did c p ∷ es) = omega (arith, did_sum-none es)
did_sum-none (over b p ∷ es) = did_sum-none es

module _ (job : Job) (l : Listing) where
  -- the sizes of the boards that a run opens, in order
  abbrev pub opened_in : {ps qs : List Piece} {b b' : Opened} {ns ns' : List ℕ} {es : List Event} → Runs job l ps b ns es b' ns' qs → List ℕ
  opened_in stays = []
  opened_in (leaves e r) = opened_in r
  opened_in (cuts e r) = opened_in r
  opened_in (opens {j = j} z e r) = j ∷ opened_in r

  -- the cuts done and the counts left make the counts before
  pub runs-sum : {ps qs : List Piece} {b b' : Opened} {ns ns' : List ℕ} {es : List Event} → Runs job l ps b ns es b' ns' qs → (f : ℕ → ℕ) → wsum f 1 ns ≡ did_sum (λ _ c. f c) es + wsum f 1 ns'
  runs-sum stays f = omega arith
  runs-sum (leaves e r) f = runs-sum r f
  runs-sum (cuts {j = j} {c = c} {ns = ns} e r) f = omega (arith, spent-sum l j ns c e f, runs-sum r f)
  runs-sum (opens z e r) f = runs-sum r f

  slot-sum : (f : ℕ → ℕ → ℕ) (b j x y : ℕ) → wait_sum f b (maybe (slot j x y)) ≡ if_kept (f b) j
  unfolding sum_of
  slot-sum f b zero x y = refl
  slot-sum f b (suc j) x y = omega arith

  kids-sum : (f : ℕ → ℕ → ℕ) (b c x y : ℕ) (ps : List Piece) → wait_sum f b (kids job l c x y ++ ps) ≡ if_kept (f b) (cut_at l c).top + if_kept (f b) (cut_at l c).right + wait_sum f b ps
  kids-sum f b c x y ps =
      omega (arith, sum_of-append (λ p. f b p.plate) (kids job l c x y) ps, go (eqb (plate_of l c).stage 1))
    where
      top : List Piece
      top = top_at job l c x y

      right : List Piece
      right = right_at job l c x y

      go : (t : Bool) → wait_sum f b (cond t (right ++ top) (top ++ right)) ≡ if_kept (f b) (cut_at l c).top + if_kept (f b) (cut_at l c).right
      go true =
          omega (
            arith,
            sum_of-append (λ p. f b p.plate) right top,
            slot-sum f b (cut_at l c).top x (y + height_of job (cut_at l c).item + job.blade),
            slot-sum f b (cut_at l c).right (x + width_of job (cut_at l c).item + job.blade) y,
          )
      go false =
          omega (
            arith,
            sum_of-append (λ p. f b p.plate) top right,
            slot-sum f b (cut_at l c).top x (y + height_of job (cut_at l c).item + job.blade),
            slot-sum f b (cut_at l c).right (x + width_of job (cut_at l c).item + job.blade) y,
          )

  -- f by board and plate type; g and h by board and cut: a cut takes f of its plate and g, and gives h and f of what it leaves
  module _ (f g h : ℕ → ℕ → ℕ) (law : (b c : ℕ) → IsCut l c → f b (cut_at l c).plate + g b c ≡ h b c + (if_kept (f b) (cut_at l c).top + if_kept (f b) (cut_at l c).right)) where
    pub flow : {ps qs : List Piece} {b b' : Opened} {ns ns' : List ℕ} {es : List Event} (r : Runs job l ps b ns es b' ns' qs)
        → (b'.number ≡ b.number + length (opened_in r))
        × (did_sum h es + over_sum f es + wait_sum f b'.number qs ≡ wait_sum f b.number ps + did_sum g es + opened_sum f b.number (opened_in r))
    unfolding sum_of
    flow stays = (omega arith, omega arith)
    flow (leaves e r) = let (d, s) = flow r in (d, omega arith)
    flow (cuts {j = j} {x = x} {y = y} {c = c} {b = b} {ps = ps} {ns = ns} e r) =
        let (i, on) = found-cut l j ns c e in
        let (d, s) = flow r in
        (d, omega (arith, law b.number c i, ap (f b.number) on, kids-sum f b.number c x y ps))
    flow (opens z e r) = let (d, s) = flow r in (omega arith, omega arith)
