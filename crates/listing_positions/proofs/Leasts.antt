-- A plate is kept from its least side on.
use mathlib.Core.Path.{◌≡◌, refl, sym, ◌∙◌, ap}
use Prim.Native.Nat.{ℕ, ◌+◌, ◌-◌, ◌≤◌, ◌<◌}
use mathlib.Core.Bool.{Bool, true, false, cond, ◌&&◌, ◌||◌}
use mathlib.Core.List.{List, [], ◌∷◌}
use native.Mathlib.Omega.{arith}
use borrow.Author.Tests.{ltb-true, ltb-false, leb-true, leb-false, le-leb, lt-leb, eqb-true}
use lib.Dec.{leb, ltb, eqb}
use lib.ListN.{length, drop}
use Rattle.job.specs.declared.mode.Mode.{Mode}
use Rattle.job.specs.declared.item.Position.{Position}
use Rattle.job.specs.Lists.{any}
use Rattle.job.specs.Job.{Job, no_position, positions, position_at}
use Rattle.job.proofs.CodeItems.{positions-from, positions-end}
use Rattle.listing.specs.declared.plate.Plate.{Plate}
use Rattle.listing.specs.Plate.{plate, exact_fit, may_cut, kept}
use Rattle.listing_positions.specs.Least.{along, divided, asks, lower, least_from, least_of, no_side}

-- one position more, and none left
module _ (job : Job) (asked : Position → Bool) (side : Position → ℕ) (least q : ℕ) where
  pub least-next : 1 ≤ q → q ≤ length (positions job) → least_from asked side least (drop (q - 1) (positions job)) ≡ least_from asked side (lower least (asked (position_at job q)) (side (position_at job q))) (drop (q + 1 - 1) (positions job))
  unfolding least_from
  least-next a b = rw (positions-from job q a b, least_from)

  pub least-end : length (positions job) < q → least_from asked side least (drop (q - 1) (positions job)) ≡ least
  unfolding least_from
  least-end a = rw (positions-end job q a, least_from)

-- number 1 is not permitted: the search begins with number 2
not-asked : (m : Mode) (p : Plate) → asks m p no_position ≡ false
unfolding asks may_cut
not-asked m p = go (eqb p.stage 2)
  where
    go : (t : Bool) → cond t false false ≡ false
    go true = refl
    go false = refl

pub least_first : (job : Job) (p : Plate) → least_from (asks job.mode p) (λ item. along p.stage item.width item.height) no_side (drop (2 - 1) (positions job)) ≡ least_of job p
unfolding least_of least_from positions lower
least_first job p = sym (ap (λ (t : Bool). least_from (asks job.mode p) (λ item. along p.stage item.width item.height) (lower no_side t (along p.stage 0 0)) (drop (2 - 1) (positions job))) (not-asked job.mode p))

-- a side x reaches the lesser of two, if it reaches one of them
or-false : (a : Bool) → a ≡ (a || false)
or-false true = refl
or-false false = refl

reach-less : (least side x : ℕ) → side < least → leb side x ≡ (leb least x || leb side x)
reach-less least side x h = go (leb least x) refl
  where
    go : (t : Bool) → leb least x ≡ t → leb side x ≡ (t || leb side x)
    go true e = le-leb side x (omega (arith, leb-true least x e))
    go false e = refl

reach-more : (least side x : ℕ) → least ≤ side → leb least x ≡ (leb least x || leb side x)
reach-more least side x h = go (leb least x) refl
  where
    go : (t : Bool) → leb least x ≡ t → t ≡ (t || leb side x)
    go true e = refl
    go false e = sym (lt-leb side x (omega (arith, leb-false least x e)))

lower-reaches : (least : ℕ) (asked : Bool) (side x : ℕ) → leb (lower least asked side) x ≡ (leb least x || (asked && leb side x))
unfolding lower
lower-reaches least false side x = or-false (leb least x)
lower-reaches least true side x = go (ltb side least) refl
  where
    go : (t : Bool) → ltb side least ≡ t → leb (cond t side least) x ≡ (leb least x || leb side x)
    go true e = reach-less least side x (ltb-true side least e)
    go false e = reach-more least side x (ltb-false side least e)

-- and the least side of all, if it reaches some
module _ (asked test : Position → Bool) (side : Position → ℕ) (x : ℕ) (e : (item : Position) → test item ≡ (asked item && leb (side item) x)) where
  one_of : (a : Bool) (item : Position) (items : List Position) → ((a || test item) || any test items) ≡ (a || any test (item ∷ items))
  unfolding any
  one_of true item items = refl
  one_of false item items = go (test item)
    where
      go : (t : Bool) → (t || any test items) ≡ (elim t as (λ _. Bool) [ true ↦ true | false ↦ any test items ])
      go true = refl
      go false = refl

  least-reaches : (least : ℕ) (items : List Position) → leb (least_from asked side least items) x ≡ (leb least x || any test items)
  unfolding least_from any
  least-reaches least [] = or-false (leb least x)
  least-reaches least (item ∷ items) =
      least-reaches (lower least (asked item) (side item)) items
      ∙ ap (λ (b : Bool). b || any test items) (lower-reaches least (asked item) (side item) x ∙ ap (λ (b : Bool). leb least x || b) (sym (e item)))
      ∙ one_of (leb least x) item items

  some-reached : (items : List Position) → x < no_side → any test items ≡ leb (least_from asked side no_side items) x
  some-reached items h = sym (least-reaches no_side items ∙ ap (λ (b : Bool). b || any test items) (lt-leb no_side x h))

-- the first or the second of two tests, put last
and_first : (o a b c : Bool) → (o && a && b && c) ≡ ((o && true && b && c) && a)
and_first false a b c = refl
and_first true false true true = refl
and_first true false true false = refl
and_first true false false c = refl
and_first true true true true = refl
and_first true true true false = refl
and_first true true false c = refl

and_second : (o a b c : Bool) → (o && a && b && c) ≡ ((o && a && true && c) && b)
and_second false a b c = refl
and_second true false b c = refl
and_second true true false true = refl
and_second true true false false = refl
and_second true true true true = refl
and_second true true true false = refl

-- the exact rule of stage 2 does not speak of the width, that of another stage not of the height
module _ (m : Mode) (item : Position) (p : Plate) where
  fit-two : eqb p.stage 2 ≡ true → (w : ℕ) → exact_fit m item p ≡ exact_fit m item (plate w p.height p.stage)
  unfolding exact_fit
  fit-two e w = rw (eqb-true p.stage 2 e)

  fit-other : eqb p.stage 2 ≡ false → (h : ℕ) → exact_fit m item p ≡ exact_fit m item (plate p.width h p.stage)
  unfolding exact_fit
  fit-other e h = rw e

  -- the test of a pair, by what is asked and by the divided side
  split : may_cut m item p ≡ (asks m p item && leb (along p.stage item.width item.height) (divided p))
  unfolding may_cut asks along
  split = go (eqb p.stage 2) refl
    where
      go : (t : Bool) → eqb p.stage 2 ≡ t → may_cut m item p ≡ (cond t (may_cut m item (plate item.width p.height p.stage)) (may_cut m item (plate p.width item.height p.stage)) && leb (cond t item.width item.height) (cond t p.width p.height))
      go true e =
          rw (le-leb item.width item.width (omega arith), ← fit-two e item.width)
          (and_first item.allowed (leb item.width p.width) (leb item.height p.height) (exact_fit m item p))
      go false e =
          rw (le-leb item.height item.height (omega arith), ← fit-other e item.height)
          (and_second item.allowed (leb item.width p.width) (leb item.height p.height) (exact_fit m item p))

-- a plate is kept from its least side on
pub kept_from : (job : Job) (p : Plate) → divided p < no_side → kept job p ≡ leb (least_of job p) (divided p)
unfolding kept least_of
kept_from job p l =
    some-reached (asks job.mode p) (λ item. may_cut job.mode item p) (λ item. along p.stage item.width item.height) (divided p) (λ item. split job.mode item p) (positions job) l
