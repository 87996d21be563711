-- The tests of "The words of demand 3" are exact: demands, rectangles inside their board, rectangles that are apart.
use Prim.Native.Nat.{ℕ, zero, suc, ◌+◌, ◌≤◌, ◌<◌}
use native.Mathlib.Omega.{arith}
use mathlib.Core.Path.{◌≡◌, refl}
use mathlib.Core.Logic.{◌↔◌}
use mathlib.Core.Bool.{true}
use mathlib.Core.List.{List, [], ◌∷◌}
use lib.Dec.{leb}
use lib.ListN.{length, get_or}
use borrow.Author.Tests.{leb-true, le-leb}
use Rattle.job.specs.declared.item.Item.{Item}
use Rattle.job.specs.Lists.{all, occurs}
use Rattle.job.specs.Job.{Job, no_item, item_at, size_at}
use Rattle.job.proofs.Tests.{and_left, and_right, and_both}
use Rattle.job.proofs.Decides.{decides-le, decides_eq, decides-self, decides_and, decides-four, decides-if}
use Rattle.layouts.specs.Layout.{Sheet}
use Rattle.layouts.specs.Placement.{Placement, no_placement, meets_from, meets_demands, types_of_set}
use Rattle.layouts.specs.Rectangle.{end_x, end_y, inside, apart, clear, all_apart}
use Rattle.layouts.specs.Rules.{Every, MeetsDemands, Inside, Apart, AllApart}
use Rattle.layouts.proofs.lists.Every.{every-at, at_every, decides-all}

-- each type of a list of types, the first being i, lies among the items as often as demanded
module _ (is : List ℕ) where
  meets-each :
      (i : ℕ) (its : List Item)
      → meets_from i its is ≡ true
      → (j k : ℕ)
      → i + j ≡ k
      → j < length its
      → (get_or its j no_item).demand ≤ occurs k is
  unfolding meets_from
  meets-each i [] e j k q h = absurd (omega arith)
  meets-each i (it ∷ its) e zero k q h =
      let r : i ≡ k = omega arith in
      rw (← r) (leb-true it.demand (occurs i is) (and_left (leb it.demand (occurs i is)) (meets_from (suc i) its is) e))
  meets-each i (it ∷ its) e (suc j) k q h =
      meets-each (suc i) its (and_right (leb it.demand (occurs i is)) (meets_from (suc i) its is) e) j k (omega arith) (omega arith)

  each-meets :
      (i : ℕ) (its : List Item)
      → ((j k : ℕ) → i + j ≡ k → j < length its → (get_or its j no_item).demand ≤ occurs k is)
      → meets_from i its is ≡ true
  unfolding meets_from
  each-meets i [] h = refl
  each-meets i (it ∷ its) h =
      and_both (leb it.demand (occurs i is)) (meets_from (suc i) its is)
      (le-leb it.demand (occurs i is) (h 0 i (omega arith) (omega arith)))
      (each-meets (suc i) its (λ j k q lt. h (suc j) k (omega arith) (omega arith)))

module _ (job : Job) where
  -- each item type lies in the set as often as demanded
  pub demands-exact : (bs : List Sheet) → (meets_demands job bs ≡ true) ↔ MeetsDemands job bs
  unfolding meets_demands item_at
  demands-exact bs = (to, λ h. each-meets (types_of_set bs) 1 job.items (back h))
    where
      to : meets_from 1 job.items (types_of_set bs) ≡ true → MeetsDemands job bs
      to e zero low top = absurd (omega arith)
      to e (suc j) low top = meets-each (types_of_set bs) 1 job.items e j (suc j) (omega arith) (omega arith)

      back :
          MeetsDemands job bs
          → (j k : ℕ)
          → 1 + j ≡ k
          → j < length job.items
          → (get_or job.items j no_item).demand ≤ occurs k (types_of_set bs)
      back h j k q lt = let r : suc j ≡ k = omega arith in rw (← r) (h (suc j) (omega arith) (omega arith))

  -- one rectangle is inside its board
  pub inside-exact : (p : Placement) → (inside job p ≡ true) ↔ Inside job p
  unfolding inside end_x end_y
  inside-exact p =
      let z = size_at job p.turn.board.size in decides_and (decides-le (end_x job p) z.width) (decides-le (end_y job p) z.height)

  pub all-inside-exact : (ps : List Placement) → (all (inside job) ps ≡ true) ↔ Every (Inside job) ps
  all-inside-exact ps = decides-all inside-exact ps

  -- two rectangles are apart, ..
  pub apart-exact : (p q : Placement) → (apart job p q ≡ true) ↔ Apart job p q
  unfolding apart end_x end_y
  apart-exact p q =
      decides-four
      (decides-le (end_x job p + job.blade) q.x)
      (decides-le (end_x job q + job.blade) p.x)
      (decides-le (end_y job p + job.blade) q.y)
      (decides-le (end_y job q + job.blade) p.y)

  -- .. where they are of one board
  abbrev pub Clear : Placement → Placement → Type 0
  Clear p q = p.turn.board.number ≡ q.turn.board.number → Apart job p q

  pub clear-exact : (p q : Placement) → (clear job p q ≡ true) ↔ Clear p q
  unfolding clear
  clear-exact p q = decides-if (decides_eq p.turn.board.number q.turn.board.number) (apart-exact p q)

  -- any two rectangles of a list are clear of each other: the first of the others, and any two of these
  first-exact : (p : Placement) (ps : List Placement) → (all_apart job (p ∷ ps) ≡ true) ↔ (Every (Clear p) ps × (all_apart job ps ≡ true))
  unfolding all_apart
  first-exact p ps = decides_and (decides-all (clear-exact p) ps) (decides-self (all_apart job ps))

  apart-each : (ps : List Placement) → all_apart job ps ≡ true → AllApart job ps
  apart-each [] e j k lt top = absurd (omega arith)
  apart-each (p ∷ ps) e zero zero lt top = absurd (omega arith)
  apart-each (p ∷ ps) e zero (suc k) lt top = every-at (Clear p) ps ((first-exact p ps).0 e).0 no_placement k (omega arith)
  apart-each (p ∷ ps) e (suc j) zero lt top = absurd (omega arith)
  apart-each (p ∷ ps) e (suc j) (suc k) lt top = apart-each ps ((first-exact p ps).0 e).1 j k (omega arith) (omega arith)

  apart-empty : all_apart job [] ≡ true
  unfolding all_apart
  apart-empty = refl

  each-apart : (ps : List Placement) → AllApart job ps → all_apart job ps ≡ true
  each-apart [] h = apart-empty
  each-apart (p ∷ ps) h =
      (first-exact p ps).1 (
        at_every (Clear p) no_placement ps (λ k lt. h 0 (suc k) (omega arith) (omega arith)),
        each-apart ps (λ j k lt top. h (suc j) (suc k) (omega arith) (omega arith)),
      )

  pub all-apart-exact : (ps : List Placement) → (all_apart job ps ≡ true) ↔ AllApart job ps
  all-apart-exact ps = (apart-each ps, each-apart ps)
