-- Request One: the positions of item types by their numbers, twice the type plus the turn.
use Prim.Native.Nat.{ℕ, zero, suc, ◌+◌, ◌*◌, ◌≤◌, ◌<◌}
use native.Mathlib.Omega.{arith}
use mathlib.Core.Path.{◌≡◌, refl, sym, ◌∙◌, ap, subst}
use mathlib.Core.Logic.{◌⊎◌, inl, inr, ◌↔◌}
use mathlib.Core.Bool.{true, not, ◌&&◌}
use mathlib.Core.List.{List, [], ◌∷◌}
use lib.Dec.{eqb}
use borrow.Author.Tests.{eqb-true, eq-eqb, ne_eqb}
use lib.ListN.{length, get_or, get_or-eq_default}
use Rattle.job.specs.declared.item.Item.{Item}
use Rattle.job.specs.declared.item.Position.{Position}
use Rattle.job.specs.Job.{Job, no_item, item_at, no_position, unturned, turned, type_of, turn_of, positions_of, positions, position_at, permitted}
use Rattle.job.specs.Admitted.{MayLie, HasSides, LiesSo, PositionsExact}
use Rattle.job.proofs.Tests.{not-both, and_left, and_right, and_both, at-most-or-above}

-- a number is twice its type plus its turn, which is 0 or 1
pub type-turn : (q : ℕ) → 2 * type_of q + turn_of q ≡ q
unfolding type_of turn_of
type-turn q = omega arith

pub turn_small : (q : ℕ) → turn_of q ≤ 1
unfolding turn_of
turn_small q = omega arith

-- and the type and the turn are those of their number
pub type-of : (i t : ℕ) → t ≤ 1 → type_of (2 * i + t) ≡ i
unfolding type_of
type-of i t h = omega arith

pub turn-of : (i t : ℕ) → t ≤ 1 → turn_of (2 * i + t) ≡ t
unfolding turn_of
turn-of i t h = omega arith

-- the positions of item types, two for each
list_length : (its : List Item) → length (positions_of its) ≡ 2 * length its
unfolding positions_of
list_length [] = refl
list_length (it ∷ its) = omega (arith, list_length its)

list-unturned : (its : List Item) (i : ℕ) → i < length its → get_or (positions_of its) (2 * i) no_position ≡ unturned (get_or its i no_item)
unfolding positions_of
list-unturned [] i h = absurd (omega arith)
list-unturned (it ∷ its) zero h = refl
list-unturned (it ∷ its) (suc i) h = let e : 2 * suc i ≡ suc (suc (2 * i)) = omega arith in rw e (list-unturned its i (omega arith))

list-turned : (its : List Item) (i : ℕ) → i < length its → get_or (positions_of its) (2 * i + 1) no_position ≡ turned (get_or its i no_item)
unfolding positions_of
list-turned [] i h = absurd (omega arith)
list-turned (it ∷ its) zero h = refl
list-turned (it ∷ its) (suc i) h = let e : 2 * suc i + 1 ≡ suc (suc (2 * i + 1)) = omega arith in rw e (list-turned its i (omega arith))

module _ (job : Job) where
  pub positions-length : length (positions job) ≡ 1 + 2 * length job.items
  unfolding positions
  positions-length = omega (arith, list_length job.items)

  -- the two positions of item type i
  pub position-unturned : (i : ℕ) → 1 ≤ i → i ≤ length job.items → position_at job (2 * i) ≡ unturned (item_at job i)
  unfolding position_at positions item_at
  position-unturned zero p q = absurd (omega arith)
  position-unturned (suc i) p q = let e : 2 * suc i ≡ suc (suc (2 * i)) = omega arith in rw e (list-unturned job.items i (omega arith))

  pub position-turned : (i : ℕ) → 1 ≤ i → i ≤ length job.items → position_at job (2 * i + 1) ≡ turned (item_at job i)
  unfolding position_at positions item_at
  position-turned zero p q = absurd (omega arith)
  position-turned (suc i) p q = let e : 2 * suc i + 1 ≡ suc (suc (2 * i + 1)) = omega arith in rw e (list-turned job.items i (omega arith))

  -- a permitted position is of an item type of the job
  pub permitted-range : (q : ℕ) → permitted job q ≡ true → (2 ≤ q) × (q ≤ length (positions job))
  unfolding position_at positions
  permitted-range zero h = absurd (not-both h refl)
  permitted-range (suc zero) h = absurd (not-both h refl)
  permitted-range (suc (suc k)) h = go (at-most-or-above (length (positions_of job.items)) k)
    where
      go : (length (positions_of job.items) ≤ k) ⊎ (k < length (positions_of job.items)) → (2 ≤ suc (suc k)) × (suc (suc k) ≤ suc (length (positions_of job.items)))
      go (inr a) = (omega arith, omega arith)
      go (inl a) = absurd (not-both h (ap (λ (p : Position). p.allowed) (get_or-eq_default (positions_of job.items) no_position a)))

  pub permitted-type : (q : ℕ) → permitted job q ≡ true → (1 ≤ type_of q) × (type_of q ≤ length job.items)
  permitted-type q h =
      let r = permitted-range q h in
      (omega (arith, r.0, type-turn q, turn_small q), omega (arith, r.1, type-turn q, positions-length))

  -- a position by its type and its turn
  pub position-by :
      (P : ℕ → Position → Type 0)
      → (q : ℕ)
      → 1 ≤ type_of q
      → type_of q ≤ length job.items
      → P 0 (unturned (item_at job (type_of q)))
      → P 1 (turned (item_at job (type_of q)))
      → P (turn_of q) (position_at job q)
  position-by P q low top a b = go (turn_of q) (type-turn q) (turn_small q)
    where
      go : (t : ℕ) → 2 * type_of q + t ≡ q → t ≤ 1 → P t (position_at job q)
      go zero e s =
          let f : 2 * type_of q ≡ q = omega arith in
          subst (P 0) (sym (position-unturned (type_of q) low top) ∙ ap (position_at job) f) a
      go (suc zero) e s = subst (P 1) (sym (position-turned (type_of q) low top) ∙ ap (position_at job) e) b
      go (suc (suc t)) e s = absurd (omega arith)

  -- every property of the positions of each item type holds of a permitted position
  pub permitted-by :
      (P : Position → Type 0)
      → ((i : ℕ) → 1 ≤ i → i ≤ length job.items → P (unturned (item_at job i)) × P (turned (item_at job i)))
      → (q : ℕ)
      → permitted job q ≡ true
      → P (position_at job q)
  permitted-by P each q h =
      let (low, top) = permitted-type q h in
      let both = each (type_of q) low top in
      position-by (λ t p. P p) q low top both.0 both.1

  -- a position is permitted exactly where its type is the job's and, if it is turned, the type has leave and is not square
  pub permitted-lies : (q : ℕ) → permitted job q ≡ true → MayLie job q
  unfolding turned
  permitted-lies q h =
      let (low, top) = permitted-type q h in
      record {
        type = (low, top);
        turn = (omega arith, turn_small q);
        leave = λ z. eqb-true it.leave 1 (and_left (eqb it.leave 1) (not (eqb it.width it.height)) (test low top h z));
        not-square =
            λ z e.
            let n = and_right (eqb it.leave 1) (not (eqb it.width it.height)) (test low top h z) in
            not-both n (ap not (eq-eqb it.width it.height e));
      }
    where
      it : Item
      it = item_at job (type_of q)

      test : 1 ≤ type_of q → type_of q ≤ length job.items → permitted job q ≡ true → turn_of q ≡ 1 → (eqb it.leave 1 && not (eqb it.width it.height)) ≡ true
      test low top = position-by (λ t p. p.allowed ≡ true → t ≡ 1 → (eqb it.leave 1 && not (eqb it.width it.height)) ≡ true) q low top (λ a z. absurd (omega arith)) (λ a z. a)

  pub lies-permitted : (q : ℕ) → MayLie job q → permitted job q ≡ true
  unfolding unturned turned
  lies-permitted q m =
      position-by (λ t p. (t ≡ 1 → (eqb it.leave 1 && not (eqb it.width it.height)) ≡ true) → p.allowed ≡ true) q m.type.0 m.type.1 (λ _. refl) (λ f. f refl)
      (λ z. and_both (eqb it.leave 1) (not (eqb it.width it.height)) (eq-eqb it.leave 1 (m.leave z)) (ap not (ne_eqb it.width it.height (m.not-square z))))
    where
      it : Item
      it = item_at job (type_of q)

  pub permitted-exact : (q : ℕ) → (permitted job q ≡ true) ↔ MayLie job q
  permitted-exact q = (permitted-lies q, lies-permitted q)

  -- the sides as the item lies
  sides-lie : (q : ℕ) → MayLie job q → LiesSo job q
  unfolding unturned turned
  sides-lie q m = record { unturned = both.0; turned = both.1 }
    where
      it : Item
      it = item_at job (type_of q)

      Lies : ℕ → Position → Type 0
      Lies t p = (t ≡ 0 → HasSides p it.width it.height) × (t ≡ 1 → HasSides p it.height it.width)

      both : Lies (turn_of q) (position_at job q)
      both = position-by Lies q m.type.0 m.type.1 ((λ e. (refl, refl)), (λ e. absurd (omega arith))) ((λ e. absurd (omega arith)), (λ e. (refl, refl)))

  pub positions-exact : PositionsExact job
  positions-exact = record { number = type-turn; may-lie = permitted-exact; sides = sides-lie }
