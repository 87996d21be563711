-- What is true at every place of the walk; and the rest of the walk from such a place.
use Prim.Native.Nat.{ℕ, zero, suc, ◌-◌, ◌≤◌, ◌<◌}
use native.Mathlib.Omega.{arith}
use mathlib.Core.Path.{◌≡◌, refl, sym, ◌∙◌, ap}
use mathlib.Core.Logic.{◌⊎◌, inl, inr}
use mathlib.Core.Bool.{true, false}
use lib.Dec.{ltb}
use lib.ListN.{length, drop}
use borrow.Author.Tests.{lt-ltb, le-ltb}
use Rattle.job.specs.Job.{Job, positions, position_at}
use Rattle.job.specs.Admitted.{Sided, Stocked}
use Rattle.job.proofs.Tests.{not-both, at-most-or-above}
use Rattle.listing.specs.Plate.{may_cut, leaves}
use Rattle.listing.specs.Listing.{Listing, Walk, going, stopped, plate_at, pair, over_items, over_plates, walk_within, walk_start}
use Rattle.listing.specs.Reached.{Reached, start, skipped, done, row, after}
use Rattle.listing.proofs.Growth.{done-longer, done-plate, done-count}
use Rattle.listing.proofs.Steps.{done-sizes, limited-going, limited-cuts, limited-plates, pair-skipped, pair-cut, items-drop-going, items-drop-stopped, items-drop-end, plates-going, plates-stopped, plates-end}
use Rattle.listing.proofs.Walked.{Walked, walked_start, walked_skip, walked_row, walked-cut}

module _ (job : Job) where
  -- positions are numbered from 1
  pub reached-from-one : {j i : ℕ} {l : Listing} → Reached job j i l → 1 ≤ i
  reached-from-one start = omega arith
  reached-from-one (skipped r a b c) = omega arith
  reached-from-one (done r a b c) = omega arith
  reached-from-one (row r a b) = omega arith

  -- the sizes stay
  pub reached-sizes : {j i : ℕ} {l : Listing} → Reached job j i l → l.sizes ≡ length job.sizes
  reached-sizes start = refl
  reached-sizes (skipped r a b c) = reached-sizes r
  reached-sizes (done {j = j} {i = i} {l = l} r a b c) = done-sizes job j i (leaves job.mode job.blade (position_at job i) (plate_at l j)) l ∙ reached-sizes r
  reached-sizes (row r a b) = reached-sizes r

  -- what is true at every place
  pub reached-walked : Sided job → Stocked job → {j i : ℕ} {l : Listing} → Reached job j i l → Walked job j i l
  reached-walked sided stocked start = walked_start job stocked.0
  reached-walked sided stocked (skipped {j = j} {i = i} {l = l} r a b c) = walked_skip job j i l (reached-walked sided stocked r) (λ f. not-both f.allowed c)
  reached-walked sided stocked (done {j = j} {i = i} {l = l} r a b c) =
      walked-cut job sided j i l (reached-walked sided stocked r) a
      (record { from_one = reached-from-one r; to_last = b; allowed = c })
  reached-walked sided stocked (row {j = j} {i = i} {l = l} r a b) = walked_row job j i l (reached-walked sided stocked r) b a

-- both limits are kept
pub record Few (plate_limit cut_limit : ℕ) (l : Listing) : Type 0 where
  pub few-plates : length l.plates ≤ plate_limit
  pub few-cuts : length l.cuts ≤ cut_limit

module _ (P C : ℕ) (job : Job) where
  -- a listing whose next cut keeps the limits keeps them itself
  pub few-before : (j i : ℕ) (l : Listing) → Few P C (after job j i l) → Few P C l
  few-before j i l f =
      let r = leaves job.mode job.blade (position_at job i) (plate_at l j) in
      record {
        few-plates = omega (arith, f.few-plates, (done-longer job j i r l).no-fewer);
        few-cuts = omega (arith, f.few-cuts, done-count job j i r l);
      }

  -- after the positions of plate type j
  abbrev pub onward : ℕ → Walk → Walk
  onward j (going l) = over_plates P C job (P - suc j) (suc j) l
  onward j (stopped n) = stopped n

  -- the rest of the walk from position i of plate type j on
  abbrev pub in_row : ℕ → ℕ → Listing → Walk
  in_row j i l = onward j (over_items P C job j (plate_at l j) i (drop (i - 1) (positions job)) l)

  unfoldable pub rest : ℕ → ℕ → Listing → Walk
  rest j i l = elim (ltb j (length l.plates)) [ false ↦ going l | true ↦ in_row j i l ]

  pub rest-row : (j i : ℕ) (l : Listing) → j < length l.plates → rest j i l ≡ in_row j i l
  unfolding rest
  rest-row j i l h = rw (lt-ltb j (length l.plates) h, rest)

  pub rest_end : (j i : ℕ) (l : Listing) → length l.plates ≤ j → rest j i l ≡ going l
  unfolding rest
  rest_end j i l h = rw (le-ltb j (length l.plates) h, rest)

  -- from a plate type on
  pub rest-plates : (j : ℕ) (l : Listing) → length l.plates ≤ P → over_plates P C job (P - j) j l ≡ rest j 1 l
  rest-plates j l few = go (at-most-or-above (length l.plates) j)
    where
      by :
          (w : Walk)
          → j < length l.plates
          → over_items P C job j (plate_at l j) 1 (positions job) l ≡ w
          → over_plates P C job (suc (P - suc j)) j l ≡ onward j w
      by (going l') h e = plates-going P C job (P - suc j) j l l' h e
      by (stopped n) h e = plates-stopped P C job (P - suc j) j l n h e

      go : (length l.plates ≤ j) ⊎ (j < length l.plates) → over_plates P C job (P - j) j l ≡ rest j 1 l
      go (inl h) = plates-end P C job (P - j) j l h ∙ sym (rest_end j 1 l h)
      go (inr h) =
          let e : P - j ≡ suc (P - suc j) = omega arith in
          rw e (by (over_items P C job j (plate_at l j) 1 (positions job) l) h refl ∙ sym (rest-row j 1 l h))

  -- past a pair after which the walk goes on
  pub rest-going :
      (j i : ℕ) (l l' : Listing)
      → 1 ≤ i
      → i ≤ length (positions job)
      → j < length l.plates
      → j < length l'.plates
      → plate_at l' j ≡ plate_at l j
      → pair P C job j (plate_at l j) i (position_at job i) l ≡ going l'
      → rest j i l ≡ rest j (suc i) l'
  unfolding position_at
  rest-going j zero l l' a b h h' q e = absurd (omega arith)
  rest-going j (suc k) l l' a b h h' q e =
      let s : suc k - 1 ≡ k = omega arith in
      let t : suc (suc k) - 1 ≡ suc k = omega arith in
      let x : in_row j (suc k) l ≡ in_row j (suc (suc k)) l'
      = rw (s, t, q) (ap (onward j) (items-drop-going P C job j (plate_at l j) (suc k) k (positions job) l l' b e)) in
      rest-row j (suc k) l h ∙ x ∙ sym (rest-row j (suc (suc k)) l' h')

  -- at a pair that stops the walk
  pub rest-stopped :
      (j i : ℕ) (l : Listing) (n : ℕ)
      → 1 ≤ i
      → i ≤ length (positions job)
      → j < length l.plates
      → pair P C job j (plate_at l j) i (position_at job i) l ≡ stopped n
      → rest j i l ≡ stopped n
  unfolding position_at
  rest-stopped j zero l n a b h e = absurd (omega arith)
  rest-stopped j (suc k) l n a b h e =
      let s : suc k - 1 ≡ k = omega arith in
      rest-row j (suc k) l h
      ∙ rw s (ap (onward j) (items-drop-stopped P C job j (plate_at l j) (suc k) k (positions job) l n b e))

  -- past the last position
  pub rest-next :
      (j i : ℕ) (l : Listing)
      → length (positions job) < i
      → j < length l.plates
      → length l.plates ≤ P
      → rest j i l ≡ rest (suc j) 1 l
  rest-next j i l n h few =
      rest-row j i l h
      ∙ ap (onward j) (items-drop-end P C job j (plate_at l j) i (i - 1) (positions job) l (omega arith))
      ∙ rest-plates (suc j) l few

  -- the walk is the rest from any place that it reaches within its limits
  pub reached-rest : {j i : ℕ} {l : Listing} → Reached job j i l → Few P C l → walk_within P C job ≡ rest j i l
  unfolding walk_within
  reached-rest start f =
      let e : P ≡ P - 0 = omega arith in
      ap (λ (fuel : ℕ). over_plates P C job fuel 0 (walk_start job)) e ∙ rest-plates 0 (walk_start job) f.few-plates
  reached-rest (skipped {j = j} {i = i} {l = l} r a b c) f =
      reached-rest r f
      ∙ rest-going j i l l (reached-from-one job r) b a a refl (pair-skipped P C job j (plate_at l j) i (position_at job i) l c)
  reached-rest (done {j = j} {i = i} {l = l} r a b c) f =
      let left = leaves job.mode job.blade (position_at job i) (plate_at l j) in
      let next = after job j i l in
      reached-rest r (few-before j i l f)
      ∙ rest-going j i l next (reached-from-one job r) b a (omega (arith, (done-longer job j i left l).no-fewer)) (done-plate job j i left l j a)
      (pair-cut P C job j (plate_at l j) i (position_at job i) l c ∙ limited-going P C job next f.few-cuts f.few-plates)
  reached-rest (row {j = j} {i = i} {l = l} r a b) f = reached-rest r f ∙ rest-next j i l b a f.few-plates

  -- no plate type is left: the walk goes on with the listing
  pub reached-end : {j i : ℕ} {l : Listing} → Reached job j i l → Few P C l → length l.plates ≤ j → walk_within P C job ≡ going l
  reached-end {j = j} {i = i} {l = l} r f h = reached-rest r f ∙ rest_end j i l h

  module _
      {j i : ℕ} {l : Listing}
      (r : Reached job j i l)
      (f : Few P C l)
      (a : j < length l.plates)
      (b : i ≤ length (positions job))
      (c : may_cut job.mode (position_at job i) (plate_at l j) ≡ true) where
    -- a permitted pair past the limit of cuts
    pub reached-seven : C ≤ length l.cuts → walk_within P C job ≡ stopped 7
    reached-seven h =
        let left = leaves job.mode job.blade (position_at job i) (plate_at l j) in
        reached-rest r f
        ∙ rest-stopped j i l 7 (reached-from-one job r) b a
        (pair-cut P C job j (plate_at l j) i (position_at job i) l c ∙ limited-cuts P C job (after job j i l) (omega (arith, done-count job j i left l)))

    -- a permitted pair within the limit of cuts, whose residuals pass the limit of plate types
    pub reached-six : length l.cuts < C → P < length (after job j i l).plates → walk_within P C job ≡ stopped 6
    reached-six h k =
        let left = leaves job.mode job.blade (position_at job i) (plate_at l j) in
        reached-rest r f
        ∙ rest-stopped j i l 6 (reached-from-one job r) b a
        (pair-cut P C job j (plate_at l j) i (position_at job i) l c ∙ limited-plates P C job (after job j i l) (omega (arith, done-count job j i left l)) k)
