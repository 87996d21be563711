-- How the walk ends: with a listing that keeps both limits and has no plate type left, or at the first pair that passes one, with 7 or 6.
use Prim.Native.Nat.{ℕ, zero, suc, ◌+◌, ◌≤◌, ◌<◌}
use native.Mathlib.Omega.{arith}
use mathlib.Core.Path.{◌≡◌, refl, ◌∙◌}
use mathlib.Core.Logic.{◌⊎◌, inl, inr}
use mathlib.Core.Bool.{Bool, true, false}
use lib.ListN.{length, drop, length-map}
use Rattle.job.specs.Job.{Job, positions, position_at}
use Rattle.job.proofs.Tests.{at-most-or-above}
use Rattle.listing.specs.declared.plate.Residuals.{Residuals}
use Rattle.listing.specs.Plate.{board, may_cut, leaves}
use Rattle.listing.specs.Listing.{Listing, Walk, going, stopped, plate_at, limited, pair, over_items, over_plates, walk_within, walk_start}
use Rattle.listing.specs.Reached.{Reached, start, skipped, done, row, after}
use Rattle.listing.proofs.Growth.{done-longer, done-plate, done-count}
use Rattle.listing.proofs.Steps.{limited-going, limited-cuts, limited-plates, pair-skipped, pair-cut, items-drop-going, items-drop-stopped, items-drop-end, plates-going, plates-stopped, plates-end}
use Rattle.listing.proofs.Reached.{Few}

-- the pair that makes listing l into l' passes a limit: as a cut that of cuts, which is 7, or else by its residuals that of plate types, which is 6
pub data Over (P C n : ℕ) (l l' : Listing) : Type 0 where
  by-cut : n ≡ 7 → length l.cuts ≡ C → Over P C n l l'
  by-plate : n ≡ 6 → length l.cuts < C → P < length l'.plates → Over P C n l l'

pub over-seven : {P C : ℕ} {l l' : Listing} → Over P C 7 l l' → length l.cuts ≡ C
over-seven (by-cut e h) = h
over-seven (by-plate e h k) = absurd (omega arith)

pub over-six : {P C : ℕ} {l l' : Listing} → Over P C 6 l l' → (length l.cuts < C) × (P < length l'.plates)
over-six (by-cut e h) = absurd (omega arith)
over-six (by-plate e h k) = (h, k)

module _ (P C : ℕ) (job : Job) where
  -- the walk has done every plate type, within both limits
  pub record Complete (l : Listing) : Type 0 where
    pub place : ℕ
    pub reached : Reached job place 1 l
    pub few : Few P C l
    pub none_left : length l.plates ≤ place

  -- the walk has come, within both limits, to a permitted pair with which it passes one
  pub record Halted (n : ℕ) : Type 0 where
    pub plate : ℕ
    pub item : ℕ
    pub listing : Listing
    pub reached : Reached job plate item listing
    pub few : Few P C listing
    pub on-plate : plate < length listing.plates
    pub of-item : item ≤ length (positions job)
    pub allowed : may_cut job.mode (position_at job item) (plate_at listing plate) ≡ true
    pub passed : Over P C n listing (after job plate item listing)

  abbrev pub Ended : Walk → Type 0
  Ended (going l) = Complete l
  Ended (stopped n) = Halted n

  -- the end of a plate type's positions
  abbrev RowEnded : ℕ → Walk → Type 0
  RowEnded j (going l) = Reached job j (suc (length (positions job))) l × Few P C l × (j < length l.plates)
  RowEnded j (stopped n) = Halted n

  row-ended :
      (m k j : ℕ) (l : Listing)
      → k + m ≡ length (positions job)
      → Reached job j (suc k) l
      → Few P C l
      → j < length l.plates
      → RowEnded j (over_items P C job j (plate_at l j) (suc k) (drop k (positions job)) l)
  unfolding position_at
  row-ended zero k j l e r f h =
      let s : k ≡ length (positions job) = omega arith in
      rw (items-drop-end P C job j (plate_at l j) (suc k) k (positions job) l (omega arith)) (rw s at r, f, h)
  row-ended (suc m) k j l e r f h =
      go (may_cut job.mode (position_at job (suc k)) (plate_at l j)) refl (row-ended m (suc k) j)
    where
      next : Listing
      next = after job j (suc k) l

      left : Residuals
      left = leaves job.mode job.blade (position_at job (suc k)) (plate_at l j)

      b : k < length (positions job)
      b = omega arith

      n : length next.cuts ≡ suc (length l.cuts)
      n = done-count job j (suc k) left l

      go :
          (t : Bool)
          → may_cut job.mode (position_at job (suc k)) (plate_at l j) ≡ t
          → ((l' : Listing)
          → suc k + m ≡ length (positions job)
          → Reached job j (suc (suc k)) l'
          → Few P C l'
          → j < length l'.plates
          → RowEnded j (over_items P C job j (plate_at l' j) (suc (suc k)) (drop (suc k) (positions job)) l'))
          → RowEnded j (over_items P C job j (plate_at l j) (suc k) (drop k (positions job)) l)
      go false c ih =
          rw
          (items-drop-going P C job j (plate_at l j) (suc k) k (positions job) l l b
          (pair-skipped P C job j (plate_at l j) (suc k) (position_at job (suc k)) l c))
          (ih l (omega arith) (skipped r h b c) f h)
      go true c ih = limits (at-most-or-above (length next.cuts) C) (at-most-or-above (length next.plates) P)
        where
          is-pair : pair P C job j (plate_at l j) (suc k) (position_at job (suc k)) l ≡ limited P C job next
          is-pair = pair-cut P C job j (plate_at l j) (suc k) (position_at job (suc k)) l c

          halted : (n : ℕ) → Over P C n l next → Halted n
          halted n p =
              record {
                plate = j;
                item = suc k;
                listing = l;
                reached = r;
                few = f;
                on-plate = h;
                of-item = b;
                allowed = c;
                passed = p;
              }

          limits :
              (length next.cuts ≤ C) ⊎ (C < length next.cuts)
              → (length next.plates ≤ P) ⊎ (P < length next.plates)
              → RowEnded j (over_items P C job j (plate_at l j) (suc k) (drop k (positions job)) l)
          limits (inr p) q =
              rw
              (items-drop-stopped P C job j (plate_at l j) (suc k) k (positions job) l 7 b
              (is-pair ∙ limited-cuts P C job next p))
              (halted 7 (by-cut refl (omega (arith, n, f.few-cuts))))
          limits (inl p) (inr q) =
              rw
              (items-drop-stopped P C job j (plate_at l j) (suc k) k (positions job) l 6 b
              (is-pair ∙ limited-plates P C job next p q))
              (halted 6 (by-plate refl (omega (arith, n)) q))
          limits (inl p) (inl q) =
              rw
              (items-drop-going P C job j (plate_at l j) (suc k) k (positions job) l next b
              (is-pair ∙ limited-going P C job next p q))
              (rw (done-plate job j (suc k) left l j h)
              at (ih next (omega arith) (done r h b c) (record { few-plates = q; few-cuts = p }) (omega (arith, (done-longer job j (suc k) left l).no-fewer))))

  plates-ended :
      (fuel j : ℕ) (l : Listing)
      → P ≤ fuel + j
      → Reached job j 1 l
      → Few P C l
      → Ended (over_plates P C job fuel j l)
  plates-ended zero j l e r f =
      let h : length l.plates ≤ j = omega (arith, f.few-plates) in
      rw (plates-end P C job 0 j l h) (record { place = j; reached = r; few = f; none_left = h })
  plates-ended (suc fuel) j l e r f = go (at-most-or-above (length l.plates) j) (plates-ended fuel (suc j))
    where
      go :
          (length l.plates ≤ j) ⊎ (j < length l.plates)
          → ((l' : Listing) → P ≤ fuel + suc j → Reached job (suc j) 1 l' → Few P C l' → Ended (over_plates P C job fuel (suc j) l'))
          → Ended (over_plates P C job (suc fuel) j l)
      go (inl h) ih = rw (plates-end P C job (suc fuel) j l h) (record { place = j; reached = r; few = f; none_left = h })
      go (inr h) ih = by (over_items P C job j (plate_at l j) 1 (positions job) l) refl (row-ended (length (positions job)) 0 j l (omega arith) r f h)
        where
          by : (w : Walk) → over_items P C job j (plate_at l j) 1 (positions job) l ≡ w → RowEnded j w → Ended (over_plates P C job (suc fuel) j l)
          by (going l') s t =
              rw (plates-going P C job fuel j l l' h s) (ih l' (omega arith) (row t.0 t.2 (omega arith)) t.1)
          by (stopped n) s t = rw (plates-stopped P C job fuel j l n h s) t

  -- the walk ends so
  pub walk-ended : length job.sizes ≤ P → Ended (walk_within P C job)
  unfolding walk_within
  walk-ended h = plates-ended P 0 (walk_start job) (omega arith) start (record { few-plates = omega (arith, length-map job.sizes board); few-cuts = omega arith })

  pub walk-complete : length job.sizes ≤ P → (l : Listing) → walk_within P C job ≡ going l → Complete l
  walk-complete h l e = rw e at (walk-ended h)

  pub walk-halted : length job.sizes ≤ P → (n : ℕ) → walk_within P C job ≡ stopped n → Halted n
  walk-halted h n e = rw e at (walk-ended h)
