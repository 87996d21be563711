-- What every pair of the walk keeps is kept along the walk: the limit of plate types, and the numbers of plate types and cuts.
use Prim.Native.Nat.{ℕ, zero, suc, ◌≤◌, ◌<◌}
use mathlib.Core.Path.{◌≡◌, refl, sym, ◌∙◌, subst}
use mathlib.Core.Logic.{◌⊎◌, inl, inr}
use mathlib.Core.Bool.{Bool, true, false}
use mathlib.Core.List.{List, [], ◌∷◌}
use lib.ListN.{length}
use Rattle.job.specs.declared.item.Position.{Position}
use Rattle.job.specs.Job.{Job, positions}
use Rattle.job.proofs.Tests.{at-most-or-above}
use Rattle.listing.specs.declared.plate.Plate.{Plate}
use Rattle.listing.specs.declared.plate.Residuals.{Residuals}
use Rattle.listing.specs.Plate.{may_cut, leaves}
use Rattle.listing.specs.Listing.{Listing, Walk, going, stopped, plate_at, cut_done, pair, over_items, over_plates}
use Rattle.listing.proofs.Growth.{Grown, grown-same, grown-trans, done-grown}
use Rattle.listing.proofs.Steps.{going-one, going-not-stopped, limited-going, limited-cuts, limited-plates, pair-skipped, pair-cut, items-going, items-stopped, plates-going, plates-stopped, plates-end}

module _ (P C : ℕ) (job : Job) where
  -- a pair after which the walk goes on was not permitted, or is the next cut, within both limits
  pub pair_goes :
      (j : ℕ) (p : Plate) (i : ℕ) (it : Position) (l l' : Listing)
      → pair P C job j p i it l ≡ going l'
      → (l' ≡ l) ⊎ ((l' ≡ cut_done job j i (leaves job.mode job.blade it p) l) × (length l'.plates ≤ P) × (length l'.cuts ≤ C))
  pair_goes j p i it l l' e = go (may_cut job.mode it p) refl (at-most-or-above (length next.cuts) C) (at-most-or-above (length next.plates) P)
    where
      next : Listing
      next = cut_done job j i (leaves job.mode job.blade it p) l

      go :
          (t : Bool)
          → may_cut job.mode it p ≡ t
          → (length next.cuts ≤ C) ⊎ (C < length next.cuts)
          → (length next.plates ≤ P) ⊎ (P < length next.plates)
          → (l' ≡ l) ⊎ ((l' ≡ next) × (length l'.plates ≤ P) × (length l'.cuts ≤ C))
      go false c q r = inl (going-one e (pair-skipped P C job j p i it l c))
      go true c (inr q) r = absurd (going-not-stopped e (pair-cut P C job j p i it l c ∙ limited-cuts P C job next q))
      go true c (inl q) (inr r) = absurd (going-not-stopped e (pair-cut P C job j p i it l c ∙ limited-plates P C job next q r))
      go true c (inl q) (inl r) =
          let s : l' ≡ next = going-one e (pair-cut P C job j p i it l c ∙ limited-going P C job next q r) in
          inr (s, rw s r, rw s q)

  -- a relation between listings that each pair keeps, and that is kept by nothing and by one after another
  module _
      (Q : Listing → Listing → Type 0)
      (none : (l : Listing) → Q l l)
      (both : (l l' l'' : Listing) → Q l l' → Q l' l'' → Q l l'')
      (step : (j : ℕ) (p : Plate) (i : ℕ) (it : Position) (l l' : Listing) → pair P C job j p i it l ≡ going l' → Q l l') where
    pub items_keep : (j : ℕ) (p : Plate) (i : ℕ) (its : List Position) (l l' : Listing) → over_items P C job j p i its l ≡ going l' → Q l l'
    unfolding over_items
    items_keep j p i [] l l' e = subst (Q l) (going-one refl e) (none l)
    items_keep j p i (it ∷ its) l l' e = go (pair P C job j p i it l) refl (items_keep j p (suc i) its)
      where
        go : (w : Walk) → pair P C job j p i it l ≡ w → ((m m' : Listing) → over_items P C job j p (suc i) its m ≡ going m' → Q m m') → Q l l'
        go (going m) f ih = both l m l' (step j p i it l m f) (ih m l' (sym (items-going P C job j p i it its l m f) ∙ e))
        go (stopped n) f ih = absurd (going-not-stopped e (items-stopped P C job j p i it its l n f))

    pub plates-keep : (fuel j : ℕ) (l l' : Listing) → over_plates P C job fuel j l ≡ going l' → Q l l'
    unfolding over_plates
    plates-keep zero j l l' e = subst (Q l) (going-one refl e) (none l)
    plates-keep (suc fuel) j l l' e = go (at-most-or-above (length l.plates) j) (over_items P C job j (plate_at l j) 1 (positions job) l) refl (plates-keep fuel (suc j))
      where
        go :
            (length l.plates ≤ j) ⊎ (j < length l.plates)
            → (w : Walk)
            → over_items P C job j (plate_at l j) 1 (positions job) l ≡ w
            → ((m m' : Listing) → over_plates P C job fuel (suc j) m ≡ going m' → Q m m')
            → Q l l'
        go (inl h) w f ih = subst (Q l) (going-one (plates-end P C job (suc fuel) j l h) e) (none l)
        go (inr h) (going m) f ih = both l m l' (items_keep j (plate_at l j) 1 (positions job) l m f) (ih m l' (sym (plates-going P C job fuel j l m h f) ∙ e))
        go (inr h) (stopped n) f ih = absurd (going-not-stopped e (plates-stopped P C job fuel j l n h f))

  -- positions keep the limit of plate types
  pub items-few :
      (j : ℕ) (p : Plate) (i : ℕ) (its : List Position) (l l' : Listing)
      → length l.plates ≤ P
      → over_items P C job j p i its l ≡ going l'
      → length l'.plates ≤ P
  items-few j p i its l l' few e =
      items_keep (λ m m'. length m.plates ≤ P → length m'.plates ≤ P) (λ m h. h) (λ m m' m'' f g h. g (f h))
      (λ j' p' i' it m m' f h. go m m' (pair_goes j' p' i' it m m' f) h) j p i its l l' e few
    where
      go :
          {next : Listing} (m m' : Listing)
          → (m' ≡ m) ⊎ ((m' ≡ next) × (length m'.plates ≤ P) × (length m'.cuts ≤ C))
          → length m.plates ≤ P
          → length m'.plates ≤ P
      go m m' (inl s) h = rw s h
      go m m' (inr s) h = s.1

  -- along the walk plate types and cuts keep their numbers
  pair-grown : (j : ℕ) (p : Plate) (i : ℕ) (it : Position) (l l' : Listing) → pair P C job j p i it l ≡ going l' → Grown l l'
  pair-grown j p i it l l' e = go (pair_goes j p i it l l' e)
    where
      r : Residuals
      r = leaves job.mode job.blade it p

      go : (l' ≡ l) ⊎ ((l' ≡ cut_done job j i r l) × (length l'.plates ≤ P) × (length l'.cuts ≤ C)) → Grown l l'
      go (inl s) = rw s (grown-same l)
      go (inr s) = rw s.0 (done-grown job j i r l)

  pub items-grown : (j : ℕ) (p : Plate) (i : ℕ) (its : List Position) (l l' : Listing) → over_items P C job j p i its l ≡ going l' → Grown l l'
  items-grown = items_keep Grown grown-same grown-trans pair-grown

  pub plates-grown : (fuel j : ℕ) (l l' : Listing) → over_plates P C job fuel j l ≡ going l' → Grown l l'
  plates-grown = plates-keep Grown grown-same grown-trans pair-grown
