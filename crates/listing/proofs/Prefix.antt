-- Wherever the walk comes, what it has listed so far is the beginning of the job's listing.
use Prim.Native.Nat.{ℕ, zero, suc, ◌≤◌, ◌<◌}
use native.Mathlib.Omega.{arith}
use mathlib.Core.Path.{◌≡◌, refl, sym, ◌∙◌}
use mathlib.Core.Logic.{◌⊎◌, inl, inr}
use mathlib.Core.Bool.{true, false}
use mathlib.Core.List.{List, [], ◌∷◌, map}
use lib.ListN.{length, get_or, length-append, length-map}
use Rattle.job.specs.Job.{Job, size_at, positions, position_at}
use Rattle.job.specs.Admitted.{Sided, Stocked}
use Rattle.job.proofs.Tests.{not-both, at-most-or-above}
use Rattle.listing.specs.declared.plate.Plate.{Plate}
use Rattle.listing.specs.declared.plate.Residuals.{Residuals}
use Rattle.listing.specs.Plate.{board, waste, may_cut, leaves, kept}
use Rattle.listing.specs.Listing.{Cut, Listing, no_cut, plate_at, cut_at, entered, walk_start}
use Rattle.listing.specs.Model.{Model, Numbered, Before, left_by}
use Rattle.listing.specs.Numbering.{LeavesType, Met, IsListing}
use Rattle.listing.specs.Reached.{Reached, start, skipped, done, row, after}
use Rattle.listing.proofs.Kept.{CutFrom}
use Rattle.listing.proofs.Numbers.{Entering, not-kept, met, fresh, entering}
use Rattle.listing.proofs.Steps.{cut_made, done-plates, done-cuts}
use Rattle.listing.proofs.Growth.{Longer, longer-none, longer-one, Grown, entered-longer}
use Rattle.listing.proofs.PlateTypes.{board-at}
use Rattle.listing.proofs.ModelLaws.{before-plate, numbered_below, numbered-kept, kept-numbered, one-cut}
use Rattle.listing.proofs.Walked.{Walked, Passed, IsCut}
use Rattle.listing.proofs.Reached.{reached-walked, reached-from-one}

-- two cuts with the same four numbers
same-cut : (c : Cut) (j i t r : ℕ) → c.plate ≡ j → c.item ≡ i → c.top ≡ t → c.right ≡ r → c ≡ record { plate = j; item = i; top = t; right = r }
same-cut c j i t r a b e f = rw (← a, ← b, ← e, ← f)

module _ (job : Job) (m : Listing) (is : IsListing job m) where
  abbrev model : Model job m
  model = is.model

  -- a residual q, entered among the plate types so far, has the number r of the job's listing, and they still begin the listing's
  record Enters (q : Plate) (ps : List Plate) (r : ℕ) : Type 0 where
    pub number : (entered job q ps).number ≡ r
    pub below : r < length (entered job q ps).plates
    pub longer : Longer waste (entered job q ps).plates m.plates

  -- so it is where they begin the listing's, and the number below r is among theirs
  enters :
      (q : Plate) (ps : List Plate) (r : ℕ)
      → Longer waste ps m.plates
      → length job.sizes ≤ length ps
      → Numbered job m q r
      → ((k : ℕ) → m.sizes ≤ k → r ≡ suc k → k < length ps)
      → Enters q ps r
  unfolding plate_at
  enters q ps r more some num in-turn = go (entering job q ps)
    where
      at_most : (x : ℕ) → r ≡ x → x ≤ length ps
      at_most zero e = omega arith
      at_most (suc k) e = by (at-most-or-above (length job.sizes) k)
        where
          by : (length job.sizes ≤ k) ⊎ (k < length job.sizes) → suc k ≤ length ps
          by (inl a) = in-turn k (omega (arith, model.sized)) e
          by (inr a) = omega arith

      none : kept job q ≡ false → (r ≤ 0) ⊎ (0 < r) → r ≡ 0
      none h (inl a) = omega arith
      none h (inr a) = absurd (not-both (numbered-kept job m q r num a) h)

      next : ((j : ℕ) → length job.sizes ≤ j → j < length ps → get_or ps j waste ≡ q → ⊥) → length job.sizes ≤ r → plate_at m r ≡ q → (length ps ≤ r) ⊎ (r < length ps) → length ps ≡ r
      next f t x (inl a) = omega (arith, at_most r refl)
      next f t x (inr a) = absurd (f r t a (sym (more.keeps r a) ∙ x))

      go : Entering job q ps → Enters q ps r
      go (not-kept h e) =
          let z : r ≡ 0 = none h (at-most-or-above r 0) in
          record { number = rw e (sym z); below = rw e (omega (arith, model.some_size)); longer = rw e more }
      go (met k h a l g e) =
          let x = kept-numbered job m q r num h in
          let s : k ≡ r = model.distinct k r a x.3 (omega (arith, more.no-fewer)) x.1 (more.keeps k l ∙ g ∙ sym x.2) in
          record { number = rw e s; below = rw e (omega arith); longer = rw e more }
      go (fresh h f e) =
          let x = kept-numbered job m q r num h in
          let s : length ps ≡ r = next f x.3 x.2 (at-most-or-above (length ps) r) in
          record {
            number = rw e s;
            below = rw e (omega (arith, length-append ps (q ∷ [])));
            longer = rw e (longer-one waste q ps m.plates more (omega (arith, x.1)) (rw s x.2));
          }

  -- a place that the walk reaches, with a listing that begins the job's
  module _ (j i : ℕ) (l : Listing) (v : Walked job j i l) (begins : Grown l m) where
    -- cuts and plate types so far are those of the job's listing
    same_at : (c : ℕ) → c < length l.cuts → cut_at m (suc c) ≡ cut_at l (suc c)
    unfolding cut_at
    same_at c h = begins.cuts-longer.keeps c h

    same-plate : (k : ℕ) → k < length l.plates → plate_at m k ≡ plate_at l k
    unfolding plate_at
    same-plate k h = begins.plates-longer.keeps k h

    -- a cut of the job's listing whose pair has been passed is one of the cuts so far
    pub passed-listed :
        (c : ℕ)
        → c < length m.cuts
        → (cut_at m (suc c)).plate < length l.plates
        → Passed j i (cut_at m (suc c)).plate (cut_at m (suc c)).item
        → c < length l.cuts
    passed-listed c h k p = go (v.each d.plate d.item k p fits)
      where
        d : Cut
        d = cut_at m (suc c)

        fits : CutFrom job (plate_at l d.plate) d.item
        fits =
            record {
              from_one = (model.of-item c h).0;
              to_last = (model.of-item c h).1;
              allowed = rw (same-plate d.plate k) at (model.permitted c h);
            }

        go : IsCut l d.plate d.item → c < length l.cuts
        go (b, g, e, f) =
            let s : b ≡ c = one-cut job m model b c (omega (arith, begins.cuts-longer.no-fewer)) h (rw (same_at b g) e) (rw (same_at b g) f) in
            omega arith

    -- what the cuts so far leave is among the plate types so far
    pub met-below : (k : ℕ) → Met m (length l.cuts) k → k < length l.plates
    met-below k (b, h, e) = go (rw (same_at b h) at e)
      where
        some : 0 < length l.plates
        some = omega (arith, v.plates-ok.some_size, v.plates-ok.size-plates)

        go : LeavesType (cut_at l (suc b)) k → k < length l.plates
        go (inl s) = rw s at (numbered_below job l _ (cut_at l (suc b)).top some (v.cuts-ok b h).top-numbered)
        go (inr s) = rw s at (numbered_below job l _ (cut_at l (suc b)).right some (v.cuts-ok b h).right-numbered)

    -- a permitted pair that the walk comes to
    module _ (a : j < length l.plates) (b : 1 ≤ i) (c : i ≤ length (positions job)) (p : may_cut job.mode (position_at job i) (plate_at l j) ≡ true) where
      abbrev n : ℕ
      n = length l.cuts

      abbrev left : Residuals
      left = leaves job.mode job.blade (position_at job i) (plate_at l j)

      -- it is the next cut of the job's listing
      record Next : Type 0 where
        pub listed : n < length m.cuts
        pub plate-is : (cut_at m (suc n)).plate ≡ j
        pub item-is : (cut_at m (suc n)).item ≡ i

      pair-next : Next
      pair-next = go (model.each j i (omega (arith, begins.plates-longer.no-fewer)) b c (rw (same-plate j a) p))
        where
          here : {k x : ℕ} → k ≡ j → x ≡ i → Passed j i k x → ⊥
          here e f (inl h) = omega arith
          here e f (inr h) = omega (arith, h.1)

          -- the cuts of the listing before it have been passed, so they are cuts so far
          first : (d : ℕ) → d < length m.cuts → (cut_at m (suc d)).plate ≡ j → (cut_at m (suc d)).item ≡ i → n < d → ⊥
          first d h e f q =
              let z : Before (cut_at m (suc n)) (cut_at m (suc d)) = model.rising n d q h in
              let y = before-plate (cut_at m (suc n)) (cut_at m (suc d)) z in
              let x : n < n = passed-listed n (omega arith) (omega arith) (rw (e, f) at z) in
              omega arith

          -- and it is none of these
          not-so-far : (d : ℕ) → (cut_at m (suc d)).plate ≡ j → (cut_at m (suc d)).item ≡ i → d < n → ⊥
          not-so-far d e f q = here (rw (same_at d q) at e) (rw (same_at d q) at f) (v.passed d q)

          is-next :
              (d : ℕ)
              → d < length m.cuts
              → (cut_at m (suc d)).plate ≡ j
              → (cut_at m (suc d)).item ≡ i
              → (d ≤ n) ⊎ (n < d)
              → (n ≤ d) ⊎ (d < n)
              → Next
          is-next d h e f (inr q) r = absurd (first d h e f q)
          is-next d h e f (inl q) (inr r) = absurd (not-so-far d e f r)
          is-next d h e f (inl q) (inl r) =
              let s : d ≡ n = omega arith in
              record { listed = rw s at h; plate-is = rw s at e; item-is = rw s at f }

          go : IsCut m j i → Next
          go (d, h, e, f) = is-next d h e f (at-most-or-above d n) (at-most-or-above n d)

      module _ (x : Next) where
        abbrev d : Cut
        d = cut_at m (suc n)

        -- what it leaves enters with the numbers of the job's listing
        left_is : left_by job m d ≡ left
        left_is = rw (x.plate-is, x.item-is, same-plate j a)

        top-enters : Enters left.top l.plates d.top
        top-enters =
            enters left.top l.plates d.top begins.plates-longer v.plates-ok.size-plates
            (rw left_is at (model.top-numbered n x.listed))
            (λ k h e. met-below k (is.as-met.top-after n k x.listed h e))

        abbrev ps : List Plate
        ps = (entered job left.top l.plates).plates

        right-enters : Enters left.right ps d.right
        right-enters =
            enters left.right ps d.right top-enters.longer (omega (arith, v.plates-ok.size-plates, (entered-longer job left.top l.plates).no-fewer))
            (rw left_is at (model.right-numbered n x.listed))
            (λ k h e. go k (is.as-met.right-after n k x.listed h e))
          where
            go : (k : ℕ) → Met m n k ⊎ (d.top ≡ k) → k < length ps
            go k (inl y) = omega (arith, met-below k y, (entered-longer job left.top l.plates).no-fewer)
            go k (inr y) = omega (arith, top-enters.below)

        -- with it the listing begins the job's
        next-begins : Grown (after job j i l) m
        unfolding cut_at
        next-begins =
            record {
              plates-longer = rw (done-plates job j i left l) right-enters.longer;
              cuts-longer =
                  rw (done-cuts job j i left l)
                  (longer-one no_cut (cut_made job j i left l.plates) l.cuts m.cuts begins.cuts-longer x.listed
                  (same-cut d j i _ _ x.plate-is x.item-is (sym top-enters.number) (sym right-enters.number)));
            }

  -- the sizes alone begin it
  start-begins : Grown (walk_start job) m
  unfolding plate_at size_at
  start-begins =
      record {
        plates-longer =
            record {
              no-fewer = omega (arith, n, model.size-plates);
              keeps = λ k h. model.first k (omega (arith, n)) ∙ sym (board-at job job.sizes k (omega (arith, n)));
            };
        cuts-longer = longer-none no_cut m.cuts;
      }
    where
      n : length (map board job.sizes) ≡ length job.sizes
      n = length-map job.sizes board

  -- so does the listing of every place of the walk
  module _ (sided : Sided job) (stocked : Stocked job) where
    pub reached-begins : {j i : ℕ} {l : Listing} → Reached job j i l → Grown l m
    reached-begins start = start-begins
    reached-begins (skipped r a b c) = reached-begins r
    reached-begins (row r a b) = reached-begins r
    reached-begins (done {j = j} {i = i} {l = l} r a b c) =
        let v = reached-walked job sided stocked r in
        let g = reached-begins r in
        let f = reached-from-one job r in
        next-begins j i l v g a f b c (pair-next j i l v g a f b c)
