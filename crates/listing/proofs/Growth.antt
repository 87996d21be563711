-- The walk only adds: plate types and cuts keep their numbers, a cut is added at the end, and at most two plate types with it.
use Prim.Native.Nat.{ℕ, suc, ◌≤◌, ◌<◌}
use native.Mathlib.Omega.{arith}
use mathlib.Core.Path.{◌≡◌, refl, sym, ◌∙◌}
use mathlib.Core.Logic.{◌⊎◌, inl, inr}
use mathlib.Core.List.{List, [], ◌∷◌, ◌++◌}
use lib.ListN.{length, get_or, length-append, get_or-append}
use lib.Seq.{get_or-append_seam}
use Rattle.job.specs.Job.{Job}
use Rattle.job.proofs.Tests.{at-most-or-above}
use Rattle.listing.specs.declared.plate.Plate.{Plate}
use Rattle.listing.specs.declared.plate.Residuals.{Residuals}
use Rattle.listing.specs.Plate.{waste}
use Rattle.listing.specs.Listing.{Listing, no_cut, plate_at, cut_at, entered, cut_done}
use Rattle.listing.proofs.Steps.{cut_made, done-plates, done-cuts}
use Rattle.listing.proofs.Numbers.{Entering, not-kept, met, fresh, entering}

-- the elements of one list stand at the same places in the other, which may have more
pub record Longer {A : Type 0} (d : A) (xs ys : List A) : Type 0 where
  pub no-fewer : length xs ≤ length ys
  pub keeps : (k : ℕ) → k < length xs → get_or ys k d ≡ get_or xs k d

module _ {A : Type 0} (d : A) where
  pub longer-same : (xs : List A) → Longer d xs xs
  longer-same xs = record { no-fewer = omega arith; keeps = λ k h. refl }

  pub longer-append : (xs ys : List A) → Longer d xs (xs ++ ys)
  longer-append xs ys = record { no-fewer = simp length-append (omega arith); keeps = λ k h. get_or-append xs ys d k h }

  pub longer-trans : (xs ys zs : List A) → Longer d xs ys → Longer d ys zs → Longer d xs zs
  longer-trans xs ys zs a b =
      record {
        no-fewer = omega (arith, a.no-fewer, b.no-fewer);
        keeps = λ k h. b.keeps k (omega (arith, a.no-fewer)) ∙ a.keeps k h;
      }

  -- no elements begin every list
  pub longer-none : (ys : List A) → Longer d [] ys
  longer-none ys = record { no-fewer = omega arith; keeps = λ k h. absurd (omega arith) }

  -- a list with one more element begins a list that has this element at that place
  pub longer-one : (a : A) (xs ys : List A) → Longer d xs ys → length xs < length ys → get_or ys (length xs) d ≡ a → Longer d (xs ++ (a ∷ [])) ys
  longer-one a xs ys m h e = record { no-fewer = omega (arith, length-append xs (a ∷ [])); keeps = at }
    where
      at : (k : ℕ) → k < length (xs ++ (a ∷ [])) → get_or ys k d ≡ get_or (xs ++ (a ∷ [])) k d
      at k b = go (at-most-or-above (length xs) k)
        where
          go : (length xs ≤ k) ⊎ (k < length xs) → get_or ys k d ≡ get_or (xs ++ (a ∷ [])) k d
          go (inl c) =
              let s : k ≡ length xs = omega (arith, length-append xs (a ∷ [])) in
              rw (s, get_or-append_seam xs a [] d) e
          go (inr c) = m.keeps k c ∙ sym ((longer-append xs (a ∷ [])).keeps k c)

-- plate types and cuts keep their numbers
pub record Grown (l l' : Listing) : Type 0 where
  pub plates-longer : Longer waste l.plates l'.plates
  pub cuts-longer : Longer no_cut l.cuts l'.cuts

pub grown-same : (l : Listing) → Grown l l
grown-same l =
    record { plates-longer = longer-same waste l.plates; cuts-longer = longer-same no_cut l.cuts }

pub grown-trans : (l l' l'' : Listing) → Grown l l' → Grown l' l'' → Grown l l''
grown-trans l l' l'' a b =
    record {
      plates-longer = longer-trans waste l.plates l'.plates l''.plates a.plates-longer b.plates-longer;
      cuts-longer = longer-trans no_cut l.cuts l'.cuts l''.cuts a.cuts-longer b.cuts-longer;
    }

-- to enter a residual loses no plate type, and adds one at the most
module _ (job : Job) (p : Plate) (ps : List Plate) where
  pub entered-longer : Longer waste ps (entered job p ps).plates
  entered-longer = go (entering job p ps)
    where
      go : Entering job p ps → Longer waste ps (entered job p ps).plates
      go (not-kept h e) = rw e (longer-same waste ps)
      go (met k h a l g e) = rw e (longer-same waste ps)
      go (fresh h f e) = rw e (longer-append waste ps (p ∷ []))

-- the cut done with residuals r at plate type j with position i
module _ (job : Job) (j i : ℕ) (r : Residuals) (l : Listing) where
  -- it loses no plate type, and adds two at the most
  pub done-longer : Longer waste l.plates (cut_done job j i r l).plates
  done-longer =
      let ps = (entered job r.top l.plates).plates in
      rw (done-plates job j i r l)
      (longer-trans waste l.plates ps (entered job r.right ps).plates (entered-longer job r.top l.plates) (entered-longer job r.right ps))

  -- a plate type keeps its number
  pub done-plate : (k : ℕ) → k < length l.plates → plate_at (cut_done job j i r l) k ≡ plate_at l k
  unfolding plate_at
  done-plate k h = done-longer.keeps k h

  -- it is one cut more
  pub done-count : length (cut_done job j i r l).cuts ≡ suc (length l.cuts)
  done-count = rw (done-cuts job j i r l) (simp length-append (omega arith))

  -- the cuts before it keep their numbers
  pub done-cuts-longer : Longer no_cut l.cuts (cut_done job j i r l).cuts
  done-cuts-longer = rw (done-cuts job j i r l) (longer-append no_cut l.cuts (cut_made job j i r l.plates ∷ []))

  pub done-cut : (c : ℕ) → c < length l.cuts → cut_at (cut_done job j i r l) (suc c) ≡ cut_at l (suc c)
  unfolding cut_at
  done-cut c h = done-cuts-longer.keeps c h

  -- and it has the next number
  pub done-last : cut_at (cut_done job j i r l) (suc (length l.cuts)) ≡ cut_made job j i r l.plates
  unfolding cut_at
  done-last = rw (done-cuts job j i r l) (get_or-append_seam l.cuts (cut_made job j i r l.plates) [] no_cut)

  pub done-grown : Grown l (cut_done job j i r l)
  done-grown = record { plates-longer = done-longer; cuts-longer = done-cuts-longer }
