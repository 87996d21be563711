-- What is true of the plate types at every place of the walk, and that a residual may be entered among them.
use Prim.Native.Nat.{ℕ, zero, suc, ◌+◌, ◌≤◌, ◌<◌}
use native.Mathlib.Omega.{arith}
use mathlib.Core.Path.{◌≡◌, refl, sym, ◌∙◌}
use mathlib.Core.Logic.{◌⊎◌, inl, inr}
use mathlib.Core.Bool.{true}
use mathlib.Core.List.{List, [], ◌∷◌, ◌++◌, map}
use lib.ListN.{length, get_or, length-append, length-map}
use lib.Seq.{get_or-append_seam}
use Rattle.job.specs.declared.size.Size.{Size}
use Rattle.job.specs.Job.{Job, no_size, size_at}
use Rattle.job.proofs.Tests.{at-most-or-above}
use Rattle.listing.specs.declared.plate.Plate.{Plate}
use Rattle.listing.specs.Plate.{board, waste, kept}
use Rattle.listing.specs.Listing.{Listing, plate_at, entered}
use Rattle.listing.specs.Model.{Numbered}
use Rattle.listing.proofs.Residuals.{Staged}
use Rattle.listing.proofs.Numbers.{Entering, not-kept, met, fresh, entering}
use Rattle.listing.proofs.Growth.{Longer, longer-append}

module _ (job : Job) where
  -- the number of sizes
  abbrev t : ℕ
  t = length job.sizes

  -- some plate types: the sizes first, no two residual types alike, each of them kept
  pub record PlatesOk (ps : List Plate) : Type 0 where
    pub some_size : 0 < t
    pub size-plates : t ≤ length ps
    pub first : (j : ℕ) → j < t → get_or ps j waste ≡ board (size_at job j)
    pub distinct : (j k : ℕ) → t ≤ j → t ≤ k → j < length ps → k < length ps → get_or ps j waste ≡ get_or ps k waste → j ≡ k
    pub all-kept : (j : ℕ) → t ≤ j → j < length ps → kept job (get_or ps j waste) ≡ true
    pub staged : (j : ℕ) → j < length ps → Staged (get_or ps j waste)

  -- a place of the sizes' plates
  pub board-at : (zs : List Size) (j : ℕ) → j < length zs → get_or (map board zs) j waste ≡ board (get_or zs j no_size)
  board-at [] j h = absurd (omega arith)
  board-at (z ∷ zs) zero h = refl
  board-at (z ∷ zs) (suc j) h = board-at zs j (omega arith)

  -- the sizes alone
  pub boards-ok : 0 < t → PlatesOk (map board job.sizes)
  unfolding size_at
  boards-ok some =
      record {
        some_size = some;
        size-plates = omega (arith, n);
        first = board-at job.sizes;
        distinct = λ j k a b p q e. absurd (omega (arith, n));
        all-kept = λ j p q. absurd (omega (arith, n));
        staged = λ j p. rw (board-at job.sizes j (omega (arith, n))) (omega arith);
      }
    where
      n : length (map board job.sizes) ≡ length job.sizes
      n = length-map job.sizes board

  -- a residual that is of stage 1 to 3 if it is kept may be entered
  module _ (p : Plate) (ps : List Plate) (ok : PlatesOk ps) (stage : kept job p ≡ true → Staged p) where
    -- what holds of the plate types and of one more holds of all
    snoc :
        (Q : Plate → Type 0) (lo : ℕ)
        → ((j : ℕ) → lo ≤ j → j < length ps → Q (get_or ps j waste))
        → Q p
        → (j : ℕ)
        → lo ≤ j
        → j < length (ps ++ (p ∷ []))
        → Q (get_or (ps ++ (p ∷ [])) j waste)
    snoc Q lo f g j h l = go (at-most-or-above (length ps) j)
      where
        go : (length ps ≤ j) ⊎ (j < length ps) → Q (get_or (ps ++ (p ∷ [])) j waste)
        go (inl b) =
            let e : j ≡ length ps = omega (arith, length-append ps (p ∷ [])) in
            rw (e, get_or-append_seam ps p [] waste) g
        go (inr b) = rw ((longer-append waste ps (p ∷ [])).keeps j b) (f j h b)

    new-distinct :
        ((j : ℕ) → t ≤ j → j < length ps → get_or ps j waste ≡ p → ⊥)
        → (j k : ℕ)
        → t ≤ j
        → t ≤ k
        → j < length (ps ++ (p ∷ []))
        → k < length (ps ++ (p ∷ []))
        → get_or (ps ++ (p ∷ [])) j waste ≡ get_or (ps ++ (p ∷ [])) k waste
        → j ≡ k
    new-distinct f j k tj tk a b e = go (at-most-or-above (length ps) j) (at-most-or-above (length ps) k)
      where
        old : (i : ℕ) → i < length ps → get_or (ps ++ (p ∷ [])) i waste ≡ get_or ps i waste
        old = (longer-append waste ps (p ∷ [])).keeps

        last : (i : ℕ) → i ≡ length ps → get_or (ps ++ (p ∷ [])) i waste ≡ p
        last i s = rw s (get_or-append_seam ps p [] waste)

        n : length (ps ++ (p ∷ [])) ≡ length ps + 1
        n = length-append ps (p ∷ [])

        go : (length ps ≤ j) ⊎ (j < length ps) → (length ps ≤ k) ⊎ (k < length ps) → j ≡ k
        go (inl c) (inl d) = omega (arith, n)
        go (inl c) (inr d) = absurd (f k tk d (sym (old k d) ∙ sym e ∙ last j (omega (arith, n))))
        go (inr c) (inl d) = absurd (f j tj c (sym (old j c) ∙ e ∙ last k (omega (arith, n))))
        go (inr c) (inr d) = ok.distinct j k tj tk c d (sym (old j c) ∙ e ∙ old k d)

    pub entered-ok : PlatesOk (entered job p ps).plates
    entered-ok = go (entering job p ps)
      where
        go : Entering job p ps → PlatesOk (entered job p ps).plates
        go (not-kept h e) = rw e ok
        go (met k h a l g e) = rw e ok
        go (fresh h f e) =
            rw e
            (record {
              some_size = ok.some_size;
              size-plates = omega (arith, length-append ps (p ∷ []), ok.size-plates);
              first = λ j l. (longer-append waste ps (p ∷ [])).keeps j (omega (arith, ok.size-plates)) ∙ ok.first j l;
              distinct = new-distinct f;
              all-kept = snoc (λ q. kept job q ≡ true) t ok.all-kept h;
              staged = λ j l. snoc Staged 0 (λ i _. ok.staged i) (stage h) j (omega arith) l;
            })

    -- and has its number then, also among more plate types
    pub entered-numbered : (l : Listing) → Longer waste (entered job p ps).plates l.plates → Numbered job l p (entered job p ps).number
    unfolding plate_at
    entered-numbered l more = go (entering job p ps)
      where
        go : Entering job p ps → Numbered job l p (entered job p ps).number
        go (not-kept h e) = rw e (inl (h, refl))
        go (met k h a b g e) =
            let m : Longer waste ps l.plates = rw e at more in
            rw e (inr (h, omega (arith, ok.some_size), omega (arith, m.no-fewer), m.keeps k b ∙ g, a))
        go (fresh h f e) =
            let m : Longer waste (ps ++ (p ∷ [])) l.plates = rw e at more in
            let b : length ps < length (ps ++ (p ∷ [])) = omega (arith, length-append ps (p ∷ [])) in
            rw e (inr (h, omega (arith, ok.some_size, ok.size-plates), omega (arith, m.no-fewer), m.keeps (length ps) b ∙ get_or-append_seam ps p [] waste, ok.size-plates))
