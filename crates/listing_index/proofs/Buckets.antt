-- How many plate types a search looks at: those in one bucket have each a stage and a side of its own, and these are sides of the job's sizes and positions.
use Prim.Native.Nat.{ℕ, zero, suc, ◌+◌, ◌-◌, ◌*◌, ◌≤◌, ◌<◌}
use native.Mathlib.Omega.{arith}
use mathlib.Core.Path.{◌≡◌, refl, sym, ◌∙◌, ap}
use mathlib.Core.Logic.{◌⊎◌, inl, inr}
use mathlib.Core.Bool.{Bool, true, cond}
use mathlib.Core.List.Memᴰ
use mathlib.Core.List.{List, [], ◌∷◌, ◌++◌, map, Memᴰ}
use lib.Dec.{leb, eqb}
use lib.ListN.{length, get_or, length-append, length-map}
use borrow.Author.Tests.{leb-true, eqb-true, eq-eqb, ne_eqb}
use Rattle.job.specs.declared.size.Size.{Size}
use Rattle.job.specs.declared.item.Position.{Position}
use Rattle.job.specs.Sizes.{max_side}
use Rattle.job.specs.Job.{Job, no_size, size_at, no_position, positions_of, positions, position_at, permitted}
use Rattle.job.specs.Admitted.{Admitted}
use Rattle.job.proofs.Admission.{admitted-sided, admitted-stocked}
use Rattle.job.proofs.Positions.{positions-length, permitted-range}
use Rattle.job.proofs.Tests.{and_left, and_right, at-most-or-above, equal_or_not}
use Rattle.listing.specs.declared.plate.Plate.{Plate}
use Rattle.listing.specs.declared.plate.Residuals.{Residuals}
use Rattle.listing.specs.Plate.{plate, board, waste, leaves}
use Rattle.listing.specs.Listing.{Listing, plate_at, cut_at}
use Rattle.listing.specs.Reached.{Reached}
use Rattle.listing.specs.Model.{Numbered, left_by}
use Rattle.listing.specs.Numbering.{Left}
use Rattle.listing.proofs.Plates.{Permitted, may-cut}
use Rattle.listing.proofs.Residuals.{Staged, leaves_by}
use Rattle.listing.proofs.Walked.{Walked, CutOk}
use Rattle.listing.proofs.Reached.{reached-walked}
use Rattle.listing.proofs.Origin.{reached-left}
use Rattle.listing_index.specs.Index.{bucket_of, in_bucket, counted, ShortSearches}
use Rattle.listing_index.proofs.Chains.{one_each}
use Rattle.listing_index.proofs.Counting.{few-values}

-- the stage of a plate and the side that its cuts leave whole, as one number: the height at stage 2, else the width
unfoldable key : Plate → ℕ
key p = p.stage + 4 * cond (eqb p.stage 2) p.height p.width

key-two : (p : Plate) → p.stage ≡ 2 → key p ≡ 2 + 4 * p.height
unfolding key
key-two p e = rw (eq-eqb p.stage 2 e) (omega arith)

key-other : (p : Plate) → (p.stage ≡ 2 → ⊥) → key p ≡ p.stage + 4 * p.width
unfolding key
key-other p e = rw (ne_eqb p.stage 2 e)

-- a value of a list's entry is among the values of all
value_in : {A : Type 0} (f : A → ℕ) (xs : List A) (d : A) (i : ℕ) → i < length xs → Memᴰ (f (get_or xs i d)) (map f xs)
value_in f [] d i h = absurd (omega arith)
value_in f (x ∷ xs) d zero h = Memᴰ.head refl
value_in f (x ∷ xs) d (suc i) h = Memᴰ.tail (value_in f xs d i (omega arith))

module _ (job : Job) where
  abbrev board_keys : List ℕ
  board_keys = map (λ (z : Size). 1 + 4 * z.width) job.sizes

  abbrev high_keys : List ℕ
  high_keys = map (λ (p : Position). 2 + 4 * p.height) (positions_of job.items)

  abbrev wide_keys : List ℕ
  wide_keys = map (λ (p : Position). 3 + 4 * p.width) (positions_of job.items)

  -- the numbers that plate types of the job can have: widths of sizes, heights and widths of positions
  abbrev keys : List ℕ
  keys = board_keys ++ (high_keys ++ wide_keys)

  keys_length : length keys ≡ length job.sizes + 4 * length job.items
  unfolding positions
  keys_length = simp (length-append, length-map) (omega (arith, positions-length job))

  -- what is known of a plate type of the job
  record Known (p : Plate) : Type 0 where
    keyed : Memᴰ (key p) keys
    narrow : p.width ≤ max_side
    low : p.height ≤ max_side

  -- the sides of a permitted position
  high-in : (q : ℕ) → permitted job q ≡ true → Memᴰ (2 + 4 * (position_at job q).height) keys
  unfolding position_at positions
  high-in zero h = absurd (omega (arith, (permitted-range job 0 h).0))
  high-in (suc zero) h = absurd (omega (arith, (permitted-range job 1 h).0))
  high-in (suc (suc k)) h =
      Memᴰ.append_right board_keys
      (Memᴰ.append_left wide_keys
      (value_in (λ (p : Position). 2 + 4 * p.height) (positions_of job.items) no_position k (omega (arith, (permitted-range job (suc (suc k)) h).1))))

  wide-in : (q : ℕ) → permitted job q ≡ true → Memᴰ (3 + 4 * (position_at job q).width) keys
  unfolding position_at positions
  wide-in zero h = absurd (omega (arith, (permitted-range job 0 h).0))
  wide-in (suc zero) h = absurd (omega (arith, (permitted-range job 1 h).0))
  wide-in (suc (suc k)) h =
      Memᴰ.append_right board_keys
      (Memᴰ.append_right high_keys
      (value_in (λ (p : Position). 3 + 4 * p.width) (positions_of job.items) no_position k (omega (arith, (permitted-range job (suc (suc k)) h).1))))

  -- a size is known
  size-known : Admitted job → (j : ℕ) → j < length job.sizes → Known (board (size_at job j))
  unfolding size_at
  size-known a j h =
      record {
        keyed =
            Memᴰ.cast (key-other (board (get_or job.sizes j no_size)) (λ e. omega arith))
            (Memᴰ.append_left (high_keys ++ wide_keys) (value_in (λ (z : Size). 1 + 4 * z.width) job.sizes no_size j h));
        narrow = (a.each-size j h).width-limits.1;
        low = (a.each-size j h).height-limits.1;
      }

  -- a residual that has a side of an item's position is known: a right of stage 2, a top of stage 3
  right-known : (q w : ℕ) → permitted job q ≡ true → w ≤ max_side → (position_at job q).height ≤ max_side → Known (plate w (position_at job q).height 2)
  right-known q w h a b = record { keyed = Memᴰ.cast (key-two _ refl) (high-in q h); narrow = a; low = b }

  top-known : (q h : ℕ) → permitted job q ≡ true → (position_at job q).width ≤ max_side → h ≤ max_side → Known (plate (position_at job q).width h 3)
  top-known q h p a b = record { keyed = Memᴰ.cast (key-other _ (λ e. omega arith)) (wide-in q p); narrow = a; low = b }

  -- what a cut leaves of a known plate is known, unless it is waste
  abbrev LeavesKnown : Residuals → Type 0
  LeavesKnown r = (Staged r.top → Known r.top) × (Staged r.right → Known r.right)

  left-known : (p : Plate) (q : ℕ) → Known p → Permitted job.mode (position_at job q) p → LeavesKnown (leaves job.mode job.blade (position_at job q) p)
  left-known p q known fit =
      leaves_by job.mode job.blade (position_at job q) p LeavesKnown
      (λ e. (λ s. record { keyed = Memᴰ.cast (key-other _ (λ f. omega arith) ∙ one e) known.keyed; narrow = known.narrow; low = omega (arith, known.low) }, λ s. right))
      (λ e t. (λ s. top, λ s. record { keyed = Memᴰ.cast (key-two _ refl ∙ sym (key-two p e)) known.keyed; narrow = omega (arith, known.narrow); low = known.low }))
      (λ e t. (λ s. absurd (omega (arith, s.0)), λ s. right))
      (λ e f. (λ s. top, λ s. absurd (omega (arith, s.0))))
    where
      one : p.stage ≡ 1 → 1 + 4 * p.width ≡ key p
      one e = omega (arith, key-other p (λ f. omega arith))

      right : Known (plate (p.width - (position_at job q).width - job.blade) (position_at job q).height 2)
      right = right-known q _ fit.allowed (omega (arith, known.narrow)) (omega (arith, known.low, fit.in-height))

      top : Known (plate (position_at job q).width (p.height - (position_at job q).height - job.blade) 3)
      top = top-known q _ fit.allowed (omega (arith, known.narrow, fit.in-width)) (omega (arith, known.low))

  -- every plate type at a place of the walk is known
  module _ (a : Admitted job) (x y : ℕ) (l : Listing) (r : Reached job x y l) where
    walked : Walked job x y l
    walked = reached-walked job (admitted-sided job a) (admitted-stocked job a) r

    -- a residual type is left by a cut on a known one
    residual-known :
        (k : ℕ)
        → length job.sizes ≤ k
        → k < length l.plates
        → ((j : ℕ) → j < k → j < length l.plates → Known (get_or l.plates j waste))
        → Known (get_or l.plates k waste)
    unfolding plate_at
    residual-known k c b lower = by left.either
      where
        left : Left l k
        left = reached-left job r k c b

        ok : CutOk job l (cut_at l (suc left.cut))
        ok = walked.cuts-ok left.cut left.listed

        both : LeavesKnown (left_by job l (cut_at l (suc left.cut)))
        both =
            left-known (plate_at l (cut_at l (suc left.cut)).plate) (cut_at l (suc left.cut)).item
            (lower (cut_at l (suc left.cut)).plate left.lower ok.on-plate)
            (may-cut job.mode _ _ ok.fits.allowed)

        number : {q : Plate} {r : ℕ} → Numbered job l q r → r ≡ k → (Staged q → Known q) → Known (get_or l.plates k waste)
        number (inl z) f g = absurd (omega (arith, z.1, walked.plates-ok.some_size))
        number {q} (inr z) f g =
            let x : get_or l.plates k waste ≡ q = ap (λ (i : ℕ). get_or l.plates i waste) (sym f) ∙ z.3 in
            rw x (g (rw x at (walked.plates-ok.staged k b)))

        by : ((cut_at l (suc left.cut)).top ≡ k) ⊎ ((cut_at l (suc left.cut)).right ≡ k) → Known (get_or l.plates k waste)
        by (inl f) = number ok.top-numbered f both.0
        by (inr f) = number ok.right-numbered f both.1

    known-below : (n k : ℕ) → k < n → k < length l.plates → Known (get_or l.plates k waste)
    known-below zero k h b = absurd (omega arith)
    known-below (suc n) k h b = go (at-most-or-above (length job.sizes) k) (λ j i c. known-below n j (omega arith) c)
      where
        go : (length job.sizes ≤ k) ⊎ (k < length job.sizes) → ((j : ℕ) → j < k → j < length l.plates → Known (get_or l.plates j waste)) → Known (get_or l.plates k waste)
        go (inr c) f = rw (walked.plates-ok.first k c) (size-known a k c)
        go (inl c) f = residual-known k c b f

    known : (k : ℕ) → k < length l.plates → Known (get_or l.plates k waste)
    known k h = known-below (suc k) k (omega arith) h

    -- two residual types of one bucket with the same number for stage and side are one
    one_of :
        (i j : ℕ)
        → length job.sizes ≤ i
        → length job.sizes ≤ j
        → i < length l.plates
        → j < length l.plates
        → bucket_of (get_or l.plates i waste) ≡ bucket_of (get_or l.plates j waste)
        → key (get_or l.plates i waste) ≡ key (get_or l.plates j waste)
        → i ≡ j
    one_of i j a b c d same f = walked.plates-ok.distinct i j a b c d (go (equal_or_not p.stage 2) (equal_or_not q.stage 2))
      where
        p : Plate
        p = get_or l.plates i waste

        q : Plate
        q = get_or l.plates j waste

        u : Staged p
        u = walked.plates-ok.staged i c

        v : Staged q
        v = walked.plates-ok.staged j d

        go : (p.stage ≡ 2) ⊎ (p.stage ≡ 2 → ⊥) → (q.stage ≡ 2) ⊎ (q.stage ≡ 2 → ⊥) → p ≡ q
        go (inl x) (inl y) = one_each.by_height p q (known i c).narrow (known j d).narrow same (omega arith) (omega (arith, key-two p x, key-two q y))
        go (inl x) (inr y) = absurd (y (omega (arith, u, v, key-two p x, key-other q y)))
        go (inr x) (inl y) = absurd (x (omega (arith, u, v, key-other p x, key-two q y)))
        go (inr x) (inr y) =
            one_each.by_width p q (known i c).low (known j d).low same
            (omega (arith, u, v, key-other p x, key-other q y))
            (omega (arith, u, v, key-other p x, key-other q y))

    -- so those of one bucket are no more than the numbers that there can be
    few : (b n : ℕ) → n ≤ length l.plates → counted (in_bucket (length job.sizes) l.plates b) n ≤ length job.sizes + 4 * length job.items
    few b n h = rw (← keys_length) (few-values keys here (λ j. key (get_or l.plates j waste)) n (λ j i p. (known j (omega arith)).keyed) own)
      where
        here : ℕ → Bool
        here = in_bucket (length job.sizes) l.plates b

        past : (j : ℕ) → here j ≡ true → length job.sizes ≤ j
        past j p = leb-true (length job.sizes) j (and_left (leb (length job.sizes) j) (eqb (bucket_of (get_or l.plates j waste)) b) p)

        in-it : (j : ℕ) → here j ≡ true → bucket_of (get_or l.plates j waste) ≡ b
        in-it j p = eqb-true (bucket_of (get_or l.plates j waste)) b (and_right (leb (length job.sizes) j) (eqb (bucket_of (get_or l.plates j waste)) b) p)

        own : (i j : ℕ) → i < n → j < n → here i ≡ true → here j ≡ true → key (get_or l.plates i waste) ≡ key (get_or l.plates j waste) → i ≡ j
        own i j x y p q f = one_of i j (past i p) (past j q) (omega arith) (omega arith) (in-it i p ∙ sym (in-it j q)) f

pub short-searches : ShortSearches
short-searches job a j i l r b n h =
    let f = few job a j i l r b n h in
    record { by-job = f; at_most = omega (arith, f, a.sizes-limits.1, a.types-limits.1) }
