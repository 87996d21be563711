-- A saw text is read back from what it holds: the lines of a job, a plan and prices within their limits bring the text to just these.
use Prim.Native.Nat.{ℕ, suc, ◌+◌, ◌-◌, ◌≤◌, ◌<◌}
use native.Mathlib.Omega.{arith}
use mathlib.Core.Path.{◌≡◌, refl, sym, ap, ◌∙◌}
use mathlib.Core.Logic.{inl, inr}
use mathlib.Core.Bool.{Bool, true, false, not, cond}
use mathlib.Core.List.{List, [], ◌∷◌, ◌++◌, append_assoc, append-nil}
use mathlib.Core.Option.{Option, none, some}
use lib.Dec.{leb, ltb, eqb}
use lib.ListN.{length, get_or, drop, length-append}
use borrow.Author.Tests.{ltb-false, leb-true, leb-false, le-leb, lt-leb, eqb-true, eqb-false, not-false}
use Rattle.job.specs.Sizes.{max_sizes, max_residuals}
use Rattle.job.specs.Verdict.{pass, refuse_if, within, lowest}
use Rattle.job.specs.Job.{max_types}
use Rattle.job.proofs.Verdicts.{refuse_if-pass}
use Rattle.job.proofs.CodeEnds.{then-pass}
use Rattle.plan.specs.Prices.{max_price, price_words}
use Rattle.columns.specs.Widths.{most_numbers}
use Rattle.columns.specs.Line.{Fit}
use Rattle.texts.specs.Shape.{◌to◌, shape, plan_line, prices_line}
use Rattle.texts.specs.JobLines.{Place, first, sizes, types, body, item_prices, plate_prices, done, board_sizes, types_of}
use Rattle.texts.specs.SawText.{Counted, PriceLines, Saw, saw_admits, after_item_price, after_plate_price, body_read, saw_after, saw_grammar, saw_of}
use Rattle.texts.specs.Admitted.{OfShape, Runs}
use Rattle.texts.specs.TextOf.{job_rows, counted_row, plan_rows, price_rows_from, price_rows, saw_rows_of}
use Rattle.texts.specs.Held.{PlanLimits, PricesWhole, PricesHeld, SawWhole}
use Rattle.texts.proofs.Basics.{within-parts, lowest-parts}
use Rattle.texts.proofs.ShapeLaws.{narrow-plan, narrow-prices, shape-fits, Kinds, Shorter}
use Rattle.texts.proofs.Running.{Plain, runs_append}
use Rattle.texts.proofs.JobLaws.{passes-job, board-types, board-sizes}
use Rattle.texts.proofs.JobRuns.{Opens, job-runs}
use Rattle.texts.proofs.PlanRows.{price_row}

-- ---- the grammar

shapes :
    (p : Place) (ws : List ℕ) (rs : List Counted) (o : Option PriceLines)
    → Kinds (saw_admits (saw_of p ws rs o)) × Shorter (suc most_numbers) (saw_admits (saw_of p ws rs o))
unfolding saw_admits
shapes first ws rs o = omega arith
shapes (sizes j) ws rs o = omega arith
shapes (types i) ws rs o = omega arith
shapes body ws rs o = omega arith
shapes (item_prices i) ws rs o = omega arith
shapes (plate_prices j) ws rs o = omega arith
shapes done ws rs o = (tt, tt)

-- each kind stands once among the lines admitted, and none has more than ten numbers
pub saw-plain : Plain saw_grammar
saw-plain =
    record {
      kinds = λ s. (shapes s.place s.job s.plan s.prices).0;
      short = λ s. (shapes s.place s.job s.plan s.prices).1;
    }

-- a saw text begins with the job's lines
pub saw-opens : Opens saw_grammar (λ p ws. saw_of p ws [] none)
unfolding saw_admits saw_after
saw-opens =
    record {
      start = refl;
      admits-first = refl;
      admits-sizes = λ j ws. refl;
      admits-types = λ i ws. refl;
      after_first = λ ns. refl;
      after-sizes = λ j ws ns. refl;
      after-types = λ i ws ns. refl;
    }

-- ---- lines 3

plan-runs :
    (ws : List ℕ) (before rs : List Counted)
    → types_of ws ≤ max_types
    → PlanLimits ws rs
    → Runs saw_grammar (saw_of body ws before none) (plan_rows rs) (saw_of body ws (before ++ rs) none)
unfolding plan_rows counted_row saw_admits saw_after body_read Fit
plan-runs ws before [] n h = ap (λ (l : List Counted). saw_of body ws l none) (sym (append-nil before))
plan-runs ws before (r ∷ rs) n h =
    let vs : List ℕ = drop 1 (counted_row r) in
    let line : OfShape (plan_line ws) (3 ∷ vs) = record { others = vs; numbers = refl; limits = omega arith; turned = h.0.lies } in (
      inl line,
      shape-fits (plan_line ws) (3 ∷ vs) (narrow-plan ws (omega arith)) line,
      rw append_assoc at (plan-runs ws (before ++ (r ∷ [])) rs n h.1),
    )

-- ---- lines 5 and 6

-- where the k-th price comes next, of t sizes, n item types and m residual types
place_at : ℕ → ℕ → ℕ → ℕ → Place
place_at t n m k = cond (leb k n) (item_prices k) (cond (leb k (n + m)) (plate_prices (t + (k - suc n))) done)

after-item : (t n m k : ℕ) → k ≤ n → after_item_price t n m k ≡ place_at t n m (suc k)
unfolding after_item_price place_at
after-item t n m k h = go (eqb k n) refl (eqb m 0) refl
  where
    go :
        (a : Bool)
        → eqb k n ≡ a
        → (b : Bool)
        → eqb m 0 ≡ b
        → after_item_price t n m k ≡ place_at t n m (suc k)
    go true e true f =
        let p : leb (suc k) n ≡ false = lt-leb (suc k) n (omega (arith, eqb-true k n e)) in
        let q : leb (suc k) (n + m) ≡ false = lt-leb (suc k) (n + m) (omega (arith, eqb-true k n e, eqb-true m 0 f)) in
        rw (e, f, p, q)
    go true e false f =
        let p : leb (suc k) n ≡ false = lt-leb (suc k) n (omega (arith, eqb-true k n e)) in
        let q : leb (suc k) (n + m) ≡ true = le-leb (suc k) (n + m) (omega (arith, eqb-true k n e, eqb-false m 0 f)) in
        let r : t + (suc k - suc n) ≡ t = omega (arith, eqb-true k n e) in
        rw (e, f, p, q, r)
    go false e b f = let p : leb (suc k) n ≡ true = le-leb (suc k) n (omega (arith, eqb-false k n e)) in rw (e, p)

after-plate : (t n m k : ℕ) → n < k → k ≤ n + m → after_plate_price t m (t + (k - suc n)) ≡ place_at t n m (suc k)
unfolding after_plate_price place_at
after-plate t n m k l h = go (eqb (suc (t + (k - suc n))) (t + m)) refl
  where
    p : leb (suc k) n ≡ false
    p = lt-leb (suc k) n (omega arith)

    go : (a : Bool) → eqb (suc (t + (k - suc n))) (t + m) ≡ a → after_plate_price t m (t + (k - suc n)) ≡ place_at t n m (suc k)
    go true e =
        let q : leb (suc k) (n + m) ≡ false = lt-leb (suc k) (n + m) (omega (arith, l, eqb-true (suc (t + (k - suc n))) (t + m) e)) in
        rw (e, p, q)
    go false e =
        let q : leb (suc k) (n + m) ≡ true = le-leb (suc k) (n + m) (omega (arith, l, h, eqb-false (suc (t + (k - suc n))) (t + m) e)) in
        let r : t + (suc k - suc n) ≡ suc (t + (k - suc n)) = omega (arith, l) in
        rw (e, p, q, r)

price-shape :
    (kind i x : ℕ)
    → x ≤ max_price
    → OfShape (shape kind (i ∷ []) (0 to max_price ∷ [])) (kind ∷ i ∷ x ∷ [])
price-shape kind i x h = record { others = x ∷ []; numbers = refl; limits = omega arith; turned = refl }

module _ (ws : List ℕ) (rs : List Counted) (n m : ℕ) (zh : board_sizes ws ≤ max_sizes) (nh : n ≤ max_types) (mh : m ≤ max_residuals) where
  held : List ℕ → Option PriceLines
  held us = some (record { types = n; residuals = m; words = us })

  -- one line of prices, the k-th
  price-runs : (k : ℕ) (us : List ℕ) (x : ℕ) (rows : List (List ℕ)) (t : Saw) → 1 ≤ k → k ≤ n + m → x ≤ max_price
      → Runs saw_grammar (saw_of (place_at (board_sizes ws) n m (suc k)) ws rs (held (us ++ (x ∷ [])))) rows t
      → Runs saw_grammar (saw_of (place_at (board_sizes ws) n m k) ws rs (held us)) (price_row (board_sizes ws) n k x ∷ rows) t
  unfolding held place_at saw_admits saw_after Fit
  price-runs k us x rows t l h e r = go (leb k n) refl
    where
      go :
          (a : Bool)
          → leb k n ≡ a
          → Runs saw_grammar (saw_of (place_at (board_sizes ws) n m k) ws rs (held us)) (price_row (board_sizes ws) n k x ∷ rows) t
      go true p =
          let q = leb-true k n p in
          rw p (inl (price-shape 5 k x e), omega arith, rw (after-item (board_sizes ws) n m k q) r)
      go false p =
          let q = leb-false k n p in
          let b : leb k (n + m) ≡ true = le-leb k (n + m) h in
          rw (p, b) (inl (price-shape 6 (board_sizes ws + (k - suc n)) x e), omega arith, rw (after-plate (board_sizes ws) n m k q h) r)

  -- the prices from the k-th on; `us` are the k words before them
  prices-run :
      (k : ℕ) (us xs : List ℕ)
      → 1 ≤ k
      → length us ≡ k
      → k + length xs ≡ 1 + n + m
      → lowest 2 (λ _ y. ltb max_price y) (suc k) xs ≡ pass
      → Runs saw_grammar (saw_of (place_at (board_sizes ws) n m k) ws rs (held us)) (price_rows_from (board_sizes ws) n k xs) (saw_of done ws rs (held (us ++ xs)))
  unfolding price_rows_from held place_at
  prices-run k us [] l e s h =
      let p : leb k n ≡ false = lt-leb k n (omega arith) in
      let q : leb k (n + m) ≡ false = lt-leb k (n + m) (omega arith) in
      rw (p, q, append-nil us)
  prices-run k us (x ∷ xs) l e s h =
      let p = lowest-parts 2 (λ _ y. ltb max_price y) (suc k) x xs h in
      let z : length (us ++ (x ∷ [])) ≡ suc k = length-append us (x ∷ []) ∙ omega arith in
      price-runs k us x (price_rows_from (board_sizes ws) n (suc k) xs) (saw_of done ws rs (held (us ++ (x ∷ xs)))) l (omega arith) (ltb-false max_price x p.0)
      (rw append_assoc at (prices-run (suc k) (us ++ (x ∷ [])) xs (omega arith) z (omega arith) p.1))

-- lines 4, 5 and 6
line-4-runs :
    (ws : List ℕ) (rs : List Counted) (n m : ℕ) (us : List ℕ)
    → board_sizes ws ≤ max_sizes
    → PricesWhole (record { types = n; residuals = m; words = us })
    → Runs saw_grammar (saw_of body ws rs none)
    ((4 ∷ get_or us 0 0 ∷ n ∷ m ∷ []) ∷ price_rows_from (board_sizes ws) n 1 (drop 1 us))
    (saw_of done ws rs (some (record { types = n; residuals = m; words = us })))
unfolding saw_admits saw_after body_read price_words held place_at
line-4-runs ws rs n m [] z w = let e = w.size in absurd (omega arith)
line-4-runs ws rs n m (d ∷ xs) z w =
    let out = not (within 1 max_price d) in
    let p = then-pass (refuse_if out 2 1) (lowest 2 (λ _ y. ltb max_price y) 2 xs) w.words in
    let b = within-parts 1 max_price d (not-false (within 1 max_price d) (refuse_if-pass out 2 1 p.0)) in
    let line : OfShape prices_line (4 ∷ d ∷ n ∷ m ∷ []) = record { others = d ∷ n ∷ m ∷ []; numbers = refl; limits = omega arith; turned = refl } in
    let e = w.size in
    let first : leb 1 n ≡ true = le-leb 1 n w.low in
    let r = prices-run ws rs n m z w.high w.residuals 1 (d ∷ []) xs (omega arith) refl (omega arith) p.1 in
    (inr (inl line), shape-fits prices_line (4 ∷ d ∷ n ∷ m ∷ []) narrow-prices line, rw first at r)

-- no prices, or all of them
pub prices-runs :
    (ws : List ℕ) (rs : List Counted) (p : Place) (o : Option PriceLines)
    → board_sizes ws ≤ max_sizes
    → PricesHeld p o
    → Runs saw_grammar (saw_of body ws rs none) (price_rows (board_sizes ws) o) (saw_of p ws rs o)
unfolding price_rows
prices-runs ws rs p none z h = ap (λ (q : Place). saw_of q ws rs none) (sym h)
prices-runs ws rs p (some ps) z h = rw h.0 (line-4-runs ws rs ps.types ps.residuals ps.words z h.1)

-- all that a saw text holds
pub saw-runs : (s : Saw) → SawWhole s → Runs saw_grammar saw_grammar.start (saw_rows_of s) s
unfolding saw_rows_of
saw-runs s h =
    let j = passes-job s.job h.job in
    let n = board-types s.job j.board in
    let z = board-sizes s.job j.board in
    runs_append saw_grammar saw_grammar.start (saw_of body s.job [] none) s (job_rows s.job) (plan_rows s.plan ++ price_rows (board_sizes s.job) s.prices)
    (job-runs saw_grammar (λ p ws. saw_of p ws [] none) saw-opens s.job j)
    (runs_append saw_grammar (saw_of body s.job [] none) (saw_of body s.job s.plan none) s (plan_rows s.plan) (price_rows (board_sizes s.job) s.prices)
    (plan-runs s.job [] s.plan n.1 h.plan)
    (prices-runs s.job s.plan s.place s.prices z.1 h.prices))
