-- What a saw text holds so far: its lines are those of the job's words, the plan and the prices that it holds, all within their limits.
use Prim.Native.Nat.{ℕ, zero, suc, ◌+◌, ◌-◌, ◌≤◌, ◌<◌}
use native.Mathlib.Omega.{arith}
use mathlib.Core.Path.{◌≡◌, refl, sym, ap, ◌∙◌, subst}
use mathlib.Core.Logic.{inl, inr}
use mathlib.Core.Bool.{Bool, true, false}
use mathlib.Core.List.{List, [], ◌∷◌, ◌++◌, append_assoc, append-nil}
use mathlib.Core.Option.{Option, none, some}
use lib.Dec.{leb, eqb}
use lib.ListN.{length, get_or, drop, length-append}
use borrow.Author.Tests.{eqb-true, eqb-false, le-leb, lt-leb}
use Rattle.job.specs.Sizes.{max_residuals}
use Rattle.job.specs.Verdict.{pass}
use Rattle.job.specs.Job.{max_types}
use Rattle.plan.specs.Prices.{max_price, price_words}
use Rattle.columns.specs.Line.{Fit}
use Rattle.texts.specs.Shape.{◌to◌, shape, plan_line, prices_line}
use Rattle.texts.specs.JobLines.{Place, first, sizes, types, body, item_prices, plate_prices, done, board_sizes, types_of, after_size, after_type}
use Rattle.texts.specs.SawText.{Counted, PriceLines, Saw, saw_admits, after_item_price, after_plate_price, with_price, counted_in, body_read, saw_after, saw_grammar, saw_of}
use Rattle.texts.specs.Admitted.{InLimits, OfShape, Admitted, Runs}
use Rattle.texts.specs.TextOf.{job_rows, counted_row, plan_rows, price_rows_from, price_rows, saw_rows_of}
use Rattle.texts.specs.Held.{InPlan, PlanLimits}
use Rattle.texts.proofs.Running.{runs-keep}
use Rattle.texts.proofs.JobLaws.{JobWhole}
use Rattle.texts.proofs.JobText.{AtSizes, AtTypes, JobAt, first_read, sizes-read, types-read}
use Rattle.texts.proofs.PlanRows.{plan_rows-more, plan-limits-more, price_row, price_rows-more, denominator-passes, price-passes}

-- past the job's lines: the job is whole, the plan is within its limits, and the lines are those of what is held
pub record Past (rows : List (List ℕ)) (s : Saw) : Type 0 where
  pub job : JobWhole s.job
  pub plan : PlanLimits s.job s.plan
  pub lines : rows ≡ saw_rows_of s

-- among the prices, k words of them read
pub record Priced (k : ℕ) (ps : PriceLines) : Type 0 where
  pub low : 1 ≤ ps.types
  pub high : ps.types ≤ max_types
  pub residuals : ps.residuals ≤ max_residuals
  pub size : length ps.words ≡ k
  pub words : price_words ps.words ≡ pass

-- how far the prices are, by the place, of t sizes
abbrev pub SawPrices : ℕ → Place → Option PriceLines → Type 0
SawPrices t first ps = ⊥
SawPrices t (sizes j) ps = ⊥
SawPrices t (types i) ps = ⊥
SawPrices t body none = Unit {0}
SawPrices t body (some ps) = ⊥
SawPrices t (item_prices i) none = ⊥
SawPrices t (item_prices i) (some ps) = Priced i ps × (1 ≤ i) × (i ≤ ps.types)
SawPrices t (plate_prices j) none = ⊥
SawPrices t (plate_prices j) (some ps) = Priced (suc (ps.types + (j - t))) ps × (t ≤ j) × (j < t + ps.residuals)
SawPrices t done none = ⊥
SawPrices t done (some ps) = Priced (1 + ps.types + ps.residuals) ps

-- what a saw text holds, by the place
abbrev pub SawForm : Place → List (List ℕ) → Saw → Type 0
SawForm first rows s = rows ≡ []
SawForm (sizes j) rows s = AtSizes j rows s.job
SawForm (types i) rows s = AtTypes i rows s.job
SawForm body rows s = Past rows s × SawPrices (board_sizes s.job) body s.prices
SawForm (item_prices i) rows s = Past rows s × SawPrices (board_sizes s.job) (item_prices i) s.prices
SawForm (plate_prices j) rows s = Past rows s × SawPrices (board_sizes s.job) (plate_prices j) s.prices
SawForm done rows s = Past rows s × SawPrices (board_sizes s.job) done s.prices

-- where a saw text stands after the lines `rows`
abbrev pub SawAt : List (List ℕ) → Saw → Type 0
SawAt rows s = SawForm s.place rows s

-- the job's lines bring a saw text to its body, with no plan and no prices yet
from-job : (p : Place) (rows : List (List ℕ)) (ws : List ℕ) → JobAt p rows ws → SawForm p rows (saw_of p ws [] none)
unfolding saw_rows_of plan_rows price_rows
from-job first rows ws j = j
from-job (sizes i) rows ws j = j
from-job (types i) rows ws j = j
from-job body rows ws j = (record { job = j.0; plan = tt; lines = j.1 ∙ sym (append-nil (job_rows ws)) }, tt)
from-job (item_prices i) rows ws j = absurd j
from-job (plate_prices i) rows ws j = absurd j
from-job done rows ws j = absurd j

-- ---- the lines, one more of them

-- without prices
no-prices : (ws : List ℕ) (rs : List Counted) (p : Place) → saw_rows_of (saw_of p ws rs none) ≡ job_rows ws ++ plan_rows rs
unfolding saw_rows_of price_rows
no-prices ws rs p = ap (λ (l : List (List ℕ)). job_rows ws ++ l) (append-nil (plan_rows rs))

-- a line 3 more
more-plan :
    (ws : List ℕ) (rs : List Counted) (r : Counted) (p q : Place)
    → saw_rows_of (saw_of p ws rs none) ++ (counted_row r ∷ []) ≡ saw_rows_of (saw_of q ws (rs ++ (r ∷ [])) none)
more-plan ws rs r p q =
    rw (no-prices ws rs p, no-prices ws (rs ++ (r ∷ [])) q, plan_rows-more rs r)
    (append_assoc (job_rows ws) (plan_rows rs) (counted_row r ∷ []))

-- line 4
first-price :
    (ws : List ℕ) (rs : List Counted) (ps : PriceLines) (p q : Place)
    → drop 1 ps.words ≡ []
    → saw_rows_of (saw_of p ws rs none) ++ ((4 ∷ get_or ps.words 0 0 ∷ ps.types ∷ ps.residuals ∷ []) ∷ []) ≡ saw_rows_of (saw_of q ws rs (some ps))
unfolding saw_rows_of price_rows price_rows_from
first-price ws rs ps p q e =
    rw (e, no-prices ws rs p)
    (append_assoc (job_rows ws) (plan_rows rs) ((4 ∷ get_or ps.words 0 0 ∷ ps.types ∷ ps.residuals ∷ []) ∷ []))

-- a line 5 or 6 more
more-price :
    (ws : List ℕ) (rs : List Counted) (ps : PriceLines) (x k : ℕ) (p q : Place)
    → length ps.words ≡ suc k
    → saw_rows_of (saw_of p ws rs (some ps)) ++ (price_row (board_sizes ws) ps.types (suc k) x ∷ []) ≡ saw_rows_of (saw_of q ws rs (some (with_price ps x)))
unfolding saw_rows_of
more-price ws rs ps x k p q e =
    let row : List (List ℕ) = price_row (board_sizes ws) ps.types (suc k) x ∷ [] in
    let last = append_assoc (plan_rows rs) (price_rows (board_sizes ws) (some ps)) row ∙ ap (λ (l : List (List ℕ)). plan_rows rs ++ l) (sym (price_rows-more (board_sizes ws) ps x k e)) in
    append_assoc (job_rows ws) (plan_rows rs ++ price_rows (board_sizes ws) (some ps)) row ∙ ap (λ (l : List (List ℕ)). job_rows ws ++ l) last

-- ---- the body

-- a line 3
plan-read :
    (rows : List (List ℕ)) (ws : List ℕ) (rs : List Counted) (ns : List ℕ)
    → Past rows (saw_of body ws rs none)
    → OfShape (plan_line ws) ns
    → SawAt (rows ++ (ns ∷ [])) (body_read (saw_of body ws rs none) ns)
unfolding body_read counted_row Fit
plan-read rows ws rs ns p o = rw o.numbers (seven o.others o.limits o.turned)
  where
    seven :
        (vs : List ℕ)
        → InLimits (plan_line ws).limits vs
        → (plan_line ws).permits vs ≡ true
        → SawAt (rows ++ ((3 ∷ vs) ∷ [])) (body_read (saw_of body ws rs none) (3 ∷ vs))
    seven [] h t = absurd h
    seven (a ∷ []) h t = absurd h.2
    seven (a ∷ b ∷ []) h t = absurd h.2.2
    seven (a ∷ b ∷ c ∷ []) h t = absurd h.2.2.2
    seven (a ∷ b ∷ c ∷ d ∷ []) h t = absurd h.2.2.2.2
    seven (a ∷ b ∷ c ∷ d ∷ e ∷ []) h t = absurd h.2.2.2.2.2
    seven (a ∷ b ∷ c ∷ d ∷ e ∷ f ∷ []) h t = absurd h.2.2.2.2.2.2
    seven (a ∷ b ∷ c ∷ d ∷ e ∷ f ∷ g ∷ []) h t =
        let r : Counted = counted_in (3 ∷ a ∷ b ∷ c ∷ d ∷ e ∷ f ∷ g ∷ []) in
        let limits : InPlan ws r =
        record {
          plate = omega arith;
          low = omega arith;
          high = omega arith;
          counted = omega arith;
          few = omega arith;
          shown = omega arith;
          turned = omega arith;
          lies = t;
        } in (
          record {
            job = p.job;
            plan = plan-limits-more ws rs r p.plan limits;
            lines = rw p.lines (more-plan ws rs r body body);
          },
          tt,
        )
    seven (a ∷ b ∷ c ∷ d ∷ e ∷ f ∷ g ∷ v ∷ vs) h t = absurd h.2.2.2.2.2.2.2

-- line 4
prices-read :
    (rows : List (List ℕ)) (ws : List ℕ) (rs : List Counted) (ns : List ℕ)
    → Past rows (saw_of body ws rs none)
    → OfShape prices_line ns
    → SawAt (rows ++ (ns ∷ [])) (body_read (saw_of body ws rs none) ns)
unfolding body_read
prices-read rows ws rs ns p o = rw o.numbers (three o.others o.limits)
  where
    three : (vs : List ℕ) → InLimits prices_line.limits vs → SawAt (rows ++ ((4 ∷ vs) ∷ [])) (body_read (saw_of body ws rs none) (4 ∷ vs))
    three [] h = absurd h
    three (a ∷ []) h = absurd h.2
    three (a ∷ b ∷ []) h = absurd h.2.2
    three (a ∷ b ∷ c ∷ []) h =
        let ps : PriceLines = record { types = b; residuals = c; words = a ∷ [] } in (
          record { job = p.job; plan = p.plan; lines = rw p.lines (first-price ws rs ps body (item_prices 1) refl) },
          (
            record {
              low = omega arith;
              high = omega arith;
              residuals = omega arith;
              size = refl;
              words = denominator-passes a (omega arith) (omega arith);
            },
            omega arith,
            omega arith,
          ),
        )
    three (a ∷ b ∷ c ∷ v ∷ vs) h = absurd h.2.2.2

-- ---- the prices

-- one price more, of k
price-more :
    (k : ℕ) (rows : List (List ℕ)) (p q : Place) (ws : List ℕ) (rs : List Counted) (ps : PriceLines) (x : ℕ)
    → Past rows (saw_of p ws rs (some ps))
    → Priced k ps
    → 1 ≤ k
    → x ≤ max_price
    → Past (rows ++ (price_row (board_sizes ws) ps.types k x ∷ [])) (saw_of q ws rs (some (with_price ps x))) × Priced (suc k) (with_price ps x)
price-more zero rows p q ws rs ps x h w l e = absurd (omega arith)
price-more (suc k) rows p q ws rs ps x h w l e =
    let size = w.size in (
      record { job = h.job; plan = h.plan; lines = rw h.lines (more-price ws rs ps x k p q size) },
      record {
        low = w.low;
        high = w.high;
        residuals = w.residuals;
        size = length-append ps.words (x ∷ []) ∙ omega arith;
        words = price-passes ps.words x (omega arith) e w.words;
      },
    )

-- a price as the only number after the running one
price-only :
    (k i : ℕ) (ns : List ℕ) (P : List ℕ → Type 0)
    → (o : OfShape (shape k (i ∷ []) (0 to max_price ∷ [])) ns)
    → ((x : ℕ) → x ≤ max_price → P (k ∷ i ∷ x ∷ []))
    → P ns
price-only k i ns P o f = rw o.numbers (one o.others o.limits)
  where
    one : (vs : List ℕ) → InLimits (0 to max_price ∷ []) vs → P (k ∷ i ∷ vs)
    one [] h = absurd h
    one (x ∷ []) h = f x h.1
    one (x ∷ v ∷ vs) h = absurd h.2

priced-as : (k m : ℕ) (ps : PriceLines) → k ≡ m → Priced k ps → Priced m ps
priced-as k m ps e w = subst (λ (j : ℕ). Priced j ps) e w

module _ (rows : List (List ℕ)) (ws : List ℕ) (rs : List Counted) (ps : PriceLines) (x : ℕ) (e : x ≤ max_price) where
  -- a line 5
  item-price-read :
      (i : ℕ)
      → Past rows (saw_of (item_prices i) ws rs (some ps))
      → Priced i ps
      → 1 ≤ i
      → i ≤ ps.types
      → SawAt (rows ++ ((5 ∷ i ∷ x ∷ []) ∷ [])) (saw_of (after_item_price (board_sizes ws) ps.types ps.residuals i) ws rs (some (with_price ps x)))
  unfolding after_item_price
  item-price-read i h w l u = go (eqb i ps.types) refl (eqb ps.residuals 0) refl
    where
      t : ℕ
      t = board_sizes ws

      row : price_row (board_sizes ws) ps.types i x ≡ 5 ∷ i ∷ x ∷ []
      row = rw (le-leb i ps.types u)

      more : (q : Place) → Past (rows ++ ((5 ∷ i ∷ x ∷ []) ∷ [])) (saw_of q ws rs (some (with_price ps x))) × Priced (suc i) (with_price ps x)
      more q = rw row at (price-more i rows (item_prices i) q ws rs ps x h w l e)

      go :
          (a : Bool)
          → eqb i ps.types ≡ a
          → (b : Bool)
          → eqb ps.residuals 0 ≡ b
          → SawAt (rows ++ ((5 ∷ i ∷ x ∷ []) ∷ [])) (saw_of (after_item_price (board_sizes ws) ps.types ps.residuals i) ws rs (some (with_price ps x)))
      go true p true q =
          let n : suc i ≡ 1 + ps.types + ps.residuals = omega (arith, eqb-true i ps.types p, eqb-true ps.residuals 0 q) in
          rw (p, q) ((more done).0, priced-as (suc i) (1 + ps.types + ps.residuals) (with_price ps x) n (more done).1)
      go true p false q =
          let n : suc i ≡ suc (ps.types + (t - t)) = omega (arith, eqb-true i ps.types p) in
          let w' = priced-as (suc i) (suc (ps.types + (t - t))) (with_price ps x) n (more (plate_prices t)).1 in
          rw (p, q) ((more (plate_prices t)).0, (w', omega arith, omega (arith, eqb-false ps.residuals 0 q)))
      go false p b q =
          rw p ((more (item_prices (suc i))).0, ((more (item_prices (suc i))).1, omega arith, omega (arith, u, eqb-false i ps.types p)))

  -- a line 6
  plate-price-read :
      (j : ℕ)
      → Past rows (saw_of (plate_prices j) ws rs (some ps))
      → Priced (suc (ps.types + (j - board_sizes ws))) ps
      → board_sizes ws ≤ j
      → j < board_sizes ws + ps.residuals
      → SawAt (rows ++ ((6 ∷ j ∷ x ∷ []) ∷ [])) (saw_of (after_plate_price (board_sizes ws) ps.residuals j) ws rs (some (with_price ps x)))
  unfolding after_plate_price
  plate-price-read j h w l u = go (eqb (suc j) (t + ps.residuals)) refl
    where
      t : ℕ
      t = board_sizes ws

      k : ℕ
      k = suc (ps.types + (j - t))

      row : price_row t ps.types k x ≡ 6 ∷ j ∷ x ∷ []
      row =
          let b : leb k ps.types ≡ false = lt-leb k ps.types (omega arith) in
          let n : t + (k - suc ps.types) ≡ j = omega (arith, l) in
          rw (b, n)

      more :
          (q : Place)
          → Past (rows ++ ((6 ∷ j ∷ x ∷ []) ∷ [])) (saw_of q ws rs (some (with_price ps x))) × Priced (suc k) (with_price ps x)
      more q = rw row at (price-more k rows (plate_prices j) q ws rs ps x h w (omega arith) e)

      go :
          (a : Bool)
          → eqb (suc j) (t + ps.residuals) ≡ a
          → SawAt (rows ++ ((6 ∷ j ∷ x ∷ []) ∷ [])) (saw_of (after_plate_price (board_sizes ws) ps.residuals j) ws rs (some (with_price ps x)))
      go true p =
          let n : suc k ≡ 1 + ps.types + ps.residuals = omega (arith, l, eqb-true (suc j) (t + ps.residuals) p) in
          rw p ((more done).0, priced-as (suc k) (1 + ps.types + ps.residuals) (with_price ps x) n (more done).1)
      go false p =
          let n : suc k ≡ suc (ps.types + (suc j - t)) = omega (arith, l) in
          let w' = priced-as (suc k) (suc (ps.types + (suc j - t))) (with_price ps x) n (more (plate_prices (suc j))).1 in
          rw p ((more (plate_prices (suc j))).0, (w', omega (arith, l), omega (arith, u, eqb-false (suc j) (t + ps.residuals) p)))

-- ---- every line

saw-step : (p : Place) (ws : List ℕ) (rs : List Counted) (o : Option PriceLines) (rows : List (List ℕ)) (ns : List ℕ)
    → SawForm p rows (saw_of p ws rs o) → Admitted (saw_admits (saw_of p ws rs o)) ns → SawAt (rows ++ (ns ∷ [])) (saw_after (saw_of p ws rs o) ns)
unfolding saw_admits saw_after
saw-step first ws rs o rows ns h (inl a) = from-job (sizes 0) (rows ++ (ns ∷ [])) (drop 1 ns) (first_read rows ns h a)
saw-step first ws rs o rows ns h (inr a) = absurd a
saw-step (sizes j) ws rs o rows ns h (inl a) = from-job (after_size (board_sizes ws) j) (rows ++ (ns ∷ [])) (ws ++ drop 2 ns) (sizes-read j rows ws ns h a)
saw-step (sizes j) ws rs o rows ns h (inr a) = absurd a
saw-step (types i) ws rs o rows ns h (inl a) = from-job (after_type (types_of ws) i) (rows ++ (ns ∷ [])) (ws ++ drop 2 ns) (types-read i rows ws ns h a)
saw-step (types i) ws rs o rows ns h (inr a) = absurd a
saw-step body ws rs none rows ns h (inl a) = plan-read rows ws rs ns h.0 a
saw-step body ws rs none rows ns h (inr (inl a)) = prices-read rows ws rs ns h.0 a
saw-step body ws rs none rows ns h (inr (inr a)) = absurd a
saw-step body ws rs (some ps) rows ns h a = absurd h.1
saw-step (item_prices i) ws rs none rows ns h a = absurd h.1
saw-step (item_prices i) ws rs (some ps) rows ns h (inl a) =
    price-only 5 i ns (λ ns. SawAt (rows ++ (ns ∷ [])) (saw_after (saw_of (item_prices i) ws rs (some ps)) ns)) a
    (λ x e. item-price-read rows ws rs ps x e i h.0 h.1.0 h.1.1 h.1.2)
saw-step (item_prices i) ws rs (some ps) rows ns h (inr a) = absurd a
saw-step (plate_prices j) ws rs none rows ns h a = absurd h.1
saw-step (plate_prices j) ws rs (some ps) rows ns h (inl a) =
    price-only 6 j ns (λ ns. SawAt (rows ++ (ns ∷ [])) (saw_after (saw_of (plate_prices j) ws rs (some ps)) ns)) a
    (λ x e. plate-price-read rows ws rs ps x e j h.0 h.1.0 h.1.1 h.1.2)
saw-step (plate_prices j) ws rs (some ps) rows ns h (inr a) = absurd a
saw-step done ws rs o rows ns h a = absurd a

-- wherever lines bring a saw text
pub saw-at : (rows : List (List ℕ)) (s : Saw) → Runs saw_grammar saw_grammar.start rows s → SawAt rows s
saw-at rows s r =
    runs-keep saw_grammar SawAt (λ d t ns h a. saw-step t.place t.job t.plan t.prices d ns h a)
    [] saw_grammar.start s rows refl r
