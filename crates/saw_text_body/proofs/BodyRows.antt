-- The lines of a saw text by what comes next: which are admitted, what they make of it, and what is known of their numbers.
use Prim.Native.Nat.{ℕ, suc, ◌≤◌}
use native.Mathlib.Omega.{arith}
use mathlib.Core.Path.{◌≡◌, refl, sym, ◌∙◌}
use mathlib.Core.Bool.{Bool, true, false, not}
use mathlib.Core.List.{List, [], ◌∷◌, ◌++◌}
use mathlib.Core.Option.{none, some}
use lib.ListN.{length, get_or, drop}
use borrow.Author.Tests.{eq-eqb, ne_eqb}
use Rattle.job.specs.Verdict.{Verdict, refuse, ◌then◌, refuse_if}
use Rattle.job.specs.Sizes.{max_types, max_residuals, max_price}
use Rattle.texts.specs.Shape.{Shape, job_line, size_line, item_line, plan_line, prices_line, item_price_line, plate_price_line, begins, formed, each_within, values, numbers_row}
use Rattle.texts.specs.Admitted.{InLimits, OfShape}
use Rattle.texts.specs.JobLines.{Place, first, sizes, types, body, item_prices, plate_prices, done, board_sizes, types_of, after_size, after_type}
use Rattle.texts.specs.SawText.{PriceLines, Saw, counted_in, saw_admits, saw_after, body_read, price_read, with_price, after_item_price, after_plate_price}
use Rattle.texts_reading.specs.Judged.{line_verdict}
use Rattle.texts_reading.proofs.CodeJobLines.{passed, of-shape}
use Rattle.saw_text_body.specs.PlanRead.{PlanNumbers}

-- ---- which lines are admitted

module _ (s : Saw) where
  pub admits-first : s.place ≡ first → saw_admits s ≡ job_line ∷ []
  unfolding saw_admits
  admits-first e = rw (e, saw_admits)

  pub admits-size : (j : ℕ) → s.place ≡ sizes j → saw_admits s ≡ size_line j ∷ []
  unfolding saw_admits
  admits-size j e = rw (e, saw_admits)

  pub admits-item : (i : ℕ) → s.place ≡ types i → saw_admits s ≡ item_line i ∷ []
  unfolding saw_admits
  admits-item i e = rw (e, saw_admits)

  admits-body : s.place ≡ body → saw_admits s ≡ plan_line s.job ∷ prices_line ∷ []
  unfolding saw_admits
  admits-body e = rw (e, saw_admits)

  pub admits-item-price : (i : ℕ) → s.place ≡ item_prices i → saw_admits s ≡ item_price_line i ∷ []
  unfolding saw_admits
  admits-item-price i e = rw (e, saw_admits)

  pub admits-plate-price : (j : ℕ) → s.place ≡ plate_prices j → saw_admits s ≡ plate_price_line j ∷ []
  unfolding saw_admits
  admits-plate-price j e = rw (e, saw_admits)

-- past the prices no line is admitted
pub row_done : (s : Saw) (line : ℕ) (ns : List ℕ) → s.place ≡ done → refuse 1 line ≡ numbers_row line (saw_admits s) ns
unfolding saw_admits numbers_row
row_done s line ns e = rw (e, saw_admits)

-- a line of another kind is not of the shape
other-kind : (s : Shape) (ns : List ℕ) → (get_or ns 0 0 ≡ s.kind → ⊥) → (0 ≡ s.kind → ⊥) → formed s ns ≡ false
unfolding formed begins
other-kind s [] h z = refl
other-kind s (n ∷ ns) h z = rw (ne_eqb s.kind n (λ e. h (sym e)))

-- in the body a line of kind 4 is judged as such, and any other as a line 3
pub row-plan : (s : Saw) (line : ℕ) (ns : List ℕ) → s.place ≡ body → (get_or ns 0 0 ≡ 4 → ⊥) → numbers_row line (saw_admits s) ns ≡ numbers_row line (plan_line s.job ∷ []) ns
unfolding numbers_row
row-plan s line ns e h =
    rw (admits-body s e)
    (let f = other-kind prices_line ns h (λ q. omega arith) in
    let tail : numbers_row line (prices_line ∷ []) ns ≡ refuse 1 line = rw (f, numbers_row) in
    go (formed (plan_line s.job) ns) tail)
  where
    plan : Shape
    plan = plan_line s.job

    here : Verdict
    here =
        refuse_if (not (each_within plan.limits (values plan ns))) 2 line
        then refuse_if (not (plan.permits (values plan ns))) 19 line

    go :
        (t : Bool)
        → numbers_row line (prices_line ∷ []) ns ≡ refuse 1 line
        → ◌≡◌ {A = Verdict} (elim t [ true ↦ here | false ↦ numbers_row line (prices_line ∷ []) ns ]) (elim t [ true ↦ here | false ↦ refuse 1 line ])
    go true q = refl
    go false q = q

pub row-prices : (s : Saw) (line : ℕ) (ns : List ℕ) → s.place ≡ body → get_or ns 0 0 ≡ 4 → numbers_row line (saw_admits s) ns ≡ numbers_row line (prices_line ∷ []) ns
unfolding numbers_row
row-prices s line ns e h =
    let f = other-kind (plan_line s.job) ns (λ q. omega (arith, h, q)) (λ q. omega arith) in
    rw (admits-body s e, f, numbers_row)

-- ---- what an admitted line makes of the text

module _ (s : Saw) (ns : List ℕ) where
  pub after_first : s.place ≡ first → saw_after s ns ≡ record { place = sizes 0; job = drop 1 ns; plan = []; prices = none }
  unfolding saw_after
  after_first e = rw (e, saw_after)

  after-size : (j : ℕ) → s.place ≡ sizes j → saw_after s ns ≡ record { place = after_size (board_sizes s.job) j; job = s.job ++ drop 2 ns; plan = []; prices = none }
  unfolding saw_after
  after-size j e = rw (e, saw_after)

  pub after-some-sizes : (j : ℕ) → s.place ≡ sizes j → (suc j ≡ board_sizes s.job → ⊥) → saw_after s ns ≡ record { place = sizes (suc j); job = s.job ++ drop 2 ns; plan = []; prices = none }
  unfolding after_size
  after-some-sizes j e h = after-size j e ∙ rw (ne_eqb (suc j) (board_sizes s.job) h)

  pub after-all-sizes : (j : ℕ) → s.place ≡ sizes j → suc j ≡ board_sizes s.job → saw_after s ns ≡ record { place = types 1; job = s.job ++ drop 2 ns; plan = []; prices = none }
  unfolding after_size
  after-all-sizes j e h = after-size j e ∙ rw (eq-eqb (suc j) (board_sizes s.job) h)

  after-item : (i : ℕ) → s.place ≡ types i → saw_after s ns ≡ record { place = after_type (types_of s.job) i; job = s.job ++ drop 2 ns; plan = []; prices = none }
  unfolding saw_after
  after-item i e = rw (e, saw_after)

  pub after-some : (i : ℕ) → s.place ≡ types i → (i ≡ types_of s.job → ⊥) → saw_after s ns ≡ record { place = types (suc i); job = s.job ++ drop 2 ns; plan = []; prices = none }
  unfolding after_type
  after-some i e h = after-item i e ∙ rw (ne_eqb i (types_of s.job) h)

  pub after-all : (i : ℕ) → s.place ≡ types i → i ≡ types_of s.job → saw_after s ns ≡ record { place = body; job = s.job ++ drop 2 ns; plan = []; prices = none }
  unfolding after_type
  after-all i e h = after-item i e ∙ rw (eq-eqb i (types_of s.job) h)

  pub after-plan :
      s.place ≡ body
      → get_or ns 0 0 ≡ 3
      → saw_after s ns ≡ record { place = body; job = s.job; plan = s.plan ++ counted_in ns ∷ []; prices = none }
  unfolding saw_after body_read
  after-plan e h = rw (e, saw_after, eq-eqb (get_or ns 0 0) 3 h, body_read)

  pub after-prices :
      s.place ≡ body
      → get_or ns 0 0 ≡ 4
      → saw_after s ns
      ≡ record { place = item_prices 1; job = s.job; plan = s.plan; prices = some (record { types = get_or ns 2 0; residuals = get_or ns 3 0; words = get_or ns 1 0 ∷ [] }) }
  unfolding saw_after body_read
  after-prices e h = rw (e, saw_after, ne_eqb (get_or ns 0 0) 3 (λ q. omega (arith, h, q)), body_read)

  price-read : (next : ℕ → ℕ → Place) (price : ℕ) (ps : PriceLines) → s.prices ≡ some ps → price_read s next price ≡ record { place = next ps.types ps.residuals; job = s.job; plan = s.plan; prices = some (with_price ps price) }
  price-read next price ps e = rw (e, price_read)

  pub after-item-price :
      (i : ℕ) (ps : PriceLines)
      → s.place ≡ item_prices i
      → s.prices ≡ some ps
      → saw_after s ns
      ≡ record { place = after_item_price (board_sizes s.job) ps.types ps.residuals i; job = s.job; plan = s.plan; prices = some (with_price ps (get_or ns 2 0)) }
  unfolding saw_after
  after-item-price i ps e p = rw (e, saw_after) (price-read (λ n m. after_item_price (board_sizes s.job) n m i) (get_or ns 2 0) ps p)

  pub after-plate-price :
      (j : ℕ) (ps : PriceLines)
      → s.place ≡ plate_prices j
      → s.prices ≡ some ps
      → saw_after s ns ≡ record { place = after_plate_price (board_sizes s.job) ps.residuals j; job = s.job; plan = s.plan; prices = some (with_price ps (get_or ns 2 0)) }
  unfolding saw_after
  after-plate-price j ps e p = rw (e, saw_after) (price-read (λ n m. after_plate_price (board_sizes s.job) m j) (get_or ns 2 0) ps p)

-- ---- the numbers of a line that passes

-- a line 3 of the job of the words ws
pub plan-numbers : (ws ns : List ℕ) → OfShape (plan_line ws) ns → PlanNumbers (types_of ws) ns
plan-numbers ws ns o = go o.others o.numbers o.limits
  where
    go : (vs : List ℕ) → ns ≡ 3 ∷ vs → InLimits (plan_line ws).limits vs → PlanNumbers (types_of ws) ns
    go [] e h = absurd h
    go (a ∷ []) e h = absurd h.2
    go (a ∷ b ∷ []) e h = absurd h.2.2
    go (a ∷ b ∷ c ∷ []) e h = absurd h.2.2.2
    go (a ∷ b ∷ c ∷ w ∷ []) e h = absurd h.2.2.2.2
    go (a ∷ b ∷ c ∷ w ∷ v ∷ []) e h = absurd h.2.2.2.2.2
    go (a ∷ b ∷ c ∷ w ∷ v ∷ s ∷ []) e h = absurd h.2.2.2.2.2.2
    go (a ∷ b ∷ c ∷ w ∷ v ∷ s ∷ t ∷ []) e h =
        rw e (record { size = refl; kind = refl; plate = h.1; type = h.2.1; count = h.2.2.1; turn = h.2.2.2.2.2.2.1 })
    go (a ∷ b ∷ c ∷ w ∷ v ∷ s ∷ t ∷ u ∷ vs) e h = absurd h.2.2.2.2.2.2.2

-- of a job of more types
pub more-types : {m n : ℕ} {ns : List ℕ} → m ≤ n → PlanNumbers m ns → PlanNumbers n ns
more-types h p = record { size = p.size; kind = p.kind; plate = p.plate; type = omega (arith, h, p.type); count = p.count; turn = p.turn }

-- a line 4
pub record PricesNumbers (ns : List ℕ) : Type 0 where
  pub size : length ns ≡ 4
  pub denominator : get_or ns 1 0 ≤ max_price
  pub some-type : 1 ≤ get_or ns 2 0
  pub few-types : get_or ns 2 0 ≤ max_types
  pub few-residuals : get_or ns 3 0 ≤ max_residuals

pub prices-numbers : (ns : List ℕ) → OfShape prices_line ns → PricesNumbers ns
prices-numbers ns o = go o.others o.numbers o.limits
  where
    go : (vs : List ℕ) → ns ≡ 4 ∷ vs → InLimits prices_line.limits vs → PricesNumbers ns
    go [] e h = absurd h
    go (a ∷ []) e h = absurd h.2
    go (a ∷ b ∷ []) e h = absurd h.2.2
    go (a ∷ b ∷ c ∷ []) e h = rw e (record { size = refl; denominator = h.1; some-type = h.2.0; few-types = h.2.1; few-residuals = h.2.2.1 })
    go (a ∷ b ∷ c ∷ d ∷ vs) e h = absurd h.2.2.2

-- a line 5 or 6
pub record PriceNumbers (ns : List ℕ) : Type 0 where
  pub size : length ns ≡ 3
  pub price : get_or ns 2 0 ≤ max_price

price-numbers : (kind i : ℕ) (ns vs : List ℕ) → ns ≡ kind ∷ i ∷ vs → InLimits (item_price_line i).limits vs → PriceNumbers ns
price-numbers kind i ns [] e h = absurd h
price-numbers kind i ns (a ∷ []) e h = rw e (record { size = refl; price = h.1 })
price-numbers kind i ns (a ∷ b ∷ vs) e h = absurd h.2

pub item-price-numbers : (i : ℕ) (ns : List ℕ) → OfShape (item_price_line i) ns → PriceNumbers ns
item-price-numbers i ns o = price-numbers 5 i ns o.others o.numbers o.limits

pub plate-price-numbers : (j : ℕ) (ns : List ℕ) → OfShape (plate_price_line j) ns → PriceNumbers ns
plate-price-numbers j ns o = price-numbers 6 j ns o.others o.numbers o.limits

-- ---- the same from what the code's judgement says

module _ (r : ℕ) (ns : List ℕ) (none : r ≡ 0) where
  of : (s : Shape) → ((line : ℕ) → line_verdict r line ≡ numbers_row line (s ∷ []) ns) → OfShape s ns
  of s judged = of-shape 1 s ns (passed 1 none (judged 1))

  pub plan-judged : (ws : List ℕ) → ((line : ℕ) → line_verdict r line ≡ numbers_row line (plan_line ws ∷ []) ns) → PlanNumbers (types_of ws) ns
  plan-judged ws judged = plan-numbers ws ns (of (plan_line ws) judged)

  pub prices-judged : ((line : ℕ) → line_verdict r line ≡ numbers_row line (prices_line ∷ []) ns) → PricesNumbers ns
  prices-judged judged = prices-numbers ns (of prices_line judged)

  pub item-price-judged : (i : ℕ) → ((line : ℕ) → line_verdict r line ≡ numbers_row line (item_price_line i ∷ []) ns) → PriceNumbers ns
  item-price-judged i judged = item-price-numbers i ns (of (item_price_line i) judged)

  pub plate-price-judged : (j : ℕ) → ((line : ℕ) → line_verdict r line ≡ numbers_row line (plate_price_line j ∷ []) ns) → PriceNumbers ns
  plate-price-judged j judged = plate-price-numbers j ns (of (plate_price_line j) judged)
