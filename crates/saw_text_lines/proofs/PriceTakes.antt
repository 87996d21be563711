-- What is kept of a saw text with one line of prices more: lines 4, 5 and 6.
use Prim.Native.Nat.{ℕ, suc, ◌+◌, ◌-◌, ◌≤◌, ◌<◌}
use native.Mathlib.Decide.{ℕ_discrete}
use native.Mathlib.Omega.{arith}
use mathlib.Core.Path.{◌≡◌, refl, ◌∙◌}
use mathlib.Core.Bool.{true}
use mathlib.Core.List.{List, [], ◌∷◌}
use mathlib.Core.Option.{Option, some}
use lib.ListN.{length, get_or, set, length-append}
use borrow.Author.Tests.{eq-eqb, ne_eqb}
use Rattle.job.specs.declared.refused.Refusal.{Refusal}
use Rattle.job.specs.Refused.{number_of}
use Rattle.std.specs.Prelude.{Ok, Err}
use Rattle.job.specs.declared.counters.ItemType.{ItemType}
use Rattle.job.specs.declared.counters.PlateType.{PlateType}
use Rattle.listing.specs.Holds.{Holds}
use Rattle.listing.proofs.CodeHolds.{held-put}
use Rattle.texts.specs.Shape.{prices_line, item_price_line, plate_price_line, numbers_row}
use Rattle.texts.specs.JobLines.{Place, first, sizes, types, body, item_prices, plate_prices, done, board_sizes}
use Rattle.texts.specs.SawText.{Counted, PriceLines, Saw, saw_admits, with_price, after_item_price, after_plate_price}
use Rattle.texts_reading.specs.declared.text.Place.{Place as CodePlace}
use Rattle.texts_reading.specs.declared.text.Place.TheVariants.{ItemPrices}
use Rattle.texts_reading.specs.Judged.{line_verdict}
use Rattle.texts_reading.specs.Standing.{place_of}
use Rattle.saw_text_body.specs.declared.price_lines.PriceLines.{PriceLines as CodePrices}
use Rattle.saw_text_body.proofs.BodyRows.{admits-item-price, admits-plate-price, row-prices, after-prices, after-item-price, after-plate-price, PricesNumbers}
use Rattle.saw_text_lines.specs.declared.held.SawHeld.{SawHeld}
use Rattle.saw_text_lines.specs.SawKept.{Lent, lent, ListedJob, NoPrices, PricesTo, PricesHeld, HeldAs, TakenAs}
use Rattle.saw_text_lines.proofs.TakeLaws.{taken_refused, taken-admitted}

-- ---- line 4

module _ (s : Saw) (lines r : ℕ) (ns job plates cuts counts prices : List ℕ) (h : SawHeld) (e : s.place ≡ body) (four : get_or ns 0 0 ≡ 4) (judged : (line : ℕ) → line_verdict r line ≡ numbers_row line (prices_line ∷ []) ns) (kept : HeldAs s lines h (lent job plates cuts counts prices)) where
  row : line_verdict r (suc lines) ≡ numbers_row (suc lines) (saw_admits s) ns
  row = rw (row-prices s (suc lines) ns e four) (judged (suc lines))

  pub prices-refused : (x : Refusal) → r ≡ number_of x → TakenAs s lines ns h (Err x) (lent job plates cuts counts prices)
  prices-refused x n = taken_refused s lines r ns h (lent job plates cuts counts prices) row x n kept

  pub prices-taken :
      r ≡ 0
      → PricesNumbers ns
      → 0 < length prices
      → TakenAs s lines ns h
      (Ok (record { place = ItemPrices (record { 0 = 1 }); held = record { model = h.model; plan = h.plan; prices = record { given = true; types = record { 0 = get_or ns 2 0 }; residuals = get_or ns 3 0 } } }))
      (lent job plates cuts counts (set prices 0 (get_or ns 1 0)))
  prices-taken z numbers room =
      let after = after-prices s ns e four in
      let listed : ListedJob h s.job s.plan (lent job plates cuts counts prices) = rw e at kept.of-job in
      let no-prices : NoPrices s.prices h.prices prices = rw e at kept.of-prices in
      taken-admitted s lines r ns h (lent job plates cuts counts (set prices 0 (get_or ns 1 0))) row (ItemPrices (record { 0 = 1 })) _ z (rw after)
      (rw after
      (record {
        words = kept.words;
        of-job = record { whole = listed.whole; model = listed.model; plan = listed.plan };
        of-prices = (
          omega arith,
          (
            numbers.some-type,
            record {
              lines = record { types = get_or ns 2 0; residuals = get_or ns 3 0; words = get_or ns 1 0 ∷ [] };
              some_is = refl;
              given = refl;
              types = refl;
              residuals = refl;
              few-types = numbers.few-types;
              few-residuals = numbers.few-residuals;
              words = held-put 0 (get_or ns 1 0) refl room no-prices.words;
              size = refl;
            },
          ),
        );
        of-lines = tt;
      }))

-- ---- lines 5 and 6

-- a text stands behind line 4
abbrev Priced : Place → Type 0
Priced first = ⊥
Priced (sizes j) = ⊥
Priced (types i) = ⊥
Priced body = ⊥
Priced (item_prices i) = Unit {0}
Priced (plate_prices j) = Unit {0}
Priced done = Unit {0}

priced-held :
    (q : Place) (ws : List ℕ) (rs : List Counted) (ps : PriceLines) (lines : ℕ) (h : SawHeld) (b : Lent)
    → Priced q
    → Holds b.job ws
    → ListedJob h ws rs b
    → PricesHeld (board_sizes ws) q (some ps) h.prices b.prices
    → HeldAs (record { place = q; job = ws; plan = rs; prices = some ps }) lines h b
priced-held first ws rs ps lines h b p w l k = absurd p
priced-held (sizes j) ws rs ps lines h b p w l k = absurd p
priced-held (types i) ws rs ps lines h b p w l k = absurd p
priced-held body ws rs ps lines h b p w l k = absurd p
priced-held (item_prices i) ws rs ps lines h b p w l k = record { words = w; of-job = l; of-prices = k; of-lines = tt }
priced-held (plate_prices j) ws rs ps lines h b p w l k = record { words = w; of-job = l; of-prices = k; of-lines = tt }
priced-held done ws rs ps lines h b p w l k = record { words = w; of-job = l; of-prices = k; of-lines = tt }

-- one price more
prices-more : {n : ℕ} {o : Option PriceLines} {p : CodePrices} {buffer : List ℕ} (to : PricesTo n o p buffer) (m v : ℕ) → n < length buffer → n + 1 ≡ m → PricesTo m (some (with_price to.lines v)) p (set buffer n v)
prices-more {n} to m v room e =
    record {
      lines = with_price to.lines v;
      some_is = refl;
      given = to.given;
      types = to.types;
      residuals = to.residuals;
      few-types = to.few-types;
      few-residuals = to.few-residuals;
      words = held-put n v to.size room to.words;
      size = simp length-append (omega (arith, to.size));
    }

module _ (o : Option PriceLines) (p : CodePrices) (buffer : List ℕ) (t n m : ℕ) (te : p.types.0 ≡ n) (me : p.residuals ≡ m) where
  item-next : (i : ℕ) → i ≤ p.types.0 → ((k : ℕ) → i + 1 ≡ k → PricesTo k o p buffer) → PricesHeld t (after_item_price t n m i) o p buffer × Priced (after_item_price t n m i)
  unfolding after_item_price
  item-next i h to = go (ℕ_discrete i n) (ℕ_discrete m 0)
    where
      go : Dec (i ≡ n) → Dec (m ≡ 0) → PricesHeld t (after_item_price t n m i) o p buffer × Priced (after_item_price t n m i)
      go (no q) d = rw (ne_eqb i n q) ((omega arith, (omega (arith, te, q), to (suc i) (omega arith))), tt)
      go (yes q) (yes z) = rw (eq-eqb i n q, eq-eqb m 0 z) (to (1 + p.types.0 + p.residuals) (omega (arith, te, me)), tt)
      go (yes q) (no z) = rw (eq-eqb i n q, ne_eqb m 0 z) ((omega arith, (omega (arith, me, z), to (p.types.0 + 1 + (t - t)) (omega (arith, te)))), tt)

  plate-next : (j : ℕ) → t ≤ j → j < t + p.residuals → ((k : ℕ) → p.types.0 + 1 + (j - t) + 1 ≡ k → PricesTo k o p buffer) → PricesHeld t (after_plate_price t m j) o p buffer × Priced (after_plate_price t m j)
  unfolding after_plate_price
  plate-next j l h to = go (ℕ_discrete (suc j) (t + m))
    where
      go : Dec (suc j ≡ t + m) → PricesHeld t (after_plate_price t m j) o p buffer × Priced (after_plate_price t m j)
      go (no q) = rw (ne_eqb (suc j) (t + m) q) ((omega (arith, l), (omega (arith, me, h, q), to (p.types.0 + 1 + (suc j - t)) (omega (arith, l)))), tt)
      go (yes q) = rw (eq-eqb (suc j) (t + m) q) (to (1 + p.types.0 + p.residuals) (omega (arith, me, l, q)), tt)

-- line 5 of type i
module _ (s : Saw) (lines r : ℕ) (i : ItemType) (ns job plates cuts counts prices : List ℕ) (h : SawHeld) (e : s.place ≡ item_prices i.0) (judged : (line : ℕ) → line_verdict r line ≡ numbers_row line (item_price_line i.0 ∷ []) ns) (kept : HeldAs s lines h (lent job plates cuts counts prices)) where
  item-row : line_verdict r (suc lines) ≡ numbers_row (suc lines) (saw_admits s) ns
  item-row = rw (admits-item-price s i.0 e) (judged (suc lines))

  pub item-price-refused : (x : Refusal) → r ≡ number_of x → TakenAs s lines ns h (Err x) (lent job plates cuts counts prices)
  item-price-refused x n = taken_refused s lines r ns h (lent job plates cuts counts prices) item-row x n kept

  item-price-next :
      (p : CodePlace)
      → r ≡ 0
      → i.0 < length prices
      → place_of p ≡ after_item_price (board_sizes s.job) h.prices.types.0 h.prices.residuals i.0
      → PricesHeld (board_sizes s.job) (item_prices i.0) s.prices h.prices prices
      → ListedJob h s.job s.plan (lent job plates cuts counts prices)
      → TakenAs s lines ns h (Ok (record { place = p; held = h })) (lent job plates cuts counts (set prices i.0 (get_or ns 2 0)))
  item-price-next p z room q (from, (few, to)) listed =
      let after = after-item-price s ns i.0 to.lines e to.some_is in
      let v : ℕ = get_or ns 2 0 in
      let next = item-next (some (with_price to.lines v)) h.prices (set prices i.0 v) (board_sizes s.job) to.lines.types to.lines.residuals to.types to.residuals i.0 few (λ k d. prices-more to k v room d) in
      taken-admitted s lines r ns h (lent job plates cuts counts (set prices i.0 v)) item-row p h z (q ∙ rw (after, to.types, to.residuals))
      (rw after
      (priced-held (after_item_price (board_sizes s.job) to.lines.types to.lines.residuals i.0) s.job s.plan (with_price to.lines v) (suc lines) h (lent job plates cuts counts (set prices i.0 v)) next.1 kept.words
      (record { whole = listed.whole; model = listed.model; plan = listed.plan }) next.0))

  -- of a job of t sizes
  pub item-price-taken :
      (t : ℕ)
      → board_sizes s.job ≡ t
      → (p : CodePlace)
      → r ≡ 0
      → i.0 < length prices
      → place_of p ≡ after_item_price t h.prices.types.0 h.prices.residuals i.0
      → TakenAs s lines ns h (Ok (record { place = p; held = h })) (lent job plates cuts counts (set prices i.0 (get_or ns 2 0)))
  item-price-taken t same p z room q = item-price-next p z room (rw same q) (rw e at kept.of-prices) (rw e at kept.of-job)

-- line 6 of plate type j
module _ (s : Saw) (lines r : ℕ) (j : PlateType) (ns job plates cuts counts prices : List ℕ) (h : SawHeld) (e : s.place ≡ plate_prices j.0) (judged : (line : ℕ) → line_verdict r line ≡ numbers_row line (plate_price_line j.0 ∷ []) ns) (kept : HeldAs s lines h (lent job plates cuts counts prices)) where
  -- where its price stands among the price words, of a job of t sizes
  abbrev at : ℕ → ℕ
  at t = h.prices.types.0 + 1 + (j.0 - t)

  plate-row : line_verdict r (suc lines) ≡ numbers_row (suc lines) (saw_admits s) ns
  plate-row = rw (admits-plate-price s j.0 e) (judged (suc lines))

  pub plate-price-refused : (x : Refusal) → r ≡ number_of x → TakenAs s lines ns h (Err x) (lent job plates cuts counts prices)
  plate-price-refused x n = taken_refused s lines r ns h (lent job plates cuts counts prices) plate-row x n kept

  plate-price-next :
      (p : CodePlace)
      → r ≡ 0
      → at (board_sizes s.job) < length prices
      → place_of p ≡ after_plate_price (board_sizes s.job) h.prices.residuals j.0
      → PricesHeld (board_sizes s.job) (plate_prices j.0) s.prices h.prices prices
      → ListedJob h s.job s.plan (lent job plates cuts counts prices)
      → TakenAs s lines ns h (Ok (record { place = p; held = h })) (lent job plates cuts counts (set prices (at (board_sizes s.job)) (get_or ns 2 0)))
  plate-price-next p z room q (from, (few, to)) listed =
      let after = after-plate-price s ns j.0 to.lines e to.some_is in
      let v : ℕ = get_or ns 2 0 in
      let next = plate-next (some (with_price to.lines v)) h.prices (set prices (at (board_sizes s.job)) v) (board_sizes s.job) to.lines.types to.lines.residuals to.types to.residuals j.0 from few (λ k d. prices-more to k v room d) in
      taken-admitted s lines r ns h (lent job plates cuts counts (set prices (at (board_sizes s.job)) v)) plate-row p h z (q ∙ rw (after, to.residuals))
      (rw after
      (priced-held (after_plate_price (board_sizes s.job) to.lines.residuals j.0) s.job s.plan (with_price to.lines v) (suc lines) h (lent job plates cuts counts (set prices (at (board_sizes s.job)) v)) next.1 kept.words
      (record { whole = listed.whole; model = listed.model; plan = listed.plan }) next.0))

  pub plate-price-taken :
      (t : ℕ)
      → board_sizes s.job ≡ t
      → (p : CodePlace)
      → r ≡ 0
      → at t < length prices
      → place_of p ≡ after_plate_price t h.prices.residuals j.0
      → TakenAs s lines ns h (Ok (record { place = p; held = h })) (lent job plates cuts counts (set prices (at t) (get_or ns 2 0)))
  plate-price-taken t same p z room q =
      rw (← same) (plate-price-next p z (rw same room) (rw same q) (rw e at kept.of-prices) (rw e at kept.of-job))
