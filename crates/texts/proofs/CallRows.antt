-- The rows of a text and those of the calls: the words that a text holds pass the calls' line rows, and what the text accepts the calls accept.
use Prim.Native.Nat.{ℕ, zero, suc, ◌+◌, ◌-◌, ◌≤◌}
use native.Mathlib.Omega.{arith}
use mathlib.Core.Path.{◌≡◌, refl, ap, ◌∙◌}
use mathlib.Core.Bool.{Bool, true, false, not, cond, ◌||◌}
use mathlib.Core.List.{List, [], ◌∷◌, ◌++◌}
use mathlib.Core.Option.{some}
use lib.Dec.{ltb, eqb}
use lib.ListN.{length, drop, replicate, length-append, length-replicate}
use lib.Seq.{drop_at}
use borrow.Author.Tests.{eq-eqb, eqb-true}
use Rattle.job.specs.Lists.{sum_of}
use Rattle.job.specs.Verdict.{pass, ◌then◌, refuse_if, lowest}
use Rattle.job.specs.Buffers.{filled, plates_size, cuts_size, counts_size}
use Rattle.job.specs.Job.{Job, max_pieces, job_of, job_words, admission}
use Rattle.job.proofs.Buffers.{sized-full}
use Rattle.job.proofs.Tests.{not-both}
use Rattle.job.proofs.Verdicts.{refuse_if-pass}
use Rattle.job.proofs.CodeEnds.{then-pass}
use Rattle.listing.specs.Listing.{Cut, Listing, model_row, listing_of, residual_types}
use Rattle.plan.specs.Plan.{count_of, of_item, on_plate, leaves_plate, total, short, overdrawn, counts_row, plan_row}
use Rattle.plan.specs.PlanCall.{plan_verdict}
use Rattle.plan.specs.Prices.{prices_of, price_words, model_sized, prices_sized, prices_row}
use Rattle.plan.specs.PriceCall.{price_verdict}
use Rattle.layouts.specs.Lines.{rows_of, layout_words}
use Rattle.layouts.specs.LayoutsRow.{layouts_row}
use Rattle.layouts.specs.FoldCall.{fold_verdict}
use Rattle.texts.specs.SawText.{Counted, PriceLines, Saw, counts_from, plan_counts, cuts_named, plates_shown, cuts_rising, price_lines_row, saw_rows}
use Rattle.texts.specs.JobLines.{body_line}
use Rattle.texts.specs.Held.{PricesHeld, SawWhole}

-- ---- the calls, of words that pass their own rows and buffers of their full sizes

module _ (ws plates cuts : List ℕ) (job : job_words ws ≡ pass) (p : plates_size ≤ length plates) (c : cuts_size ≤ length cuts) where
  -- the plan test
  pub plan-call : (counts : List ℕ) → counts_size ≤ length counts
      → plan_verdict ws counts plates cuts
      ≡ (admission (job_of ws)
      then model_row (job_of ws)
      then counts_row (listing_of (job_of ws)) counts
      then plan_row (job_of ws) (listing_of (job_of ws)) counts)
  unfolding plan_verdict
  plan-call counts n = rw (job, sized-full 1 plates_size plates p, sized-full 2 cuts_size cuts c, sized-full 3 counts_size counts n)

  -- the price test
  pub price-call : (prices : List ℕ) → price_words prices ≡ pass
      → price_verdict ws prices plates cuts
      ≡ (admission (job_of ws)
      then model_row (job_of ws)
      then prices_sized (job_of ws) (listing_of (job_of ws)) prices
      then prices_row (job_of ws) (listing_of (job_of ws)) (prices_of (job_of ws) prices))
  unfolding price_verdict
  price-call prices h = rw (job, h, sized-full 1 plates_size plates p, sized-full 2 cuts_size cuts c)

  -- folding
  pub fold-call : (layouts counts : List ℕ) → layout_words (job_of ws) layouts ≡ pass → counts_size ≤ length counts
      → fold_verdict ws layouts plates cuts counts ≡ (admission (job_of ws) then model_row (job_of ws) then layouts_row 1 (job_of ws) (rows_of layouts))
  unfolding fold_verdict
  fold-call layouts counts h n = rw (job, h, sized-full 1 plates_size plates p, sized-full 2 cuts_size cuts c, sized-full 3 counts_size counts n)

-- ---- counts with zeros past the last cut

from-length : (l : Listing) (rs : List Counted) (k n : ℕ) → length (counts_from l rs k n) ≡ n
unfolding counts_from
from-length l rs k zero = refl
from-length l rs k (suc n) = ap suc (from-length l rs (suc k) n)

-- a count for each cut
pub counts-length : (l : Listing) (rs : List Counted) → length (plan_counts l rs) ≡ length l.cuts
unfolding plan_counts
counts-length l rs = from-length l rs 1 (length l.cuts)

count_zeros : (test : Cut → Bool) (cs : List Cut) (ns zs : List ℕ) → length ns ≡ length cs → count_of test cs (ns ++ zs) ≡ count_of test cs ns
unfolding count_of
count_zeros test [] [] zs h = refl
count_zeros test [] (n ∷ ns) zs h = refl
count_zeros test (c ∷ cs) [] zs h = absurd (omega arith)
count_zeros test (c ∷ cs) (n ∷ ns) zs h = ap (λ (k : ℕ). cond (test c) n 0 + k) (count_zeros test cs ns zs (omega arith))

-- zeros add nothing to the counts
pub total-zeros : (ns : List ℕ) (k : ℕ) → total (ns ++ replicate k 0) ≡ total ns
unfolding total sum_of
total-zeros [] zero = refl
total-zeros [] (suc k) = let e = total-zeros [] k in omega arith
total-zeros (n ∷ ns) k = ap (λ (t : ℕ). n + t) (total-zeros ns k)

zeros-pass : (k m : ℕ) → lowest 8 (λ _ n. not (eqb n 0)) k (replicate m 0) ≡ pass
unfolding lowest
zeros-pass k zero = refl
zeros-pass k (suc m) = zeros-pass (suc k) m

-- the plan row and the counts row of counts with zeros after them
pub plan-filled :
    (size : ℕ) (job : Job) (l : Listing) (ns : List ℕ)
    → length ns ≡ length l.cuts
    → plan_row job l (filled size ns) ≡ plan_row job l ns
unfolding plan_row filled short overdrawn
plan-filled size job l ns h =
    let zs : List ℕ = replicate (size - length ns) 0 in
    let sum : total (ns ++ zs) ≡ total ns = total-zeros ns (size - length ns) in
    let each : (test : Cut → Bool) → count_of test l.cuts (ns ++ zs) ≡ count_of test l.cuts ns = λ test. count_zeros test l.cuts ns zs h in
    λ m.
    refuse_if (ltb max_pieces (sum m)) 10 0
    then lowest 11 (λ i it. ltb (each (of_item i) m) it.demand) 1 job.items
    then lowest 12 (λ j p. ltb (each (leaves_plate j) m) (each (on_plate j) m)) l.sizes (drop l.sizes l.plates)

-- no nonzero word past the last cut
pub counts-filled : (size : ℕ) (l : Listing) (ns : List ℕ) → length ns ≡ length l.cuts → counts_row l (filled size ns) ≡ pass
unfolding counts_row filled
counts-filled size l ns h =
    rw (drop_at ns (replicate (size - length ns) 0) (length l.cuts) h)
    (zeros-pass (suc (length l.cuts)) (size - length ns))

-- ---- prices

-- where the n and the m of line 4 are the model's, so is the number of price words
pub model-sized :
    (job : Job) (l : Listing) (n m : ℕ) (ws : List ℕ)
    → length ws ≡ 1 + n + m
    → model_sized job l n m ≡ pass
    → prices_sized job l ws ≡ pass
unfolding model_sized prices_sized
model-sized job l n m ws e h =
    let p = refuse_if-pass (not (eqb n (length job.items)) || not (eqb m (residual_types l))) 13 0 h in
    let (a, b) = both (eqb n (length job.items)) (eqb m (residual_types l)) p in
    let i : n ≡ length job.items = eqb-true n (length job.items) a in
    let j : m ≡ residual_types l = eqb-true m (residual_types l) b in
    rw (eq-eqb (length ws) (1 + length job.items + residual_types l) (omega arith))
  where
    both : (s t : Bool) → not s || not t ≡ false → (s ≡ true) × (t ≡ true)
    both true true h = (refl, refl)
    both true false h = absurd (not-both refl h)
    both false t h = absurd (not-both refl h)

-- ---- accepted texts

-- the rows of a saw text that is accepted
pub record Accepted (s : Saw) : Type 0 where
  pub admitted : admission (job_of s.job) ≡ pass
  pub listed : model_row (job_of s.job) ≡ pass
  pub named : cuts_named (listing_of (job_of s.job)) (body_line s.job) s.plan ≡ pass
  pub shown : plates_shown (listing_of (job_of s.job)) (body_line s.job) s.plan ≡ pass
  pub rising : cuts_rising (listing_of (job_of s.job)) 0 (body_line s.job) s.plan ≡ pass
  pub plan : plan_row (job_of s.job) (listing_of (job_of s.job)) (plan_counts (listing_of (job_of s.job)) s.plan) ≡ pass
  pub prices : price_lines_row (job_of s.job) (listing_of (job_of s.job)) s.prices ≡ pass

-- each of them passes
pub accepted-rows : (s : Saw) → saw_rows s ≡ pass → Accepted s
unfolding saw_rows
accepted-rows s h =
    let l : Listing = listing_of (job_of s.job) in
    let a = then-pass (admission (job_of s.job)) _ h in
    let b = then-pass (model_row (job_of s.job)) _ a.1 in
    let c = then-pass (cuts_named l (body_line s.job) s.plan) _ b.1 in
    let d = then-pass (plates_shown l (body_line s.job) s.plan) _ c.1 in
    let e = then-pass (cuts_rising l 0 (body_line s.job) s.plan) _ d.1 in
    let f = then-pass (plan_row (job_of s.job) l (plan_counts l s.plan)) _ e.1 in
    record { admitted = a.0; listed = b.0; named = c.0; shown = d.0; rising = e.0; plan = f.0; prices = f.1 }

-- a filled buffer has its full size
pub filled-long : (size : ℕ) (ns : List ℕ) → size ≤ length (filled size ns)
unfolding filled
filled-long size ns = rw (length-append, length-replicate {A = ℕ} (size - length ns) 0) (omega arith)

module _ (s : Saw) (h : SawWhole s) (a : Accepted s) (plates cuts : List ℕ) (p : plates_size ≤ length plates) (c : cuts_size ≤ length cuts) where
  -- the plan test accepts the counts of the text
  pub accepted-plan : plan_verdict s.job (filled counts_size (plan_counts (listing_of (job_of s.job)) s.plan)) plates cuts ≡ pass
  accepted-plan =
      let l : Listing = listing_of (job_of s.job) in
      let ns : List ℕ = plan_counts l s.plan in
      let z = counts-length l s.plan in
      plan-call s.job plates cuts h.job p c (filled counts_size ns) (filled-long counts_size ns)
      ∙ rw (a.admitted, a.listed, counts-filled counts_size l ns z, plan-filled counts_size (job_of s.job) l ns z) a.plan

  -- and the price test accepts its prices
  pub accepted-prices : (ps : PriceLines) → s.prices ≡ some ps → price_verdict s.job ps.words plates cuts ≡ pass
  unfolding price_lines_row
  accepted-prices ps e =
      let l : Listing = listing_of (job_of s.job) in
      let w : PricesHeld s.place (some ps) = rw e at h.prices in
      let q : price_lines_row (job_of s.job) l (some ps) ≡ pass = rw e at a.prices in
      let r = then-pass (model_sized (job_of s.job) l ps.types ps.residuals) (prices_row (job_of s.job) l (prices_of (job_of s.job) ps.words)) q in
      price-call s.job plates cuts h.job p c ps.words w.1.words
      ∙ rw (a.admitted, a.listed, model-sized (job_of s.job) l ps.types ps.residuals ps.words w.1.size r.0) r.1
