-- Document 01, "Plan": what the plan test says in plain statements, both ways, and that words past the last cut play no part in it.
use Prim.Native.Nat.{ℕ, zero, suc, ◌+◌, ◌-◌, ◌≤◌, ◌<◌}
use native.Mathlib.Omega.{arith}
use mathlib.Core.Path.{◌≡◌, refl, sym, ap}
use mathlib.Core.Logic.{◌↔◌, ◌⊎◌, inl, inr}
use mathlib.Core.Bool.{Bool, false, not}
use mathlib.Core.List.{List, [], ◌∷◌}
use lib.Dec.{eqb}
use lib.ListN.{length, get_or, take, drop, length-drop, get_or-eq_default}
use lib.Seq.{get_or-drop}
use borrow.Author.Tests.{ltb-false, le-ltb, eqb-true, eq-eqb, not-false}
use Rattle.job.specs.Lists.{sum_of}
use Rattle.job.specs.Verdict.{pass}
use Rattle.job.specs.Job.{Job, item_at, no_item, max_pieces}
use Rattle.job.proofs.Tests.{at-most-or-above}
use Rattle.job.proofs.Decides.{passes_then, passes-limit, passes-places}
use Rattle.listing.specs.Plate.{waste}
use Rattle.listing.specs.Listing.{Cut, Listing}
use Rattle.plan.specs.Plan.{count_of, of_item, on_plate, leaves_plate, total, short, overdrawn, counts_row, plan_row}
use Rattle.plan.specs.Feasible.{Feasible, NonePast}

one_more : (i : ℕ) → 1 + i ≡ suc i
one_more i = omega arith

module _ (job : Job) (l : Listing) (ns : List ℕ) where
  met-to : ((i : ℕ) → i < length job.items → short l ns (1 + i) (get_or job.items i no_item) ≡ false) → (i : ℕ) → 1 ≤ i → i ≤ length job.items → (item_at job i).demand ≤ count_of (of_item i) l.cuts ns
  unfolding short item_at
  met-to h zero p q = absurd (omega arith)
  met-to h (suc i) p q = ltb-false _ _ (rw (one_more i) at (h i (omega arith)))

  met-from : ((i : ℕ) → 1 ≤ i → i ≤ length job.items → (item_at job i).demand ≤ count_of (of_item i) l.cuts ns) → (i : ℕ) → i < length job.items → short l ns (1 + i) (get_or job.items i no_item) ≡ false
  unfolding short item_at
  met-from h i p = rw (one_more i) (le-ltb _ _ (h (suc i) (omega arith) (omega arith)))

  covered-to : ((j : ℕ) → j < length (drop l.sizes l.plates) → overdrawn l ns (l.sizes + j) (get_or (drop l.sizes l.plates) j waste) ≡ false) → (j : ℕ) → l.sizes ≤ j → j < length l.plates → count_of (on_plate j) l.cuts ns ≤ count_of (leaves_plate j) l.cuts ns
  unfolding overdrawn
  covered-to h j p q =
      let e : l.sizes + (j - l.sizes) ≡ j = omega arith in
      ltb-false _ _ (rw e at (h (j - l.sizes) (omega (arith, length-drop l.sizes l.plates))))

  covered-from : ((j : ℕ) → l.sizes ≤ j → j < length l.plates → count_of (on_plate j) l.cuts ns ≤ count_of (leaves_plate j) l.cuts ns) → (j : ℕ) → j < length (drop l.sizes l.plates) → overdrawn l ns (l.sizes + j) (get_or (drop l.sizes l.plates) j waste) ≡ false
  unfolding overdrawn
  covered-from h j p =
      le-ltb _ _ (h (l.sizes + j) (omega arith) (omega (arith, length-drop l.sizes l.plates)))

  -- the plan row passes exactly where the plan is accepted
  pub plan-exact : (plan_row job l ns ≡ pass) ↔ Feasible job l ns
  unfolding plan_row
  plan-exact =
      let types = passes-places 11 (short l ns) no_item 1 job.items in
      let residuals = passes-places 12 (overdrawn l ns) waste l.sizes (drop l.sizes l.plates) in
      let rows = passes_then (passes-limit max_pieces (total ns) 10 0) (passes_then types residuals) in (
        λ h.
            let a = rows.0 h in
            record { few = a.0; met = met-to a.1.0; covered = covered-to a.1.1 },
        λ a. rows.1 (a.few, (met-from a.met, covered-from a.covered)),
      )

-- the counts row passes exactly where every word past the last cut is 0
pub counts-exact : (l : Listing) (ns : List ℕ) → (counts_row l ns ≡ pass) ↔ NonePast l ns
unfolding counts_row
counts-exact l ns = (to, from)
  where
    n : ℕ
    n = length l.cuts

    to : counts_row l ns ≡ pass → NonePast l ns
    to h c p = go (at-most-or-above (length ns) c)
      where
        go : (length ns ≤ c) ⊎ (c < length ns) → get_or ns c 0 ≡ 0
        go (inl q) = get_or-eq_default ns 0 q
        go (inr q) =
            let e : n + (c - n) ≡ c = omega arith in
            let z = (passes-places 8 (λ _ m. not (eqb m 0)) 0 (suc n) (drop n ns)).0 h (c - n) (omega (arith, length-drop n ns)) in
            rw e at (rw get_or-drop at (eqb-true (get_or (drop n ns) (c - n) 0) 0 (not-false (eqb (get_or (drop n ns) (c - n) 0) 0) z)))

    from : NonePast l ns → counts_row l ns ≡ pass
    from h =
        (passes-places 8 (λ _ m. not (eqb m 0)) 0 (suc n) (drop n ns)).1
        (λ i p. ap not (eq-eqb (get_or (drop n ns) i 0) 0 (rw get_or-drop (h (n + i) (omega arith)))))

-- counts of cuts are the same without the words past the last cut
pub count_of-take : (test : Cut → Bool) (cs : List Cut) (ns : List ℕ) → count_of test cs (take (length cs) ns) ≡ count_of test cs ns
unfolding count_of
count_of-take test [] ns = refl
count_of-take test (c ∷ cs) [] = refl
count_of-take test (c ∷ cs) (n ∷ ns) = omega (arith, count_of-take test cs ns)

total-none : (ns : List ℕ) → ((c : ℕ) → get_or ns c 0 ≡ 0) → total ns ≡ 0
unfolding total sum_of
total-none [] h = refl
total-none (n ∷ ns) h = omega (arith, h 0, total-none ns (λ c. h (suc c)))

-- the total is the same without words that are 0
pub total-take : (n : ℕ) (ns : List ℕ) → ((c : ℕ) → n ≤ c → get_or ns c 0 ≡ 0) → total (take n ns) ≡ total ns
unfolding total sum_of
total-take zero ns h = sym (total-none ns (λ c. h c (omega arith)))
total-take (suc n) [] h = refl
total-take (suc n) (m ∷ ns) h = omega (arith, total-take n ns (λ c p. h (suc c) (omega arith)))

-- a plan is accepted whether or not words that are 0 stand past its last cut
module _ (job : Job) (l : Listing) (ns : List ℕ) (none : NonePast l ns) where
  pub accepted-take : Feasible job l ns ↔ Feasible job l (take (length l.cuts) ns)
  accepted-take = (to, from)
    where
      cs : List Cut
      cs = l.cuts

      same : (test : Cut → Bool) → count_of test cs (take (length cs) ns) ≡ count_of test cs ns
      same test = count_of-take test cs ns

      to : Feasible job l ns → Feasible job l (take (length cs) ns)
      to a =
          record {
            few = omega (arith, a.few, total-take (length cs) ns none);
            met = λ i p q. omega (arith, a.met i p q, same (of_item i));
            covered = λ j p q. omega (arith, a.covered j p q, same (on_plate j), same (leaves_plate j));
          }

      from : Feasible job l (take (length cs) ns) → Feasible job l ns
      from a =
          record {
            few = omega (arith, a.few, total-take (length cs) ns none);
            met = λ i p q. omega (arith, a.met i p q, same (of_item i));
            covered = λ j p q. omega (arith, a.covered j p q, same (on_plate j), same (leaves_plate j));
          }
