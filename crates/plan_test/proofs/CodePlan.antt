-- The plan row that the code decides by its sums is that of the definitions.
use mathlib.Core.Path.{◌≡◌, sym, ap, ◌∙◌}
use Prim.Native.Nat.{ℕ, ◌+◌, suc, ◌*◌, ◌-◌, ◌≤◌, ◌<◌}
use mathlib.Core.Bool.{Bool, not}
use mathlib.Core.List.{List, [], ◌∷◌}
use native.Mathlib.Omega.{arith}
use borrow.Author.Tests.{lt-ltb, le-ltb}
use lib.Dec.{ltb, eqb}
use lib.ListN.{length, get_or, take, drop, replicate, length-drop, length-replicate, get_or-replicate}
use Rattle.job.specs.Sizes.{max_types, max_pieces, max_plates}
use Rattle.job.specs.Verdict.{pass, ◌then◌, lowest}
use Rattle.job.specs.Buffers.{Answer, given, refused, answer}
use Rattle.job.specs.Job.{Job, size_at}
use Rattle.listing.specs.Listing.{Cut, Listing}
use Rattle.plan.specs.Plan.{count_of, of_item, on_plate, leaves_plate, total, short, overdrawn, counts_row, balance_row, plan_row}
use Rattle.plan.specs.PlanCall.{boards_and_cost}
use Rattle.std.specs.Prelude.{Result, Ok, Err}
use Rattle.job.specs.declared.refused.Refused.{Refused}
use Rattle.job.specs.Refused.{number_of, row_verdict}
use Rattle.plan_test.specs.Sums.{SumsOf, Sums, SumRoom, sum_below}
use Rattle.plan_test.proofs.CodePass.{sum_room}
use Rattle.plan_test.proofs.CodeSums.{count_of-le}
use lib.Dec.{lit<, lit≤}
use Rattle.plan_test.proofs.CodeOpened.{boards-summed, cost-summed}
use Rattle.plan_test.proofs.CodeRow.{row-refused, row-passed}
use Rattle.plan.proofs.PlanExact.{counts-exact, total-take}
use Rattle.job.proofs.CodeLowest.{lowest-agree}

-- before the first cut every sum is 0
sums-zero : (test : ℕ → Cut → Bool) (ns : List ℕ) (n j : ℕ) → j < length {A = ℕ} (replicate n 0) → get_or (replicate n 0) j 0 ≡ count_of (test j) [] ns
unfolding count_of
sums-zero test ns n j h = get_or-replicate n j 0 0 (rw length-replicate at h)

pub sums_none : (ns : List ℕ) (a b d : ℕ) → Sums [] ns (replicate a 0) (replicate b 0) (replicate d 0)
sums_none ns a b d = record { by-item = sums-zero of_item ns a; by-plate = sums-zero on_plate ns b; by-residual = sums-zero leaves_plate ns d }

pub room-zeros : (a b d : ℕ) → max_types < a → max_plates ≤ b → max_plates ≤ d → SumRoom (replicate a 0) (replicate b 0) (replicate d 0)
room-zeros a b d p q r = record { for-items = rw length-replicate p; for-plates = rw length-replicate q; for-residuals = rw length-replicate r }

-- words that are as many as a word for each item type and for each plate type
pub zeros-room :
    {items on left : List ℕ}
    → length items ≡ length (replicate {A = ℕ} (max_types + 1) 0)
    → length on ≡ length (replicate {A = ℕ} max_plates 0)
    → length left ≡ length (replicate {A = ℕ} max_plates 0)
    → SumRoom items on left
zeros-room a b d = sum_room (room-zeros (max_types + 1) max_plates max_plates (lit< tt) (lit≤ tt) (lit≤ tt)) a b d

-- counts that come to at most 4,000 do so on each plate type
pub sums-small : (cs : List Cut) (ns on : List ℕ) (k : ℕ) → SumsOf on_plate cs ns on → length cs ≤ k → total (take k ns) ≤ max_pieces → (j : ℕ) → j < length on → get_or on j 0 ≤ max_pieces
sums-small cs ns on k s few t j h = omega (arith, s j h, count_of-le (on_plate j) cs ns k few)

-- sums of a listing's cuts, with a word for each type
module _ (job : Job) (l : Listing) (ns items on left : List ℕ) (s : Sums l.cuts ns items on left) (room : SumRoom items on left) (few : length job.items ≤ max_types) (few-plates : length l.plates ≤ max_plates) where
  -- 11 by the sums is 11
  short_row : lowest 11 (λ i item. ltb (get_or items i 0) item.demand) 1 job.items ≡ lowest 11 (short l ns) 1 job.items
  unfolding short
  short_row = lowest-agree 11 _ (short l ns) 1 job.items (λ i item p q. rw (s.by-item i (omega arith)))

  -- 12 by the sums is 12
  overdrawn-row : lowest 12 (λ j _. ltb (get_or left j 0) (get_or on j 0)) l.sizes (drop l.sizes l.plates) ≡ lowest 12 (overdrawn l ns) l.sizes (drop l.sizes l.plates)
  unfolding overdrawn
  overdrawn-row =
      lowest-agree 12 _ (overdrawn l ns) l.sizes (drop l.sizes l.plates) (λ j p a b.
      let e : length (drop l.sizes l.plates) ≡ length l.plates - l.sizes = length-drop l.sizes l.plates in
      rw (s.by-residual j (omega arith), s.by-plate j (omega arith)))

  module _ {r : Result (Unit {0}) Refused} (says : row_verdict r ≡ lowest 11 (λ i item. ltb (get_or items i 0) item.demand) 1 job.items) where
    pub short-refused : {x : Refused} → r ≡ Err x → refused (number_of x.refusal) x.place ≡ answer (balance_row job l ns) (boards_and_cost job l ns)
    short-refused e = row-refused (says ∙ short_row) (lowest 12 (overdrawn l ns) l.sizes (drop l.sizes l.plates)) (boards_and_cost job l ns) e

    module _ (passes : r ≡ Ok tt) {q : Result (Unit {0}) Refused} (says' : row_verdict q ≡ lowest 12 (λ j _. ltb (get_or left j 0) (get_or on j 0)) l.sizes (drop l.sizes l.plates)) where
      pub overdrawn-refused : {x : Refused} → q ≡ Err x → refused (number_of x.refusal) x.place ≡ answer (balance_row job l ns) (boards_and_cost job l ns)
      overdrawn-refused e =
          row-passed (says ∙ short_row) (lowest 12 (overdrawn l ns) l.sizes (drop l.sizes l.plates)) (boards_and_cost job l ns) passes (rw (← overdrawn-row, ← says', e))

      pub balance-accepted : q ≡ Ok tt → (t boards cost : ℕ) → t ≤ length on → l.sizes ≡ t → length job.sizes ≡ t → boards ≡ sum_below (λ j. get_or on j 0) t → cost ≡ sum_below (λ j. (size_at job j).cost * get_or on j 0) t → given (boards ∷ cost ∷ []) ≡ answer (balance_row job l ns) (boards_and_cost job l ns)
      balance-accepted e t boards cost h z z' b c =
          row-passed (says ∙ short_row) (lowest 12 (overdrawn l ns) l.sizes (drop l.sizes l.plates)) (boards_and_cost job l ns) passes (rw (← overdrawn-row, ← says', e, b ∙ boards-summed job l ns on s.by-plate t h z, c ∙ cost-summed job l ns on s.by-plate t h z'))

-- the plan row of counts for k cuts: 8 of those past them, 10 by the total of the first k
module _ (job : Job) (l : Listing) (k : ℕ) (ns : List ℕ) (e : length l.cuts ≡ k) (r : Result (Unit {0}) Refused) (says : row_verdict r ≡ lowest 8 (λ _ n. not (eqb n 0)) (suc k) (drop k ns)) where
  counts-row : row_verdict r ≡ counts_row l ns
  unfolding counts_row
  counts-row = rw e says

  pub past-refused : {x : Refused} → r ≡ Err x → refused (number_of x.refusal) x.place ≡ answer (counts_row l ns then plan_row job l ns) (boards_and_cost job l ns)
  past-refused p = row-refused counts-row (plan_row job l ns) (boards_and_cost job l ns) p

  module _ (passes : r ≡ Ok tt) where
    all_first : total ns ≡ total (take k ns)
    all_first =
        let none : counts_row l ns ≡ pass = sym counts-row ∙ ap row_verdict passes in
        sym (rw (← e) (total-take (length l.cuts) ns ((counts-exact l ns).0 none)))

    pub total-refused : max_pieces < total (take k ns) → refused 10 0 ≡ answer (counts_row l ns then plan_row job l ns) (boards_and_cost job l ns)
    unfolding plan_row
    total-refused t = row-passed counts-row (plan_row job l ns) (boards_and_cost job l ns) passes (rw (all_first, lt-ltb max_pieces (total (take k ns)) t))

    pub total-passed : total (take k ns) ≤ max_pieces → {x : Answer} → x ≡ answer (balance_row job l ns) (boards_and_cost job l ns) → x ≡ answer (counts_row l ns then plan_row job l ns) (boards_and_cost job l ns)
    unfolding plan_row
    total-passed t h = row-passed counts-row (plan_row job l ns) (boards_and_cost job l ns) passes (rw (all_first, le-ltb max_pieces (total (take k ns)) t) h)
