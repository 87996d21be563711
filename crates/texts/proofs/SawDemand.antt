-- Demand 3 of an accepted saw text: its plan unfolds into layouts that keep the rules, and so its lines 7 and 8 are within their limits.
use Prim.Native.Nat.{ℕ, suc, ◌-◌, ◌*◌, ◌≤◌, ◌<◌}
use native.Mathlib.Omega.{arith}
use native.Mathlib.Nat.{mul-le-mul_right}
use mathlib.Core.Path.{◌≡◌, sym, ap, ◌∙◌}
use mathlib.Core.Logic.{◌⊎◌, inl, inr}
use mathlib.Core.List.{List, [], ◌∷◌, append-nil}
use lib.ListN.{length, get_or-eq_default}
use Rattle.job.specs.Verdict.{pass}
use Rattle.job.specs.Buffers.{filled}
use Rattle.job.specs.Lists.{sum_of}
use Rattle.job.specs.Job.{Job, no_size, size_at, job_of, max_cost, max_pieces}
use Rattle.job.specs.Admitted.{Admitted}
use Rattle.job.proofs.Tests.{at-most-or-above}
use Rattle.job.proofs.Verdicts.{then-both}
use Rattle.job.proofs.Sums.{tally-length}
use Rattle.listing.specs.Listing.{Cut, Listing, listing_of}
use Rattle.plan.specs.Plan.{boards, weighed, cost_at, plan_cost, total, counts_row, plan_row}
use Rattle.plan.proofs.PlanExact.{plan-exact, counts-exact}
use Rattle.layouts.specs.Layout.{Sheet}
use Rattle.layouts.specs.Placement.{placement_words}
use Rattle.layouts.specs.Offcuts.{events_of}
use Rattle.layouts.specs.Lines.{layout_words, set_of}
use Rattle.layouts.specs.LayoutsRow.{layouts_row}
use Rattle.layouts.specs.Fold.{set_cuts, folded}
use Rattle.layouts.specs.Demand3.{Accepted, Named, Unfolds, Demand3Of}
use Rattle.texts.specs.SawText.{Saw, plan_counts, saw_rows}
use Rattle.texts.specs.Held.{SawWhole}
use Rattle.texts.specs.Printed.{saw_run}
use Rattle.texts.proofs.Modelled.{admitted, demands}
use Rattle.texts.proofs.CallRows.{accepted-rows, counts-length}

-- a buffer that its words fill
filled-all : (size : ℕ) (ws : List ℕ) → length ws ≡ size → filled size ws ≡ ws
unfolding filled
filled-all size ws e = let z : size - length ws ≡ 0 = omega arith in rw z (append-nil ws)

-- a value of at most m for each cut comes to at most m for each count
weighed-few : (f : Cut → ℕ) (m : ℕ) → ((c : Cut) → f c ≤ m) → (cs : List Cut) (ns : List ℕ) → weighed f cs ns ≤ m * total ns
unfolding weighed total sum_of
weighed-few f m h [] ns = omega arith
weighed-few f m h (c ∷ cs) [] = omega arith
weighed-few f m h (c ∷ cs) (n ∷ ns) = let r = weighed-few f m h cs ns in omega (arith, mul-le-mul_right n (h c))

-- no plate type of an admitted job costs more than 999
cost-few : (job : Job) → Admitted job → (j : ℕ) → cost_at job j ≤ max_cost
unfolding cost_at size_at
cost-few job a j = go (at-most-or-above (suc j) (length job.sizes))
  where
    go : (suc j ≤ length job.sizes) ⊎ (length job.sizes < suc j) → (size_at job j).cost ≤ max_cost
    go (inl h) = (a.each-size j (omega arith)).cost-limits.1
    go (inr h) = let e : size_at job j ≡ no_size = get_or-eq_default job.sizes no_size {n = j} (omega arith) in rw e (omega arith)

module _ (s : Saw) (held : SawWhole s) (rows : saw_rows s ≡ pass) where
  abbrev job : Job
  job = job_of s.job

  abbrev l : Listing
  l = listing_of job

  abbrev ns : List ℕ
  ns = plan_counts l s.plan

  -- its plan is accepted
  plan : Accepted job l ns
  plan =
      record {
        counted = omega (arith, counts-length l s.plan);
        passed =
            then-both (counts_row l ns) (plan_row job l ns) ((counts-exact l ns).1 (λ c h. get_or-eq_default ns 0 {n = c} (omega (arith, counts-length l s.plan))))
            (accepted-rows s rows).plan;
      }

  -- demand 3 of its job
  demand : Demand3Of s.job
  demand = demands s.job held.job (accepted-rows s rows).admitted (accepted-rows s rows).listed

  -- its unfolding
  saw-unfolds : Unfolds job l ns (saw_run s) (events_of job l ns)
  saw-unfolds = demand.unfolds ns plan

  -- its boards are those that the plan opens
  pub saw-boards : (saw_run s).last.turn.board.number ≡ boards l ns
  saw-boards = saw-unfolds.boards-given ∙ saw-unfolds.unfolds-to.as_many

  few : total ns ≤ max_pieces
  few = ((plan-exact job l ns).0 (accepted-rows s rows).plan).few

  -- at most 4,000 pieces
  pub saw-pieces : length (saw_run s).placements ≤ max_pieces
  saw-pieces = omega (arith, few, saw-unfolds.pieces-given, saw-unfolds.unfolds-to.all-pieces)

  -- its set is one that demand 3 names
  named : Named job l saw-unfolds.set
  named = saw-unfolds.unfolds-to.named

  -- the words of its lines 7 pass the line row
  pub saw-placed : layout_words job (placement_words (saw_run s).placements) ≡ pass
  saw-placed = rw saw-unfolds.lines (demand.folds saw-unfolds.set named).words

  -- its placements pass the layouts row
  pub saw-laid : layouts_row 1 job (saw_run s).placements ≡ pass
  saw-laid = rw saw-unfolds.lines (demand.folds saw-unfolds.set named).row

  -- folding them gives back its counts
  pub saw-back : folded job l (set_of (placement_words (saw_run s).placements)) ≡ ns
  unfolding folded
  saw-back =
      let set = saw-unfolds.set in
      let n = tally-length (length l.cuts) 1 (set_cuts job l set) in
      ap (λ (bs : List Sheet). folded job l bs) saw-unfolds.read
      ∙ sym (filled-all (length ns) (folded job l set) (n ∙ sym (counts-length l s.plan)))
      ∙ saw-unfolds.unfolds-to.back

  -- its boards cost at most 999 each, and it opens at most 4,000
  pub saw-cost : plan_cost job l ns ≤ max_cost * max_pieces
  unfolding plan_cost
  saw-cost =
      let w = weighed-few (λ c. cost_at job c.plate) max_cost (λ c. cost-few job (admitted s.job held.job (accepted-rows s rows).admitted) c.plate) l.cuts ns in
      omega (arith, few)
