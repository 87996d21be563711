-- A plan with words that are 0 past its last cut: it is accepted, opens the boards, costs what they cost and cuts the types as without them.
use Prim.Native.Nat.{ℕ, ◌+◌, ◌*◌, ◌-◌, ◌≤◌}
use native.Mathlib.Omega.{arith}
use mathlib.Core.Path.{◌≡◌, refl, sym, ap, ◌∙◌}
use mathlib.Core.Bool.{Bool}
use mathlib.Core.List.{List, [], ◌∷◌}
use lib.ListN.{length, take, replicate, get_or-eq_default}
use lib.Seq.{take_at}
use Rattle.job.specs.Buffers.{filled}
use Rattle.job.proofs.Buffers.{filled-length, filled-read}
use Rattle.job.proofs.Verdicts.{then-second, then-both}
use Rattle.job.specs.Job.{Job}
use Rattle.listing.specs.Listing.{Cut, Listing}
use Rattle.plan.specs.Plan.{count_of, boards_of, boards, weighed, plan_cost, counts_row, plan_row}
use Rattle.plan.specs.Feasible.{NonePast}
use Rattle.plan.proofs.PlanExact.{plan-exact, counts-exact, count_of-take, accepted-take}
use Rattle.layouts.specs.Demand3.{Accepted}

-- a sum weighed by counts is the same without the words past the last cut
weighed-take : (f : Cut → ℕ) (cs : List Cut) (ns : List ℕ) → weighed f cs (take (length cs) ns) ≡ weighed f cs ns
unfolding weighed
weighed-take f [] ns = refl
weighed-take f (c ∷ cs) [] = refl
weighed-take f (c ∷ cs) (n ∷ ns) = ap (λ (m : ℕ). f c * n + m) (weighed-take f cs ns)

module _ (job : Job) (l : Listing) (ns : List ℕ) (n : ℕ) (e : length ns ≡ length l.cuts) (h : length ns ≤ n) where
  taken : take (length l.cuts) (filled n ns) ≡ ns
  unfolding filled
  taken = take_at ns (replicate (n - length ns) 0) (length l.cuts) e

  pub filled-count : (test : Cut → Bool) → count_of test l.cuts (filled n ns) ≡ count_of test l.cuts ns
  filled-count test = sym (count_of-take test l.cuts (filled n ns)) ∙ ap (count_of test l.cuts) taken

  none : NonePast l (filled n ns)
  none c p = filled-read n ns c ∙ get_or-eq_default ns 0 {n = c} (omega arith)

  pub filled-boards : boards l (filled n ns) ≡ boards l ns
  unfolding boards
  filled-boards = filled-count _

  -- request Six: the boards of each size, and what they cost
  pub filled-each : (j : ℕ) → boards_of l j (filled n ns) ≡ boards_of l j ns
  unfolding boards_of
  filled-each j = filled-count _

  pub filled-cost : plan_cost job l (filled n ns) ≡ plan_cost job l ns
  unfolding plan_cost
  filled-cost = sym (weighed-take _ l.cuts (filled n ns)) ∙ ap (weighed _ l.cuts) taken

  pub filled-accepted : Accepted job l ns → Accepted job l (filled n ns)
  filled-accepted a =
      let f = (plan-exact job l ns).0 (then-second (counts_row l ns) (plan_row job l ns) a.passed) in
      record {
        counted = omega (arith, filled-length n ns h);
        passed = then-both (counts_row l (filled n ns)) (plan_row job l (filled n ns)) ((counts-exact l (filled n ns)).1 none) ((plan-exact job l (filled n ns)).1 ((accepted-take job l (filled n ns) none).1 (rw taken f)));
      }
