-- Counts with zeros past the last cut: the boards that they open, what these cost, and their unfolding.
use Prim.Native.Nat.{ℕ, ◌+◌, ◌*◌, ◌-◌}
use native.Mathlib.Omega.{arith}
use mathlib.Core.Path.{◌≡◌, refl, sym, ap, ◌∙◌}
use mathlib.Core.List.{List, [], ◌∷◌, ◌++◌}
use lib.ListN.{length, replicate}
use lib.Seq.{take-append-le}
use Rattle.job.specs.Buffers.{filled}
use Rattle.job.specs.Job.{Job}
use Rattle.listing.specs.Listing.{Cut, Listing}
use Rattle.plan.specs.Plan.{boards, on_size, count_of, weighed, cost_at, plan_cost}
use Rattle.plan.proofs.PlanExact.{count_of-take}
use Rattle.layouts.specs.Unfold.{Run, run, steps_for, start_of, unfolded}
use Rattle.texts.proofs.CallRows.{total-zeros}
use Rattle.unfold_call.proofs.Longer.{longer_run, run-longer}

-- counts past the last cut add nothing
weighed-past : (f : Cut → ℕ) (cs : List Cut) (ns zs : List ℕ) → length ns ≡ length cs → weighed f cs (ns ++ zs) ≡ weighed f cs ns
unfolding weighed
weighed-past f [] [] zs h = refl
weighed-past f [] (n ∷ ns) zs h = absurd (omega arith)
weighed-past f (c ∷ cs) [] zs h = absurd (omega arith)
weighed-past f (c ∷ cs) (n ∷ ns) zs h = ap (λ (k : ℕ). f c * n + k) (weighed-past f cs ns zs (omega arith))

module _ (size : ℕ) (job : Job) (l : Listing) (ns : List ℕ) (h : length ns ≡ length l.cuts) where
  abbrev zeros : List ℕ
  zeros = replicate (size - length ns) 0

  pub boards-filled : boards l (filled size ns) ≡ boards l ns
  unfolding filled boards
  boards-filled =
      let on = on_size l.sizes in
      sym (count_of-take on l.cuts (ns ++ zeros))
      ∙ ap (count_of on l.cuts) (take-append-le (length l.cuts) ns zeros (omega arith))
      ∙ count_of-take on l.cuts ns

  pub cost-filled : plan_cost job l (filled size ns) ≡ plan_cost job l ns
  unfolding filled plan_cost
  cost-filled = weighed-past (λ c. cost_at job c.plate) l.cuts ns zeros h

  steps-filled : steps_for (ns ++ zeros) ≡ steps_for ns
  unfolding steps_for
  steps-filled = rw (total-zeros ns (size - length ns))

  run-filled : unfolded job l (filled size ns) ≡ longer_run job l zeros (unfolded job l ns)
  unfolding filled unfolded
  run-filled =
      ap (λ (n : ℕ). run n job l (start_of (ns ++ zeros))) steps-filled ∙ run-longer job l zeros (steps_for ns) (start_of ns) (omega arith)

  pub placements-filled : (unfolded job l (filled size ns)).placements ≡ (unfolded job l ns).placements
  placements-filled = ap (λ (r : Run). r.placements) run-filled

  pub board-filled : (unfolded job l (filled size ns)).last.turn.board ≡ (unfolded job l ns).last.turn.board
  board-filled = ap (λ (r : Run). r.last.turn.board) run-filled
