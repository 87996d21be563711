-- An accepted plan, unfolded and written: there are at most 4,000 pieces, and the rows of the placements are the pieces.
use Prim.Native.Nat.{ℕ, ◌*◌, ◌≤◌}
use native.Mathlib.Omega.{arith}
use mathlib.Core.Path.{◌≡◌, sym}
use mathlib.Core.List.{List, [], ◌∷◌, ◌++◌, flat_map}
use lib.ListN.{length, take}
use Rattle.job.specs.Verdict.{pass, ◌then◌}
use Rattle.job.specs.Buffers.{given}
use Rattle.job.specs.Sizes.{max_pieces, words_of_placement}
use Rattle.job.proofs.Verdicts.{then-first, then-second}
use Rattle.job.proofs.Admission.{admitted-sided}
use Rattle.listing.specs.Holds.{Holds}
use Rattle.plan.specs.Plan.{counts_row, plan_row}
use Rattle.plan.proofs.PlanExact.{plan-exact, counts-exact}
use Rattle.layouts.specs.Placement.{placement_words}
use Rattle.layouts.specs.Lines.{rows_of}
use Rattle.layouts.specs.UnfoldCall.{unfolding_of}
use Rattle.layouts.specs.Demand3.{J, L}
use Rattle.layouts.proofs.machine.MachineEnds.{unfolds}
use Rattle.unfold_step.specs.Ready.{ModelLent}
use Rattle.unfold_call.specs.UnfoldSays.{results}
use Rattle.texts.specs.SawText.{placement_line}
use Rattle.texts_writing.specs.Wrote.{Wrote, summary_line}
use Rattle.texts_writing.proofs.RowLaws.{held_rows}

module _ (ws plates cuts counts : List ℕ) (k : ℕ) (lent : ModelLent ws plates cuts k) (rows : (counts_row (L ws) counts then plan_row (J ws) (L ws) counts) ≡ pass) where
  pub pieces-few : length (unfolding_of ws counts).placements ≤ max_pieces
  unfolding unfolding_of
  pieces-few =
      let none-past = (counts-exact (L ws) counts).0 (then-first (counts_row (L ws) counts) (plan_row (J ws) (L ws) counts) rows) in
      let feasible = (plan-exact (J ws) (L ws) counts).0 (then-second (counts_row (L ws) counts) (plan_row (J ws) (L ws) counts) rows) in
      let u = unfolds (J ws) (L ws) lent.lent.model (admitted-sided (J ws) lent.lent.admitted) counts none-past feasible in
      omega (arith, u.pieces, feasible.few)

  module _ (used pieces left : ℕ) (done : given (used ∷ pieces ∷ left ∷ []) ≡ given (results ws counts)) where
    pieces_are : pieces ≡ length (unfolding_of ws counts).placements
    pieces_are = cc

    pub pieces-fit : pieces ≤ max_pieces
    pieces-fit = omega (arith, pieces_are, pieces-few)

    pub plan-written :
        {out out' placements : List ℕ} {n : ℕ} (cost sum d : ℕ)
        → Holds placements (placement_words (unfolding_of ws counts).placements)
        → Wrote out 0 (flat_map placement_line (rows_of (take (words_of_placement * pieces) placements)) ++ summary_line cost sum d) n out'
        → Wrote out 0 (flat_map placement_line (unfolding_of ws counts).placements ++ summary_line cost sum d) n out'
    plan-written cost sum d h w = rw (← held_rows (unfolding_of ws counts).placements pieces h (sym pieces_are)) w
