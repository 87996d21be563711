-- The lines 7 of the saw program are the words that the unfolding call leaves of the same plan, and its line 8 has the cost that the plan test gives.
use Prim.Native.Nat.{ℕ, ◌≤◌}
use mathlib.Core.Path.{◌≡◌, sym, ap, ◌∙◌}
use mathlib.Core.Bool.{true}
use mathlib.Core.List.{List, [], ◌∷◌, map}
use mathlib.Core.Option.{some}
use lib.ListN.{length}
use Rattle.job.specs.Verdict.{pass}
use Rattle.job.specs.Buffers.{given, plates_size, cuts_size, counts_size, placements_size, offcuts_size}
use Rattle.job.proofs.Buffers.{sized-full}
use Rattle.job.proofs.Verdicts.{then-first, then-second}
use Rattle.plan.specs.PlanCall.{plan_answer}
use Rattle.layouts.specs.Placement.{Placement}
use Rattle.layouts.specs.UnfoldCall.{lengths_right, lengths_row, unfold_verdict, unfolding_of, unfold_answer, placements_end}
use Rattle.layouts.specs.Demand3.{J, L}
use Rattle.layouts.proofs.row.RowLines.{words-rows}
use Rattle.texts.specs.Reader.{started, fed, text_row}
use Rattle.texts.specs.SawText.{Saw, saw_grammar, saw_rows, placement_row}
use Rattle.texts.specs.Held.{SawWhole}
use Rattle.texts.specs.Printed.{lines_in, saw_holds, saw_run, saw_cost, printed_rows}
use Rattle.texts.specs.Rounds.{saw_counts}
use Rattle.texts.proofs.Lists.{bytes_of}
use Rattle.texts.proofs.CallRows.{Accepted, accepted-rows, accepted-plan, counts-length, counts-filled, plan-filled, filled-long}
use Rattle.texts.proofs.SawTexts.{saw-both-ways}
use Rattle.texts.proofs.Printed.{placement-lines, printed}
use Rattle.texts.proofs.SawDemand.{saw-boards}
use Rattle.texts.proofs.SawThenFold.{lines-seven, line-eight}
use Rattle.saw_text_rows.specs.AsUnfolding.{counts_passed, AsUnfolding, LinesAsWords}
use Rattle.saw_text_rows.proofs.Filled.{boards-filled, cost-filled, placements-filled, board-filled}

module _ (s : Saw) (held : SawWhole s) (rows : saw_rows s ≡ pass) (first second : ℕ) (plates cuts placements offcuts : List ℕ) (b : lengths_right first second ≡ true)
    (p : plates_size ≤ length plates) (c : cuts_size ≤ length cuts) (r : placements_size ≤ length placements) (o : offcuts_size ≤ length offcuts) where
  a : Accepted s
  a = accepted-rows s rows

  -- a count for each cut
  size : length (saw_counts s) ≡ length (L s.job).cuts
  size = counts-length (L s.job) s.plan

  -- the call accepts
  accepted : unfold_verdict s.job first second (counts_passed s) plates cuts placements offcuts ≡ pass
  unfolding unfold_verdict lengths_row
  accepted =
      let one = sized-full 1 plates_size plates p in
      let two = sized-full 2 cuts_size cuts c in
      let four = sized-full 4 placements_size placements r in
      let five = sized-full 5 offcuts_size offcuts o in
      let three = sized-full 3 counts_size (counts_passed s) (filled-long counts_size (saw_counts s)) in
      let past = counts-filled counts_size (L s.job) (saw_counts s) size in
      let same = plan-filled counts_size (J s.job) (L s.job) (saw_counts s) size in
      rw (held.job, b, a.admitted, one, two, three, four, five, a.listed, past, same) a.plan

  -- its placements are those of the text
  same-placements : (unfolding_of s.job (counts_passed s)).placements ≡ (saw_run s).placements
  unfolding unfolding_of
  same-placements = placements-filled counts_size (J s.job) (L s.job) (saw_counts s) size

  same-boards : (unfolding_of s.job (counts_passed s)).last.turn.board ≡ (saw_run s).last.turn.board
  unfolding unfolding_of
  same-boards = board-filled counts_size (J s.job) (L s.job) (saw_counts s) size

  -- the plan test gives the boards that the unfolding opens, and the cost of the plan
  costed : plan_answer s.job (counts_passed s) plates cuts ≡ given ((saw_run s).last.turn.board.number ∷ saw_cost s ∷ [])
  unfolding plan_answer
  costed =
      let passed = accepted-plan s held a plates cuts p c in
      let many = boards-filled counts_size (J s.job) (L s.job) (saw_counts s) size in
      let dear = cost-filled counts_size (J s.job) (L s.job) (saw_counts s) size in
      rw (passed, many, dear, saw-boards s held rows)

  as-unfolding : (out : List ℕ) → lines_in out ≡ some (printed_rows s) → AsUnfolding s first second out plates cuts placements offcuts
  unfolding unfold_answer placements_end
  as-unfolding out e =
      record {
        accepted = accepted;
        answered = rw (accepted, same-boards, same-placements);
        left = rw (accepted, same-placements);
        lines =
            lines-seven s out e
            ∙ placement-lines (saw_run s).placements
            ∙ ap (λ (ps : List Placement). bytes_of (map placement_row ps)) (sym (words-rows (saw_run s).placements));
        costed = costed;
        result = line-eight s out e;
      }

-- for every accepted saw text
pub lines-as-words : LinesAsWords
lines-as-words bs first second plates cuts placements offcuts h b p c r o =
    let row = text_row saw_grammar (fed saw_grammar (started saw_grammar) bs) in
    let t = then-first row (saw_rows (saw_holds bs)) h in
    let q = then-second row (saw_rows (saw_holds bs)) h in
    as-unfolding (saw_holds bs) (saw-both-ways.read bs t).0 q first second plates cuts placements offcuts b p c r o _ (printed.back bs t q)
