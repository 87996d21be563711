-- Every refusal of the layouts row has a number above 0.
use mathlib.Core.Bool.{Bool, true, false, not, ◌&&◌}
use mathlib.Core.List.{List, [], ◌∷◌}
use Prim.Native.Nat.{ℕ, suc, ◌/◌, ◌%◌, ◌≤◌}
use native.Mathlib.Omega.{arith}
use lib.Dec.{ltb, eqb}
use lib.ListN.{length}
use Rattle.job.specs.Sizes.{max_pieces, words_of_placement}
use Rattle.job.specs.Verdict.{Verdict, refuse, refuse_if, lowest}
use Rattle.job.specs.Job.{Job, permitted}
use Rattle.layouts.specs.Placement.{Turn, opened, turn, Placement, lines_of}
use Rattle.layouts.specs.Lines.{lines_in, rows_of, layout_words, row_right, same_turn, follows, in_turn, turns, grouped}
use Rattle.layouts.specs.LayoutsRow.{Laid, laid_set, lowest_strip, breaks_stage, past_board, positioned, lacks, layouts_row}
use Rattle.engine.proofs.Numbers.{Above, above-pass, above-refuse, above_if, above_then, above-lowest}

-- a test of one line or strip, and then of the rest
refused-where-false : (b : Bool) (number place : ℕ) {v : Verdict} → 1 ≤ number → Above v → Above (elim b [ false ↦ refuse number place | true ↦ v ])
refused-where-false true number place h a = a
refused-where-false false number place h a = above-refuse number place h

refused-where-true : (b : Bool) (number place : ℕ) {v : Verdict} → 1 ≤ number → Above v → Above (elim b [ true ↦ refuse number place | false ↦ v ])
refused-where-true true number place h a = above-refuse number place h
refused-where-true false number place h a = a

in-turn-above : (k : ℕ) (t : Turn) (rs : List Placement) → Above (in_turn k t rs)
unfolding in_turn
in-turn-above k t [] = above-pass
in-turn-above k t (r ∷ rs) = refused-where-false (follows t r.turn) 15 k (omega arith) (in-turn-above (suc k) r.turn rs)

turns-above : (k : ℕ) (rs : List Placement) → Above (turns k rs)
unfolding turns
turns-above k [] = above-pass
turns-above k (r ∷ rs) = refused-where-false (same_turn r.turn (turn (opened 1 r.turn.board.size) 1 1 1)) 15 k (omega arith) (in-turn-above (suc k) r.turn rs)

strips-above : (number : ℕ) (bad : Laid → Bool) (ss : List Laid) → 1 ≤ number → Above (lowest_strip number bad ss)
unfolding lowest_strip
strips-above number bad [] h = above-pass
strips-above number bad (s ∷ ss) h = refused-where-true (bad s) number s.line h (strips-above number bad ss h)

positioned-above : (k : ℕ) (rs ps : List Placement) → Above (positioned k rs ps)
unfolding positioned
positioned-above k [] ps = above-pass
positioned-above k (r ∷ rs) [] = above-pass
positioned-above k (r ∷ rs) (p ∷ ps) =
    refused-where-false (eqb r.x p.x && eqb r.y p.y) 18 k (omega arith) (positioned-above (suc k) rs ps)

pub layout-words-above : (job : Job) (ws : List ℕ) → Above (layout_words job ws)
unfolding layout_words
layout-words-above job ws =
    above_then (refuse_if (not (eqb (length ws % words_of_placement) 0)) 1 (suc (length ws / words_of_placement))) _
    (above_if (not (eqb (length ws % words_of_placement) 0)) 1 (suc (length ws / words_of_placement)) (omega arith))
    (above_then (lowest 2 (λ _ r. not (row_right job r)) 1 (lines_in ws)) _ (above-lowest 2 (λ _ r. not (row_right job r)) 1 (lines_in ws) (omega arith))
    (above-lowest 19 (λ _ r. not (permitted job r.item)) 1 (rows_of ws) (omega arith)))

pub layouts-above : (k : ℕ) (job : Job) (rs : List Placement) → Above (layouts_row k job rs)
unfolding layouts_row
layouts-above k job rs =
    above_then (refuse_if (ltb max_pieces (length rs)) 10 0) _ (above_if (ltb max_pieces (length rs)) 10 0 (omega arith))
    (above_then (turns k rs) _ (turns-above k rs)
    (above_then (lowest_strip 16 (breaks_stage job) (laid_set job k (grouped rs))) _ (strips-above 16 (breaks_stage job) (laid_set job k (grouped rs)) (omega arith))
    (above_then (lowest_strip 17 (past_board job) (laid_set job k (grouped rs))) _ (strips-above 17 (past_board job) (laid_set job k (grouped rs)) (omega arith))
    (above_then (positioned k rs (lines_of job (grouped rs))) _ (positioned-above k rs (lines_of job (grouped rs)))
    (above-lowest 11 (lacks rs) 1 job.items (omega arith))))))
