-- The strips of a set, one by one: those from a line on decide as all of them do.
use mathlib.Core.Path.{◌≡◌, refl, sym, ap, ◌∙◌}
use Prim.Native.Nat.{ℕ, ◌+◌, ◌*◌, ◌≤◌, ◌<◌}
use mathlib.Core.Bool.{Bool, true, false, not, ◌||◌}
use mathlib.Core.List.{List, [], ◌∷◌}
use mathlib.Core.Option.{Option, none, some}
use native.Mathlib.Omega.{arith}
use borrow.Author.Tests.{lt-ltb, le-ltb, ltb-true, ltb-false}
use lib.Dec.{ltb}
use lib.ListN.{length, drop}
use lib.Seq.{drop-drop}
use Rattle.job.specs.Sizes.{words_of_placement}
use Rattle.job.specs.Lists.{gap_sum}
use Rattle.job.specs.Verdict.{Verdict, pass, refuse}
use Rattle.job.specs.declared.size.Size.{Size}
use Rattle.job.specs.Job.{Job, size_at}
use Rattle.job.proofs.Tests.{not-both}
use Rattle.layouts.specs.Layout.{Strip, strip_width, strip_height, stage_rule}
use Rattle.layouts.specs.Placement.{Placement, items_of_strip}
use Rattle.layouts.specs.Lines.{Level, stack, strip, board, begun, rows_of, grouped}
use Rattle.layouts.specs.LayoutsRow.{Laid, laid_at, laid_set, lowest_strip, breaks_stage, past_board}
use Rattle.placement.specs.PlacementRead.{placement_at}
use Rattle.placement.proofs.Rows.{rows-from, rows_end}
use Rattle.layouts_strips.specs.declared.strip.StripMeasure.{StripMeasure}
use Rattle.layouts_strips.specs.Begun.{begins_strip}
use Rattle.layouts_strips.specs.First.{size_named, strip_of, laid_from, below_next, strip_plate}
use Rattle.layouts_strips.specs.Measures.{StripIs}
use Rattle.layouts_strips.proofs.CodeFirst.{behind_strip, first-size, laid-from-none, laid-strips}

-- the height below the next strip
pub below-same : {b : Bool} (o : Option Level) (y : ℕ) → b ≡ begins_strip o → b ≡ true → y ≡ below_next o y
below-same none y t u = absurd (not-both u t)
below-same (some stack) y t u = absurd (not-both u t)
below-same (some strip) y t u = refl
below-same (some board) y t u = absurd (not-both u t)

pub below_none : {b : Bool} (o : Option Level) (y : ℕ) → b ≡ begins_strip o → b ≡ false → 0 ≡ below_next o y
below_none none y t u = refl
below_none (some stack) y t u = refl
below_none (some strip) y t u = absurd (not-both t u)
below_none (some board) y t u = refl

pub below-small : (o : Option Level) (y z : ℕ) → y ≤ z → below_next o y ≤ z
below-small none y z h = omega arith
below-small (some stack) y z h = omega arith
below-small (some strip) y z h = h
below-small (some board) y z h = omega arith

-- the lowest strip that is bad
module _ (number : ℕ) (bad : Laid → Bool) where
  strip-here : (s : Laid) (ss : List Laid) → bad s ≡ true → lowest_strip number bad (s ∷ ss) ≡ refuse number s.line
  unfolding lowest_strip
  strip-here s ss h = rw (h, lowest_strip)

  strip-after : (s : Laid) (ss : List Laid) → bad s ≡ false → lowest_strip number bad (s ∷ ss) ≡ lowest_strip number bad ss
  unfolding lowest_strip
  strip-after s ss h = rw (h, lowest_strip)

  strip-none : lowest_strip number bad [] ≡ pass
  unfolding lowest_strip
  strip-none = refl

no_lines : grouped [] ≡ []
unfolding grouped
no_lines = refl

module _ (job : Job) where
  laid_of :
      (z line y : ℕ) (rs : List Placement) (r : Placement) (rs' : List Placement)
      → rs ≡ r ∷ rs'
      → laid_from job z line y (grouped rs)
      ≡ laid_at z line y (strip_of rs) ∷ laid_from job (strip_plate (behind_strip (strip_of rs) rs) z) (line + length (items_of_strip (strip_of rs))) (below_next (begun (behind_strip (strip_of rs) rs)) (y + strip_height job (strip_of rs) + job.blade)) (grouped (behind_strip (strip_of rs) rs))
  laid_of z line y rs r rs' q = rw q (laid-strips job z line y r rs' refl)

  module _ (ws : List ℕ) (number : ℕ) (bad : Laid → Bool) (k : ℕ) where
    -- from the first line on
    pub row-begins : lowest_strip number bad (laid_set job k (grouped (rows_of ws))) ≡ lowest_strip number bad (laid_from job (size_named (rows_of ws)) (k + 0) 0 (grouped (rows_of ws)))
    row-begins = let e : k + 0 ≡ k = omega arith in rw (e, ← first-size (rows_of ws), laid-from-none job k (grouped (rows_of ws)))

    module _ (n z a y : ℕ) {whole : Verdict} (l : length ws ≡ words_of_placement * n) (w : whole ≡ lowest_strip number bad (laid_from job z (k + a) y (grouped (drop a (rows_of ws))))) where
      -- past the last line
      pub row-end : n ≤ a → pass ≡ whole
      row-end h = sym (w ∙ rw (rows_end ws n a l h, no_lines) (strip-none number bad))

      module _ {x : StripMeasure} (h : a < n) (s : StripIs job a (strip_of (drop a (rows_of ws))) x) where
        laid-line : laid_from job z (k + a) y (grouped (drop a (rows_of ws))) ≡ laid_at z (k + a) y (strip_of (drop a (rows_of ws))) ∷ laid_from job (strip_plate (drop x.end (rows_of ws)) z) (k + x.end) (below_next (begun (drop x.end (rows_of ws))) (y + x.height + job.blade)) (grouped (drop x.end (rows_of ws)))
        laid-line =
            let e : k + (a + length (items_of_strip (strip_of (drop a (rows_of ws))))) ≡ k + a + length (items_of_strip (strip_of (drop a (rows_of ws)))) = omega arith in
            rw (s.ended, s.high, e, ← drop-drop (length (items_of_strip (strip_of (drop a (rows_of ws))))) a (rows_of ws))
            (laid_of z (k + a) y (drop a (rows_of ws)) (placement_at ws a) (drop (a + 1) (rows_of ws)) (rows-from ws n a l h))

        -- the strip there is bad, or the strips after it decide
        pub row-found : bad (laid_at z (k + a) y (strip_of (drop a (rows_of ws)))) ≡ true → refuse number (k + a) ≡ whole
        row-found t = sym (w ∙ ap (lowest_strip number bad) laid-line ∙ strip-here number bad (laid_at z (k + a) y (strip_of (drop a (rows_of ws)))) _ t)

        pub row_next : bad (laid_at z (k + a) y (strip_of (drop a (rows_of ws)))) ≡ false → whole ≡ lowest_strip number bad (laid_from job (strip_plate (drop x.end (rows_of ws)) z) (k + x.end) (below_next (begun (drop x.end (rows_of ws))) (y + x.height + job.blade)) (grouped (drop x.end (rows_of ws))))
        row_next t = w ∙ ap (lowest_strip number bad) laid-line ∙ strip-after number bad (laid_at z (k + a) y (strip_of (drop a (rows_of ws)))) _ t

  -- the size and the height below, as the code keeps them
  pub next-laid : (ws : List ℕ) (number : ℕ) (bad : Laid → Bool) (k e : ℕ) {whole : Verdict} {z z' y y' : ℕ} → whole ≡ lowest_strip number bad (laid_from job z (k + e) y (grouped (drop e (rows_of ws)))) → z' ≡ z → y' ≡ y → whole ≡ lowest_strip number bad (laid_from job z' (k + e) y' (grouped (drop e (rows_of ws))))
  next-laid ws number bad k e w p q = rw (p, q) w

  -- 16, as the code decides it
  pub breaks : (z line y : ℕ) (s : Strip) {r t : Bool} → r ≡ stage_rule job s → r ≡ t → breaks_stage job (laid_at z line y s) ≡ not t
  unfolding breaks_stage
  breaks z line y s e f = ap not (sym e ∙ f)

-- 17, as the code decides it, with the sides of the board's size at hand
module _ (job : Job) (z line y a : ℕ) (s : Strip) {x : StripMeasure} {size : Size} {b : ℕ} (m : StripIs job a s x) (of : size ≡ size_at job z) (gap : b ≡ job.blade) where
  -- one gap after each stack is one more than between them
  wide : (t : Bool) → ltb (size.width + b) x.across ≡ t → ltb (size_at job z).width (strip_width job s) ≡ t
  unfolding strip_width gap_sum
  wide true p = rw (← of) (lt-ltb size.width (strip_width job s) (omega (arith, m.wide, gap, ltb-true (size.width + b) x.across p)))
  wide false p = rw (← of) (le-ltb size.width (strip_width job s) (omega (arith, m.wide, gap, ltb-false (size.width + b) x.across p)))

  pub past-said : {t : Bool} → t ≡ (ltb (size.width + b) x.across || ltb size.height (y + x.height)) → past_board job (laid_at z line y s) ≡ t
  unfolding past_board
  past-said e = rw (wide _ refl, ← of, ← m.high, e)
