-- The stacks of a strip, one by one: what has been measured, and the stacks that are left.
use mathlib.Core.Path.{◌≡◌, refl, sym, ◌∙◌}
use Prim.Native.Nat.{ℕ, ◌+◌, ◌*◌, ◌≤◌, ◌<◌, max}
use mathlib.Core.Bool.{Bool, true, false}
use mathlib.Core.List.{List, [], ◌∷◌, flat_map}
use mathlib.Core.Option.{Option, none, some}
use native.Mathlib.Omega.{arith}
use lib.ListN.{length, drop, length-append}
use lib.Seq.{drop-drop}
use Rattle.job.specs.Sizes.{words_of_placement}
use Rattle.job.specs.Lists.{sum_of, gaps_after, max_of}
use Rattle.job.specs.Job.{Job}
use Rattle.job.proofs.Tests.{not-both}
use Rattle.layouts.specs.Layout.{Stack, Strip, stack_width, stack_height, strip_height}
use Rattle.layouts.specs.Placement.{Placement, items_of_strip}
use Rattle.layouts.specs.Lines.{Level, stack, strip, board, begun, rows_of}
use Rattle.placement.specs.PlacementRead.{placement_at}
use Rattle.placement.proofs.Rows.{rows-from}
use Rattle.layouts_strips.specs.declared.stack.StackMeasure.{StackMeasure}
use Rattle.layouts_strips.specs.declared.strip.StripMeasure.{StripMeasure}
use Rattle.layouts_strips.specs.Begun.{begins_stack}
use Rattle.layouts_strips.specs.First.{stack_of, strip_of}
use Rattle.layouts_strips.specs.Measures.{max_word, StackIs, StackSmall, stack_in, StripIs, StripSmall}
use Rattle.layouts_strips.proofs.CodeFirst.{when_stack, strip-stacks}

-- the stacks of a strip that are left from the line behind e others on, where that begins a further stack
abbrev pub stacks_left : List ℕ → ℕ → Strip
stacks_left ws e = when_stack (begun (drop e (rows_of ws))) (strip_of (drop e (rows_of ws)))

further : (o : Option Level) (s : Strip) → begins_stack o ≡ true → when_stack o s ≡ s
further none s h = absurd (not-both h refl)
further (some stack) s h = refl
further (some strip) s h = absurd (not-both h refl)
further (some board) s h = absurd (not-both h refl)

no-further : (o : Option Level) (s : Strip) → begins_stack o ≡ false → when_stack o s ≡ []
no-further none s h = refl
no-further (some stack) s h = absurd (not-both refl h)
no-further (some strip) s h = refl
no-further (some board) s h = refl

module _ (ws : List ℕ) (e : ℕ) {b : Bool} (t : b ≡ begins_stack (begun (drop e (rows_of ws)))) where
  pub left-more : b ≡ true → stacks_left ws e ≡ strip_of (drop e (rows_of ws))
  left-more u = further (begun (drop e (rows_of ws))) (strip_of (drop e (rows_of ws))) (sym t ∙ u)

  pub left-none : b ≡ false → stacks_left ws e ≡ []
  left-none u = no-further (begun (drop e (rows_of ws))) (strip_of (drop e (rows_of ws))) (sym t ∙ u)

strip-of :
    (rs : List Placement) (r : Placement) (rs' : List Placement)
    → rs ≡ r ∷ rs'
    → strip_of rs ≡ stack_of rs ∷ when_stack (begun (drop (length (stack_of rs)) rs)) (strip_of (drop (length (stack_of rs)) rs))
strip-of rs r rs' q = rw q (strip-stacks r rs')

module _ (job : Job) where
  -- the strip from a line on is the stack there, and the stacks that are left behind it
  pub strip-line :
      (ws : List ℕ) (n e : ℕ) {x : StackMeasure}
      → length ws ≡ words_of_placement * n
      → e < n
      → StackIs job e (stack_of (drop e (rows_of ws))) x
      → strip_of (drop e (rows_of ws)) ≡ stack_of (drop e (rows_of ws)) ∷ stacks_left ws x.end
  strip-line ws n e l h s =
      rw (s.ended, ← drop-drop (length (stack_of (drop e (rows_of ws)))) e (rows_of ws))
      (strip-of (drop e (rows_of ws)) (placement_at ws e) (drop (e + 1) (rows_of ws)) (rows-from ws n e l h))

  -- stacks put into a strip, one after another
  abbrev stack_on : StripMeasure → Stack → StripMeasure
  stack_on m k = record { end = m.end + length k; across = m.across + stack_width job k + job.blade; height = max m.height (stack_height job k) }

  unfoldable pub stacks_in : StripMeasure → Strip → StripMeasure
  stacks_in m [] = m
  stacks_in m (k ∷ ks) = stacks_in (stack_on m k) ks

  in_end : (m : StripMeasure) (s : Strip) → (stacks_in m s).end ≡ m.end + length (items_of_strip s)
  unfolding stacks_in items_of_strip flat_map
  in_end m [] = omega arith
  in_end m (k ∷ ks) = let e = in_end (stack_on m k) ks in omega (arith, length-append k (flat_map (λ l. l) ks))

  in-width : (m : StripMeasure) (s : Strip) → (stacks_in m s).across ≡ m.across + gaps_after job.blade (stack_width job) s
  unfolding stacks_in sum_of
  in-width m [] = omega arith
  in-width m (k ∷ ks) = let e = in-width (stack_on m k) ks in omega arith

  in-height : (m : StripMeasure) (s : Strip) → (stacks_in m s).height ≡ max m.height (max_of (stack_height job) s)
  unfolding stacks_in max_of
  in-height m [] = omega arith
  in-height m (k ∷ ks) = let e = in-height (stack_on m k) ks in omega arith

  -- a strip of no stack, behind a lines
  abbrev no_stack : ℕ → StripMeasure
  no_stack a = record { end = a; across = 0; height = 0 }

  -- with its stacks in it, it has the measures of the strip
  pub strip-begins : (a : ℕ) (s : Strip) → StripIs job a s (stacks_in (no_stack a) s)
  unfolding strip_height
  strip-begins a s =
      record {
        ended = in_end (no_stack a) s;
        wide = omega (arith, in-width (no_stack a) s);
        high = omega (arith, in-height (no_stack a) s);
      }

  stack-put : (m : StripMeasure) {k : Stack} {x : StackMeasure} → StackIs job m.end k x → stack_in job.blade m x ≡ stack_on m k
  stack-put m s = rw (s.ended, s.wide, s.high)

  module _
      (ws : List ℕ) (n a : ℕ) (m : StripMeasure) {x : StackMeasure} {gap : ℕ} {m' : StripMeasure} {s : Strip}
      (l : length ws ≡ words_of_placement * n)
      (h : m.end < n)
      (k : StackIs job m.end (stack_of (drop m.end (rows_of ws))) x)
      (g : m' ≡ stack_in gap m x)
      (q : gap ≡ job.blade)
      (i : StripIs job a s (stacks_in m (strip_of (drop m.end (rows_of ws)))))
    where
      one_more : stacks_in m (strip_of (drop m.end (rows_of ws))) ≡ stacks_in (stack_in job.blade m x) (stacks_left ws x.end)
      unfolding stacks_in
      one_more = rw (strip-line ws n m.end l h k, stack-put m k)

      left : StripIs job a s (stacks_in m' (stacks_left ws m'.end))
      left = rw (g, q) (rw one_more at i)

      -- a further stack begins, or nothing is left
      pub strip-next : {b : Bool} → b ≡ begins_stack (begun (drop m'.end (rows_of ws))) → b ≡ true → StripIs job a s (stacks_in m' (strip_of (drop m'.end (rows_of ws))))
      strip-next t u = rw (left-more ws m'.end t u) at left

      pub strip-ends : {b : Bool} → b ≡ begins_stack (begun (drop m'.end (rows_of ws))) → b ≡ false → StripIs job a s m'
      unfolding stacks_in
      strip-ends t u = rw (left-none ws m'.end t u) at left

-- the measures stay small
pub strip-small : {a n gap : ℕ} {m m' : StripMeasure} {x : StackMeasure} → StripSmall a n m → StackSmall m.end n x → gap ≤ max_word → m' ≡ stack_in gap m x → StripSmall a n m'
strip-small s k g e = rw e (record { begun = omega arith; inside = omega arith; narrow = omega arith; low = omega arith })
