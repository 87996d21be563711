-- From patterns to layouts: the layout of a cut pattern of the board keeps the layout rules of the mode, and is in folding's order.
use Prim.Native.Nat.{ℕ, ◌+◌, ◌-◌, ◌≤◌}
use native.Mathlib.Omega.{arith}
use mathlib.Core.Path.{◌≡◌, refl, sym, ap, ◌∙◌}
use mathlib.Core.Logic.{inl, ◌≢◌}
use mathlib.Core.Bool.{Bool, true, false, cond, false≢true}
use mathlib.Core.List.{[], ◌∷◌}
use lib.ListN.{length}
use Rattle.job.specs.Lists.{sum_of, gaps_after, gap_sum, max_of}
use Rattle.job.specs.Mode.{three, exact}
use Rattle.job.specs.declared.size.Size.{Size}
use Rattle.job.specs.Job.{Job}
use Rattle.job.specs.Admitted.{Sided}
use Rattle.listing.specs.Plate.{plate, board}
use Rattle.layouts.specs.Layout.{Stack, Strip, Board, width_of, height_of, stack_width, stack_height, strip_width, strip_height, board_height}
use Rattle.layouts.specs.Placement.{items_of_strip}
use Rattle.layouts.specs.Rules.{Every, Filled, Alike, Single, OfJob, Staged, StripOk, BoardOk}
use Rattle.layouts.proofs.lists.Every.{every_map, max_least}
use Rattle.layouts.specs.Exact.{Falling}
use Rattle.layouts.proofs.rules.RulesExact.{same_alike, single-heights}
use Rattle.layouts.proofs.trees.Tree.{Tree, leaf, node}
use Rattle.layouts.proofs.trees.Pattern.{Pattern, stack_of, strip_of, board_of}
use Rattle.layouts.proofs.patterns.PatternSteps.{laid-sides, Within, cut-1, cut-2-three, cut-2-two, cut-3, waste-leaf}

module _ (job : Job) where
  -- what a pattern of a stage 3 plate makes of the items above, where h remains above the item below them, the blade's gap with it
  pub record Above (w h : ℕ) (l : Stack) : Type 0 where
    pub types : Every (OfJob job) l
    pub narrow : Every (λ i. width_of job i ≤ w) l
    pub same : exact job.mode ≡ true → Every (λ i. width_of job i ≡ w) l
    pub falls : Falling (width_of job) l
    pub tall : gaps_after job.blade (height_of job) l ≤ h

  -- what a pattern of a stage 2 plate makes of the stacks beside, where w remains beside the item before them, the blade's gap with it
  pub record Beside (w h : ℕ) (ss : Strip) : Type 0 where
    pub stacks : Every Filled ss
    pub types : Every (Every (OfJob job)) ss
    pub low : Every (λ s. stack_height job s ≤ h) ss
    pub across : gaps_after job.blade (stack_width job) ss ≤ w
    -- in two stages
    pub single : three job.mode ≡ false → Every Single ss
    pub level : three job.mode ≡ false → exact job.mode ≡ true → Every (λ s. stack_height job s ≡ h) ss
    pub order : three job.mode ≡ false → Falling (stack_height job) ss
    -- in three stages
    pub even : exact job.mode ≡ true → Every (Alike (width_of job)) ss
    pub falls : Every (Falling (width_of job)) ss

  -- what a pattern of a stage 1 plate makes of the strips, where h remains above the strips below, the blade's gap with it
  pub record Over (w h : ℕ) (b : Board) : Type 0 where
    pub strips : (sz : Size) → w ≡ sz.width → Every (StripOk job sz) b
    pub up : gaps_after job.blade (strip_height job) b ≤ h

  -- a stack that is one item
  pub single-high : (i : ℕ) → stack_height job (i ∷ []) ≡ height_of job i
  unfolding stack_height gap_sum sum_of
  single-high i = omega arith

  pub single-wide : (i : ℕ) → stack_width job (i ∷ []) ≡ width_of job i
  unfolding stack_width max_of
  single-wide i = omega arith

  none_above : (w h : ℕ) → Above w h []
  unfolding sum_of
  none_above w h = record { types = tt; narrow = tt; same = λ e. tt; falls = tt; tall = omega arith }

  -- a stage 2 cut: its item, the items above it in its stack, and the pattern of the further stacks
  pub record Begun (w h i : ℕ) (a b : Tree) : Type 0 where
    pub within : Within job w h i
    pub items : Above (width_of job i) (h - height_of job i) (stack_of a)
    pub alone : three job.mode ≡ false → stack_of a ≡ []
    pub just : three job.mode ≡ false → exact job.mode ≡ true → height_of job i ≡ h
    pub further : Pattern job (plate (w - width_of job i - job.blade) (cond (three job.mode) h (height_of job i)) 2) b

  -- the stack's width is its first item's, since no other is wider; its height is at most the plate's
  module _ (w h i : ℕ) (a b : Tree) (q : Begun w h i a b) where
    pub stack-wide : stack_width job (i ∷ stack_of a) ≡ width_of job i
    unfolding stack_width max_of
    stack-wide = omega (arith, max_least (width_of job) (width_of job i) (stack_of a) q.items.narrow)

    stack-high : stack_height job (i ∷ stack_of a) ≤ h
    unfolding stack_height gap_sum sum_of
    stack-high = omega (arith, q.within.high, q.items.tall)

    stack-alone : three job.mode ≡ false → stack_height job (i ∷ stack_of a) ≡ height_of job i
    unfolding stack_height gap_sum sum_of
    stack-alone t = rw (q.alone t) (omega arith)

    stack-even : exact job.mode ≡ true → Alike (width_of job) (i ∷ stack_of a)
    stack-even e = same_alike (width_of job) (width_of job i) (i ∷ stack_of a) (refl, q.items.same e)

  -- the strip that a stage 1 cut begins: its height is its first item's, since no stack is higher
  module _ (w i : ℕ) (a : Tree) (u : Beside (w - width_of job i) (height_of job i) (strip_of a)) where
    pub strip-high : strip_height job ((i ∷ []) ∷ strip_of a) ≡ height_of job i
    unfolding strip_height max_of
    strip-high = omega (arith, single-high i, max_least (stack_height job) (height_of job i) (strip_of a) u.low)

    strip-staged : Staged job ((i ∷ []) ∷ strip_of a)
    strip-staged =
        record {
          single = λ t. (refl, u.single t);
          level = λ t e.
              same_alike (height_of job) (height_of job i) (items_of_strip ((i ∷ []) ∷ strip_of a))
              ((single-heights job (height_of job i) ((i ∷ []) ∷ strip_of a) (refl, u.single t)).0 (single-high i, u.level t e));
          full = λ t. inl (refl, single-high i ∙ sym strip-high);
          even = λ t e. (same_alike (width_of job) (width_of job i) (i ∷ []) (refl, tt), u.even e);
        }

    strip-across : width_of job i ≤ w → strip_width job ((i ∷ []) ∷ strip_of a) ≤ w
    unfolding strip_width gap_sum sum_of
    strip-across k = omega (arith, single-wide i, u.across)

  module _ (sided : Sided job) where
    -- stage 3: the items above one another fall in width, in 3E all of one width
    pub above : three job.mode ≡ true → (w h : ℕ) (x : Tree) → Pattern job (plate w (h - job.blade) 3) x → Above w h (stack_of x)
    unfolding sum_of
    above t w h leaf p = none_above w h
    above t w h (node i a b) p =
        let q = (cut-3 job w (h - job.blade) i a b t).0 p in
        let f = q.0 in
        let r = above t (width_of job i) (h - job.blade - height_of job i) b q.3 in
        record {
          types = (f.type, r.types);
          narrow = (f.wide, every_map (λ j (k : width_of job j ≤ width_of job i). omega (arith, f.wide)) (stack_of b) r.narrow);
          same = λ e. (q.1 e, every_map (λ j (k : width_of job j ≡ width_of job i). k ∙ q.1 e) (stack_of b) (r.same e));
          falls = (r.narrow, r.falls);
          tall = omega (arith, f.high, laid-sides job sided i f.type, r.tall);
        }

    -- stage 2, its first cut
    pub begun : (w h i : ℕ) (a b : Tree) → Pattern job (plate w h 2) (node i a b) → Begun w h i a b
    begun w h i a b p = go (three job.mode) refl
      where
        go : (t : Bool) → three job.mode ≡ t → Begun w h i a b
        go true t =
            let q = (cut-2-three job w h i a b t).0 p in
            record {
              within = q.0;
              items = above t (width_of job i) (h - height_of job i) a q.1;
              alone = λ t'. absurd (false≢true (sym t' ∙ t));
              just = λ t'. absurd (false≢true (sym t' ∙ t));
              further = rw t q.2;
            }
        go false t =
            let q = (cut-2-two job w h i a b t).0 p in
            let e : a ≡ leaf = waste-leaf job sided a q.2 in
            record {
              within = q.0;
              items = rw e (none_above (width_of job i) (h - height_of job i));
              alone = λ t'. rw e refl;
              just = λ t'. q.1;
              further = rw t q.3;
            }

    -- stage 2: the stacks beside one another, in two stages single items that fall in height, in 2E all of one height
    pub beside : (w h : ℕ) (x : Tree) → Pattern job (plate (w - job.blade) h 2) x → Beside w h (strip_of x)
    unfolding sum_of
    beside w h leaf p =
        record {
          stacks = tt;
          types = tt;
          low = tt;
          across = omega arith;
          single = λ t. tt;
          level = λ t e. tt;
          order = λ t. tt;
          even = λ e. tt;
          falls = tt;
        }
    beside w h (node i a b) p =
        let v : ℕ = w - job.blade in
        let q = begun v h i a b p in
        let m : ℕ = cond (three job.mode) h (height_of job i) in
        let r = beside (v - width_of job i) m b q.further in
        let lower : m ≤ h = at_most (three job.mode) q.within.high in
        record {
          stacks = (tt, r.stacks);
          types = ((q.within.type, q.items.types), r.types);
          low = (stack-high v h i a b q, every_map (λ s (k : stack_height job s ≤ m). omega arith) (strip_of b) r.low);
          across = omega (arith, stack-wide v h i a b q, q.within.wide, laid-sides job sided i q.within.type, r.across);
          single = λ t. (ap (λ (l : Stack). length (i ∷ l)) (q.alone t), r.single t);
          level = λ t e. (
            stack-alone v h i a b q t ∙ q.just t e,
            every_map (λ s (k : stack_height job s ≡ m). k ∙ same t ∙ q.just t e) (strip_of b) (r.level t e),
          );
          order = λ t. (
            every_map (λ s (k : stack_height job s ≤ m). omega (arith, stack-alone v h i a b q t, same t)) (strip_of b) r.low,
            r.order t,
          );
          even = λ e. (stack-even v h i a b q e, r.even e);
          falls = ((q.items.narrow, q.items.falls), r.falls);
        }
      where
        at_most : (t : Bool) → height_of job i ≤ h → cond t h (height_of job i) ≤ h
        at_most true k = omega arith
        at_most false k = k

        same : three job.mode ≡ false → cond (three job.mode) h (height_of job i) ≡ height_of job i
        same t = rw t refl

    -- stage 1: the strips, on a plate of the board's width
    pub over : (w h : ℕ) (x : Tree) → Pattern job (plate w (h - job.blade) 1) x → Over w h (board_of x)
    unfolding sum_of
    over w h leaf p = record { strips = λ sz e. tt; up = omega arith }
    over w h (node i a b) p =
        let q = (cut-1 job w (h - job.blade) i a b).0 p in
        let f = q.0 in
        let u = beside (w - width_of job i) (height_of job i) a q.1 in
        let r = over w (h - job.blade - height_of job i) b q.2 in
        record {
          strips = λ sz e. (
            record {
              filled = tt;
              stacks = (tt, u.stacks);
              types = ((f.type, tt), u.types);
              staged = strip-staged w i a u;
              across = omega (arith, strip-across w i a u f.wide);
            },
            r.strips sz e,
          );
          up = omega (arith, strip-high w i a u, f.high, laid-sides job sided i f.type, r.up);
        }

    -- the layout of a pattern of the board keeps the rules
    pub pattern-ok : (sz : Size) (x : Tree) → x ≢ leaf → Pattern job (board sz) x → BoardOk job sz (board_of x)
    unfolding board_height gap_sum
    pattern-ok sz leaf d p = absurd (d refl)
    pattern-ok sz (node i a b) d p =
        let e : sz.height + job.blade - job.blade ≡ sz.height = omega arith in
        let r = over sz.width (sz.height + job.blade) (node i a b) (rw e p) in
        record { filled = tt; strips = r.strips sz refl; up = omega (arith, r.up) }

    -- the sides of what a cut begins: at stage 2 a stack as wide as its first item, at stage 1 a strip as high as its first item
    pub stack-width : (w h i : ℕ) (a b : Tree) → Pattern job (plate w h 2) (node i a b) → stack_width job (i ∷ stack_of a) ≡ width_of job i
    stack-width w h i a b p = stack-wide w h i a b (begun w h i a b p)

    pub strip-height :
        (w h i : ℕ) (a b : Tree)
        → Pattern job (plate w h 1) (node i a b)
        → strip_height job ((i ∷ []) ∷ strip_of a) ≡ height_of job i
    strip-height w h i a b p = strip-high w i a (beside (w - width_of job i) (height_of job i) a ((cut-1 job w h i a b).0 p).1)
