-- From layouts to patterns: a board that keeps the layout rules, put in folding's order, is the layout of a cut pattern of the board.
use Prim.Native.Nat.{ℕ, ◌+◌, ◌-◌, ◌≤◌}
use native.Mathlib.Omega.{arith}
use mathlib.Core.Path.{◌≡◌, refl, sym, ap, ◌∙◌}
use mathlib.Core.Logic.{◌≢◌}
use mathlib.Core.Bool.{Bool, true, false}
use mathlib.Core.List.{[], ◌∷◌, map}
use Rattle.job.specs.Lists.{sum_of, gap_sum, max_of}
use Rattle.job.specs.Mode.{three, exact}
use Rattle.job.specs.declared.size.Size.{Size}
use Rattle.job.specs.Job.{Job}
use Rattle.job.proofs.Sums.{sum_of-map, sum_of-same}
use Rattle.listing.specs.Plate.{plate, board}
use Rattle.layouts.specs.Layout.{Stack, Strip, Board, width_of, height_of, stack_width, stack_height, strip_width, strip_height, board_height, full_stack}
use Rattle.layouts.specs.Placement.{items_of_strip, items_of_board}
use Rattle.layouts.specs.Rules.{Every, Some, Filled, Alike, Single, OfJob, StripOk, BoardOk}
use Rattle.layouts.specs.Fold.{falling, to_front, ordered}
use Rattle.layouts.proofs.lists.Every.{every_map, every-of-map, some-of-map, max-above}
use Rattle.layouts.specs.Exact.{Falling}
use Rattle.layouts.proofs.lists.Sort.{every-falling, sum-falling, max-falling, length-falling, filled-falling, falling-falls, every_front, sum-front, front-passes, HeadPasses}
use Rattle.layouts.proofs.rules.RulesExact.{same_alike, alike_same, single-heights, full-exact}
use Rattle.layouts.proofs.trees.Tree.{leaf, tsum}
use Rattle.layouts.proofs.trees.Pattern.{Pattern, board_of, stack_tree, strip_tree, board_tree}
use Rattle.layouts.proofs.patterns.PatternSteps.{Within, cut-1, cut-2-three, cut-2-two, cut-3}
use Rattle.layouts.proofs.patterns.OrderForm.{Formed, formed-back, formed-items, formed-node}
use Rattle.layouts.proofs.patterns.Order.{ordered-three, ordered-two, ordered-filled, ordered-board-sum}

module _ (job : Job) (sz : Size) where
  -- items that fall in width are a pattern of a stage 3 plate
  pattern-stack :
      three job.mode ≡ true
      → (w h : ℕ) (s : Stack)
      → Every (OfJob job) s
      → Every (λ i. width_of job i ≤ w) s
      → (exact job.mode ≡ true → Every (λ i. width_of job i ≡ w) s)
      → Falling (width_of job) s
      → stack_height job s ≤ h
      → Pattern job (plate w h 3) (stack_tree s)
  unfolding stack_height gap_sum sum_of
  pattern-stack t w h [] ty na sa fa up = tt
  pattern-stack t w h (i ∷ s) ty na sa fa up =
      (cut-3 job w h i leaf (stack_tree s) t).1 (
        record { type = ty.0; wide = na.0; high = omega arith },
        λ e. (sa e).0,
        tt,
        pattern-stack t (width_of job i) (h - height_of job i - job.blade) s ty.1 fa.0
            (λ e. every_map (λ j (q : width_of job j ≡ w). q ∙ sym (sa e).0) s (sa e).1) fa.1 (omega arith),
      )

  -- a stack in order, at most h high
  record InOrder (h : ℕ) (s : Stack) : Type 0 where
    filled : Filled s
    types : Every (OfJob job) s
    falls : Falling (width_of job) s
    even : exact job.mode ≡ true → Alike (width_of job) s
    low : stack_height job s ≤ h

  -- such stacks are a pattern of a stage 2 plate of three stages
  pattern-stacks :
      three job.mode ≡ true
      → (w h : ℕ) (s : Strip)
      → Every (InOrder h) s
      → strip_width job s ≤ w
      → Pattern job (plate w h 2) (strip_tree s)
  unfolding strip_width stack_width stack_height gap_sum sum_of max_of
  pattern-stacks t w h [] g up = tt
  pattern-stacks t w h ([] ∷ s) g up = tt
  pattern-stacks t w h ((i ∷ k) ∷ s) g up =
      let q = g.0 in
      (cut-2-three job w h i (stack_tree k) (strip_tree s) t).1 (
        record { type = q.types.0; wide = omega arith; high = omega (arith, q.low) },
        pattern-stack t (width_of job i) (h - height_of job i - job.blade) k q.types.1 q.falls.0
            (λ e. every_map (λ j (r : width_of job i ≡ width_of job j). sym r) k (q.even e).0.1) q.falls.1 (omega (arith, q.low)),
        pattern-stacks t (w - width_of job i - job.blade) h s g.1 (omega arith),
      )

  -- a single item, at most h high
  record Level (h : ℕ) (s : Stack) : Type 0 where
    single : Single s
    types : Every (OfJob job) s
    low : stack_height job s ≤ h
    just : exact job.mode ≡ true → stack_height job s ≡ h

  -- such items that fall in height are a pattern of a stage 2 plate of two stages
  pattern-singles :
      three job.mode ≡ false
      → (w h : ℕ) (s : Strip)
      → Every (Level h) s
      → Falling (stack_height job) s
      → strip_width job s ≤ w
      → Pattern job (plate w h 2) (strip_tree s)
  unfolding strip_width stack_width stack_height gap_sum sum_of max_of
  pattern-singles t w h [] g fa up = tt
  pattern-singles t w h ([] ∷ s) g fa up = tt
  pattern-singles t w h ((i ∷ j ∷ k) ∷ s) g fa up = absurd (omega (arith, g.0.single))
  pattern-singles t w h ((i ∷ []) ∷ s) g fa up =
      let q = g.0 in
      (cut-2-two job w h i leaf (strip_tree s) t).1 (
        record { type = q.types.0; wide = omega arith; high = omega (arith, q.low) },
        λ e. omega (arith, q.just e),
        tt,
        pattern-singles t (w - width_of job i - job.blade) (height_of job i) s (lower s g.1 fa.0 q.just) fa.1 (omega arith),
      )
    where
      lower :
          (m : Strip)
          → Every (Level h) m
          → Every (λ k. stack_height job k ≤ stack_height job (i ∷ [])) m
          → (exact job.mode ≡ true → stack_height job (i ∷ []) ≡ h)
          → Every (Level (height_of job i)) m
      lower [] g f e = tt
      lower (k ∷ m) g f e = (
        record { single = g.0.single; types = g.0.types; low = omega (arith, f.0); just = λ x. omega (arith, g.0.just x, e x) },
        lower m g.1 f.1 e,
      )

  -- sorting a stack keeps its sides
  falling-high : (s : Stack) → stack_height job (falling (width_of job) s) ≡ stack_height job s
  unfolding stack_height gap_sum
  falling-high s = ap (λ (n : ℕ). n - job.blade) (sum-falling (width_of job) (λ i. height_of job i + job.blade) s)

  falling-wide : (s : Stack) → stack_width job (falling (width_of job) s) ≡ stack_width job s
  unfolding stack_width
  falling-wide s = max-falling (width_of job) (width_of job) s

  falling-even : (s : Stack) → Alike (width_of job) s → Alike (width_of job) (falling (width_of job) s)
  falling-even s h =
      same_alike (width_of job) (max_of (width_of job) s) (falling (width_of job) s)
      (every-falling (width_of job) (λ i. width_of job i ≡ max_of (width_of job) s) s (alike_same (width_of job) s h))

  -- a strip in order, at most h high: a single item first, and a pattern beside it
  abbrev Ready : ℕ → Strip → Type 0
  Ready h [] = ⊥
  Ready h ([] ∷ s) = ⊥
  Ready h ((i ∷ is) ∷ s) =
      (is ≡ []) × Within job sz.width h i × Pattern job (plate (sz.width - width_of job i - job.blade) (height_of job i) 2) (strip_tree s)

  -- two stages: single items in falling height, in an exact mode all of one height c
  ready-items :
      three job.mode ≡ false
      → (h c : ℕ) (s : Strip)
      → Filled s
      → Every Single s
      → Every (Every (OfJob job)) s
      → Every (λ k. stack_height job k ≤ h) s
      → (exact job.mode ≡ true → Every (λ k. stack_height job k ≡ c) s)
      → Falling (stack_height job) s
      → strip_width job s ≤ sz.width
      → Ready h s
  unfolding strip_width stack_width stack_height gap_sum sum_of max_of
  ready-items t h c [] fi si ty lo le fa cr = absurd fi
  ready-items t h c ([] ∷ s) fi si ty lo le fa cr = absurd (omega (arith, si.0))
  ready-items t h c ((i ∷ j ∷ k) ∷ s) fi si ty lo le fa cr = absurd (omega (arith, si.0))
  ready-items t h c ((i ∷ []) ∷ s) fi si ty lo le fa cr = (
    refl,
    record { type = ty.0.0; wide = omega arith; high = omega (arith, lo.0) },
    pattern-singles t (sz.width - width_of job i - job.blade) (height_of job i) s
        (level s si.1 ty.1 fa.0 (λ e. (le e).1) (λ e. (le e).0)) fa.1 (omega arith),
  )
    where
      level :
          (m : Strip)
          → Every Single m
          → Every (Every (OfJob job)) m
          → Every (λ k. stack_height job k ≤ stack_height job (i ∷ [])) m
          → (exact job.mode ≡ true → Every (λ k. stack_height job k ≡ c) m)
          → (exact job.mode ≡ true → stack_height job (i ∷ []) ≡ c)
          → Every (Level (height_of job i)) m
      level [] a b f d e = tt
      level (k ∷ m) a b f d e = (
        record { single = a.0; types = b.0; low = omega (arith, f.0); just = λ x. omega (arith, (d x).0, e x) },
        level m a.1 b.1 f.1 (λ x. (d x).1) e,
      )

  ready-two : (s : Strip) → three job.mode ≡ false → StripOk job sz s → Ready (strip_height job s) (falling (stack_height job) s)
  unfolding strip_height strip_width gap_sum
  ready-two s t k =
      ready-items t (strip_height job s) (max_of (height_of job) (items_of_strip s)) (falling (stack_height job) s)
      (filled-falling (stack_height job) s k.filled)
      (every-falling (stack_height job) Single s (k.staged.single t))
      (every-falling (stack_height job) (Every (OfJob job)) s k.types)
      (every-falling (stack_height job) (λ a. stack_height job a ≤ strip_height job s) s (max-above (stack_height job) s))
      (λ e.
      every-falling (stack_height job) (λ a. stack_height job a ≡ max_of (height_of job) (items_of_strip s)) s
      ((single-heights job (max_of (height_of job) (items_of_strip s)) s (k.staged.single t)).1
      (alike_same (height_of job) (items_of_strip s) (k.staged.level t e))))
      (falling-falls (stack_height job) s)
      (omega (arith, sum-falling (stack_height job) (λ k. stack_width job k + job.blade) s, k.across))

  -- three stages: stacks in order, the first a single item of height h
  ready-stacks :
      three job.mode ≡ true
      → (h : ℕ) (s : Strip)
      → HeadPasses (full_stack job h) s
      → Every (InOrder h) s
      → strip_width job s ≤ sz.width
      → Ready h s
  unfolding strip_width stack_width stack_height gap_sum sum_of max_of
  ready-stacks t h [] hp g cr = absurd hp
  ready-stacks t h ([] ∷ s) hp g cr = absurd (omega (arith, ((full-exact job h []).0 hp).0))
  ready-stacks t h ((i ∷ j ∷ k) ∷ s) hp g cr = absurd (omega (arith, ((full-exact job h (i ∷ j ∷ k)).0 hp).0))
  ready-stacks t h ((i ∷ []) ∷ s) hp g cr =
      let z : height_of job i ≡ h = omega (arith, ((full-exact job h (i ∷ [])).0 hp).1) in (
        refl,
        record { type = g.0.types.0; wide = omega arith; high = omega arith },
        rw z (pattern-stacks t (sz.width - width_of job i - job.blade) h s g.1 (omega arith)),
      )

  ready-three :
      (s : Strip)
      → three job.mode ≡ true
      → StripOk job sz s
      → Ready (strip_height job s) (to_front (full_stack job (strip_height job s)) (map (falling (width_of job)) s))
  unfolding strip_height strip_width gap_sum
  ready-three s t k =
      ready-stacks t (strip_height job s) (to_front test s₁)
      (front-passes test s₁ passes)
      (every_front test (InOrder (strip_height job s)) s₁
      (in_order s k.stacks k.types (k.staged.even t) (max-above (stack_height job) s)))
      (omega (
        arith,
        sum-front test (λ a. stack_width job a + job.blade) s₁,
        sum_of-map (λ a. stack_width job a + job.blade) (falling (width_of job)) s,
        sum_of-same (λ a. stack_width job (falling (width_of job) a) + job.blade) (λ a. stack_width job a + job.blade) s (λ a. ap (λ (n : ℕ). n + job.blade) (falling-wide a)),
        k.across,
      ))
    where
      s₁ : Strip
      s₁ = map (falling (width_of job)) s

      test : Stack → Bool
      test = full_stack job (strip_height job s)

      passes : Some (λ a. test a ≡ true) s₁
      passes =
          some-of-map (λ a. Single a × (stack_height job a ≡ strip_height job s)) (λ a. test a ≡ true) (falling (width_of job))
          (λ a q. (full-exact job (strip_height job s) (falling (width_of job) a)).1 (length-falling (width_of job) a ∙ q.0, falling-high a ∙ q.1))
          s (k.staged.full t)

      in_order : (m : Strip) → Every Filled m → Every (Every (OfJob job)) m → (exact job.mode ≡ true → Every (Alike (width_of job)) m)
          → Every (λ a. stack_height job a ≤ strip_height job s) m → Every (InOrder (strip_height job s)) (map (falling (width_of job)) m)
      in_order [] a b c d = tt
      in_order (x ∷ m) a b c d = (
        record {
          filled = filled-falling (width_of job) x a.0;
          types = every-falling (width_of job) (OfJob job) x b.0;
          falls = falling-falls (width_of job) x;
          even = λ e. falling-even x (c e).0;
          low = omega (arith, falling-high x, d.0);
        },
        in_order m a.1 b.1 (λ e. (c e).1) d.1,
      )

  ready : (s : Strip) → StripOk job sz s → Ready (strip_height job s) (ordered job s)
  ready s k = go (three job.mode) refl
    where
      go : (t : Bool) → three job.mode ≡ t → Ready (strip_height job s) (ordered job s)
      go true t = rw (ordered-three job s t) (ready-three s t k)
      go false t = rw (ordered-two job s t) (ready-two s t k)

  -- a strip that keeps the rules, in order: a single item first, nothing empty
  ordered-formed : (s : Strip) → StripOk job sz s → Formed (ordered job s)
  ordered-formed s k = go (ordered job s) (ready s k) (ordered-filled job s k.stacks)
    where
      go : (m : Strip) → Ready (strip_height job s) m → Every Filled m → Formed m
      go [] q f = absurd q
      go ([] ∷ m) q f = absurd q
      go ((i ∷ is) ∷ m) q f = (q.0, f.1)

  board-formed : (b : Board) → Every (StripOk job sz) b → Every Formed (map (ordered job) b)
  board-formed b k = every-of-map Formed (ordered job) b (every_map ordered-formed b k)

  -- strips that keep the rules, in order, are a pattern of a stage 1 plate
  ordered-strips :
      (h : ℕ) (b : Board)
      → Every (StripOk job sz) b
      → board_height job b ≤ h
      → Pattern job (plate sz.width h 1) (board_tree (map (ordered job) b))
  unfolding board_height gap_sum sum_of
  ordered-strips h [] k up = tt
  ordered-strips h (s ∷ b) k up = go (ordered job s) (ready s k.0) (λ m. ordered-strips m b k.1)
    where
      go :
          (m : Strip)
          → Ready (strip_height job s) m
          → ((n : ℕ) → board_height job b ≤ n → Pattern job (plate sz.width n 1) (board_tree (map (ordered job) b)))
          → Pattern job (plate sz.width h 1) (board_tree (m ∷ map (ordered job) b))
      go [] q rec = tt
      go ([] ∷ m) q rec = tt
      go ((i ∷ is) ∷ m) q rec =
          let f = q.1 in
          (cut-1 job sz.width h i (strip_tree m) (board_tree (map (ordered job) b))).1 (
            record { type = f.type; wide = f.wide; high = omega (arith, f.high) },
            q.2,
            rec (h - height_of job i - job.blade) (omega (arith, f.high)),
          )

  filled-ordered : (b : Board) → Filled b → Filled (map (ordered job) b)
  filled-ordered [] n = absurd n
  filled-ordered (s ∷ b) n = tt

  -- what a board becomes in folding's order: strips that each begin with a single item and have no empty stack, so that its tree cuts nothing
  -- short; the tree is a pattern of the board, not empty, and has all the board's items
  pub record Cuttable (b : Board) : Type 0 where
    pub formed : Every Formed (map (ordered job) b)
    pub back : board_of (board_tree (map (ordered job) b)) ≡ map (ordered job) b
    pub pattern : Pattern job (board sz) (board_tree (map (ordered job) b))
    pub some : board_tree (map (ordered job) b) ≢ leaf
    pub items : (f : ℕ → ℕ) → tsum f (board_tree (map (ordered job) b)) ≡ sum_of f (items_of_board b)

  -- every board that keeps the rules becomes so
  pub board-cuttable : (b : Board) → BoardOk job sz b → Cuttable b
  board-cuttable b k =
      record {
        formed = board-formed b k.strips;
        back = formed-back (map (ordered job) b) (board-formed b k.strips);
        pattern = ordered-strips sz.height b k.strips k.up;
        some = formed-node (map (ordered job) b) (filled-ordered b k.filled) (board-formed b k.strips);
        items = λ f. formed-items f (map (ordered job) b) (board-formed b k.strips) ∙ ordered-board-sum job f b;
      }
