-- Document 01, "Unfolding": the machine with at most three pieces waiting does the cuts of the trees, and places their items in turn.
use Prim.Native.Nat.{ℕ, suc, ◌+◌, ◌*◌, ◌<◌}
use native.Mathlib.Omega.{arith}
use mathlib.Core.Path.{◌≡◌, refl}
use mathlib.Core.List.{List, [], ◌∷◌, ◌++◌}
use mathlib.Core.Option.{Option, none, some}
use Rattle.job.specs.Job.{Job}
use Rattle.job.specs.Admitted.{Sided}
use Rattle.listing.specs.Listing.{Listing, plate_at, cut_at}
use Rattle.listing.specs.Model.{Model}
use Rattle.layouts.specs.Layout.{width_of, height_of}
use Rattle.layouts.specs.Placement.{Opened, opened, turn, Placement, stack_lines}
use Rattle.layouts.specs.Unfold.{Piece, spent}
use Rattle.layouts.proofs.trees.Tree.{Tree, leaf, node, tsum}
use Rattle.layouts.proofs.trees.Pattern.{branch_of, rest_of, stack_of}
use Rattle.layouts.proofs.trees.Cuts.{IsCut, plate_of}
use Rattle.layouts.proofs.trees.Stages.{cut-stage, branch-1, rest-1, branch-2, rest-2, rest-3, top-1, right-1, top-2, right-2, top-3, right-3, branch-stage-1, rest-stage-1, branch-stage-2, rest-stage-2, branch-stage-3, rest-stage-3}
use Rattle.layouts.proofs.trees.Balance.{root_size}
use Rattle.layouts.proofs.trees.CutTree.{item_tree}
use Rattle.layouts.proofs.machine.Search.{found-cut}
use Rattle.layouts.proofs.machine.Greedy.{pick, Grow, wasted, over, cut}
use Rattle.layouts.proofs.machine.MachineSteps.{◌and-then◌, state, piece, slot, placement, Leads, no_step, more-steps, step-placed, step-over, over-1, over-2, over-3, cut-1, cut-2, cut-3}

-- the items of a tree of stage 2, a stack for each node, from stack k on, from x rightwards
abbrev pub emit_strip : Job → Opened → ℕ → ℕ → ℕ → ℕ → Tree → List Placement
emit_strip job bd s k x y leaf = []
emit_strip job bd s k x y (node i a b) = stack_lines job bd s k 1 x y (i ∷ stack_of a) ++ emit_strip job bd s (suc k) (x + width_of job i + job.blade) y b

-- the items of a tree of stage 1, a strip for each node, from strip s on, from y upwards
abbrev pub emit_board : Job → Opened → ℕ → ℕ → Tree → List Placement
emit_board job bd s y leaf = []
emit_board job bd s y (node i a b) =
    placement (turn bd s 1 1) i 0 y ∷ (emit_strip job bd s 2 (0 + width_of job i + job.blade) y a ++ emit_board job bd (suc s) (y + height_of job i + job.blade) b)

-- the items of the boards' trees of cuts, from board bd on
abbrev pub emit_set : Job → Listing → ℕ → List Tree → List Placement
emit_set job l bd [] = []
emit_set job l bd (t ∷ ts) = emit_board job (opened bd (root_size l t)) 1 0 (item_tree l t) ++ emit_set job l (suc bd) ts

-- the number of cuts of a tree
abbrev pub cuts_in : Tree → ℕ
cuts_in t = tsum (λ _. 1) t

-- from a residual that is not kept nothing is cut
grow-none : (l : Listing) {j : ℕ} {ns ns' : List ℕ} {t : Tree} → Grow l j ns t ns' → j ≡ 0 → (t ≡ leaf) × (ns' ≡ ns)
grow-none l wasted e = (refl, refl)
grow-none l (over q) e = absurd (omega arith)
grow-none l (cut q g h) e = absurd (omega arith)

module _ (job : Job) (l : Listing) (m : Model job l) (sided : Sided job) where
  -- One cut: its branch and its rest wait, each in the place of its stage.
  module _ (u v : Option Piece) (j x y : ℕ) (bd : Opened) (s k p : ℕ) (ns : List ℕ) (c : ℕ) (q : pick l j ns ≡ some c) where
    abbrev i : ℕ
    i = (cut_at l c).item

    is_cut : IsCut l c
    is_cut = (found-cut l j ns c q).0

    -- at stage 3, 2 and 1
    place-3 : (plate_of l c).stage ≡ 3 → (ns₁ : List ℕ) → ns₁ ≡ spent ns c
        → Leads job l 1 (state u v (some (piece j x y)) (turn bd s k p) ns) (placement (turn bd s k (suc p)) i x y ∷ [])
        (state u v (slot (rest_of l c) x (y + height_of job i + job.blade)) (turn bd s k (suc p)) ns₁)
    place-3 e ns₁ f =
        step-placed job l _ _ _
        (rw (rest-3 l c e, f) (cut-3 job l u v j x y bd s k p ns c q (top-3 job l m sided c is_cut e) (right-3 job l m sided c is_cut e)))

    place-2 : (plate_of l c).stage ≡ 2
        → Leads job l 1 (state u (some (piece j x y)) none (turn bd s k p) ns) (placement (turn bd s (suc k) 1) i x y ∷ [])
        (state u (slot (rest_of l c) (x + width_of job i + job.blade) y) (slot (branch_of l c) x (y + height_of job i + job.blade)) (turn bd s (suc k) 1) (spent ns c))
    place-2 e =
        step-placed job l _ _ _
        (rw (rest-2 l c e, branch-2 l c e) (cut-2 job l u v j x y bd s k p ns c q (top-2 job l m sided c is_cut e) (right-2 job l m sided c is_cut e)))

    pub place-1 : (plate_of l c).stage ≡ 1
        → Leads job l 1 (state (some (piece j x y)) none none (turn bd s k p) ns) (placement (turn bd (suc s) 1 1) i x y ∷ [])
        (state (slot (rest_of l c) x (y + height_of job i + job.blade)) (slot (branch_of l c) (x + width_of job i + job.blade) y) none (turn bd (suc s) 1 1) (spent ns c))
    place-1 e =
        step-placed job l _ _ _
        (rw (rest-1 l c e, branch-1 l c e) (cut-1 job l u v j x y bd s k p ns c q (top-1 job l m sided c is_cut e) (right-1 job l m sided c is_cut e)))

  -- a piece of stage 3: its stack goes on after place p
  reach-3 : {j : ℕ} {ns ns' : List ℕ} {t : Tree} → Grow l j ns t ns' → (0 < j → (plate_at l j).stage ≡ 3) → (u v : Option Piece) (x y : ℕ) (bd : Opened) (s k p : ℕ)
      → (p' : ℕ) × Leads job l (suc (3 * cuts_in t)) (state u v (slot j x y) (turn bd s k p) ns) (stack_lines job bd s k (suc p) x y (stack_of (item_tree l t))) (state u v none (turn bd s k p') ns')
  unfolding stack_lines
  reach-3 wasted h u v x y bd s k p = (p, more-steps job l (omega arith) (no_step job l _))
  reach-3 (over {j} {ns} q) h u v x y bd s k p = (p, step-over job l _ _ _ (over-3 job l u v (suc j) x y (turn bd s k p) ns q))
  reach-3 (cut {j} {c} {ns} {ns₁} {ns₂} {a} {b} q g r) h u v x y bd s k p =
      let (i, on) = found-cut l (suc j) ns c q in
      let e : (plate_of l c).stage ≡ 3 = cut-stage l c (suc j) 3 on (h (omega arith)) in
      let (_, same) = grow-none l g (branch-stage-3 job l m sided c i e) in
      let (p', w) = reach-3 r (rest-stage-3 job l m sided c i e) u v x (y + height_of job (cut_at l c).item + job.blade) bd s k (suc p) in (
        p',
        more-steps job l (omega arith) (◌and-then◌ job l (place-3 u v (suc j) x y bd s k p ns c q e ns₁ same) w),
      )

  -- a piece of stage 2: its strip goes on after stack k
  pub reach-2 : {j : ℕ} {ns ns' : List ℕ} {t : Tree} → Grow l j ns t ns' → (0 < j → (plate_at l j).stage ≡ 2) → (u : Option Piece) (x y : ℕ) (bd : Opened) (s k p : ℕ)
      → (k' p' : ℕ) × Leads job l (suc (3 * cuts_in t)) (state u (slot j x y) none (turn bd s k p) ns) (emit_strip job bd s (suc k) x y (item_tree l t)) (state u none none (turn bd s k' p') ns')
  unfolding stack_lines
  reach-2 wasted h u x y bd s k p = (k, p, more-steps job l (omega arith) (no_step job l _))
  reach-2 (over {j} {ns} q) h u x y bd s k p = (k, p, step-over job l _ _ _ (over-2 job l u none (suc j) x y (turn bd s k p) ns q))
  reach-2 (cut {j} {c} {ns} {ns₁} {ns₂} {a} {b} q g r) h u x y bd s k p =
      let (i, on) = found-cut l (suc j) ns c q in
      let e : (plate_of l c).stage ≡ 2 = cut-stage l c (suc j) 2 on (h (omega arith)) in
      let (p₁, w) = reach-3 g (branch-stage-2 job l m sided c i e) u (slot (rest_of l c) (x + width_of job (cut_at l c).item + job.blade) y) x (y + height_of job (cut_at l c).item + job.blade) bd s (suc k) 1 in
      let (k', p', w') = reach-2 r (rest-stage-2 job l m sided c i e) u (x + width_of job (cut_at l c).item + job.blade) y bd s (suc k) p₁ in (
        k',
        p',
        more-steps job l {st' = state u none none (turn bd s k' p') ns₂} (omega arith)
            (◌and-then◌ job l {st'' = state u none none (turn bd s k' p') ns₂} (◌and-then◌ job l (place-2 u none (suc j) x y bd s k p ns c q e) w) w'),
      )

  -- a piece of stage 1: its board goes on after strip s
  pub reach-1 : {j : ℕ} {ns ns' : List ℕ} {t : Tree} → Grow l j ns t ns' → (0 < j → (plate_at l j).stage ≡ 1) → (y : ℕ) (bd : Opened) (s k p : ℕ)
      → (s' k' p' : ℕ) × Leads job l (suc (3 * cuts_in t)) (state (slot j 0 y) none none (turn bd s k p) ns) (emit_board job bd (suc s) y (item_tree l t)) (state none none none (turn bd s' k' p') ns')
  reach-1 wasted h y bd s k p = (s, k, p, more-steps job l (omega arith) (no_step job l _))
  reach-1 (over {j} {ns} q) h y bd s k p = (s, k, p, step-over job l _ _ _ (over-1 job l none none (suc j) 0 y (turn bd s k p) ns q))
  reach-1 (cut {j} {c} {ns} {ns₁} {ns₂} {a} {b} q g r) h y bd s k p =
      let (i, on) = found-cut l (suc j) ns c q in
      let e : (plate_of l c).stage ≡ 1 = cut-stage l c (suc j) 1 on (h (omega arith)) in
      let (k₁, p₁, w) = reach-2 g (branch-stage-1 job l m sided c i e) (slot (rest_of l c) 0 (y + height_of job (cut_at l c).item + job.blade)) (0 + width_of job (cut_at l c).item + job.blade) y bd (suc s) 1 1 in
      let (s', k', p', w') = reach-1 r (rest-stage-1 job l m sided c i e) (y + height_of job (cut_at l c).item + job.blade) bd (suc s) k₁ p₁ in (
        s',
        k',
        p',
        more-steps job l {st' = state none none none (turn bd s' k' p') ns₂} (omega arith)
            (◌and-then◌ job l {st'' = state none none none (turn bd s' k' p') ns₂} (◌and-then◌ job l (place-1 none none (suc j) 0 y bd s k p ns c q e) w) w'),
      )
