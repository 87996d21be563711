-- Document 01, "Unfolding": of an accepted plan the machine does the cuts of the boards' trees, spends every count, and its steps are enough.
use Prim.Native.Nat.{ℕ, zero, suc, ◌+◌, ◌*◌, ◌-◌, ◌≤◌, ◌<◌}
use native.Mathlib.Omega.{arith}
use mathlib.Core.Path.{◌≡◌, refl, sym, ◌∙◌, ap}
use mathlib.Core.Logic.{◌⊎◌, inl, inr, ◌≢◌}
use mathlib.Core.List.{List, append-nil}
use mathlib.Core.Option.{none, some}
use lib.Dec.{eqb}
use lib.ListN.{length, get_or}
use borrow.Author.Tests.{lt-ltb, le-ltb}
use Rattle.job.specs.Lists.{sum_of}
use Rattle.job.specs.Job.{Job}
use Rattle.job.specs.Admitted.{Sided}
use Rattle.job.proofs.Tests.{equal_or_not}
use Rattle.job.proofs.Sums.{bit, bit-same, length-sum}
use Rattle.listing.specs.Listing.{Listing, cut_at}
use Rattle.listing.specs.Model.{Model}
use Rattle.plan.specs.Plan.{on_plate, on_size, boards, boards_of, total}
use Rattle.plan.specs.Feasible.{Feasible, NonePast}
use Rattle.layouts.specs.Layout.{width_of, height_of}
use Rattle.layouts.specs.Placement.{Opened, opened, turn, Placement}
use Rattle.layouts.specs.Unfold.{nothing_waits, State, next_size, open_board, Run, run, steps_for, start_of, unfolded}
use Rattle.layouts.proofs.trees.Tree.{Tree, fsum}
use Rattle.layouts.proofs.trees.Pattern.{rest_of}
use Rattle.layouts.proofs.trees.WeightedSums.{wsum, weight, total-wsum, count_of-wsum}
use Rattle.layouts.proofs.trees.Cuts.{plate_of}
use Rattle.layouts.proofs.trees.Stages.{board-stage, branch-stage-1, rest-stage-1}
use Rattle.layouts.proofs.trees.Balance.{Roots, boards-set}
use Rattle.layouts.proofs.trees.TreeItems.{roots-items}
use Rattle.layouts.proofs.machine.Search.{found-cut, spent-sum, spent-past, not_found}
use Rattle.layouts.proofs.machine.NextSize.{next-ended}
use Rattle.layouts.proofs.machine.Greedy.{pick, Grows, ended, boarded, grow-past, grows, grows-past, grows-ended, grows-ok}
use Rattle.layouts.proofs.machine.GreedyEnds.{all-spent, done-sum, done-each}
use Rattle.layouts.proofs.machine.MachineSteps.{◌and-then◌, state, slot, before, stays, Leads, no_step, more-steps, step-open, step-ends, none-waits}
use Rattle.layouts.proofs.machine.Machine.{emit_set, place-1, reach-1, reach-2}
use Rattle.layouts.proofs.machine.MachineItems.{placed-items}

-- the boards that are left to open of a size: none exactly where the search finds no cut on it
boards-left : (l : Listing) (j : ℕ) (ns : List ℕ) (c : ℕ) → NonePast l ns → pick l j ns ≡ some c → 0 < boards_of l j ns
unfolding boards_of on_plate
boards-left l j ns c past q =
    let w : bit (eqb (cut_at l c).plate j) ≡ 1 = bit-same (found-cut l j ns c q).1 in
    omega (arith, count_of-wsum (on_plate j) l ns past, spent-sum l j ns c q (weight (on_plate j) l))

none-to-open : (l : Listing) (j : ℕ) (ns : List ℕ) → NonePast l ns → pick l j ns ≡ none → boards_of l j ns ≡ 0
unfolding boards_of
none-to-open l j ns past q = count_of-wsum (on_plate j) l ns past ∙ not_found l j ns past q

-- the next size is the lowest on which the search finds a cut, of n sizes from j on
next-found : (l : Listing) (n j k c : ℕ) (ns : List ℕ) → NonePast l ns → j ≤ k → k < n + j → ((i : ℕ) → i < k → pick l i ns ≡ none) → pick l k ns ≡ some c → next_size n j l ns ≡ some k
unfolding next_size
next-found l zero j k c ns past a b low q = absurd (omega arith)
next-found l (suc n) j k c ns past a b low q = go (equal_or_not j k) (λ p. next-found l n (suc j) k c ns past p (omega arith) low q)
  where
    go : (j ≡ k) ⊎ (j ≢ k) → (suc j ≤ k → next_size n (suc j) l ns ≡ some k) → next_size (suc n) j l ns ≡ some k
    go (inl e) rec =
        let f : pick l j ns ≡ some c = ap (λ (z : ℕ). pick l z ns) e ∙ q in
        rw (lt-ltb 0 (boards_of l j ns) (boards-left l j ns c past f), next_size) (ap some e)
    go (inr d) rec =
        rw (le-ltb 0 (boards_of l j ns) (omega (arith, none-to-open l j ns past (low j (omega arith)))), next_size) (rec (omega arith))

next-none : (l : Listing) (n j : ℕ) (ns : List ℕ) → NonePast l ns → ((i : ℕ) → i < n + j → pick l i ns ≡ none) → next_size n j l ns ≡ none
next-none l n j ns past low = next-ended l n j ns (λ i p. none-to-open l i ns past (low i p))

-- what an unfolding r of the counts ns is: the trees of its boards, and that it follows them
pub record Unfolding (job : Job) (l : Listing) (ns : List ℕ) (r : Run) : Type 0 where
  -- a tree of cuts for each board
  pub trees : List Tree
  pub roots : Roots l trees
  -- they are made by taking always the lowest-numbered cut with a count left, the branch first
  pub greedy : Grows l ns trees r.last.counts
  -- every count ends at 0: each cut is done as often as it is counted
  pub all-0 : (c : ℕ) → get_or r.last.counts c 0 ≡ 0
  pub sums : (f : ℕ → ℕ) → fsum f trees ≡ wsum f 1 ns
  pub each : (c : ℕ) → fsum (λ d. bit (eqb d (1 + c))) trees ≡ get_or ns c 0
  -- the boards opened are those of the plan
  pub opens : length trees ≡ boards l ns
  pub last-board : r.last.turn.board.number ≡ length trees
  -- nothing waits in the end
  pub none_left : r.last.waiting ≡ nothing_waits
  -- the placements are the items of the trees in turn, of each type as many as the plan cuts, and in all as many as it counts
  pub rows : r.placements ≡ emit_set job l 1 trees
  pub items : (f : ℕ → ℕ) → sum_of (λ p. f p.item) r.placements ≡ wsum (λ c. f (cut_at l c).item) 1 ns
  pub pieces : length r.placements ≡ total ns

module _ (job : Job) (l : Listing) (m : Model job l) (sided : Sided job) where
  -- the boards, from board bd on
  reach-0 : {ns ns' : List ℕ} {ts : List Tree} → Grows l ns ts ns' → NonePast l ns → (bd : Opened) (s k p : ℕ)
      → (bd' : Opened) × (s' k' p' : ℕ) × (bd'.number ≡ bd.number + length ts)
      × Leads job l (4 * fsum (λ _. 1) ts) (state none none none (turn bd s k p) ns) (emit_set job l (suc bd.number) ts) (state none none none (turn bd' s' k' p') ns')
  unfolding sum_of open_board
  reach-0 (ended q) past bd s k p = (bd, s, k, p, omega arith, no_step job l _)
  reach-0 (boarded {c} {ns} {ns₁} {ns₂} {ns₃} {a} {b} {ts} size low q g r gs) past bd s k p =
      let z : ℕ = (cut_at l c).plate in
      let (i, on) = found-cut l z ns c q in
      let e : (plate_of l c).stage ≡ 1 = board-stage job l m c size in
      let next : next_size (length job.sizes) 0 l ns ≡ some (cut_at l c).plate
      = ap (λ (n : ℕ). next_size n 0 l ns) (sym m.sized) ∙ next-found l l.sizes 0 z c ns past (omega arith) (omega arith) low q in
      let bd₁ : Opened = opened (suc bd.number) (cut_at l c).plate in
      let past₁ = grow-past l g (spent-past l z ns c q past) in
      let w : ℕ = width_of job (cut_at l c).item in
      let h : ℕ = height_of job (cut_at l c).item in
      let (k₁, p₁, v₁) = reach-2 job l m sided g (branch-stage-1 job l m sided c i e) (slot (rest_of l c) 0 (0 + h + job.blade)) (0 + w + job.blade) 0 bd₁ 1 1 1 in
      let (s₂, k₂, p₂, v₂) = reach-1 job l m sided r (rest-stage-1 job l m sided c i e) (0 + h + job.blade) bd₁ 1 k₁ p₁ in
      let (bd₃, s₃, k₃, p₃, d, v₃) = reach-0 gs (grow-past l r past₁) bd₁ s₂ k₂ p₂ in (
        bd₃,
        s₃,
        k₃,
        p₃,
        omega arith,
        more-steps job l {st' = state none none none (turn bd₃ s₃ k₃ p₃) ns₃} (omega arith)
            (◌and-then◌ job l {st'' = state none none none (turn bd₃ s₃ k₃ p₃) ns₃}
            (step-open job l (state none none none (turn bd s k p) ns) z (none-waits job l (turn bd s k p) ns) next)
            (◌and-then◌ job l {st' = state none none none (turn bd₁ s₂ k₂ p₂) ns₂} {st'' = state none none none (turn bd₃ s₃ k₃ p₃) ns₃}
            (◌and-then◌ job l {st'' = state none none none (turn bd₁ s₂ k₂ p₂) ns₂}
            (◌and-then◌ job l (place-1 job l m sided none none z 0 0 bd₁ 0 0 0 ns c q e) v₁) v₂) v₃)),
      )

  module _ (ns : List ℕ) (past : NonePast l ns) (a : Feasible job l ns) where
    ending : (r : Run) × Unfolding job l ns r × ((fuel : ℕ) → 4 * total ns ≤ fuel → run fuel job l (start_of ns) ≡ r)
    unfolding boards
    ending =
        let (ts, ns', g) = grows job l m sided (suc (wsum (λ _. 1) 1 ns)) ns (omega arith) in
        let (bd', s', k', p', d, v) = reach-0 g past (opened 0 0) 0 0 0 in
        let st : State = state none none none (turn bd' s' k' p') ns' in
        let rs : List Placement = emit_set job l 1 ts in
        let ok : Roots l ts = grows-ok l g in
        let sum : (f : ℕ → ℕ) → fsum f ts ≡ wsum f 1 ns = done-sum job l m sided ns ns' ts g past a in
        let of : (f : ℕ → ℕ) → sum_of (λ p. f p.item) rs ≡ wsum (λ c. f (cut_at l c).item) 1 ns
        = λ f. placed-items f job l 1 ts ∙ roots-items f job l m sided ts ok ∙ sum (λ c. f (cut_at l c).item) in
        let stop : (fuel : ℕ) → run fuel job l st ≡ stays st
        = step-ends job l st (none-waits job l (turn bd' s' k' p') ns') (ap (λ (n : ℕ). next_size n 0 l ns') (sym m.sized) ∙ next-none l l.sizes 0 ns' (grows-past l g past) (λ i p. grows-ended l g i (omega arith))) in (
          record { placements = rs; last = st },
          record {
            trees = ts;
            roots = ok;
            greedy = g;
            all-0 = all-spent job l m sided ns ns' ts g past a;
            sums = sum;
            each = done-each job l m sided ns ns' ts g past a;
            opens = sym (boards-set job l m ts ok) ∙ sum (weight (on_size l.sizes) l) ∙ sym (count_of-wsum (on_size l.sizes) l ns past);
            last-board = omega arith;
            none_left = refl;
            rows = refl;
            items = of;
            pieces = sym (length-sum rs) ∙ of (λ _. 1) ∙ sym (total-wsum 1 ns);
          },
          λ fuel enough.
              let e : v.steps + (fuel - v.steps) ≡ fuel = omega (arith, v.few, sum (λ _. 1), total-wsum 1 ns) in
              rw e at (v.runs (fuel - v.steps)) ∙ ap (before rs) (stop (fuel - v.steps)) ∙ rw append-nil,
        )

    enough : 4 * total ns ≤ steps_for ns
    unfolding steps_for
    enough = omega arith

    -- four steps for each counted cut are enough, and any more give the same
    pub steps-enough : (fuel : ℕ) → 4 * total ns ≤ fuel → run fuel job l (start_of ns) ≡ unfolded job l ns
    unfolding unfolded
    steps-enough fuel h = ending.2 fuel h ∙ sym (ending.2 (steps_for ns) enough)

    -- the unfolding of an accepted plan
    pub unfolds : Unfolding job l ns (unfolded job l ns)
    unfolding unfolded
    unfolds = rw (ending.2 (steps_for ns) enough) ending.1
