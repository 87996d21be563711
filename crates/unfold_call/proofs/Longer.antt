-- Words past the last cut play no part: the unfolding of counts with more words behind them is that of the counts, with these words behind what is left;
-- and the same pieces are left over (request Two).
use Prim.Native.Nat.{ℕ, zero, suc, ◌-◌, ◌≤◌}
use native.Mathlib.Omega.{arith}
use mathlib.Core.Path.{◌≡◌, refl, sym, ◌∙◌, ap}
use mathlib.Core.Bool.{Bool, true, false, ◌&&◌}
use mathlib.Core.List.{List, [], ◌∷◌, ◌++◌}
use mathlib.Core.Option.{Option, some, none}
use lib.Dec.{ltb}
use lib.ListN.{length, get_or, get_or-append}
use lib.Seq.{take-append-le, set-append_left}
use Rattle.job.specs.Job.{Job}
use Rattle.listing.specs.Listing.{Cut, Listing}
use Rattle.plan.specs.Plan.{count_of, on_plate, boards_of}
use Rattle.plan.proofs.PlanExact.{count_of-take}
use Rattle.layouts.specs.Unfold.{State, search, spent, Step, placed, left_over, idle, done, step, next_size, open_board, Run, placing, run}
use Rattle.layouts.specs.Offcuts.{Offcut, events, offcut, offcuts_in}
use Rattle.layouts.proofs.machine.Search.{found-cut}
use Rattle.layouts.proofs.machine.MachineSteps.{step-ends}
use Rattle.layouts.proofs.offcuts.Steps.{offcuts-ended, offcuts-placed, offcuts-over, offcuts-open}
use Rattle.unfold_step.proofs.Steps.{step-idle, step-over, step_cut, step_by, step-length, run-placed, run-over, run-open}

search-longer : (j k : ℕ) (cs : List Cut) (ns zs : List ℕ) → length cs ≤ length ns → search j k cs (ns ++ zs) ≡ search j k cs ns
unfolding search
search-longer j k [] ns zs h = refl
search-longer j k (c ∷ cs) [] zs h = absurd (omega arith)
search-longer j k (c ∷ cs) (n ∷ ns) zs h = ap (λ (o : Option ℕ). elim (on_plate j c && ltb 0 n) as (λ _. Option ℕ) [ true ↦ some k | false ↦ o ]) (search-longer j (suc k) cs ns zs (omega arith))

count-longer : (test : Cut → Bool) (cs : List Cut) (ns zs : List ℕ) → length cs ≤ length ns → count_of test cs (ns ++ zs) ≡ count_of test cs ns
count-longer test cs ns zs h =
    sym (count_of-take test cs (ns ++ zs)) ∙ ap (count_of test cs) (take-append-le (length cs) ns zs h) ∙ count_of-take test cs ns

spent-longer : (ns zs : List ℕ) (k : ℕ) → k ≤ length ns → spent (ns ++ zs) k ≡ spent ns k ++ zs
unfolding spent
spent-longer ns zs zero h = refl
spent-longer ns zs (suc k) h = rw (get_or-append ns zs 0 k (omega arith)) (set-append_left ns zs k (get_or ns k 0 - 1) (omega arith))

module _ (job : Job) (l : Listing) (zs : List ℕ) where
  -- a state, a step, a run with the words behind its counts
  abbrev pub longer : State → State
  longer st = record { counts = st.counts ++ zs; waiting = st.waiting; turn = st.turn }

  abbrev longer_step : Step → Step
  longer_step (placed p st) = placed p (longer st)
  longer_step (left_over p st) = left_over p (longer st)
  longer_step idle = idle

  abbrev pub longer_run : Run → Run
  longer_run r = record { placements = r.placements; last = longer r.last }

  step-longer : (st : State) → length l.cuts ≤ length st.counts → step job l (longer st) ≡ longer_step (step job l st)
  unfolding done
  step-longer st h =
      let same : (j : ℕ) → search j 1 l.cuts (st.counts ++ zs) ≡ search j 1 l.cuts st.counts = λ j. search-longer j 1 l.cuts st.counts zs h in
      step_by job l st (λ s. step job l (longer st) ≡ longer_step s)
      (λ e. step-idle job l (longer st) e)
      (λ t e f. step-over job l (longer st) t e (same t.piece.plate ∙ f))
      (λ t e k f.
      let (is, on) = found-cut l t.piece.plate st.counts k f in
      step_cut job l (longer st) t e k (same t.piece.plate ∙ f) ∙ rw (spent-longer st.counts zs k (omega arith)))

  -- the next size is the same
  size-longer : (n j : ℕ) (ns : List ℕ) → length l.cuts ≤ length ns → next_size n j l (ns ++ zs) ≡ next_size n j l ns
  unfolding next_size boards_of
  size-longer zero j ns h = refl
  size-longer (suc n) j ns h =
      ap (λ (m : ℕ). elim (ltb 0 m) as (λ _. Option ℕ) [ true ↦ some j | false ↦ next_size n (suc j) l (ns ++ zs) ]) (count-longer (on_plate j) l.cuts ns zs h)
      ∙ ap (λ (o : Option ℕ). elim (ltb 0 (count_of (on_plate j) l.cuts ns)) as (λ _. Option ℕ) [ true ↦ some j | false ↦ o ]) (size-longer n (suc j) ns h)

  -- a run with one step more
  module _ (fuel : ℕ) (st : State) (h : length l.cuts ≤ length st.counts) (rest : (st' : State) → length l.cuts ≤ length st'.counts → run fuel job l (longer st') ≡ longer_run (run fuel job l st')) where
    by_size : step job l st ≡ idle → (o : Option ℕ) → next_size (length job.sizes) 0 l st.counts ≡ o → run (suc fuel) job l (longer st) ≡ longer_run (run (suc fuel) job l st)
    unfolding open_board
    by_size e none n =
        step-ends job l (longer st) (step-longer st h ∙ ap longer_step e) (size-longer (length job.sizes) 0 st.counts h ∙ n) (suc fuel) ∙ ap longer_run (sym (step-ends job l st e n (suc fuel)))
    by_size e (some j) n =
        run-open job l (longer st) fuel j (step-longer st h ∙ ap longer_step e) (size-longer (length job.sizes) 0 st.counts h ∙ n) ∙ rest (open_board j st) h ∙ ap longer_run (sym (run-open job l st fuel j e n))

    by-step : (s : Step) → step job l st ≡ s → run (suc fuel) job l (longer st) ≡ longer_run (run (suc fuel) job l st)
    unfolding placing
    by-step (placed p st') e =
        let n : length st'.counts ≡ length st.counts = rw e at (step-length job l st) in
        run-placed job l (longer st) fuel p (longer st') (step-longer st h ∙ ap longer_step e) ∙ ap (placing p) (rest st' (omega arith)) ∙ ap longer_run (sym (run-placed job l st fuel p st' e))
    by-step (left_over p st') e =
        let n : length st'.counts ≡ length st.counts = rw e at (step-length job l st) in
        run-over job l (longer st) fuel p (longer st') (step-longer st h ∙ ap longer_step e) ∙ rest st' (omega arith) ∙ ap longer_run (sym (run-over job l st fuel p st' e))
    by-step idle e = by_size e (next_size (length job.sizes) 0 l st.counts) refl

  pub run-longer : (fuel : ℕ) (st : State) → length l.cuts ≤ length st.counts → run fuel job l (longer st) ≡ longer_run (run fuel job l st)
  unfolding run
  run-longer zero st h = refl
  run-longer (suc fuel) st h = by-step fuel st h (run-longer fuel) (step job l st) refl

  -- what is left over, with one step more
  module _ (fuel : ℕ) (st : State) (h : length l.cuts ≤ length st.counts) (rest : (st' : State) → length l.cuts ≤ length st'.counts → offcuts_in l (events fuel job l (longer st')) ≡ offcuts_in l (events fuel job l st')) where
    over-by-size : step job l st ≡ idle → (o : Option ℕ) → next_size (length job.sizes) 0 l st.counts ≡ o → offcuts_in l (events (suc fuel) job l (longer st)) ≡ offcuts_in l (events (suc fuel) job l st)
    unfolding open_board
    over-by-size e none n =
        offcuts-ended job l (longer st) (step-longer st h ∙ ap longer_step e) (size-longer (length job.sizes) 0 st.counts h ∙ n) (suc fuel) ∙ sym (offcuts-ended job l st e n (suc fuel))
    over-by-size e (some j) n =
        offcuts-open job l (longer st) fuel j (step-longer st h ∙ ap longer_step e) (size-longer (length job.sizes) 0 st.counts h ∙ n) ∙ rest (open_board j st) h ∙ sym (offcuts-open job l st fuel j e n)

    over-by-step : (s : Step) → step job l st ≡ s → offcuts_in l (events (suc fuel) job l (longer st)) ≡ offcuts_in l (events (suc fuel) job l st)
    over-by-step (placed p st') e =
        let n : length st'.counts ≡ length st.counts = rw e at (step-length job l st) in
        offcuts-placed job l (longer st) fuel p (longer st') (step-longer st h ∙ ap longer_step e) ∙ rest st' (omega arith) ∙ sym (offcuts-placed job l st fuel p st' e)
    over-by-step (left_over p st') e =
        let n : length st'.counts ≡ length st.counts = rw e at (step-length job l st) in
        offcuts-over job l (longer st) fuel p (longer st') (step-longer st h ∙ ap longer_step e)
        ∙ ap (λ (os : List Offcut). offcut l st.turn.board p ∷ os) (rest st' (omega arith))
        ∙ sym (offcuts-over job l st fuel p st' e)
    over-by-step idle e = over-by-size e (next_size (length job.sizes) 0 l st.counts) refl

  pub offcuts-longer : (fuel : ℕ) (st : State) → length l.cuts ≤ length st.counts → offcuts_in l (events fuel job l (longer st)) ≡ offcuts_in l (events fuel job l st)
  unfolding events
  offcuts-longer zero st h = refl
  offcuts-longer (suc fuel) st h = over-by-step fuel st h (offcuts-longer fuel) (step job l st) refl
