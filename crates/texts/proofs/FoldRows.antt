-- The layouts row passes or not whatever number its first line has, so that a fold text is accepted just where the folding call is.
use Prim.Native.Nat.{ℕ, suc, ◌+◌, ◌≤◌}
use mathlib.Core.Path.{◌≡◌, refl, sym, ◌∙◌}
use mathlib.Core.Bool.{Bool, true, false, ◌&&◌}
use mathlib.Core.List.{List, [], ◌∷◌, ◌++◌}
use lib.Dec.{ltb, eqb}
use lib.ListN.{length}
use Rattle.job.specs.Verdict.{pass, refuse, ◌then◌, refuse_if, lowest}
use Rattle.job.specs.Buffers.{plates_size, cuts_size, counts_size}
use Rattle.job.specs.Job.{Job, max_pieces, job_of, admission}
use Rattle.job.proofs.Verdicts.{pass-not-refuse}
use Rattle.job.proofs.CodeEnds.{then-pass}
use Rattle.listing.specs.Listing.{model_row}
use Rattle.layouts.specs.Layout.{Strip, Board, Sheet, sheet, strip_height}
use Rattle.layouts.specs.Placement.{opened, Turn, turn, Placement, items_of_strip, items_of_board, lines_of}
use Rattle.layouts.specs.Lines.{rows_of, same_turn, follows, in_turn, turns, grouped}
use Rattle.layouts.specs.LayoutsRow.{Laid, laid_at, laid_board, laid_set, lowest_strip, breaks_stage, past_board, positioned, lacks, layouts_row}
use Rattle.layouts.specs.FoldCall.{fold_verdict}
use Rattle.texts.specs.JobLines.{body_line}
use Rattle.texts.specs.FoldText.{Fold, fold_rows}
use Rattle.texts.specs.Held.{FoldWhole}
use Rattle.texts.proofs.CallRows.{fold-call}

-- 15
in-turn-any : (k j : ℕ) (t : Turn) (rs : List Placement) → in_turn k t rs ≡ pass → in_turn j t rs ≡ pass
unfolding in_turn
in-turn-any k j t [] h = refl
in-turn-any k j t (r ∷ rs) h = go (follows t r.turn) h (in-turn-any (suc k) (suc j) r.turn rs)
  where
    go :
        (b : Bool)
        → elim b [ false ↦ refuse 15 k | true ↦ in_turn (suc k) r.turn rs ] ≡ pass
        → (in_turn (suc k) r.turn rs ≡ pass → in_turn (suc j) r.turn rs ≡ pass)
        → elim b [ false ↦ refuse 15 j | true ↦ in_turn (suc j) r.turn rs ] ≡ pass
    go true h ih = ih h
    go false h ih = absurd (pass-not-refuse h refl)

turns-any : (k j : ℕ) (rs : List Placement) → turns k rs ≡ pass → turns j rs ≡ pass
unfolding turns
turns-any k j [] h = refl
turns-any k j (r ∷ rs) h = go (same_turn r.turn (turn (opened 1 r.turn.board.size) 1 1 1)) h
  where
    go :
        (b : Bool)
        → elim b [ false ↦ refuse 15 k | true ↦ in_turn (suc k) r.turn rs ] ≡ pass
        → elim b [ false ↦ refuse 15 j | true ↦ in_turn (suc j) r.turn rs ] ≡ pass
    go true h = in-turn-any (suc k) (suc j) r.turn rs h
    go false h = absurd (pass-not-refuse h refl)

-- 16 and 17: a test of strips that does not look at their lines
module _ (number : ℕ) (bad : Laid → Bool) (same : (z k j y : ℕ) (s : Strip) → bad (laid_at z k y s) ≡ bad (laid_at z j y s)) (job : Job) where
  board-any :
      (z k j y : ℕ) (b : Board) (us vs : List Laid)
      → lowest_strip number bad (laid_board job z k y b ++ us) ≡ pass
      → (lowest_strip number bad us ≡ pass → lowest_strip number bad vs ≡ pass)
      → lowest_strip number bad (laid_board job z j y b ++ vs) ≡ pass
  unfolding laid_board lowest_strip
  board-any z k j y [] us vs h f = f h
  board-any z k j y (s ∷ ss) us vs h f =
      let n : ℕ = length (items_of_strip s) in
      go (bad (laid_at z k y s)) refl h (λ p. board-any z (k + n) (j + n) (y + strip_height job s + job.blade) ss us vs p f)
    where
      rest : ℕ → List Laid → List Laid
      rest i ts = laid_board job z (i + length (items_of_strip s)) (y + strip_height job s + job.blade) ss ++ ts

      go :
          (t : Bool)
          → bad (laid_at z k y s) ≡ t
          → elim t [ true ↦ refuse number k | false ↦ lowest_strip number bad (rest k us) ] ≡ pass
          → (lowest_strip number bad (rest k us) ≡ pass → lowest_strip number bad (rest j vs) ≡ pass)
          → lowest_strip number bad (laid_at z j y s ∷ rest j vs) ≡ pass
      go true e h ih = absurd (pass-not-refuse h refl)
      go false e h ih = rw (same z j k y s ∙ e, lowest_strip) (ih h)

  set-any : (k j : ℕ) (bs : List Sheet) → lowest_strip number bad (laid_set job k bs) ≡ pass → lowest_strip number bad (laid_set job j bs) ≡ pass
  unfolding laid_set
  set-any k j [] h = h
  set-any k j (sheet z b ∷ bs) h =
      let n : ℕ = length (items_of_board b) in
      board-any z k j 0 b (laid_set job (k + n) bs) (laid_set job (j + n) bs) h (set-any (k + n) (j + n) bs)

-- 18
positioned-any : (k j : ℕ) (rs ps : List Placement) → positioned k rs ps ≡ pass → positioned j rs ps ≡ pass
unfolding positioned
positioned-any k j [] ps h = refl
positioned-any k j (r ∷ rs) [] h = refl
positioned-any k j (r ∷ rs) (p ∷ ps) h = go (eqb r.x p.x && eqb r.y p.y) h (positioned-any (suc k) (suc j) rs ps)
  where
    go :
        (b : Bool)
        → elim b [ false ↦ refuse 18 k | true ↦ positioned (suc k) rs ps ] ≡ pass
        → (positioned (suc k) rs ps ≡ pass → positioned (suc j) rs ps ≡ pass)
        → elim b [ false ↦ refuse 18 j | true ↦ positioned (suc j) rs ps ] ≡ pass
    go true h ih = ih h
    go false h ih = absurd (pass-not-refuse h refl)

-- the layouts row
pub layouts-any : (k j : ℕ) (job : Job) (rs : List Placement) → layouts_row k job rs ≡ pass → layouts_row j job rs ≡ pass
unfolding layouts_row breaks_stage past_board
layouts-any k j job rs h =
    let a = then-pass (refuse_if (ltb max_pieces (length rs)) 10 0) _ h in
    let b = then-pass (turns k rs) _ a.1 in
    let c = then-pass (lowest_strip 16 (breaks_stage job) (laid_set job k (grouped rs))) _ b.1 in
    let d = then-pass (lowest_strip 17 (past_board job) (laid_set job k (grouped rs))) _ c.1 in
    let e = then-pass (positioned k rs (lines_of job (grouped rs))) (lowest 11 (lacks rs) 1 job.items) d.1 in
    let stage = set-any 16 (breaks_stage job) (λ z i i' y s. refl) job k j (grouped rs) c.0 in
    let past = set-any 17 (past_board job) (λ z i i' y s. refl) job k j (grouped rs) d.0 in
    let position = positioned-any k j rs (lines_of job (grouped rs)) e.0 in
    rw (a.0, turns-any k j rs b.0, stage, past, position) e.1

-- a fold text is accepted where its words are accepted by the folding call, and the other way round
module _
    (f : Fold)
    (h : FoldWhole f)
    (plates cuts counts : List ℕ)
    (p : plates_size ≤ length plates)
    (c : cuts_size ≤ length cuts)
    (n : counts_size ≤ length counts)
  where
    call :
        fold_verdict f.job f.layouts plates cuts counts
        ≡ (admission (job_of f.job)
        then model_row (job_of f.job)
        then layouts_row 1 (job_of f.job) (rows_of f.layouts))
    call = fold-call f.job plates cuts h.job p c f.layouts counts h.layouts n

    pub text-accepted : fold_rows f ≡ pass → fold_verdict f.job f.layouts plates cuts counts ≡ pass
    unfolding fold_rows
    text-accepted a =
        let x = then-pass (admission (job_of f.job)) _ a in
        let y = then-pass (model_row (job_of f.job)) (layouts_row (body_line f.job) (job_of f.job) (rows_of f.layouts)) x.1 in
        call ∙ rw (x.0, y.0) (layouts-any (body_line f.job) 1 (job_of f.job) (rows_of f.layouts) y.1)

    pub call-accepted : fold_verdict f.job f.layouts plates cuts counts ≡ pass → fold_rows f ≡ pass
    unfolding fold_rows
    call-accepted a =
        let x = then-pass (admission (job_of f.job)) _ (sym call ∙ a) in
        let y = then-pass (model_row (job_of f.job)) (layouts_row 1 (job_of f.job) (rows_of f.layouts)) x.1 in
        rw (x.0, y.0) (layouts-any 1 (body_line f.job) (job_of f.job) (rows_of f.layouts) y.1)
