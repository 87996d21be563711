-- What the fold program writes is, after the job's lines, a saw text that is accepted with the counts of the fold.
use Prim.Native.Nat.{ℕ, suc, ◌≤◌}
use native.Mathlib.Omega.{arith}
use mathlib.Core.Path.{◌≡◌, refl, sym, ap, ◌∙◌}
use mathlib.Core.Bool.{true}
use mathlib.Core.List.{List, [], ◌∷◌, ◌++◌, append-nil}
use mathlib.Core.Option.{none}
use lib.ListN.{length, length-append}
use Rattle.job.specs.Sizes.{max_types}
use Rattle.job.specs.Verdict.{pass}
use Rattle.job.specs.Job.{Job, permitted}
use Rattle.job.proofs.Positions.{permitted-type}
use Rattle.job.proofs.Verdicts.{then-first, then-second, then-both}
use Rattle.job.proofs.Records.{words_append}
use Rattle.listing.specs.Listing.{Cut, Listing, cut_at, plate_at}
use Rattle.listing.specs.Model.{item_of, Model}
use Rattle.listing.proofs.Plates.{may-cut}
use Rattle.listing.proofs.WalkModel.{row-model}
use Rattle.layouts.specs.Demand3.{J, L}
use Rattle.layouts.proofs.fold.FoldCuts.{cut_of-is}
use Rattle.columns.specs.Line.{Fit, line_of}
use Rattle.texts.specs.JobLines.{body, types_of, body_line}
use Rattle.texts.specs.Reader.{Reader, max_lines, started, fed, text_row, written}
use Rattle.texts.specs.SawText.{Counted, Saw, saw_grammar, plan_counts, price_lines_row, saw_rows, saw_of}
use Rattle.texts.specs.FoldText.{Fold, fold_grammar, fold_rows, fold_written, fold_text}
use Rattle.texts.specs.TextOf.{job_rows, counted_row, plan_rows, price_rows, saw_rows_of}
use Rattle.texts.specs.Held.{PlanLimits, SawWhole, FoldWhole}
use Rattle.texts.specs.Printed.{lines_in, AllFit, saw_holds, fold_counts, fold_plan}
use Rattle.texts.specs.Refused.{fold_holds, verdict_on_fold}
use Rattle.texts.specs.Rounds.{job_text, saw_counts, FoldThenSaw}
use Rattle.texts.proofs.Lists.{bytes_of}
use Rattle.texts.proofs.LinesIn.{lines-both-ways}
use Rattle.texts.proofs.JobLaws.{JobWhole, passes-job, job-types, board-types, board-sizes}
use Rattle.texts.proofs.JobRows.{job_rows-size}
use Rattle.texts.proofs.PlanRows.{plan_rows-size}
use Rattle.texts.proofs.SawTexts.{saw-both-ways}
use Rattle.texts.proofs.FoldTexts.{fold-both-ways}
use Rattle.texts.proofs.Modelled.{admitted, sided, stocked}
use Rattle.texts.proofs.Printed.{printed}
use Rattle.texts.proofs.CountedPlan.{InRow, CutLimits, each-cut, counted-length, counted-limits, counted-named, counted-shown, counted-rising, counted-counts}
use Rattle.texts.proofs.ShownPlates.{plate-fits}
use Rattle.texts.proofs.FoldDemand.{FoldAccepted, fold-accepted, fold-length, fold-plan, fold-few}

-- lines 3 within their limits fit nine columns
plan-fits : (ws : List ℕ) (rs : List Counted) → types_of ws ≤ max_types → PlanLimits ws rs → AllFit (plan_rows rs)
unfolding plan_rows counted_row Fit
plan-fits ws [] h p = tt
plan-fits ws (r ∷ rs) h p = (omega arith, plan-fits ws rs h p.1)

-- the cuts of a model are those of their plates and positions
cuts-in-row : (job : Job) (l : Listing) → Model job l → InRow l 1 l.cuts
cuts-in-row job l m = each-cut _ l (λ d h. cut_of-is job l m (suc d) _ _ (omega arith) refl refl)

module _ (f : Fold) (held : FoldWhole f) (a : FoldAccepted f) where
  abbrev s : Saw
  s = saw_of body f.job (fold_plan f) none

  m : Model (J f.job) (L f.job)
  m = row-model (J f.job) (sided f.job held.job a.admitted) (stocked f.job held.job a.admitted) a.listed

  j : JobWhole f.job
  j = passes-job f.job held.job

  -- its lines 3 are within their limits
  limits : PlanLimits f.job (fold_plan f)
  limits =
      counted-limits f.job (plate_at (L f.job)) 1 (L f.job).cuts (fold_counts f)
      (each-cut (λ _ c. CutLimits f.job (plate_at (L f.job)) c) (L f.job)
      (λ d h.
      let c : Cut = cut_at (L f.job) (suc d) in
      let lies : permitted (J f.job) c.item ≡ true = (may-cut (J f.job).mode (item_of (J f.job) c) (plate_at (L f.job) c.plate) (m.permitted d h)).allowed in
      let range = permitted-type (J f.job) c.item lies in
      record {
        plate = omega (arith, m.on-plate d h, m.few-plates);
        low = range.0;
        high = omega (arith, range.1, job-types f.job j);
        lies = lies;
        shown = plate-fits (J f.job) (admitted f.job held.job a.admitted) a.listed c.plate (m.on-plate d h);
      }))
      (fold-few f held a)

  whole : SawWhole s
  whole = record { job = held.job; plan = limits; prices = refl }

  -- it counts what the fold counts
  same-counts : plan_counts (L f.job) (fold_plan f) ≡ fold_counts f
  same-counts = counted-counts (L f.job) (fold_counts f) (cuts-in-row (J f.job) (L f.job) m) (fold-length f)

  -- the rows pass
  rows : saw_rows s ≡ pass
  unfolding saw_rows price_lines_row
  rows =
      let first : ℕ = body_line f.job in
      let named = counted-named (L f.job) first (L f.job).cuts (fold_counts f) (cuts-in-row (J f.job) (L f.job) m) in
      let shown = counted-shown (L f.job) first (L f.job).cuts (fold_counts f) in
      let rising = counted-rising (L f.job) first (L f.job).cuts (fold_counts f) (cuts-in-row (J f.job) (L f.job) m) in
      rw (a.admitted, a.listed, named, shown, rising, same-counts, fold-plan f held a)

  -- its lines are few
  few : length (saw_rows_of s) ≤ max_lines
  unfolding saw_rows_of price_rows
  few =
      let tail : List (List ℕ) = plan_rows (fold_plan f) ++ [] in
      omega (
        arith,
        length-append (job_rows f.job) tail,
        ap length (append-nil (plan_rows (fold_plan f))),
        (job_rows-size (types_of f.job) f.job j.size).0,
        board-types f.job j.board,
        board-sizes f.job j.board,
        (plan_rows-size (fold_plan f)).0,
        counted-length (plate_at (L f.job)) (L f.job).cuts (fold_counts f),
        m.few-cuts,
      )

  -- after the job's lines they are the lines of a saw text
  bytes : job_text f.job ++ bytes_of (plan_rows (fold_plan f)) ≡ bytes_of (saw_rows_of s)
  unfolding saw_rows_of price_rows
  bytes =
      sym (words_append line_of (job_rows f.job) (plan_rows (fold_plan f)))
      ∙ ap (λ (nss : List (List ℕ)). bytes_of (job_rows f.job ++ nss)) (sym (append-nil (plan_rows (fold_plan f))))

  fold-then-saw : (out : List ℕ) → out ≡ bytes_of (plan_rows (fold_plan f)) → FoldThenSaw f out
  fold-then-saw out e =
      let text : job_text f.job ++ out ≡ bytes_of (saw_rows_of s) = ap (λ (bs : List ℕ). job_text f.job ++ bs) e ∙ bytes in
      let w = saw-both-ways.written s whole few in
      let holds : saw_holds (job_text f.job ++ out) ≡ s = ap saw_holds text ∙ ap (λ (r : Reader Saw). r.state) w.0 in
      let row = ap (λ (bs : List ℕ). text_row saw_grammar (fed saw_grammar (started saw_grammar) bs)) text ∙ w.1 in
      record {
        read = ap lines_in e ∙ lines-both-ways.written (plan_rows (fold_plan f)) (plan-fits f.job (fold_plan f) (board-types f.job j.board).1 limits);
        holds = holds;
        accepted = then-both _ _ row (ap saw_rows holds ∙ rows);
        counts = ap saw_counts holds ∙ same-counts;
      }

-- the answer to an accepted fold text is the lines 3 of its fold
pub fold-answer : (bs : List ℕ) → verdict_on_fold bs ≡ pass → fold_text bs ≡ bytes_of (plan_rows (fold_plan (fold_holds bs)))
unfolding fold_text fold_written written
fold-answer bs h = rw h (printed.counts (fold_holds bs))

-- from the fold program to the saw program
pub fold-saw : (bs : List ℕ) → verdict_on_fold bs ≡ pass → FoldThenSaw (fold_holds bs) (fold_text bs)
fold-saw bs h =
    let row = text_row fold_grammar (fed fold_grammar (started fold_grammar) bs) in
    let held = (fold-both-ways.read bs (then-first row (fold_rows (fold_holds bs)) h)).0 in
    let a = fold-accepted (fold_holds bs) (then-second row (fold_rows (fold_holds bs)) h) in
    fold-then-saw (fold_holds bs) held a (fold_text bs) (fold-answer bs h)
