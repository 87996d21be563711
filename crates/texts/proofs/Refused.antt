-- The answer to a refused text: its number and its place stand in the table of refusals, and are read back from line 9.
use Prim.Native.Nat.{ℕ, suc, ◌+◌, ◌≤◌}
use native.Mathlib.Omega.{arith}
use mathlib.Core.Path.{◌≡◌, refl, sym, ap, ◌∙◌}
use mathlib.Core.Logic.{inl, inr}
use mathlib.Core.Bool.{not}
use mathlib.Core.List.{List, [], ◌∷◌, ◌++◌, flat_map, append-nil}
use mathlib.Core.Option.{some}
use lib.ListN.{length, length-append}
use Rattle.job.specs.Lists.{non_empty}
use Rattle.job.specs.Verdict.{refuse, ◌then◌, refuse_if}
use Rattle.job.specs.Job.{Job, job_of, admission}
use Rattle.listing.specs.Listing.{Listing, model_row, listing_of}
use Rattle.listing.proofs.WalkModel.{row-model}
use Rattle.plan.specs.Plan.{plan_row}
use Rattle.layouts.specs.Lines.{rows_of}
use Rattle.layouts.specs.LayoutsRow.{layouts_row}
use Rattle.columns.specs.Line.{line_of}
use Rattle.texts.specs.JobLines.{board_sizes, types_of, body_line}
use Rattle.texts.specs.Reader.{Grammar, Reader, max_lines, started, fed, text_row, written}
use Rattle.texts.specs.SawText.{Saw, saw_grammar, cuts_named, plates_shown, cuts_rising, plan_counts, price_lines_row, saw_rows, saw_written, saw_text}
use Rattle.texts.specs.FoldText.{Fold, fold_grammar, fold_rows, fold_written, fold_text}
use Rattle.texts.specs.TextOf.{job_rows, plan_rows, price_rows, saw_rows_of}
use Rattle.texts.specs.Held.{SawWhole, FoldWhole}
use Rattle.texts.specs.Printed.{lines_in, saw_holds}
use Rattle.texts.specs.Refused.{fold_holds, verdict_on_saw, verdict_on_fold, InTable, RefusedBack}
use Rattle.texts.proofs.LinesIn.{lines-both-ways}
use Rattle.texts.proofs.ShapeLaws.{OfLineRow}
use Rattle.texts.proofs.ReadSoFar.{sound}
use Rattle.texts.proofs.JobLaws.{passes-job}
use Rattle.texts.proofs.JobRows.{job_rows-size}
use Rattle.texts.proofs.PlanRows.{plan_rows-size}
use Rattle.texts.proofs.SawTexts.{saw-both-ways}
use Rattle.texts.proofs.FoldTexts.{fold-both-ways}
use Rattle.texts.proofs.Modelled.{sided, stocked}
use Rattle.texts.proofs.Places.{Near, table_fits, few-types, near-if, near-then, near-admission, near-model, near-named, near-shown, near-rising, near-plan, near-prices}
use Rattle.texts.proofs.LayoutPlaces.{near-row}

-- ---- line 9

-- a refusal that stands in the table is read back from line 9
pub line-back : (n p : ℕ) → InTable n p → lines_in (line_of (9 ∷ n ∷ p ∷ [])) ≡ some ((9 ∷ n ∷ p ∷ []) ∷ [])
unfolding flat_map
line-back n p t =
    ap lines_in (sym (append-nil (line_of (9 ∷ n ∷ p ∷ [])))) ∙ lines-both-ways.written ((9 ∷ n ∷ p ∷ []) ∷ []) (table_fits n p t, tt)

-- ---- the line row

-- 1, 2 or 19, naming the line after those admitted
row-table : (n p lines : ℕ) → lines ≤ max_lines → OfLineRow n → p ≡ suc lines → InTable n p
row-table n p lines h (inl e) f = rw (e, f) (omega arith)
row-table n p lines h (inr (inl e)) f = rw (e, f) (omega arith)
row-table n p lines h (inr (inr e)) f = rw (e, f) (omega arith)

module _ {S : Type 0} (g : Grammar S) (bs : List ℕ) where
  abbrev reader : Reader S
  reader = fed g (started g) bs

  -- the line row of a text
  near-text : Near (text_row g reader)
  unfolding text_row
  near-text =
      let s = sound g bs in
      let begun = refuse_if (non_empty reader.pending) 1 (suc reader.lines) in
      let missing = refuse_if (not (g.complete reader.state)) 1 (suc reader.lines) in
      let here = row-table 1 (suc reader.lines) reader.lines s.few (inl refl) refl in
      near-then reader.verdict (begun then missing)
      (record { named = λ n p e. let q = s.named n p e in row-table n p reader.lines s.few q.0 q.1 }) (λ e.
      near-then begun missing (near-if (non_empty reader.pending) 1 (suc reader.lines) here) (λ e.
      near-if (not (g.complete reader.state)) 1 (suc reader.lines) here))

-- ---- the rows after it

-- the lines 3 of a saw text are among its lines
saw-lines : (s : Saw) → SawWhole s → length (saw_rows_of s) ≤ max_lines → body_line s.job + length s.plan ≤ suc max_lines
unfolding saw_rows_of
saw-lines s held few =
    let j = passes-job s.job held.job in
    let tail : List (List ℕ) = plan_rows s.plan ++ price_rows (board_sizes s.job) s.prices in
    omega (
      arith,
      length-append (job_rows s.job) tail,
      length-append (plan_rows s.plan) (price_rows (board_sizes s.job) s.prices),
      (job_rows-size (types_of s.job) s.job j.size).0,
      (plan_rows-size s.plan).0,
    )

-- the rows of a saw text, of at most 99,999 lines
near-saw : (s : Saw) → SawWhole s → length (saw_rows_of s) ≤ max_lines → Near (saw_rows s)
unfolding saw_rows saw_rows_of
near-saw s held few =
    let job : Job = job_of s.job in
    let l : Listing = listing_of job in
    let first : ℕ = body_line s.job in
    let ns : List ℕ = plan_counts l s.plan in
    let types = few-types s.job held.job in
    let lines : first + length s.plan ≤ suc max_lines = saw-lines s held few in
    let named = cuts_named l first s.plan in
    let shown = plates_shown l first s.plan in
    let rising = cuts_rising l 0 first s.plan in
    let plan = plan_row job l ns in
    let prices = price_lines_row job l s.prices in
    near-then (admission job) (model_row job then named then shown then rising then plan then prices) (near-admission job types.0) (λ a.
    near-then (model_row job) (named then shown then rising then plan then prices) (near-model job) (λ b.
    let m = row-model job (sided s.job held.job a) (stocked s.job held.job a) b in
    near-then named (shown then rising then plan then prices) (near-named l first s.plan (omega arith) (omega arith)) (λ e.
    near-then shown (rising then plan then prices) (near-shown l first s.plan (omega arith) (omega arith)) (λ e.
    near-then rising (plan then prices) (near-rising l 0 first s.plan (omega arith) (omega arith)) (λ e.
    near-then plan prices (near-plan job l ns types.0 (omega (arith, m.sized, m.some_size)) m.few-plates) (λ e.
    near-prices job l s.prices m.few-cuts))))))

-- the rows of a fold text
near-fold : (f : Fold) → FoldWhole f → Near (fold_rows f)
unfolding fold_rows
near-fold f held =
    let job : Job = job_of f.job in
    let types = few-types f.job held.job in
    let rows = layouts_row (body_line f.job) job (rows_of f.layouts) in
    near-then (admission job) (model_row job then rows) (near-admission job types.0) (λ a.
    near-then (model_row job) rows (near-model job) (λ b.
    near-row (body_line f.job) job (rows_of f.layouts) (omega arith) (omega arith) types.0))

-- ---- both texts

near-on-saw : (bs : List ℕ) → Near (verdict_on_saw bs)
near-on-saw bs =
    near-then (text_row saw_grammar (fed saw_grammar (started saw_grammar) bs)) (saw_rows (saw_holds bs)) (near-text saw_grammar bs) (λ e.
    let b = saw-both-ways.read bs e in near-saw (saw_holds bs) b.0 b.2)

near-on-fold : (bs : List ℕ) → Near (verdict_on_fold bs)
near-on-fold bs =
    near-then (text_row fold_grammar (fed fold_grammar (started fold_grammar) bs)) (fold_rows (fold_holds bs)) (near-text fold_grammar bs) (λ e.
    near-fold (fold_holds bs) (fold-both-ways.read bs e).0)

-- what is written of a refusal
saw-refused : (bs : List ℕ) (n p : ℕ) → verdict_on_saw bs ≡ refuse n p → saw_text bs ≡ line_of (9 ∷ n ∷ p ∷ [])
unfolding saw_text saw_written written
saw-refused bs n p e = rw e

fold-refused : (bs : List ℕ) (n p : ℕ) → verdict_on_fold bs ≡ refuse n p → fold_text bs ≡ line_of (9 ∷ n ∷ p ∷ [])
unfolding fold_text fold_written written
fold-refused bs n p e = rw e

-- the answer to a text that is refused
pub refused-back : RefusedBack
refused-back =
    record {
      saw-table = λ bs n p e. (near-on-saw bs).named n p e;
      fold-table = λ bs n p e. (near-on-fold bs).named n p e;
      fits = table_fits;
      saw-line = λ bs n p e. ap lines_in (saw-refused bs n p e) ∙ line-back n p ((near-on-saw bs).named n p e);
      fold_line = λ bs n p e. ap lines_in (fold-refused bs n p e) ∙ line-back n p ((near-on-fold bs).named n p e);
    }
