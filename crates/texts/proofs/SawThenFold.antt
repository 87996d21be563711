-- The lines 7 of the saw program's output are, after the job's lines, a fold text that is accepted and gives back the plan's lines 3.
use Prim.Native.Nat.{ℕ}
use mathlib.Core.Path.{◌≡◌, refl, sym, ap, ◌∙◌}
use mathlib.Core.List.{List, [], ◌∷◌, ◌++◌, append-nil, map, flat_map}
use mathlib.Core.Option.{Option, none, some}
use Rattle.job.specs.Verdict.{pass}
use Rattle.job.specs.Job.{Job, job_of}
use Rattle.job.proofs.Verdicts.{then-first, then-second, then-both}
use Rattle.listing.specs.Listing.{plate_at}
use Rattle.layouts.specs.Placement.{Placement, placement_words}
use Rattle.layouts.specs.Demand3.{J, L}
use Rattle.layouts.proofs.row.RowLines.{words-rows}
use Rattle.columns.specs.Line.{line_of}
use Rattle.texts.specs.JobLines.{body, body_line}
use Rattle.texts.specs.Reader.{Reader, started, fed, text_row}
use Rattle.texts.specs.SawText.{Counted, PriceLines, Saw, saw_grammar, saw_rows, placement_row, placement_line, result_row, result_line, saw_text}
use Rattle.texts.specs.FoldText.{Fold, fold_grammar, fold_rows, fold_of}
use Rattle.texts.specs.TextOf.{plan_rows}
use Rattle.texts.specs.Held.{SawWhole}
use Rattle.texts.specs.Printed.{lines_in, saw_holds, saw_run, saw_cost, printed_rows, counted_of, fold_counts, fold_plan}
use Rattle.texts.specs.Refused.{fold_holds, verdict_on_saw, verdict_on_fold}
use Rattle.texts.specs.Rounds.{job_text, of_kind, lines_of_kind, saw_counts, SawThenFold}
use Rattle.texts.proofs.Lists.{bytes_of}
use Rattle.texts.proofs.SawTexts.{saw-both-ways}
use Rattle.texts.proofs.SawDemand.{saw-pieces, saw-placed, saw-laid, saw-back}
use Rattle.texts.proofs.Printed.{placement-lines, printed}
use Rattle.texts.proofs.CallRows.{Accepted, accepted-rows}
use Rattle.texts.proofs.FoldRows.{layouts-any}
use Rattle.texts.proofs.CountedPlan.{plan-counted}
use Rattle.texts.proofs.FoldThenSaw.{fold-answer}

-- ---- the lines 7 and the line 8 of the output

-- line 8 is none of them
result-kind : (job : Job) (n : ℕ) (o : Option PriceLines) → of_kind 7 (result_row job n o ∷ []) ≡ []
unfolding of_kind result_row
result-kind job n none = refl
result-kind job n (some ps) = refl

placement-kind : (ps : List Placement) (nss : List (List ℕ)) → of_kind 7 nss ≡ [] → of_kind 7 (map placement_row ps ++ nss) ≡ map placement_row ps
unfolding of_kind placement_row
placement-kind [] nss h = h
placement-kind (p ∷ ps) nss h = ap (λ (l : List (List ℕ)). placement_row p ∷ l) (placement-kind ps nss h)

-- of a text whose lines are read
kind-read : (kind : ℕ) (out : List ℕ) (nss : List (List ℕ)) → lines_in out ≡ some nss → lines_of_kind kind out ≡ bytes_of (of_kind kind nss)
unfolding lines_of_kind
kind-read kind out nss e = rw (e, lines_of_kind)

-- they are those of the placements
pub lines-seven : (s : Saw) (out : List ℕ) → lines_in out ≡ some (printed_rows s) → lines_of_kind 7 out ≡ flat_map placement_line (saw_run s).placements
unfolding printed_rows
lines-seven s out e =
    let ps : List Placement = (saw_run s).placements in
    let n : ℕ = saw_cost s in
    let last : List (List ℕ) = result_row (job_of s.job) n s.prices ∷ [] in
    kind-read 7 out (map placement_row ps ++ last) e
    ∙ ap bytes_of (placement-kind ps last (result-kind (job_of s.job) n s.prices))
    ∙ sym (placement-lines ps)

-- no line 7 is of kind 8
placement-other : (ps : List Placement) (nss : List (List ℕ)) → of_kind 8 (map placement_row ps ++ nss) ≡ of_kind 8 nss
unfolding of_kind placement_row
placement-other [] nss = refl
placement-other (p ∷ ps) nss = placement-other ps nss

result_own : (job : Job) (n : ℕ) (o : Option PriceLines) → of_kind 8 (result_row job n o ∷ []) ≡ result_row job n o ∷ []
unfolding of_kind result_row
result_own job n none = refl
result_own job n (some ps) = refl

-- line 8 has what the plan costs
pub line-eight : (s : Saw) (out : List ℕ) → lines_in out ≡ some (printed_rows s) → lines_of_kind 8 out ≡ result_line (job_of s.job) (saw_cost s) s.prices
unfolding printed_rows result_line flat_map
line-eight s out e =
    let ps : List Placement = (saw_run s).placements in
    let row : List ℕ = result_row (job_of s.job) (saw_cost s) s.prices in
    kind-read 8 out (map placement_row ps ++ (row ∷ [])) e
    ∙ ap bytes_of (placement-other ps (row ∷ []) ∙ result_own (job_of s.job) (saw_cost s) s.prices)
    ∙ append-nil (line_of row)

-- ---- the fold text

module _ (s : Saw) (held : SawWhole s) (rows : saw_rows s ≡ pass) where
  abbrev f : Fold
  f = fold_of body s.job (placement_words (saw_run s).placements)

  a : Accepted s
  a = accepted-rows s rows

  -- the rows pass
  laid : fold_rows f ≡ pass
  unfolding fold_rows
  laid =
      rw (a.admitted, a.listed, words-rows (saw_run s).placements)
      (layouts-any 1 (body_line s.job) (J s.job) (saw_run s).placements (saw-laid s held rows))

  -- its counts are the plan's, and so are its lines 3
  same-counts : fold_counts f ≡ saw_counts s
  same-counts = saw-back s held rows

  same_lines : counted_of (plate_at (L s.job)) (L s.job).cuts (fold_counts f) ≡ s.plan
  same_lines =
      ap (counted_of (plate_at (L s.job)) (L s.job).cuts) same-counts
      ∙ plan-counted (L s.job) (body_line s.job) s.job s.plan a.shown a.rising held.plan

  saw-then-fold : (out : List ℕ) → lines_in out ≡ some (printed_rows s) → SawThenFold s out
  saw-then-fold out e =
      let text = ap (λ (bs : List ℕ). job_text s.job ++ bs) (lines-seven s out e) in
      let w = printed.folds s.job (saw_run s).placements held.job (saw-placed s held rows) (saw-pieces s held rows) in
      let cs : List ℕ = job_text s.job ++ lines_of_kind 7 out in
      let holds : fold_holds cs ≡ f = ap fold_holds text ∙ ap (λ (r : Reader Fold). r.state) w.0 in
      let row = ap (λ (bs : List ℕ). text_row fold_grammar (fed fold_grammar (started fold_grammar) bs)) text ∙ w.1 in
      let accepted : verdict_on_fold cs ≡ pass = then-both _ _ row (ap fold_rows holds ∙ laid) in
      record {
        holds = holds;
        accepted = accepted;
        counts = ap fold_counts holds ∙ same-counts;
        back = fold-answer cs accepted ∙ ap (λ (g : Fold). bytes_of (plan_rows (fold_plan g))) holds ∙ ap (λ (rs : List Counted). bytes_of (plan_rows rs)) same_lines;
      }

-- from the saw program to the fold program
pub saw-fold : (bs : List ℕ) → verdict_on_saw bs ≡ pass → SawThenFold (saw_holds bs) (saw_text bs)
saw-fold bs h =
    let row = text_row saw_grammar (fed saw_grammar (started saw_grammar) bs) in
    let t = then-first row (saw_rows (saw_holds bs)) h in
    let r = then-second row (saw_rows (saw_holds bs)) h in
    saw-then-fold (saw_holds bs) (saw-both-ways.read bs t).0 r (saw_text bs) (printed.back bs t r)
