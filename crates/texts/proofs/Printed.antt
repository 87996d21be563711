-- The saw program's output is read back: lines 7 as the placements, line 8 as cost, sum, D and cheapest; and its lines 7 are a fold text.
use Prim.Native.Nat.{ℕ, zero, suc, ◌+◌, ◌*◌, ◌≤◌, ◌<◌}
use native.Mathlib.Omega.{arith}
use native.Mathlib.Nat.{mul-le-mul_right}
use mathlib.Core.Path.{◌≡◌, refl, sym, ap, ◌∙◌}
use mathlib.Core.Bool.{Bool, true, false, not, cond}
use mathlib.Core.List.{List, [], ◌∷◌, ◌++◌, map, flat_map}
use mathlib.Core.Option.{Option, none, some}
use lib.Dec.{ltb, eqb}
use lib.ListN.{length, get_or, take, drop, length-append}
use borrow.Author.Tests.{ltb-false, not-false}
use Rattle.job.specs.declared.item.Item.{Item}
use Rattle.job.specs.Lists.{sum_of}
use Rattle.job.specs.Verdict.{pass, refuse_if, within, lowest}
use Rattle.job.specs.Job.{Job, max_cost, max_pieces, job_of, job_words, larger, demanded, admission}
use Rattle.job.proofs.Verdicts.{refuse_if-pass}
use Rattle.job.proofs.CodeEnds.{then-pass}
use Rattle.job.proofs.Records.{words_append}
use Rattle.plan.specs.Prices.{max_price, prices_of, price_words, priced, price_sum, cheapest}
use Rattle.layouts.specs.Placement.{Placement, placement_words}
use Rattle.layouts.specs.Lines.{layout_words}
use Rattle.layouts.specs.Rules.{Every}
use Rattle.layouts.proofs.row.RowWords.{RowOk}
use Rattle.listing.specs.declared.plate.Plate.{Plate}
use Rattle.listing.specs.Listing.{Cut, plate_at, listing_of}
use Rattle.columns.specs.Group.{limit}
use Rattle.columns.specs.Line.{Fit, line_of}
use Rattle.texts.specs.Shape.{layout_line}
use Rattle.texts.specs.JobLines.{Place, body, types_of, job_lines}
use Rattle.texts.specs.Reader.{started, fed, text_row, written}
use Rattle.texts.specs.SawText.{PriceLines, Saw, saw_grammar, saw_rows, placement_row, placement_line, result_row, result_line, saw_lines, saw_written, saw_text}
use Rattle.texts.specs.FoldText.{Fold, fold_complete, fold_grammar, count_row, count_lines, fold_lines, fold_of}
use Rattle.texts.specs.Admitted.{Text}
use Rattle.texts.specs.TextOf.{job_rows, counted_row, plan_rows}
use Rattle.texts.specs.Held.{PricesHeld, SawWhole}
use Rattle.texts.specs.Printed.{lines_in, AllFit, saw_holds, saw_run, saw_cost, printed_rows, counted_cut, counted_of, fold_counts, fold_plan, PrintedBack}
use Rattle.texts.proofs.SawDemand.{saw-placed, saw-cost}
use Rattle.texts.proofs.Basics.{within-parts, lowest-parts}
use Rattle.texts.proofs.Lists.{bytes_of, bytes-more}
use Rattle.texts.proofs.ReaderLaws.{standing}
use Rattle.texts.proofs.LinesIn.{lines-both-ways}
use Rattle.texts.proofs.ShapeLaws.{narrow-layout, shape-fits}
use Rattle.texts.proofs.JobLaws.{JobWhole, passes-job, job-types, job-sizes, board-types, board-sizes}
use Rattle.texts.proofs.LayoutRows.{ok-row, rows_ok, placement_rows-size}
use Rattle.texts.proofs.JobRows.{job_rows-size}
use Rattle.texts.proofs.JobRuns.{job-runs}
use Rattle.texts.proofs.Running.{runs_append}
use Rattle.texts.proofs.WholeTexts.{text-read, text-row}
use Rattle.texts.proofs.SawTexts.{saw-both-ways}
use Rattle.texts.proofs.FoldTexts.{fold-plain, fold-opens, layouts-run}

-- ---- the output is lines of numbers

-- lines 7
pub placement-lines : (ps : List Placement) → flat_map placement_line ps ≡ bytes_of (map placement_row ps)
unfolding flat_map placement_line
placement-lines [] = refl
placement-lines (p ∷ ps) = ap (λ (l : List ℕ). placement_line p ++ l) (placement-lines ps)

printed-lines : (s : Saw) → saw_lines s ≡ bytes_of (printed_rows s)
unfolding saw_lines printed_rows result_line
printed-lines s =
    let job : Job = job_of s.job in
    let n : ℕ = saw_cost s in
    let rows : List (List ℕ) = map placement_row (saw_run s).placements in
    ap (λ (l : List ℕ). l ++ result_line job n s.prices) (placement-lines (saw_run s).placements)
    ∙ sym (bytes-more rows (result_row job n s.prices))

-- the lines 3 of a fold
count-lines : (plates : ℕ → Plate) (cs : List Cut) (ns : List ℕ) → count_lines plates cs ns ≡ bytes_of (plan_rows (counted_of plates cs ns))
unfolding count_lines counted_of plan_rows counted_row flat_map
count-lines plates [] ns = refl
count-lines plates (c ∷ cs) [] = refl
count-lines plates (c ∷ cs) (n ∷ ns) = go (eqb n 0) (count-lines plates cs ns)
  where
    line : List ℕ
    line = line_of (count_row (plates c.plate) c n)

    go :
        (t : Bool)
        → count_lines plates cs ns ≡ bytes_of (plan_rows (counted_of plates cs ns))
        → elim t [ true ↦ count_lines plates cs ns | false ↦ line ++ count_lines plates cs ns ]
        ≡ bytes_of (plan_rows (elim t [ true ↦ counted_of plates cs ns | false ↦ counted_cut (plates c.plate) c n ∷ counted_of plates cs ns ]))
    go true ih = ih
    go false ih = ap (λ (l : List ℕ). line ++ l) ih

fold-lines : (f : Fold) → fold_lines f ≡ bytes_of (plan_rows (fold_plan f))
unfolding fold_lines
fold-lines f = let l = listing_of (job_of f.job) in count-lines (plate_at l) l.cuts (fold_counts f)

-- ---- the sum

-- each of some numbers is at most m
abbrev Capped : ℕ → List ℕ → Type 0
Capped m [] = Unit {0}
Capped m (x ∷ xs) = (x ≤ m) × Capped m xs

capped-drop : (m k : ℕ) (xs : List ℕ) → Capped m xs → Capped m (drop k xs)
capped-drop m zero xs c = c
capped-drop m (suc k) [] c = tt
capped-drop m (suc k) (x ∷ xs) c = capped-drop m k xs c.1

capped-take : (m k : ℕ) (xs : List ℕ) → Capped m xs → Capped m (take k xs)
capped-take m zero xs c = tt
capped-take m (suc k) [] c = tt
capped-take m (suc k) (x ∷ xs) c = (c.0, capped-take m k xs c.1)

capped-get_or : (m k : ℕ) (xs : List ℕ) → Capped m xs → get_or xs k 0 ≤ m
capped-get_or m zero [] c = omega arith
capped-get_or m (suc k) [] c = omega arith
capped-get_or m zero (x ∷ xs) c = c.0
capped-get_or m (suc k) (x ∷ xs) c = capped-get_or m k xs c.1

prices-capped : (k : ℕ) (ws : List ℕ) → lowest 2 (λ _ x. ltb max_price x) k ws ≡ pass → Capped max_price ws
prices-capped k [] h = tt
prices-capped k (x ∷ ws) h =
    let p = lowest-parts 2 (λ _ y. ltb max_price y) k x ws h in
    (ltb-false max_price x p.0, prices-capped (suc k) ws p.1)

words-capped : (ws : List ℕ) → price_words ws ≡ pass → Capped max_price ws
unfolding price_words
words-capped [] h = tt
words-capped (d ∷ ps) h =
    let out = not (within 1 max_price d) in
    let p = then-pass (refuse_if out 2 1) (lowest 2 (λ _ x. ltb max_price x) 2 ps) h in
    ((within-parts 1 max_price d (not-false (within 1 max_price d) (refuse_if-pass out 2 1 p.0))).1, prices-capped 2 ps p.1)

-- prices of at most m come to at most m times the demands
priced-capped : (m : ℕ) (items : List Item) (ps : List ℕ) → Capped m ps → priced items ps ≤ m * sum_of (λ it. it.demand) items
unfolding priced sum_of
priced-capped m [] ps c = omega arith
priced-capped m (it ∷ items) [] c = omega arith
priced-capped m (it ∷ items) (p ∷ ps) c =
    let r = priced-capped m items ps c.1 in omega (arith, mul-le-mul_right it.demand c.0)

-- the demands of an admitted job come to at most 4,000
admitted-demands : (job : Job) → admission job ≡ pass → demanded job ≤ max_pieces
unfolding admission
admitted-demands job h =
    let p = then-pass (lowest 3 (λ _ it. larger job it) 1 job.items) (refuse_if (ltb max_pieces (demanded job)) 4 0) h in
    ltb-false max_pieces (demanded job) (refuse_if-pass (ltb max_pieces (demanded job)) 4 0 p.1)

-- ---- the numbers fit nine columns

fit-result : (job : Job) (n : ℕ) (p : Place) (o : Option PriceLines) → admission job ≡ pass → PricesHeld p o → n ≤ max_cost * max_pieces → Fit (result_row job n o)
unfolding Fit result_row price_sum prices_of demanded
fit-result job n p none a h l = omega arith
fit-result job n p (some ps) a h l =
    let c = words-capped ps.words h.1.words in
    let d = admitted-demands job a in
    let n' : ℕ = length job.items in
    let items = capped-take max_price n' (drop 1 ps.words) (capped-drop max_price 1 ps.words c) in
    let sum = priced-capped max_price job.items (take n' (drop 1 ps.words)) items in
    let D = capped-get_or max_price 0 ps.words c in
    (omega arith, (omega arith, (omega arith, (omega arith, (few (cheapest job (prices_of job ps.words) n), tt)))))
  where
    few : (t : Bool) → cond t 1 0 < limit
    few true = omega arith
    few false = omega arith

fit-placements : (ws : List ℕ) → JobWhole ws → (ps : List Placement) → Every (RowOk (job_of ws)) ps → AllFit (map placement_row ps)
fit-placements ws j [] h = tt
fit-placements ws j (p ∷ ps) h =
    let n = board-types ws j.board in
    let z = board-sizes ws j.board in
    let shape = ok-row ws (job-sizes ws j) (job-types ws j) z.0 p h.0 in
    (shape-fits (layout_line ws) (placement_row p) (narrow-layout ws (omega arith) (omega arith)) shape, fit-placements ws j ps h.1)

fit_append : (mss nss : List (List ℕ)) → AllFit mss → AllFit nss → AllFit (mss ++ nss)
fit_append [] nss f g = g
fit_append (ms ∷ mss) nss f g = (f.0, fit_append mss nss f.1 g)

-- ---- read back

rows-admission : (s : Saw) → saw_rows s ≡ pass → admission (job_of s.job) ≡ pass
unfolding saw_rows
rows-admission s h = (then-pass (admission (job_of s.job)) _ h).0

printed-back :
    (s : Saw)
    → SawWhole s
    → saw_rows s ≡ pass
    → layout_words (job_of s.job) (placement_words (saw_run s).placements) ≡ pass
    → saw_cost s ≤ max_cost * max_pieces
    → lines_in (saw_lines s) ≡ some (printed_rows s)
unfolding printed_rows
printed-back s h r a b =
    let j = passes-job s.job h.job in
    let n : ℕ = saw_cost s in
    let rows : List (List ℕ) = map placement_row (saw_run s).placements in
    let ps = fit-placements s.job j (saw_run s).placements (rows_ok (job_of s.job) (saw_run s).placements a) in
    let last = fit-result (job_of s.job) n s.place s.prices (rows-admission s r) h.prices b in
    ap lines_in (printed-lines s)
    ∙ lines-both-ways.written (printed_rows s) (fit_append rows (result_row (job_of s.job) n s.prices ∷ []) ps (last, tt))

-- the answer to an accepted text is what is written of its plan
accepted :
    (bs : List ℕ)
    → text_row saw_grammar (fed saw_grammar (started saw_grammar) bs) ≡ pass
    → saw_rows (saw_holds bs) ≡ pass
    → saw_text bs ≡ saw_lines (saw_holds bs)
unfolding saw_text saw_written written
accepted bs t r = rw (t, r)

-- ---- lines 7 after the job's lines

fold-count : (ws : List ℕ) (ps : List Placement) → JobWhole ws → length (job_rows ws ++ map placement_row ps) ≡ job_lines ws + length ps
fold-count ws ps j =
    length-append (job_rows ws) (map placement_row ps) ∙ omega (arith, (placement_rows-size ps).0, (job_rows-size (types_of ws) ws j.size).0)

fold-text :
    (ws : List ℕ) (ps : List Placement)
    → job_words ws ≡ pass
    → layout_words (job_of ws) (placement_words ps) ≡ pass
    → length ps ≤ max_pieces
    → Text fold_grammar (bytes_of (job_rows ws) ++ flat_map placement_line ps) (fold_of body ws (placement_words ps))
unfolding fold_complete
fold-text ws ps h a l =
    let j = passes-job ws h in
    let n = board-types ws j.board in
    let z = board-sizes ws j.board in
    let k = fold-count ws ps j in
    record {
      lines = job_rows ws ++ map placement_row ps;
      bytes = ap (λ (l : List ℕ). bytes_of (job_rows ws) ++ l) (placement-lines ps) ∙ sym (words_append line_of (job_rows ws) (map placement_row ps));
      few = omega arith;
      runs =
          runs_append fold_grammar fold_grammar.start (fold_of body ws []) (fold_of body ws (placement_words ps)) (job_rows ws) (map placement_row ps)
          (job-runs fold_grammar (λ p us. fold_of p us []) fold-opens ws j)
          (layouts-run ws [] ps j (rows_ok (job_of ws) ps a));
      whole = refl;
    }

-- the output read back
pub printed : PrintedBack
unfolding fold-text
printed =
    record {
      lines = printed-lines;
      back = λ bs t r.
          let held = (saw-both-ways.read bs t).0 in
          ap lines_in (accepted bs t r)
          ∙ printed-back (saw_holds bs) held r (saw-placed (saw_holds bs) held r) (saw-cost (saw_holds bs) held r);
      counts = fold-lines;
      folds = λ ws ps h a l.
          let t = fold-text ws ps h a l in (
            text-read fold_grammar fold-plain (bytes_of (job_rows ws) ++ flat_map placement_line ps) (fold_of body ws (placement_words ps)) t
                ∙ ap (standing fold_grammar (fold_of body ws (placement_words ps))) (fold-count ws ps (passes-job ws h)),
            text-row fold_grammar fold-plain (bytes_of (job_rows ws) ++ flat_map placement_line ps) (fold_of body ws (placement_words ps)) t,
          );
    }
