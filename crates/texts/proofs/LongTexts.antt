-- How much of a text decides: 7,299,865 bytes of a saw text, 9,099,793 bytes of a fold text.
use Prim.Native.Nat.{ℕ, suc, ◌+◌, ◌*◌, ◌≤◌, ◌<◌}
use native.Mathlib.Omega.{arith}
use mathlib.Core.Path.{◌≡◌, ap, ◌∙◌}
use mathlib.Core.List.{List, ◌++◌, map}
use mathlib.Core.Option.{Option}
use lib.ListN.{length, take, length-append}
use Rattle.job.specs.Verdict.{pass}
use Rattle.job.specs.Job.{max_sizes, max_types}
use Rattle.layouts.specs.Lines.{rows_of}
use Rattle.texts.specs.TextLaws.{longest_saw_text, longest_fold_text}
use Rattle.texts.specs.Widths.{job_line_bytes, size_line_bytes, type_line_bytes, plan_line_bytes, placement_line_bytes}
use Rattle.texts.specs.Reader.{max_lines, longest_line, started, fed, text_row}
use Rattle.texts.specs.JobLines.{Place, first, sizes, types, body, item_prices, plate_prices, done, board_sizes, types_of}
use Rattle.texts.specs.SawText.{Counted, PriceLines, Saw, saw_admits, saw_grammar, saw_rows, placement_row, saw_lines, saw_written, saw_text, saw_of}
use Rattle.texts.specs.FoldText.{Fold, fold_grammar, fold_rows, fold_lines, fold_written, fold_text, fold_of}
use Rattle.texts.specs.TextOf.{job_rows, plan_rows, price_rows, saw_rows_of, fold_rows_of}
use Rattle.texts.proofs.Lists.{bytes_of, bytes-append}
use Rattle.texts.proofs.JobLaws.{JobWhole, board-head, HeadLimits, head-limits}
use Rattle.texts.proofs.JobRows.{job_rows-size, job_rows-before}
use Rattle.texts.proofs.JobText.{AtSizes, AtTypes}
use Rattle.texts.proofs.PlanRows.{plan_rows-size, price_rows-bound}
use Rattle.texts.proofs.LayoutRows.{placement_rows-size}
use Rattle.texts.proofs.SawRead.{Past, SawForm, saw-at}
use Rattle.texts.proofs.FoldTexts.{LaidOut, FoldForm, fold_at}
use Rattle.texts.proofs.Prefix.{Longer, Enough, text-bytes, decided}

-- the bytes of some lines of a text of the job words ws: 55 for line 1, 46 for each line 10, 55 for each line 2, at most w for each of m further lines
pub record Sizes (ws : List ℕ) (m w : ℕ) (rows : List (List ℕ)) : Type 0 where
  pub limits : HeadLimits ws
  pub count : length rows ≡ suc (board_sizes ws + types_of ws) + m
  pub bytes : length (bytes_of rows) ≤ job_line_bytes + size_line_bytes * board_sizes ws + type_line_bytes * types_of ws + w * m

-- before the body there are at most 46 lines
abbrev before_body : ℕ
before_body = job_line_bytes + size_line_bytes * max_sizes + type_line_bytes * max_types

sizes-size : (j : ℕ) (rows : List (List ℕ)) (ws : List ℕ) → AtSizes j rows ws → length (bytes_of rows) ≤ before_body
sizes-size j rows ws a =
    let n = head-limits ws a.words.head in
    let s = job_rows-before j ws a.words.size (omega (arith, a.high)) in
    let e : length (bytes_of rows) ≡ length (bytes_of (job_rows ws)) = ap (λ (l : List (List ℕ)). length (bytes_of l)) a.lines in
    omega (arith, a.high, n.few-sizes)

types-size : (i : ℕ) (rows : List (List ℕ)) (ws : List ℕ) → AtTypes i rows ws → length (bytes_of rows) ≤ before_body
types-size i rows ws a =
    let s = job_rows-size a.before ws a.words.size in
    let n = head-limits ws (board-head ws a.words.board) in
    let e : length (bytes_of rows) ≡ length (bytes_of (job_rows ws)) = ap (λ (l : List (List ℕ)). length (bytes_of l)) a.lines in
    omega (arith, a.high, a.next, n.few-sizes, n.few-types)

-- the job's lines and further lines
all-sizes :
    (ws : List ℕ) (tail rows : List (List ℕ)) (m w : ℕ)
    → JobWhole ws
    → rows ≡ job_rows ws ++ tail
    → length tail ≡ m
    → length (bytes_of tail) ≤ w * m
    → Sizes ws m w rows
all-sizes ws tail rows m w j e c b =
    let s = job_rows-size (types_of ws) ws j.size in
    let n = head-limits ws (board-head ws j.board) in
    let count : length rows ≡ length (job_rows ws) + length tail = ap length e ∙ length-append (job_rows ws) tail in
    let bytes = ap (λ (l : List (List ℕ)). length (bytes_of l)) e ∙ bytes-append (job_rows ws) tail in
    record { limits = n; count = omega arith; bytes = omega arith }

-- ---- saw texts

past-size :
    (rows : List (List ℕ)) (s : Saw)
    → Past rows s
    → Sizes s.job (length s.plan + length (price_rows (board_sizes s.job) s.prices)) plan_line_bytes rows
unfolding saw_rows_of
past-size rows s p =
    let ps : List (List ℕ) = plan_rows s.plan in
    let qs : List (List ℕ) = price_rows (board_sizes s.job) s.prices in
    let r = plan_rows-size s.plan in
    let q = price_rows-bound (board_sizes s.job) s.prices in
    let c : length (ps ++ qs) ≡ length s.plan + length qs = length-append ps qs ∙ omega arith in
    let b : length (bytes_of (ps ++ qs)) ≡ length (bytes_of ps) + length (bytes_of qs) = bytes-append ps qs in
    all-sizes s.job (ps ++ qs) rows (length s.plan + length qs) plan_line_bytes p.job p.lines c (omega arith)

-- 55 bytes for line 1, 46 for one line 10, 55 for one line 2, 73 for each of 99,996 lines 3, and one more
abbrev pub saw_enough : ℕ
saw_enough = suc longest_saw_text

saw-full :
    (p : Place) (ws : List ℕ) (rs : List Counted) (o : Option PriceLines) (rows : List (List ℕ))
    → SawForm p rows (saw_of p ws rs o)
    → length rows ≤ max_lines
    → length (bytes_of rows) < saw_enough
unfolding mathlib.Core.List.flat_map
saw-full first ws rs o rows h l = rw h (omega arith)
saw-full (sizes j) ws rs o rows h l = let s = sizes-size j rows ws h in omega arith
saw-full (types i) ws rs o rows h l = let s = types-size i rows ws h in omega arith
saw-full body ws rs o rows h l = let s = past-size rows (saw_of body ws rs o) h.0 in omega arith
saw-full (item_prices i) ws rs o rows h l = let s = past-size rows (saw_of (item_prices i) ws rs o) h.0 in omega arith
saw-full (plate_prices j) ws rs o rows h l = let s = past-size rows (saw_of (plate_prices j) ws rs o) h.0 in omega arith
saw-full done ws rs o rows h l = let s = past-size rows (saw_of done ws rs o) h.0 in omega arith

-- where the bytes end within a line of the body or of the prices, more than 73 of its bytes are there
past-long : (rows : List (List ℕ)) (s : Saw) (k : ℕ) → Past rows s → length rows < max_lines → length (bytes_of rows) + k ≡ saw_enough → plan_line_bytes < k
past-long rows s k p l e = let z = past-size rows s p in omega arith

saw-long :
    (p : Place) (ws : List ℕ) (rs : List Counted) (o : Option PriceLines) (rows : List (List ℕ)) (k : ℕ)
    → SawForm p rows (saw_of p ws rs o)
    → length rows < max_lines
    → length (bytes_of rows) + k ≡ saw_enough
    → k < longest_line
    → Longer k (saw_admits (saw_of p ws rs o))
unfolding saw_admits mathlib.Core.List.flat_map
saw-long first ws rs o rows k h l e u = let z : length (bytes_of rows) ≡ 0 = ap (λ (t : List (List ℕ)). length (bytes_of t)) h in absurd (omega arith)
saw-long (sizes j) ws rs o rows k h l e u = let s = sizes-size j rows ws h in absurd (omega arith)
saw-long (types i) ws rs o rows k h l e u = let s = types-size i rows ws h in absurd (omega arith)
saw-long body ws rs o rows k h l e u = let q = past-long rows (saw_of body ws rs o) k h.0 l e in omega arith
saw-long (item_prices i) ws rs o rows k h l e u = let q = past-long rows (saw_of (item_prices i) ws rs o) k h.0 l e in omega arith
saw-long (plate_prices j) ws rs o rows k h l e u = let q = past-long rows (saw_of (plate_prices j) ws rs o) k h.0 l e in omega arith
saw-long done ws rs o rows k h l e u = tt

-- so they are enough for a saw text
pub saw-enough : Enough saw_grammar saw_enough
saw-enough =
    record {
      full = λ rows s r l. saw-full s.place s.job s.plan s.prices rows (saw-at rows s r) l;
      long = λ rows s k r l e u. saw-long s.place s.job s.plan s.prices rows k (saw-at rows s r) l e u;
    }

-- a saw text that passes has at most 7,299,864 bytes
pub saw-bytes : (bs : List ℕ) → text_row saw_grammar (fed saw_grammar (started saw_grammar) bs) ≡ pass → length bs ≤ longest_saw_text
saw-bytes bs h = omega (arith, text-bytes saw_grammar saw_enough saw-enough bs h)

-- the first 7,299,865 bytes of a saw text decide it, and so do any more
pub saw-prefix : (n : ℕ) (bs : List ℕ) → longest_saw_text < n → saw_text (take n bs) ≡ saw_text bs
unfolding saw_text saw_written
saw-prefix n bs h = decided saw_grammar saw_enough n bs saw-enough (omega arith) saw_rows saw_lines

-- ---- fold texts

laid-size :
    (rows : List (List ℕ)) (f : Fold)
    → LaidOut rows f
    → Sizes f.job (length (rows_of f.layouts)) placement_line_bytes rows
unfolding fold_rows_of
laid-size rows f p =
    let ps : List (List ℕ) = map placement_row (rows_of f.layouts) in
    let r = placement_rows-size (rows_of f.layouts) in
    all-sizes f.job ps rows (length (rows_of f.layouts)) placement_line_bytes p.job p.lines r.0 (omega arith)

-- 55 bytes for line 1, 46 for one line 10, 55 for one line 2, 91 for each of 99,996 lines 7, and one more
abbrev pub fold_enough : ℕ
fold_enough = suc longest_fold_text

fold-full :
    (p : Place) (ws us : List ℕ) (rows : List (List ℕ))
    → FoldForm p rows (fold_of p ws us)
    → length rows ≤ max_lines
    → length (bytes_of rows) < fold_enough
unfolding mathlib.Core.List.flat_map
fold-full first ws us rows h l = rw h (omega arith)
fold-full (sizes j) ws us rows h l = let s = sizes-size j rows ws h in omega arith
fold-full (types i) ws us rows h l = let s = types-size i rows ws h in omega arith
fold-full body ws us rows h l = let s = laid-size rows (fold_of body ws us) h in omega arith
fold-full (item_prices i) ws us rows h l = absurd h
fold-full (plate_prices j) ws us rows h l = absurd h
fold-full done ws us rows h l = absurd h

-- the bytes never end within a line: it would be longer than every kind
fold-long :
    (p : Place) (ws us : List ℕ) (rows : List (List ℕ)) (k : ℕ)
    → FoldForm p rows (fold_of p ws us)
    → length rows < max_lines
    → length (bytes_of rows) + k ≡ fold_enough
    → longest_line ≤ k
unfolding mathlib.Core.List.flat_map
fold-long first ws us rows k h l e = let z : length (bytes_of rows) ≡ 0 = ap (λ (t : List (List ℕ)). length (bytes_of t)) h in omega arith
fold-long (sizes j) ws us rows k h l e = let s = sizes-size j rows ws h in omega arith
fold-long (types i) ws us rows k h l e = let s = types-size i rows ws h in omega arith
fold-long body ws us rows k h l e = let s = laid-size rows (fold_of body ws us) h in omega arith
fold-long (item_prices i) ws us rows k h l e = absurd h
fold-long (plate_prices j) ws us rows k h l e = absurd h
fold-long done ws us rows k h l e = absurd h

-- so they are enough for a fold text
pub fold-enough : Enough fold_grammar fold_enough
fold-enough =
    record {
      full = λ rows f r l. fold-full f.place f.job f.layouts rows (fold_at rows f r) l;
      long = λ rows f k r l e u. let q = fold-long f.place f.job f.layouts rows k (fold_at rows f r) l e in absurd (omega arith);
    }

-- a fold text that passes has at most 9,099,792 bytes
pub fold-bytes : (bs : List ℕ) → text_row fold_grammar (fed fold_grammar (started fold_grammar) bs) ≡ pass → length bs ≤ longest_fold_text
fold-bytes bs h = omega (arith, text-bytes fold_grammar fold_enough fold-enough bs h)

-- the first 9,099,793 bytes of a fold text decide it, and so do any more
pub fold-prefix : (n : ℕ) (bs : List ℕ) → longest_fold_text < n → fold_text (take n bs) ≡ fold_text bs
unfolding fold_text fold_written
fold-prefix n bs h = decided fold_grammar fold_enough n bs fold-enough (omega arith) fold_rows fold_lines
