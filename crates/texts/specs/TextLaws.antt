-- What holds of texts, as statements: lines and texts both ways, texts in parts, what the programs write, how much of a text decides, and texts as calls.
use Rattle.std.specs.Prelude.{ℕ, suc, ◌+◌, ◌-◌, ◌*◌, ◌≤◌, ◌<◌, ◌≡◌, ◌↔◌, false, List, [], ◌∷◌, ◌++◌, length, take}
use Rattle.std.proofs.Math.Option.{some}
use Rattle.job.specs.Verdict.{pass, refuse}
use Rattle.job.specs.Buffers.{filled, plates_size, cuts_size, counts_size}
use Rattle.job.specs.Job.{job_of}
use Rattle.listing.specs.Listing.{listing_of}
use Rattle.plan.specs.PlanCall.{plan_verdict}
use Rattle.plan.specs.PriceCall.{price_verdict}
use Rattle.layouts.specs.FoldCall.{fold_verdict}
use Rattle.columns.specs.Widths.{most_numbers}
use Rattle.columns.specs.Line.{Fit, line_of, read_line}
use Rattle.texts.specs.Widths.{placement_line_bytes, job_line_bytes, size_line_bytes, type_line_bytes, plan_line_bytes}
use Rattle.texts.specs.Shape.{Shape, line_row}
use Rattle.texts.specs.Reader.{Grammar, Reader, started, line_read, fed, text_row, max_lines}
use Rattle.texts.specs.SawText.{PriceLines, Saw, saw_grammar, plan_counts, saw_rows, saw_text}
use Rattle.texts.specs.FoldText.{Fold, fold_grammar, fold_rows, fold_text}
use Rattle.texts.specs.Admitted.{OfShape, Admitted, Text}
use Rattle.texts.specs.Held.{SawWhole, FoldWhole, SawBothWays, FoldBothWays}
use Rattle.texts.specs.Printed.{LinesBothWays, PrintedBack}
use Rattle.texts.specs.Refused.{RefusedBack}
use Rattle.texts.specs.Shown.{ShownPlates}
use Rattle.texts.specs.Rounds.{Rounds}

-- a line, both ways
pub record OneLine : Type 0 where
  -- reading what was written gives the numbers
  pub read : (ns : List ℕ) → Fit ns → read_line (line_of ns) ≡ some ns
  -- writing what was read gives the bytes
  pub written : (bs ns : List ℕ) → read_line bs ≡ some ns → (bs ≡ line_of ns) × Fit ns
  -- a line that the line row passes is written of numbers of an admitted shape, each within its limits
  pub admitted :
      (line : ℕ) (ss : List Shape) (bs : List ℕ)
      → line_row line ss (read_line bs) ≡ pass
      → (ns : List ℕ) × (bs ≡ line_of ns) × Fit ns × Admitted ss ns
  -- and every line of a shape, its numbers within their limits, passes as it is written
  pub passes :
      (line : ℕ) (s : Shape) (ss : List Shape) (ns : List ℕ)
      → OfShape s ns
      → Fit ns
      → line_row line (s ∷ ss) (read_line (line_of ns)) ≡ pass

-- the line row of a whole text, in plain numbers
pub record LineRow {S : Type 0} (g : Grammar S) : Type 0 where
  -- a text that passes is lines of its grammar, which bring it to where the reader stands
  pub passed : (bs : List ℕ) → text_row g (fed g (started g) bs) ≡ pass → Text g bs (fed g (started g) bs).state
  -- and lines of the grammar pass, and the reader stands where they bring it
  pub passes : (bs : List ℕ) (s : S) → Text g bs s → (text_row g (fed g (started g) bs) ≡ pass) × ((fed g (started g) bs).state ≡ s)

-- a text in parts, of any grammar
pub record InParts {S : Type 0} (g : Grammar S) : Type 0 where
  -- one part after another is the whole
  pub parts : (r : Reader S) (as' bs : List ℕ) → fed g r (as' ++ bs) ≡ fed g (fed g r as') bs
  -- once refused a text stays as it is
  pub refused : (r : Reader S) (bs : List ℕ) (n p : ℕ) → r.verdict ≡ refuse n p → fed g r bs ≡ r
  -- a line written of at most ten numbers is read at once
  pub line :
      (r : Reader S) (ns : List ℕ)
      → r.verdict ≡ pass
      → r.lines < max_lines
      → r.pending ≡ []
      → Fit ns
      → length ns ≤ most_numbers
      → fed g r (line_of ns) ≡ line_read g r (some ns)
  -- any byte after 99,999 lines is 1, line 100,000
  pub over :
      (bs : List ℕ) (b : ℕ) (cs : List ℕ)
      → (fed g (started g) bs).verdict ≡ pass
      → (fed g (started g) bs).lines ≡ max_lines
      → (fed g (started g) (bs ++ (b ∷ cs))).verdict ≡ refuse 1 100000
  -- a last line without byte 10 is 1
  pub unended : (r : Reader S) → r.verdict ≡ pass → 0 < length r.pending → text_row g r ≡ refuse 1 (suc r.lines)
  -- "a missing line is named as one past the last"
  pub missing :
      (r : Reader S)
      → r.verdict ≡ pass
      → r.pending ≡ []
      → g.complete r.state ≡ false
      → text_row g r ≡ refuse 1 (suc r.lines)
  -- what a reader keeps of a line that has begun is at most 90 bytes
  pub kept : (bs : List ℕ) → length (fed g (started g) bs).pending < placement_line_bytes

-- the bytes of the longest saw text, 7,299,864: line 1, one line 10, one line 2, and a line 3 for each of the 99,996 lines after them
abbrev pub longest_saw_text : ℕ
longest_saw_text = job_line_bytes + size_line_bytes + type_line_bytes + plan_line_bytes * (max_lines - 3)

-- the bytes of the longest fold text, 9,099,792: line 1, one line 10, one line 2, and a line 7 for each of the 99,996 lines after them
abbrev pub longest_fold_text : ℕ
longest_fold_text = job_line_bytes + size_line_bytes + type_line_bytes + placement_line_bytes * (max_lines - 3)

-- how much of a text decides: as many bytes as the longest has, and one more
pub record Decided : Type 0 where
  pub saw-bytes : (bs : List ℕ) → text_row saw_grammar (fed saw_grammar (started saw_grammar) bs) ≡ pass → length bs ≤ longest_saw_text
  pub fold-bytes : (bs : List ℕ) → text_row fold_grammar (fed fold_grammar (started fold_grammar) bs) ≡ pass → length bs ≤ longest_fold_text
  pub saw : (n : ℕ) (bs : List ℕ) → longest_saw_text < n → saw_text (take n bs) ≡ saw_text bs
  pub fold : (n : ℕ) (bs : List ℕ) → longest_fold_text < n → fold_text (take n bs) ≡ fold_text bs

-- texts and calls, lent and passed buffers of their full sizes
pub record AsCalls (plates cuts : List ℕ) : Type 0 where
  -- what a saw text accepts, the plan test and the price test accept
  pub plan :
      (s : Saw)
      → SawWhole s
      → saw_rows s ≡ pass
      → plan_verdict s.job (filled counts_size (plan_counts (listing_of (job_of s.job)) s.plan)) plates cuts ≡ pass
  pub prices :
      (s : Saw) (ps : PriceLines)
      → SawWhole s
      → saw_rows s ≡ pass
      → s.prices ≡ some ps
      → price_verdict s.job ps.words plates cuts ≡ pass
  -- a fold text is accepted just where folding accepts its words
  pub fold :
      (f : Fold) (counts : List ℕ)
      → FoldWhole f
      → counts_size ≤ length counts
      → fold_rows f ≡ pass ↔ fold_verdict f.job f.layouts plates cuts counts ≡ pass

-- all of these
pub record TextLaws : Type 1 where
  pub one_line : OneLine
  pub lines : LinesBothWays
  pub saw-row : LineRow saw_grammar
  pub fold-row : LineRow fold_grammar
  pub saw : SawBothWays
  pub fold : FoldBothWays
  pub in_parts : {S : Type 0} (g : Grammar S) → InParts g
  pub printed : PrintedBack
  pub refused : RefusedBack
  pub shown : ShownPlates
  pub rounds : Rounds
  pub decided : Decided
  pub as-calls : (plates cuts : List ℕ) → plates_size ≤ length plates → cuts_size ≤ length cuts → AsCalls plates cuts
