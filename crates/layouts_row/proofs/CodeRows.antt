-- The checks of the layouts row in their order, on plain values; and what words that passed are.
use mathlib.Core.Path.{◌≡◌, ◌∙◌}
use Prim.Native.Nat.{ℕ, ◌*◌, ◌≤◌, ◌<◌, ◌/◌}
use mathlib.Core.List.{List}
use native.Mathlib.Omega.{arith}
use borrow.Author.Tests.{lt-ltb, le-ltb}
use lib.ListN.{length, get_or}
use Rattle.job.specs.Sizes.{max_pieces, words_of_placement, job_size}
use Rattle.job.specs.Verdict.{Verdict, pass, refuse, ◌then◌, lowest}
use Rattle.job.specs.Job.{Job, job_of, job_words}
use Rattle.job.proofs.Verdicts.{then-assoc}
use Rattle.job.proofs.CodeAdmission.{passed_length, passed-few}
use Rattle.job.proofs.CodeItems.{items-length}
use Rattle.job.proofs.SizeWords.{sizes-length}
use Rattle.layouts.specs.Lines.{rows_of, layout_words, turns}
use Rattle.layouts.specs.LayoutsRow.{lacks, layouts_row}
use Rattle.layouts.specs.Rules.{OfJob}
use Rattle.layouts.proofs.row.RowWords.{words-exact}
use Rattle.placement.specs.PlacementRead.{placement_at}
use Rattle.placement.proofs.Rows.{whole-rows}
use Rattle.layouts_lines.proofs.CodeLimits.{whole-lines, passed-item, passed-sized}
use Rattle.layouts_strips.specs.Measures.{Typed, LentLines}
use Rattle.layouts_row.specs.RowParts.{strips_row}

-- words that passed are whole lines ..
pub passed-whole : (job : Job) (ws : List ℕ) → layout_words job ws ≡ pass → length ws ≡ words_of_placement * (length ws / words_of_placement)
passed-whole job ws p = whole-lines ws ((words-exact job ws).0 p).0

-- .. of item types of the job, in a position
pub passed-typed : (job ws : List ℕ) (lines : ℕ) → job_words job ≡ pass → layout_words (job_of job) ws ≡ pass → length ws ≡ words_of_placement * lines → (c : ℕ) → c < lines → Typed job (placement_at ws c).item
passed-typed job ws lines j p whole c h =
    let t : OfJob (job_of job) (placement_at ws c).item = passed-item (job_of job) ws lines c p whole h in
    let l : length job ≡ job_size (get_or job 2 0) (get_or job 3 0) = passed_length job j in
    let n : length (job_of job).items ≡ get_or job 3 0 = items-length job (get_or job 3 0) l in
    record { from_one = t.type.0; words = omega (arith, t.type.1); few = omega (arith, t.type.1, passed-few job j) }

pub passed-lent : (job ws : List ℕ) → job_words job ≡ pass → layout_words (job_of job) ws ≡ pass → length ws / words_of_placement ≤ max_pieces → LentLines job ws (length ws / words_of_placement)
passed-lent job ws j p few =
    let whole : length ws ≡ words_of_placement * (length ws / words_of_placement) = passed-whole (job_of job) ws p in
    record {
      sizes = omega (arith, passed_length job j);
      whole = whole;
      few = few;
      typed = passed-typed job ws (length ws / words_of_placement) j p whole;
      sized = λ c h. rw (sizes-length job (omega (arith, passed_length job j))) at (passed-sized (job_of job) ws (length ws / words_of_placement) p whole c h);
    }

-- the layouts row, whose strips' part is one check
module _ (k : ℕ) (job : Job) (ws : List ℕ) (p : layout_words job ws ≡ pass) where
  -- more than 4,000 lines are 10
  pub too_many : max_pieces < length ws / words_of_placement → refuse 10 0 ≡ layouts_row k job (rows_of ws)
  unfolding layouts_row
  too_many h = rw (whole-rows ws (length ws / words_of_placement) (passed-whole job ws p), lt-ltb _ _ h)

  -- else turns, strips and demands decide
  pub by_rows : length ws / words_of_placement ≤ max_pieces → {v : Verdict} → v ≡ (turns k (rows_of ws) then strips_row k job (rows_of ws) then lowest 11 (lacks (rows_of ws)) 1 job.items) → v ≡ layouts_row k job (rows_of ws)
  unfolding layouts_row
  by_rows h e = rw (whole-rows ws (length ws / words_of_placement) (passed-whole job ws p), le-ltb _ _ h) (e ∙ simp then-assoc)
