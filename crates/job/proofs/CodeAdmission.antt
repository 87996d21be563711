-- The checks of a job in their order, on plain values: what each test that held or failed leaves of the verdict; and what words that passed are.
use mathlib.Core.Path.{◌≡◌, refl}
use mathlib.Core.Bool.{true, false, not}
use mathlib.Core.List.{List}
use Prim.Native.Nat.{ℕ, ◌≤◌}
use native.Mathlib.Omega.{arith}
use borrow.Author.Tests.{eq-eqb, ne_eqb}
use lib.Dec.{ltb, eqb}
use lib.ListN.{length, get_or}
use Rattle.job.specs.declared.head.Head.{Head}
use Rattle.job.specs.Sizes.{job_size}
use Rattle.job.specs.Verdict.{Verdict, pass, refuse, ◌then◌, refuse_if, lowest}
use Rattle.job.specs.Lists.{all}
use Rattle.job.specs.Job.{Job, max_sizes, max_types, max_pieces, job_of, head_right, size_right, board_right, item_right, job_words, larger, demanded, admission}
use Rattle.job.specs.JobWords.{JobWords}
use Rattle.job.specs.Head.{HeadOf}
use Rattle.job.proofs.CodeEnds.{Not5, not5-if, not5-then, not5-lowest}
use Rattle.job.proofs.Admission.{head-limits, words_right}

-- a head whose words are right has at most 40 types
pub head_few : (ws : List ℕ) → head_right ws ≡ true → get_or ws 3 0 ≤ max_types
head_few ws b = (head-limits ws b).3.1

-- the three checks of a job's words
abbrev length-check : List ℕ → Verdict
length-check ws = refuse_if (not (eqb (length ws) (job_size (get_or ws 2 0) (get_or ws 3 0)))) 1 0

abbrev board-check : List ℕ → Verdict
board-check ws = refuse_if (not (board_right ws)) 2 0

abbrev types-check : List ℕ → Verdict
types-check ws = lowest 2 (λ _ it. not (item_right it)) 1 (job_of ws).items

module _ (ws : List ℕ) where
  -- another length is 1
  pub other_length : (length ws ≡ job_size (get_or ws 2 0) (get_or ws 3 0) → ⊥) → refuse 1 0 ≡ job_words ws
  unfolding job_words
  other_length h = rw (ne_eqb _ _ h)

  module _ (l : length ws ≡ job_size (get_or ws 2 0) (get_or ws 3 0)) where
    -- a word of the head outside its limits is 2
    pub head-wrong : head_right ws ≡ false → refuse 2 0 ≡ job_words ws
    unfolding job_words board_right
    head-wrong b = rw (eq-eqb _ _ l, b)

    module _ (b : head_right ws ≡ true) where
      -- and so is one of a size
      pub size-wrong : all size_right (job_of ws).sizes ≡ false → refuse 2 0 ≡ job_words ws
      unfolding job_words board_right
      size-wrong z = rw (eq-eqb _ _ l, b, z)

      -- else the item types decide
      pub by-types : {v : Verdict} → all size_right (job_of ws).sizes ≡ true → v ≡ types-check ws → v ≡ job_words ws
      unfolding job_words board_right
      by-types z e = rw (eq-eqb _ _ l, b, z) e

-- the first check of an admission
abbrev size-check : Job → Verdict
size-check job = lowest 3 (λ _ it. larger job it) 1 job.items

-- words that passed: their length, at least one size and at most six, and at most 40 types
module _ (ws : List ℕ) (e : job_words ws ≡ pass) where
  pub passed_length : length ws ≡ job_size (get_or ws 2 0) (get_or ws 3 0)
  passed_length = (words_right ws e).whole

  pub passed-some-size : 1 ≤ get_or ws 2 0
  passed-some-size = (words_right ws e).sizes-limits.0

  pub passed-few-sizes : get_or ws 2 0 ≤ max_sizes
  passed-few-sizes = (words_right ws e).sizes-limits.1

  pub passed-few : get_or ws 3 0 ≤ max_types
  passed-few = (words_right ws e).types-limits.1

  -- what the code knows of them, with the mode and the numbers of sizes and of types of their head
  pub passed_words : {head : Head} → HeadOf ws head → JobWords ws head.mode head.sizes.0 head.types.0
  passed_words h =
      rw (h.of_types, h.of-sizes) (record {
        words = passed_length;
        sizes = refl;
        some_size = passed-some-size;
        few-sizes = passed-few-sizes;
        few = passed-few;
        of-mode = h.of-mode;
      })

-- the checks of a job give 1 to 4
pub words-not5 : (ws : List ℕ) → Not5 (job_words ws)
unfolding job_words
words-not5 ws =
    not5-then (length-check ws) (board-check ws then types-check ws) (not5-if (not (eqb (length ws) (job_size (get_or ws 2 0) (get_or ws 3 0)))) 1 0 (λ e. omega arith))
    (not5-then (board-check ws) (types-check ws) (not5-if (not (board_right ws)) 2 0 (λ e. omega arith)) (not5-lowest 2 _ 1 (job_of ws).items (λ e. omega arith)))

pub admission-not5 : (job : Job) → Not5 (admission job)
unfolding admission
admission-not5 job =
    not5-then (size-check job) (refuse_if (ltb max_pieces (demanded job)) 4 0) (not5-lowest 3 _ 1 job.items (λ e. omega arith)) (not5-if (ltb max_pieces (demanded job)) 4 0 (λ e. omega arith))
