-- What the code knows of a job's words once the line row has passed: enough to read every size and every item type, and to know
-- the mode.
use Rattle.std.specs.Prelude.{ℕ, ◌≤◌, ◌≡◌, List, length}
use Rattle.job.specs.declared.mode.Mode.{Mode}
use Rattle.job.specs.Sizes.{job_size}
use Rattle.job.specs.Job.{board_sizes, job_of, max_sizes, max_types}

-- `ws` are the words of a job of this mode with t sizes and n item types
pub record JobWords (ws : List ℕ) (mode : Mode) (t n : ℕ) : Type 0 where
  -- five words, three for each size and four for each type
  pub words : length ws ≡ job_size t n
  -- the number of sizes is the third word
  pub sizes : board_sizes ws ≡ t
  -- at least one size and at most six
  pub some_size : 1 ≤ t
  pub few-sizes : t ≤ max_sizes
  -- at most 40 types
  pub few : n ≤ max_types
  -- the mode is the job's
  pub of-mode : mode ≡ (job_of ws).mode
