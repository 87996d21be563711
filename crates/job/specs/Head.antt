-- The head of a job as the code reads it: stages, exact, the number of sizes t (request Six), the number of item types n, and the blade's b (request Four).
use Rattle.std.specs.Prelude.{◌≡◌, List, ℕ}
use Rattle.job.specs.declared.head.Head.{Head}
use Rattle.job.specs.Job.{board_sizes, types_of, job_of}

-- mode and blade are those of the job, the numbers of sizes and of item types are the third and the fourth word
pub record HeadOf (ws : List ℕ) (head : Head) : Type 0 where
  pub of-mode : head.mode ≡ (job_of ws).mode
  pub of-sizes : head.sizes.0 ≡ board_sizes ws
  pub of-blade : head.blade ≡ (job_of ws).blade
  pub of_types : head.types.0 ≡ types_of ws
