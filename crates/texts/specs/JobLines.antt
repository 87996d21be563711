-- Document 01, "Texts", with the sizes of request Six: where a text stands, and its lines of kinds 1, 10 and 2, with which both texts begin.
use Rattle.std.specs.Prelude.{ℕ, suc, ◌+◌, cond, List, eqb}
pub use Rattle.job.specs.Job.{board_sizes, types_of}

-- what comes next: line 1; line 10 of size j (request Six); line 2 of type i; the body, which is lines 3 or 4 of a saw text and lines 7 of a fold
-- text; line 5 of type i; line 6 of plate type j; nothing more
pub data Place : Type 0 where
  first : Place
  sizes : ℕ → Place
  types : ℕ → Place
  body : Place
  item_prices : ℕ → Place
  plate_prices : ℕ → Place
  done : Place

-- what comes after line 10 of size j, of t sizes
unfoldable pub after_size : ℕ → ℕ → Place
after_size t j = cond (eqb (suc j) t) (types 1) (sizes (suc j))

-- what comes after line 2 of type i, of n types
unfoldable pub after_type : ℕ → ℕ → Place
after_type n i = cond (eqb i n) body (types (suc i))

-- the lines of the job: line 1, the lines 10 and the lines 2
abbrev pub job_lines : List ℕ → ℕ
job_lines ws = suc (board_sizes ws + types_of ws)

-- the number of the first line after the job's
abbrev pub body_line : List ℕ → ℕ
body_line ws = suc (job_lines ws)
