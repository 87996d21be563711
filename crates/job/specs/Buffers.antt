-- Document 01, "Where each number is given": what a call answers, and what a lent buffer holds when it ends.
use Rattle.std.specs.Prelude.{ℕ, ◌-◌, true, false, List, ◌++◌, ltb, eqb, length, replicate}
use Rattle.job.specs.Verdict.{Verdict, pass, refuse, refuse_if}
pub use Rattle.job.specs.Sizes.{plates_size, cuts_size, counts_size, placements_size, offcuts_size}

-- a call's results, or the refusal's number and the place that it names
pub data Answer : Type 0 where
  given : List ℕ → Answer
  refused : ℕ → ℕ → Answer

abbrev pub answer : Verdict → List ℕ → Answer
answer pass results = given results
answer (refuse number place) results = refused number place

-- a buffer of a given length that holds the words and, past them, zeros
unfoldable pub filled : ℕ → List ℕ → List ℕ
filled size ws = ws ++ replicate (size - length ws) 0

-- what a lent buffer ends as, by the call's verdict: after success its words and then zeros, after refusal 5 as it was, after any other refusal zeros
abbrev pub ends : Verdict → List ℕ → List ℕ → List ℕ
ends pass buffer ws = filled (length buffer) ws
ends (refuse number place) buffer ws = elim (eqb number 5) [ true ↦ buffer | false ↦ replicate (length buffer) 0 ]

-- 5: a lent buffer is shorter than its full size. The place names `which` it is: 1 plates, 2 cuts, 3 counts, 4 placements, 5 offcuts (request Two)
unfoldable pub sized : ℕ → ℕ → List ℕ → Verdict
sized which size buffer = refuse_if (ltb (length buffer) size) 5 which
