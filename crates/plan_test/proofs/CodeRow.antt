-- A row of checks of the code, and what comes after it.
use mathlib.Core.Path.{◌≡◌}
use Prim.Native.Nat.{ℕ}
use mathlib.Core.List.{List}
use Rattle.job.specs.Verdict.{Verdict, ◌then◌}
use Rattle.job.specs.Buffers.{Answer, refused, answer}
use Rattle.std.specs.Prelude.{Result, Ok, Err}
use Rattle.job.specs.declared.refused.Refused.{Refused}
use Rattle.job.specs.Refused.{number_of, row_verdict}

-- the first refusal stands
module _ {r : Result (Unit {0}) Refused} {v : Verdict} (says : row_verdict r ≡ v) (w : Verdict) (bs : List ℕ) where
  pub row-refused : {x : Refused} → r ≡ Err x → refused (number_of x.refusal) x.place ≡ answer (v then w) bs
  row-refused e = rw (← says, e)

  pub row-passed : r ≡ Ok tt → {x : Answer} → x ≡ answer w bs → x ≡ answer (v then w) bs
  row-passed e h = rw (← says, e) h
