use mathlib.Core.Logic.{⊎_elim}
use native.Mathlib.Omega.{arith}
use Rattle.columns.proofs.GroupLaws.{mark-cases, column-none, column-is, column-digit}
use Rattle.columns.proofs.group.column.Goals as goal

pub returns-then-v-eq0 : goal.returns-then-v-eq0
returns-then-v-eq0 c = column-is _ _ _ (omega arith) (omega arith) (⊎_elim (λ w. omega arith) (λ w. omega arith) (mark-cases 0))

pub returns-then-b-eq32 : goal.returns-then-b-eq32
returns-then-b-eq32 c = column-none _ _ (λ n l p q. ⊎_elim (λ w. omega arith) (λ w. omega arith) (mark-cases n))

pub returns-then-b-lt48 : goal.returns-then-b-lt48
returns-then-b-lt48 c =
    column-none _ _ (λ n l p q. ⊎_elim (λ w. omega arith) (λ w. omega arith) (mark-cases n))

pub returns-then-w-eq0 : goal.returns-then-w-eq0
returns-then-w-eq0 c = column-none _ _ (λ n l p q. ⊎_elim (λ w. omega arith) (λ w. omega arith) (mark-cases n))

pub returns : goal.returns
returns c = column-digit _ _ (omega arith) (omega arith) (omega arith) (omega arith)
