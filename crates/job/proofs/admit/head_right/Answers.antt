use mathlib.Core.Path.{◌≡◌, refl}
use mathlib.Core.Bool.{Bool, ◌&&◌}
use mathlib.Core.List.{List}
use Prim.Native.Nat.{ℕ}
use lib.ListN.{get_or}
use Rattle.job.specs.Sizes.{max_sizes, max_types}
use Rattle.job.specs.Verdict.{within}
use Rattle.job.specs.Job.{head_right}
use Rattle.job.proofs.CodeTests.{and-next, and-stop}
use Rattle.job.proofs.admit.head_right.Goals.{else-within, else-within-2, else-within-3, then-within, then-within-2, then-within-3}
use Rattle.job.proofs.admit.head_right.Goals as goal

-- what the first two tests say of words, the first three and four
abbrev two : List ℕ → Bool
two ws = within 2 3 (get_or ws 0 0) && within 0 1 (get_or ws 1 0)

abbrev three : List ℕ → Bool
three ws = two ws && within 1 max_sizes (get_or ws 2 0)

abbrev four : List ℕ → Bool
four ws = three ws && within 1 max_types (get_or ws 3 0)

pub returns-then-within-4 : goal.returns-then-within-4
unfolding head_right
returns-then-within-4 c =
    let words : List ℕ = c.args.job.now in
    let flag-two : c.if-within.value ≡ two words = elim c.if-within.branch [ then-within w ↦ and-next c.within.ensures w.if-within.true w.within-then-within.ensures w.value-is | else-within w ↦ and-stop _ c.within.ensures w.if-within.false w.value-is ] in
    let flag-three : c.if-within-2.value ≡ three words = elim c.if-within-2.branch [ then-within-2 w ↦ and-next flag-two w.if-within-2.true w.within-then-within-2.ensures w.value-is | else-within-2 w ↦ and-stop _ flag-two w.if-within-2.false w.value-is ] in
    let flag-four : c.if-within-3.value ≡ four words = elim c.if-within-3.branch [ then-within-3 w ↦ and-next flag-three w.if-within-3.true w.within-then-within-3.ensures w.value-is | else-within-3 w ↦ and-stop _ flag-three w.if-within-3.false w.value-is ] in
    and-next flag-four c.if-within-4.true c.within-then-within-4.ensures refl

pub returns-else-within-4 : goal.returns-else-within-4
unfolding head_right
returns-else-within-4 c =
    let words : List ℕ = c.args.job.now in
    let flag-two : c.if-within.value ≡ two words = elim c.if-within.branch [ then-within w ↦ and-next c.within.ensures w.if-within.true w.within-then-within.ensures w.value-is | else-within w ↦ and-stop _ c.within.ensures w.if-within.false w.value-is ] in
    let flag-three : c.if-within-2.value ≡ three words = elim c.if-within-2.branch [ then-within-2 w ↦ and-next flag-two w.if-within-2.true w.within-then-within-2.ensures w.value-is | else-within-2 w ↦ and-stop _ flag-two w.if-within-2.false w.value-is ] in
    let flag-four : c.if-within-3.value ≡ four words = elim c.if-within-3.branch [ then-within-3 w ↦ and-next flag-three w.if-within-3.true w.within-then-within-3.ensures w.value-is | else-within-3 w ↦ and-stop _ flag-three w.if-within-3.false w.value-is ] in
    and-stop _ flag-four c.if-within-4.false refl
