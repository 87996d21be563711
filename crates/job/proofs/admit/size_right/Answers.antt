use mathlib.Core.Path.{◌≡◌, refl}
use mathlib.Core.Bool.{◌&&◌}
use Rattle.job.specs.Job.{side, size_right}
use Rattle.job.proofs.CodeTests.{and-next, and-stop}
use Rattle.job.proofs.admit.size_right.Goals.{else-within, then-within}
use Rattle.job.proofs.admit.size_right.Goals as goal

pub returns-then-within-2 : goal.returns-then-within-2
unfolding size_right
returns-then-within-2 c =
    let two : c.if-within.value ≡ (side c.args.size.width && side c.args.size.height) = elim c.if-within.branch [ then-within w ↦ and-next c.within.ensures w.if-within.true w.within-then-within.ensures w.value-is | else-within w ↦ and-stop _ c.within.ensures w.if-within.false w.value-is ] in
    and-next two c.if-within-2.true c.within-then-within-2.ensures refl

pub returns-else-within-2 : goal.returns-else-within-2
unfolding size_right
returns-else-within-2 c =
    let two : c.if-within.value ≡ (side c.args.size.width && side c.args.size.height) = elim c.if-within.branch [ then-within w ↦ and-next c.within.ensures w.if-within.true w.within-then-within.ensures w.value-is | else-within w ↦ and-stop _ c.within.ensures w.if-within.false w.value-is ] in
    and-stop _ two c.if-within-2.false refl
