use mathlib.Core.Path.{◌≡◌, refl}
use mathlib.Core.Bool.{◌&&◌}
use Rattle.job.specs.Verdict.{within}
use Rattle.job.specs.Job.{side, item_right, max_pieces}
use Rattle.job.proofs.CodeTests.{and-next, and-stop}
use Rattle.job.proofs.admit.item_right.Goals.{else-within, else-within-2, then-within, then-within-2}
use Rattle.job.proofs.admit.item_right.Goals as goal

pub returns-then-within-3 : goal.returns-then-within-3
unfolding item_right
returns-then-within-3 c =
    let two : c.if-within.value ≡ (side c.args.item.width && side c.args.item.height) = elim c.if-within.branch [ then-within w ↦ and-next c.within.ensures w.if-within.true w.within-then-within.ensures w.value-is | else-within w ↦ and-stop _ c.within.ensures w.if-within.false w.value-is ] in
    let three : let it = c.args.item in c.if-within-2.value ≡ (side it.width && side it.height && within 1 max_pieces it.demand) = elim c.if-within-2.branch [ then-within-2 w ↦ and-next two w.if-within-2.true w.within-then-within-2.ensures w.value-is | else-within-2 w ↦ and-stop _ two w.if-within-2.false w.value-is ] in
    and-next three c.if-within-3.true c.within-then-within-3.ensures refl

pub returns-else-within-3 : goal.returns-else-within-3
unfolding item_right
returns-else-within-3 c =
    let two : c.if-within.value ≡ (side c.args.item.width && side c.args.item.height) = elim c.if-within.branch [ then-within w ↦ and-next c.within.ensures w.if-within.true w.within-then-within.ensures w.value-is | else-within w ↦ and-stop _ c.within.ensures w.if-within.false w.value-is ] in
    let three : let it = c.args.item in c.if-within-2.value ≡ (side it.width && side it.height && within 1 max_pieces it.demand) = elim c.if-within-2.branch [ then-within-2 w ↦ and-next two w.if-within-2.true w.within-then-within-2.ensures w.value-is | else-within-2 w ↦ and-stop _ two w.if-within-2.false w.value-is ] in
    and-stop _ three c.if-within-3.false refl
