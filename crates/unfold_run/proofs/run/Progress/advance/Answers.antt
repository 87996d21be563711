use mathlib.Core.Path.{◌≡◌, sym, ap, ◌∙◌}
use mathlib.Core.List.{List}
use Prim.Native.Nat.{ℕ, ◌+◌, ◌≤◌}
use native.Mathlib.Omega.{arith}
use lib.ListN.{length}
use Rattle.job.proofs.Admission.{admitted-sided}
use Rattle.listing.specs.Listing.{Listing}
use Rattle.plan.specs.Plan.{boards_of}
use Rattle.layouts.specs.Unfold.{Step, idle, open_board}
use Rattle.layouts.specs.Demand3.{J, L}
use Rattle.unfold_step.specs.declared.state.Step.{Step as CodeStep}
use Rattle.unfold_step.specs.Meaning.{state_of, step_means, step_spends, counts_after}
use Rattle.unfold_step.proofs.CodeCut.{plate-there}
use Rattle.unfold_step.proofs.CodeParts.{part-there}
use Rattle.unfold_step.proofs.Inside.{over-in}
use Rattle.unfold_run.specs.declared.remaining.Remaining.{Remaining}
use Rattle.unfold_run.specs.Opening.{OpensFrom}
use Rattle.unfold_run.specs.Going.{left_at}
use Rattle.unfold_run.proofs.CodeOpening.{next_here, next-none, opens-same, opens-after}
use Rattle.unfold_run.proofs.CodeRun.{placed-room, going-placed, going-over, going-open, going-ended}
use Rattle.unfold_run.proofs.CodeLeaving.{over-room, leaving-placed, leaving-over, leaving-open, leaving-ended}
use Rattle.unfold_run.proofs.run.Progress.advance.Goals as goal

-- `advance` takes a step, and goes on by what it does.
-- what the answer of `step` says once its case is known
told : {s : Step} {r r' : CodeStep} (z : ℕ) (ns : List ℕ) → step_means z r ns ≡ s → r ≡ r' → s ≡ step_means z r' ns
told z ns e f = sym e ∙ ap (λ (r : CodeStep). step_means z r ns) f

-- and what it takes from the counts on each plate type
taken-from :
    (l : Listing) (ns ns' : List ℕ) {r r' : CodeStep}
    → ((j : ℕ) → boards_of l j ns ≡ step_spends j r + boards_of l j ns')
    → r ≡ r'
    → (j : ℕ)
    → boards_of l j ns ≡ step_spends j r' + boards_of l j ns'
taken-from l ns ns' h e j = h j ∙ ap (λ (r : CodeStep). step_spends j r + boards_of l j ns') e

-- a step that finds nothing waiting leaves the counts as they were
unspent : {ns ns' : List ℕ} {s : Step} → ns' ≡ counts_after s ns → s ≡ idle → ns' ≡ ns
unspent {ns} e f = e ∙ ap (λ (s : Step). counts_after s ns) f

-- the boards left, by the number of sizes that the code has and by that of the job
opens_by :
    (l : Listing) (r : Remaining) {t t' : ℕ} {ns ns' : List ℕ}
    → t ≡ t'
    → ns ≡ ns'
    → OpensFrom l t r ns
    → OpensFrom l t' r ns'
opens_by l r e f o = rw (← e, ← f) o

pub put_placement-requires : goal.put_placement-requires
put_placement-requires c =
    let go = c.requires.goes_on in
    let r = c.step in
    let size = c.args.self.size.0 in
    let places = told size r.new.counts (r.ensures.by_index size) c.in-Placed.is in
    let few = placed-room _ _ c.requires.parts_lent.lent.model go.whole go.fuel _ _ _ _ go.going.0 _ _ places in
    (omega (arith, few, go.going.0.room), c.placement_of.ensures.1)

-- the piece left over is of a plate type that is lent
pub offcut_of-o-requires : goal.offcut_of-o-requires
offcut_of-o-requires c =
    let r = c.step in
    let size = c.args.self.size.0 in
    let leaves = told size r.new.counts (r.ensures.by_index size) c.in-LeftOver.is in
    let lent = c.requires.parts_lent.lent in
    let over = over-in _ _ lent.model _ _ _ _ c.requires.goes_on.going.0.within leaves in
    plate-there _ _ _ lent _ over.listed

pub list_offcut-requires : goal.list_offcut-requires
list_offcut-requires c =
    let go = c.requires.goes_on in
    let r = c.step in
    let size = c.args.self.size.0 in
    over-room _ _ _ _ go.fuel _ _ _ go.going.1 _ _ (told size r.new.counts (r.ensures.by_index size) c.in-LeftOver.is)

pub next-open-requires : goal.next-open-requires
next-open-requires c =
    let lent = c.requires.parts_lent.lent in
    let g = c.requires.goes_on.going.0 in
    let r = c.step in
    let size = c.args.self.size.0 in
    let idles = told size r.new.counts (r.ensures.by_index size) c.in-Idle.is in
    let same = ap length (unspent (r.ensures.by_index_2 size) idles) in
    let plates = lent.model.size-plates in
    let t = c.requires.blade_value.1 in (
      omega (arith, g.boards-left.listed, t),
      λ j h. part-there _ _ _ _ c.requires.parts_lent _ (omega (arith, g.counted, same)) j (omega (arith, plates, t)),
    )

pub returns-then-open-eq0 : goal.returns-then-open-eq0
returns-then-open-eq0 c whole os fuel g =
    let a = c.args in
    let lent = c.requires.parts_lent.lent in
    let sizes = c.requires.blade_value.1 in
    let r = c.step in
    let next = c.next-open in
    let l = L a.job.now in
    let size = a.self.size.0 in
    let idles = told size r.new.counts (r.ensures.by_index size) c.in-Idle.is in
    let unspent = unspent (r.ensures.by_index_2 size) idles in
    let same = ap (state_of a.self.size.0 a.self.state) unspent in
    let from = opens_by l (left_at a.self) (sym sizes) (sym unspent) g.0.boards-left in
    let on = next.ensures.opens_from _ l lent.model c.requires.parts_lent.begins-are from in
    let opens = opens_by l next.result sizes unspent on in
    let n = length (J a.job.now).sizes in
    let last : n ≤ next.result.size.0 + 1 = omega (arith, next.ensures.sizes_bound c.if-open-eq0.true, sizes) in
    let none = next-none l n next.result a.counts.now opens c.if-open-eq0.true last in
    let going = going-ended _ _ lent.model whole fuel _ _ _ _ g.0 idles none _ same in
    (going, leaving-ended _ _ _ os fuel _ _ _ g.1 idles none _ same)

pub returns-in-Placed : goal.returns-in-Placed
returns-in-Placed c whole os fuel g =
    let r = c.step in
    let put = c.put_placement in
    let left = c.after in
    let lent = c.requires.parts_lent.lent in
    let size = c.args.self.size.0 in
    let ns = r.new.counts in
    let places = told size ns (r.ensures.by_index size) c.in-Placed.is in
    let taken = taken-from (L c.args.job.now) c.args.counts.now ns r.ensures.by_index_3 c.in-Placed.is in
    let kept = opens-after _ _ (left_at c.args.self) _ g.0.boards-left ns c.in-Placed.item.plate.0 taken in
    let opens = kept left.result left.ensures in
    let goes = going-placed _ _ lent.model whole fuel _ _ _ _ g.0 _ _ places (admitted-sided _ lent.admitted) in (
      goes c.placement_of.ensures.0 put.ensures put.auto.words opens,
      leaving-placed _ _ _ os fuel _ _ _ g.1 _ _ places,
    )

pub returns-in-LeftOver : goal.returns-in-LeftOver
returns-in-LeftOver c whole os fuel g =
    let r = c.step in
    let put = c.list_offcut in
    let lent = c.requires.parts_lent.lent in
    let size = c.args.self.size.0 in
    let leaves = told size r.new.counts (r.ensures.by_index size) c.in-LeftOver.is in
    let kept = taken-from (L c.args.job.now) c.args.counts.now r.new.counts r.ensures.by_index_3 c.in-LeftOver.is in
    let opens = opens-same _ _ (left_at c.args.self) _ g.0.boards-left _ (λ j. omega (arith, kept j)) in
    let offcut = c.offcut_of-o.ensures (J c.args.job.now) (L c.args.job.now) lent.plates-held in (
      going-over _ _ lent.model whole fuel _ _ _ _ g.0 (admitted-sided _ lent.admitted) _ _ leaves opens,
      leaving-over _ _ _ os fuel _ _ _ g.1 _ _ leaves offcut put.ensures put.auto.offcuts,
    )

pub returns-else-open-eq0 : goal.returns-else-open-eq0
returns-else-open-eq0 c whole os fuel g =
    let a = c.args in
    let lent = c.requires.parts_lent.lent in
    let sizes = c.requires.blade_value.1 in
    let r = c.step in
    let next = c.next-open in
    let l = L a.job.now in
    let size = a.self.size.0 in
    let idles = told size r.new.counts (r.ensures.by_index size) c.in-Idle.is in
    let unspent = unspent (r.ensures.by_index_2 size) idles in
    let from = opens_by l (left_at a.self) (sym sizes) (sym unspent) g.0.boards-left in
    let on = next.ensures.opens_from _ l lent.model c.requires.parts_lent.begins-are from in
    let opens = opens_by l next.result sizes unspent on in
    let left = c.if-open-eq0.false in
    let same = ap (λ (ns : List ℕ). open_board next.result.size.0 (state_of size a.self.state ns)) unspent in
    let board = c.open_board.ensures size _ ∙ same in
    let here = next_here l (length (J a.job.now).sizes) next.result a.counts.now opens left in (
      going-open _ _ lent.model whole fuel _ _ _ _ g.0 idles next.result opens left _ board,
      leaving-open _ _ _ os fuel _ _ _ g.1 _ idles here _ board,
    )
