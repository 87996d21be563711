use mathlib.Core.Path.{◌≡◌, refl, ap}
use mathlib.Core.List.{List}
use Prim.Native.Nat.{ℕ, suc, ◌+◌, ◌-◌, ◌<◌}
use native.Mathlib.Omega.{arith}
use lib.ListN.{length}
use Rattle.std.specs.Prelude.{Option}
use Rattle.job.specs.Job.{Job}
use Rattle.listing.specs.Listing.{Listing}
use Rattle.listing.specs.Model.{Model}
use Rattle.layouts.specs.Unfold.{State, Run}
use Rattle.layouts.specs.Offcuts.{Offcut}
use Rattle.layouts.specs.Demand3.{L}
use Rattle.unfold_offcut.specs.declared.Lengths.{Lengths}
use Rattle.unfold_waiting.specs.Turns.{max_steps}
use Rattle.unfold_step.specs.Meaning.{state_of}
use Rattle.unfold_step.proofs.CodeParts.{part-there}
use Rattle.unfold_run.specs.declared.run.Progress.{Progress}
use Rattle.unfold_run.specs.Going.{left_at, GoingAt, Advanced, ran_at, Gives}
use Rattle.unfold_run.proofs.CodeOpening.{opens-first}
use Rattle.unfold_run.proofs.CodeRun.{going_start, end-words, end-pieces, end-last}
use Rattle.unfold_run.proofs.CodeLeaving.{leaving-start, end_list, end-offcuts}
use Rattle.unfold_run.proofs.run.run.Goals as goal

module _ (job : Job) (l : Listing) (m : Model job l) (lengths : Lengths) (whole : Run) (os : List Offcut) where
  -- what the answer of `advance` says once its case is known
  told :
      (fuel : ℕ) (at : Progress) (ns buffer list : List ℕ) {r r' : Option Progress}
      → Advanced job l lengths whole os fuel at r ns buffer list
      → r ≡ r'
      → Advanced job l lengths whole os fuel at r' ns buffer list
  told fuel at ns buffer list a e = rw e at a

  -- after i steps, one of the steps that are left is the next
  next :
      (i : ℕ) (at : Progress) (ns buffer list : List ℕ)
      → i < max_steps
      → GoingAt job l lengths whole os (max_steps - i) at ns buffer list
      → GoingAt job l lengths whole os (suc (max_steps - (i + 1))) at ns buffer list
  next i at ns buffer list h g =
      let e : max_steps - i ≡ suc (max_steps - (i + 1)) = omega arith in rw e at g

  -- a run that has no step left has given what it should
  gives :
      (at : Progress) (ns buffer list : List ℕ)
      → GoingAt job l lengths whole os 0 at ns buffer list
      → Gives lengths whole os (ran_at at) buffer list
  gives at ns buffer list g =
      let st = state_of at.size.0 at.state ns in
      let last = end-last job l m whole st (left_at at) at.pieces buffer g.0 in
      record {
        boards-given = ap (λ (st : State). st.turn.board.number) last;
        pieces-given = end-pieces job l m whole st (left_at at) at.pieces buffer g.0;
        offcuts-given = end-offcuts job l lengths os st at.offcuts list g.1;
        words-given = end-words job l m whole st (left_at at) at.pieces buffer g.0;
        offcuts-listed = end_list job l lengths os st at.offcuts list g.1;
      }

pub boards_left-requires : goal.boards_left-requires
boards_left-requires c =
    let lent = c.requires.parts_lent.lent in
    let some : 0 < length (L c.args.job.now).plates = omega (arith, lent.model.some_size, lent.model.size-plates) in
    part-there _ _ _ _ c.requires.parts_lent _ c.requires.job_in_bounds.0 0 some

pub loop-step-init : goal.loop-step-init
loop-step-init c =
    let a = c.args in
    let m = c.requires.parts_lent.lent.model in
    let start = c.start.ensures 0 _ in
    let r = c.requires in
    let few = r.counts_len_bound in
    let held = r.holds in
    let left = c.boards_left.ensures _ (L a.job.now) m r.parts_lent.begins-are in
    let opens = opens-first (L a.job.now) _ a.counts.now _ m.some_size left in
    let counted = r.job_in_bounds.0 in
    let ns = a.counts.now in
    let going = going_start _ _ m _ ns a.placements.now _ _ start refl held.0 counted opens few.0 held.1 in (
      (going, leaving-start _ _ a.lengths _ a.counts.now a.offcuts.now _ start refl r.holds_2 few.1),
      refl,
      refl,
      refl,
    )

pub advance-requires-clause-goes_on : goal.advance-requires-clause-goes_on
advance-requires-clause-goes_on c =
    let m = c.requires.parts_lent.lent.model in
    let d = c.loop-step in
    let going = next _ _ m _ _ _ d._step d.at _ _ _ c.loop-step-test.true d.invariant.0 in
    record { whole = _; os = _; fuel = max_steps - (d._step + 1); going = going }

pub returns-in_default : goal.returns-in_default
returns-in_default c =
    let m = c.requires.parts_lent.lent.model in
    let d = c.loop-step in
    let fuel = max_steps - (d._step + 1) in
    let going = next _ _ m _ _ _ d._step d.at _ _ _ c.loop-step-test.true d.invariant.0 in
    let ended = told _ _ m _ _ _ fuel d.at _ _ _ (c.advance.ensures _ _ fuel going) c.in_default.is in
    rw c.ran.ensures (gives _ _ m _ _ _ d.at _ _ _ ended)

pub loop-step-preserved : goal.loop-step-preserved
loop-step-preserved c =
    let m = c.requires.parts_lent.lent.model in
    let d = c.loop-step in
    let r = c.advance in
    let fuel = max_steps - (d._step + 1) in
    let going = next _ _ m _ _ _ d._step d.at _ _ _ c.loop-step-test.true d.invariant.0 in (
      told _ _ m _ _ _ fuel d.at _ _ _ (r.ensures _ _ fuel going) c.in-Some.is,
      omega (arith, r.auto.counts, d.invariant.1),
      omega (arith, r.auto.placements, d.invariant.2),
      omega (arith, r.auto.offcuts, d.invariant.3),
    )

pub returns : goal.returns
returns c =
    let d = c.loop-step in
    let none : max_steps - d._step ≡ 0 = omega (arith, c.loop-step-test.false) in
    let m = c.requires.parts_lent.lent.model in
    rw c.ran-2.ensures (gives _ _ m _ _ _ d.at d.counts _ _ (rw none at d.invariant.0))
