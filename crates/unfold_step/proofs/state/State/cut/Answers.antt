use Prim.Native.Nat.{ℕ, ◌+◌, ◌≤◌}
use native.Mathlib.Omega.{arith}
use Rattle.job.specs.Sizes.{max_side, max_blade}
use Rattle.layouts.specs.Demand3.{J, L}
use Rattle.unfold_waiting.specs.Meaning.{piece_of, waiting_of, turn_of}
use Rattle.unfold_step.proofs.CodeCut.{cut-there, item-there, top-there, right_there, boards-fall, across-small, up_small, done-so}
use Rattle.unfold_step.proofs.state.State.cut.Goals as goal

pub cut_at-cut-requires : goal.cut_at-cut-requires
cut_at-cut-requires c = cut-there _ _ _ c.requires.job_lent _ _ _ c.requires.cuttable

pub position_at-item-requires : goal.position_at-item-requires
position_at-item-requires c = item-there _ _ _ c.requires.job_lent _ _ _ c.requires.cuttable _ c.cut_at-cut.ensures

pub overflow_add-p : goal.overflow_add-p
overflow_add-p c =
    let r = c.requires in
    let item = c.position_at-item in
    let small = across-small _ _ _ r.job_lent _ _ _ r.cuttable _ c.cut_at-cut.ensures _ item.ensures _ r.blade_value in
    let across : (c.args.p.x + item.result.width) + c.args.blade ≤ max_side + max_blade = small in
    omega (arith, across)

pub overflow_add-p-2 : goal.overflow_add-p-2
overflow_add-p-2 c =
    let r = c.requires in
    let item = c.position_at-item in
    let small = across-small _ _ _ r.job_lent _ _ _ r.cuttable _ c.cut_at-cut.ensures _ item.ensures _ r.blade_value in
    let across : (c.args.p.x + item.result.width) + c.args.blade ≤ max_side + max_blade = small in
    omega (arith, across)

pub wait-beside-requires : goal.wait-beside-requires
wait-beside-requires c = right_there _ _ _ c.requires.job_lent _ _ _ c.requires.cuttable _ c.cut_at-cut.ensures

pub overflow_add-p-3 : goal.overflow_add-p-3
overflow_add-p-3 c =
    let r = c.requires in
    let item = c.position_at-item in
    let small = up_small _ _ _ r.job_lent _ _ _ r.cuttable _ c.cut_at-cut.ensures _ item.ensures _ r.blade_value in
    let up : (c.args.p.y + item.result.height) + c.args.blade ≤ max_side + max_blade = small in
    omega (arith, up)

pub overflow_add-p-4 : goal.overflow_add-p-4
overflow_add-p-4 c =
    let r = c.requires in
    let item = c.position_at-item in
    let small = up_small _ _ _ r.job_lent _ _ _ r.cuttable _ c.cut_at-cut.ensures _ item.ensures _ r.blade_value in
    let up : (c.args.p.y + item.result.height) + c.args.blade ≤ max_side + max_blade = small in
    omega (arith, up)

pub wait-both-requires : goal.wait-both-requires
wait-both-requires c = top-there _ _ _ c.requires.job_lent _ _ _ c.requires.cuttable _ c.cut_at-cut.ensures

pub returns : goal.returns
returns c =
    let a = c.args in
    let ws = a.job.now in
    let ns = a.counts.now in
    let lent = c.requires.job_lent in
    let able = c.requires.cuttable in
    let cut = c.cut_at-cut in
    let item = c.position_at-item in
    let spend = c.spend in
    let ps = a.plates.now in
    let cs = a.cuts.now in
    let p = piece_of a.p in
    let b = c.requires.blade_value in
    let cut_is = cut.ensures in
    let item_is = item.ensures in
    let done = λ (z : ℕ). done-so ws ps cs lent ns a.c.0 p able cut.result cut_is item.result item_is a.blade b in
    let turn = λ (z : ℕ). turn_of z a.self.turn in
    let beside = c.wait-beside.ensures (J ws) (L ws) lent.plates-held in
    let both = c.wait-both.ensures (J ws) (L ws) lent.plates-held in
    let waits = waiting_of a.self.waiting in
    let fall = boards-fall ws ps cs lent ns a.c.0 p able cut.result cut_is in
    record {
      by_index = λ z. done z a.stage (turn z) waits waits spend.ensures (c.next-turn.ensures z) beside both;
      counts_after = spend.ensures;
      by_index_2 = fall spend.ensures;
    }
