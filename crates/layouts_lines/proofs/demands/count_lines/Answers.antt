use Prim.Native.Nat.{◌<◌}
use native.Mathlib.Omega.{arith}
use lib.ListN.{length, length-set}
use Rattle.job.specs.Job.{max_types}
use Rattle.layouts_lines.proofs.CodeDemands.{word_small, word-counted, sums-end}
use Rattle.layouts_lines.proofs.demands.count_lines.Goals as goal

pub overflow_add-sums : goal.overflow_add-sums
overflow_add-sums c =
    let l = c.loop-c in
    let room : max_types < length l.sums = omega (arith, c.requires.max_types_in_bounds.0, l.invariant.kept) in
    record { fits = word_small c.args.layouts.now l.sums c.args.lines l.c c.requires.layouts_len.0 c.loop-c-test.true c.requires.layouts_len.1.1 room l.invariant.counted c.placement_at-i.ensures c.requires.layouts_len.1.0 }

pub loop-c-preserved : goal.loop-c-preserved
loop-c-preserved c =
    let l = c.loop-c in
    let room : max_types < length l.sums = omega (arith, c.requires.max_types_in_bounds.0, l.invariant.kept) in
    record {
      kept = simp length-set l.invariant.kept;
      counted = word-counted c.args.layouts.now l.sums c.args.lines l.c c.requires.layouts_len.0 c.loop-c-test.true c.requires.layouts_len.1.1 room l.invariant.counted c.placement_at-i.ensures;
    }

pub returns : goal.returns
returns c =
    let l = c.loop-c in
    sums-end c.args.layouts.now l.sums c.args.lines l.c c.requires.layouts_len.0 l.auto.c-end c.loop-c-test.false l.invariant.counted
