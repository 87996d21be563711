use Rattle.std.proofs.Common.{rules}
use Rattle.programs.proofs.Filled.{consumed_more}
use Rattle.programs.proofs.input.Input.fill.Goals as goal

pub loop-at-preserved : goal.loop-at-preserved
loop-at-preserved g c =
    let before = c.loop-at.invariant in
    record {
      long = search rules;
      within = search rules;
      consumed = consumed_more _ _ _ _ _ _ _ _ before.within c.in-Ok.ensures.bound.0 before.consumed c.in-Ok.ensures.bytes.0;
    }
