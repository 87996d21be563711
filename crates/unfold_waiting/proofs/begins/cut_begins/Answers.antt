use native.Mathlib.Omega.{arith}
use lib.ListN.{length-set}
use Rattle.unfold_waiting.proofs.CodeBegins.{below-there, below-so, not-below, pass-cut, begins-at, write-begin, plates-rising}
use Rattle.unfold_waiting.proofs.begins.cut_begins.Goals as goal

-- a cut on a plate type below j is passed
pub loop-c-preserved : goal.loop-c-preserved
loop-c-preserved c =
    let d = c.loop-c in
    let told = c.is_below.ensures in
    let there = below-there c.args.cuts.now _ d.c c.loop-j.j told c.loop-c-test.true in (
      omega (arith, there),
      λ job l m n h.
          pass-cut l.cuts d.c c.loop-j.j (d.invariant.1 job l m n h) (omega (arith, there))
          (below-so c.args.cuts.now _ d.c c.loop-j.j told l.cuts h c.loop-c-test.true),
    )

-- where no more is passed, j begins
pub loop-j-preserved : goal.loop-j-preserved
loop-j-preserved c =
    let d = c.loop-c in
    let j = c.loop-j.j in
    let told = c.is_below.ensures in (
      d.invariant.0,
      simp length-set c.loop-j.invariant.1,
      λ job l m n h.
          let passed = d.invariant.1 job l m n h in
          let at = begins-at l.cuts d.c j passed (plates-rising job l m)
          (λ p. not-below c.args.cuts.now _ d.c j told l.cuts h c.loop-c-test.false (omega arith)) in (
            write-begin l.cuts d.c j passed c.loop-j.begins (omega (arith, c.loop-j-test.true, c.loop-j.invariant.1))
                at (c.loop-j.invariant.2 job l m n h).0,
            λ i p. passed i (omega arith),
          ),
    )
