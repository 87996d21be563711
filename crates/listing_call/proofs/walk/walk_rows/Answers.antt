use mathlib.Core.Path.{refl, ap, ◌∙◌}
use native.Mathlib.Omega.{arith}
use Rattle.job.specs.Job.{job_of}
use Rattle.listing_positions.specs.Table.{Next}
use Rattle.listing_call.specs.Steps.{went}
use Rattle.listing_call.proofs.Lying.{first-permitted, next-above}
use Rattle.listing_call.proofs.Walking.{last-position, lengths-then, still-ready, walk_end, row-start, row-least, row-to, row-end, goes-next}
use Rattle.listing_call.proofs.walk.walk_rows.Goals as goal

pub loop-i-init : goal.loop-i-init
loop-i-init c =
    let w = c.walk in
    let job = job_of c.args.job.now.words.now in
    let last = last-position c.args.job.now.read in (
      row-start job w.j w.invariant.0 c.if-at-j.false _ c.plate_at-plate.ensures,
      (
        record { of-plates = refl; of-index = refl; of-leasts = refl; of-cuts = refl },
        (omega arith, (omega arith, λ l. first-permitted job (omega (arith, last, l)))),
      ),
    )

pub pair_step-requires : goal.pair_step-requires
pair_step-requires c =
    let w = c.walk in
    let l = c.loop-i in
    let job = job_of c.args.job.now.words.now in
    record {
      ready = still-ready c.requires.ready (lengths-then w.invariant.1 l.invariant.1.0);
      i_value = (
        l.invariant.1.1.1.1 c.loop-i-test.true,
        row-least job w.j w.invariant.0 c.if-at-j.false _ c.plate_at-plate.ensures refl,
      );
      stands = l.invariant.0;
    }

pub loop-i-preserved : goal.loop-i-preserved
loop-i-preserved c =
    let l = c.loop-i in
    let x = c.pair_step in
    let job = job_of c.args.job.now.words.now in
    let last = last-position c.args.job.now.read in
    let tabled = c.requires.ready.of-table.each l.i (l.invariant.1.1.1.1 c.loop-i-test.true) in
    let n : Next job l.i c.next_at-i.result = rw c.next_at-i.ensures tabled.next in
    let h = l.invariant.1.0 in (
      row-to job c.walk.j c.plate_at-plate.result l.i c.next_at-i.result n (goes-next (ap (λ r. went r x.new.at) c.in-Ok.is) x.ensures.goes),
      (
        record {
          of-plates = x.auto.plates ∙ h.of-plates;
          of-index = x.auto.index ∙ h.of-index;
          of-leasts = x.auto.leasts ∙ h.of-leasts;
          of-cuts = x.auto.cuts ∙ h.of-cuts;
        },
        (
          omega (arith, next-above n, l.invariant.1.1.0),
          (omega (arith, next-above n, c.loop-i-test.true), λ b. n.allowed (omega (arith, last, b))),
        ),
      ),
    )

pub walk-preserved : goal.walk-preserved
walk-preserved c =
    let w = c.walk in
    let l = c.loop-i in
    let job = job_of c.args.job.now.words.now in
    let last = last-position c.args.job.now.read in
    (row-end job w.j c.plate_at-plate.result l.i l.invariant.0 (omega (arith, last, c.loop-i-test.false)), lengths-then w.invariant.1 l.invariant.1.0)

pub returns-then-at-j : goal.returns-then-at-j
returns-then-at-j c =
    let w = c.walk in
    walk_end (job_of c.args.job.now.words.now) w.j w.invariant.0 c.if-at-j.true
