use Rattle.std.proofs.lemmas.Result.{err_from_is_err_and}
use mathlib.Core.Path.{refl}
use native.Mathlib.Omega.{arith}
use Rattle.job.specs.Job.{Job, job_of}
use Rattle.listing.proofs.CodePlate.{may_cut-fits}
use Rattle.listing_index.proofs.Chains.{index-chained}
use Rattle.listing_call.proofs.Entering.{as-numbered, as-full}
use Rattle.listing_call.proofs.Stepping.{begun, in_table, held, skipped, cuts-full, both-kept, top-full, right-full, cut_next}
use Rattle.listing_call.proofs.walk.pair_step.Goals as goal

-- `pair_step` tests the cut, enters what it leaves, and writes it.
pub lying_at-item-requires : goal.lying_at-item-requires
lying_at-item-requires c = in_table (begun c.args.j.0 c.args.i.0 c.args.plate c.requires.ready c.requires.i_value c.requires.stands)

pub returns-then-not-may_cut : goal.returns-then-not-may_cut
returns-then-not-may_cut c =
    let s = begun c.args.j.0 c.args.i.0 c.args.plate c.requires.ready c.requires.i_value c.requires.stands in
    record { goes = skipped s c.lying_at-item.ensures c.may_cut.ensures c.if-not-may_cut.true; kept = tt }

pub returns-then-done-ge-MAX_CUTS : goal.returns-then-done-ge-MAX_CUTS
returns-then-done-ge-MAX_CUTS c =
    let s = begun c.args.j.0 c.args.i.0 c.args.plate c.requires.ready c.requires.i_value c.requires.stands in
    let may = c.if-not-may_cut.false in
    record { goes = (cuts-full s c.lying_at-item.ensures c.may_cut.ensures may c.if-done-ge-MAX_CUTS.true, omega arith); kept = refl }

pub cut_leaves-left-requires : goal.cut_leaves-left-requires
cut_leaves-left-requires c = may_cut-fits c.args.mode _ c.args.plate c.may_cut.ensures c.if-not-may_cut.false

pub leasts_at-requires : goal.leasts_at-requires
leasts_at-requires c = in_table (begun c.args.j.0 c.args.i.0 c.args.plate c.requires.ready c.requires.i_value c.requires.stands)

pub enter-requires : goal.enter-requires
enter-requires c =
    let r = c.requires.ready in
    let h = c.requires.stands in
    (r.plate-room, (index-chained h.known.of-index r.index-room h.here.rep.plate-count h.here.rep.few-plates, r.least-room))

pub returns-in_err-t : goal.returns-in_err-t
returns-in_err-t c =
    let s = begun c.args.j.0 c.args.i.0 c.args.plate c.requires.ready c.requires.i_value c.requires.stands in
    let e = c.lying_at-item.ensures in
    let may = c.if-not-may_cut.false in
    let el = c.cut_leaves-left.ensures in
    let kept = both-kept s e c.may_cut.ensures may el (omega arith, omega arith) c.leasts_at.ensures c.leasts_left-from.ensures in
    let a = c.enter.ensures (job_of c.args.job.now) s.stands.here.l.plates (held s) kept.0 in
    let full = as-full _ _ _ _ _ c.in_err-t.was a in
    let q = err_from_is_err_and c.from_residual.result c.from_residual.ensures.1 in
    record { goes = rw (q.1, q.2, full.0) (top-full s e c.may_cut.ensures may el c.if-done-ge-MAX_CUTS.false full.1, omega arith); kept = rw q.1 refl }

pub enter-requires-2 : goal.enter-requires-2
enter-requires-2 c =
    let s = begun c.args.j.0 c.args.i.0 c.args.plate c.requires.ready c.requires.i_value c.requires.stands in
    let x = c.enter in
    let may = c.if-not-may_cut.false in
    let e = c.lying_at-item.ensures in
    let el = c.cut_leaves-left.ensures in
    let kept = both-kept s e c.may_cut.ensures may el (omega arith, omega arith) c.leasts_at.ensures c.leasts_left-from.ensures in
    let a = as-numbered c.in_ok-t.was (x.ensures (job_of c.args.job.now) s.stands.here.l.plates (held s) kept.0) in
    let h = a.holding in (
      rw x.auto.plates s.ready.plate-room,
      (
        index-chained h.known.of-index (rw x.auto.index s.ready.index-room) h.count h.few,
        rw x.auto.leasts s.ready.least-room,
      ),
    )

pub returns-in_err-r : goal.returns-in_err-r
returns-in_err-r c =
    let s = begun c.args.j.0 c.args.i.0 c.args.plate c.requires.ready c.requires.i_value c.requires.stands in
    let e = c.lying_at-item.ensures in
    let may = c.if-not-may_cut.false in
    let el = c.cut_leaves-left.ensures in
    let kept = both-kept s e c.may_cut.ensures may el (omega arith, omega arith) c.leasts_at.ensures c.leasts_left-from.ensures in
    let job : Job = job_of c.args.job.now in
    let a = as-numbered c.in_ok-t.was (c.enter.ensures job s.stands.here.l.plates (held s) kept.0) in
    let b = c.enter-2.ensures job _ a.holding kept.1 in
    let full = as-full _ _ _ _ _ c.in_err-r.was b in
    let q = err_from_is_err_and c.from_residual-in_err-r.result c.from_residual-in_err-r.ensures.1 in
    record { goes = rw (q.1, q.2, full.0) (right-full s e c.may_cut.ensures may el c.if-done-ge-MAX_CUTS.false full.1, omega arith); kept = rw q.1 refl }

pub returns : goal.returns
returns c =
    let s = begun c.args.j.0 c.args.i.0 c.args.plate c.requires.ready c.requires.i_value c.requires.stands in
    let e = c.lying_at-item.ensures in
    let may = c.if-not-may_cut.false in
    let el = c.cut_leaves-left.ensures in
    let kept = both-kept s e c.may_cut.ensures may el (omega arith, omega arith) c.leasts_at.ensures c.leasts_left-from.ensures in
    let job : Job = job_of c.args.job.now in
    let h = s.stands.here in
    let a = as-numbered c.in_ok-t.was (c.enter.ensures job h.l.plates (held s) kept.0) in
    let b = as-numbered c.in_ok-r.was (c.enter-2.ensures job _ a.holding kept.1) in
    record { goes = cut_next s e c.may_cut.ensures may el c.if-done-ge-MAX_CUTS.false a b (c.put_cut.ensures h.l.cuts h.rep.cut-count h.rep.of-cuts); kept = tt }
