use mathlib.Core.Path.{◌∙◌}
use Prim.Native.Nat.{◌+◌, ◌<◌}
use lib.ListN.{length}
use Rattle.job.specs.Job.{job_of}
use Rattle.listing.specs.Listing.{no_cut}
use Rattle.plan.specs.Prices.{prices_at}
use Rattle.listing.specs.CutRead.{cuts_read}
use Rattle.job.proofs.CodeLowest.{lowest-end, lowest-found, lowest-next}
use Rattle.listing.proofs.CodeCuts.{length-cuts_from, cut-read, cut-behind, cut-sound}
use Rattle.price_test.proofs.CodePrices.{over-said}
use Rattle.price_test.proofs.prices.Priced.cuts_over.Goals as goal

pub over_limit-requires : goal.over_limit-requires
over_limit-requires c =
    let x = c.args.self.now.listed in
    let sound = cut-sound _ _ x.last.0 c.loop-c.c x.cuts.now x.lent.sound c.loop-c-test.true in
    rw (c.cut-cut.ensures, cut-behind) sound

pub returns-then-over_limit : goal.returns-then-over_limit
returns-then-over_limit c =
    let l = c.loop-c in
    let t = c.loop-c-test.true in
    let s = c.args.self.now in
    let job = job_of s.listed.job.words.now in
    let ps = prices_at s.listed.job.head.types.0 s.prices.now in
    let cuts = cuts_read s.listed.last.0 s.listed.cuts.now in
    let h : l.c < length cuts = rw length-cuts_from t in
    let is = c.cut-cut.ensures ∙ cut-behind s.listed.cuts.now l.c in
    let said = over-said job ps c.over_limit.ensures is (cut-read _ l.c s.listed.cuts.now t) c.if-over_limit.true in
    rw c.at.ensures (lowest-found cuts no_cut 14 _ (l.c + 1) l.c l.invariant h said)

pub loop-c-preserved : goal.loop-c-preserved
loop-c-preserved c =
    let l = c.loop-c in
    let t = c.loop-c-test.true in
    let s = c.args.self.now in
    let job = job_of s.listed.job.words.now in
    let ps = prices_at s.listed.job.head.types.0 s.prices.now in
    let cuts = cuts_read s.listed.last.0 s.listed.cuts.now in
    let h : l.c < length cuts = rw length-cuts_from t in
    let is = c.cut-cut.ensures ∙ cut-behind s.listed.cuts.now l.c in
    let said = over-said job ps c.over_limit.ensures is (cut-read _ l.c s.listed.cuts.now t) c.if-over_limit.false in
    lowest-next cuts no_cut 14 _ (l.c + 1) l.c l.invariant h said

pub returns : goal.returns
returns c =
    let l = c.loop-c in
    let cuts = cuts_read c.args.self.now.listed.last.0 c.args.self.now.listed.cuts.now in
    lowest-end cuts no_cut 14 _ (l.c + 1) l.c l.invariant (rw length-cuts_from c.loop-c-test.false)
