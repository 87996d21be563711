use mathlib.Core.Path.{sym, ◌∙◌}
use lib.ListN.{drop}
use Rattle.job.specs.Job.{job_of}
use Rattle.listing.specs.Listing.{listing_of}
use Rattle.layouts.specs.Lines.{rows_of}
use Rattle.layouts_strips.specs.First.{strip_of}
use Rattle.fold_counts.proofs.StackLines.{strip-types, strip-filled}
use Rattle.fold_counts.proofs.Singles.{two-cuts, two-above}
use Rattle.fold_counts.proofs.fold.fold_strip.Goals as goal

pub returns : goal.returns
returns c =
    let a = c.args in
    let job = job_of a.lines.now.job.now in
    let l = listing_of job in
    let p = c.requires.three_value in
    let m = c.strip_at-m.ensures in
    let strip = strip_of (drop a.a (rows_of a.lines.now.layouts.now)) in
    let t = sym p.0 ∙ c.if-three.false in
    let e = strip-types a.lines.now.layouts.now a.a c.strip_at-m.result.end m.0.ended in record { end_value = (m.0.ended, (m.1.1, (m.1.0.inside, c.fold_lines-board.ensures.result_value ∙ two-above l job strip p.1 t a.j.0 e (strip-filled a.a c.strip_at-m.result.end strip m.1.1 m.0.ended)))); by_index = λ ks h. rw (← two-cuts l job strip p.1 t a.j.0 e) (c.fold_lines-board.ensures.by_index ks h) }
