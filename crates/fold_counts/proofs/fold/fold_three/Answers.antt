use mathlib.Core.Path.{sym, ◌∙◌}
use mathlib.Core.List.{[], ◌∷◌}
use native.Mathlib.Omega.{arith}
use lib.ListN.{drop}
use Rattle.job.specs.Job.{job_of}
use Rattle.listing.specs.Listing.{listing_of}
use Rattle.layouts.specs.Lines.{rows_of}
use Rattle.layouts.specs.Fold.{cut_of}
use Rattle.layouts_strips.specs.First.{strip_of}
use Rattle.fold_counts.specs.Lent.{others_room}
use Rattle.fold_counts.proofs.Singles.{rule-three}
use Rattle.fold_counts.proofs.CodeStrip.{counting-after}
use Rattle.fold_counts.proofs.CodeFold.{three-above, three-counted}
use Rattle.fold_counts.proofs.fold.fold_three.Goals as goal

-- `fold_three` cuts the stack that comes to the front, and then the others.
pub front_item-front-requires : goal.front_item-front-requires
front_item-front-requires c =
    let a = c.args in
    let p = c.requires.job_value in record { lines_lent = c.requires.lines_lent; layouts_value = rw p.1.0 (rule-three (job_of a.lines.now.job.now) (strip_of (drop a.a (rows_of a.lines.now.layouts.now))) p.1.1 p.0) }

pub fold_others-requires : goal.fold_others-requires
fold_others-requires c =
    let a = c.args in
    let l = listing_of (job_of a.lines.now.job.now) in
    let g = c.requires.counting in record { lines_lent = c.requires.lines_lent; cuts_lent = c.requires.cuts_lent; counting = counting-after others_room g (cut_of l a.j.0 c.front_item-front.result.0 ∷ []) (omega arith) c.count_cut-left.auto.counts (c.count_cut-left.ensures.holds l c.requires.cuts_lent g.so_far g.held) }

pub returns : goal.returns
returns c =
    let a = c.args in
    let job = job_of a.lines.now.job.now in
    let l = listing_of job in
    let p = c.requires.job_value in
    let strip = strip_of (drop a.a (rows_of a.lines.now.layouts.now)) in
    let i = c.front_item-front.result.0 in
    let left = c.count_cut-left.ensures.left_by l c.requires.cuts_lent in record { result_value = left.own-left ∙ sym (three-above job l strip a.height i p.0 p.1.0 c.front_item-front.ensures a.j.0); by_index = λ ks h. three-counted job l strip a.height i p.0 p.1.0 c.front_item-front.ensures a.k.0 a.j.0 _ ks left.other-left (c.fold_others.ensures _ (c.count_cut-left.ensures.holds l c.requires.cuts_lent ks h)) }
