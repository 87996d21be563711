use native.Mathlib.Omega.{arith}
use Rattle.job.specs.Job.{job_of}
use Rattle.listing.specs.Listing.{listing_of}
use Rattle.texts.specs.JobLines.{body_line}
use Rattle.saw_text_body.proofs.ModelLaws.{kept-modelled, kept-plates}
use Rattle.saw_text_lines.proofs.held.count_line.Goals as goal

-- `count_line` counts a line 3 by the listing, or passes it over.
pub returns-then-k-gt-MAX_CUTS : goal.returns-then-k-gt-MAX_CUTS
returns-then-k-gt-MAX_CUTS c ws rs r kept here line held =
    let known = kept-modelled ws c.args.plates.now c.args.cuts.now c.args.model _ _ c.in-Listed.is c.requires.line_nonzero.1.1.0 kept in
    absurd (omega (arith, c.if-k-gt-MAX_CUTS.true, known.is-ready.lent.few-cuts))

pub returns-in-Refused : goal.returns-in-Refused
returns-in-Refused c ws rs r kept here line held = rw c.in-Refused.is (rw c.in-Refused.is at held)

pub returns-else-k-gt-MAX_CUTS : goal.returns-else-k-gt-MAX_CUTS
returns-else-k-gt-MAX_CUTS c ws rs r kept here line held =
    let known = kept-modelled ws c.args.plates.now c.args.cuts.now c.args.model _ _ c.in-Listed.is c.requires.line_nonzero.1.1.0 kept in
    let plates = kept-plates ws c.args.plates.now c.args.cuts.now c.args.model _ _ c.in-Listed.is kept in
    rw c.in-Listed.is (c.more.ensures (job_of ws) (listing_of (job_of ws)) (body_line ws) rs r plates known.is-ready.listed known.rising here line (rw c.in-Listed.is at held))
