use mathlib.Core.Path.{ap, ◌∙◌}
use native.Mathlib.Omega.{arith}
use Rattle.job.specs.declared.item.Position.{Position}
use Rattle.job.specs.Job.{job_of}
use Rattle.listing.specs.Plate.{plate}
use Rattle.listing_positions.specs.Least.{least_of}
use Rattle.listing_positions.proofs.Tables.{five-written, table-next}
use Rattle.listing_positions.proofs.table.put_position.Goals as goal

pub returns : goal.returns
returns c t =
    let job = job_of c.args.job.now.words.now in
    let i = c.position-item.ensures in
    table-next job c.args.q.0
    (five-written job c.args.q.0 c.args.table.now (omega arith) _ _ _ _ _
    (ap (λ (p : Position). p.width) i)
    (ap (λ (p : Position). p.height) i)
    (c.least_side-right.ensures ∙ ap (λ (p : Position). least_of job (plate 0 p.height 2)) i)
    (c.least_side-top.ensures ∙ ap (λ (p : Position). least_of job (plate p.width 0 3)) i)
    c.next_of-next.ensures)
    t
