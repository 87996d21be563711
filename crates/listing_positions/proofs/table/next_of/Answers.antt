use mathlib.Core.Path.{◌≡◌, sym, ap, ◌∙◌}
use Prim.Native.Nat.{◌+◌}
use native.Mathlib.Omega.{arith}
use Rattle.job.specs.declared.item.Position.{Position}
use Rattle.job.specs.Job.{job_of}
use Rattle.listing_positions.proofs.Tables.{within-last, past-last, next_past, next-over}
use Rattle.listing_positions.proofs.table.next_of.Goals as goal

-- `next_of` passes over the next number where it is not permitted.
pub returns-then-last-next : goal.returns-then-last-next
returns-then-last-next c = next_past (job_of c.args.job.now.words.now) c.args.q.0 (past-last _ c.args.job.now.read c.if-last-next.true)

pub returns : goal.returns
returns c =
    let n = next-over (job_of c.args.job.now.words.now) c.args.q.0 (omega (arith, c.requires.le_q)) (within-last _ c.args.job.now.read c.if-last-next.false) (ap (λ (p : Position). p.allowed) (sym c.position-item.ensures) ∙ c.if-item.false) in
    let z : c.args.q.0 + 1 + 1 ≡ c.args.q.0 + 2 = omega arith in
    rw z n
