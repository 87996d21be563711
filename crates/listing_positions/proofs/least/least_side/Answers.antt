use mathlib.Core.Path.{◌≡◌, sym, ap, ◌∙◌}
use Prim.Native.Nat.{ℕ, ◌+◌, ◌-◌}
use mathlib.Core.Bool.{Bool}
use native.Mathlib.Omega.{arith}
use lib.ListN.{drop}
use Rattle.job.specs.declared.mode.Mode.{Mode}
use Rattle.job.specs.declared.item.Position.{Position}
use Rattle.job.specs.Job.{Job, job_of, positions, position_at}
use Rattle.listing.specs.declared.plate.Plate.{Plate}
use Rattle.listing_positions.specs.Least.{along, asks, lower, least_from}
use Rattle.listing_positions.proofs.Leasts.{least_first, least-next, least-end}
use Rattle.listing_positions.proofs.Tables.{within-last, past-last}
use Rattle.listing_positions.proofs.least.least_side.Goals as goal

-- what the code lowers its side by, carried to the job's mode and position
lowered_by :
    (job : Job) (p : Plate) (q least : ℕ) {r side : ℕ} {a : Bool} {mode : Mode} {item : Position}
    → r ≡ lower least a side
    → a ≡ asks mode p item
    → side ≡ along p.stage item.width item.height
    → mode ≡ job.mode
    → item ≡ position_at job q
    → r ≡ lower least (asks job.mode p (position_at job q)) (along p.stage (position_at job q).width (position_at job q).height)
lowered_by job p q least e f g m x = cc

pub loop-q-init : goal.loop-q-init
loop-q-init c = least_first (job_of c.args.job.now.words.now) c.args.p

pub loop-q-preserved : goal.loop-q-preserved
loop-q-preserved c =
    let l = c.loop-q in
    let w = c.args.job.now.read in
    let job = job_of c.args.job.now.words.now in
    let p = c.args.p in
    let e = lowered_by job p l.q l.least c.lowered-least.ensures c.asks-asked.ensures c.along-side.ensures w.of-mode c.position-item.ensures in
    ap (λ (x : ℕ). least_from (asks job.mode p) (λ item. along p.stage item.width item.height) x (drop (l.q + 1 - 1) (positions job))) e
    ∙ sym (least-next job (asks job.mode p) (λ item. along p.stage item.width item.height) l.least l.q (omega (arith, l.auto.q)) (within-last _ w (omega (arith, c.loop-q-test.true))))
    ∙ l.invariant

pub returns : goal.returns
returns c =
    let l = c.loop-q in
    let job = job_of c.args.job.now.words.now in
    sym (least-end job (asks job.mode c.args.p) (λ item. along c.args.p.stage item.width item.height) l.least l.q (past-last _ c.args.job.now.read (omega (arith, c.loop-q-test.false)))) ∙ l.invariant
