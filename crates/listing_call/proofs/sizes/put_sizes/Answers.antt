use mathlib.Core.Path.{◌≡◌, sym, ap, subst, ◌∙◌}
use Prim.Native.Nat.{ℕ, ◌≤◌}
use native.Mathlib.Omega.{arith}
use mathlib.Core.List.{List}
use lib.ListN.{length, get_or}
use Rattle.job.specs.Sizes.{words_before}
use Rattle.job.specs.declared.size.Size.{Size}
use Rattle.job.specs.Job.{job_of}
use Rattle.job.proofs.SizeWords.{sizes-length}
use Rattle.listing.specs.declared.plate.Plate.{Plate}
use Rattle.listing.specs.Records.{plate_words}
use Rattle.listing.specs.Holds.{Holds}
use Rattle.listing_call.proofs.Sizing.{first_sizes, first-length, first_next, first-all}
use Rattle.listing_call.proofs.sizes.put_sizes.Goals as goal

-- the job has t sizes
number : (ws : List ℕ) {t : ℕ} → t ≡ get_or ws 2 0 → words_before (get_or ws 2 0) ≤ length ws → length (job_of ws).sizes ≡ t
number ws e h = sizes-length ws h ∙ sym e

pub loop-j-preserved : goal.loop-j-preserved
loop-j-preserved c =
    let l = c.loop-j in
    let t = c.loop-j-test.true in
    let x = c.put_plate in
    let z = c.size_at-size in
    let job = job_of c.args.job.now in
    let n = number c.args.job.now c.requires.sizes_value.0 c.requires.sizes_value.1.0 in
    let cost = ap (λ (z : Size). z.cost) (sym z.ensures) in
    let held = x.ensures job (first_sizes job l.j) (first-length job l.j (omega (arith, n, t))) cost l.invariant.0 in
    (first_next job l.j (rw n t) z.ensures (rw (← c.board.ensures) held), x.auto.plates ∙ l.invariant.1)

pub returns : goal.returns
returns c =
    let l = c.loop-j in
    let job = job_of c.args.job.now in
    let n = number c.args.job.now c.requires.sizes_value.0 c.requires.sizes_value.1.0 in
    subst (λ (ps : List Plate). Holds l.plates (plate_words job ps)) (first-all job l.j (rw n c.loop-j-test.false)) l.invariant.0
