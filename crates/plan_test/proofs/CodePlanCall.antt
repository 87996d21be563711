-- The plan test's rows in their order, on plain values: those before the model, and those from it on.
use mathlib.Core.Path.{◌≡◌, sym, ap, ◌∙◌}
use mathlib.Core.Logic.{◌↔◌}
use Prim.Native.Nat.{ℕ, ◌≤◌}
use mathlib.Core.List.{List}
use native.Mathlib.Omega.{arith}
use lib.Dec.{ltb}
use lib.ListN.{length, drop}
use Rattle.job.specs.Sizes.{max_pieces, plates_size, cuts_size, counts_size}
use Rattle.job.specs.Verdict.{Verdict, pass, ◌then◌, refuse_if, lowest}
use Rattle.job.specs.Buffers.{Answer, sized}
use Rattle.job.specs.Job.{Job, job_of, job_words, admission}
use Rattle.job.proofs.Verdicts.{then-assoc, then-assoc-3, then-first, then-second}
use Rattle.job.proofs.Buffers.{sized-pass}
use Rattle.job.proofs.CodeEnds.{Not5, not5-if, not5-then, not5-lowest}
use Rattle.listing.specs.Listing.{Listing, listing_of}
use Rattle.listing.specs.ListCall.{plates_end, cuts_end}
use Rattle.listing_call.proofs.CodeEnding.{Ended}
use Rattle.plan.specs.Plan.{total, short, overdrawn, counts_row, plan_row}
use Rattle.plan.specs.PlanCall.{plan_verdict, boards_and_cost, plan_answer}
use Rattle.plan.specs.Exactly.{Accepts, PlanRight}
use Rattle.plan.proofs.AcceptsExactly.{accepts-exactly, answer-accepts}
use Rattle.plan_test.specs.PlanSays.{plan_tail}

-- the plan row does not refuse with 5
pub plan-not5 : (job : Job) (l : Listing) (ns : List ℕ) → Not5 (counts_row l ns then plan_row job l ns)
unfolding counts_row plan_row
plan-not5 job l ns =
    let Short-row = lowest 11 (short l ns) 1 job.items in
    let overdrawn-row = lowest 12 (overdrawn l ns) l.sizes (drop l.sizes l.plates) in
    not5-then (counts_row l ns) (plan_row job l ns) (not5-lowest 8 _ _ _ (λ e. omega arith))
    (not5-then (refuse_if (ltb max_pieces (total ns)) 10 0) (Short-row then overdrawn-row) (not5-if (ltb max_pieces (total ns)) 10 0 (λ e. omega arith))
    (not5-then Short-row overdrawn-row (not5-lowest 11 (short l ns) 1 job.items (λ e. omega arith)) (not5-lowest 12 (overdrawn l ns) l.sizes (drop l.sizes l.plates) (λ e. omega arith))))

-- the rows before the model: the job, and then the lent buffers
abbrev rows_before : List ℕ → List ℕ → List ℕ → List ℕ → Verdict
rows_before ws counts plates cuts = (job_words ws then admission (job_of ws)) then sized 1 plates_size plates then sized 2 cuts_size cuts then sized 3 counts_size counts

module _ (ws counts plates cuts : List ℕ) where
  -- the call's verdict: these rows, and those from the model on
  pub plan-rows : plan_verdict ws counts plates cuts ≡ (rows_before ws counts plates cuts then plan_tail (job_of ws) counts)
  unfolding plan_verdict
  plan-rows =
      let a = job_words ws in
      let b = admission (job_of ws) in
      let c = sized 1 plates_size plates in
      let d = sized 2 cuts_size cuts in
      let e = sized 3 counts_size counts in
      let f = plan_tail (job_of ws) counts in
      sym (then-assoc (a then b) (c then d then e) f ∙ then-assoc a b ((c then d then e) then f) ∙ ap (λ (v : Verdict). a then b then v) (then-assoc-3 c d e f))

  -- where these rows pass, the job is admitted and every buffer of full size
  pub before-passed : rows_before ws counts plates cuts ≡ pass → ((job_words ws then admission (job_of ws)) ≡ pass) × ((plates_size ≤ length plates) × ((cuts_size ≤ length cuts) × (counts_size ≤ length counts)))
  before-passed e =
      let b = then-second (job_words ws then admission (job_of ws)) _ e in
      let d = then-second (sized 1 plates_size plates) _ b in
      (then-first (job_words ws then admission (job_of ws)) _ e, (sized-pass 1 plates_size plates (then-first (sized 1 plates_size plates) _ b), (sized-pass 2 cuts_size cuts (then-first (sized 2 cuts_size cuts) _ d), sized-pass 3 counts_size counts (then-second (sized 2 cuts_size cuts) _ d))))

  -- what the call ensures: its answer, both buffers, and what it accepts
  pub with-exactly :
      (a : Answer) {plates' cuts' : List ℕ}
      → Ended (plan_verdict ws counts plates cuts) (boards_and_cost (job_of ws) (listing_of (job_of ws)) counts) ws plates cuts a plates' cuts'
      → (a ≡ plan_answer ws counts plates cuts)
      × ((plates' ≡ plates_end (plan_verdict ws counts plates cuts) ws plates)
      × ((cuts' ≡ cuts_end (plan_verdict ws counts plates cuts) ws cuts)
      × (Accepts a ↔ PlanRight ws counts plates cuts)))
  unfolding plan_answer
  with-exactly a h =
      (h.0, (h.1.0, (h.1.1, answer-accepts (plan_verdict ws counts plates cuts) _ a h.0 (accepts-exactly.plans ws counts plates cuts))))
