-- How the unfolding call ends, on plain values: its answer and its buffers, by the rows from the model on and by the rows before it.
use Prim.Native.Nat.{ℕ, ◌≤◌}
use native.Mathlib.Omega.{arith}
use mathlib.Core.Path.{◌≡◌, refl, sym, ◌∙◌}
use mathlib.Core.List.{List, [], ◌∷◌}
use lib.ListN.{length, replicate}
use Rattle.job.specs.Sizes.{plates_size, cuts_size, counts_size, placements_size, offcuts_size}
use Rattle.job.specs.Verdict.{Verdict, pass, refuse, ◌then◌}
use Rattle.job.specs.Buffers.{Answer, given, refused, answer, filled, sized}
use Rattle.job.specs.Job.{job_of, job_words, admission}
use Rattle.job.proofs.Verdicts.{then-assoc, then-first, then-second, then-both, then-passed, then-refused}
use Rattle.job.proofs.Buffers.{filled-length, sized-pass}
use Rattle.job.proofs.CodeEnds.{Not5, ends-zeros, given-pass, refused-refuse}
use Rattle.listing.specs.Listing.{model_row}
use Rattle.listing.specs.Holds.{Holds}
use Rattle.listing.specs.ListCall.{plates_end, cuts_end}
use Rattle.listing.proofs.Limits.{model-not5}
use Rattle.listing_call.proofs.CodeEnding.{Left}
use Rattle.plan.specs.Plan.{counts_row, plan_row}
use Rattle.plan_test.specs.PlanSays.{plan_tail}
use Rattle.plan_test.proofs.CodePlanCall.{plan-not5}
use Rattle.layouts.specs.Placement.{placement_words}
use Rattle.layouts.specs.Offcuts.{events_of, offcuts_of, offcut_words}
use Rattle.layouts.specs.UnfoldCall.{lengths_row, unfold_verdict, unfolding_of, offcuts_from, unfold_answer, placements_end, offcuts_end}
use Rattle.layouts.specs.Demand3.{J, L, Listed, Unfolds}
use Rattle.layouts.specs.Promises.{UnfoldPromise}
use Rattle.layouts.proofs.demand.Demand3.{demand3}
use Rattle.layouts.proofs.demand.OwnCuts.{own-cuts-of-all}
use Rattle.std.specs.Prelude.{Result, Ok, Err}
use Rattle.job.specs.declared.refused.Refused.{Refused}
use Rattle.job.specs.Refused.{number_of}
use Rattle.unfold_run.specs.declared.run.Ran.{Ran}
use Rattle.unfold_call.proofs.CodeAccepted.{listed-model}
use Rattle.unfold_call.specs.UnfoldSays.{says_of, results, OnSuccess, Ended}

-- the verdict of the plan row
abbrev pub planned : List ℕ → List ℕ → Verdict
planned ws counts = counts_row (L ws) counts then plan_row (J ws) (L ws) counts

module _ (ws : List ℕ) (first second : ℕ) (counts plates cuts placements offcuts : List ℕ) where
  -- how the call ends, by its verdict
  abbrev EndedBy : Verdict → Answer → List ℕ → List ℕ → List ℕ → List ℕ → Type 0
  EndedBy v = Ended v ws first second counts plates cuts placements offcuts

  -- a refusal with another number than 5 leaves zeros
  cleared-end :
      (plates' cuts' placements' offcuts' : List ℕ) (v : Verdict) {number place : ℕ}
      → v ≡ refuse number place
      → Not5 v
      → plates' ≡ replicate (length plates) 0
      → cuts' ≡ replicate (length cuts) 0
      → placements' ≡ replicate (length placements) 0
      → offcuts' ≡ replicate (length offcuts) 0
      → EndedBy v (refused number place) plates' cuts' placements' offcuts'
  unfolding plates_end cuts_end placements_end offcuts_end
  cleared-end plates' cuts' placements' offcuts' v e n p c q o =
      record {
        answered = rw e;
        plates-end = p ∙ sym (ends-zeros v e n plates _);
        cuts-end = c ∙ sym (ends-zeros v e n cuts _);
        placements-end = q ∙ sym (ends-zeros v e n placements _);
        offcuts-end = o ∙ sym (ends-zeros v e n offcuts _);
      }

  module _ (plates' cuts' placements' offcuts' : List ℕ) where
    -- the model row refuses
    pub list-refused :
        {number place : ℕ} (rs : List ℕ)
        → refused number place ≡ answer (model_row (job_of ws)) rs
        → plates' ≡ plates_end (model_row (job_of ws)) ws plates
        → cuts' ≡ cuts_end (model_row (job_of ws)) ws cuts
        → placements' ≡ replicate (length placements) 0
        → offcuts' ≡ replicate (length offcuts) 0
        → EndedBy (plan_tail (job_of ws) counts) (refused number place) plates' cuts' placements' offcuts'
    unfolding plates_end cuts_end
    list-refused {number} {place} rs e p c q o =
        let r : model_row (job_of ws) ≡ refuse number place = refused-refuse (model_row (job_of ws)) rs e in
        let n : Not5 (model_row (job_of ws)) = model-not5 (job_of ws) in
        cleared-end plates' cuts' placements' offcuts' (plan_tail (job_of ws) counts) (rw r) (rw r (rw r at n)) (p ∙ ends-zeros (model_row (job_of ws)) r n plates _) (c ∙ ends-zeros (model_row (job_of ws)) r n cuts _) q o

    module _ (model : model_row (job_of ws) ≡ pass) where
      -- the plan row refuses
      pub plan-refused :
          {number place : ℕ} (bs : List ℕ)
          → refused number place ≡ answer (planned ws counts) bs
          → plates' ≡ replicate (length plates) 0
          → cuts' ≡ replicate (length cuts) 0
          → placements' ≡ replicate (length placements) 0
          → offcuts' ≡ replicate (length offcuts) 0
          → EndedBy (plan_tail (job_of ws) counts) (refused number place) plates' cuts' placements' offcuts'
      plan-refused bs e =
          let r = refused-refuse (planned ws counts) bs e in
          cleared-end plates' cuts' placements' offcuts' (plan_tail (job_of ws) counts) (rw model r) (rw model (plan-not5 (J ws) (L ws) counts))

      -- every row passes
      pub accepted :
          {a : Answer}
          → planned ws counts ≡ pass
          → a ≡ given (results ws counts)
          → plates' ≡ plates_end (model_row (job_of ws)) ws plates
          → cuts' ≡ cuts_end (model_row (job_of ws)) ws cuts
          → Holds placements' (placement_words (unfolding_of ws counts).placements)
          → length placements' ≡ length placements
          → Holds offcuts' (offcut_words first second (offcuts_from ws counts))
          → length offcuts' ≡ length offcuts
          → EndedBy (plan_tail (job_of ws) counts) a plates' cuts' placements' offcuts'
      unfolding placements_end offcuts_end
      accepted e a p c h n g m =
          rw (model, e)
          (record {
            answered = a;
            plates-end = rw model at p;
            cuts-end = rw model at c;
            placements-end = rw (← n) h.words;
            offcuts-end = rw (← m) g.words;
          })

  -- the rows before the model: the job's words, the two lengths, the job row, and then the lent buffers
  abbrev rows_before : Verdict
  rows_before =
      job_words ws
      then lengths_row first second
      then admission (job_of ws)
      then sized 1 plates_size plates
      then sized 2 cuts_size cuts
      then sized 3 counts_size counts
      then sized 4 placements_size placements
      then sized 5 offcuts_size offcuts

  abbrev verdict : Verdict
  verdict = unfold_verdict ws first second counts plates cuts placements offcuts

  -- the call's verdict: these rows, and then those from the model on
  unfold-rows : verdict ≡ (rows_before then plan_tail (job_of ws) counts)
  unfolding unfold_verdict
  unfold-rows =
      sym
      (regrouped (job_words ws) (lengths_row first second) (admission (job_of ws)) (sized 1 plates_size plates) (sized 2 cuts_size cuts) (sized 3 counts_size counts) (sized 4 placements_size placements) (sized 5 offcuts_size offcuts) (plan_tail (job_of ws) counts))
    where
      regrouped : (a b c d e f g h i : Verdict) → ((a then b then c then d then e then f then g then h) then i) ≡ (a then b then c then d then e then f then g then h then i)
      regrouped a b c d e f g h i = simp then-assoc

  -- what the call ensures: its answer, the four buffers, and on success what it promises by demand 3 and request Seven
  abbrev Called : Result Ran Refused → List ℕ → List ℕ → List ℕ → List ℕ → Type 0
  Called r plates' cuts' placements' offcuts' =
      (says_of r ≡ unfold_answer ws first second counts plates cuts placements offcuts)
      × (plates' ≡ plates_end verdict ws plates)
      × (cuts' ≡ cuts_end verdict ws cuts)
      × (placements' ≡ placements_end verdict ws counts placements)
      × (offcuts' ≡ offcuts_end verdict ws first second counts offcuts)
      × OnSuccess r (UnfoldPromise ws first second counts placements' offcuts')

  -- where the rows before the model refuse, the call does, and the four buffers end as after that refusal
  pub before-refuses :
      {plates' cuts' placements' offcuts' : List ℕ} (r : Refused)
      → rows_before ≡ refuse (number_of r.refusal) r.place
      → Left (number_of r.refusal) plates plates'
      → Left (number_of r.refusal) cuts cuts'
      → Left (number_of r.refusal) placements placements'
      → Left (number_of r.refusal) offcuts offcuts'
      → Called (Err r) plates' cuts' placements' offcuts'
  unfolding unfold_answer plates_end cuts_end placements_end offcuts_end
  before-refuses r e ep ec eq eo =
      rw (unfold-rows ∙ then-refused rows_before (plan_tail (job_of ws) counts) (number_of r.refusal) r.place e)
      (refl, ep r.place [], ec r.place [], eq r.place [], eo r.place [], tt)

  module _ (e : rows_before ≡ pass) where
    -- where they pass, the job is admitted and the buffers are of full size
    pub before-passed : ((job_words ws then admission (job_of ws)) ≡ pass) × ((plates_size ≤ length plates) × ((cuts_size ≤ length cuts) × ((counts_size ≤ length counts) × ((placements_size ≤ length placements) × (offcuts_size ≤ length offcuts)))))
    before-passed =
        let a = then-second (lengths_row first second) _ (then-second (job_words ws) _ e) in
        let b = then-second (admission (job_of ws)) _ a in
        let c = then-second (sized 1 plates_size plates) _ b in
        let d = then-second (sized 2 cuts_size cuts) _ c in
        let f = then-second (sized 3 counts_size counts) _ d in (
          then-both (job_words ws) (admission (job_of ws)) (then-first (job_words ws) _ e) (then-first _ _ a),
          (
            sized-pass 1 plates_size plates (then-first _ _ b),
            (
              sized-pass 2 cuts_size cuts (then-first _ _ c),
              (
                sized-pass 3 counts_size counts (then-first _ _ d),
                (sized-pass 4 placements_size placements (then-first _ _ f), sized-pass 5 offcuts_size offcuts (then-second (sized 4 placements_size placements) _ f)),
              ),
            ),
          ),
        )

    -- with the rows from the model on passed too, the job is listed, and the unfolding is what demand 3 says
    listed-so : plan_tail (job_of ws) counts ≡ pass → Listed ws
    listed-so tail =
        let b = before-passed.0 in
        then-both (job_words ws) _ (then-first (job_words ws) (admission (job_of ws)) b) (then-both (admission (job_of ws)) (model_row (job_of ws)) (then-second (job_words ws) (admission (job_of ws)) b) (then-first (model_row (job_of ws)) _ tail))

    unfolds-so : plan_tail (job_of ws) counts ≡ pass → Unfolds (J ws) (L ws) counts (unfolding_of ws counts) (events_of (J ws) (L ws) counts)
    unfolding unfolding_of
    unfolds-so tail =
        let b = before-passed in
        let row = then-first (model_row (job_of ws)) _ tail in
        (demand3.every-listed ws (listed-so tail)).unfolds counts (record { counted = omega (arith, (listed-model ws b.0 row).few-cuts, b.1.1.1.0); passed = then-second (model_row (job_of ws)) _ tail })

    -- and so are the words that are lent and the values that are answered
    promise-kept :
        {placements' offcuts' : List ℕ} {boards pieces left : ℕ}
        → plan_tail (job_of ws) counts ≡ pass
        → placements' ≡ filled (length placements) (placement_words (unfolding_of ws counts).placements)
        → offcuts' ≡ filled (length offcuts) (offcut_words first second (offcuts_from ws counts))
        → boards ≡ (unfolding_of ws counts).last.turn.board.number
        → pieces ≡ length (unfolding_of ws counts).placements
        → left ≡ length (offcuts_from ws counts)
        → UnfoldPromise ws first second counts placements' offcuts' boards pieces left
    unfolding offcuts_from offcuts_of
    promise-kept tail p o b n m =
        let u = unfolds-so tail in
        let words : List ℕ = placement_words (unfolding_of ws counts).placements in
        let over : List ℕ = offcut_words first second (offcuts_from ws counts) in
        let size : length (filled (length placements) words) ≡ length placements = filled-length (length placements) words (omega (arith, u.room, before-passed.1.1.1.1.0)) in
        let size' : length (filled (length offcuts) over) ≡ length offcuts = filled-length (length offcuts) over (omega (arith, u.offcuts-room first second, before-passed.1.1.1.1.1)) in
        record {
          set = u.set;
          lines = rw (p, size, u.lines);
          boards-given = b ∙ u.boards-given;
          pieces-given = n ∙ u.pieces-given;
          events = events_of (J ws) (L ws) counts;
          pieces-over = rw (o, size');
          offcuts-given = m;
          unfolds-to = u.unfolds-to;
          own-cuts = own-cuts-of-all ws (listed-so tail);
        }

    -- and these rows decide
    pub before-pass : (r : Result Ran Refused) (plates' cuts' placements' offcuts' : List ℕ) → EndedBy (plan_tail (job_of ws) counts) (says_of r) plates' cuts' placements' offcuts' → Called r plates' cuts' placements' offcuts'
    unfolding unfold_answer placements_end offcuts_end
    before-pass r plates' cuts' placements' offcuts' h =
        rw (unfold-rows ∙ then-passed rows_before (plan_tail (job_of ws) counts) e)
        (h.answered, h.plates-end, h.cuts-end, h.placements-end, h.offcuts-end, promised r h.answered h.placements-end h.offcuts-end)
      where
        promised :
            (r : Result Ran Refused)
            → says_of r ≡ answer (plan_tail (job_of ws) counts) (results ws counts)
            → placements' ≡ placements_end (plan_tail (job_of ws) counts) ws counts placements
            → offcuts' ≡ offcuts_end (plan_tail (job_of ws) counts) ws first second counts offcuts
            → OnSuccess r (UnfoldPromise ws first second counts placements' offcuts')
        promised (Err r) q p o = tt
        promised (Ok r) q p o =
            let v : plan_tail (job_of ws) counts ≡ pass = given-pass (plan_tail (job_of ws) counts) (results ws counts) q in
            let a : given (r.boards ∷ r.pieces ∷ r.offcuts ∷ []) ≡ given (results ws counts) = rw v at q in
            promise-kept v (rw v at p) (rw v at o) (cc) (cc) (cc)
