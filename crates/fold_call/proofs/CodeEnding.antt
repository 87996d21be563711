-- How the folding call ends, on plain values: its answer and its buffers, by the rows from the model on and by the rows before it.
use Prim.Native.Nat.{ℕ, suc, ◌≤◌}
use native.Mathlib.Omega.{arith}
use mathlib.Core.Path.{◌≡◌, refl, sym, ◌∙◌}
use mathlib.Core.Bool.{Bool, true, false, ◌&&◌}
use mathlib.Core.List.{List, [], ◌∷◌}
use lib.Dec.{ltb, eqb}
use lib.ListN.{length, replicate}
use Rattle.job.specs.Sizes.{max_pieces, plates_size, cuts_size, counts_size}
use Rattle.std.specs.Prelude.{Result, Ok, Err}
use Rattle.job.specs.declared.refused.Refused.{Refused}
use Rattle.job.specs.Refused.{number_of}
use Rattle.job.specs.Verdict.{Verdict, pass, refuse, ◌then◌, refuse_if, lowest}
use Rattle.job.specs.Buffers.{given, refused, answer, filled, sized}
use Rattle.job.specs.Job.{Job, job_of, job_words, admission}
use Rattle.job.proofs.Sums.{tally-length}
use Rattle.job.proofs.Verdicts.{then-assoc, then-first, then-second, then-both, then-passed, then-refused}
use Rattle.job.proofs.Buffers.{sized-pass}
use Rattle.job.proofs.CodeEnds.{Not5, not5-pass, not5-refuse, not5-if, not5-then, not5-lowest, ends-zeros, given-pass, refused-refuse}
use Rattle.listing.specs.Listing.{model_row, listing_of}
use Rattle.listing.specs.ListCall.{plates_end, cuts_end}
use Rattle.listing.proofs.Limits.{model-not5}
use Rattle.listing_call.proofs.CodeEnding.{Left}
use Rattle.layouts.specs.Placement.{opened, Turn, turn, Placement, lines_of, set_cost}
use Rattle.layouts.specs.Lines.{rows_of, layout_words, same_turn, follows, in_turn, turns, grouped, set_of}
use Rattle.layouts.specs.LayoutsRow.{Laid, laid_set, lowest_strip, breaks_stage, past_board, positioned, lacks, layouts_row}
use Rattle.layouts.specs.Fold.{set_cuts, folded}
use Rattle.layouts.specs.FoldCall.{fold_verdict, fold_answer, counts_end}
use Rattle.layouts.specs.Demand3.{J, L, Listed}
use Rattle.layouts.specs.Promises.{FoldPromise}
use Rattle.layouts.proofs.demand.Demand3.{demand3}
use Rattle.fold_call.specs.declared.boards.Boards.{Boards}
use Rattle.fold_call.specs.FoldSays.{says_of, OnSuccess, fold_tail, Ended}
use Rattle.fold_call.proofs.Passed.{words-passed, job-passed, listed-model}
use Rattle.fold_call.proofs.Filling.{filled-count, filled-boards, filled-each, filled-cost, filled-accepted}

-- the checks of the layouts row do not refuse with 5
in-turn-not5 : (k : ℕ) (t : Turn) (rs : List Placement) → Not5 (in_turn k t rs)
unfolding in_turn
in-turn-not5 k t [] = not5-pass
in-turn-not5 k t (r ∷ rs) = go (follows t r.turn) (in-turn-not5 (suc k) r.turn rs)
  where
    go : (b : Bool) → Not5 (in_turn (suc k) r.turn rs) → Not5 (elim b [ false ↦ refuse 15 k | true ↦ in_turn (suc k) r.turn rs ])
    go true n = n
    go false n = not5-refuse 15 k (λ q. omega arith)

turns-not5 : (k : ℕ) (rs : List Placement) → Not5 (turns k rs)
unfolding turns
turns-not5 k [] = not5-pass
turns-not5 k (r ∷ rs) = go (same_turn r.turn (turn (opened 1 r.turn.board.size) 1 1 1)) (in-turn-not5 (suc k) r.turn rs)
  where
    go : (b : Bool) → Not5 (in_turn (suc k) r.turn rs) → Not5 (elim b [ false ↦ refuse 15 k | true ↦ in_turn (suc k) r.turn rs ])
    go true n = n
    go false n = not5-refuse 15 k (λ q. omega arith)

strips-not5 : (number : ℕ) (bad : Laid → Bool) (ss : List Laid) → (number ≡ 5 → ⊥) → Not5 (lowest_strip number bad ss)
unfolding lowest_strip
strips-not5 number bad [] h = not5-pass
strips-not5 number bad (s ∷ ss) h = go (bad s) (strips-not5 number bad ss h)
  where
    go : (b : Bool) → Not5 (lowest_strip number bad ss) → Not5 (elim b [ true ↦ refuse number s.line | false ↦ lowest_strip number bad ss ])
    go true n = not5-refuse number s.line h
    go false n = n

positioned-not5 : (k : ℕ) (rs ps : List Placement) → Not5 (positioned k rs ps)
unfolding positioned
positioned-not5 k [] ps = not5-pass
positioned-not5 k (r ∷ rs) [] = not5-pass
positioned-not5 k (r ∷ rs) (p ∷ ps) = go (eqb r.x p.x && eqb r.y p.y) (positioned-not5 (suc k) rs ps)
  where
    go : (b : Bool) → Not5 (positioned (suc k) rs ps) → Not5 (elim b [ false ↦ refuse 18 k | true ↦ positioned (suc k) rs ps ])
    go true n = n
    go false n = not5-refuse 18 k (λ q. omega arith)

row-not5 : (job : Job) (rs : List Placement) → Not5 (layouts_row 1 job rs)
unfolding layouts_row
row-not5 job rs =
    let strips = laid_set job 1 (grouped rs) in
    let stage = lowest_strip 16 (breaks_stage job) strips in
    let past = lowest_strip 17 (past_board job) strips in
    let places = positioned 1 rs (lines_of job (grouped rs)) in
    let demands = lowest 11 (lacks rs) 1 job.items in
    not5-then (refuse_if (ltb max_pieces (length rs)) 10 0) (turns 1 rs then stage then past then places then demands) (not5-if (ltb max_pieces (length rs)) 10 0 (λ q. omega arith))
    (not5-then (turns 1 rs) (stage then past then places then demands) (turns-not5 1 rs)
    (not5-then stage (past then places then demands) (strips-not5 16 (breaks_stage job) strips (λ q. omega arith))
    (not5-then past (places then demands) (strips-not5 17 (past_board job) strips (λ q. omega arith))
    (not5-then places demands (positioned-not5 1 rs (lines_of job (grouped rs))) (not5-lowest 11 (lacks rs) 1 job.items (λ q. omega arith))))))

module _ (ws layouts plates cuts counts : List ℕ) where
  -- a refusal with another number than 5 leaves zeros
  cleared-end : (plates' cuts' counts' : List ℕ) (v : Verdict) {number place : ℕ} → v ≡ refuse number place → Not5 v → plates' ≡ replicate (length plates) 0 → cuts' ≡ replicate (length cuts) 0 → counts' ≡ replicate (length counts) 0 → Ended v ws layouts plates cuts counts (refused number place) plates' cuts' counts'
  unfolding plates_end cuts_end counts_end
  cleared-end plates' cuts' counts' v e n p c q =
      record {
        answered = rw e;
        plates-end = p ∙ sym (ends-zeros v e n plates _);
        cuts-end = c ∙ sym (ends-zeros v e n cuts _);
        counts_at_end = q ∙ sym (ends-zeros v e n counts _);
      }

  -- the layouts row
  abbrev row : Verdict
  row = layouts_row 1 (job_of ws) (rows_of layouts)

  module _ (plates' cuts' counts' : List ℕ) where
    -- the model row refuses
    pub list-refused : {number place : ℕ} (rs : List ℕ) → refused number place ≡ answer (model_row (job_of ws)) rs → plates' ≡ plates_end (model_row (job_of ws)) ws plates → cuts' ≡ cuts_end (model_row (job_of ws)) ws cuts → counts' ≡ replicate (length counts) 0 → Ended (fold_tail (job_of ws) layouts) ws layouts plates cuts counts (refused number place) plates' cuts' counts'
    unfolding plates_end cuts_end
    list-refused {number} {place} rs e p c q =
        let r : model_row (job_of ws) ≡ refuse number place = refused-refuse (model_row (job_of ws)) rs e in
        let n : Not5 (model_row (job_of ws)) = model-not5 (job_of ws) in
        cleared-end plates' cuts' counts' (fold_tail (job_of ws) layouts) (rw r) (rw r (rw r at n)) (p ∙ ends-zeros (model_row (job_of ws)) r n plates _) (c ∙ ends-zeros (model_row (job_of ws)) r n cuts _) q

    module _ (model : model_row (job_of ws) ≡ pass) where
      -- the layouts row refuses
      pub row-refused : {number place : ℕ} → row ≡ refuse number place → plates' ≡ replicate (length plates) 0 → cuts' ≡ replicate (length cuts) 0 → counts' ≡ replicate (length counts) 0 → Ended (fold_tail (job_of ws) layouts) ws layouts plates cuts counts (refused number place) plates' cuts' counts'
      row-refused e =
          cleared-end plates' cuts' counts' (fold_tail (job_of ws) layouts) (rw model e) (rw model (row-not5 (job_of ws) (rows_of layouts)))

      -- every row passes
      pub row-passed : {n cost : ℕ} → row ≡ pass → n ≡ length (set_of layouts) → cost ≡ set_cost (job_of ws) (set_of layouts) → plates' ≡ plates_end (model_row (job_of ws)) ws plates → cuts' ≡ cuts_end (model_row (job_of ws)) ws cuts → counts' ≡ filled (length counts) (folded (job_of ws) (listing_of (job_of ws)) (set_of layouts)) → Ended (fold_tail (job_of ws) layouts) ws layouts plates cuts counts (given (n ∷ cost ∷ [])) plates' cuts' counts'
      unfolding counts_end
      row-passed e a b p c q =
          rw (model, e) (record { answered = rw (a, b); plates-end = rw model at p; cuts-end = rw model at c; counts_at_end = q })

  -- the rows before the model: the words of job and layouts, the job, and then the lent buffers
  abbrev checks : Verdict
  checks = job_words ws then layout_words (job_of ws) layouts then admission (job_of ws)

  abbrev rows_before : Verdict
  rows_before = checks then sized 1 plates_size plates then sized 2 cuts_size cuts then sized 3 counts_size counts

  abbrev verdict : Verdict
  verdict = fold_verdict ws layouts plates cuts counts

  -- the call's verdict: these rows, and then those from the model on
  fold-rows : verdict ≡ (rows_before then fold_tail (job_of ws) layouts)
  unfolding fold_verdict
  fold-rows = sym (regrouped (job_words ws) (layout_words (job_of ws) layouts) (admission (job_of ws)) (sized 1 plates_size plates) (sized 2 cuts_size cuts) (sized 3 counts_size counts) (fold_tail (job_of ws) layouts))
    where
      regrouped : (a b c d e f g : Verdict) → (((a then b then c) then d then e then f) then g) ≡ (a then b then c then d then e then f then g)
      regrouped a b c d e f g = simp then-assoc

  -- what the call ensures: its answer, the three buffers, and on success demand 3's promise
  abbrev Called : Result Boards Refused → List ℕ → List ℕ → List ℕ → Type 0
  Called r plates' cuts' counts' =
      (says_of r ≡ fold_answer ws layouts plates cuts counts)
      × ((plates' ≡ plates_end verdict ws plates)
      × ((cuts' ≡ cuts_end verdict ws cuts)
      × ((counts' ≡ counts_end verdict ws layouts counts)
      × OnSuccess r (FoldPromise ws layouts counts'))))

  -- where the rows before the model refuse, the call does, and the three buffers end as after that refusal
  pub before-refuses :
      {plates' cuts' counts' : List ℕ} (r : Refused)
      → rows_before ≡ refuse (number_of r.refusal) r.place
      → Left (number_of r.refusal) plates plates'
      → Left (number_of r.refusal) cuts cuts'
      → Left (number_of r.refusal) counts counts'
      → Called (Err r) plates' cuts' counts'
  unfolding fold_answer plates_end cuts_end counts_end
  before-refuses r e ep ec eq =
      rw (fold-rows ∙ then-refused rows_before (fold_tail (job_of ws) layouts) _ r.place e) (refl, (ep r.place [], (ec r.place [], (eq r.place [], tt))))

  module _ (e : rows_before ≡ pass) where
    -- where they pass, the words are right, the job is admitted and the buffers are of full size
    pub before-passed : (checks ≡ pass) × ((plates_size ≤ length plates) × ((cuts_size ≤ length cuts) × (counts_size ≤ length counts)))
    before-passed =
        let a = then-second checks _ e in
        let b = then-second (sized 1 plates_size plates) _ a in
        (then-first checks _ e, (sized-pass 1 plates_size plates (then-first _ _ a), (sized-pass 2 cuts_size cuts (then-first _ _ b), sized-pass 3 counts_size counts (then-second (sized 2 cuts_size cuts) _ b))))

    -- with the rows from the model on passed too, the folding is what demand 3 says
    module _ (tail : fold_tail (job_of ws) layouts ≡ pass) where
      abbrev plan : List ℕ
      plan = folded (job_of ws) (listing_of (job_of ws)) (set_of layouts)

      modelled : model_row (job_of ws) ≡ pass
      modelled = then-first (model_row (job_of ws)) _ tail

      listed : Listed ws
      listed = then-both (job_words ws) _ (words-passed ws layouts before-passed.0) (then-both (admission (job_of ws)) (model_row (job_of ws)) (job-passed ws layouts before-passed.0) modelled)

      plan-length : length plan ≡ length (listing_of (job_of ws)).cuts
      unfolding folded
      plan-length = tally-length (length (listing_of (job_of ws)).cuts) 1 (set_cuts (job_of ws) (listing_of (job_of ws)) (set_of layouts))

      folds-so : {n cost : ℕ} → n ≡ length (set_of layouts) → cost ≡ set_cost (job_of ws) (set_of layouts) → FoldPromise ws layouts (filled (length counts) plan) n cost
      folds-so shown dear =
          let d = demand3.every-listed ws listed in
          let only = d.folds-only layouts plates cuts counts (fold-rows ∙ then-both rows_before (fold_tail (job_of ws) layouts) e tail) in
          let f = (d.folds (set_of layouts) only.0).folds-to in
          let h : length plan ≤ length counts = omega (arith, plan-length, (listed-model ws (words-passed ws layouts before-passed.0) (job-passed ws layouts before-passed.0) modelled).few-cuts, before-passed.1.1.1) in
          record {
            named = only.0;
            lines = only.1;
            boards-given = shown;
            cost-given = dear;
            folds-to =
                record {
                  accepted = filled-accepted (J ws) (L ws) plan (length counts) plan-length h f.accepted;
                  as_many = filled-boards (J ws) (L ws) plan (length counts) plan-length h ∙ f.as_many;
                  as-many-each = λ j p. filled-each (J ws) (L ws) plan (length counts) plan-length h j ∙ f.as-many-each j p;
                  same-cost = filled-cost (J ws) (L ws) plan (length counts) plan-length h ∙ f.same-cost;
                  as-often = λ i. filled-count (J ws) (L ws) plan (length counts) plan-length h _ ∙ f.as-often i;
                  turns-as-often = λ q. filled-count (J ws) (L ws) plan (length counts) plan-length h _ ∙ f.turns-as-often q;
                };
          }

    -- and these rows decide
    pub before-pass : (r : Result Boards Refused) (plates' cuts' counts' : List ℕ) → Ended (fold_tail (job_of ws) layouts) ws layouts plates cuts counts (says_of r) plates' cuts' counts' → Called r plates' cuts' counts'
    unfolding fold_answer counts_end
    before-pass r plates' cuts' counts' h =
        rw (fold-rows ∙ then-passed rows_before (fold_tail (job_of ws) layouts) e) (h.answered, (h.plates-end, (h.cuts-end, (h.counts_at_end, promised r h.answered h.counts_at_end))))
      where
        -- the results of a call that succeeds
        results : List ℕ
        results = length (set_of layouts) ∷ set_cost (job_of ws) (set_of layouts) ∷ []

        promised : (r : Result Boards Refused) → says_of r ≡ answer (fold_tail (job_of ws) layouts) results → counts' ≡ counts_end (fold_tail (job_of ws) layouts) ws layouts counts → OnSuccess r (FoldPromise ws layouts counts')
        promised (Err r) q c = tt
        promised (Ok b) q c =
            let v : fold_tail (job_of ws) layouts ≡ pass = given-pass (fold_tail (job_of ws) layouts) results q in
            let z : counts' ≡ filled (length counts) (folded (job_of ws) (listing_of (job_of ws)) (set_of layouts)) = rw v at c in
            let a : given (b.number ∷ b.cost ∷ []) ≡ given results = rw v at q in
            rw z (folds-so v (cc) (cc))
