-- What the code knows of an admitted job once it is listed, and of a plan once it is accepted: the buffers hold the model, and the run of a copy of the
-- counts is the unfolding of the plan.
use Prim.Native.Nat.{ℕ, ◌-◌, ◌≤◌}
use native.Mathlib.Omega.{arith}
use mathlib.Core.Path.{◌≡◌, sym, ◌∙◌, ap}
use mathlib.Core.List.{List, [], ◌∷◌}
use lib.ListN.{length, get_or, take, drop, take-append-drop}
use lib.Seq.{length-take-le}
use Rattle.job.specs.Sizes.{max_pieces, max_offcuts, counts_size, offcuts_size}
use Rattle.job.specs.Verdict.{pass, ◌then◌}
use Rattle.job.specs.Buffers.{given, answer}
use Rattle.job.specs.Job.{Job, job_of, job_words, admission}
use Rattle.job.specs.Admitted.{Admitted, Sided}
use Rattle.job.proofs.Verdicts.{then-first, then-second}
use Rattle.job.proofs.Admission.{admitted-words, admitted-job, admitted-sided, admitted-stocked}
use Rattle.job.proofs.CodeItems.{items-length}
use Rattle.job.proofs.CodeAdmission.{passed_length}
use Rattle.job.proofs.CodeEnds.{given-pass}
use Rattle.listing.specs.Listing.{Listing, model_row, listing_of}
use Rattle.listing.specs.Model.{Model}
use Rattle.listing.specs.Records.{cut_words}
use Rattle.listing.specs.Holds.{Holds}
use Rattle.listing.specs.ListCall.{plates_end, cuts_end}
use Rattle.listing.proofs.WalkModel.{row-model}
use Rattle.std.specs.Prelude.{Result, Ok}
use Rattle.job.specs.declared.refused.Refused.{Refused}
use Rattle.listing_call.specs.declared.walk.Listed.{Listed}
use Rattle.listing_call.specs.ListSays.{says_of as listing_says}
use Rattle.listing_call.proofs.CodeEnding.{listing_results}
use Rattle.plan.specs.Plan.{counts_row, plan_row, total}
use Rattle.plan.specs.Feasible.{Feasible, NonePast}
use Rattle.plan.proofs.PlanExact.{plan-exact, counts-exact}
use Rattle.layouts.specs.Placement.{placement_words}
use Rattle.layouts.specs.Unfold.{Run, run, start_of, unfolded}
use Rattle.layouts.specs.Offcuts.{events, offcuts_in, offcuts_of, offcut_words}
use Rattle.layouts.specs.UnfoldCall.{unfolding_of, offcuts_from}
use Rattle.layouts.specs.Demand3.{J, L}
use Rattle.layouts.proofs.machine.MachineEnds.{steps-enough, unfolds}
use Rattle.layouts.proofs.offcuts.AreaBalance.{area-balance}
use Rattle.layouts.proofs.offcuts.Enough.{offcuts-enough}
use Rattle.unfold_waiting.specs.Begins.{begins_size, Begins}
use Rattle.unfold_waiting.specs.Turns.{max_steps}
use Rattle.unfold_offcut.specs.declared.Lengths.{Lengths}
use Rattle.unfold_step.specs.Ready.{ModelLent, PartsLent}
use Rattle.unfold_run.specs.declared.run.Ran.{Ran}
use Rattle.unfold_run.specs.Going.{Gives, started, started_offcuts}
use Rattle.unfold_call.specs.UnfoldSays.{results}
use Rattle.unfold_call.proofs.Longer.{longer_run, run-longer, offcuts-longer}

module _ (ws : List ℕ) (checked : (job_words ws then admission (job_of ws)) ≡ pass) where
  pub job-words : job_words ws ≡ pass
  job-words = then-first (job_words ws) (admission (J ws)) checked

  job-admitted : Admitted (J ws)
  job-admitted = admitted-job ws ((admitted-words ws).0 checked)

  pub listed-model : model_row (J ws) ≡ pass → Model (J ws) (L ws)
  listed-model row = row-model (J ws) (admitted-sided (J ws) job-admitted) (admitted-stocked (J ws) job-admitted) row

  -- what the listing call answers of a listed job: its plates and cuts are those of the model
  module _ {answer' : Result Listed Refused} {n : Listed} (e : answer' ≡ Ok n) (says : listing_says (J ws) answer' ≡ answer (model_row (J ws)) (listing_results ws)) where
    pub listed-given : given ((n.plates.0 - length (J ws).sizes) ∷ n.cuts.0 ∷ []) ≡ answer (model_row (J ws)) (listing_results ws)
    listed-given = sym (ap (listing_says (J ws)) e) ∙ says

    pub listed-passes : model_row (J ws) ≡ pass
    listed-passes = given-pass (model_row (J ws)) (listing_results ws) listed-given

  -- buffers that the listing has filled
  pub listed-lent :
      (plates cuts plates' cuts' : List ℕ) (r k : ℕ)
      → given (r ∷ k ∷ []) ≡ answer (model_row (J ws)) (listing_results ws)
      → plates' ≡ plates_end (model_row (J ws)) ws plates
      → cuts' ≡ cuts_end (model_row (J ws)) ws cuts
      → length plates' ≡ length plates
      → length cuts' ≡ length cuts
      → ModelLent ws plates' cuts' k
  unfolding plates_end cuts_end
  listed-lent plates cuts plates' cuts' r k e p c n m =
      let row : model_row (J ws) ≡ pass = given-pass (model_row (J ws)) _ e in
      let v : given (r ∷ k ∷ []) ≡ given (listing_results ws) = rw row at e in
      record {
        lent =
            record {
              words = rw (items-length ws (get_or ws 3 0) (passed_length ws job-words)) (passed_length ws job-words);
              admitted = job-admitted;
              model = listed-model row;
              plates-held = record { words = rw n (rw row at p) };
              cuts-held = record { words = rw m (rw row at c) };
            };
        cuts-number = cc;
      }

-- beside the buffers, the words that say where the cuts of each plate type begin
pub parts-lent :
    (ws plates cuts begins : List ℕ) (k : ℕ)
    → ModelLent ws plates cuts k
    → length begins ≡ begins_size
    → ((job : Job) (l : Listing) → Model job l → length l.cuts ≡ k → Holds cuts (cut_words l.cuts) → Begins l.cuts begins)
    → PartsLent ws plates cuts begins
parts-lent ws plates cuts begins k lent n b =
    record {
      lent = lent.lent;
      begins-are = b (job_of ws) (listing_of (job_of ws)) lent.lent.model lent.cuts-number lent.lent.cuts-held;
      for-each = omega (arith, lent.lent.model.few-plates);
    }

-- counts of full size that the plan row of an admitted job accepts
module _ (ws : List ℕ) (admitted : Admitted (job_of ws)) (model : Model (job_of ws) (listing_of (job_of ws))) (counts : List ℕ) (size : counts_size ≤ length counts) (rows : (counts_row (listing_of (job_of ws)) counts then plan_row (job_of ws) (listing_of (job_of ws)) counts) ≡ pass) where
  abbrev job : Job
  job = job_of ws

  abbrev l : Listing
  l = listing_of (job_of ws)

  sided : Sided job
  sided = admitted-sided job admitted

  none-past : NonePast l counts
  none-past = (counts-exact l counts).0 (then-first (counts_row l counts) (plan_row job l counts) rows)

  feasible : Feasible job l counts
  feasible = (plan-exact job l counts).0 (then-second (counts_row l counts) (plan_row job l counts) rows)

  -- the words that are copied, and those past them
  abbrev copied : List ℕ
  copied = take counts_size counts

  abbrev past : List ℕ
  past = drop counts_size counts

  copied-length : length copied ≡ counts_size
  copied-length = length-take-le counts_size counts size

  -- there is one for each cut
  copied_counted : length l.cuts ≤ length copied
  copied_counted = omega (arith, copied-length, model.few-cuts)

  -- the unfolding is the run of the copy, with the other words behind the counts that are left
  whole : unfolded job l counts ≡ longer_run job l past (started job l copied)
  whole =
      sym (steps-enough job l model sided counts none-past feasible max_steps (omega (arith, feasible.few)))
      ∙ ap (λ (ns : List ℕ). run max_steps job l (start_of ns)) (sym (take-append-drop counts_size counts))
      ∙ run-longer job l past max_steps (start_of copied) copied_counted

  copied-placements : (started job l copied).placements ≡ (unfolding_of ws counts).placements
  unfolding unfolding_of
  copied-placements = sym (ap (λ (r : Run). r.placements) whole)

  copied-last : (started job l copied).last.turn.board.number ≡ (unfolding_of ws counts).last.turn.board.number
  unfolding unfolding_of
  copied-last = sym (ap (λ (r : Run). r.last.turn.board.number) whole)

  -- there is room for its pieces
  copied-few : length (started job l copied).placements ≤ max_pieces
  copied-few =
      let e : length (started job l copied).placements ≡ total counts = ap (λ (r : Run). length r.placements) (sym whole) ∙ (unfolds job l model sided counts none-past feasible).pieces in
      omega (arith, feasible.few)

  -- it leaves the same pieces over, and there is room for them
  copied-offcuts : started_offcuts job l copied ≡ offcuts_from ws counts
  unfolding offcuts_from
  copied-offcuts =
      sym (offcuts-longer job l past max_steps (start_of copied) copied_counted)
      ∙ ap (λ (ns : List ℕ). offcuts_in l (events max_steps job l (start_of ns))) (take-append-drop counts_size counts)
      ∙ offcuts-enough job l model sided counts none-past feasible max_steps (omega (arith, feasible.few))

  copied-few-offcuts : length (started_offcuts job l copied) ≤ max_offcuts
  unfolding offcuts_from offcuts_of
  copied-few-offcuts = rw copied-offcuts (area-balance job l model sided counts none-past feasible).few-offcuts

  -- what the run of the copy asks, and what it gives
  module _ {left : List ℕ} (e : left ≡ copied) where
    pub copy-counted : length l.cuts ≤ length left
    copy-counted = rw e copied_counted

    pub copy-few : length (started job l left).placements ≤ max_pieces
    copy-few = rw e copied-few

    pub copy-few-offcuts : length (started_offcuts job l left) ≤ max_offcuts
    copy-few-offcuts = rw e copied-few-offcuts

    module _ (lengths : Lengths) (r : Ran) (buffer list : List ℕ) (g : Gives lengths (started job l left) (started_offcuts job l left) r buffer list) where
      pub copy-results : given (r.boards ∷ r.pieces ∷ r.offcuts ∷ []) ≡ given (results ws counts)
      copy-results =
          let b : r.boards ≡ (unfolding_of ws counts).last.turn.board.number = g.boards-given ∙ ap (λ (ns : List ℕ). (started job l ns).last.turn.board.number) e ∙ copied-last in
          let n : r.pieces ≡ length (unfolding_of ws counts).placements = g.pieces-given ∙ ap (λ (ns : List ℕ). length (started job l ns).placements) e ∙ ap length copied-placements in
          let o : r.offcuts ≡ length (offcuts_from ws counts) = g.offcuts-given ∙ ap (λ (ns : List ℕ). length (started_offcuts job l ns)) e ∙ ap length copied-offcuts in
          rw (b, n, o)

      pub copy-words : Holds buffer (placement_words (unfolding_of ws counts).placements)
      copy-words = rw (← copied-placements, ← e) g.words-given

      pub copy-list : offcuts_size ≤ length list → Holds list (offcut_words lengths.first lengths.second (offcuts_from ws counts))
      copy-list full = rw (← copied-offcuts, ← e) (g.offcuts-listed full)
