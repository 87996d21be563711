-- The job and the model of a saw text that ends: what the model that is kept says of the text's rows.
use Prim.Native.Nat.{ℕ, ◌-◌, ◌≤◌, ◌<◌}
use mathlib.Core.Path.{◌≡◌, refl, sym, ap, ◌∙◌, subst}
use mathlib.Core.List.{List}
use mathlib.Core.Option.{Option}
use lib.ListN.{length, take}
use Rattle.job.specs.Sizes.{max_sizes, max_types, job_size, plates_size, cuts_size}
use Rattle.job.specs.Verdict.{pass, refuse, ◌then◌}
use Rattle.job.specs.Job.{job_of, job_words, admission}
use Rattle.job.specs.declared.counters.PlateTypes.{PlateTypes}
use Rattle.job.specs.declared.counters.CutNumber.{CutNumber}
use Rattle.job.proofs.Verdicts.{then-assoc, then-both, then-passed, then-refused}
use Rattle.job.proofs.CodeEnds.{given-pass, refused-refuse}
use Rattle.listing.specs.Listing.{model_row, listing_of}
use Rattle.listing.specs.ListCall.{list_verdict, list_answer, plates_end, cuts_end}
use Rattle.saw_text_body.specs.declared.model.Model.{Model}
use Rattle.saw_text_body.specs.declared.model.Model.TheVariants.{Listed, Refused}
use Rattle.saw_text_body.specs.ModelRead.{says_of}
use Rattle.unfold_call.proofs.CodeAccepted.{listed-lent}
use Rattle.texts.specs.Widths.{place_limit}
use Rattle.texts.specs.JobLines.{Place, board_sizes, types_of, body_line}
use Rattle.texts.specs.SawText.{Counted, PriceLines, Saw, saw_of, saw_rows}
use Rattle.texts.proofs.Places.{near-place, near-job}
use Rattle.texts_reading.specs.TextEnd.{job_model_row}
use Rattle.texts_reading.proofs.JobKept.{few-sizes-kept, few-kept, words-kept, list-refused}
use Rattle.saw_text_lines.specs.declared.held.SawHeld.{SawHeld}
use Rattle.saw_text_body.specs.PlanRead.{PlanKept}
use Rattle.saw_text_body.specs.ModelRead.{ModelKept}
use Rattle.saw_text_lines.specs.SawKept.{Lent, Room, PlanHeld}
use Rattle.saw_text_body.proofs.ModelLaws.{Modelled, kept-modelled}
use Rattle.saw_text_rows.specs.Tail.{PricesEnd, listed_rows}
use Rattle.saw_text_ending.specs.SawEnd.{ListedLent, WholeKept, Answered}

-- the model that is kept, in lent buffers of full size
module _ (ws plates cuts : List ℕ) (ps : plates_size ≤ length plates) (cs : cuts_size ≤ length cuts) (a : Model) (kept : ModelKept ws a plates cuts) where
  module _ (m : PlateTypes) (k : CutNumber) (e : a ≡ Listed m k) where
    known : Modelled ws cuts m.0 k.0
    known = kept-modelled ws plates cuts a m k e cs kept

    pub rows-passed : job_model_row ws ≡ pass
    rows-passed = then-both (admission (job_of ws)) (model_row (job_of ws)) known.admitted known.listed

    pub listed-so : ListedLent ws plates cuts m.0 k.0
    unfolding list_answer plates_end cuts_end
    listed-so =
        let s = sym (ap (says_of (job_of ws)) e) ∙ kept.says in
        let v : list_verdict ws plates cuts ≡ pass = given-pass (list_verdict ws plates cuts) _ s in
        let row : model_row (job_of ws) ≡ pass = known.listed in
        record {
          words = known.words;
          lent = known.is-ready.lent;
          sizes = known.is-ready.sizes;
          types = known.is-ready.types;
          listed = known.is-ready.listed;
          model =
              listed-lent ws (then-both (job_words ws) (admission (job_of ws)) known.words known.admitted) plates cuts plates cuts (m.0 - length (job_of ws).sizes) k.0
              (rw row (rw v at s))
              (rw row (rw v at kept.plates-are))
              (rw row (rw v at kept.cuts_are))
              refl refl;
        }

  pub rows-refused : (number place : ℕ) → a ≡ Refused number place → job_words ws ≡ pass → job_model_row ws ≡ refuse number place
  unfolding list_answer
  rows-refused number place e w = list-refused ws plates cuts ps cs w (refused-refuse (list_verdict ws plates cuts) _ (sym (ap (says_of (job_of ws)) e) ∙ kept.says))

-- the rows of a saw text: the job and the model, then the others
saw-rows : (s : Saw) → saw_rows s ≡ (job_model_row s.job then listed_rows s)
unfolding saw_rows listed_rows
saw-rows s = sym (then-assoc (admission (job_of s.job)) (model_row (job_of s.job)) (listed_rows s))

module _ (s : Saw) (h : SawHeld) (b : Lent) (room : Room b) (w : WholeKept s h b) where
  -- the buffer holds the job's words, of which there are as many as its numbers of sizes and of types say
  pub few-sizes : board_sizes b.job ≤ max_sizes
  few-sizes = few-sizes-kept b.job s.job w.words w.passed

  pub few-types : types_of b.job ≤ max_types
  few-types = few-kept b.job s.job w.words w.passed

  words_are : take (job_size (board_sizes b.job) (types_of b.job)) b.job ≡ s.job
  words_are = words-kept b.job s.job w.words w.passed

  -- refused by the job or the model
  module _ {number place : ℕ} (e : h.model ≡ Refused number place) where
    row : job_model_row s.job ≡ refuse number place
    row = rows-refused s.job b.plates b.cuts room.for-plates room.for-cuts h.model w.model number place e w.passed

    pub job-refused : saw_rows s ≡ refuse number place
    job-refused = saw-rows s ∙ then-refused (job_model_row s.job) (listed_rows s) number place row

    pub place-fits : place < place_limit
    place-fits = near-place (near-job s.job w.passed) number place row

  -- else listed, and answered by the rows after them
  module _ {m : PlateTypes} {k : CutNumber} (e : h.model ≡ Listed m k) where
    pub job-listed : ListedLent (take (job_size (board_sizes b.job) (types_of b.job)) b.job) b.plates b.cuts m.0 k.0
    job-listed =
        subst (λ (ws : List ℕ). ListedLent ws b.plates b.cuts m.0 k.0) (sym words_are)
        (listed-so s.job b.plates b.cuts room.for-plates room.for-cuts h.model w.model m k e)

    plan-kept : PlanKept (listing_of (job_of s.job)) (body_line s.job) s.plan h.plan b.counts
    plan-kept = subst (λ (a : Model). PlanHeld s.job a s.plan h.plan b.counts) e w.plan

    module _ (out placements : List ℕ) (n : ℕ) (out' placements' : List ℕ) where
      abbrev Rest : List ℕ → Type 0
      Rest ws =
          ((place : Place) (rs : List Counted) (o : Option PriceLines)
          → PlanKept (listing_of (job_of ws)) (body_line ws) rs h.plan b.counts
          → PricesEnd o h.prices b.prices
          → Answered (listed_rows (saw_of place ws rs o)) (saw_of place ws rs o) out placements n out' placements')
          → Answered (saw_rows s) s out placements n out' placements'

      rest-here : Rest s.job
      rest-here f =
          let p = rows-passed s.job b.plates b.cuts room.for-plates room.for-cuts h.model w.model m k e in
          rw (saw-rows s, then-passed (job_model_row s.job) (listed_rows s) p) (f s.place s.plan s.prices plan-kept w.prices)

      pub job-passed : Rest (take (job_size (board_sizes b.job) (types_of b.job)) b.job)
      job-passed = subst Rest (sym words_are) rest-here
