-- The answer to a saw text, by its rows: what is written and what is left in the placements.
use Prim.Native.Nat.{ℕ}
use mathlib.Core.Path.{◌≡◌, sym, ap, ◌∙◌}
use mathlib.Core.List.{List, [], ◌∷◌, ◌++◌, flat_map}
use mathlib.Core.Option.{Option}
use lib.ListN.{length}
use Rattle.job.specs.Verdict.{Verdict, pass, refuse, ◌then◌}
use Rattle.job.specs.Buffers.{given, refused, answer, filled}
use Rattle.job.specs.Job.{job_of}
use Rattle.job.proofs.Buffers.{filled_none}
use Rattle.job.proofs.Verdicts.{then-assoc, then-both, then-passed, then-refused}
use Rattle.job.proofs.CodeEnds.{given-pass, refused-refuse}
use Rattle.listing.specs.Listing.{listing_of}
use Rattle.listing.specs.Holds.{Holds}
use Rattle.plan.specs.Plan.{plan_cost, plan_row}
use Rattle.plan.specs.PlanCall.{boards_and_cost}
use Rattle.layouts.specs.Placement.{placement_words}
use Rattle.layouts.specs.Unfold.{unfolded}
use Rattle.layouts.specs.UnfoldCall.{unfolding_of}
use Rattle.columns.specs.Line.{line_of}
use Rattle.texts.specs.JobLines.{Place, body_line}
use Rattle.texts.specs.SawText.{Counted, PriceLines, Saw, saw_of, cuts_named, plates_shown, cuts_rising, plan_counts, price_lines_row, placement_line, saw_lines}
use Rattle.texts.specs.Printed.{saw_run, saw_cost}
use Rattle.texts.proofs.CallRows.{counts-length}
use Rattle.texts_writing.specs.Wrote.{Wrote, summary_line, sum_given, denominator_given}
use Rattle.texts_writing.proofs.WroteLaws.{written-passed, written-refused}
use Rattle.texts_writing.proofs.SawOutput.{saw-output}
use Rattle.saw_text_rows.specs.Tail.{lines_row, listed_rows}
use Rattle.saw_text_ending.specs.SawEnd.{placed_end, Answered}
use Rattle.saw_text_rows.proofs.Filled.{placements-filled, cost-filled}
use Rattle.saw_text_rows.proofs.PricePart.{results}

-- refused: line 9, and the cleared placements as they are
pub refused-answer :
    {v : Verdict} {number place n : ℕ} {out out' placements placements' : List ℕ} (s : Saw)
    → v ≡ refuse number place
    → Wrote out 0 (line_of (9 ∷ number ∷ place ∷ [])) n out'
    → Holds placements []
    → placements' ≡ placements
    → Answered v s out placements n out' placements'
refused-answer {v} {placements = placements} s e w h q =
    record {
      wrote = rw (written-refused v (saw_lines s) e) w;
      placed = rw e (q ∙ h.words ∙ filled_none (length placements));
    }

-- accepted: its lines, and the words of its placements
pub accepted-answer :
    {v : Verdict} {n : ℕ} {bytes out out' placements placements' : List ℕ} (s : Saw)
    → v ≡ pass
    → Wrote out 0 bytes n out'
    → bytes ≡ saw_lines s
    → Holds placements' (placement_words (saw_run s).placements)
    → length placements' ≡ length placements
    → Answered v s out placements n out' placements'
accepted-answer {v} s e w b h l =
    record {
      wrote = rw (written-passed v (saw_lines s) e, ← b) w;
      placed = rw (e, ← l) h.words;
    }

-- placements of the same length end the same
placed-again : (v : Verdict) (s : Saw) (ps qs : List ℕ) → length ps ≡ length qs → placed_end v s ps ≡ placed_end v s qs
placed-again pass s ps qs e = rw e
placed-again (refuse number place) s ps qs e = rw e

pub answered-again :
    {v u : Verdict} {n : ℕ} {out out' ps qs placements' : List ℕ} (s : Saw)
    → length ps ≡ length qs
    → v ≡ u
    → Answered v s out ps n out' placements'
    → Answered u s out qs n out' placements'
answered-again {v} {u} {ps = ps} {qs} s e f a =
    rw (← f) (record { wrote = a.wrote; placed = a.placed ∙ placed-again v s ps qs e })

-- the rows after the model: the plan row, then the prices row
rows-parts :
    (s : Saw)
    → listed_rows s
    ≡ (lines_row (job_of s.job) (listing_of (job_of s.job)) (body_line s.job) s.plan then price_lines_row (job_of s.job) (listing_of (job_of s.job)) s.prices)
unfolding listed_rows lines_row
rows-parts s =
    let job = job_of s.job in
    let l = listing_of job in
    let named = cuts_named l (body_line s.job) s.plan in
    let shown = plates_shown l (body_line s.job) s.plan in
    let rising = cuts_rising l 0 (body_line s.job) s.plan in
    let plan = plan_row job l (plan_counts l s.plan) in
    let prices = price_lines_row job l s.prices in
    sym
    (then-assoc named (shown then rising then plan) prices
    ∙ ap (λ (v : Verdict). named then v) (then-assoc shown (rising then plan) prices ∙ ap (λ (v : Verdict). shown then v) (then-assoc rising plan prices)))

module _ (place : Place) (ws : List ℕ) (rs : List Counted) (o : Option PriceLines) where
  abbrev s : Saw
  s = saw_of place ws rs o

  abbrev plan-rows : Verdict
  plan-rows = lines_row (job_of ws) (listing_of (job_of ws)) (body_line ws) rs

  abbrev price-rows : Verdict
  price-rows = price_lines_row (job_of ws) (listing_of (job_of ws)) o

  abbrev opened : List ℕ
  opened = boards_and_cost (job_of ws) (listing_of (job_of ws)) (plan_counts (listing_of (job_of ws)) rs)

  -- the plan row refuses
  pub plan-refused : {number place : ℕ} → refused number place ≡ answer plan-rows opened → listed_rows s ≡ refuse number place
  plan-refused e = rows-parts s ∙ then-refused plan-rows price-rows _ _ (refused-refuse plan-rows opened e)

  module _ (plan : plan-rows ≡ pass) where
    -- the prices row refuses
    pub prices-refused : {number place : ℕ} → refused number place ≡ answer price-rows (results (job_of ws) o) → listed_rows s ≡ refuse number place
    prices-refused e = rows-parts s ∙ then-passed plan-rows price-rows plan ∙ refused-refuse price-rows (results (job_of ws) o) e

    module _ (sum d : ℕ) (prices : given (sum ∷ d ∷ []) ≡ answer price-rows (results (job_of ws) o)) where
      prices-pass : price-rows ≡ pass
      prices-pass = given-pass price-rows (results (job_of ws) o) prices

      prices-given : given (sum ∷ d ∷ []) ≡ given (results (job_of ws) o)
      prices-given = rw prices-pass at prices

      -- both pass
      pub rows_pass : listed_rows s ≡ pass
      rows_pass = rows-parts s ∙ then-both plan-rows price-rows plan prices-pass

      module _ (counts : List ℕ) (kept : counts ≡ filled (length counts) (plan_counts (listing_of (job_of ws)) rs)) where
        -- the unfolding of the counts, as words, is that of the text's plan
        pub placements-are : (unfolding_of ws counts).placements ≡ (saw_run s).placements
        unfolding unfolding_of
        placements-are =
            let l = listing_of (job_of ws) in
            ap (λ (ns : List ℕ). (unfolded (job_of ws) l ns).placements) kept
            ∙ placements-filled (length counts) (job_of ws) l (plan_counts l rs) (counts-length l rs)

        -- and what its boards cost
        cost-is : {cost : ℕ} → cost ≡ plan_cost (job_of ws) (listing_of (job_of ws)) counts → cost ≡ saw_cost s
        cost-is e =
            let l = listing_of (job_of ws) in
            e
            ∙ ap (plan_cost (job_of ws) l) kept
            ∙ cost-filled (length counts) (job_of ws) l (plan_counts l rs) (counts-length l rs)

        pub bytes-are :
            {cost : ℕ}
            → cost ≡ plan_cost (job_of ws) (listing_of (job_of ws)) counts
            → flat_map placement_line (unfolding_of ws counts).placements ++ summary_line cost sum d ≡ saw_lines s
        bytes-are {cost} e =
            saw-output s (unfolding_of ws counts).placements cost sum d placements-are (cost-is e)
            (let g = prices-given in let q : sum ≡ sum_given (job_of ws) o = cc in q)
            (let g = prices-given in let q : d ≡ denominator_given (job_of ws) o = cc in q)
