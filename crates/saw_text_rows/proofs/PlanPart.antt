-- The plan row of a saw text by what is kept of its lines 3.
use Prim.Native.Nat.{ℕ, zero, suc, ◌≤◌, ◌<◌}
use native.Mathlib.Omega.{arith}
use mathlib.Core.Path.{◌≡◌, refl, ap, ◌∙◌}
use mathlib.Core.List.{List, [], ◌∷◌}
use lib.ListN.{length}
use Rattle.job.specs.Verdict.{Verdict, pass, refuse, ◌then◌}
use Rattle.job.specs.Buffers.{given, answer, filled}
use Rattle.job.specs.Job.{Job, job_of, max_types}
use Rattle.job.proofs.Verdicts.{then-first, then-second, then-passed}
use Rattle.job.proofs.CodeEnds.{given-pass}
use Rattle.listing.specs.Listing.{Listing, max_plates}
use Rattle.plan.specs.Plan.{boards, plan_cost, counts_row, plan_row}
use Rattle.plan.specs.PlanCall.{boards_and_cost}
use Rattle.std.specs.Prelude.{Result, Ok, Err}
use Rattle.job.specs.declared.refused.Refused.{Refused}
use Rattle.job.specs.declared.refused.Refusal.TheVariants.{NoSuchCut, CutOrder, OtherPlate}
use Rattle.plan_test.specs.declared.opened.Opening.{Opening}
use Rattle.plan_test.specs.PlanSays.{says_of}
use Rattle.texts.specs.Widths.{place_limit}
use Rattle.texts.specs.SawText.{Counted, cuts_named, plates_shown, cuts_rising, plan_counts}
use Rattle.texts.proofs.Places.{Near, near-place, near-plan}
use Rattle.texts.proofs.CallRows.{counts-length, plan-filled, counts-filled}
use Rattle.saw_text_body.specs.declared.plan_lines.PlanLines.{PlanLines}
use Rattle.saw_text_body.specs.PlanRead.{at_line, PlanKept}
use Rattle.saw_text_body.proofs.PlanLaws.{risen-all}
use Rattle.saw_text_body.proofs.PlanSteps.{at-refused}
use Rattle.saw_text_rows.specs.Tail.{lines_row, PlaceFits, Tested, PlanTold}
use Rattle.saw_text_rows.proofs.Filled.{boards-filled, cost-filled}

-- an answer by a verdict whose place fits
near-answer : (v : Verdict) (rs : List ℕ) → Near v → PlaceFits (answer v rs)
near-answer pass rs h = tt
near-answer (refuse n p) rs h = near-place h n p refl

no_line : (number line : ℕ) → line ≡ 0 → at_line number line ≡ pass
no_line number zero h = refl
no_line number (suc line) h = absurd (omega arith)

-- where the plan row passes, the counts kept are those of all lines
pub counts_whole :
    (job : Job) (l : Listing) (first : ℕ) (rs : List Counted) {p : PlanLines} {counts : List ℕ}
    → PlanKept l first rs p counts
    → lines_row job l first rs ≡ pass
    → counts ≡ filled (length counts) (plan_counts l rs)
unfolding lines_row
counts_whole job l first rs {counts = counts} kept h =
    let shown = then-second (cuts_named l first rs) (plates_shown l first rs then cuts_rising l 0 first rs then plan_row job l (plan_counts l rs)) h in
    let rest = then-second (plates_shown l first rs) (cuts_rising l 0 first rs then plan_row job l (plan_counts l rs)) shown in
    let rise = then-first (cuts_rising l 0 first rs) (plan_row job l (plan_counts l rs)) rest in
    kept.counts-are.words ∙ ap (λ (ss : List Counted). filled (length counts) (plan_counts l ss)) (risen-all l 0 first rs rise)

-- what is known of an answer, by its case
pub tested-accepted :
    {a : Result Opening Refused} {o : Opening} (l : Listing) (job : Job) (counts : List ℕ)
    → a ≡ Ok o
    → Tested a l job counts
    → ((counts_row l counts then plan_row job l counts) ≡ pass) × ((o.boards ≡ boards l counts) × (o.cost ≡ plan_cost job l counts))
tested-accepted l job counts e t = rw e at t

pub fits_refused : {a : Result Opening Refused} {r : Refused} → a ≡ Err r → PlaceFits (says_of a) → r.place < place_limit
fits_refused e f = rw e at f

module _ (l : Listing) (ws counts : List ℕ) (p : PlanLines) where
  -- 8
  pub told-unnamed : (p.unnamed ≡ 0 → ⊥) → p.unnamed < place_limit → PlanTold l ws counts p (Err (record { refusal = NoSuchCut; place = p.unnamed }))
  unfolding lines_row
  told-unnamed h s =
      record {
        says = λ first rs kept. rw (kept.unnamed-is, at-refused 8 p.unnamed h);
        fits = λ first rs kept. s;
        tested = tt;
      }

  -- 20
  pub told-misshown : p.unnamed ≡ 0 → (p.misshown ≡ 0 → ⊥) → p.misshown < place_limit → PlanTold l ws counts p (Err (record { refusal = OtherPlate; place = p.misshown }))
  unfolding lines_row
  told-misshown z h s =
      record {
        says = λ first rs kept. rw (kept.unnamed-is, no_line 8 p.unnamed z, kept.misshown-is, at-refused 20 p.misshown h);
        fits = λ first rs kept. s;
        tested = tt;
      }

  -- 9
  pub told-fallen : p.unnamed ≡ 0 → p.misshown ≡ 0 → (p.fallen ≡ 0 → ⊥) → p.fallen < place_limit → PlanTold l ws counts p (Err (record { refusal = CutOrder; place = p.fallen }))
  unfolding lines_row
  told-fallen z y h s =
      record {
        says = λ first rs kept. rw (kept.unnamed-is, no_line 8 p.unnamed z, kept.misshown-is, no_line 20 p.misshown y, kept.fallen-is, at-refused 9 p.fallen h);
        fits = λ first rs kept. s;
        tested = tt;
      }

  module _ (unnamed : p.unnamed ≡ 0) (misshown : p.misshown ≡ 0) (fallen : p.fallen ≡ 0) where
    -- every line names a cut after the last and shows its plate, and the counts are those of all lines
    module _ (first : ℕ) (rs : List Counted) (kept : PlanKept l first rs p counts) where
      all_named : cuts_named l first rs ≡ pass
      all_named = kept.unnamed-is ∙ no_line 8 p.unnamed unnamed

      all_shown : plates_shown l first rs ≡ pass
      all_shown = kept.misshown-is ∙ no_line 20 p.misshown misshown

      all-rise : cuts_rising l 0 first rs ≡ pass
      all-rise = kept.fallen-is ∙ no_line 9 p.fallen fallen

      pub counts-kept : counts ≡ filled (length counts) (plan_counts l rs)
      counts-kept = kept.counts-are.words ∙ ap (λ (ss : List Counted). filled (length counts) (plan_counts l ss)) (risen-all l 0 first rs all-rise)

      rows-kept : lines_row (job_of ws) l first rs ≡ (counts_row l counts then plan_row (job_of ws) l counts)
      unfolding lines_row
      rows-kept =
          let z = counts-length l rs in
          let c : counts_row l counts ≡ pass = ap (counts_row l) counts-kept ∙ counts-filled (length counts) l (plan_counts l rs) z in
          let r : plan_row (job_of ws) l counts ≡ plan_row (job_of ws) l (plan_counts l rs) =
          ap (plan_row (job_of ws) l) counts-kept ∙ plan-filled (length counts) (job_of ws) l (plan_counts l rs) z in
          rw (all_named, all_shown, all-rise, c, r)

      boards-kept : boards l counts ≡ boards l (plan_counts l rs)
      boards-kept = ap (boards l) counts-kept ∙ boards-filled (length counts) (job_of ws) l (plan_counts l rs) (counts-length l rs)

      cost-kept : plan_cost (job_of ws) l counts ≡ plan_cost (job_of ws) l (plan_counts l rs)
      cost-kept = ap (plan_cost (job_of ws) l) counts-kept ∙ cost-filled (length counts) (job_of ws) l (plan_counts l rs) (counts-length l rs)

    abbrev rows : Verdict
    rows = counts_row l counts then plan_row (job_of ws) l counts

    abbrev results : List ℕ
    results = boards_and_cost (job_of ws) l counts

    tested-by : (a : Result Opening Refused) → says_of a ≡ answer rows results → Tested a l (job_of ws) counts
    tested-by (Ok o) e =
        let q : rows ≡ pass = given-pass rows results e in
        let v : given (o.boards ∷ o.cost ∷ []) ≡ given results = rw q at e in
        let x : o.boards ≡ boards l counts = cc in
        let y : o.cost ≡ plan_cost (job_of ws) l counts = cc in
        (q, (x, y))
    tested-by (Err r) e = tt

    -- 10, 11 and 12
    pub told-tested :
        (a : Result Opening Refused)
        → length (job_of ws).items ≤ max_types
        → 1 ≤ l.sizes
        → length l.plates ≤ max_plates
        → says_of a ≡ answer rows results
        → PlanTold l ws counts p a
    told-tested a i z j e =
        let says : (first : ℕ) (rs : List Counted) → PlanKept l first rs p counts → says_of a ≡ answer (lines_row (job_of ws) l first rs) (boards_and_cost (job_of ws) l (plan_counts l rs)) =
        λ first rs kept. rw (rows-kept first rs kept, ← boards-kept first rs kept, ← cost-kept first rs kept) e in
        record {
          says = says;
          fits = λ first rs kept.
              let c : rows ≡ plan_row (job_of ws) l counts = rows_pass first rs kept in
              rw (e, c) (near-answer (plan_row (job_of ws) l counts) results (near-plan (job_of ws) l counts i z j));
          tested = tested-by a e;
        }
      where
        rows_pass : (first : ℕ) (rs : List Counted) → PlanKept l first rs p counts → rows ≡ plan_row (job_of ws) l counts
        rows_pass first rs kept =
            then-passed (counts_row l counts) (plan_row (job_of ws) l counts)
            (ap (counts_row l) (counts-kept first rs kept) ∙ counts-filled (length counts) l (plan_counts l rs) (counts-length l rs))
