-- Request Five: where lines 3 show their plates, and that what they show has no limits of its own.
use Prim.Native.Nat.{ℕ, ◌-◌, ◌<◌}
use native.Mathlib.Omega.{arith}
use mathlib.Core.Path.{◌≡◌}
use mathlib.Core.Bool.{true}
use mathlib.Core.List.{List, [], ◌∷◌}
use Rattle.job.specs.Verdict.{pass, within}
use Rattle.job.specs.Job.{job_of}
use Rattle.job.proofs.Tests.{within-limits}
use Rattle.job.proofs.Verdicts.{then-second}
use Rattle.listing.specs.Listing.{plate_at, listing_of}
use Rattle.columns.specs.Group.{limit}
use Rattle.columns.specs.Line.{Fit}
use Rattle.texts.specs.Shape.{Shape, plan_line, begins, formed, each_within, values, numbers_row}
use Rattle.texts.specs.JobLines.{body_line}
use Rattle.texts.specs.Reader.{started, fed, text_row}
use Rattle.texts.specs.SawText.{saw_grammar, saw_rows}
use Rattle.texts.specs.Printed.{saw_holds, fold_counts}
use Rattle.texts.specs.Refused.{verdict_on_saw}
use Rattle.texts.specs.Shown.{Shows, ShownPlates}
use Rattle.texts.proofs.ShownPlates.{shows-pass, pass-shows}
use Rattle.texts.proofs.CountedPlan.{counted-shows}
use Rattle.texts.proofs.CallRows.{accepted-rows}

-- the lines 3 of an accepted text
accepted : (bs : List ℕ) → verdict_on_saw bs ≡ pass → Shows (plate_at (listing_of (job_of (saw_holds bs).job))) (saw_holds bs).plan
accepted bs h =
    let rows = then-second (text_row saw_grammar (fed saw_grammar (started saw_grammar) bs)) (saw_rows (saw_holds bs)) h in
    pass-shows (listing_of (job_of (saw_holds bs).job)) (body_line (saw_holds bs).job) (saw_holds bs).plan (accepted-rows (saw_holds bs) rows).shown

-- a number of nine columns is within the limits of one that has none of its own
shown-within : (n : ℕ) → n < limit → within 0 (limit - 1) n ≡ true
shown-within n h = within-limits 0 (limit - 1) n (omega arith) (omega arith)

unlimited :
    (line : ℕ) (ws : List ℕ) (ss : List Shape) (j i n w h s t w' h' s' : ℕ)
    → Fit (w ∷ h ∷ s ∷ [])
    → Fit (w' ∷ h' ∷ s' ∷ [])
    → numbers_row line (plan_line ws ∷ ss) (3 ∷ j ∷ i ∷ n ∷ w ∷ h ∷ s ∷ t ∷ [])
    ≡ numbers_row line (plan_line ws ∷ ss) (3 ∷ j ∷ i ∷ n ∷ w' ∷ h' ∷ s' ∷ t ∷ [])
unfolding numbers_row formed begins values each_within Fit
unlimited line ws ss j i n w h s t w' h' s' f g =
    rw (
      shown-within w f.0,
      shown-within h f.1.0,
      shown-within s f.1.1.0,
      shown-within w' g.0,
      shown-within h' g.1.0,
      shown-within s' g.1.1.0,
    )

-- all of it
pub shown-plates : ShownPlates
shown-plates =
    record {
      exactly = λ l k rs. (pass-shows l k rs, shows-pass l k rs);
      accepted = accepted;
      written = λ f. let l = listing_of (job_of f.job) in counted-shows l l.cuts (fold_counts f);
      unlimited = unlimited;
    }
