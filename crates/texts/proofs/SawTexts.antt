-- Whole saw texts, both ways: what a text that passes holds, and that it is read back from its lines.
use Prim.Native.Nat.{ℕ}
use mathlib.Core.Path.{◌≡◌, refl}
use mathlib.Core.Bool.{true}
use mathlib.Core.List.{List}
use mathlib.Core.Option.{Option, none, some}
use Rattle.job.proofs.Tests.{not-both}
use Rattle.texts.specs.JobLines.{Place, first, sizes, types, body, item_prices, plate_prices, done}
use Rattle.texts.specs.SawText.{Counted, PriceLines, saw_complete, saw_grammar, saw_of}
use Rattle.texts.specs.TextOf.{saw_rows_of}
use Rattle.texts.specs.Held.{PricesHeld, SawWhole, SawBothWays}
use Rattle.texts.proofs.WholeTexts.{both_ways}
use Rattle.texts.proofs.JobLaws.{job-passes}
use Rattle.texts.proofs.SawRead.{SawForm, saw-at}
use Rattle.texts.proofs.SawRuns.{saw-plain, saw-runs}

complete-held :
    (p : Place) (ws : List ℕ) (rs : List Counted) (o : Option PriceLines) (rows : List (List ℕ))
    → SawForm p rows (saw_of p ws rs o)
    → saw_complete (saw_of p ws rs o) ≡ true
    → SawWhole (saw_of p ws rs o) × (rows ≡ saw_rows_of (saw_of p ws rs o))
unfolding saw_complete
complete-held first ws rs o rows h c = absurd (not-both c refl)
complete-held (sizes j) ws rs o rows h c = absurd (not-both c refl)
complete-held (types i) ws rs o rows h c = absurd (not-both c refl)
complete-held body ws rs none rows h c =
    (record { job = job-passes ws h.0.job; plan = h.0.plan; prices = refl }, h.0.lines)
complete-held body ws rs (some ps) rows h c = absurd h.1
complete-held (item_prices i) ws rs o rows h c = absurd (not-both c refl)
complete-held (plate_prices j) ws rs o rows h c = absurd (not-both c refl)
complete-held done ws rs none rows h c = absurd h.1
complete-held done ws rs (some ps) rows h c =
    let q = h.1 in (
      record {
        job = job-passes ws h.0.job;
        plan = h.0.plan;
        prices = (refl, record { low = q.low; high = q.high; residuals = q.residuals; size = q.size; words = q.words });
      },
      h.0.lines,
    )

held-complete : (ws : List ℕ) (rs : List Counted) (p : Place) (o : Option PriceLines) → PricesHeld p o → saw_complete (saw_of p ws rs o) ≡ true
unfolding saw_complete
held-complete ws rs p none h = rw (h, saw_complete)
held-complete ws rs p (some ps) h = rw (h.0, saw_complete)

-- saw texts both ways
pub saw-both-ways : SawBothWays
saw-both-ways =
    both_ways saw_grammar saw-plain SawWhole saw_rows_of
    (λ nss s r c. complete-held s.place s.job s.plan s.prices nss (saw-at nss s r) c)
    (λ s h. (saw-runs s h, held-complete s.job s.plan s.place s.prices h.prices))
