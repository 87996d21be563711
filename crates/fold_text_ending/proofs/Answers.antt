-- The answer to a fold text, by its rows: what is written and what is left in the lent buffers.
use Prim.Native.Nat.{ℕ}
use mathlib.Core.Path.{◌≡◌}
use mathlib.Core.List.{List, [], ◌∷◌}
use lib.ListN.{length, replicate}
use Rattle.job.specs.Verdict.{Verdict, pass, refuse}
use Rattle.job.specs.Buffers.{filled}
use Rattle.job.specs.Job.{job_of}
use Rattle.listing.specs.Listing.{listing_of}
use Rattle.layouts.specs.Lines.{set_of}
use Rattle.layouts.specs.Fold.{folded}
use Rattle.columns.specs.Line.{line_of}
use Rattle.texts.specs.JobLines.{body}
use Rattle.texts.specs.FoldText.{fold_of, fold_lines}
use Rattle.texts_writing.specs.Wrote.{Wrote}
use Rattle.texts_writing.proofs.WroteLaws.{written-passed, written-refused}
use Rattle.fold_text_ending.specs.FoldEnd.{ListedLent, Answered}

-- refused: line 9, and zeros
pub refused-answer :
    {v : Verdict} {number place n plates cuts counts : ℕ} {out out' plates' cuts' counts' : List ℕ} (ws ls : List ℕ)
    → v ≡ refuse number place
    → Wrote out 0 (line_of (9 ∷ number ∷ place ∷ [])) n out'
    → plates' ≡ replicate plates 0
    → cuts' ≡ replicate cuts 0
    → counts' ≡ replicate counts 0
    → Answered v ws ls out plates cuts counts n out' plates' cuts' counts'
refused-answer {v} ws ls e w p c k =
    record {
      wrote = rw (written-refused v (fold_lines (fold_of body ws ls)) e) w;
      plates-left = rw e p;
      cuts-left = rw e c;
      counts-left = rw e k;
    }

-- accepted: its lines 3, the listing and the plan
pub accepted-answer :
    {v : Verdict} {n counts k : ℕ} {out out' plates cuts counts' : List ℕ} (ws ls : List ℕ)
    → v ≡ pass
    → Wrote out 0 (fold_lines (fold_of body ws ls)) n out'
    → ListedLent ws plates cuts k
    → counts' ≡ filled counts (folded (job_of ws) (listing_of (job_of ws)) (set_of ls))
    → Answered v ws ls out (length plates) (length cuts) counts n out' plates cuts counts'
accepted-answer {v} ws ls e w l k =
    record {
      wrote = rw (written-passed v (fold_lines (fold_of body ws ls)) e) w;
      plates-left = rw e l.plates-hold.words;
      cuts-left = rw e l.cuts-hold.words;
      counts-left = rw e k;
    }

-- the sizes of the buffers, and the verdict, said in another way
pub answered-again :
    {v u : Verdict} {n plates cuts counts plates₂ cuts₂ : ℕ} {ws ls out out' plates' cuts' counts' : List ℕ}
    → plates ≡ plates₂
    → cuts ≡ cuts₂
    → v ≡ u
    → Answered v ws ls out plates cuts counts n out' plates' cuts' counts'
    → Answered u ws ls out plates₂ cuts₂ counts n out' plates' cuts' counts'
answered-again p c e a = rw (← p, ← c, ← e) a
