-- What the reader of a fold text keeps, where the text ends: the job's words and the lines 7 that its last rows need.
use Prim.Native.Nat.{ℕ}
use native.Mathlib.Omega.{arith}
use mathlib.Core.Path.{◌≡◌, refl, sym, subst}
use mathlib.Core.List.{List}
use lib.ListN.{length}
use Rattle.job.specs.Verdict.{pass, ◌then◌}
use Rattle.texts.specs.Reader.{Reader, started, fed, text_row}
use Rattle.texts.specs.JobLines.{body}
use Rattle.texts.specs.FoldText.{fold_of, Fold, fold_grammar, fold_rows, fold_lines, fold_written}
use Rattle.texts.specs.Held.{FoldWhole}
use Rattle.texts.proofs.FoldTexts.{fold-both-ways}
use Rattle.fold_text_reader.specs.declared.fold.FoldReader.{FoldReader}
use Rattle.fold_text_reader.specs.FoldKept.{FoldKept}
use Rattle.fold_text_ending.specs.FoldEnd.{WholeKept, TextEnds, Answered}
use Rattle.fold_text_ending.specs.Finished.{Finished}

module _ {r : Reader Fold} {f : FoldReader} (job layouts bs : List ℕ) (is : r ≡ fed fold_grammar (started fold_grammar) bs) (k : FoldKept r f job layouts) where
  -- a text that passes the line row holds words that pass their own rows
  text-holds : text_row fold_grammar r ≡ pass → FoldWhole r.state
  text-holds h =
      subst (λ (q : Reader Fold). FoldWhole q.state) (sym is)
      (fold-both-ways.read bs (subst (λ (q : Reader Fold). text_row fold_grammar q ≡ pass) is h)).0

  whole : text_row fold_grammar r ≡ pass → WholeKept r.state.job r.state.layouts f.rows job layouts
  whole h =
      let t = text-holds h in
      record { words = k.job-words; passed = t.job; size = k.rows; lines = t.layouts; first-lines = k.layout-words }

  pub text-ends : TextEnds r f.text f.rows job layouts
  text-ends = record { stands = k.text; few = omega (arith, k.text.lines, k.ready.text.few); whole = whole }

-- the lines of what a text holds do not ask for its place
lines_of : (f : Fold) → fold_lines (fold_of body f.job f.layouts) ≡ fold_lines f
unfolding fold_lines
lines_of f = refl

-- the answer is what the definition writes
pub finished :
    (r : Reader Fold) {out plates cuts counts out' plates' cuts' counts' : List ℕ} {n : ℕ}
    → Answered (text_row fold_grammar r then fold_rows r.state) r.state.job r.state.layouts out (length plates) (length cuts) (length counts) n out' plates' cuts' counts'
    → Finished r out plates cuts counts n out' plates' cuts' counts'
unfolding fold_written
finished r a =
    let w = rw (lines_of r.state) at a.wrote in
    record {
      size = omega (arith, w.end-at);
      output = w.bytes-put;
      plates-left = a.plates-left;
      cuts-left = a.cuts-left;
      counts-left = a.counts-left;
    }
