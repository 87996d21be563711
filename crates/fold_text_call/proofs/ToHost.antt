-- What a host gets of a fold text who lends the output alone: the other buffers have their full sizes.
use Prim.Native.Nat.{ℕ, ◌≤◌}
use mathlib.Core.Path.{sym, ◌∙◌}
use mathlib.Core.List.{List}
use lib.ListN.{length}
use borrow.Author.Tests.{le-leb, lt-leb}
use Rattle.job.specs.Sizes.{longest_job}
use Rattle.job.specs.Buffers.{plates_size, cuts_size, counts_size, placements_size}
use Rattle.texts.specs.FoldText.{fold_text}
use Rattle.texts_writing.specs.Wrote.{longest_fold}
use Rattle.answers.specs.TextAnswer.{TextAnswer}
use Rattle.fold_text_ending.proofs.Room.{by_out}
use Rattle.fold_text_call.specs.Called.{Lent, lent, Called}

module _ {text out job layouts plates cuts counts : List ℕ} {n : ℕ} {b : Lent} (called : Called text (lent out job layouts plates cuts counts) n b) where
  pub fold-answer :
      longest_job ≤ length job
      → placements_size ≤ length layouts
      → plates_size ≤ length plates
      → cuts_size ≤ length cuts
      → counts_size ≤ length counts
      → TextAnswer longest_fold (fold_text text) out n b.out
  fold-answer js ls ps cs ks =
      let room = by_out (length job) (length layouts) (length plates) (length cuts) (length counts) (length out) js ls ps cs ks in
      record {
        written = λ h. let a = called.answered (sym room ∙ le-leb longest_fold (length out) h) in (a.size, a.output);
        short = λ h. let a = called.short (sym room ∙ lt-leb longest_fold (length out) h) in (a.0, λ i. (a.1 i).out);
      }
