-- The laws of texts, gathered.
use Prim.Native.Nat.{ℕ, ◌≤◌}
use native.Mathlib.Omega.{arith}
use mathlib.Core.Path.{ap}
use mathlib.Core.List.{List, ◌∷◌}
use lib.ListN.{length}
use Rattle.job.specs.Buffers.{plates_size, cuts_size}
use Rattle.columns.proofs.ReadLaws.{read-written, written_read}
use Rattle.texts.specs.Reader.{Grammar, Reader}
use Rattle.texts.specs.SawText.{saw_grammar}
use Rattle.texts.specs.FoldText.{fold_grammar}
use Rattle.texts.specs.TextLaws.{LineRow, InParts, AsCalls, TextLaws}
use Rattle.texts.proofs.ShapeLaws.{line-admitted, shape-read-back}
use Rattle.texts.proofs.ReaderLaws.{fed-append, fed-refused, fed-written}
use Rattle.texts.proofs.ReadSoFar.{sound}
use Rattle.texts.proofs.Running.{Plain}
use Rattle.texts.proofs.WholeTexts.{row-begun, row-missing, row-text, text-read, text-row}
use Rattle.texts.proofs.Prefix.{lines-prefix}
use Rattle.texts.proofs.LinesIn.{lines-both-ways}
use Rattle.texts.proofs.SawRuns.{saw-plain}
use Rattle.texts.proofs.SawTexts.{saw-both-ways}
use Rattle.texts.proofs.FoldTexts.{fold-plain, fold-both-ways}
use Rattle.texts.proofs.LongTexts.{saw-bytes, fold-bytes, saw-prefix, fold-prefix}
use Rattle.texts.proofs.Printed.{printed}
use Rattle.texts.proofs.Refused.{refused-back}
use Rattle.texts.proofs.ShownLaws.{shown-plates}
use Rattle.texts.proofs.FoldThenSaw.{fold-saw}
use Rattle.texts.proofs.SawThenFold.{saw-fold}
use Rattle.texts.proofs.CallRows.{accepted-rows, accepted-plan, accepted-prices}
use Rattle.texts.proofs.FoldRows.{text-accepted, call-accepted}

-- the line row of whole texts, of a grammar in which each kind stands once among the lines admitted
line_row : {S : Type 0} (g : Grammar S) → Plain g → LineRow g
line_row {S} g p =
    record {
      passed = row-text g;
      passes = λ bs s t. (text-row g p bs s t, ap (λ (r : Reader S). r.state) (text-read g p bs s t));
    }

-- texts in parts
pub in_parts : {S : Type 0} (g : Grammar S) → InParts g
in_parts g =
    record {
      parts = fed-append g;
      refused = fed-refused g;
      line = λ r ns v l e f k. fed-written g r ns (record { passed = v; few = l }) e f k;
      over = λ bs b cs v l. lines-prefix g bs (b ∷ cs) v l (omega arith);
      unended = row-begun g;
      missing = row-missing g;
      kept = λ bs. (sound g bs).short;
    }

-- texts as calls
pub as-calls : (plates cuts : List ℕ) → plates_size ≤ length plates → cuts_size ≤ length cuts → AsCalls plates cuts
as-calls plates cuts p c =
    record {
      plan = λ s h a. accepted-plan s h (accepted-rows s a) plates cuts p c;
      prices = λ s ps h a e. accepted-prices s h (accepted-rows s a) plates cuts p c ps e;
      fold = λ f counts h n. (text-accepted f h plates cuts counts p c n, call-accepted f h plates cuts counts p c n);
    }

-- all of them
pub text_laws : TextLaws
text_laws =
    record {
      one_line = record { read = read-written; written = written_read; admitted = line-admitted; passes = shape-read-back };
      lines = lines-both-ways;
      saw-row = line_row saw_grammar saw-plain;
      fold-row = line_row fold_grammar fold-plain;
      saw = saw-both-ways;
      fold = fold-both-ways;
      in_parts = in_parts;
      printed = printed;
      refused = refused-back;
      shown = shown-plates;
      rounds = record { fold-saw = fold-saw; saw-fold = saw-fold };
      decided = record { saw-bytes = saw-bytes; fold-bytes = fold-bytes; saw = saw-prefix; fold = fold-prefix };
      as-calls = as-calls;
    }
