-- As many parts as the programs read decide the answer.
use Rattle.std.proofs.Common.{◌≡◌, ℕ, ◌*◌, ◌<◌, List, ◌++◌, arith, length, take, sym, ap, ◌∙◌}
use lib.Seq.{take-append_seam}
use Rattle.texts.specs.SawText.{saw_text}
use Rattle.texts.specs.FoldText.{fold_text}
use Rattle.texts.specs.TextLaws.{longest_saw_text, longest_fold_text}
use Rattle.texts.proofs.LongTexts.{saw-prefix, fold-prefix}
use Rattle.programs.specs.Program.{part_size, most_parts, PartsDecide, Enough}

-- where a longer prefix than the longest text decides, so do the parts
parts-decide :
    (answer : List ℕ → List ℕ) (longest : ℕ)
    → ((n : ℕ) (bs : List ℕ) → longest < n → answer (take n bs) ≡ answer bs)
    → longest < part_size * most_parts longest
    → PartsDecide answer longest
parts-decide answer longest prefix more =
    record {
      more = more;
      decided = λ text h rest.
          sym (prefix (length text) (text ++ rest) (omega arith)) ∙ ap answer (take-append_seam text rest);
    }

pub enough : Enough
enough =
    record {
      saw = parts-decide saw_text longest_saw_text saw-prefix (omega arith);
      fold = parts-decide fold_text longest_fold_text fold-prefix (omega arith);
    }
