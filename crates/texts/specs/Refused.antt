-- Document 01, "Where each number is given": the verdict on a text, the numbers that refuse one, the places that they name, and line 9 read back.
use Rattle.std.specs.Prelude.{ℕ, suc, ◌-◌, ◌≤◌, ◌≡◌, List, [], ◌∷◌, get_or}
use Rattle.std.proofs.Math.Option.{some}
use Rattle.job.specs.Sizes.{max_types, max_residuals, max_cuts}
use Rattle.job.specs.Verdict.{Verdict, refuse, ◌then◌}
use Rattle.columns.specs.Line.{Fit}
use Rattle.texts.specs.Reader.{max_lines, started, fed, text_row}
use Rattle.texts.specs.SawText.{saw_grammar, saw_rows, saw_text}
use Rattle.texts.specs.FoldText.{Fold, fold_grammar, fold_rows, fold_text}
use Rattle.texts.specs.Printed.{lines_in, saw_holds}

-- what a fold text holds
abbrev pub fold_holds : List ℕ → Fold
fold_holds bs = (fed fold_grammar (started fold_grammar) bs).state

-- the verdict on a text: its line row, then the rows after it
abbrev pub verdict_on_saw : List ℕ → Verdict
verdict_on_saw bs = text_row saw_grammar (fed saw_grammar (started saw_grammar) bs) then saw_rows (saw_holds bs)

abbrev pub verdict_on_fold : List ℕ → Verdict
verdict_on_fold bs = text_row fold_grammar (fed fold_grammar (started fold_grammar) bs) then fold_rows (fold_holds bs)

-- what a refusal names: a line of the text, an item type, a residual type, a cut, or nothing
pub data Names : Type 0 where
  line type residual cut nothing : Names

-- the lowest and the highest place of each; "a text's 100,000th line" is the last that is named
abbrev pub first_of : Names → ℕ
first_of line = 1
first_of type = 1
first_of residual = 1
first_of cut = 1
first_of nothing = 0

abbrev pub last_of : Names → ℕ
last_of line = suc max_lines
last_of type = max_types
last_of residual = max_residuals
last_of cut = max_cuts
last_of nothing = 0

-- the column "Place named", for texts, by number: 1 and 2 a line, 3 a type, 4 to 7 nothing, 8 and 9 a line, 10 nothing, 11 a type, 12 a residual type by its plate number,
-- 13 nothing, 14 a cut, 15 to 18 a line, and so request One's 19 and request Five's 20; 5 is about lent buffers and refuses no text
abbrev pub places_named : List Names
places_named =
    line
    ∷ line
    ∷ type
    ∷ nothing
    ∷ nothing
    ∷ nothing
    ∷ nothing
    ∷ line
    ∷ line
    ∷ nothing
    ∷ type
    ∷ residual
    ∷ nothing
    ∷ cut
    ∷ line
    ∷ line
    ∷ line
    ∷ line
    ∷ line
    ∷ line
    ∷ []

-- what number n names
abbrev pub named_by : ℕ → Names
named_by n = get_or places_named (n - 1) nothing

-- number n and place p stand in the table: n is 1 to 20 but not 5, and p is a place of what n names
pub record InTable (n p : ℕ) : Type 0 where
  pub low : 1 ≤ n
  pub high : n ≤ 20
  pub not_five : n ≡ 5 → ⊥
  pub from : first_of (named_by n) ≤ p
  pub to : p ≤ last_of (named_by n)

-- the answer to a text that is refused
pub record RefusedBack : Type 0 where
  -- its number and its place stand in the table
  pub saw-table : (bs : List ℕ) (n p : ℕ) → verdict_on_saw bs ≡ refuse n p → InTable n p
  pub fold-table : (bs : List ℕ) (n p : ℕ) → verdict_on_fold bs ≡ refuse n p → InTable n p
  -- so they fit nine columns each
  pub fits : (n p : ℕ) → InTable n p → Fit (9 ∷ n ∷ p ∷ [])
  -- it is "one line 9 alone", from which both are read back
  pub saw-line : (bs : List ℕ) (n p : ℕ) → verdict_on_saw bs ≡ refuse n p → lines_in (saw_text bs) ≡ some ((9 ∷ n ∷ p ∷ []) ∷ [])
  pub fold_line : (bs : List ℕ) (n p : ℕ) → verdict_on_fold bs ≡ refuse n p → lines_in (fold_text bs) ≡ some ((9 ∷ n ∷ p ∷ []) ∷ [])
