-- Document 01, "Texts": a text read byte by byte, line by line, to its end or to the first line that is refused.
use Rattle.std.specs.Prelude.{ℕ, suc, Bool, true, false, not, List, [], ◌∷◌, ◌++◌, ltb, eqb, length}
use Rattle.std.proofs.Math.Option.{Option, none, some}
use Rattle.job.specs.Lists.{non_empty}
use Rattle.job.specs.Verdict.{Verdict, pass, refuse, ◌then◌, refuse_if}
use Rattle.columns.specs.Line.{line_of, read_line}
use Rattle.texts.specs.Widths.{placement_line_bytes}
use Rattle.texts.specs.Shape.{Shape, line_row}

-- "a text's 100,000th line is 1, whatever it holds": at most 99,999 lines are admitted
abbrev pub max_lines : ℕ
max_lines = 99999

-- the bytes of the longest line, one of kind 7
abbrev pub longest_line : ℕ
longest_line = placement_line_bytes

-- how a kind of text goes on: where it starts, which lines are admitted, what an admitted line makes of where it stands, and whether the text may end there
pub record Grammar (S : Type 0) : Type 0 where
  pub start : S
  pub admits : S → List Shape
  pub after : S → List ℕ → S
  pub complete : S → Bool

-- a text so far: where it stands, the number of lines admitted, the bytes of the line that has begun, and the first line refused
pub record Reader (S : Type 0) : Type 0 where
  pub state : S
  pub lines : ℕ
  pub pending : List ℕ
  pub verdict : Verdict

module _ {S : Type 0} (g : Grammar S) where
  -- nothing read yet
  abbrev pub started : Reader S
  started = record { state = g.start; lines = 0; pending = []; verdict = pass }

  -- a text that is refused stays so, whatever follows
  abbrev pub refused_as : Reader S → Verdict → Reader S
  refused_as r v = record { state = r.state; lines = r.lines; pending = []; verdict = v }

  -- a line is whole: it is admitted, or the text is refused
  unfoldable pub line_read : Reader S → Option (List ℕ) → Reader S
  line_read r none = refused_as r (refuse 1 (suc r.lines))
  line_read r (some ns) =
      elim (line_row (suc r.lines) (g.admits r.state) (some ns)) [
        | pass ↦ record { state = g.after r.state ns; lines = suc r.lines; pending = []; verdict = pass }
        | refuse number line ↦ refused_as r (refuse number line)
      ]

  -- one more byte of the line that has begun: byte 10 ends it; longer than any kind it is of no form
  unfoldable pub byte_taken : Reader S → ℕ → List ℕ → Reader S
  byte_taken r b bs =
      elim (eqb b 10) [
        | true ↦ line_read r (read_line bs)
        | false ↦
            elim (ltb (length bs) longest_line) [
              | true ↦ record { state = r.state; lines = r.lines; pending = bs; verdict = pass }
              | false ↦ refused_as r (refuse 1 (suc r.lines))
            ]
      ]

  -- one more byte of the text
  unfoldable pub byte_read : Reader S → ℕ → Reader S
  byte_read r b =
      elim r.verdict [
        | refuse number line ↦ r
        | pass ↦
            elim (ltb r.lines max_lines) [
              | false ↦ refused_as r (refuse 1 (suc r.lines))
              | true ↦ byte_taken r b (r.pending ++ (b ∷ []))
            ]
      ]

  -- a part of the text
  unfoldable pub fed : Reader S → List ℕ → Reader S
  fed r [] = r
  fed r (b ∷ bs) = fed (byte_read r b) bs

  -- the line row of the whole text: the first line refused; else 1 for a last line without byte 10; else 1 for a missing line, "one past the last"
  unfoldable pub text_row : Reader S → Verdict
  text_row r =
      r.verdict
      then refuse_if (non_empty r.pending) 1 (suc r.lines)
      then refuse_if (not (g.complete r.state)) 1 (suc r.lines)

-- the output of a program: its lines, or one line 9 alone, "refusal, place"
unfoldable pub written : Verdict → List ℕ → List ℕ
written v lines = elim v [ pass ↦ lines | refuse number place ↦ line_of (9 ∷ number ∷ place ∷ []) ]
