-- The line row of a text that ends: as the code finds it, and as the definition's reader says it.
use Prim.Native.Nat.{ℕ, zero, suc, ◌+◌}
use native.Mathlib.Omega.{arith}
use mathlib.Core.Path.{◌≡◌, refl, subst}
use mathlib.Core.Bool.{Bool, true, false, not}
use mathlib.Core.List.{List, [], ◌∷◌}
use lib.Dec.{eqb}
use lib.ListN.{length}
use borrow.Author.Tests.{eq-eqb, ne_eqb}
use Rattle.std.specs.Prelude.{Result, Err}
use Rattle.job.specs.Lists.{non_empty}
use Rattle.job.specs.Verdict.{pass, refuse}
use Rattle.texts.specs.Reader.{Grammar, Reader, text_row}
use Rattle.texts.specs.JobLines as definition
use Rattle.texts_reading.specs.declared.text.TextReader.{TextReader}
use Rattle.texts_reading.specs.declared.line_row.LineRefused.{LineRefused}
use Rattle.texts_reading.specs.Judged.{line_verdict}
use Rattle.texts_reading.specs.Standing.{TextKept}
use Rattle.texts_reading.specs.TextEnd.{end_row, LineNamed}

verdict-refuses : (n line : ℕ) → (n ≡ 0 → ⊥) → line_verdict n line ≡ refuse n line
verdict-refuses zero line h = absurd (h refl)
verdict-refuses (suc n) line h = refl

-- ---- as the code finds it

module _ (t : TextReader) (whole : Bool) where
  next : t.lines + 1 ≡ suc t.lines
  next = omega arith

  -- a line was refused
  pub end_refused : (t.refusal ≡ 0 → ⊥) → refuse t.refusal (t.lines + 1) ≡ end_row t whole
  unfolding end_row
  end_refused h = rw (verdict-refuses t.refusal (suc t.lines) h, next)

  module _ (passed : t.refusal ≡ 0) where
    -- the last line has no byte 10
    pub end-begun : (t.pending.length ≡ 0 → ⊥) → refuse 1 (t.lines + 1) ≡ end_row t whole
    unfolding end_row
    end-begun h = rw (passed, ne_eqb t.pending.length 0 h, next)

    module _ (ended : t.pending.length ≡ 0) where
      -- the text is whole
      pub end-passes : whole ≡ true → pass ≡ end_row t whole
      unfolding end_row
      end-passes h = rw (passed, eq-eqb t.pending.length 0 ended, h)

      -- a line is missing
      pub end-missing : whole ≡ false → refuse 1 (t.lines + 1) ≡ end_row t whole
      unfolding end_row
      end-missing h = rw (passed, eq-eqb t.pending.length 0 ended, h, next)

-- the line that a refusal names
pub line-named : {row : Result (Unit {0}) LineRefused} {r : LineRefused} (lines : ℕ) → row ≡ Err r → LineNamed lines row → r.place ≡ suc lines
line-named lines e h = subst (LineNamed lines) e h

-- ---- as the definition's reader says it

bytes-begun : (n : ℕ) (bs : List ℕ) → n ≡ length bs → not (eqb n 0) ≡ non_empty bs
bytes-begun n [] e = rw (eq-eqb n 0 e)
bytes-begun n (b ∷ bs) e = rw (ne_eqb n 0 (λ z. omega arith))

-- what is kept of a text says its line row
pub kept_row :
    {S : Type 0} (g : Grammar S) (place : S → definition.Place) (r : Reader S) (t : TextReader) (whole : Bool)
    → TextKept place r t
    → g.complete r.state ≡ whole
    → end_row t whole ≡ text_row g r
unfolding end_row text_row
kept_row g place r t whole k e =
    rw (k.verdict, bytes-begun t.pending.length r.pending k.begun.size, k.lines, e)
