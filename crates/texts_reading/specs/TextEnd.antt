-- Document 01, "Where each number is given": the line row of a text that ends, by what the code keeps of it, and the rows after it that both texts share.
use Rattle.std.specs.Prelude.{ℕ, suc, ◌≡◌, Bool, not, List, eqb, Result, Ok, Err}
use Rattle.job.specs.Verdict.{Verdict, pass, refuse, ◌then◌, refuse_if}
use Rattle.job.specs.Job.{job_of, admission}
use Rattle.listing.specs.Listing.{model_row}
use Rattle.texts_reading.specs.declared.text.TextReader.{TextReader}
use Rattle.texts_reading.specs.declared.line_row.LineRefused.{LineRefused}
use Rattle.texts_reading.specs.Judged.{line_verdict}

-- the line row: the first line refused; else 1 for a last line without byte 10; else 1 for a missing line, unless the text is whole
unfoldable pub end_row : TextReader → Bool → Verdict
end_row t whole =
    line_verdict t.refusal (suc t.lines)
    then refuse_if (not (eqb t.pending.length 0)) 1 (suc t.lines)
    then refuse_if (not whole) 1 (suc t.lines)

-- what the line row says: it passes, or refuses
abbrev pub text_verdict : Result (Unit {0}) LineRefused → Verdict
text_verdict (Ok _) = pass
text_verdict (Err r) = refuse r.number r.place

-- a refusal names the line after those admitted
abbrev pub LineNamed : ℕ → Result (Unit {0}) LineRefused → Type 0
LineNamed lines (Ok _) = Unit {0}
LineNamed lines (Err r) = r.place ≡ suc lines

-- the job row and the model row of job words
abbrev pub job_model_row : List ℕ → Verdict
job_model_row ws = admission (job_of ws) then model_row (job_of ws)
