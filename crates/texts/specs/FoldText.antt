-- Document 01, "Texts", with the sizes of request Six: the fold text, kinds 1, 10, 2 and 7, and what the fold program writes, "lines of kind 3, or one line 9 alone".
use Rattle.std.specs.Prelude.{ℕ, Bool, true, false, List, [], ◌∷◌, ◌++◌, eqb, drop}
use Rattle.job.specs.Verdict.{Verdict, ◌then◌}
use Rattle.job.specs.Job.{type_of, turn_of, job_of, admission}
use Rattle.listing.specs.declared.plate.Plate.{Plate}
use Rattle.listing.specs.Listing.{Cut, plate_at, model_row, listing_of}
use Rattle.layouts.specs.Lines.{rows_of, set_of}
use Rattle.layouts.specs.LayoutsRow.{layouts_row}
use Rattle.layouts.specs.Fold.{folded}
use Rattle.columns.specs.Line.{line_of}
use Rattle.texts.specs.Shape.{Shape, job_line, size_line, item_line, layout_line}
use Rattle.texts.specs.Reader.{Grammar, Reader, started, fed, text_row, written}
use Rattle.texts.specs.JobLines.{Place, first, sizes, types, body, item_prices, plate_prices, done, board_sizes, types_of, after_size, after_type, body_line}

-- a fold text so far: what comes next, the job's words, the layout words
pub record Fold : Type 0 where
  pub place : Place
  pub job : List ℕ
  pub layouts : List ℕ

-- a fold text by its parts
abbrev pub fold_of : Place → List ℕ → List ℕ → Fold
fold_of place ws us = record { place = place; job = ws; layouts = us }

-- which lines are admitted
unfoldable pub fold_admits : Fold → List Shape
fold_admits f =
    elim f.place [
      | first ↦ job_line ∷ []
      | sizes j ↦ size_line j ∷ []
      | types i ↦ item_line i ∷ []
      | body ↦ layout_line f.job ∷ []
      | item_prices i ↦ []
      | plate_prices j ↦ []
      | done ↦ []
    ]

-- what an admitted line makes of the text; `ns` are its numbers, the kind first
unfoldable pub fold_after : Fold → List ℕ → Fold
fold_after f ns =
    elim f.place [
      | first ↦ record { place = sizes 0; job = drop 1 ns; layouts = [] }
      | sizes j ↦ record { place = after_size (board_sizes f.job) j; job = f.job ++ drop 2 ns; layouts = [] }
      | types i ↦ record { place = after_type (types_of f.job) i; job = f.job ++ drop 2 ns; layouts = [] }
      | body ↦ record { place = body; job = f.job; layouts = f.layouts ++ drop 1 ns }
      | item_prices i ↦ f
      | plate_prices j ↦ f
      | done ↦ f
    ]

-- the text may end in its body
unfoldable pub fold_complete : Fold → Bool
fold_complete f =
    elim f.place [
      | first ↦ false
      | sizes j ↦ false
      | types i ↦ false
      | body ↦ true
      | item_prices i ↦ false
      | plate_prices j ↦ false
      | done ↦ false
    ]

abbrev pub fold_grammar : Grammar Fold
fold_grammar =
    record {
      start = record { place = first; job = []; layouts = [] };
      admits = fold_admits;
      after = fold_after;
      complete = fold_complete;
    }

-- the rows after the line row: job, model, layouts
unfoldable pub fold_rows : Fold → Verdict
fold_rows f =
    let job = job_of f.job in
    admission job
    then model_row job
    then layouts_row (body_line f.job) job (rows_of f.layouts)

-- the numbers of line 3 of a cut on plate type p that is counted n times: plate, item, count, width, height, stage (request Five), turn
abbrev pub count_row : Plate → Cut → ℕ → List ℕ
count_row p c n = 3 ∷ c.plate ∷ type_of c.item ∷ n ∷ p.width ∷ p.height ∷ p.stage ∷ turn_of c.item ∷ []

-- a line 3 for each cut that is counted, where `plates` gives the plate type of a number
unfoldable pub count_lines : (ℕ → Plate) → List Cut → List ℕ → List ℕ
count_lines plates [] ns = []
count_lines plates (c ∷ cs) [] = []
count_lines plates (c ∷ cs) (n ∷ ns) =
    elim (eqb n 0) [
      | true ↦ count_lines plates cs ns
      | false ↦ line_of (count_row (plates c.plate) c n) ++ count_lines plates cs ns
    ]

-- what the fold program writes of layouts that fold
unfoldable pub fold_lines : Fold → List ℕ
fold_lines f =
    let job = job_of f.job in
    let l = listing_of job in
    count_lines (plate_at l) l.cuts (folded job l (set_of f.layouts))

-- the answer to a fold text so far, if it ends here
unfoldable pub fold_written : Reader Fold → List ℕ
fold_written r = written (text_row fold_grammar r then fold_rows r.state) (fold_lines r.state)

-- the fold text, from bytes to bytes
unfoldable pub fold_text : List ℕ → List ℕ
fold_text bs = fold_written (fed fold_grammar (started fold_grammar) bs)
