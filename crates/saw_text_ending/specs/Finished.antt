-- Document 01, "Texts": what the end of a saw text leaves, in the output and in the lent placements.
use Rattle.std.specs.Prelude.{ℕ, ◌≡◌, List, length}
use Rattle.job.specs.Verdict.{◌then◌}
use Rattle.columns.specs.Group.{put}
use Rattle.texts.specs.Reader.{Reader, text_row}
use Rattle.texts.specs.SawText.{Saw, saw_grammar, saw_rows, saw_written}
use Rattle.saw_text_ending.specs.SawEnd.{placed_end}

-- the answer to the text stands at the start of the output, and its bytes are counted; the placements are those of its plan, or zeros
pub record Finished (r : Reader Saw) (out placements : List ℕ) (n : ℕ) (out' placements' : List ℕ) : Type 0 where
  pub size : n ≡ length (saw_written r)
  pub output : out' ≡ put out 0 (saw_written r)
  pub placed : placements' ≡ placed_end (text_row saw_grammar r then saw_rows r.state) r.state placements
