-- Document 01, "Texts": the lines 3 of a saw text that stand whole in a part, one after another: what they make of the state and of the counts.
use Rattle.std.specs.Prelude.{ℕ, ◌≤◌, ◌≡◌, List, length, take}
use Rattle.job.specs.declared.counters.CutNumber.{CutNumber}
use Rattle.job.specs.declared.counters.PlateTypes.{PlateTypes}
use Rattle.job.specs.Sizes.{max_sizes, max_types, max_cuts, job_size}
use Rattle.saw_text_body.specs.declared.model.Model.TheVariants.{Listed}
use Rattle.texts.specs.Reader.{max_lines}
use Rattle.texts.specs.JobLines.{board_sizes, types_of}
use Rattle.texts_reading.specs.declared.text.Place.TheVariants.{Body}
use Rattle.saw_text_body.specs.declared.plan_lines.PlanLines.{PlanLines}
use Rattle.saw_text_lines.specs.SawKept.{lent}
use Rattle.saw_text_reader.specs.declared.body.Run.{Run}
use Rattle.saw_text_reader.specs.declared.saw.SawReader.{SawReader}
use Rattle.saw_text_reader.specs.Onward.{Onward}

-- a saw text in its body, where no line has begun or is refused, with these lines 3 and this number of lines
abbrev pub in_body : SawReader → PlanLines → ℕ → SawReader
in_body f plan lines =
    record {
      text = record { place = Body; lines = lines; refusal = 0; pending = f.text.pending };
      held = record { model = f.held.model; plan = plan; prices = f.held.prices };
    }

-- no line has begun, and the job is listed with k cuts
pub record ListedWith (f : SawReader) (k : CutNumber) : Type 0 where
  pub none-begun : f.text.pending.length ≡ 0
  pub plates : PlateTypes
  pub model_is : f.held.model ≡ Listed plates k

-- and the text stands in its body, where no line is refused
pub record InBody (f : SawReader) (k : CutNumber) : Type 0 where
  pub place_is : f.text.place ≡ Body
  pub goes : f.text.refusal ≡ 0
  pub listed : ListedWith f k
  pub few-cuts : k.0 ≤ max_cuts

-- the words of the job in a buffer are as many as its head says, of sizes and types within their limits
pub record WholeWords (job : List ℕ) (words : ℕ) : Type 0 where
  pub few-sizes : board_sizes job ≤ max_sizes
  pub few-types : types_of job ≤ max_types
  pub size : words ≡ job_size (board_sizes job) (types_of job)

-- lines 3 of a part from `from` on, by the words ws of the job and its k cuts: the lines of the text stay within their number, the counts keep their length,
-- and every state in the body goes on as the definition's reader does
pub record Ran (part : List ℕ) (from : ℕ) (ws plates cuts : List ℕ) (k : CutNumber) (first : PlanLines) (before : ℕ) (counts : List ℕ) (r : Run) (counts' : List ℕ) : Type 0 where
  pub few : r.lines ≤ max_lines
  pub on : from ≤ r.at
  pub within : r.at ≤ length part
  pub long : length counts' ≡ length counts
  pub onward :
      (f : SawReader) (job prices : List ℕ)
      → ListedWith f k
      → take (job_size (board_sizes job) (types_of job)) job ≡ ws
      → Onward part from (in_body f first before) (lent job plates cuts counts prices) r.at (in_body f r.plan r.lines) (lent job plates cuts counts' prices)
