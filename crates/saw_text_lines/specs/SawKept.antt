-- Document 01, "Texts": what is kept of a saw text so far, in a state and in lent buffers; it fixes every word of them.
use Rattle.std.specs.Prelude.{Result, Ok, Err, ℕ, suc, ◌+◌, ◌-◌, ◌≤◌, ◌<◌, ◌≡◌, Bool, true, false, ◌&&◌, List, [], leb, ltb, length}
use Rattle.std.proofs.Math.Option.{Option, none, some}
use Rattle.job.specs.Sizes.{max_sizes, max_types, max_residuals, words_before, job_size, word_of_type, longest_job, plates_size, cuts_size, counts_size, prices_size}
use Rattle.job.specs.Verdict.{within}
use Rattle.job.specs.declared.refused.Refusal.{Refusal}
use Rattle.job.specs.Refused.{number_of}
use Rattle.job.specs.Job.{job_of}
use Rattle.listing.specs.Listing.{listing_of}
use Rattle.listing.specs.Holds.{Holds}
use Rattle.saw_text_body.specs.declared.model.Model.{Model}
use Rattle.saw_text_body.specs.declared.model.Model.TheVariants.{Listed, Refused}
use Rattle.texts.specs.JobLines.{Place, first, sizes, types, body, item_prices, plate_prices, done, board_sizes, types_of, body_line}
use Rattle.texts.specs.Shape.{numbers_row}
use Rattle.texts.specs.SawText.{Counted, PriceLines, Saw, saw_admits, saw_after}
use Rattle.texts_reading.specs.declared.text.Place.{Place as CodePlace}
use Rattle.texts_reading.specs.declared.text.Place.TheVariants.{First, Sizes, Types, Body, ItemPrices, PlatePrices}
use Rattle.texts_reading.specs.declared.text.Place.TheVariants.{Done as AllDone}
use Rattle.texts_reading.specs.Judged.{line_verdict}
use Rattle.texts_reading.specs.Standing.{place_of}
use Rattle.saw_text_body.specs.declared.plan_lines.PlanLines.{PlanLines}
use Rattle.saw_text_body.specs.declared.price_lines.PriceLines.{PriceLines as CodePrices}
use Rattle.saw_text_body.specs.PlanRead.{PlanKept}
use Rattle.saw_text_body.specs.ModelRead.{ModelKept}
use Rattle.saw_text_lines.specs.declared.held.SawHeld.{SawHeld}
use Rattle.saw_text_lines.specs.declared.held.Taken.{Taken}

-- the lent buffers
pub record Lent : Type 0 where
  pub job : List ℕ
  pub plates : List ℕ
  pub cuts : List ℕ
  pub counts : List ℕ
  pub prices : List ℕ

abbrev pub lent : List ℕ → List ℕ → List ℕ → List ℕ → List ℕ → Lent
lent job plates cuts counts prices = record { job = job; plates = plates; cuts = cuts; counts = counts; prices = prices }

-- each has its full size
pub record Room (b : Lent) : Type 0 where
  pub for-job : longest_job ≤ length b.job
  pub for-plates : plates_size ≤ length b.plates
  pub for-cuts : cuts_size ≤ length b.cuts
  pub for-counts : counts_size ≤ length b.counts
  pub for-prices : prices_size ≤ length b.prices

-- the numbers of sizes and of types that the job's words give are within their limits
pub record FewSizes (ws : List ℕ) : Type 0 where
  pub some-type : 1 ≤ types_of ws
  pub few-types : types_of ws ≤ max_types
  pub few-sizes : board_sizes ws ≤ max_sizes

-- the job's words, all of them
pub record WholeJob (ws : List ℕ) : Type 0 where
  pub head : FewSizes ws
  pub size : length ws ≡ job_size (board_sizes ws) (types_of ws)

-- those before line 10 of size j
pub record SizesTo (j : ℕ) (ws : List ℕ) : Type 0 where
  pub head : FewSizes ws
  pub to : j < board_sizes ws
  pub size : length ws ≡ words_before j

-- those before line 2 of type i
pub record JobTo (i : ℕ) (ws : List ℕ) : Type 0 where
  pub head : FewSizes ws
  pub from : 1 ≤ i
  pub to : i ≤ types_of ws
  pub size : length ws ≡ word_of_type (board_sizes ws) i

-- no line 3 yet
pub record NoPlan (p : PlanLines) : Type 0 where
  pub unnamed : p.unnamed ≡ 0
  pub misshown : p.misshown ≡ 0
  pub fallen : p.fallen ≡ 0
  pub last : p.last.0 ≡ 0

-- before the body: the job is not listed, and there are no lines 3
pub record Unlisted (h : SawHeld) (rs : List Counted) (b : Lent) : Type 0 where
  pub model : h.model ≡ Refused 1 0
  pub plates : Holds b.plates []
  pub cuts : Holds b.cuts []
  pub no-plan : NoPlan h.plan
  pub counts : Holds b.counts []
  pub no_lines : rs ≡ []

-- from the body on: the lines 3, where the job is listed; where it is refused they are passed over
abbrev pub PlanHeld : List ℕ → Model → List Counted → PlanLines → List ℕ → Type 0
PlanHeld ws (Listed m k) rs p counts = PlanKept (listing_of (job_of ws)) (body_line ws) rs p counts
PlanHeld ws (Refused number place) rs p counts = NoPlan p × Holds counts []

pub record ListedJob (h : SawHeld) (ws : List ℕ) (rs : List Counted) (b : Lent) : Type 0 where
  pub whole : WholeJob ws
  pub model : ModelKept ws h.model b.plates b.cuts
  pub plan : PlanHeld ws h.model rs h.plan b.counts

-- the job and the lines 3, by what comes next
abbrev pub JobHeld : Place → SawHeld → List ℕ → List Counted → Lent → Type 0
JobHeld first h ws rs b = (ws ≡ []) × Unlisted h rs b
JobHeld (sizes j) h ws rs b = SizesTo j ws × Unlisted h rs b
JobHeld (types i) h ws rs b = JobTo i ws × Unlisted h rs b
JobHeld body h ws rs b = ListedJob h ws rs b
JobHeld (item_prices i) h ws rs b = ListedJob h ws rs b
JobHeld (plate_prices j) h ws rs b = ListedJob h ws rs b
JobHeld done h ws rs b = ListedJob h ws rs b

-- no line 4 yet
pub record NoPrices (o : Option PriceLines) (p : CodePrices) (buffer : List ℕ) : Type 0 where
  pub none_is : o ≡ none
  pub given : p.given ≡ false
  pub types : p.types.0 ≡ 0
  pub residuals : p.residuals ≡ 0
  pub words : Holds buffer []

-- lines 4, 5 and 6 so far, with n price words
pub record PricesTo (n : ℕ) (o : Option PriceLines) (p : CodePrices) (buffer : List ℕ) : Type 0 where
  pub lines : PriceLines
  pub some_is : o ≡ some lines
  pub given : p.given ≡ true
  pub types : p.types.0 ≡ lines.types
  pub residuals : p.residuals ≡ lines.residuals
  pub few-types : lines.types ≤ max_types
  pub few-residuals : lines.residuals ≤ max_residuals
  pub words : Holds buffer lines.words
  pub size : length lines.words ≡ n

-- the prices, by what comes next, of a job of t sizes
abbrev pub PricesHeld : ℕ → Place → Option PriceLines → CodePrices → List ℕ → Type 0
PricesHeld t first o p buffer = NoPrices o p buffer
PricesHeld t (sizes j) o p buffer = NoPrices o p buffer
PricesHeld t (types i) o p buffer = NoPrices o p buffer
PricesHeld t body o p buffer = NoPrices o p buffer
PricesHeld t (item_prices i) o p buffer = (1 ≤ i) × ((i ≤ p.types.0) × PricesTo i o p buffer)
PricesHeld t (plate_prices j) o p buffer = (t ≤ j) × ((j < t + p.residuals) × PricesTo (p.types.0 + 1 + (j - t)) o p buffer)
PricesHeld t done o p buffer = PricesTo (1 + p.types.0 + p.residuals) o p buffer

-- the number of lines: line 1, a line 10 for each size before, a line 2 for each type before, and in the body a line 3 after another
abbrev pub LinesHeld : Place → List ℕ → List Counted → ℕ → Type 0
LinesHeld first ws rs lines = lines ≡ 0
LinesHeld (sizes j) ws rs lines = suc j ≡ lines
LinesHeld (types i) ws rs lines = board_sizes ws + i ≡ lines
LinesHeld body ws rs lines = body_line ws + length rs ≡ suc lines
LinesHeld (item_prices i) ws rs lines = Unit {0}
LinesHeld (plate_prices j) ws rs lines = Unit {0}
LinesHeld done ws rs lines = Unit {0}

-- what is kept of a saw text after some lines, beside where it stands
pub record HeldAs (s : Saw) (lines : ℕ) (h : SawHeld) (b : Lent) : Type 0 where
  pub words : Holds b.job s.job
  pub of-job : JobHeld s.place h s.job s.plan b
  pub of-prices : PricesHeld (board_sizes s.job) s.place s.prices h.prices b.prices
  pub of-lines : LinesHeld s.place s.job s.plan lines

-- j is the number of a residual type, of t sizes, where line 4's n is n
unfoldable pub plate_sound : ℕ → ℕ → ℕ → Bool
plate_sound t n j = leb t max_sizes && leb t j && ltb (j - t) max_residuals && leb n max_types

-- the running number of what comes next is within its limits, where the job has t sizes and line 4's n is n
abbrev pub place_sound : CodePlace → ℕ → ℕ → Bool
place_sound First t n = true
place_sound (Sizes j) t n = ltb j.0 max_sizes
place_sound (Types i) t n = within 1 max_types i.0 && leb t max_sizes
place_sound Body t n = true
place_sound (ItemPrices i) t n = leb i.0 max_types
place_sound (PlatePrices j) t n = plate_sound t n j.0
place_sound AllDone t n = true

-- the number of the refusal of a line, 0 where there is none
abbrev pub taken_said : Result Taken Refusal → ℕ
taken_said (Ok t) = 0
taken_said (Err r) = number_of r

-- what is then kept: of a line that is admitted what it makes of the text, with what comes next; after a refusal all is as it was
abbrev pub TakenTo : Saw → ℕ → List ℕ → SawHeld → Lent → Result Taken Refusal → Type 0
TakenTo s lines ns h b (Ok t) = (place_of t.place ≡ (saw_after s ns).place) × HeldAs (saw_after s ns) (suc lines) t.held b
TakenTo s lines ns h b (Err r) = HeldAs s lines h b

-- what the next line, with the numbers ns, makes of a text of which h is kept
pub record TakenAs (s : Saw) (lines : ℕ) (ns : List ℕ) (h : SawHeld) (t : Result Taken Refusal) (b : Lent) : Type 0 where
  pub row : line_verdict (taken_said t) (suc lines) ≡ numbers_row (suc lines) (saw_admits s) ns
  pub to : TakenTo s lines ns h b t
