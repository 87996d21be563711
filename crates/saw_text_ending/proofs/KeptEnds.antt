-- What the reader of a saw text keeps, where the text ends: the job's words, the lines 3 and the prices that its last rows need.
use Prim.Native.Nat.{ℕ, ◌+◌}
use native.Mathlib.Omega.{arith}
use mathlib.Core.Path.{◌≡◌, ap, ◌∙◌, subst}
use mathlib.Core.Bool.{Bool}
use mathlib.Core.List.{List}
use mathlib.Core.Option.{Option, none, some}
use Rattle.job.specs.Verdict.{Verdict, pass, ◌then◌}
use Rattle.listing.specs.Holds.{Holds}
use Rattle.texts.specs.JobLines.{Place, board_sizes}
use Rattle.texts.specs.Reader.{Reader, started, fed, text_row}
use Rattle.texts.specs.SawText.{Counted, PriceLines, Saw, saw_complete, saw_grammar, saw_rows, saw_written}
use Rattle.texts.specs.Held.{PricesHeld as PricesWhole}
use Rattle.texts.proofs.SawTexts.{saw-both-ways}
use Rattle.texts_reading.specs.declared.text.TextReader.{TextReader}
use Rattle.texts_reading.specs.Standing.{place_of, TextKept}
use Rattle.texts_reading.specs.TextEnd.{end_row}
use Rattle.texts_reading.proofs.CodeEnd.{kept_row}
use Rattle.saw_text_body.specs.declared.price_lines.PriceLines.{PriceLines as CodePrices}
use Rattle.saw_text_lines.specs.declared.held.SawHeld.{SawHeld}
use Rattle.saw_text_reader.specs.declared.saw.SawReader.{SawReader}
use Rattle.saw_text_lines.specs.SawKept.{Lent, ListedJob, JobHeld, PricesTo, PricesHeld}
use Rattle.saw_text_reader.specs.Parts.{After}
use Rattle.saw_text_rows.specs.Tail.{PricesEnd}
use Rattle.saw_text_ending.specs.SawEnd.{WholeKept, TextEnds, Answered}
use Rattle.saw_text_ending.specs.Finished.{Finished}

-- the line row, as the code finds it
pub row-says :
    (r : Reader Saw) (t : TextReader) (whole : Bool) {v : Verdict}
    → TextKept (λ s. s.place) r t
    → ((s : Saw) → place_of t.place ≡ s.place → saw_complete s ≡ whole)
    → v ≡ end_row t whole
    → v ≡ text_row saw_grammar r
row-says r t whole k complete e = e ∙ kept_row saw_grammar (λ s. s.place) r t whole k (complete r.state k.stands)

-- a text ends in its body or after its prices, where the job is listed
job-listed :
    (place : Place) (o : Option PriceLines) (h : SawHeld) (ws : List ℕ) (rs : List Counted) (b : Lent)
    → PricesWhole place o
    → JobHeld place h ws rs b
    → ListedJob h ws rs b
job-listed place none h ws rs b e j = subst (λ (p : Place). JobHeld p h ws rs b) e j
job-listed place (some ps) h ws rs b e j = subst (λ (p : Place). JobHeld p h ws rs b) e.0 j

-- its prices are whole
prices-end :
    (t : ℕ) (place : Place) (o : Option PriceLines) (p : CodePrices) (buffer : List ℕ)
    → PricesWhole place o
    → PricesHeld t place o p buffer
    → PricesEnd o p buffer
prices-end t place none p buffer e h = (subst (λ (q : Place). PricesHeld t q none p buffer) e h).given
prices-end t place (some ps) p buffer e h =
    let q : PricesTo (1 + p.types.0 + p.residuals) (some ps) p buffer = subst (λ (x : Place). PricesHeld t x (some ps) p buffer) e.0 h in
    let i = q.some_is in
    let l : q.lines ≡ ps = cc in (
      q.given,
      record {
        types = q.types ∙ ap (λ (x : PriceLines). x.types) l;
        residuals = q.residuals ∙ ap (λ (x : PriceLines). x.residuals) l;
        words = subst (λ (x : PriceLines). Holds buffer x.words) l q.words;
        size = e.1.size;
        passed = e.1.words;
      },
    )

module _ (f : SawReader) (b : Lent) (bs : List ℕ) (k : After bs f b) where
  abbrev r : Reader Saw
  r = fed saw_grammar (started saw_grammar) bs

  -- a text that passes the line row holds words that pass their own rows
  whole : text_row saw_grammar r ≡ pass → WholeKept r.state f.held b
  whole h =
      let s : Saw = r.state in
      let t = (saw-both-ways.read bs h).0 in
      let j = job-listed s.place s.prices f.held s.job s.plan b t.prices k.held.of-job in
      record {
        words = k.held.words;
        passed = t.job;
        model = j.model;
        plan = j.plan;
        prices = prices-end (board_sizes s.job) s.place s.prices f.held.prices b.prices t.prices k.held.of-prices;
      }

  pub text-ends : TextEnds r f.text f.held b
  text-ends =
      record { room = k.ready.room; stands = k.text; few = omega (arith, k.text.lines, k.ready.text.few); whole = whole }

-- the answer is what the definition writes
pub finished :
    (r : Reader Saw) {out placements out' placements' : List ℕ} {n : ℕ}
    → Answered (text_row saw_grammar r then saw_rows r.state) r.state out placements n out' placements'
    → Finished r out placements n out' placements'
unfolding saw_written
finished r a = record { size = omega (arith, a.wrote.end-at); output = a.wrote.bytes-put; placed = a.placed }
