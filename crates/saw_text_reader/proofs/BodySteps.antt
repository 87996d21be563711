-- The lines 3 that stand whole in a part: each is taken by the definition's reader as by the code, and one after another they make a run.
use Prim.Native.Nat.{ℕ, ◌+◌, ◌*◌, ◌≤◌, ◌<◌}
use native.Mathlib.Omega.{arith}
use mathlib.Core.Path.{◌≡◌, refl, sym, ap, subst, ◌∙◌}
use mathlib.Core.List.{List, [], ◌∷◌, ◌++◌}
use lib.ListN.{length, get_or, take, drop, length-append, length-drop}
use Rattle.job.specs.declared.counters.CutNumber.{CutNumber}
use Rattle.job.specs.declared.counters.PlateTypes.{PlateTypes}
use Rattle.job.specs.Sizes.{job_size}
use Rattle.saw_text_body.specs.declared.model.Model.TheVariants.{Listed}
use Rattle.std.specs.Prelude.{Some, Ok}
use Rattle.columns.specs.Widths.{group_bytes, most_numbers}
use Rattle.columns.specs.Line.{CompleteAs}
use Rattle.columns.proofs.LineLaws.{line-fits, line-numbers}
use Rattle.texts.specs.Shape.{plan_line, numbers_row}
use Rattle.texts.specs.Reader.{Reader, max_lines}
use Rattle.texts.specs.JobLines.{body, board_sizes, types_of, body_line}
use Rattle.texts.specs.SawText.{Counted, Saw, counted_in}
use Rattle.texts_reading.specs.declared.text.Place.TheVariants.{Body}
use Rattle.texts_reading.specs.Judged.{line_verdict}
use Rattle.texts_reading.proofs.LineWithin.{within}
use Rattle.saw_text_body.specs.declared.plan_lines.PlanLines.{PlanLines}
use Rattle.saw_text_body.specs.ModelRead.{ModelKept}
use Rattle.saw_text_body.proofs.BodyRows.{plan-judged}
use Rattle.saw_text_lines.specs.declared.held.SawHeld.{SawHeld}
use Rattle.saw_text_lines.specs.SawKept.{Lent, lent, PlanHeld, TakenAs}
use Rattle.saw_text_lines.proofs.TakeLaws.{body-words, plan-taken}
use Rattle.saw_text_reader.specs.declared.body.Run.{Run}
use Rattle.saw_text_reader.specs.declared.saw.SawReader.{SawReader}
use Rattle.saw_text_reader.specs.SawFed.{SawKept}
use Rattle.saw_text_reader.specs.Onward.{Onward, ReadOn}
use Rattle.saw_text_reader.specs.BodyRun.{in_body, ListedWith, InBody, WholeWords, Ran}
use Rattle.saw_text_reader.proofs.WholeSteps.{onward_then, line-onward}

-- what the code knows of a line 3 of g numbers at `at`: it is of the form, admitted by the words ws of the job, and counted by the k cuts
pub record Line (part ws plates cuts : List ℕ) (k : CutNumber) (at lines : ℕ) (plan : PlanLines) (counts : List ℕ) (g : ℕ) (plan' : PlanLines) (counts' : List ℕ) : Type 0 where
  pub few : lines < max_lines
  pub long : length counts' ≡ length counts
  pub was : List ℕ
  pub numbers : List ℕ
  pub ten : length was ≡ most_numbers
  pub complete : CompleteAs (drop at part) was numbers (Some g)
  pub refusal : ℕ
  pub admitted : refusal ≡ 0
  pub judged : (line : ℕ) → line_verdict refusal line ≡ numbers_row line (plan_line ws ∷ []) (take g numbers)
  pub more :
      (m : PlateTypes) (vs : List ℕ) (rs : List Counted)
      → ModelKept vs (Listed m k) plates cuts
      → body_line vs + length rs ≡ lines + 1
      → PlanHeld vs (Listed m k) rs plan counts
      → PlanHeld vs (Listed m k) (rs ++ counted_in (take g numbers) ∷ []) plan' counts'

module _
    (part ws plates cuts : List ℕ) (k : CutNumber) (at lines : ℕ) (plan : PlanLines) (counts : List ℕ) (g : ℕ) (plan' : PlanLines) (counts' : List ℕ)
    (l : Line part ws plates cuts k at lines plan counts g plan' counts')
    (f : SawReader) (job prices : List ℕ) (listed : ListedWith f k) (words : take (job_size (board_sizes job) (types_of job)) job ≡ ws)
  where
    -- what is held, and the buffers before the line
    abbrev held : SawHeld
    held = (in_body f plan lines).held

    abbrev buffers : Lent
    buffers = lent job plates cuts counts prices

    -- the numbers of the line, and what it makes of what is held
    abbrev ns : List ℕ
    ns = take g l.numbers

    abbrev held' : SawHeld
    held' = (in_body f plan' (lines + 1)).held

    -- a line of kind 3
    kind : get_or ns 0 0 ≡ 3
    kind = (plan-judged l.refusal ns l.admitted ws l.judged).kind

    -- its numbers are taken as the code takes them
    took : (p : Reader Saw) → SawKept p (in_body f plan lines) buffers → TakenAs p.state p.lines ns held (Ok (record { place = Body; held = held' })) (lent job plates cuts counts' prices)
    took p kept =
        let in-body : p.state.place ≡ body = sym kept.text.stands in
        plan-taken p.state p.lines l.refusal ws ns job plates cuts counts prices held in-body (λ q. omega (arith, q, kind))
        (sym words ∙ body-words p.state p.lines held buffers (board_sizes job) (types_of job) refl refl in-body kept.held)
        l.judged kept.held plan' counts' l.admitted kind
        (λ vs rs model line planned. rw listed.model_is (l.more listed.plates vs rs (rw listed.model_is at model) (omega (arith, line, kept.text.lines)) (rw listed.model_is at planned)))

    -- and what is left of the part goes on
    line_on : Onward part at (in_body f plan lines) buffers (at + group_bytes * g + 1) (in_body f plan' (lines + 1)) (lent job plates cuts counts' prices)
    line_on =
        line-onward part at g l.numbers (in_body f plan lines) Body held' buffers (lent job plates cuts counts' prices) l.few listed.none-begun
        (within (in_body f plan lines).text part at l.was l.numbers refl l.few listed.none-begun l.ten (Some g) l.complete)
        (record { job = refl; plates = refl; cuts = refl; counts = l.long; prices = refl }) took

-- no line yet
pub ran-none : (part : List ℕ) (from : ℕ) (ws plates cuts : List ℕ) (k : CutNumber) (first : PlanLines) (before : ℕ) (counts : List ℕ) → from ≤ length part → before ≤ max_lines → Ran part from ws plates cuts k first before counts (record { plan = first; lines = before; at = from }) counts
ran-none part from ws plates cuts k first before counts h n =
    record { few = n; on = omega arith; within = h; long = refl; onward = λ f job prices listed words r kept. (r, kept, refl) }

-- one line more
pub ran-more :
    (part : List ℕ) (from : ℕ) (ws plates cuts : List ℕ) (k : CutNumber) (first : PlanLines) (before : ℕ) (counts₀ : List ℕ) (at lines : ℕ) (plan : PlanLines) (counts : List ℕ) (g : ℕ) (plan' : PlanLines) (counts' : List ℕ)
    → Ran part from ws plates cuts k first before counts₀ (record { plan = plan; lines = lines; at = at }) counts
    → Line part ws plates cuts k at lines plan counts g plan' counts'
    → at + group_bytes * g + 1 ≤ length part
    → Ran part from ws plates cuts k first before counts₀ (record { plan = plan'; lines = lines + 1; at = at + group_bytes * g + 1 }) counts'
ran-more part from ws plates cuts k first before counts₀ at lines plan counts g plan' counts' ran l inside =
    record {
      few = omega (arith, l.few);
      on = omega (arith, ran.on);
      within = inside;
      long = l.long ∙ ran.long;
      onward = λ f job prices listed words.
          onward_then part from at (at + group_bytes * g + 1) _ _ _ _ _ _ (ran.onward f job prices listed words) (line_on part ws plates cuts k at lines plan counts g plan' counts' l f job prices listed words);
    }

-- as many places are left for numbers as there were
pub numbers-left : (bs was numbers : List ℕ) (g : ℕ) → length was ≡ most_numbers → CompleteAs bs was numbers (Some g) → length numbers ≡ most_numbers
numbers-left bs was numbers g ten w = rw w.1.2 (simp (length-append, length-drop) (omega (arith, w.0, (line-numbers g bs w.1.0 w.1.1).0)))

-- there are no more numbers than places for them
pub numbers-ten : (bs was numbers : List ℕ) (g : ℕ) → length was ≡ most_numbers → CompleteAs bs was numbers (Some g) → g ≤ length numbers
numbers-ten bs was numbers g ten w = omega (arith, numbers-left bs was numbers g ten w, w.0)

-- where the line ends, in the part
pub line-inside : (part was numbers : List ℕ) (at g : ℕ) → CompleteAs (drop at part) was numbers (Some g) → at + group_bytes * g + 1 ≤ length part
line-inside part was numbers at g w = omega (arith, line-fits part at g w.1.0 w.1.1)

-- a state in the body is what it is with its own lines 3 and number of lines
own_body : (f : SawReader) (k : CutNumber) → InBody f k → f ≡ in_body f f.held.plan f.text.lines
own_body f k b = λ i. record { text = record { place = b.place_is i; lines = f.text.lines; refusal = b.goes i; pending = f.text.pending }; held = f.held }

-- a run from such a state
pub read-on :
    (part : List ℕ) (from : ℕ) (f : SawReader) (job plates cuts counts : List ℕ) (k : CutNumber) (words : ℕ) (run : Run) (counts' : List ℕ)
    → InBody f k
    → WholeWords job words
    → Ran part from (take words job) plates cuts k f.held.plan f.text.lines counts run counts'
    → (prices : List ℕ)
    → ReadOn part from f (lent job plates cuts counts prices) run.at (in_body f run.plan run.lines) (lent job plates cuts counts' prices)
read-on part from f job plates cuts counts k words run counts' b w ran prices =
    record {
      ready = record { few = ran.few; short = omega (arith, b.listed.none-begun) };
      on = ran.on;
      within = ran.within;
      onward = λ r kept.
          ran.onward f job prices b.listed (ap (λ (n : ℕ). take n job) (sym w.size)) r (subst (λ (g : SawReader). SawKept r g (lent job plates cuts counts prices)) (own_body f k b) kept);
    }
