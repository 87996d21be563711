-- What a part makes of a saw text in its state and lent buffers, line by line.
use Prim.Native.Nat.{ℕ, ◌+◌, ◌-◌, ◌≤◌, ◌<◌, zero-le}
use mathlib.Core.Path.{◌≡◌, refl, ap, ◌∙◌}
use mathlib.Core.Bool.{true, false}
use mathlib.Core.List.{List, [], ◌++◌}
use mathlib.Core.Option.{some}
use native.Mathlib.Omega.{arith}
use lib.ListN.{length, take, drop, drop_of_length-le}
use Rattle.columns.specs.Line.{read_line}
use Rattle.texts.specs.Reader.{Reader, longest_line, line_read, fed}
use Rattle.texts.specs.JobLines as definition
use Rattle.texts.specs.SawText.{Saw, saw_grammar}
use Rattle.texts_reading.specs.declared.text.TextReader.{TextReader}
use Rattle.texts_reading.specs.LineEnd.{LineEnd}
use Rattle.texts_reading.specs.Standing.{TextAt, line_ends, Rest as RestOf}
use Rattle.texts_reading.proofs.CodeText.{whole, rest-kept, rest-same, line-fed}
use Rattle.saw_text_lines.specs.SawKept.{Lent}
use Rattle.saw_text_lines.proofs.KeptSound.{room-again}
use Rattle.saw_text_reader.specs.declared.saw.SawReader.{SawReader}
use Rattle.saw_text_reader.specs.SawFed.{SawReady, SawKept, Step, Fed}
use Rattle.saw_text_reader.specs.Parts.{AsLong}
use Rattle.saw_text_reader.specs.Onward.{ReadOn}
use Rattle.saw_text_reader.specs.declared.next.Next.{Next}
use Rattle.saw_text_reader.specs.declared.next.Next.TheVariants.{Numbers, Malformed, Rest}
use Rattle.saw_text_reader.specs.NextLine.{NextAs, NumbersTo, MalformedTo, RestTo}
use Rattle.saw_text_reader.proofs.LineSteps.{malformed-step, line_step}

abbrev place : Saw → definition.Place
place s = s.place

-- up to `at` the part has been fed: what is left of it makes of the reader that is kept what the whole makes of the first
pub record Going (part : List ℕ) (f₀ : SawReader) (b₀ : Lent) (f : SawReader) (b : Lent) (at : ℕ) : Type 0 where
  pub ready : SawReady f b
  pub within : at ≤ length part
  pub long : AsLong b b₀
  pub going : (r : Reader Saw) → SawKept r f₀ b₀ → (p : Reader Saw) × SawKept p f b × (fed saw_grammar r part ≡ fed saw_grammar p (drop at part))

pub going_start : (part : List ℕ) (f : SawReader) (b : Lent) → SawReady f b → Going part f b f b 0
going_start part f b q =
    record { ready = q; within = zero-le; long = record { job = refl; plates = refl; cuts = refl; counts = refl; prices = refl }; going = λ r k. (r, k, refl) }

module _ (part : List ℕ) (f₀ : SawReader) (b₀ : Lent) (f : SawReader) (b : Lent) (at : ℕ) (g : Going part f₀ b₀ f b at) where
  -- the part is over
  pub going_end : length part ≤ at → (r : Reader Saw) → SawKept r f₀ b₀ → SawKept (fed saw_grammar r part) f b
  unfolding fed
  going_end h r k =
      let w = g.going r k in
      rw (w.2 ∙ ap (fed saw_grammar w.0) (drop_of_length-le part h)) w.1

  module _ (end : ℕ) (e : LineEnd part at (longest_line - f.text.pending.length) end) where
    -- a line ends
    pub going-line :
        line_ends f.text at end (length part) ≡ true
        → {f' : SawReader} {b' : Lent}
        → AsLong b' b
        → Step (λ r. line_read saw_grammar r (read_line (r.pending ++ take (end + 1 - at) (drop at part)))) f b f' b'
        → Going part f₀ b₀ f' b' (end + 1)
    going-line ends l s =
        let w = whole f.text at end (length part) ends in
        let g₀ = g.long in
        record {
          ready = s.ready;
          within = omega (arith, w.inside);
          long = record { job = l.job ∙ g₀.job; plates = l.plates ∙ g₀.plates; cuts = l.cuts ∙ g₀.cuts; counts = l.counts ∙ g₀.counts; prices = l.prices ∙ g₀.prices };
          going = λ r k.
              let h = g.going r k in
              (line_read saw_grammar h.0 (read_line (h.0.pending ++ take (end + 1 - at) (drop at part))), s.kept h.0 h.1, h.2 ∙ line-fed saw_grammar place h.0 f.text h.1.text part at end e g.ready.text.short w);
        }

    -- no line ends in the rest
    pub going-rest :
        at < length part
        → line_ends f.text at end (length part) ≡ false
        → {t' : TextReader}
        → RestOf f.text part at end t'
        → (r : Reader Saw)
        → SawKept r f₀ b₀
        → SawKept (fed saw_grammar r part) (record { text = t'; held = f.held }) b
    going-rest l ends {t'} rest r k =
        let h = g.going r k in
        let p : Reader Saw = h.0 in
        let kp = h.1 in
        let same = rest-same saw_grammar place p f.text kp.text part at end e g.ready.text.short g.ready.text rest in
        let w = rest-kept saw_grammar place p f.text kp.text part at end e g.ready.text.short l rest ends in
        let n : (fed saw_grammar p (drop at part)).lines ≡ p.lines = omega (arith, w.0.lines, same.lines_same, kp.text.lines) in
        rw h.2
        (record {
          ready = record { text = same.ready; room = g.ready.room };
          text = w.0;
          held = rw (w.1, n) kp.held;
        })

-- lines that stand whole in the part are taken
pub going_on :
    (part : List ℕ) (f₀ : SawReader) (b₀ : Lent) (f : SawReader) (b : Lent) (at : ℕ) {f' : SawReader} {b' : Lent} {at' : ℕ}
    → Going part f₀ b₀ f b at
    → AsLong b' b
    → ReadOn part at f b at' f' b'
    → Going part f₀ b₀ f' b' at'
going_on part f₀ b₀ f b at g l on =
    let g₀ = g.long in
    record {
      ready = record { text = on.ready; room = room-again g.ready.room l.job l.plates l.cuts l.counts l.prices };
      within = on.within;
      long = record { job = l.job ∙ g₀.job; plates = l.plates ∙ g₀.plates; cuts = l.cuts ∙ g₀.cuts; counts = l.counts ∙ g₀.counts; prices = l.prices ∙ g₀.prices };
      going = λ r k.
          let h = g.going r k in
          let w = on.onward h.0 h.1 in
          (w.0, w.1, h.2 ∙ w.2);
    }

-- the next line, by what the code answers
module _ {n : Next} {t : TextReader} {part : List ℕ} (numbers : List ℕ) {at end : ℕ} (next : NextAs t part at numbers n) where
  pub numbers-next : {k : ℕ} → n ≡ Numbers k end → NumbersTo t part at numbers k end
  numbers-next e = rw e at next

  pub malformed-next : n ≡ Malformed end → MalformedTo t part at end
  malformed-next e = rw e at next

  pub rest-next : n ≡ Rest end → RestTo t part at end
  rest-next e = rw e at next

-- a line of the form is taken
pub going-numbers :
    (part : List ℕ) (f₀ : SawReader) (b₀ : Lent) (f : SawReader) (b : Lent) (at : ℕ) {f' : SawReader} {b' : Lent} {numbers : List ℕ} {k end : ℕ}
    → Going part f₀ b₀ f b at
    → NumbersTo f.text part at numbers k end
    → AsLong b' b
    → Step (λ q. line_read saw_grammar q (some (take k numbers))) f b f' b'
    → Going part f₀ b₀ f' b' (end + 1)
going-numbers part f₀ b₀ f b at {f'} {b'} {numbers} {k} {end} g w l step =
    going-line part f₀ b₀ f b at g end w.end_is w.ends l
    (line_step f f' b b' (take (end + 1 - at) (drop at part)) (take k numbers) step (λ r kept. w.reads r.pending kept.text.begun))

-- one that is not of the form is refused
pub going-malformed :
    (part : List ℕ) (f₀ : SawReader) (b₀ : Lent) (f : SawReader) (b : Lent) (at : ℕ) {t : TextReader} {end : ℕ}
    → Going part f₀ b₀ f b at
    → MalformedTo f.text part at end
    → TextAt t f.text.place f.text.lines 1 []
    → Going part f₀ b₀ (record { text = t; held = f.held }) b (end + 1)
going-malformed part f₀ b₀ f b at {t} {end} g w refused =
    going-line part f₀ b₀ f b at g end w.end_is w.ends
    (record { job = refl; plates = refl; cuts = refl; counts = refl; prices = refl })
    (malformed-step f b (take (end + 1 - at) (drop at part)) t g.ready.text.few g.ready.room refused (λ r kept. w.bad r.pending kept.text.begun))

-- a state that is ready is changed only by what it is fed
pub fed-ready :
    {part : List ℕ} {f f' : SawReader} {b b' : Lent}
    → SawReady f b
    → ((r : Reader Saw) → SawKept r f b → SawKept (fed saw_grammar r part) f' b')
    → Fed part f b f' b'
fed-ready q h = record { kept = h; state-same = λ z. absurd (z q); lent_same = λ z. absurd (z q) }

-- a state that is not ready keeps no reader
pub fed-unready : {part : List ℕ} {f : SawReader} {b : Lent} → (SawReady f b → ⊥) → Fed part f b f b
fed-unready n = record { kept = λ r k. absurd (n k.ready); state-same = λ z. refl; lent_same = λ z. refl }
