-- What a state and lent buffers keep of a saw text, step by step: nothing read, a line refused, a line admitted.
use Prim.Native.Nat.{ℕ, zero, suc, ◌≤◌, ◌<◌}
use native.Mathlib.Omega.{arith}
use mathlib.Core.Path.{◌≡◌, refl, ap}
use mathlib.Core.List.{List, []}
use mathlib.Core.Option.{some}
use lib.ListN.{length, length-replicate}
use Rattle.std.specs.Prelude.{Result, Ok, Err}
use Rattle.job.specs.declared.refused.Refusal.{Refusal}
use Rattle.job.specs.Refused.{number_of}
use Rattle.listing.specs.Holds.{Holds}
use Rattle.listing.proofs.CodeHolds.{cleared}
use Rattle.texts.specs.Reader.{Reader, max_lines, line_read}
use Rattle.texts.specs.SawText.{Saw, saw_grammar, saw_after}
use Rattle.texts_reading.specs.declared.text.Place.TheVariants.{First}
use Rattle.texts_reading.specs.declared.text.TextReader.{TextReader}
use Rattle.texts_reading.specs.Standing.{place_of, TextAt}
use Rattle.texts_reading.proofs.CodeJobLines.{refusal-number}
use Rattle.texts_reading.proofs.CodeText.{kept-refused, kept-admitted, line_refused, line-admitted, at_ready}
use Rattle.saw_text_lines.specs.declared.held.SawHeld.{SawHeld}
use Rattle.saw_text_lines.specs.declared.held.Taken.{Taken}
use Rattle.saw_text_lines.specs.SawKept.{Lent, lent, Room, TakenAs}
use Rattle.saw_text_lines.proofs.KeptSound.{room-again}
use Rattle.saw_text_reader.specs.declared.saw.SawReader.{SawReader}
use Rattle.saw_text_reader.specs.SawFed.{NoneHeld, SawReady, SawKept, Step, AfterLine, zeros, Started}

module _ (r : Reader Saw) (f : SawReader) (b b' : Lent) (ns : List ℕ) (t' : TextReader) (k : SawKept r f b) where
  -- the numbers of a line are refused
  pub step-refused :
      (x : Refusal)
      → TakenAs r.state r.lines ns f.held (Err x) b'
      → SawReady (record { text = t'; held = f.held }) b'
      → TextAt t' f.text.place f.text.lines (number_of x) []
      → SawKept (line_read saw_grammar r (some ns)) (record { text = t'; held = f.held }) b'
  step-refused x took ready a = go (number_of x) refl
    where
      go : (m : ℕ) → number_of x ≡ m → SawKept (line_read saw_grammar r (some ns)) (record { text = t'; held = f.held }) b'
      go zero z = absurd (refusal-number x z)
      go (suc m) z =
          let e = line_refused saw_grammar r ns refl m (rw z at took.row) in
          rw e
          (record {
            ready = ready;
            text = kept-refused saw_grammar (λ (s : Saw). s.place) r f.text k.text m (rw z at a);
            held = took.to;
          })

  -- they are admitted
  pub step-admitted :
      (t : Taken)
      → TakenAs r.state r.lines ns f.held (Ok t) b'
      → SawReady (record { text = t'; held = t.held }) b'
      → TextAt t' t.place (suc f.text.lines) 0 []
      → SawKept (line_read saw_grammar r (some ns)) (record { text = t'; held = t.held }) b'
  step-admitted t took ready a =
      let e = line-admitted saw_grammar r ns refl took.row in
      rw e
      (record {
        ready = ready;
        text = kept-admitted saw_grammar (λ (s : Saw). s.place) r f.text k.text (saw_after r.state ns) a took.to.0;
        held = took.to.1;
      })

-- the same as steps
module _ (f : SawReader) (b b' : Lent) (ns : List ℕ) (t' : TextReader) (room : Room b') where
  pub refused-step :
      (x : Refusal)
      → ((r : Reader Saw) → SawKept r f b → TakenAs r.state r.lines ns f.held (Err x) b')
      → f.text.lines ≤ max_lines
      → TextAt t' f.text.place f.text.lines (number_of x) []
      → Step (λ q. line_read saw_grammar q (some ns)) f b (record { text = t'; held = f.held }) b'
  refused-step x took l a =
      let ready : SawReady (record { text = t'; held = f.held }) b' = record { text = at_ready t' a l; room = room } in
      record { ready = ready; kept = λ r k. step-refused r f b b' ns t' k x (took r k) ready a }

  pub admitted-step :
      (t : Taken)
      → ((r : Reader Saw) → SawKept r f b → TakenAs r.state r.lines ns f.held (Ok t) b')
      → f.text.lines < max_lines
      → TextAt t' t.place (suc f.text.lines) 0 []
      → Step (λ q. line_read saw_grammar q (some ns)) f b (record { text = t'; held = t.held }) b'
  admitted-step t took l a =
      let ready : SawReady (record { text = t'; held = t.held }) b' = record { text = at_ready t' a (omega arith); room = room } in
      record { ready = ready; kept = λ r k. step-admitted r f b b' ns t' k t (took r k) ready a }

-- the numbers of a line, whether they are admitted or refused
pub after-line-step :
    (f : SawReader) (b b' : Lent) (ns : List ℕ) (room : Room b') (x : Result Taken Refusal)
    → ((r : Reader Saw) → SawKept r f b → TakenAs r.state r.lines ns f.held x b')
    → f.text.lines < max_lines
    → {g : SawReader} → AfterLine f x g → Step (λ q. line_read saw_grammar q (some ns)) f b g b'
after-line-step f b b' ns room (Ok t) took l {g} a = go g.held a.1
  where
    go : (h : SawHeld) → h ≡ t.held → Step (λ q. line_read saw_grammar q (some ns)) f b (record { text = g.text; held = h }) b'
    go h e = rw e (admitted-step f b b' ns g.text room t took l a.0)
after-line-step f b b' ns room (Err x) took l {g} a = go g.held a.1
  where
    go : (h : SawHeld) → h ≡ f.held → Step (λ q. line_read saw_grammar q (some ns)) f b (record { text = g.text; held = h }) b'
    go h e = rw e (refused-step f b b' ns g.text room x took (omega (arith, l)) a.0)

-- nothing is read yet
zero-length : (ws : List ℕ) → length (zeros ws) ≡ length ws
zero-length ws = length-replicate (length ws) 0

zero_held : (ws : List ℕ) → Holds (zeros ws) []
zero_held ws = cleared (length ws) refl

pub started-zero : (job plates cuts counts prices : List ℕ) (t : TextReader) (h : SawHeld) → TextAt t First 0 0 [] → NoneHeld h → Started (lent job plates cuts counts prices) (record { text = t; held = h }) (lent (zeros job) (zeros plates) (zeros cuts) (zeros counts) (zeros prices))
started-zero job plates cuts counts prices t h a n =
    record {
      zeroed = refl;
      none-held = n;
      kept = λ room. record {
        ready = record { text = at_ready t a (omega arith); room = room-again room (zero-length job) (zero-length plates) (zero-length cuts) (zero-length counts) (zero-length prices) };
        text = record { stands = ap place_of a.place_is; lines = a.lines_are; verdict = rw a.refusal_is; begun = a.begun };
        held = record {
          words = zero_held job;
          of-job = (refl, record { model = n.model; plates = zero_held plates; cuts = zero_held cuts; no-plan = n.no-plan; counts = zero_held counts; no_lines = refl });
          of-prices = record { none_is = refl; given = n.given; types = n.types; residuals = n.residuals; words = zero_held prices };
          of-lines = refl;
        };
      };
    }
