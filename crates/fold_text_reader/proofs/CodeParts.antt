-- What a whole line, and what a part, makes of a fold text in its state and lent words.
use Prim.Native.Nat.{ℕ, suc, ◌+◌, ◌-◌, ◌/◌, ◌≤◌, ◌<◌}
use mathlib.Core.Path.{◌≡◌, refl, sym, ap, ◌∙◌}
use mathlib.Core.Bool.{true, false}
use mathlib.Core.List.{List, [], ◌++◌}
use mathlib.Core.Option.{Option, some}
use native.Mathlib.Omega.{arith}
use lib.ListN.{length, take, drop, replicate, length-append, length-take, length-drop, length-replicate, drop_of_length-le}
use lib.Seq.{take-nil}
use Rattle.job.specs.Sizes.{longest_job}
use Rattle.job.specs.Verdict.{refuse}
use Rattle.listing.proofs.CodeHolds.{cleared}
use Rattle.columns.specs.Widths.{group_bytes}
use Rattle.std.specs.Prelude.{Option as Option·std, Some, None}
use Rattle.columns.specs.Line.{read_line, line_from}
use Rattle.texts.specs.Reader.{Reader, longest_line, started, refused_as, line_read, fed}
use Rattle.texts.specs.FoldText.{Fold, fold_grammar}
use Rattle.texts_reading.specs.declared.text.Place.TheVariants.{First}
use Rattle.texts_reading.specs.declared.text.TextReader.{TextReader}
use Rattle.texts_reading.specs.Begun.{Begun}
use Rattle.texts_reading.specs.LineEnd.{LineEnd}
use Rattle.texts_reading.specs.Standing.{place_of, TextAt, line_ends, Rest}
use Rattle.texts_reading.proofs.CodeLine.{line-not, line-numbers}
use Rattle.texts_reading.proofs.CodeText.{whole, at_ready, rest-kept, rest-same, line-fed, line-malformed}
use Rattle.fold_text_reader.specs.declared.fold.FoldReader.{FoldReader}
use Rattle.fold_text_reader.specs.FoldKept.{layouts_size, FoldReady, FoldKept, Step, Fed}
use Rattle.fold_text_reader.proofs.CodeLines.{place}

-- nothing read yet
pub started-kept :
    (f : FoldReader) (job layouts : List ℕ) {job' layouts' : List ℕ}
    → TextAt f.text First 0 0 []
    → f.rows ≡ 0
    → job' ≡ replicate (length job) 0
    → layouts' ≡ replicate (length layouts) 0
    → longest_job ≤ length job
    → layouts_size ≤ length layouts
    → FoldKept (started fold_grammar) f job' layouts'
started-kept f job layouts {job'} {layouts'} a z e d p q =
    let m : length job' ≡ length job = ap length e ∙ simp length-replicate in
    let n : length layouts' ≡ length layouts = ap length d ∙ simp length-replicate in
    record {
      ready = record {
        text = at_ready f.text a (omega arith);
        few = omega (arith, z);
        job-size = omega (arith, m, p);
        layouts-size = omega (arith, n, q);
        place = rw a.place_is z;
      };
      text = record { stands = ap place_of a.place_is; lines = a.lines_are; verdict = rw a.refusal_is; begun = a.begun };
      job-words = cleared (length job) e;
      job-size = rw a.place_is refl;
      rows = omega (arith, z);
      layout-words = rw (take-nil layouts_size) (cleared (length layouts) d);
    }

-- ---- a line that ends in the part

module _ (part : List ℕ) (at end : ℕ) (f : FoldReader) (job layouts : List ℕ) (line : Option·std (List ℕ)) (reads : (bs : List ℕ) → Begun f.text.pending bs → line ≡ line_from (read_line (bs ++ take (end + 1 - at) (drop at part)))) where
  abbrev after : Reader Fold → Reader Fold
  after r = line_read fold_grammar r (read_line (r.pending ++ take (end + 1 - at) (drop at part)))

  -- it is not of the form
  pub line-bad : line ≡ None → (r : Reader Fold) → FoldKept r f job layouts → after r ≡ refused_as fold_grammar r (refuse 1 (suc r.lines))
  line-bad b r k =
      let o : Option (List ℕ) = read_line (r.pending ++ take (end + 1 - at) (drop at part)) in
      ap (line_read fold_grammar r) (line-not o (sym (reads r.pending k.text.begun) ∙ b)) ∙ line-malformed fold_grammar r

  -- or its numbers are read
  pub line_step :
      (numbers : List ℕ)
      → line ≡ Some numbers
      → at ≤ end
      → end < length part
      → {f' : FoldReader} {job' layouts' : List ℕ}
      → Step (λ r. line_read fold_grammar r (some (take ((f.text.pending.length + (end + 1 - at)) / group_bytes) numbers))) f job layouts f' job' layouts'
      → Step after f job layouts f' job' layouts'
  line_step numbers b p q s = record { ready = s.ready; kept = λ r k. rw (is r k) (s.kept r k) }
    where
      is : (r : Reader Fold) → FoldKept r f job layouts → read_line (r.pending ++ take (end + 1 - at) (drop at part)) ≡ some (take ((f.text.pending.length + (end + 1 - at)) / group_bytes) numbers)
      is r k =
          let bs : List ℕ = r.pending ++ take (end + 1 - at) (drop at part) in
          let (ns, w) = line-numbers bs numbers (sym (reads r.pending k.text.begun) ∙ b) in
          let t : length (take (end + 1 - at) (drop at part)) ≡ end + 1 - at = simp (length-take, length-drop) (omega arith) in
          let n : f.text.pending.length + (end + 1 - at) ≡ length bs = rw (length-append r.pending (take (end + 1 - at) (drop at part)), t, k.text.begun.size) in
          let held = ap (λ (m : ℕ). take (m / group_bytes) numbers) n ∙ w.held in
          w.read ∙ ap (λ (l : List ℕ). some l) (sym held)

-- a line that was read to its end
pub within_step :
    {f f' : FoldReader} {job layouts job' layouts' : List ℕ} (xs ns : List ℕ)
    → ((bs : List ℕ) → Begun f.text.pending bs → read_line (bs ++ xs) ≡ some ns)
    → Step (λ r. line_read fold_grammar r (some ns)) f job layouts f' job' layouts'
    → Step (λ r. line_read fold_grammar r (read_line (r.pending ++ xs))) f job layouts f' job' layouts'
within_step xs ns reads s = record { ready = s.ready; kept = λ r k. rw (reads r.pending k.text.begun) (s.kept r k) }

-- ---- part by part

-- up to `at` the part has been fed: what is left of it makes of the reader that is kept what the whole makes of the first
pub record Going (part : List ℕ) (f₀ : FoldReader) (job₀ layouts₀ : List ℕ) (f : FoldReader) (job layouts : List ℕ) (at : ℕ) : Type 0 where
  pub ready : FoldReady f job layouts
  pub within : at ≤ length part
  pub job-length : length job ≡ length job₀
  pub layouts-length : length layouts ≡ length layouts₀
  pub going : (r : Reader Fold) → FoldKept r f₀ job₀ layouts₀ → (p : Reader Fold) × FoldKept p f job layouts × (fed fold_grammar r part ≡ fed fold_grammar p (drop at part))

module _ (part : List ℕ) (f₀ : FoldReader) (job₀ layouts₀ : List ℕ) (f : FoldReader) (job layouts : List ℕ) (at : ℕ) (g : Going part f₀ job₀ layouts₀ f job layouts at) where
  -- the part is over
  pub going_end : length part ≤ at → (r : Reader Fold) → FoldKept r f₀ job₀ layouts₀ → FoldKept (fed fold_grammar r part) f job layouts
  unfolding fed
  going_end h r k =
      let w = g.going r k in
      rw (w.2 ∙ ap (fed fold_grammar w.0) (drop_of_length-le part h)) w.1

  module _ (end : ℕ) (e : LineEnd part at (longest_line - f.text.pending.length) end) where
    -- a line ends
    pub going-line :
        line_ends f.text at end (length part) ≡ true
        → {f' : FoldReader} {job' layouts' : List ℕ}
        → length job' ≡ length job
        → length layouts' ≡ length layouts
        → Step (λ r. line_read fold_grammar r (read_line (r.pending ++ take (end + 1 - at) (drop at part)))) f job layouts f' job' layouts'
        → Going part f₀ job₀ layouts₀ f' job' layouts' (end + 1)
    going-line ends m n s =
        let w = whole f.text at end (length part) ends in
        record {
          ready = s.ready;
          within = omega (arith, w.inside);
          job-length = m ∙ g.job-length;
          layouts-length = n ∙ g.layouts-length;
          going = λ r k.
              let h = g.going r k in
              (line_read fold_grammar h.0 (read_line (h.0.pending ++ take (end + 1 - at) (drop at part))), s.kept h.0 h.1, h.2 ∙ line-fed fold_grammar place h.0 f.text h.1.text part at end e g.ready.text.short w);
        }

    -- no line ends in the rest
    pub going-rest :
        at < length part
        → line_ends f.text at end (length part) ≡ false
        → {t' : TextReader}
        → Rest f.text part at end t'
        → (r : Reader Fold)
        → FoldKept r f₀ job₀ layouts₀
        → FoldKept (fed fold_grammar r part) (record { text = t'; rows = f.rows }) job layouts
    going-rest l ends {t'} rest r k =
        let h = g.going r k in
        let p : Reader Fold = h.0 in
        let kp = h.1 in
        let same = rest-same fold_grammar place p f.text kp.text part at end e g.ready.text.short g.ready.text rest in
        let w = rest-kept fold_grammar place p f.text kp.text part at end e g.ready.text.short l rest ends in
        rw h.2
        (record {
          ready = record {
            text = same.ready;
            few = omega (arith, g.ready.few, same.lines_same);
            job-size = g.ready.job-size;
            layouts-size = g.ready.layouts-size;
            place = rw same.place_same g.ready.place;
          };
          text = w.0;
          job-words = rw w.1 kp.job-words;
          job-size = rw (same.place_same, w.1) kp.job-size;
          rows = rw w.1 kp.rows;
          layout-words = rw w.1 kp.layout-words;
        })

-- a state that is ready is changed only by what it is fed
pub fed-ready :
    {part : List ℕ} {f f' : FoldReader} {job layouts job' layouts' : List ℕ}
    → FoldReady f job layouts
    → ((r : Reader Fold) → FoldKept r f job layouts → FoldKept (fed fold_grammar r part) f' job' layouts')
    → Fed part f job layouts f' job' layouts'
fed-ready q h = record { kept = h; state-same = λ z. absurd (z q); job-same = λ z. absurd (z q); layouts_same = λ z. absurd (z q) }
