-- Which lines a fold text admits by its state, what comes after each, and what a line that is refused makes of state and lent words.
use Prim.Native.Nat.{ℕ, zero, suc, ◌*◌}
use mathlib.Core.Path.{◌≡◌, refl, sym, ap, ap₂, ◌∙◌, subst}
use mathlib.Core.List.{List, [], ◌∷◌, ◌++◌}
use mathlib.Core.Option.{some}
use native.Mathlib.Omega.{arith}
use lib.ListN.{length, drop}
use Rattle.job.specs.Sizes.{words_of_placement, job_size}
use Rattle.job.specs.declared.counters.ItemType.{ItemType}
use Rattle.job.specs.declared.counters.PlateType.{PlateType}
use Rattle.job.specs.Verdict.{refuse}
use Rattle.listing.proofs.CodeHolds.{held_word}
use Rattle.texts.specs.Shape.{Shape, job_line, size_line, item_line, layout_line, numbers_row}
use Rattle.texts.specs.Reader.{Reader, refused_as, line_read}
use Rattle.texts.specs.JobLines as definition
use Rattle.texts.specs.FoldText.{Fold, fold_of, fold_admits, fold_after, fold_grammar}
use Rattle.texts_reading.specs.declared.text.Place.{Place}
use Rattle.texts_reading.specs.declared.text.Place.TheVariants.{First, Sizes, Types, Body}
use Rattle.texts_reading.specs.Judged.{line_verdict}
use Rattle.texts_reading.specs.Standing.{place_of, TextAt}
use Rattle.texts_reading.proofs.JobKept.{held-take}
use Rattle.texts_reading.proofs.CodeText.{kept-refused, line_refused, at_ready}
use Rattle.fold_text_reader.specs.declared.fold.FoldReader.{FoldReader}
use Rattle.fold_text_reader.specs.FoldKept.{held_words, FoldReady, WordsSoFar, FoldKept, Step}

-- what comes next, by the definition's state
abbrev pub place : Fold → definition.Place
place s = s.place

-- no words where there are no lines
pub no_words : (ws : List ℕ) (rows : ℕ) → length ws ≡ words_of_placement * rows → rows ≡ 0 → ws ≡ []
no_words [] rows e z = refl
no_words (w ∷ ws) rows e z = absurd (omega arith)

-- ---- a line that is refused

module _ (next : Reader Fold → Reader Fold) (f f' : FoldReader) (job layouts : List ℕ) (q : FoldReady f job layouts) where
  pub step-refused :
      (n : ℕ)
      → TextAt f'.text f.text.place f.text.lines (suc n) [] × (f'.rows ≡ f.rows)
      → ((r : Reader Fold) → FoldKept r f job layouts → next r ≡ refused_as fold_grammar r (refuse (suc n) (suc r.lines)))
      → Step next f job layouts f' job layouts
  step-refused n (a, rows) is = record { ready = ready; kept = λ r k. rw (is r k) (kept r k) }
    where
      ready : FoldReady f' job layouts
      ready =
          record {
            text = at_ready f'.text a q.text.few;
            few = rw (rows, a.lines_are) q.few;
            job-size = q.job-size;
            layouts-size = q.layouts-size;
            place = rw (a.place_is, rows) q.place;
          }

      kept : (r : Reader Fold) → FoldKept r f job layouts → FoldKept (refused_as fold_grammar r (refuse (suc n) (suc r.lines))) f' job layouts
      kept r k =
          record {
            ready = ready;
            text = kept-refused fold_grammar place r f.text k.text n a;
            job-words = k.job-words;
            job-size = rw a.place_is k.job-size;
            rows = rw rows k.rows;
            layout-words = k.layout-words;
          }

-- the numbers of a line are refused, where these shapes are admitted
module _ (ns : List ℕ) (f f' : FoldReader) (job layouts : List ℕ) (q : FoldReady f job layouts) (ss : List Shape) where
  pub numbers-refused :
      ((r : Reader Fold) → FoldKept r f job layouts → fold_admits r.state ≡ ss)
      → (n : ℕ)
      → (n ≡ 0 → ⊥)
      → ((line : ℕ) → line_verdict n line ≡ numbers_row line ss ns)
      → TextAt f'.text f.text.place f.text.lines n [] × (f'.rows ≡ f.rows)
      → Step (λ r. line_read fold_grammar r (some ns)) f job layouts f' job layouts
  numbers-refused admits zero z row a = absurd (z refl)
  numbers-refused admits (suc n) z row a =
      step-refused (λ r. line_read fold_grammar r (some ns)) f f' job layouts q n a (λ r k. line_refused fold_grammar r ns (admits r k) n (row (suc r.lines)))

-- ---- which lines are admitted

module _ (f : FoldReader) (job layouts : List ℕ) (r : Reader Fold) (k : FoldKept r f job layouts) where
  stands : {p : Place} → f.text.place ≡ p → r.state.place ≡ place_of p
  stands e = sym k.text.stands ∙ ap place_of e

  pub sizes-here : definition.board_sizes r.state.job ≡ definition.board_sizes job
  sizes-here = sym (held_word r.state.job k.job-words 2)

  pub types-here : definition.types_of r.state.job ≡ definition.types_of job
  types-here = sym (held_word r.state.job k.job-words 3)

  pub admits-first : f.text.place ≡ First → fold_admits r.state ≡ job_line ∷ []
  unfolding fold_admits
  admits-first e = rw (stands e, fold_admits)

  pub admits-size : (j : PlateType) → f.text.place ≡ Sizes j → fold_admits r.state ≡ size_line j.0 ∷ []
  unfolding fold_admits
  admits-size j e = rw (stands e, fold_admits)

  pub admits-item : (i : ItemType) → f.text.place ≡ Types i → fold_admits r.state ≡ item_line i.0 ∷ []
  unfolding fold_admits
  admits-item i e = rw (stands e, fold_admits)

  -- in the body the job's words are the first of the buffer, as many as its own numbers of sizes and of types say
  job-here : f.text.place ≡ Body → r.state.job ≡ held_words job
  job-here e =
      let n : length r.state.job ≡ job_size (definition.board_sizes r.state.job) (definition.types_of r.state.job) = subst (λ (p : Place). WordsSoFar p r.state.job) e k.job-size in
      sym (held-take (job_size (definition.board_sizes job) (definition.types_of job)) (n ∙ ap₂ job_size sizes-here types-here) k.job-words)

  pub admits-layout : f.text.place ≡ Body → fold_admits r.state ≡ layout_line (held_words job) ∷ []
  unfolding fold_admits
  admits-layout e = rw (stands e, fold_admits, job-here e)

  -- ---- what an admitted line makes of the text

  pub after_first : (ns : List ℕ) → f.text.place ≡ First → fold_after r.state ns ≡ fold_of (definition.sizes 0) (drop 1 ns) []
  unfolding fold_after
  after_first ns e = rw (stands e, fold_after)

  pub after-size : (ns : List ℕ) (j : PlateType) → f.text.place ≡ Sizes j → fold_after r.state ns ≡ fold_of (definition.after_size (definition.board_sizes job) j.0) (r.state.job ++ drop 2 ns) []
  unfolding fold_after
  after-size ns j e = rw (stands e, fold_after, sizes-here)

  pub after-item : (ns : List ℕ) (i : ItemType) → f.text.place ≡ Types i → fold_after r.state ns ≡ fold_of (definition.after_type (definition.types_of job) i.0) (r.state.job ++ drop 2 ns) []
  unfolding fold_after
  after-item ns i e = rw (stands e, fold_after, types-here)

  pub after-layout : (ns : List ℕ) → f.text.place ≡ Body → fold_after r.state ns ≡ fold_of definition.body r.state.job (r.state.layouts ++ drop 1 ns)
  unfolding fold_after
  after-layout ns e = rw (stands e, fold_after)
