-- What a line that is admitted makes of a fold text, in its state and lent words: line 1, line 10, line 2, line 7.
use Prim.Native.Nat.{ℕ, suc, ◌+◌, ◌*◌, ◌≤◌, ◌<◌, zero-le}
use mathlib.Core.Path.{◌≡◌, refl, sym, ap, ◌∙◌, subst}
use mathlib.Core.List.{List, [], ◌∷◌, ◌++◌}
use mathlib.Core.Option.{some}
use native.Mathlib.Omega.{arith}
use native.Mathlib.Numerals.{add-one}
use lib.ListN.{length, get_or, take, drop, length-append, length-drop, get_or-append}
use lib.Dec.{ltb}
use borrow.Author.Tests.{eq-eqb, ne_eqb, ltb-true, ltb-false}
use mathlib.Core.Bool.{Bool, true, false}
use Rattle.job.specs.Sizes.{words_of_size, words_of_item, words_of_placement, words_before, word_of_type}
use Rattle.job.specs.declared.counters.ItemType.{ItemType}
use Rattle.job.specs.declared.counters.PlateType.{PlateType}
use Rattle.listing.specs.Holds.{Holds}
use Rattle.texts.specs.Shape.{Shape, job_line, size_line, item_line, layout_line, numbers_row}
use Rattle.texts.specs.Reader.{Reader, max_lines, line_read}
use Rattle.texts.specs.JobLines as definition
use Rattle.texts.specs.FoldText.{Fold, fold_of, fold_admits, fold_after, fold_grammar}
use Rattle.texts.proofs.ShapeLaws.{shape-groups}
use Rattle.texts_reading.specs.declared.text.Place.{Place}
use Rattle.texts_reading.specs.declared.text.Place.TheVariants.{First, Sizes, Types, Body}
use Rattle.texts_reading.specs.declared.text.TextReader.{TextReader}
use Rattle.texts_reading.specs.Judged.{line_verdict}
use Rattle.texts_reading.specs.Standing.{place_of, TextAt}
use Rattle.texts_reading.specs.JobRead.{FirstRead, SizeRead, ItemRead}
use Rattle.texts_reading.proofs.CodeJobLines.{of-shape}
use Rattle.texts_reading.proofs.CodeText.{kept-admitted, line-admitted, at_ready}
use Rattle.fold_text_reader.specs.declared.fold.FoldReader.{FoldReader}
use Rattle.fold_text_reader.specs.FoldKept.{layouts_size, held_words, PlaceReady, FoldReady, WordsSoFar, FoldKept, Step}
use Rattle.fold_text_reader.proofs.CodeLines.{place, no_words, sizes-here, types-here, admits-first, admits-size, admits-item, admits-layout, after_first, after-size, after-item, after-layout}

-- what is to be kept of the definition's state after it
pub record After (p : Place) (rows : ℕ) (job layouts : List ℕ) (s : Fold) : Type 0 where
  pub stands_at : place_of p ≡ s.place
  pub job-words : Holds job s.job
  pub job-size : WordsSoFar p s.job
  pub rows_are : length s.layouts ≡ words_of_placement * rows
  pub layout-words : Holds layouts (take layouts_size s.layouts)

module _ (ns : List ℕ) (f : FoldReader) (t' : TextReader) (rows' : ℕ) (job layouts job' layouts' : List ℕ) (ss : List Shape) (p : Place) where
  -- the state and the lent words after it, from what it makes of the definition's state
  pub step-admitted :
      ((line : ℕ) → line_verdict 0 line ≡ numbers_row line ss ns)
      → TextAt t' p (suc f.text.lines) 0 []
      → FoldReady (record { text = t'; rows = rows' }) job' layouts'
      → ((r : Reader Fold) → FoldKept r f job layouts → fold_admits r.state ≡ ss)
      → (s : Reader Fold → Fold)
      → ((r : Reader Fold) → FoldKept r f job layouts → fold_after r.state ns ≡ s r)
      → ((r : Reader Fold) → FoldKept r f job layouts → After p rows' job' layouts' (s r))
      → Step (λ r. line_read fold_grammar r (some ns)) f job layouts (record { text = t'; rows = rows' }) job' layouts'
  step-admitted row a ready admits s is after =
      record {
        ready = ready;
        kept = λ r k.
            let w = after r k in
            rw (line-admitted fold_grammar r ns (admits r k) (row (suc r.lines)), is r k)
            (record {
              ready = ready;
              text = kept-admitted fold_grammar place r f.text k.text (s r) a w.stands_at;
              job-words = w.job-words;
              job-size = rw a.place_is w.job-size;
              rows = w.rows_are;
              layout-words = w.layout-words;
            });
      }

-- line 1
module _ (ns : List ℕ) (f : FoldReader) (t' : TextReader) (job layouts job' : List ℕ) (q : FoldReady f job layouts) (e : f.text.place ≡ First) (read : FirstRead ns job job' 0) (size : length job' ≡ length job) (few : f.text.lines < max_lines) where
  no_rows : f.rows ≡ 0
  no_rows = subst (λ (p : Place). PlaceReady p (definition.board_sizes job) (definition.types_of job) f.rows) e q.place

  abbrev zero-th : Place
  zero-th = Sizes (record { 0 = 0 })

  pub first_step : TextAt t' zero-th (suc f.text.lines) 0 [] → Step (λ r. line_read fold_grammar r (some ns)) f job layouts (record { text = t'; rows = 0 }) job' layouts
  first_step a =
      step-admitted ns f t' 0 job layouts job' layouts (job_line ∷ []) zero-th read.row a ready
      (λ r k. admits-first f job layouts r k e)
      (λ r. fold_of (definition.sizes 0) (drop 1 ns) [])
      (λ r k. after_first f job layouts r k ns e)
      after
    where
      ready : FoldReady (record { text = t'; rows = 0 }) job' layouts
      ready =
          record {
            text = at_ready t' a (omega arith);
            few = zero-le;
            job-size = omega (arith, q.job-size, size);
            layouts-size = q.layouts-size;
            place = rw a.place_is (omega (arith, read.sizes refl, read.types refl));
          }

      after : (r : Reader Fold) → FoldKept r f job layouts → After zero-th 0 job' layouts (fold_of (definition.sizes 0) (drop 1 ns) [])
      after r k =
          let n = shape-groups job_line ns (of-shape 1 job_line ns (sym (read.row 1))) in
          let ws : r.state.job ≡ [] = subst (λ (p : Place). WordsSoFar p r.state.job) e k.job-size in
          let vs : r.state.layouts ≡ [] = no_words r.state.layouts f.rows k.rows no_rows in
          record {
            stands_at = refl;
            job-words = read.read refl (rw ws at k.job-words);
            job-size = rw length-drop (omega arith);
            rows_are = refl;
            layout-words = rw vs at k.layout-words;
          }

-- two numbers of which the first is not above the other, and not equal to it
lt-of-not : (m n : ℕ) → m ≤ n → (m ≡ n → ⊥) → m < n
lt-of-not m n p z = by (ltb m n) refl
  where
    by : (b : Bool) → ltb m n ≡ b → m < n
    by true e = ltb-true m n e
    by false e = absurd (z (omega (arith, ltb-false m n e)))

-- line 10
module _ (ns : List ℕ) (f : FoldReader) (t' : TextReader) (j : PlateType) (job layouts job' : List ℕ) (q : FoldReady f job layouts) (e : f.text.place ≡ Sizes j) (read : SizeRead j.0 ns job job' 0) (size : length job' ≡ length job) (few : f.text.lines < max_lines) where
  size-numbered : PlaceReady (Sizes j) (definition.board_sizes job) (definition.types_of job) f.rows
  size-numbered = subst (λ (p : Place). PlaceReady p (definition.board_sizes job) (definition.types_of job) f.rows) e q.place

  size-words : (r : Reader Fold) → FoldKept r f job layouts → length r.state.job ≡ words_before j.0
  size-words r k = subst (λ (p : Place). WordsSoFar p r.state.job) e k.job-size

  three : length (drop 2 ns) ≡ words_of_size
  three = rw length-drop (omega (arith, shape-groups (size_line j.0) ns (of-shape 1 (size_line j.0) ns (sym (read.row 1)))))

  module _
      (p : Place)
      (a : TextAt t' p (suc f.text.lines) 0 [])
      (ready_at : PlaceReady p (definition.board_sizes job) (definition.types_of job) 0)
      (stands_at : place_of p ≡ definition.after_size (definition.board_sizes job) j.0)
      (sized : (ws : List ℕ) → length ws ≡ words_before j.0 → definition.board_sizes ws ≡ definition.board_sizes job → WordsSoFar p (ws ++ drop 2 ns))
    where
      size_step : Step (λ r. line_read fold_grammar r (some ns)) f job layouts (record { text = t'; rows = 0 }) job' layouts
      size_step =
          step-admitted ns f t' 0 job layouts job' layouts (size_line j.0 ∷ []) p read.row a ready
          (λ r k. admits-size f job layouts r k j e)
          (λ r. fold_of (definition.after_size (definition.board_sizes job) j.0) (r.state.job ++ drop 2 ns) [])
          (λ r k. after-size f job layouts r k ns j e)
          after
        where
          ready : FoldReady (record { text = t'; rows = 0 }) job' layouts
          ready =
              record {
                text = at_ready t' a (omega arith);
                few = zero-le;
                job-size = omega (arith, q.job-size, size);
                layouts-size = q.layouts-size;
                place = rw (a.place_is, (read.same refl).sizes, (read.same refl).types) ready_at;
              }

          after : (r : Reader Fold) → FoldKept r f job layouts → After p 0 job' layouts (fold_of (definition.after_size (definition.board_sizes job) j.0) (r.state.job ++ drop 2 ns) [])
          after r k =
              let vs : r.state.layouts ≡ [] = no_words r.state.layouts f.rows k.rows size-numbered.4 in
              record {
                stands_at = stands_at;
                job-words = read.read refl r.state.job (size-words r k) k.job-words;
                job-size = sized r.state.job (size-words r k) (sizes-here f job layouts r k);
                rows_are = refl;
                layout-words = rw vs at k.layout-words;
              }

  -- of the last size
  pub size-last : definition.board_sizes job' ≡ j.0 + 1 → TextAt t' (Types (record { 0 = 1 })) (suc f.text.lines) 0 [] → Step (λ r. line_read fold_grammar r (some ns)) f job layouts (record { text = t'; rows = 0 }) job' layouts
  unfolding definition.after_size
  size-last h a =
      let n : definition.board_sizes job ≡ j.0 + 1 = sym (read.same refl).sizes ∙ h in
      size_step (Types (record { 0 = 1 })) a (omega arith, size-numbered.2, size-numbered.3, size-numbered.1, refl)
      (rw (eq-eqb (suc j.0) (definition.board_sizes job) (omega (arith, n))))
      (λ ws s t.
      let l : 2 < length ws = omega arith in
      let g : get_or (ws ++ drop 2 ns) 2 0 ≡ get_or ws 2 0 = get_or-append ws (drop 2 ns) 0 2 l in
      rw (length-append ws (drop 2 ns), g) (omega (arith, s, t, n, three)))

  -- of another
  pub size-next : (definition.board_sizes job' ≡ j.0 + 1 → ⊥) → TextAt t' (Sizes (record { 0 = j.0 + 1 })) (suc f.text.lines) 0 [] → Step (λ r. line_read fold_grammar r (some ns)) f job layouts (record { text = t'; rows = 0 }) job' layouts
  unfolding definition.after_size
  size-next h a =
      let n : suc j.0 ≡ definition.board_sizes job → ⊥ = λ z. h ((read.same refl).sizes ∙ sym z ∙ omega arith) in
      let less : suc j.0 < definition.board_sizes job = lt-of-not (suc j.0) (definition.board_sizes job) size-numbered.0 n in
      size_step (Sizes (record { 0 = j.0 + 1 })) a (omega (arith, less), size-numbered.1, size-numbered.2, size-numbered.3, refl)
      (rw (ne_eqb (suc j.0) (definition.board_sizes job) n, add-one j.0))
      (λ ws s t. rw (length-append ws (drop 2 ns)) (omega (arith, s, three)))

-- line 2
module _ (ns : List ℕ) (f : FoldReader) (t' : TextReader) (i : ItemType) (job layouts job' : List ℕ) (q : FoldReady f job layouts) (e : f.text.place ≡ Types i) (read : ItemRead i.0 ns job job' 0) (size : length job' ≡ length job) (few : f.text.lines < max_lines) where
  numbered : PlaceReady (Types i) (definition.board_sizes job) (definition.types_of job) f.rows
  numbered = subst (λ (p : Place). PlaceReady p (definition.board_sizes job) (definition.types_of job) f.rows) e q.place

  words : (r : Reader Fold) → FoldKept r f job layouts → length r.state.job ≡ word_of_type (definition.board_sizes job) i.0
  words r k =
      let s : length r.state.job ≡ word_of_type (definition.board_sizes r.state.job) i.0 = subst (λ (p : Place). WordsSoFar p r.state.job) e k.job-size in
      s ∙ ap (λ (t : ℕ). word_of_type t i.0) (sizes-here f job layouts r k)

  four : length (drop 2 ns) ≡ words_of_item
  four = rw length-drop (omega (arith, shape-groups (item_line i.0) ns (of-shape 1 (item_line i.0) ns (sym (read.row 1)))))

  module _ (p : Place) (a : TextAt t' p (suc f.text.lines) 0 []) (ready_at : PlaceReady p (definition.board_sizes job) (definition.types_of job) 0) (stands_at : place_of p ≡ definition.after_type (definition.types_of job) i.0) (sized : (ws : List ℕ) → length ws ≡ word_of_type (definition.board_sizes job) i.0 → definition.board_sizes ws ≡ definition.board_sizes job → definition.types_of ws ≡ definition.types_of job → WordsSoFar p (ws ++ drop 2 ns)) where
    item-step : Step (λ r. line_read fold_grammar r (some ns)) f job layouts (record { text = t'; rows = 0 }) job' layouts
    item-step =
        step-admitted ns f t' 0 job layouts job' layouts (item_line i.0 ∷ []) p read.row a ready
        (λ r k. admits-item f job layouts r k i e)
        (λ r. fold_of (definition.after_type (definition.types_of job) i.0) (r.state.job ++ drop 2 ns) [])
        (λ r k. after-item f job layouts r k ns i e)
        after
      where
        ready : FoldReady (record { text = t'; rows = 0 }) job' layouts
        ready =
            record {
              text = at_ready t' a (omega arith);
              few = zero-le;
              job-size = omega (arith, q.job-size, size);
              layouts-size = q.layouts-size;
              place = rw (a.place_is, (read.same refl).sizes, (read.same refl).types) ready_at;
            }

        after : (r : Reader Fold) → FoldKept r f job layouts → After p 0 job' layouts (fold_of (definition.after_type (definition.types_of job) i.0) (r.state.job ++ drop 2 ns) [])
        after r k =
            let vs : r.state.layouts ≡ [] = no_words r.state.layouts f.rows k.rows numbered.4 in
            record {
              stands_at = stands_at;
              job-words = read.read refl r.state.job (words r k) k.job-words;
              job-size = sized r.state.job (words r k) (sizes-here f job layouts r k) (types-here f job layouts r k);
              rows_are = refl;
              layout-words = rw vs at k.layout-words;
            }

  -- of the last type
  pub item-last : definition.types_of job' ≡ i.0 → TextAt t' Body (suc f.text.lines) 0 [] → Step (λ r. line_read fold_grammar r (some ns)) f job layouts (record { text = t'; rows = 0 }) job' layouts
  unfolding definition.after_type
  item-last h a =
      let n : definition.types_of job ≡ i.0 = sym (read.same refl).types ∙ h in
      item-step Body a (numbered.3, numbered.2)
      (rw (eq-eqb i.0 (definition.types_of job) (sym n)))
      (λ ws s z t.
      let l : 3 < length ws = omega (arith, numbered.0) in
      let g : get_or (ws ++ drop 2 ns) 2 0 ≡ get_or ws 2 0 = get_or-append ws (drop 2 ns) 0 2 (omega arith) in
      let h : get_or (ws ++ drop 2 ns) 3 0 ≡ get_or ws 3 0 = get_or-append ws (drop 2 ns) 0 3 l in
      rw (length-append ws (drop 2 ns), g, h) (omega (arith, s, z, t, n, four, numbered.0)))

  -- of another
  pub item-next : (definition.types_of job' ≡ i.0 → ⊥) → TextAt t' (Types (record { 0 = i.0 + 1 })) (suc f.text.lines) 0 [] → Step (λ r. line_read fold_grammar r (some ns)) f job layouts (record { text = t'; rows = 0 }) job' layouts
  unfolding definition.after_type
  item-next h a =
      let n : i.0 ≡ definition.types_of job → ⊥ = λ z. h ((read.same refl).types ∙ sym z) in
      let less : i.0 < definition.types_of job = lt-of-not i.0 (definition.types_of job) numbered.1 n in
      item-step (Types (record { 0 = i.0 + 1 })) a (omega (arith, numbered.2), omega arith, numbered.2, numbered.3, refl)
      (rw (ne_eqb i.0 (definition.types_of job) n, add-one i.0))
      (λ ws s z t.
      let g : get_or (ws ++ drop 2 ns) 2 0 ≡ get_or ws 2 0 = get_or-append ws (drop 2 ns) 0 2 (omega (arith, s)) in
      rw (length-append ws (drop 2 ns), g) (omega (arith, s, z, four, numbered.0)))

-- a line of kind 7
module _ (ns : List ℕ) (f : FoldReader) (t' : TextReader) (job layouts layouts' : List ℕ) (q : FoldReady f job layouts) (e : f.text.place ≡ Body) (size : length layouts' ≡ length layouts) (few : f.text.lines < max_lines) where
  pub layout-step :
      ((line : ℕ) → line_verdict 0 line ≡ numbers_row line (layout_line (held_words job) ∷ []) ns)
      → TextAt t' Body (suc f.text.lines) 0 []
      → ((ws : List ℕ) → length ws ≡ words_of_placement * f.rows → Holds layouts (take layouts_size ws) → Holds layouts' (take layouts_size (ws ++ drop 1 ns)))
      → Step (λ r. line_read fold_grammar r (some ns)) f job layouts (record { text = t'; rows = f.rows + 1 }) job layouts'
  layout-step row a put =
      step-admitted ns f t' (f.rows + 1) job layouts job layouts' (layout_line (held_words job) ∷ []) Body row a ready
      (λ r k. admits-layout f job layouts r k e)
      (λ r. fold_of definition.body r.state.job (r.state.layouts ++ drop 1 ns))
      (λ r k. after-layout f job layouts r k ns e)
      after
    where
      nine : length (drop 1 ns) ≡ words_of_placement
      nine = rw length-drop (omega (arith, shape-groups (layout_line (held_words job)) ns (of-shape 1 (layout_line (held_words job)) ns (sym (row 1)))))

      ready : FoldReady (record { text = t'; rows = f.rows + 1 }) job layouts'
      ready =
          record {
            text = at_ready t' a (omega arith);
            few = omega (arith, q.few, a.lines_are);
            job-size = q.job-size;
            layouts-size = omega (arith, q.layouts-size, size);
            place = rw a.place_is (subst (λ (p : Place). PlaceReady p (definition.board_sizes job) (definition.types_of job) f.rows) e q.place);
          }

      after : (r : Reader Fold) → FoldKept r f job layouts → After Body (f.rows + 1) job layouts' (fold_of definition.body r.state.job (r.state.layouts ++ drop 1 ns))
      after r k =
          record {
            stands_at = refl;
            job-words = k.job-words;
            job-size = subst (λ (p : Place). WordsSoFar p r.state.job) e k.job-size;
            rows_are = rw (length-append r.state.layouts (drop 1 ns)) (omega (arith, k.rows, nine));
            layout-words = put r.state.layouts k.rows k.layout-words;
          }
