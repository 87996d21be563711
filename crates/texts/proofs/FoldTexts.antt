-- What a fold text holds, both ways: its lines are those of its job words and layout words, and from these lines they are read back.
use Prim.Native.Nat.{ℕ, suc, ◌+◌, ◌*◌}
use native.Mathlib.Omega.{arith}
use mathlib.Core.Path.{◌≡◌, refl, sym, ap, ◌∙◌, subst}
use mathlib.Core.Logic.{inl, inr}
use mathlib.Core.Bool.{true}
use mathlib.Core.List.{List, [], ◌∷◌, ◌++◌, map, append_assoc, append-nil}
use lib.ListN.{length, drop}
use Rattle.job.specs.Verdict.{pass, lowest}
use Rattle.job.specs.Job.{permitted, job_of}
use Rattle.job.proofs.Positions.{type-of, turn-of}
use Rattle.job.proofs.Tests.{not-both}
use Rattle.layouts.specs.Placement.{opened, Placement, placement_words, placement_of}
use Rattle.layouts.specs.Lines.{lines_in, rows_of, layout_words}
use Rattle.layouts.specs.Rules.{Every}
use Rattle.layouts.proofs.row.RowWords.{RowOk}
use Rattle.columns.specs.Widths.{most_numbers}
use Rattle.texts.specs.Shape.{layout_line}
use Rattle.texts.specs.JobLines.{Place, first, sizes, types, body, item_prices, plate_prices, done, board_sizes, types_of, after_size, after_type}
use Rattle.texts.specs.SawText.{placement_row}
use Rattle.texts.specs.FoldText.{Fold, fold_admits, fold_after, fold_complete, fold_grammar, fold_of}
use Rattle.texts.specs.Admitted.{InLimits, OfShape, Admitted, Runs}
use Rattle.texts.specs.TextOf.{job_rows, fold_rows_of}
use Rattle.texts.specs.Held.{FoldWhole, FoldBothWays}
use Rattle.texts.proofs.Lists.{map-append}
use Rattle.texts.proofs.ShapeLaws.{narrow-layout, shape-fits, Kinds, Shorter}
use Rattle.texts.proofs.Running.{Plain, runs_append, runs-keep}
use Rattle.texts.proofs.WholeTexts.{both_ways}
use Rattle.texts.proofs.JobLaws.{JobWhole, job-passes, passes-job, job-types, job-sizes, board-types, board-sizes}
use Rattle.texts.proofs.JobText.{AtSizes, AtTypes, JobAt, first_read, sizes-read, types-read}
use Rattle.texts.proofs.JobRuns.{Opens, job-runs}
use Rattle.texts.proofs.WordGroups.{nines}
use Rattle.texts.proofs.LayoutRows.{rows_append, nine_words, words-again, rows_ok, words_more, ok-row}

-- ---- from lines to what they give

-- the layout words so far pass their own row, and the lines are those of what is held
pub record LaidOut (rows : List (List ℕ)) (f : Fold) : Type 0 where
  pub job : JobWhole f.job
  pub words : layout_words (job_of f.job) f.layouts ≡ pass
  pub lines : rows ≡ fold_rows_of f

-- by the place
abbrev pub FoldForm : Place → List (List ℕ) → Fold → Type 0
FoldForm first rows f = rows ≡ []
FoldForm (sizes j) rows f = AtSizes j rows f.job
FoldForm (types i) rows f = AtTypes i rows f.job
FoldForm body rows f = LaidOut rows f
FoldForm (item_prices i) rows f = ⊥
FoldForm (plate_prices j) rows f = ⊥
FoldForm done rows f = ⊥

-- where a fold text stands after the lines `rows`
abbrev pub FoldAt : List (List ℕ) → Fold → Type 0
FoldAt rows f = FoldForm f.place rows f

-- the job's lines bring a fold text to its body, with no layouts yet
from-job : (p : Place) (rows : List (List ℕ)) (ws : List ℕ) → JobAt p rows ws → FoldForm p rows (fold_of p ws [])
unfolding fold_rows_of rows_of lines_in layout_words lowest
from-job first rows ws j = j
from-job (sizes i) rows ws j = j
from-job (types i) rows ws j = j
from-job body rows ws j = record { job = j.0; words = refl; lines = j.1 ∙ sym (append-nil (job_rows ws)) }
from-job (item_prices i) rows ws j = absurd j
from-job (plate_prices i) rows ws j = absurd j
from-job done rows ws j = absurd j

-- one line 7 more
layout-more :
    (rows : List (List ℕ)) (ws us : List ℕ) (b j s k p i x y t : ℕ)
    → LaidOut rows (fold_of body ws us)
    → InLimits (layout_line ws).limits (b ∷ j ∷ s ∷ k ∷ p ∷ i ∷ x ∷ y ∷ t ∷ [])
    → permitted (job_of ws) (2 * i + t) ≡ true
    → LaidOut (rows ++ ((7 ∷ b ∷ j ∷ s ∷ k ∷ p ∷ i ∷ x ∷ y ∷ t ∷ []) ∷ [])) (fold_of body ws (us ++ (b ∷ j ∷ s ∷ k ∷ p ∷ i ∷ x ∷ y ∷ t ∷ [])))
unfolding fold_rows_of rows_of lines_in placement_row
layout-more rows ws us b j s k p i x y t l h m =
    let q : Placement = placement_of (opened b j) s k p (2 * i + t) x y in
    let vs : List ℕ = b ∷ j ∷ s ∷ k ∷ p ∷ i ∷ x ∷ y ∷ t ∷ [] in
    let size = nine_words (job_of ws) us l.words in
    let e : rows_of (us ++ vs) ≡ rows_of us ++ (q ∷ []) = rows_append (nines (length (rows_of us)) us size) vs in
    let row : placement_row q ≡ 7 ∷ vs = rw (type-of i t (omega arith), turn-of i t (omega arith)) in
    record {
      job = l.job;
      words = words_more ws (job-sizes ws l.job) (job-types ws l.job) (board-sizes ws l.job.board).0 us b j s k p i x y t l.words h m;
      lines =
          ap (λ (r : List (List ℕ)). r ++ ((7 ∷ vs) ∷ [])) l.lines
          ∙ append_assoc (job_rows ws) (map placement_row (rows_of us)) ((7 ∷ vs) ∷ [])
          ∙ ap (λ (ns : List ℕ). job_rows ws ++ (map placement_row (rows_of us) ++ (ns ∷ []))) (sym row)
          ∙ ap (λ (r : List (List ℕ)). job_rows ws ++ r) (sym (map-append placement_row (rows_of us) (q ∷ [])) ∙ ap (map placement_row) (sym e));
    }

layout-read :
    (rows : List (List ℕ)) (ws us ns : List ℕ)
    → LaidOut rows (fold_of body ws us)
    → OfShape (layout_line ws) ns
    → LaidOut (rows ++ (ns ∷ [])) (fold_of body ws (us ++ drop 1 ns))
layout-read rows ws us ns l o = rw o.numbers (nine o.others o.limits o.turned)
  where
    nine :
        (vs : List ℕ)
        → InLimits (layout_line ws).limits vs
        → (layout_line ws).permits vs ≡ true
        → LaidOut (rows ++ ((7 ∷ vs) ∷ [])) (fold_of body ws (us ++ vs))
    nine [] h m = absurd h
    nine (a ∷ []) h m = absurd h.2
    nine (a ∷ b ∷ []) h m = absurd h.2.2
    nine (a ∷ b ∷ c ∷ []) h m = absurd h.2.2.2
    nine (a ∷ b ∷ c ∷ d ∷ []) h m = absurd h.2.2.2.2
    nine (a ∷ b ∷ c ∷ d ∷ e ∷ []) h m = absurd h.2.2.2.2.2
    nine (a ∷ b ∷ c ∷ d ∷ e ∷ f ∷ []) h m = absurd h.2.2.2.2.2.2
    nine (a ∷ b ∷ c ∷ d ∷ e ∷ f ∷ g ∷ []) h m = absurd h.2.2.2.2.2.2.2
    nine (a ∷ b ∷ c ∷ d ∷ e ∷ f ∷ g ∷ u ∷ []) h m = absurd h.2.2.2.2.2.2.2.2
    nine (a ∷ b ∷ c ∷ d ∷ e ∷ f ∷ g ∷ u ∷ t ∷ []) h m = layout-more rows ws us a b c d e f g u t l h m
    nine (a ∷ b ∷ c ∷ d ∷ e ∷ f ∷ g ∷ u ∷ t ∷ v ∷ vs) h m = absurd h.2.2.2.2.2.2.2.2.2

fold_step :
    (p : Place) (ws us : List ℕ) (rows : List (List ℕ)) (ns : List ℕ)
    → FoldForm p rows (fold_of p ws us)
    → Admitted (fold_admits (fold_of p ws us)) ns
    → FoldAt (rows ++ (ns ∷ [])) (fold_after (fold_of p ws us) ns)
unfolding fold_admits fold_after
fold_step first ws us rows ns h (inl a) = from-job (sizes 0) (rows ++ (ns ∷ [])) (drop 1 ns) (first_read rows ns h a)
fold_step first ws us rows ns h (inr a) = absurd a
fold_step (sizes j) ws us rows ns h (inl a) = from-job (after_size (board_sizes ws) j) (rows ++ (ns ∷ [])) (ws ++ drop 2 ns) (sizes-read j rows ws ns h a)
fold_step (sizes j) ws us rows ns h (inr a) = absurd a
fold_step (types i) ws us rows ns h (inl a) = from-job (after_type (types_of ws) i) (rows ++ (ns ∷ [])) (ws ++ drop 2 ns) (types-read i rows ws ns h a)
fold_step (types i) ws us rows ns h (inr a) = absurd a
fold_step body ws us rows ns h (inl a) = layout-read rows ws us ns h a
fold_step body ws us rows ns h (inr a) = absurd a
fold_step (item_prices i) ws us rows ns h a = absurd a
fold_step (plate_prices j) ws us rows ns h a = absurd a
fold_step done ws us rows ns h a = absurd a

-- wherever lines bring a fold text
pub fold_at : (rows : List (List ℕ)) (f : Fold) → Runs fold_grammar fold_grammar.start rows f → FoldAt rows f
fold_at rows f r =
    runs-keep fold_grammar FoldAt (λ d t ns h a. fold_step t.place t.job t.layouts d ns h a)
    [] fold_grammar.start f rows refl r

-- ---- from what is held to lines

shapes : (p : Place) (ws us : List ℕ) → Kinds (fold_admits (fold_of p ws us)) × Shorter (suc most_numbers) (fold_admits (fold_of p ws us))
unfolding fold_admits
shapes first ws us = omega arith
shapes (sizes j) ws us = omega arith
shapes (types i) ws us = omega arith
shapes body ws us = omega arith
shapes (item_prices i) ws us = (tt, tt)
shapes (plate_prices j) ws us = (tt, tt)
shapes done ws us = (tt, tt)

-- each kind stands once among the lines admitted, and none has more than ten numbers
pub fold-plain : Plain fold_grammar
fold-plain = record { kinds = λ f. (shapes f.place f.job f.layouts).0; short = λ f. (shapes f.place f.job f.layouts).1 }

-- a fold text begins with the job's lines
pub fold-opens : Opens fold_grammar (λ p ws. fold_of p ws [])
unfolding fold_admits fold_after
fold-opens =
    record {
      start = refl;
      admits-first = refl;
      admits-sizes = λ j ws. refl;
      admits-types = λ i ws. refl;
      after_first = λ ns. refl;
      after-sizes = λ j ws ns. refl;
      after-types = λ i ws ns. refl;
    }

-- lines 7, each within its limits
pub layouts-run :
    (ws us : List ℕ) (ps : List Placement)
    → JobWhole ws
    → Every (RowOk (job_of ws)) ps
    → Runs fold_grammar (fold_of body ws us) (map placement_row ps) (fold_of body ws (us ++ placement_words ps))
unfolding fold_admits fold_after placement_words mathlib.Core.List.flat_map placement_row
layouts-run ws us [] j h = ap (fold_of body ws) (sym (append-nil us))
layouts-run ws us (p ∷ ps) j h =
    let n = board-types ws j.board in
    let z = board-sizes ws j.board in
    let shape = ok-row ws (job-sizes ws j) (job-types ws j) z.0 p h.0 in (
      inl shape,
      shape-fits (layout_line ws) (placement_row p) (narrow-layout ws (omega arith) (omega arith)) shape,
      rw append_assoc at (layouts-run ws (us ++ drop 1 (placement_row p)) ps j h.1),
    )

-- all that a fold text holds
pub fold_runs : (f : Fold) → FoldWhole f → Runs fold_grammar fold_grammar.start (fold_rows_of f) f
unfolding fold_rows_of
fold_runs f h =
    let j = passes-job f.job h.job in
    let words = words-again (job_of f.job) f.layouts h.layouts in
    let r = layouts-run f.job [] (rows_of f.layouts) j (rows_ok (job_of f.job) (rows_of f.layouts) (ap (layout_words (job_of f.job)) words ∙ h.layouts)) in
    let e : fold_of body f.job (placement_words (rows_of f.layouts)) ≡ f = λ i. fold_of (sym h.place i) f.job (words i) in
    runs_append fold_grammar fold_grammar.start (fold_of body f.job []) f (job_rows f.job) (map placement_row (rows_of f.layouts))
    (job-runs fold_grammar (λ p ws. fold_of p ws []) fold-opens f.job j)
    (subst (λ (t : Fold). Runs fold_grammar (fold_of body f.job []) (map placement_row (rows_of f.layouts)) t) e r)

-- ---- whole texts

complete-held :
    (p : Place) (ws us : List ℕ) (rows : List (List ℕ))
    → FoldForm p rows (fold_of p ws us)
    → fold_complete (fold_of p ws us) ≡ true
    → FoldWhole (fold_of p ws us) × (rows ≡ fold_rows_of (fold_of p ws us))
unfolding fold_complete
complete-held first ws us rows h c = absurd (not-both c refl)
complete-held (sizes j) ws us rows h c = absurd (not-both c refl)
complete-held (types i) ws us rows h c = absurd (not-both c refl)
complete-held body ws us rows h c = (
  record { place = refl; job = job-passes ws h.job; layouts = h.words },
  h.lines,
)
complete-held (item_prices i) ws us rows h c = absurd h
complete-held (plate_prices j) ws us rows h c = absurd h
complete-held done ws us rows h c = absurd h

fold-complete : (f : Fold) → FoldWhole f → fold_complete f ≡ true
unfolding fold_complete
fold-complete f h = rw (h.place, fold_complete)

-- fold texts both ways
pub fold-both-ways : FoldBothWays
fold-both-ways =
    both_ways fold_grammar fold-plain FoldWhole fold_rows_of
    (λ nss f r c. complete-held f.place f.job f.layouts nss (fold_at nss f r) c)
    (λ f h. (fold_runs f h, fold-complete f h))
