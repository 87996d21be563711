-- The beginning of a text, lines 1, 10 and 2: what they give is the job's words, and job words are read back from their lines; one law for both texts.
use Prim.Native.Nat.{ℕ, suc, ◌≤◌}
use native.Mathlib.Omega.{arith}
use mathlib.Core.Path.{◌≡◌, refl, sym, ap, ◌∙◌, subst}
use mathlib.Core.Bool.{Bool, true, false, cond}
use mathlib.Core.List.{List, [], ◌∷◌, ◌++◌}
use lib.Dec.{eqb}
use lib.ListN.{length, take, drop}
use lib.Seq.{take_all}
use lib.ListN.{drop_of_length-le}
use borrow.Author.Tests.{eqb-true, eqb-false}
use Rattle.job.specs.Sizes.{words_of_head, words_before, job_size}
use Rattle.texts.specs.Shape.{job_line, size_line, item_line}
use Rattle.texts.specs.JobLines.{Place, first, sizes, types, body, item_prices, plate_prices, done, board_sizes, types_of, after_size, after_type}
use Rattle.texts.specs.Admitted.{InLimits, OfShape}
use Rattle.texts.specs.TextOf.{size_rows, job_rows}
use Rattle.texts.proofs.JobLaws.{SizesSoFar, JobSoFar, JobWhole, job-first, size-next, sizes-whole, job-next, head-limits, sizes-same, types-append}
use Rattle.texts.proofs.JobRows.{job_rows-sizes, size_rows-more, job_rows-more}

-- line 10 of size j comes next: the words are those of the head and of the sizes before it, and the lines are theirs
pub record AtSizes (j : ℕ) (rows : List (List ℕ)) (ws : List ℕ) : Type 0 where
  pub high : suc j ≤ board_sizes ws
  pub words : SizesSoFar j ws
  pub lines : rows ≡ job_rows ws

-- line 2 of type i comes next: the words are those of the types before it, and the lines are theirs
pub record AtTypes (i : ℕ) (rows : List (List ℕ)) (ws : List ℕ) : Type 0 where
  pub before : ℕ
  pub next : i ≡ suc before
  pub high : i ≤ types_of ws
  pub words : JobSoFar before ws
  pub lines : rows ≡ job_rows ws

-- how a text stands before its body, and where it begins
abbrev pub JobAt : Place → List (List ℕ) → List ℕ → Type 0
JobAt first rows ws = rows ≡ []
JobAt (sizes j) rows ws = AtSizes j rows ws
JobAt (types i) rows ws = AtTypes i rows ws
JobAt body rows ws = JobWhole ws × (rows ≡ job_rows ws)
JobAt (item_prices i) rows ws = ⊥
JobAt (plate_prices j) rows ws = ⊥
JobAt done rows ws = ⊥

-- line 1
pub first_read : (rows : List (List ℕ)) (ns : List ℕ) → rows ≡ [] → OfShape job_line ns → JobAt (sizes 0) (rows ++ (ns ∷ [])) (drop 1 ns)
unfolding size_rows
first_read rows ns e o =
    let j = job-first o.others o.limits in
    let size = j.size in
    let t : take words_of_head o.others ≡ o.others = take_all words_of_head o.others (omega arith) in
    let d : drop words_of_head o.others ≡ [] = drop_of_length-le o.others {i = words_of_head} (omega arith) in
    let l : job_rows o.others ≡ (1 ∷ o.others) ∷ [] = job_rows-sizes 0 o.others size (omega arith) ∙ rw (t, d) refl in
    rw (e, o.numbers)
    (record { high = (head-limits o.others j.head).some_size; words = j; lines = sym l })

-- line 10 of size j
pub sizes-read :
    (j : ℕ) (rows : List (List ℕ)) (ws ns : List ℕ)
    → AtSizes j rows ws
    → OfShape (size_line j) ns
    → JobAt (after_size (board_sizes ws) j) (rows ++ (ns ∷ [])) (ws ++ drop 2 ns)
unfolding after_size
sizes-read j rows ws ns a o = rw o.numbers (three o.others o.limits)
  where
    size : length ws ≡ words_before j
    size = a.words.size

    three :
        (vs : List ℕ)
        → InLimits (size_line j).limits vs
        → JobAt (cond (eqb (suc j) (board_sizes ws)) (types 1) (sizes (suc j))) (rows ++ ((10 ∷ j ∷ vs) ∷ [])) (ws ++ vs)
    three [] h = absurd h
    three (w ∷ []) h = absurd h.2
    three (w ∷ t ∷ []) h = absurd h.2.2
    three (w ∷ t ∷ c ∷ []) h = go (eqb (suc j) (board_sizes ws)) refl
      where
        us : List ℕ
        us = ws ++ (w ∷ t ∷ c ∷ [])

        next : SizesSoFar (suc j) us
        next = size-next j j ws (w ∷ t ∷ c ∷ []) a.words h

        same : board_sizes us ≡ board_sizes ws
        same = sizes-same ws (w ∷ t ∷ c ∷ []) (omega arith)

        lines : rows ++ ((10 ∷ j ∷ w ∷ t ∷ c ∷ []) ∷ []) ≡ job_rows us
        lines = sym (size_rows-more j ws w t c size a.high ∙ rw a.lines refl)

        go : (b : Bool) → eqb (suc j) (board_sizes ws) ≡ b → JobAt (cond b (types 1) (sizes (suc j))) (rows ++ ((10 ∷ j ∷ w ∷ t ∷ c ∷ []) ∷ [])) us
        go true e =
            let n : suc j ≡ board_sizes us = omega (arith, eqb-true (suc j) (board_sizes ws) e, same) in
            record {
              before = 0;
              next = refl;
              high = (head-limits us next.head).some-type;
              words = sizes-whole us (subst (λ (k : ℕ). SizesSoFar k us) n next);
              lines = lines;
            }
        go false e =
            record { high = omega (arith, a.high, eqb-false (suc j) (board_sizes ws) e, same); words = next; lines = lines }
    three (w ∷ t ∷ c ∷ u ∷ vs) h = absurd h.2.2.2

-- line 2 of type i
pub types-read :
    (i : ℕ) (rows : List (List ℕ)) (ws ns : List ℕ)
    → AtTypes i rows ws
    → OfShape (item_line i) ns
    → JobAt (after_type (types_of ws) i) (rows ++ (ns ∷ [])) (ws ++ drop 2 ns)
unfolding after_type
types-read i rows ws ns a o = rw o.numbers (four o.others o.limits)
  where
    size : length ws ≡ job_size (board_sizes ws) a.before
    size = a.words.size

    four :
        (vs : List ℕ)
        → InLimits (item_line i).limits vs
        → JobAt (cond (eqb i (types_of ws)) body (types (suc i))) (rows ++ ((2 ∷ i ∷ vs) ∷ [])) (ws ++ vs)
    four [] h = absurd h
    four (w ∷ []) h = absurd h.2
    four (w ∷ t ∷ []) h = absurd h.2.2
    four (w ∷ t ∷ d ∷ []) h = absurd h.2.2.2
    four (w ∷ t ∷ d ∷ v ∷ []) h = go (eqb i (types_of ws)) refl
      where
        us : List ℕ
        us = ws ++ (w ∷ t ∷ d ∷ v ∷ [])

        next : JobSoFar (suc a.before) us
        next = job-next i a.before ws (w ∷ t ∷ d ∷ v ∷ []) a.words h

        same : types_of us ≡ types_of ws
        same = types-append ws (w ∷ t ∷ d ∷ v ∷ []) (omega arith)

        lines : rows ++ ((2 ∷ i ∷ w ∷ t ∷ d ∷ v ∷ []) ∷ []) ≡ job_rows us
        lines = sym (job_rows-more a.before ws w t d v size ∙ rw (a.lines, a.next) refl)

        go : (b : Bool) → eqb i (types_of ws) ≡ b → JobAt (cond b body (types (suc i))) (rows ++ ((2 ∷ i ∷ w ∷ t ∷ d ∷ v ∷ []) ∷ [])) us
        go true e =
            let n : suc a.before ≡ types_of us = omega (arith, eqb-true i (types_of ws) e, a.next, same) in
            (subst (λ (k : ℕ). JobSoFar k us) n next, lines)
        go false e =
            record {
              before = suc a.before;
              next = ap suc a.next;
              high = omega (arith, a.high, eqb-false i (types_of ws) e, same);
              words = next;
              lines = lines;
            }
    four (w ∷ t ∷ d ∷ v ∷ u ∷ vs) h = absurd h.2.2.2.2
