-- Job words that pass are read back from their lines: a text that begins with them stands at its body with these words.
use Prim.Native.Nat.{ℕ, suc, ◌+◌, ◌-◌, ◌*◌, ◌≤◌}
use native.Mathlib.Omega.{arith}
use mathlib.Core.Path.{◌≡◌, refl, sym, ap, ◌∙◌}
use mathlib.Core.Logic.{inl}
use mathlib.Core.Bool.{true, false, ◌&&◌}
use mathlib.Core.List.{List, [], ◌∷◌, ◌++◌, append_assoc}
use lib.Dec.{eqb}
use lib.ListN.{length, take, drop, length-append, length-drop, take-append-drop}
use lib.Seq.{length-take-le, get_or-take, take-add}
use borrow.Author.Tests.{eq-eqb, ne_eqb, not-false}
use Rattle.job.specs.Sizes.{max_blade, max_sizes, max_cost, words_of_head, words_of_size, words_of_item, words_before}
use Rattle.job.specs.Lists.{all}
use Rattle.job.specs.Verdict.{pass, within, lowest}
use Rattle.job.specs.Job.{max_side, max_types, max_pieces, size, sizes_of, item, items_of, head_right, size_right, item_right}
use Rattle.job.proofs.Lists.{all_cons}
use Rattle.texts.specs.Shape.{job_line, size_line, item_line}
use Rattle.texts.specs.Reader.{Grammar}
use Rattle.texts.specs.JobLines.{Place, first, sizes, types, body, board_sizes, types_of, after_size, after_type}
use Rattle.texts.specs.Admitted.{OfShape, Runs}
use Rattle.texts.specs.TextOf.{size_rows, item_rows, job_rows}
use Rattle.texts.proofs.WordGroups.{Threes, no_size, one_size, threes, Fours, no-type, one_type, fours}
use Rattle.texts.proofs.Basics.{and_parts, within-parts, lowest-parts}
use Rattle.texts.proofs.ShapeLaws.{narrow-job, narrow_size, narrow-item, shape-fits}
use Rattle.texts.proofs.Running.{runs_append}
use Rattle.texts.proofs.JobLaws.{bad_item, JobWhole, head-append, sizes-same, types-append, size_words, type_words, board-head, board-stock, head-limits}

-- a grammar that begins with the job's lines; `at p ws` is where it stands at place p with the job words ws and nothing more
pub record Opens {S : Type 0} (g : Grammar S) (at : Place → List ℕ → S) : Type 0 where
  pub start : g.start ≡ at first []
  pub admits-first : g.admits (at first []) ≡ job_line ∷ []
  pub admits-sizes : (j : ℕ) (ws : List ℕ) → g.admits (at (sizes j) ws) ≡ size_line j ∷ []
  pub admits-types : (i : ℕ) (ws : List ℕ) → g.admits (at (types i) ws) ≡ item_line i ∷ []
  pub after_first : (ns : List ℕ) → g.after (at first []) ns ≡ at (sizes 0) (drop 1 ns)
  pub after-sizes : (j : ℕ) (ws ns : List ℕ) → g.after (at (sizes j) ws) ns ≡ at (after_size (board_sizes ws) j) (ws ++ drop 2 ns)
  pub after-types : (i : ℕ) (ws ns : List ℕ) → g.after (at (types i) ws) ns ≡ at (after_type (types_of ws) i) (ws ++ drop 2 ns)

-- the five words of the head as a line 1
head-shape : (ws : List ℕ) → length ws ≡ words_of_head → head_right ws ≡ true → OfShape job_line (1 ∷ ws)
unfolding head_right
head-shape [] e h = absurd (omega arith)
head-shape (a ∷ []) e h = absurd (omega arith)
head-shape (a ∷ b ∷ []) e h = absurd (omega arith)
head-shape (a ∷ b ∷ c ∷ []) e h = absurd (omega arith)
head-shape (a ∷ b ∷ c ∷ n ∷ []) e h = absurd (omega arith)
head-shape (a ∷ b ∷ c ∷ n ∷ g ∷ []) e h =
    let o = and_parts (within 2 3 a && within 0 1 b && within 1 max_sizes c && within 1 max_types n) (within 0 max_blade g) h in
    let p = and_parts (within 2 3 a && within 0 1 b && within 1 max_sizes c) (within 1 max_types n) o.0 in
    let r = and_parts (within 2 3 a && within 0 1 b) (within 1 max_sizes c) p.0 in
    let s = and_parts (within 2 3 a) (within 0 1 b) r.0 in
    let A = within-parts 2 3 a s.0 in
    let B = within-parts 0 1 b s.1 in
    let C = within-parts 1 max_sizes c r.1 in
    let N = within-parts 1 max_types n p.1 in
    let G = within-parts 0 max_blade g o.1 in
    record { others = a ∷ b ∷ c ∷ n ∷ g ∷ []; numbers = refl; limits = omega arith; turned = refl }
head-shape (a ∷ b ∷ c ∷ n ∷ g ∷ v ∷ vs) e h = absurd (omega arith)

-- the three words of a size as a line 10
size-shape : (j w h c : ℕ) → size_right (size w h c) ≡ true → OfShape (size_line j) (10 ∷ j ∷ w ∷ h ∷ c ∷ [])
unfolding size_right
size-shape j w h c e =
    let p = and_parts (within 1 max_side w && within 1 max_side h) (within 1 max_cost c) e in
    let q = and_parts (within 1 max_side w) (within 1 max_side h) p.0 in
    let W = within-parts 1 max_side w q.0 in
    let H = within-parts 1 max_side h q.1 in
    let C = within-parts 1 max_cost c p.1 in
    record { others = w ∷ h ∷ c ∷ []; numbers = refl; limits = omega arith; turned = refl }

-- the four words of a type as a line 2
item-shape : (i w h d v : ℕ) → item_right (item w h d v) ≡ true → OfShape (item_line i) (2 ∷ i ∷ w ∷ h ∷ d ∷ v ∷ [])
unfolding item_right
item-shape i w h d v e =
    let o = and_parts (within 1 max_side w && within 1 max_side h && within 1 max_pieces d) (within 0 1 v) e in
    let p = and_parts (within 1 max_side w && within 1 max_side h) (within 1 max_pieces d) o.0 in
    let q = and_parts (within 1 max_side w) (within 1 max_side h) p.0 in
    let W = within-parts 1 max_side w q.0 in
    let H = within-parts 1 max_side h q.1 in
    let D = within-parts 1 max_pieces d p.1 in
    let L = within-parts 0 1 v o.1 in
    record { others = w ∷ h ∷ d ∷ v ∷ []; numbers = refl; limits = omega arith; turned = refl }

module _ {S : Type 0} (g : Grammar S) (at : Place → List ℕ → S) (o : Opens g at) where
  -- one line 10
  size_runs :
      (j : ℕ) (ws : List ℕ) (w h c : ℕ) (rows : List (List ℕ)) (t : S)
      → size_right (size w h c) ≡ true
      → j ≤ max_sizes
      → Runs g (at (after_size (board_sizes ws) j) (ws ++ (w ∷ h ∷ c ∷ []))) rows t
      → Runs g (at (sizes j) ws) ((10 ∷ j ∷ w ∷ h ∷ c ∷ []) ∷ rows) t
  size_runs j ws w h c rows t e l r =
      let ns : List ℕ = 10 ∷ j ∷ w ∷ h ∷ c ∷ [] in
      let shape = size-shape j w h c e in
      (rw (o.admits-sizes j ws) (inl shape), shape-fits (size_line j) ns (narrow_size j (omega arith)) shape, rw (o.after-sizes j ws ns) r)

  -- the lines 10 of the m sizes from size k on; `ws` are the words before them, `us` theirs
  sizes_run :
      (k : ℕ) (ws : List ℕ) {us : List ℕ} {m : ℕ}
      → Threes us m
      → 1 ≤ m
      → words_of_head ≤ length ws
      → board_sizes ws ≡ k + m
      → board_sizes ws ≤ max_sizes
      → all size_right (sizes_of us) ≡ true
      → Runs g (at (sizes k) ws) (size_rows k us) (at (types 1) (ws ++ us))
  unfolding size_rows sizes_of after_size
  sizes_run k ws no_size u l t n h = absurd (omega arith)
  sizes_run k ws (one_size {a = a} {b = b} {c = c} no_size) u l t n h =
      let p = and_parts (size_right (size a b c)) (all size_right []) (rw all_cons at h) in
      let last : eqb (suc k) (board_sizes ws) ≡ true = eq-eqb (suc k) (board_sizes ws) (omega arith) in
      size_runs k ws a b c [] (at (types 1) (ws ++ (a ∷ b ∷ c ∷ []))) p.0 (omega arith) (rw last)
  sizes_run k ws (one_size {a = a} {b = b} {c = c} {ws = us} (one_size s)) u l t n h =
      let p = and_parts (size_right (size a b c)) (all size_right (sizes_of us)) (rw all_cons at h) in
      let more : eqb (suc k) (board_sizes ws) ≡ false = ne_eqb (suc k) (board_sizes ws) (λ q. omega arith) in
      let ws' : List ℕ = ws ++ (a ∷ b ∷ c ∷ []) in
      let same : board_sizes ws' ≡ board_sizes ws = sizes-same ws (a ∷ b ∷ c ∷ []) l in
      let size' : length ws' ≡ length ws + words_of_size = length-append ws (a ∷ b ∷ c ∷ []) in
      let r = sizes_run (suc k) ws' (one_size s) (omega arith) (omega arith) (omega arith) (omega arith) p.1 in
      size_runs k ws a b c (size_rows (suc k) us) (at (types 1) (ws ++ (a ∷ b ∷ c ∷ us))) p.0 (omega arith)
      (rw more (rw append_assoc at r))

  -- one line 2
  item-runs :
      (i : ℕ) (ws : List ℕ) (w h d v : ℕ) (rows : List (List ℕ)) (t : S)
      → item_right (item w h d v) ≡ true
      → i ≤ max_types
      → Runs g (at (after_type (types_of ws) i) (ws ++ (w ∷ h ∷ d ∷ v ∷ []))) rows t
      → Runs g (at (types i) ws) ((2 ∷ i ∷ w ∷ h ∷ d ∷ v ∷ []) ∷ rows) t
  item-runs i ws w h d v rows t e l r =
      let ns : List ℕ = 2 ∷ i ∷ w ∷ h ∷ d ∷ v ∷ [] in
      let shape = item-shape i w h d v e in
      (rw (o.admits-types i ws) (inl shape), shape-fits (item_line i) ns (narrow-item i (omega arith)) shape, rw (o.after-types i ws ns) r)

  -- the lines 2 of the m types after type k; `ws` are the words before them, `us` theirs
  items-run :
      (k : ℕ) (ws : List ℕ) {us : List ℕ} {m : ℕ}
      → Fours us m
      → 1 ≤ m
      → words_of_head ≤ length ws
      → types_of ws ≡ k + m
      → types_of ws ≤ max_types
      → lowest 2 bad_item (suc k) (items_of us) ≡ pass
      → Runs g (at (types (suc k)) ws) (item_rows (suc k) us) (at body (ws ++ us))
  unfolding item_rows items_of after_type
  items-run k ws no-type u l t n h = absurd (omega arith)
  items-run k ws (one_type {a = a} {b = b} {c = c} {d = d} no-type) u l t n h =
      let p = lowest-parts 2 bad_item (suc k) (item a b c d) [] h in
      let last : eqb (suc k) (types_of ws) ≡ true = eq-eqb (suc k) (types_of ws) (omega arith) in
      let right = not-false (item_right (item a b c d)) p.0 in
      item-runs (suc k) ws a b c d [] (at body (ws ++ (a ∷ b ∷ c ∷ d ∷ []))) right (omega arith) (rw last)
  items-run k ws (one_type {a = a} {b = b} {c = c} {d = d} {ws = us} (one_type s)) u l t n h =
      let p = lowest-parts 2 bad_item (suc k) (item a b c d) (items_of us) h in
      let more : eqb (suc k) (types_of ws) ≡ false = ne_eqb (suc k) (types_of ws) (λ q. omega arith) in
      let ws' : List ℕ = ws ++ (a ∷ b ∷ c ∷ d ∷ []) in
      let same : types_of ws' ≡ types_of ws = types-append ws (a ∷ b ∷ c ∷ d ∷ []) l in
      let size : length ws' ≡ length ws + words_of_item = length-append ws (a ∷ b ∷ c ∷ d ∷ []) in
      let r = items-run (suc k) ws' (one_type s) (omega arith) (omega arith) (omega arith) (omega arith) p.1 in
      let right = not-false (item_right (item a b c d)) p.0 in
      item-runs (suc k) ws a b c d (item_rows (suc (suc k)) us) (at body (ws ++ (a ∷ b ∷ c ∷ d ∷ us))) right (omega arith)
      (rw more (rw append_assoc at r))

  -- job words with all their types
  pub job-runs : (ws : List ℕ) → JobWhole ws → Runs g g.start (job_rows ws) (at body ws)
  unfolding job_rows
  job-runs ws j =
      let size' = j.size in
      let n = head-limits ws (board-head ws j.board) in
      let head : List ℕ = take words_of_head ws in
      let front : List ℕ = head ++ size_words ws in
      let l : length (drop words_of_head ws) ≡ length ws - words_of_head = length-drop words_of_head ws in
      let five : length head ≡ words_of_head = length-take-le words_of_head ws (omega arith) in
      let three_each : length (size_words ws) ≡ words_of_size * board_sizes ws = length-take-le (words_of_size * board_sizes ws) (drop words_of_head ws) (omega arith) in
      let before : front ≡ take (words_before (board_sizes ws)) ws = sym (take-add words_of_head (words_of_size * board_sizes ws) ws) in
      let whole : front ++ type_words ws ≡ ws = ap (λ (us : List ℕ). us ++ type_words ws) before ∙ take-append-drop (words_before (board_sizes ws)) ws in
      let sizes' : board_sizes head ≡ board_sizes ws = get_or-take words_of_head ws 2 0 (omega arith) in
      let types' : types_of front ≡ types_of ws = types-append head (size_words ws) (omega arith) ∙ get_or-take words_of_head ws 3 0 (omega arith) in
      let right : head_right head ≡ true = sym (head-append head (drop words_of_head ws) (omega arith)) ∙ ap head_right (take-append-drop words_of_head ws) ∙ board-head ws j.board in
      let shape = head-shape head five right in
      let z = sizes_run 0 head (threes (board_sizes ws) (size_words ws) three_each) n.some_size (omega arith) (omega arith) (omega arith) (board-stock ws j.board) in
      let rest = fours (types_of ws) (type_words ws) (length-drop (words_before (board_sizes ws)) ws ∙ omega arith) in
      let r = items-run 0 front rest n.some-type (rw length-append (omega arith)) (omega arith) (omega arith) j.items in
      rw o.start (
        rw o.admits-first (inl shape),
        shape-fits job_line (1 ∷ head) narrow-job shape,
        rw (o.after_first (1 ∷ head))
            (runs_append g (at (sizes 0) head) (at (types 1) front) (at body ws) (size_rows 0 (size_words ws)) (item_rows 1 (type_words ws)) z (rw whole at r)),
      )
