-- The cuts of a set of layouts, strip after strip.
use Prim.Native.Nat.{ℕ, suc, ◌+◌, ◌*◌, ◌≤◌, ◌<◌}
use native.Mathlib.Omega.{arith}
use mathlib.Core.Path.{◌≡◌, refl, sym, ap, ◌∙◌}
use mathlib.Core.Bool.{true, cond}
use mathlib.Core.List.{List, [], ◌∷◌, ◌++◌, append_assoc, map, flat_map}
use mathlib.Core.Option.{Option, none, some}
use lib.ListN.{length, drop, length-append}
use lib.Seq.{drop-drop}
use Rattle.job.proofs.Sums.{length-sum}
use Rattle.job.specs.Sizes.{words_of_placement}
use Rattle.job.specs.Job.{Job}
use Rattle.listing.specs.Listing.{Listing, cut_at}
use Rattle.layouts.specs.Layout.{Stack, Strip, Board, Sheet, sheet, stage_rule}
use Rattle.layouts.specs.Placement.{Placement, items_of_strip}
use Rattle.layouts.specs.Lines.{Level, stack, strip, board, begun, grouped, rows_of}
use Rattle.layouts.specs.Fold.{ordered, cut_of, stack_cuts, strip_cuts, board_cuts, set_cuts}
use Rattle.layouts.proofs.patterns.Order.{ordered-strip-sum}
use Rattle.placement.specs.PlacementRead.{placement_at}
use Rattle.placement.proofs.Rows.{rows-from}
use Rattle.layouts_strips.specs.Begun.{begins_strip}
use Rattle.layouts_strips.specs.First.{first_strip, first_size, size_named, strip_of, strip_plate}
use Rattle.layouts_strips.proofs.CodeFirst.{over, first-over, first-size, behind_strip, strip-first}
use Rattle.fold_counts.specs.Strip.{strip_begun, strip_above, set_from, EachStaged}

module _ (job : Job) (l : Listing) where
  board-strip : (j : ℕ) (s : Strip) (b : Board) → board_cuts l j (s ∷ b) ≡ strip_begun l j s ++ board_cuts l (strip_above l j s) b
  unfolding board_cuts strip_begun strip_above
  board-strip j [] b = refl
  board-strip j ([] ∷ ks) b = refl
  board-strip j ((i ∷ is) ∷ ks) b = refl

  -- a set begins on the plate type of its first board's size
  pub set-start : (bs : List Sheet) → set_cuts job l bs ≡ set_from job l (first_size bs) bs
  unfolding set_cuts set_from
  set-start [] = refl
  set-start (sheet z b ∷ bs) = refl

  -- no boards, no cuts
  pub set-none : (j : ℕ) → set_from job l j [] ≡ []
  unfolding set_from
  set-none j = refl

  module _ (j : ℕ) (s : Strip) where
    set-beside : (z z' : ℕ) (b : Board) (bs : List Sheet) → set_from job l j (sheet z (s ∷ b) ∷ bs) ≡ strip_begun l j (ordered job s) ++ set_from job l (strip_above l j (ordered job s)) (sheet z' b ∷ bs)
    unfolding set_from
    set-beside z z' b bs =
        ap (λ (ks : List ℕ). ks ++ set_cuts job l bs) (board-strip j (ordered job s) (map (ordered job) b))
        ∙ append_assoc (strip_begun l j (ordered job s)) (board_cuts l (strip_above l j (ordered job s)) (map (ordered job) b)) (set_cuts job l bs)

    set-alone : (z : ℕ) (bs : List Sheet) → set_from job l j (sheet z (s ∷ []) ∷ bs) ≡ strip_begun l j (ordered job s) ++ set_from job l (first_size bs) bs
    unfolding set_from board_cuts
    set-alone z bs = set-beside z z [] bs ∙ ap (λ (ks : List ℕ). strip_begun l j (ordered job s) ++ ks) (set-start bs)

    set-over : (z : ℕ) (o : Option Level) (bs : List Sheet) → set_from job l j (over z o s bs) ≡ strip_begun l j (ordered job s) ++ set_from job l (cond (begins_strip o) (strip_above l j (ordered job s)) (first_size bs)) bs
    set-over z none [] = set-alone z []
    set-over z (some stack) [] = set-alone z []
    set-over z (some strip) [] = set-alone z [] ∙ ap (λ (ks : List ℕ). strip_begun l j (ordered job s) ++ ks) (set-none 0 ∙ sym (set-none (strip_above l j (ordered job s))))
    set-over z (some board) [] = set-alone z []
    set-over z none (b ∷ bs) = set-alone z (b ∷ bs)
    set-over z (some stack) (b ∷ bs) = set-alone z (b ∷ bs)
    set-over z (some strip) (sheet z' b ∷ bs) = set-beside z z' b bs
    set-over z (some board) (b ∷ bs) = set-alone z (b ∷ bs)

  staged-over : (z : ℕ) (o : Option Level) (s : Strip) (bs : List Sheet) → EachStaged job (over z o s bs) → (stage_rule job s ≡ true) × EachStaged job bs
  staged-over z o s [] h = (h.0.0, tt)
  staged-over z none s (b ∷ bs) h = (h.0.0, h.1)
  staged-over z (some stack) s (b ∷ bs) h = (h.0.0, h.1)
  staged-over z (some strip) s (sheet z' b ∷ bs) h = (h.0.0, (h.0.1, h.1))
  staged-over z (some board) s (b ∷ bs) h = (h.0.0, h.1)

  -- the lines from the one behind a others on: their first strip, and the lines behind it
  module _ (rs : List Placement) (r : Placement) (rs' : List Placement) (q : rs ≡ r ∷ rs') where
    first : grouped rs ≡ over (size_named rs) (begun (behind_strip (strip_of rs) rs)) (strip_of rs) (grouped (behind_strip (strip_of rs) rs))
    first =
        rw q
        (let f = strip-first r rs' in
        let after = behind_strip f.first (r ∷ rs') in
        let e : strip_of (r ∷ rs') ≡ f.first = ap first_strip f.whole ∙ first-over r.turn.board.size (begun after) f.first (grouped after) in
        rw e f.whole)

    first-cuts : (j : ℕ) → set_from job l j (grouped rs) ≡ strip_begun l j (ordered job (strip_of rs)) ++ set_from job l (strip_plate (behind_strip (strip_of rs) rs) (strip_above l j (ordered job (strip_of rs)))) (grouped (behind_strip (strip_of rs) rs))
    first-cuts j = rw (← first-size (behind_strip (strip_of rs) rs)) (ap (set_from job l j) first ∙ set-over j (strip_of rs) (size_named rs) (begun (behind_strip (strip_of rs) rs)) (grouped (behind_strip (strip_of rs) rs)))

    first-staged : EachStaged job (grouped rs) → (stage_rule job (strip_of rs) ≡ true) × EachStaged job (grouped (behind_strip (strip_of rs) rs))
    first-staged h = staged-over (size_named rs) (begun (behind_strip (strip_of rs) rs)) (strip_of rs) (grouped (behind_strip (strip_of rs) rs)) (rw first at h)

  module _ (ws : List ℕ) (lines a end : ℕ) (words : length ws ≡ words_of_placement * lines) (h : a < lines) (e : end ≡ a + length (items_of_strip (strip_of (drop a (rows_of ws))))) where
    behind : behind_strip (strip_of (drop a (rows_of ws))) (drop a (rows_of ws)) ≡ drop end (rows_of ws)
    behind = rw e (drop-drop (length (items_of_strip (strip_of (drop a (rows_of ws))))) a (rows_of ws))

    pub line-cuts : (j : ℕ) → set_from job l j (grouped (drop a (rows_of ws))) ≡ strip_begun l j (ordered job (strip_of (drop a (rows_of ws)))) ++ set_from job l (strip_plate (drop end (rows_of ws)) (strip_above l j (ordered job (strip_of (drop a (rows_of ws)))))) (grouped (drop end (rows_of ws)))
    line-cuts j = rw behind at (first-cuts (drop a (rows_of ws)) (placement_at ws a) (drop (a + 1) (rows_of ws)) (rows-from ws lines a words h) j)

    pub line-staged : EachStaged job (grouped (drop a (rows_of ws))) → (stage_rule job (strip_of (drop a (rows_of ws))) ≡ true) × EachStaged job (grouped (drop end (rows_of ws)))
    line-staged s = rw behind at (first-staged (drop a (rows_of ws)) (placement_at ws a) (drop (a + 1) (rows_of ws)) (rows-from ws lines a words h) s)

  -- no more cuts than items
  stack-number : (j : ℕ) (k : Stack) → length (stack_cuts l j k) ≡ length k
  unfolding stack_cuts
  stack-number j [] = refl
  stack-number j (i ∷ is) = ap suc (stack-number (cut_at l (cut_of l j i)).top is)

  strip-number : (j : ℕ) (s : Strip) → length (strip_cuts l j s) ≤ length (items_of_strip s)
  unfolding strip_cuts items_of_strip flat_map
  strip-number j [] = omega arith
  strip-number j ([] ∷ s) = strip-number j s
  strip-number j ((i ∷ is) ∷ s) =
      let top = (cut_at l (cut_of l j i)).top in
      let right = (cut_at l (cut_of l j i)).right in
      omega (arith, length-append (stack_cuts l top is) (strip_cuts l right s), length-append is (flat_map (λ k. k) s), stack-number top is, strip-number right s)

  begun-number : (j : ℕ) (s : Strip) → length (strip_begun l j s) ≤ length (items_of_strip s)
  unfolding strip_begun items_of_strip flat_map
  begun-number j [] = omega arith
  begun-number j ([] ∷ s) = omega arith
  begun-number j ((i ∷ is) ∷ s) =
      let right = (cut_at l (cut_of l j i)).right in
      omega (arith, length-append is (flat_map (λ k. k) s), strip-number right s)

  pub ordered-number : (j : ℕ) (s : Strip) → length (strip_begun l j (ordered job s)) ≤ length (items_of_strip s)
  ordered-number j s =
      omega (arith, begun-number j (ordered job s), length-sum (items_of_strip (ordered job s)), length-sum (items_of_strip s), ordered-strip-sum job (λ _. 1) s)
