-- The loop over the strips of a set, on plain values: the cuts of the strips so far, and those that are left, make the cuts of the set.
use Prim.Native.Nat.{ℕ, ◌+◌, ◌*◌, ◌≤◌, ◌<◌}
use native.Mathlib.Omega.{arith}
use mathlib.Core.Path.{◌≡◌, refl, sym, ap, ◌∙◌}
use mathlib.Core.Bool.{Bool, true, false}
use mathlib.Core.List.{List, [], ◌∷◌, ◌++◌, append_assoc, append-nil}
use lib.Dec.{ltb}
use lib.ListN.{length, get_or, drop, replicate, length-append, get_or-eq_default}
use lib.Seq.{ext_get_or}
use borrow.Author.Tests.{ltb-true, ltb-false}
use Rattle.job.specs.Sizes.{max_pieces, words_of_placement}
use Rattle.job.specs.Lists.{tally, occurs}
use Rattle.job.specs.Buffers.{filled}
use Rattle.job.proofs.Sums.{tally-length, tally-at, occurs-length}
use Rattle.job.proofs.Buffers.{filled-length, filled-read}
use Rattle.job.specs.Mode.{three}
use Rattle.job.specs.Job.{Job}
use Rattle.listing.specs.Listing.{Listing, cut_at}
use Rattle.listing.specs.Holds.{Holds}
use Rattle.listing.proofs.CodeHolds.{held_word, cleared}
use Rattle.layouts.specs.Layout.{Strip, strip_height, full_stack, stage_rule}
use Rattle.layouts.specs.Placement.{items_of_strip}
use Rattle.layouts.specs.Lines.{grouped, rows_of, set_of}
use Rattle.layouts.specs.Fold.{first_of, ordered, cut_of, strip_cuts, set_cuts, folded}
use Rattle.layouts.proofs.patterns.Order.{ordered-three}
use Rattle.listing.proofs.CodeCuts.{length-cuts_from}
use Rattle.placement.proofs.Rows.{rows_end}
use Rattle.layouts_strips.specs.First.{size_named, strip_of, strip_plate}
use Rattle.layouts_strips.proofs.CodeFirst.{first-size}
use Rattle.fold_counts.specs.Lent.{CutsLent, Counting, strip_room}
use Rattle.fold_counts.specs.Strip.{strip_begun, strip_above, set_from, EachStaged, others}
use Rattle.fold_counts.proofs.Fronts.{front-others, begun-one, above-one}
use Rattle.fold_counts.proofs.Sets.{set-start, set-none, line-cuts, line-staged, ordered-number}

-- a strip of three stages in folding's order, by the item of the stack that comes to the front
module _ (job : Job) (l : Listing) (s : Strip) (h i : ℕ) (t : three job.mode ≡ true) (e : h ≡ strip_height job s) (f : first_of (full_stack job h) s ≡ (i ∷ []) ∷ []) where
  order : ordered job s ≡ (i ∷ []) ∷ others job h false s
  order = ordered-three job s t ∙ rw (← e) (front-others job h s i f)

  pub three-begun : (j : ℕ) → strip_begun l j (ordered job s) ≡ cut_of l j i ∷ strip_cuts l (cut_at l (cut_of l j i)).right (others job h false s)
  three-begun j = ap (strip_begun l j) order ∙ begun-one job h l j i (others job h false s)

  pub three-above : (j : ℕ) → strip_above l j (ordered job s) ≡ (cut_at l (cut_of l j i)).top
  three-above j = ap (strip_above l j) order ∙ above-one job h l j i (others job h false s)

  -- its first cut counted, and then those of the others
  pub three-counted : {counts : List ℕ} (k j right : ℕ) (ks : List ℕ) → right ≡ (cut_at l (cut_of l j i)).right → Holds counts (tally k 1 ((ks ++ cut_of l j i ∷ []) ++ strip_cuts l right (others job h false s))) → Holds counts (tally k 1 (ks ++ strip_begun l j (ordered job s)))
  three-counted k j right ks g r = rw (three-begun j, ← g, ← append_assoc ks (cut_of l j i ∷ []) (strip_cuts l right (others job h false s))) r

-- counts of nothing are zeros
none-at : (k i : ℕ) → get_or (tally k 1 []) i 0 ≡ 0
none-at k i = go (ltb i k) refl
  where
    go : (t : Bool) → ltb i k ≡ t → get_or (tally k 1 []) i 0 ≡ 0
    go true e = let z : occurs (1 + i) [] ≤ 0 = occurs-length (1 + i) [] in tally-at k 1 [] i 0 (ltb-true i k e) ∙ omega arith
    go false e = get_or-eq_default (tally k 1 []) 0 {n = i} (omega (arith, tally-length k 1 [], ltb-false i k e))

pub none-counted : {counts : List ℕ} (n k : ℕ) → counts ≡ replicate n 0 → k ≤ length counts → Holds counts (tally k 1 [])
none-counted {counts} n k e h =
    let m : length (tally k 1 []) ≡ k = tally-length k 1 [] in
    let same : length counts ≡ length (filled (length counts) (tally k 1 [])) = sym (filled-length (length counts) (tally k 1 []) (omega arith)) in
    record { words = ext_get_or 0 counts (filled (length counts) (tally k 1 [])) same (λ i p. held_word [] (cleared n e) i ∙ sym (filled-read (length counts) (tally k 1 []) i ∙ none-at k i)) }

-- the cuts done are counted; they and those of the lines from the one behind a others on, whose board goes on from plate type j, are the cuts of the set
pub record FoldAt (job : Job) (l : Listing) (ws : List ℕ) (k a j : ℕ) (counts : List ℕ) : Type 0 where
  pub done : List ℕ
  pub held : Holds counts (tally k 1 done)
  pub rest : done ++ set_from job l j (grouped (drop a (rows_of ws))) ≡ set_cuts job l (grouped (rows_of ws))
  pub few : length done ≤ a
  pub staged : EachStaged job (grouped (drop a (rows_of ws)))

module _ (job : Job) (l : Listing) (ws : List ℕ) (k : ℕ) where
  pub fold-begin : {counts : List ℕ} → Holds counts (tally k 1 []) → EachStaged job (set_of ws) → {j : ℕ} → j ≡ size_named (rows_of ws) → FoldAt job l ws k 0 j counts
  unfolding set_of
  fold-begin h s e = record { done = []; held = h; rest = rw (e, ← first-size (rows_of ws)) (sym (set-start job l (grouped (rows_of ws)))); few = omega arith; staged = s }

  module _ (lines : ℕ) (words : length ws ≡ words_of_placement * lines) where
    pub fold-rule : {a j : ℕ} {counts : List ℕ} → a < lines → FoldAt job l ws k a j counts → stage_rule job (strip_of (drop a (rows_of ws))) ≡ true
    fold-rule {a} h at = (line-staged job l ws lines a (a + length (items_of_strip (strip_of (drop a (rows_of ws))))) words h refl at.staged).0

    pub fold-counting : {a j : ℕ} {counts : List ℕ} → a ≤ max_pieces → k ≤ length counts → FoldAt job l ws k a j counts → Counting counts k strip_room
    fold-counting h r at = record { so_far = at.done; held = at.held; few = omega (arith, at.few); room = r }

    pub fold_step :
        {a j : ℕ} {counts : List ℕ} (end j' : ℕ) (counts' : List ℕ) (above : ℕ)
        → a < lines
        → FoldAt job l ws k a j counts
        → end ≡ a + length (items_of_strip (strip_of (drop a (rows_of ws))))
        → ((ks : List ℕ) → Holds counts (tally k 1 ks) → Holds counts' (tally k 1 (ks ++ strip_begun l j (ordered job (strip_of (drop a (rows_of ws)))))))
        → above ≡ strip_above l j (ordered job (strip_of (drop a (rows_of ws))))
        → j' ≡ strip_plate (drop end (rows_of ws)) above
        → FoldAt job l ws k end j' counts'
    fold_step {a} {j} end j' counts' above h at e more f g =
        let s = strip_of (drop a (rows_of ws)) in
        let begun-cuts = strip_begun l j (ordered job s) in
        record {
          done = at.done ++ begun-cuts;
          held = more at.done at.held;
          rest = rw (g, f) (append_assoc at.done begun-cuts (set_from job l (strip_plate (drop end (rows_of ws)) (strip_above l j (ordered job s))) (grouped (drop end (rows_of ws)))) ∙ ap (λ (ms : List ℕ). at.done ++ ms) (sym (line-cuts job l ws lines a end words h e j)) ∙ at.rest);
          few = omega (arith, length-append at.done begun-cuts, ordered-number job l j s, at.few);
          staged = (line-staged job l ws lines a end words h e at.staged).1;
        }

    no_lines : (a : ℕ) → lines ≤ a → grouped (drop a (rows_of ws)) ≡ []
    unfolding grouped
    no_lines a h = rw (rows_end ws lines a words h)

    pub fold_end : {a j : ℕ} {counts cuts : List ℕ} → lines ≤ a → CutsLent l cuts k → FoldAt job l ws k a j counts → counts ≡ filled (length counts) (folded job l (set_of ws))
    unfolding folded set_of
    fold_end {a} {j} {counts} {cuts} h lent at =
        let z : at.done ≡ set_cuts job l (grouped (rows_of ws)) = sym (append-nil at.done) ∙ ap (λ (ms : List ℕ). at.done ++ ms) (sym (ap (set_from job l j) (no_lines a h) ∙ set-none job l j)) ∙ at.rest in
        let n : length l.cuts ≡ k = ap length lent.listed ∙ length-cuts_from k 0 cuts in
        rw (n, ← z) at.held.words
