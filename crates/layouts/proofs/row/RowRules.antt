-- The layouts row's 16, 17 and 11 against the layout rules and the demands: each passes exactly where the rule holds.
use Prim.Native.Nat.{ℕ, suc, ◌+◌, ◌≤◌}
use native.Mathlib.Omega.{arith}
use mathlib.Core.Path.{◌≡◌, refl, ap}
use mathlib.Core.Logic.Iff
use mathlib.Core.Logic.{◌↔◌}
use mathlib.Core.Bool.{Bool, true, false, not, ◌&&◌}
use mathlib.Core.List.{List, [], ◌∷◌, map}
use lib.Dec.{leb, ltb}
use lib.ListN.{length}
use borrow.Author.Tests.{ltb-false, le-ltb, leb-true, le-leb, not-false}
use Rattle.job.specs.declared.item.Item.{Item}
use Rattle.job.specs.Lists.{sum_of, gaps_after, gap_sum, occurs}
use Rattle.job.specs.Verdict.{pass, refuse, lowest}
use Rattle.job.specs.declared.size.Size.{Size}
use Rattle.job.specs.Job.{Job, size_at, type_of}
use Rattle.job.proofs.Decides.{Passes}
use Rattle.job.proofs.Tests.{and_left, and_right, and_both, or_left, or_right, or-neither}
use Rattle.job.proofs.Verdicts.{pass-not-refuse}
use Rattle.layouts.specs.Layout.{Strip, Board, Sheet, sheet, sheet_size, strips_of, strip_width, strip_height, board_height, stage_rule}
use Rattle.layouts.specs.Placement.{Placement, items_of_strip, items_of_board, meets_from}
use Rattle.layouts.specs.LayoutsRow.{Laid, laid_board, laid_set, lowest_strip, breaks_stage, past_board, lacks}
use Rattle.layouts.specs.Rules.{Every}
use Rattle.layouts.proofs.lists.Every.{every_map, every_append, append-every}

-- a refusal of the lowest strip that is bad: none where none is
pass-lowest-strip : (number : ℕ) (bad : Laid → Bool) (ss : List Laid) → lowest_strip number bad ss ≡ pass → Every (λ s. bad s ≡ false) ss
unfolding lowest_strip
pass-lowest-strip number bad [] e = tt
pass-lowest-strip number bad (s ∷ ss) e = go (bad s) refl e (pass-lowest-strip number bad ss)
  where
    go : (t : Bool) → bad s ≡ t → elim t [ true ↦ refuse number s.line | false ↦ lowest_strip number bad ss ] ≡ pass
        → (lowest_strip number bad ss ≡ pass → Every (λ s. bad s ≡ false) ss) → (bad s ≡ false) × Every (λ s. bad s ≡ false) ss
    go true h q rec = absurd (pass-not-refuse q refl)
    go false h q rec = (h, rec q)

lowest-strip-pass : (number : ℕ) (bad : Laid → Bool) (ss : List Laid) → Every (λ s. bad s ≡ false) ss → lowest_strip number bad ss ≡ pass
unfolding lowest_strip
lowest-strip-pass number bad [] h = refl
lowest-strip-pass number bad (s ∷ ss) h = rw (h.0, lowest_strip) (lowest-strip-pass number bad ss h.1)

pub passes-strip :
    {bad : Laid → Bool} {P : Laid → Type 0} (number : ℕ)
    → ((l : Laid) → (bad l ≡ false) ↔ P l)
    → (ls : List Laid)
    → Passes (lowest_strip number bad ls) (Every P ls)
passes-strip {bad} {P} number d ls = (
  λ e. every_map (λ l (h : bad l ≡ false). (d l).0 h) ls (pass-lowest-strip number bad ls e),
  λ h. lowest-strip-pass number bad ls (every_map (λ l (q : P l). (d l).1 q) ls h),
)

module _ (job : Job) where
  -- 16: a statement of each strip
  module _ (P : Strip → Type 0) where
    laid-board : (z line y : ℕ) (b : Board) → Every P b ↔ Every (λ l. P l.strip) (laid_board job z line y b)
    unfolding laid_board
    laid-board z line y [] = (λ h. tt, λ h. tt)
    laid-board z line y (s ∷ ss) =
        let r = laid-board z (line + length (items_of_strip s)) (y + strip_height job s + job.blade) ss in
        (λ h. (h.0, r.0 h.1), λ h. (h.0, r.1 h.1))

    laid-set : (line : ℕ) (bs : List Sheet) → Every (λ b. Every P (strips_of b)) bs ↔ Every (λ l. P l.strip) (laid_set job line bs)
    unfolding laid_set
    laid-set line [] = (λ h. tt, λ h. tt)
    laid-set line (sheet z b ∷ bs) =
        let q = laid-board z line 0 b in
        let r = laid-set (line + length (items_of_board b)) bs in
        let here = laid_board job z line 0 b in
        let after = laid_set job (line + length (items_of_board b)) bs in (
          λ h. every_append (λ l. P l.strip) here after (q.0 h.0) (r.0 h.1),
          λ h. let z = append-every (λ l. P l.strip) here after h in (q.1 z.0, r.1 z.1),
        )

  breaks-exact : (l : Laid) → (breaks_stage job l ≡ false) ↔ (stage_rule job l.strip ≡ true)
  unfolding breaks_stage
  breaks-exact l = (not-false (stage_rule job l.strip), ap not)

  pub stage-pass :
      (line : ℕ) (bs : List Sheet)
      → (lowest_strip 16 (breaks_stage job) (laid_set job line bs) ≡ pass)
      ↔ Every (λ b. Every (λ s. stage_rule job s ≡ true) (strips_of b)) bs
  stage-pass line bs =
      Iff.trans (passes-strip 16 breaks-exact (laid_set job line bs)) (Iff.symm (laid-set (λ s. stage_rule job s ≡ true) line bs))

  -- 17: a strip that stays within the board
  abbrev Fitting : Laid → Type 0
  Fitting l = (strip_width job l.strip ≤ (size_at job l.size).width) × (l.below + strip_height job l.strip ≤ (size_at job l.size).height)

  fitting-exact : (l : Laid) → (past_board job l ≡ false) ↔ Fitting l
  unfolding past_board
  fitting-exact l = (
    λ e.
        let sz : Size = size_at job l.size in
        let wide = ltb sz.width (strip_width job l.strip) in
        let high = ltb sz.height (l.below + strip_height job l.strip) in
        (ltb-false sz.width (strip_width job l.strip) (or_left wide high e), ltb-false sz.height (l.below + strip_height job l.strip) (or_right wide high e)),
    λ q.
        let sz : Size = size_at job l.size in
        or-neither (ltb sz.width (strip_width job l.strip)) (ltb sz.height (l.below + strip_height job l.strip))
        (le-ltb sz.width (strip_width job l.strip) q.0) (le-ltb sz.height (l.below + strip_height job l.strip) q.1),
  )

  -- the strips of a board from y upwards, b after each of them
  board-fits :
      (z line y : ℕ) (b : Board)
      → Every (λ s. strip_width job s ≤ (size_at job z).width) b
      → y + gaps_after job.blade (strip_height job) b ≤ (size_at job z).height + job.blade
      → Every Fitting (laid_board job z line y b)
  unfolding laid_board sum_of
  board-fits z line y [] a u = tt
  board-fits z line y (s ∷ ss) a u =
      ((a.0, omega arith), board-fits z (line + length (items_of_strip s)) (y + strip_height job s + job.blade) ss a.1 (omega arith))

  fits-board :
      (z line y : ℕ) (b : Board)
      → y ≤ (size_at job z).height + job.blade
      → Every Fitting (laid_board job z line y b)
      → Every (λ s. strip_width job s ≤ (size_at job z).width) b × (y + gaps_after job.blade (strip_height job) b ≤ (size_at job z).height + job.blade)
  unfolding laid_board sum_of
  fits-board z line y [] h a = (tt, omega arith)
  fits-board z line y (s ∷ ss) h a =
      let r = fits-board z (line + length (items_of_strip s)) (y + strip_height job s + job.blade) ss (omega (arith, a.0.1)) a.1 in
      ((a.0.0, r.0), omega (arith, r.1))

  -- a board whose strips do
  abbrev pub WithinBoard : Sheet → Type 0
  WithinBoard b =
      Every (λ s. strip_width job s ≤ (size_at job (sheet_size b)).width) (strips_of b) × (board_height job (strips_of b) ≤ (size_at job (sheet_size b)).height)

  set-fits : (line : ℕ) (bs : List Sheet) → Every WithinBoard bs ↔ Every Fitting (laid_set job line bs)
  unfolding laid_set board_height gap_sum
  set-fits line [] = (λ h. tt, λ h. tt)
  set-fits line (sheet j b ∷ bs) =
      let r = set-fits (line + length (items_of_board b)) bs in
      let here = laid_board job j line 0 b in
      let after = laid_set job (line + length (items_of_board b)) bs in (
        λ h. every_append Fitting here after (board-fits j line 0 b h.0.0 (omega (arith, h.0.1))) (r.0 h.1),
        λ h.
            let z = append-every Fitting here after h in
            let q = fits-board j line 0 b (omega arith) z.0 in
            ((q.0, omega (arith, q.1)), r.1 z.1),
      )

  pub past-pass : (line : ℕ) (bs : List Sheet) → (lowest_strip 17 (past_board job) (laid_set job line bs) ≡ pass) ↔ Every WithinBoard bs
  past-pass line bs = Iff.trans (passes-strip 17 fitting-exact (laid_set job line bs)) (Iff.symm (set-fits line bs))

-- 11: the demands, over the items of the lines
module _ (rs : List Placement) where
  abbrev items : List ℕ
  items = map (λ r. type_of r.item) rs

  enough : (i : ℕ) (it : Item) → lacks rs i it ≡ false → leb it.demand (occurs i items) ≡ true
  unfolding lacks
  enough i it e = le-leb it.demand (occurs i items) (ltb-false (occurs i items) it.demand e)

  not-lacking : (i : ℕ) (it : Item) → leb it.demand (occurs i items) ≡ true → lacks rs i it ≡ false
  unfolding lacks
  not-lacking i it e = le-ltb (occurs i items) it.demand (leb-true it.demand (occurs i items) e)

  pass-demands : (i : ℕ) (its : List Item) → lowest 11 (lacks rs) i its ≡ pass → meets_from i its items ≡ true
  unfolding lowest meets_from
  pass-demands i [] e = refl
  pass-demands i (it ∷ its) e = go (lacks rs i it) refl e (pass-demands (suc i) its)
    where
      go :
          (t : Bool)
          → lacks rs i it ≡ t
          → elim t [ true ↦ refuse 11 i | false ↦ lowest 11 (lacks rs) (suc i) its ] ≡ pass
          → (lowest 11 (lacks rs) (suc i) its ≡ pass → meets_from (suc i) its items ≡ true)
          → leb it.demand (occurs i items) && meets_from (suc i) its items ≡ true
      go true h q rec = absurd (pass-not-refuse q refl)
      go false h q rec = and_both (leb it.demand (occurs i items)) (meets_from (suc i) its items) (enough i it h) (rec q)

  demands-pass : (i : ℕ) (its : List Item) → meets_from i its items ≡ true → lowest 11 (lacks rs) i its ≡ pass
  unfolding lowest meets_from
  demands-pass i [] e = refl
  demands-pass i (it ∷ its) e =
      let a = leb it.demand (occurs i items) in
      let b = meets_from (suc i) its items in
      rw (not-lacking i it (and_left a b e), lowest) (demands-pass (suc i) its (and_right a b e))

  pub demands-row : (i : ℕ) (its : List Item) → (lowest 11 (lacks rs) i its ≡ pass) ↔ (meets_from i its (map (λ r. type_of r.item) rs) ≡ true)
  demands-row i its = (pass-demands i its, demands-pass i its)
