-- The tests of the layout rules are exact: each passes exactly where the plain statement of `Rules` holds.
use Prim.Native.Nat.{ℕ, ◌≤◌}
use native.Mathlib.Omega.{arith}
use mathlib.Core.Path.{◌≡◌, refl, sym, ◌∙◌}
use mathlib.Core.Logic.{◌↔◌}
use mathlib.Core.Bool.{Bool, true, false, not, ◌&&◌, false≢true, ◌||◌}
use mathlib.Core.List.{List, [], ◌∷◌, flat_map}
use lib.Dec.{leb, eqb}
use lib.ListN.{length}
use borrow.Author.Tests.{ltb-true, lt-ltb}
use Rattle.job.specs.declared.size.Size.{Size}
use Rattle.job.specs.Lists.{any, all, sum_of, gap_sum, max_of}
use Rattle.job.specs.Mode.{three, exact}
use Rattle.job.specs.Job.{Job, size_at, permitted}
use Rattle.job.proofs.Positions.{permitted-exact}
use Rattle.job.proofs.Decides.{Decides, decides-le, decides_eq, decides-self, decides-then, decides_and, decides-seven, decides-if}
use Rattle.layouts.specs.Layout.{Stack, Strip, Board, Sheet, sheet_size, strips_of, width_of, height_of, stack_width, stack_height, strip_width, strip_height, board_height, single, full_stack, same_heights, same_widths, stage_rule, board_rules, sheet_rules, layout_rules}
use Rattle.layouts.specs.Placement.{items_of_strip}
use Rattle.layouts.specs.Rules.{Every, Some, Filled, Alike, Single, OfJob, Staged, StripOk, BoardOk, SheetOk, SetOk}
use Rattle.layouts.proofs.lists.Every.{every_map, every-both, max-above, max_least, decides-filled, decides-all, decides-any}

-- all have the greatest value of f exactly where any two have the same
module _ {A : Type 0} (f : A → ℕ) where
  pub same_alike : (m : ℕ) (l : List A) → Every (λ a. f a ≡ m) l → Alike f l
  same_alike m l h = every_map (λ a (p : f a ≡ m). every_map (λ b (q : f b ≡ m). p ∙ sym q) l h) l h

  pub alike_same : (l : List A) → Alike f l → Every (λ a. f a ≡ max_of f l) l
  alike_same l h =
      every_map
      (λ a (q : (f a ≤ max_of f l) × Every (λ b. f a ≡ f b) l).
      let k : max_of f l ≤ f a = max_least f (f a) l (every_map (λ b (e : f a ≡ f b). omega arith) l q.1) in
      omega (arith, q.0))
      l
      (every-both (λ a. f a ≤ max_of f l) (λ a. Every (λ b. f a ≡ f b) l) l (max-above f l) h)

  -- so the test that compares each with the greatest is exact
  pub alike-exact : (l : List A) → Decides (all (λ a. eqb (f a) (max_of f l)) l) (Alike f l)
  alike-exact l =
      let d = decides-all (λ a. decides_eq (f a) (max_of f l)) l in
      (λ e. same_alike (max_of f l) l (d.0 e), λ h. d.1 (alike_same l h))

pub single-exact : (s : Stack) → (single s ≡ true) ↔ Single s
unfolding single
single-exact [] = (λ e. absurd (false≢true e), λ h. absurd (omega arith))
single-exact (i ∷ []) = (λ e. refl, λ h. refl)
single-exact (i ∷ i' ∷ s) = (λ e. absurd (false≢true e), λ h. absurd (omega arith))

module _ (job : Job) where
  pub full-exact : (h : ℕ) (s : Stack) → (full_stack job h s ≡ true) ↔ (Single s × (stack_height job s ≡ h))
  unfolding full_stack
  full-exact h s = decides_and (single-exact s) (decides_eq (stack_height job s) h)

  pub widths-exact : (s : Stack) → (same_widths job s ≡ true) ↔ Alike (width_of job) s
  unfolding same_widths stack_width
  widths-exact s = alike-exact (width_of job) s

  -- the items of a strip of single-item stacks are as high as the stacks
  pub single-heights :
      (m : ℕ) (s : Strip)
      → Every Single s
      → Every (λ k. stack_height job k ≡ m) s
      ↔ Every (λ i. height_of job i ≡ m) (items_of_strip s)
  unfolding items_of_strip flat_map stack_height gap_sum sum_of
  single-heights m [] h = (λ q. tt, λ q. tt)
  single-heights m ([] ∷ s) h = absurd (omega (arith, h.0))
  single-heights m ((i ∷ i' ∷ k) ∷ s) h = absurd (omega (arith, h.0))
  single-heights m ((i ∷ []) ∷ s) h =
      let r = single-heights m s h.1 in (λ q. (omega (arith, q.0), r.0 q.1), λ q. (omega (arith, q.0), r.1 q.1))

  single-highest : (s : Strip) → Every Single s → strip_height job s ≡ max_of (height_of job) (items_of_strip s)
  unfolding items_of_strip flat_map strip_height stack_height gap_sum sum_of max_of
  single-highest [] h = refl
  single-highest ([] ∷ s) h = absurd (omega (arith, h.0))
  single-highest ((i ∷ i' ∷ k) ∷ s) h = absurd (omega (arith, h.0))
  single-highest ((i ∷ []) ∷ s) h = omega (arith, single-highest s h.1)

  pub heights-exact : (s : Strip) → Every Single s → (same_heights job s ≡ true) ↔ Alike (height_of job) (items_of_strip s)
  unfolding same_heights
  heights-exact s h =
      let d = decides-all (λ k. decides_eq (stack_height job k) (strip_height job s)) s in
      let r = single-heights (strip_height job s) s h in (
        λ e. same_alike (height_of job) (strip_height job s) (items_of_strip s) (r.0 (d.0 e)),
        λ q. d.1 (r.1 (rw (single-highest s h) (alike_same (height_of job) (items_of_strip s) q))),
      )

  -- the stage rule of two stages, and of three
  two-exact :
      (s : Strip)
      → Decides (all single s && (not (exact job.mode) || same_heights job s))
      (Every Single s × (exact job.mode ≡ true → Alike (height_of job) (items_of_strip s)))
  two-exact s =
      decides-then (decides-all single-exact s) (λ h. decides-if (decides-self (exact job.mode)) (heights-exact s h))

  three-exact :
      (s : Strip)
      → Decides (any (full_stack job (strip_height job s)) s && (not (exact job.mode) || all (same_widths job) s))
      (Some (λ k. Single k × (stack_height job k ≡ strip_height job s)) s × (exact job.mode ≡ true → Every (Alike (width_of job)) s))
  three-exact s =
      decides_and (decides-any (full-exact (strip_height job s)) s)
      (decides-if (decides-self (exact job.mode)) (decides-all widths-exact s))

  pub stage-exact : (s : Strip) → (stage_rule job s ≡ true) ↔ Staged job s
  unfolding stage_rule
  stage-exact s = (to, λ h. back h (three job.mode) refl)
    where
      to : stage_rule job s ≡ true → Staged job s
      to e =
          record {
            single = λ t. ((two-exact s).0 (rw t at e)).0;
            level = λ t. ((two-exact s).0 (rw t at e)).1;
            full = λ t. ((three-exact s).0 (rw t at e)).0;
            even = λ t. ((three-exact s).0 (rw t at e)).1;
          }

      back : Staged job s → (t : Bool) → three job.mode ≡ t → stage_rule job s ≡ true
      back h true t = rw t ((three-exact s).1 (h.full t, h.even t))
      back h false t = rw t ((two-exact s).1 (h.single t, h.level t))

  -- the items are of the job
  pub types-exact : (s : Strip) → (all (all (permitted job)) s ≡ true) ↔ Every (Every (OfJob job)) s
  types-exact s = decides-all (decides-all (permitted-exact job)) s

  -- the sums of a strip and of a board
  pub across-exact : (sz : Size) (s : Strip) → (leb (strip_width job s) sz.width ≡ true) ↔ (strip_width job s ≤ sz.width)
  across-exact sz s = decides-le (strip_width job s) sz.width

  pub up-exact : (sz : Size) (b : Board) → (leb (board_height job b) sz.height ≡ true) ↔ (board_height job b ≤ sz.height)
  up-exact sz b = decides-le (board_height job b) sz.height

  -- strips that keep each rule
  pub strips-ok :
      (sz : Size) (b : Board)
      → Every Filled b
      → Every (Every Filled) b
      → Every (Every (Every (OfJob job))) b
      → Every (Staged job) b
      → Every (λ s. strip_width job s ≤ sz.width) b
      → Every (StripOk job sz) b
  strips-ok sz [] f k t g a = tt
  strips-ok sz (s ∷ b) f k t g a = (
    record { filled = f.0; stacks = k.0; types = t.0; staged = g.0; across = a.0 },
    strips-ok sz b f.1 k.1 t.1 g.1 a.1,
  )

  -- one board
  board-tests :
      (sz : Size) (b : Board)
      → (board_rules job sz b ≡ true)
      ↔ (Filled b
      × Every Filled b
      × Every (Every Filled) b
      × Every (Every (Every (OfJob job))) b
      × Every (Staged job) b
      × Every (λ s. strip_width job s ≤ sz.width) b
      × (board_height job b ≤ sz.height))
  unfolding board_rules
  board-tests sz b =
      decides-seven
      (decides-filled b)
      (decides-all decides-filled b)
      (decides-all (decides-all decides-filled) b)
      (decides-all types-exact b)
      (decides-all stage-exact b)
      (decides-all (across-exact sz) b)
      (up-exact sz b)

  pub board-exact : (sz : Size) (b : Board) → (board_rules job sz b ≡ true) ↔ BoardOk job sz b
  board-exact sz b = (
    λ e.
        let q = (board-tests sz b).0 e in
        record { filled = q.0; strips = strips-ok sz b q.1 q.2 q.3 q.4 q.5; up = q.6 },
    λ h.
        (board-tests sz b).1 (
          h.filled,
          every_map (λ s (k : StripOk job sz s). k.filled) b h.strips,
          every_map (λ s (k : StripOk job sz s). k.stacks) b h.strips,
          every_map (λ s (k : StripOk job sz s). k.types) b h.strips,
          every_map (λ s (k : StripOk job sz s). k.staged) b h.strips,
          every_map (λ s (k : StripOk job sz s). k.across) b h.strips,
          h.up,
        ),
  )

  -- a board of a size of the job
  pub sheet-exact : (b : Sheet) → (sheet_rules job b ≡ true) ↔ SheetOk job b
  unfolding sheet_rules
  sheet-exact b =
      let j = sheet_size b in
      decides_and (ltb-true j (length job.sizes), lt-ltb j (length job.sizes)) (board-exact (size_at job j) (strips_of b))

  -- a set of layouts: every board
  pub set-exact : (bs : List Sheet) → (layout_rules job bs ≡ true) ↔ SetOk job bs
  unfolding layout_rules
  set-exact bs = decides-all sheet-exact bs
