-- The lines of a stack, item by item: what has been measured, and the items that are left.
use mathlib.Core.Path.{◌≡◌, refl, sym, ap, ◌∙◌}
use Prim.Native.Nat.{ℕ, ◌+◌, ◌*◌, ◌^◌, ◌≤◌, ◌<◌, max}
use mathlib.Core.Bool.{Bool, true, false, ◌&&◌}
use mathlib.Core.List.{List, [], ◌∷◌}
use mathlib.Core.Option.{Option, none, some}
use native.Mathlib.Omega.{arith}
use borrow.Author.Tests.{eqb-true, eq-eqb}
use lib.Dec.{eqb}
use lib.ListN.{length, get_or, drop}
use Rattle.job.specs.Sizes.{words_of_head, words_of_placement, job_size}
use Rattle.job.specs.declared.item.Position.{Position}
use Rattle.job.specs.Lists.{all, sum_of, gaps_after, gap_sum, max_of}
use Rattle.job.specs.Job.{Job, type_of, position_at}
use Rattle.job.proofs.Positions.{type-turn, turn_small}
use Rattle.job.proofs.Tests.{not-both, same_test, and_left, and_right, and_both}
use Rattle.job.proofs.Lists.{all_cons}
use Rattle.layouts.specs.Layout.{Stack, width_of, height_of, stack_width, stack_height, same_widths}
use Rattle.layouts.specs.Lines.{Line, Level, begun, rows_of}
use Rattle.placement.specs.PlacementRead.{placement_at, line_at}
use Rattle.placement.proofs.Rows.{rows-from}
use Rattle.layouts_strips.specs.declared.stack.StackMeasure.{StackMeasure}
use Rattle.layouts_strips.specs.Begun.{goes_on}
use Rattle.layouts_strips.specs.First.{stack_of}
use Rattle.layouts_strips.specs.Measures.{max_word, LentLines, item_on, StackIs, StackSmall}
use Rattle.layouts_strips.proofs.CodeFirst.{when_on, stack-items}

-- all items have a width, if they have the width of the first
module _ (f : ℕ → ℕ) where
  all_same : (w : ℕ) (is : List ℕ) → all (λ i. eqb (f i) w) is ≡ true → max w (max_of f is) ≡ w
  unfolding max_of
  all_same w [] e = omega arith
  all_same w (i ∷ is) e =
      let h : (eqb (f i) w && all (λ j. eqb (f j) w) is) ≡ true = sym (all_cons (λ j. eqb (f j) w) i is) ∙ e in
      let a : f i ≡ w = eqb-true (f i) w (and_left (eqb (f i) w) (all (λ j. eqb (f j) w) is) h) in
      let b : max w (max_of f is) ≡ w = all_same w is (and_right (eqb (f i) w) (all (λ j. eqb (f j) w) is) h) in
      omega arith

  same_first : (i : ℕ) (is : List ℕ) → all (λ j. eqb (f j) (f i)) is ≡ all (λ j. eqb (f j) (max (f i) (max_of f is))) (i ∷ is)
  same_first i is = same_test _ _ to back
    where
      m : ℕ
      m = max (f i) (max_of f is)

      to : all (λ j. eqb (f j) (f i)) is ≡ true → all (λ j. eqb (f j) m) (i ∷ is) ≡ true
      to h = rw (all_same (f i) is h, all_cons (λ j. eqb (f j) (f i)) i is) (and_both (eqb (f i) (f i)) (all (λ j. eqb (f j) (f i)) is) (eq-eqb (f i) (f i) refl) h)

      back : all (λ j. eqb (f j) m) (i ∷ is) ≡ true → all (λ j. eqb (f j) (f i)) is ≡ true
      back h =
          let g : (eqb (f i) m && all (λ j. eqb (f j) m) is) ≡ true = sym (all_cons (λ j. eqb (f j) m) i is) ∙ h in
          let a : f i ≡ m = eqb-true (f i) m (and_left (eqb (f i) m) (all (λ j. eqb (f j) m) is) g) in
          rw a (and_right (eqb (f i) m) (all (λ j. eqb (f j) m) is) g)

-- a test and nothing more
pub and-true : (t : Bool) → t ≡ (t && true)
and-true true = refl
and-true false = refl

-- a stack of one item, behind c lines
abbrev pub one_item : ℕ → Position → StackMeasure
one_item c it = record { end = c + 1; width = it.width; height = it.height; even = true }

-- the items of a stack that are left from the line behind e others on
abbrev pub items_left : List ℕ → ℕ → Stack
items_left ws e = when_on (begun (drop e (rows_of ws))) (stack_of (drop e (rows_of ws)))

goes-on-none : (o : Option Level) (k : Stack) → goes_on o ≡ true → when_on o k ≡ k
goes-on-none none k h = refl
goes-on-none (some v) k h = absurd (not-both h refl)

goes-not : (o : Option Level) (k : Stack) → goes_on o ≡ false → when_on o k ≡ []
goes-not none k h = absurd (not-both refl h)
goes-not (some v) k h = refl

module _ (job : Job) where
  -- items put on a stack, one after another
  unfoldable pub items_on : StackMeasure → List ℕ → StackMeasure
  items_on m [] = m
  items_on m (i ∷ is) = items_on (item_on job.blade m (position_at job i)) is

  -- a further item keeps the width only if it has it
  even-on : (e : Bool) (w x : ℕ) (is : List ℕ) → (e && eqb x w) && all (λ i. eqb (width_of job i) (max w x)) is ≡ (e && (eqb x w && all (λ i. eqb (width_of job i) w) is))
  even-on false w x is = refl
  even-on true w x is = go (eqb x w) refl
    where
      go : (t : Bool) → eqb x w ≡ t → (t && all (λ i. eqb (width_of job i) (max w x)) is) ≡ (t && all (λ i. eqb (width_of job i) w) is)
      go false h = refl
      go true h = let a : x ≡ w = eqb-true x w h in let b : max w x ≡ w = omega arith in rw b

  on-end : (m : StackMeasure) (is : List ℕ) → (items_on m is).end ≡ m.end + length is
  unfolding items_on
  on-end m [] = omega arith
  on-end m (i ∷ is) = let e = on-end (item_on job.blade m (position_at job i)) is in omega arith

  on-width : (m : StackMeasure) (is : List ℕ) → (items_on m is).width ≡ max m.width (max_of (width_of job) is)
  unfolding items_on max_of width_of
  on-width m [] = omega arith
  on-width m (i ∷ is) = let e = on-width (item_on job.blade m (position_at job i)) is in omega arith

  on-height : (m : StackMeasure) (is : List ℕ) → (items_on m is).height ≡ m.height + gaps_after job.blade (height_of job) is
  unfolding items_on sum_of height_of
  on-height m [] = omega arith
  on-height m (i ∷ is) = let e = on-height (item_on job.blade m (position_at job i)) is in omega arith

  on-even : (m : StackMeasure) (is : List ℕ) → (items_on m is).even ≡ (m.even && all (λ i. eqb (width_of job i) m.width) is)
  unfolding items_on all width_of
  on-even m [] = and-true m.even
  on-even m (i ∷ is) =
      on-even (item_on job.blade m (position_at job i)) is
      ∙ even-on m.even m.width (position_at job i).width is
      ∙ ap (λ (t : Bool). m.even && t) (sym (all_cons (λ j. eqb (width_of job j) m.width) i is))

  -- with the further items on it, it has the measures of the stack
  stack-measured : (c i : ℕ) (is : List ℕ) → StackIs job c (i ∷ is) (items_on (one_item c (position_at job i)) is)
  unfolding stack_width stack_height same_widths width_of height_of max_of sum_of gap_sum
  stack-measured c i is =
      record {
        ended = omega (arith, on-end (one_item c (position_at job i)) is);
        wide = on-width (one_item c (position_at job i)) is;
        high = omega (arith, on-height (one_item c (position_at job i)) is);
        evenly = on-even (one_item c (position_at job i)) is ∙ same_first (width_of job) i is;
      }

  module _ (ws : List ℕ) (n c : ℕ) (e : length ws ≡ words_of_placement * n) (h : c < n) where
    stack-line : stack_of (drop c (rows_of ws)) ≡ (placement_at ws c).item ∷ items_left ws (c + 1)
    stack-line = rw (rows-from ws n c e h) (stack-items (placement_at ws c) (drop (c + 1) (rows_of ws)))

    -- the first item, and the items that are left
    pub stack-begins : {it : Position} {m : StackMeasure} → it ≡ position_at job (placement_at ws c).item → m ≡ one_item c it → StackIs job c (stack_of (drop c (rows_of ws))) (items_on m (items_left ws (c + 1)))
    stack-begins f g = rw (stack-line, g, f) (stack-measured c (placement_at ws c).item (items_left ws (c + 1)))

    -- the line at which the stack goes on is the next item
    stack-goes-on : {it : Position} {b : Bool} (m : StackMeasure) → it ≡ position_at job (placement_at ws c).item → b ≡ goes_on (begun (drop c (rows_of ws))) → b ≡ true → items_on m (items_left ws c) ≡ items_on (item_on job.blade m it) (items_left ws (c + 1))
    unfolding items_on
    stack-goes-on m f t u =
        rw (goes-on-none (begun (drop c (rows_of ws))) (stack_of (drop c (rows_of ws))) (sym t ∙ u), stack-line, f)

  pub stack-next :
      (ws : List ℕ) (n c : ℕ) (m : StackMeasure) {k : Stack} {it : Position} {b : Bool} {gap : ℕ} {m' : StackMeasure}
      → length ws ≡ words_of_placement * n
      → m.end < n
      → it ≡ position_at job (placement_at ws m.end).item
      → b ≡ goes_on (begun (drop m.end (rows_of ws)))
      → b ≡ true
      → m' ≡ item_on gap m it
      → gap ≡ job.blade
      → StackIs job c k (items_on m (items_left ws m.end))
      → StackIs job c k (items_on m' (items_left ws m'.end))
  stack-next ws n c m e h f t u g q s = rw (g, q) (rw (stack-goes-on ws n m.end e h m f t u) at s)

  -- where it does not go on nothing is left
  pub stack-ends : (ws : List ℕ) (c e : ℕ) {k : Stack} {b : Bool} {m : StackMeasure} → b ≡ goes_on (begun (drop e (rows_of ws))) → b ≡ false → StackIs job c k (items_on m (items_left ws e)) → StackIs job c k m
  unfolding items_on
  stack-ends ws c e t u s = rw (goes-not (begun (drop e (rows_of ws))) (stack_of (drop e (rows_of ws))) (sym t ∙ u)) at s

-- the measures stay small
pub small-next : {c n gap : ℕ} {m m' : StackMeasure} (it : Position) → StackSmall c n m → m.end < n → it.width ≤ max_word → it.height ≤ max_word → gap ≤ max_word → m' ≡ item_on gap m it → StackSmall c n m'
small-next it s h a b g e = rw e (record { begun = omega arith; inside = omega arith; narrow = omega arith; low = omega arith })

-- a job whose sizes are there has its head
pub lent-head : {job ws : List ℕ} {n : ℕ} → LentLines job ws n → words_of_head ≤ length job
lent-head l = omega (arith, l.sizes)

-- the item of a line that is lent: its number is small, and the words of its type are there
pub lent-small : {job ws : List ℕ} {n : ℕ} → LentLines job ws n → (c : ℕ) → c < n → (placement_at ws c).item < 2 ^ 16
lent-small {job} {ws} l c h = omega (arith, (l.typed c h).few, type-turn (placement_at ws c).item, turn_small (placement_at ws c).item)

pub small-read : {l m : Line} → l ≡ m → m.placement.item < 2 ^ 16 → l.placement.item < 2 ^ 16
small-read e h = rw e h

pub lent-item : {job ws : List ℕ} {n c : ℕ} → LentLines job ws n → c < n → {l : Line} {q : ℕ} → l ≡ line_at ws c → q ≡ l.placement.item → (1 ≤ type_of q) × (job_size (get_or job 2 0) (type_of q) ≤ length job)
lent-item {job} {ws} {n} {c} l h e f = rw (f, e) ((l.typed c h).from_one, (l.typed c h).words)

pub item-said : (job : Job) (ws : List ℕ) (c : ℕ) {q : ℕ} {it : Position} {l : Line} → it ≡ position_at job q → q ≡ l.placement.item → l ≡ line_at ws c → it ≡ position_at job (placement_at ws c).item
item-said job ws c f g e = f ∙ ap (position_at job) (g ∙ ap (λ (l : Line). l.placement.item) e)
