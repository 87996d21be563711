-- The rectangles of a set of layouts that keeps the rules lie inside their boards, and any two of one board are at least b apart.
use Prim.Native.Nat.{ℕ, suc, ◌+◌, ◌≤◌, ◌<◌}
use native.Mathlib.Omega.{arith}
use mathlib.Core.Path.{◌≡◌, refl, sym, ap, subst}
use mathlib.Core.Logic.{◌⊎◌, inl, inr}
use mathlib.Core.Bool.{true}
use mathlib.Core.List.{List, [], ◌∷◌, ◌++◌}
use lib.ListN.{length}
use Rattle.job.specs.declared.size.Size.{Size}
use Rattle.job.specs.Lists.{all, sum_of, gaps_after, gap_sum, max_of}
use Rattle.job.specs.Job.{Job, size_at}
use Rattle.job.proofs.Tests.{and_both}
use Rattle.layouts.specs.Layout.{Stack, Strip, Board, Sheet, sheet, width_of, height_of, stack_width, stack_height, strip_width, strip_height, board_height, layout_rules}
use Rattle.layouts.specs.Placement.{Opened, opened, Placement, stack_lines, strip_lines, board_lines, set_lines, lines_of}
use Rattle.layouts.specs.Rectangle.{inside, clear, all_apart}
use Rattle.layouts.specs.Rules.{Every, StripOk, SetOk, Apart}
use Rattle.layouts.proofs.lists.Every.{every-all, every_map, every-both, every_append, max-above}
use Rattle.layouts.proofs.rules.RulesExact.{set-exact}
use Rattle.layouts.proofs.rules.RulesWords.{inside-exact, clear-exact}

-- each element is in the relation to every later one
module _ {A : Type 0} (R : A → A → Type 0) where
  abbrev pub Pairwise : List A → Type 0
  Pairwise [] = Unit {0}
  Pairwise (a ∷ l) = Every (R a) l × Pairwise l

  pub pairwise_append : (l m : List A) → Pairwise l → Pairwise m → Every (λ a. Every (R a) m) l → Pairwise (l ++ m)
  pairwise_append [] m p q c = q
  pairwise_append (a ∷ l) m p q c = (every_append (R a) l m p.0 c.0, pairwise_append l m p.1 q c.1)

module _ (job : Job) where
  -- a rectangle between x₀ and x₁ across, y₀ and y₁ upwards
  pub record Between (x₀ y₀ x₁ y₁ : ℕ) (r : Placement) : Type 0 where
    pub left : x₀ ≤ r.x
    pub low : y₀ ≤ r.y
    pub right : r.x + width_of job r.item ≤ x₁
    pub high : r.y + height_of job r.item ≤ y₁

  -- a smaller frame within a larger one
  wider :
      (x₀ y₀ x₁ y₁ x₀' y₀' x₁' y₁' : ℕ)
      → x₀' ≤ x₀
      → y₀' ≤ y₀
      → x₁ ≤ x₁'
      → y₁ ≤ y₁'
      → (rs : List Placement)
      → Every (Between x₀ y₀ x₁ y₁) rs
      → Every (Between x₀' y₀' x₁' y₁') rs
  wider x₀ y₀ x₁ y₁ x₀' y₀' x₁' y₁' a b c d rs h =
      every_map (λ r (q : Between x₀ y₀ x₁ y₁ r). search arith) rs h

  -- of two lines in turn: the second is on a later board, or the first ends b or more before the second begins, across or upwards
  abbrev pub Ahead : Placement → Placement → Type 0
  Ahead p q =
      (p.turn.board.number < q.turn.board.number)
      ⊎ ((p.x + width_of job p.item + job.blade ≤ q.x) ⊎ (p.y + height_of job p.item + job.blade ≤ q.y))

  -- a stack: each item above those before it
  stack-between :
      (b : Opened) (s k p x y x₁ y₁ : ℕ) (st : Stack)
      → Every (λ i. x + width_of job i ≤ x₁) st
      → y + gaps_after job.blade (height_of job) st ≤ y₁ + job.blade
      → Every (Between x y x₁ y₁) (stack_lines job b s k p x y st)
  unfolding stack_lines sum_of
  stack-between b s k p x y x₁ y₁ [] a u = tt
  stack-between b s k p x y x₁ y₁ (i ∷ is) a u = (
    record { left = omega arith; low = omega arith; right = a.0; high = omega arith },
    wider x (y + height_of job i + job.blade) x₁ y₁ x y x₁ y₁ (omega arith) (omega arith) (omega arith) (omega arith)
        (stack_lines job b s k (suc p) x (y + height_of job i + job.blade) is)
        (stack-between b s k (suc p) x (y + height_of job i + job.blade) x₁ y₁ is a.1 (omega arith)),
  )

  stack-ahead :
      (b : Opened) (s k p x y x₁ y₁ : ℕ) (st : Stack)
      → Every (λ i. x + width_of job i ≤ x₁) st
      → y + gaps_after job.blade (height_of job) st ≤ y₁ + job.blade
      → Pairwise Ahead (stack_lines job b s k p x y st)
  unfolding stack_lines sum_of
  stack-ahead b s k p x y x₁ y₁ [] a u = tt
  stack-ahead b s k p x y x₁ y₁ (i ∷ is) a u = (
    every_map (λ r (q : Between x (y + height_of job i + job.blade) x₁ y₁ r). inr (inr q.low))
        (stack_lines job b s k (suc p) x (y + height_of job i + job.blade) is)
        (stack-between b s k (suc p) x (y + height_of job i + job.blade) x₁ y₁ is a.1 (omega arith)),
    stack-ahead b s k (suc p) x (y + height_of job i + job.blade) x₁ y₁ is a.1 (omega arith),
  )

  -- a stack lies within its own width
  narrow : (x : ℕ) (st : Stack) → Every (λ i. x + width_of job i ≤ x + stack_width job st) st
  unfolding stack_width
  narrow x st = every_map (λ i (q : width_of job i ≤ max_of (width_of job) st). omega arith) st (max-above (width_of job) st)

  -- a strip: each stack beside those before it
  strip-between :
      (b : Opened) (s k x y x₁ y₁ : ℕ) (st : Strip)
      → Every (λ l. y + stack_height job l ≤ y₁) st
      → x + gaps_after job.blade (stack_width job) st ≤ x₁ + job.blade
      → Every (Between x y x₁ y₁) (strip_lines job b s k x y st)
  unfolding strip_lines stack_height gap_sum sum_of
  strip-between b s k x y x₁ y₁ [] a u = tt
  strip-between b s k x y x₁ y₁ (l ∷ ls) a u =
      every_append (Between x y x₁ y₁) (stack_lines job b s k 1 x y l) (strip_lines job b s (suc k) (x + stack_width job l + job.blade) y ls)
      (wider x y (x + stack_width job l) y₁ x y x₁ y₁ (omega arith) (omega arith) (omega arith) (omega arith)
      (stack_lines job b s k 1 x y l) (stack-between b s k 1 x y (x + stack_width job l) y₁ l (narrow x l) (omega (arith, a.0))))
      (wider (x + stack_width job l + job.blade) y x₁ y₁ x y x₁ y₁ (omega arith) (omega arith) (omega arith) (omega arith)
      (strip_lines job b s (suc k) (x + stack_width job l + job.blade) y ls) (strip-between b s (suc k) (x + stack_width job l + job.blade) y x₁ y₁ ls a.1 (omega arith)))

  strip-ahead :
      (b : Opened) (s k x y x₁ y₁ : ℕ) (st : Strip)
      → Every (λ l. y + stack_height job l ≤ y₁) st
      → x + gaps_after job.blade (stack_width job) st ≤ x₁ + job.blade
      → Pairwise Ahead (strip_lines job b s k x y st)
  unfolding strip_lines stack_height gap_sum sum_of
  strip-ahead b s k x y x₁ y₁ [] a u = tt
  strip-ahead b s k x y x₁ y₁ (l ∷ ls) a u =
      pairwise_append Ahead (stack_lines job b s k 1 x y l) (strip_lines job b s (suc k) (x + stack_width job l + job.blade) y ls)
      (stack-ahead b s k 1 x y (x + stack_width job l) y₁ l (narrow x l) (omega (arith, a.0)))
      (strip-ahead b s (suc k) (x + stack_width job l + job.blade) y x₁ y₁ ls a.1 (omega arith))
      (every_map (λ r (q : Between x y (x + stack_width job l) y₁ r).
      every_map (λ r' (q' : Between (x + stack_width job l + job.blade) y x₁ y₁ r'). inr (inl (omega (arith, q.right, q'.left))))
      (strip_lines job b s (suc k) (x + stack_width job l + job.blade) y ls) (strip-between b s (suc k) (x + stack_width job l + job.blade) y x₁ y₁ ls a.1 (omega arith)))
      (stack_lines job b s k 1 x y l) (stack-between b s k 1 x y (x + stack_width job l) y₁ l (narrow x l) (omega (arith, a.0))))

  -- a strip lies within its own height
  lower : (y : ℕ) (st : Strip) → Every (λ l. y + stack_height job l ≤ y + strip_height job st) st
  unfolding strip_height
  lower y st = every_map (λ l (q : stack_height job l ≤ max_of (stack_height job) st). omega arith) st (max-above (stack_height job) st)

  -- a board: each strip above those before it
  board-between :
      (sz : Size) (b : Opened) (s y y₁ : ℕ) (bd : Board)
      → Every (StripOk job sz) bd
      → y + gaps_after job.blade (strip_height job) bd ≤ y₁ + job.blade
      → Every (Between 0 y sz.width y₁) (board_lines job b s y bd)
  unfolding board_lines strip_width gap_sum sum_of
  board-between sz b s y y₁ [] k u = tt
  board-between sz b s y y₁ (st ∷ sts) k u =
      every_append (Between 0 y sz.width y₁) (strip_lines job b s 1 0 y st) (board_lines job b (suc s) (y + strip_height job st + job.blade) sts)
      (wider 0 y sz.width (y + strip_height job st) 0 y sz.width y₁ (omega arith) (omega arith) (omega arith) (omega arith)
      (strip_lines job b s 1 0 y st) (strip-between b s 1 0 y sz.width (y + strip_height job st) st (lower y st) (omega (arith, k.0.across))))
      (wider 0 (y + strip_height job st + job.blade) sz.width y₁ 0 y sz.width y₁ (omega arith) (omega arith) (omega arith) (omega arith)
      (board_lines job b (suc s) (y + strip_height job st + job.blade) sts) (board-between sz b (suc s) (y + strip_height job st + job.blade) y₁ sts k.1 (omega arith)))

  board-ahead :
      (sz : Size) (b : Opened) (s y y₁ : ℕ) (bd : Board)
      → Every (StripOk job sz) bd
      → y + gaps_after job.blade (strip_height job) bd ≤ y₁ + job.blade
      → Pairwise Ahead (board_lines job b s y bd)
  unfolding board_lines strip_width gap_sum sum_of
  board-ahead sz b s y y₁ [] k u = tt
  board-ahead sz b s y y₁ (st ∷ sts) k u =
      pairwise_append Ahead (strip_lines job b s 1 0 y st) (board_lines job b (suc s) (y + strip_height job st + job.blade) sts)
      (strip-ahead b s 1 0 y sz.width (y + strip_height job st) st (lower y st) (omega (arith, k.0.across)))
      (board-ahead sz b (suc s) (y + strip_height job st + job.blade) y₁ sts k.1 (omega arith))
      (every_map (λ r (q : Between 0 y sz.width (y + strip_height job st) r).
      every_map (λ r' (q' : Between 0 (y + strip_height job st + job.blade) sz.width y₁ r'). inr (inr (omega (arith, q.high, q'.low))))
      (board_lines job b (suc s) (y + strip_height job st + job.blade) sts) (board-between sz b (suc s) (y + strip_height job st + job.blade) y₁ sts k.1 (omega arith)))
      (strip_lines job b s 1 0 y st) (strip-between b s 1 0 y sz.width (y + strip_height job st) st (lower y st) (omega (arith, k.0.across))))

  -- the board that each line names
  stack-named : (b : Opened) (s k p x y : ℕ) (st : Stack) → Every (λ r. r.turn.board ≡ b) (stack_lines job b s k p x y st)
  unfolding stack_lines
  stack-named b s k p x y [] = tt
  stack-named b s k p x y (i ∷ is) = (refl, stack-named b s k (suc p) x (y + height_of job i + job.blade) is)

  strip-named : (b : Opened) (s k x y : ℕ) (st : Strip) → Every (λ r. r.turn.board ≡ b) (strip_lines job b s k x y st)
  unfolding strip_lines
  strip-named b s k x y [] = tt
  strip-named b s k x y (l ∷ ls) =
      every_append (λ r. r.turn.board ≡ b) (stack_lines job b s k 1 x y l) (strip_lines job b s (suc k) (x + stack_width job l + job.blade) y ls)
      (stack-named b s k 1 x y l) (strip-named b s (suc k) (x + stack_width job l + job.blade) y ls)

  pub board-named : (b : Opened) (s y : ℕ) (bd : Board) → Every (λ r. r.turn.board ≡ b) (board_lines job b s y bd)
  unfolding board_lines
  board-named b s y [] = tt
  board-named b s y (st ∷ sts) =
      every_append (λ r. r.turn.board ≡ b) (strip_lines job b s 1 0 y st) (board_lines job b (suc s) (y + strip_height job st + job.blade) sts)
      (strip-named b s 1 0 y st) (board-named b (suc s) (y + strip_height job st + job.blade) sts)

  set-named : (b : ℕ) (bs : List Sheet) → Every (λ r. b ≤ r.turn.board.number) (set_lines job b bs)
  unfolding set_lines
  set-named b [] = tt
  set-named b (sheet z bd ∷ bs) =
      every_append (λ r. b ≤ r.turn.board.number) (board_lines job (opened b z) 1 0 bd) (set_lines job (suc b) bs)
      (every_map (λ r (e : r.turn.board ≡ opened b z). omega (arith, ap (λ (o : Opened). o.number) e)) (board_lines job (opened b z) 1 0 bd) (board-named (opened b z) 1 0 bd))
      (every_map (λ r (q : suc b ≤ r.turn.board.number). omega arith) (set_lines job (suc b) bs) (set-named (suc b) bs))

  -- a line of a size of the job, within the sides of its board
  abbrev pub OnBoard : Placement → Type 0
  OnBoard r =
      (r.turn.board.size < length job.sizes)
      × Between 0 0 (size_at job r.turn.board.size).width (size_at job r.turn.board.size).height r

  -- a set: each board within the board's sides, and of two lines in turn the first ahead of the second
  set-between : (b : ℕ) (bs : List Sheet) → SetOk job bs → Every OnBoard (set_lines job b bs)
  unfolding set_lines board_height gap_sum
  set-between b [] k = tt
  set-between b (sheet z bd ∷ bs) k =
      let sz : Size = size_at job z in
      let here : List Placement = board_lines job (opened b z) 1 0 bd in
      every_append OnBoard here (set_lines job (suc b) bs)
      (every_map (λ r (q : (r.turn.board ≡ opened b z) × Between 0 0 sz.width sz.height r). subst (λ (n : ℕ). (n < length job.sizes) × Between 0 0 (size_at job n).width (size_at job n).height r) (sym (ap (λ (o : Opened). o.size) q.0)) (k.0.0, q.1))
      here
      (every-both (λ r. r.turn.board ≡ opened b z) (Between 0 0 sz.width sz.height) here (board-named (opened b z) 1 0 bd)
      (board-between sz (opened b z) 1 0 sz.height bd k.0.1.strips (omega (arith, k.0.1.up)))))
      (set-between (suc b) bs k.1)

  set-ahead : (b : ℕ) (bs : List Sheet) → SetOk job bs → Pairwise Ahead (set_lines job b bs)
  unfolding set_lines board_height gap_sum
  set-ahead b [] k = tt
  set-ahead b (sheet z bd ∷ bs) k =
      pairwise_append Ahead (board_lines job (opened b z) 1 0 bd) (set_lines job (suc b) bs)
      (board-ahead (size_at job z) (opened b z) 1 0 (size_at job z).height bd k.0.1.strips (omega (arith, k.0.1.up)))
      (set-ahead (suc b) bs k.1)
      (every_map (λ r (e : r.turn.board ≡ opened b z).
      every_map (λ r' (q : suc b ≤ r'.turn.board.number). inl (omega (arith, ap (λ (o : Opened). o.number) e))) (set_lines job (suc b) bs) (set-named (suc b) bs))
      (board_lines job (opened b z) 1 0 bd) (board-named (opened b z) 1 0 bd))

  pub lines-between : (bs : List Sheet) → SetOk job bs → Every OnBoard (lines_of job bs)
  unfolding lines_of
  lines-between bs k = set-between 1 bs k

  pub lines-ahead : (bs : List Sheet) → SetOk job bs → Pairwise Ahead (lines_of job bs)
  unfolding lines_of
  lines-ahead bs k = set-ahead 1 bs k

  -- a line within the board's sides is inside, and one ahead of another is clear of it
  between-inside : (r : Placement) → OnBoard r → inside job r ≡ true
  between-inside r q = (inside-exact job r).1 (q.1.right, q.1.high)

  ahead-clear : (p q : Placement) → Ahead p q → clear job p q ≡ true
  ahead-clear p q h = (clear-exact job p q).1 (go h)
    where
      go : Ahead p q → p.turn.board.number ≡ q.turn.board.number → Apart job p q
      go (inl k) e = absurd (omega arith)
      go (inr (inl k)) e = inl k
      go (inr (inr k)) e = inr (inr (inl k))

  ahead_apart : (ps : List Placement) → Pairwise Ahead ps → all_apart job ps ≡ true
  unfolding all_apart
  ahead_apart [] h = refl
  ahead_apart (p ∷ ps) h =
      and_both (all (clear job p) ps) (all_apart job ps) (every-all (clear job p) (Ahead p) (ahead-clear p) ps h.0) (ahead_apart ps h.1)

  -- every rectangle of a set that keeps the rules is inside its board, ..
  pub rules-inside : (bs : List Sheet) → layout_rules job bs ≡ true → all (inside job) (lines_of job bs) ≡ true
  rules-inside bs e =
      every-all (inside job) OnBoard between-inside (lines_of job bs) (lines-between bs ((set-exact job bs).0 e))

  -- .. and any two of one board are apart
  pub rules-apart : (bs : List Sheet) → layout_rules job bs ≡ true → all_apart job (lines_of job bs) ≡ true
  rules-apart bs e = ahead_apart (lines_of job bs) (lines-ahead bs ((set-exact job bs).0 e))
