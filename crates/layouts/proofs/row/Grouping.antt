-- The lines of a set of layouts give the set back: `grouped` undoes `lines_of`, for any set of which no board, strip or stack is empty.
use Prim.Native.Nat.{ℕ, suc, ◌+◌, ◌≤◌}
use native.Mathlib.Omega.{arith}
use mathlib.Core.Path.{◌≡◌, refl, ap, ◌∙◌}
use mathlib.Core.Bool.{Bool, true, false}
use mathlib.Core.List.{List, [], ◌∷◌, ◌++◌, append_assoc}
use mathlib.Core.Option.{none, some}
use lib.Dec.{eqb}
use borrow.Author.Tests.{ne_eqb}
use Rattle.job.specs.Job.{Job, size_at}
use Rattle.layouts.specs.Layout.{Stack, Strip, Board, Sheet, sheet, sheet_size, strips_of, height_of, stack_width, strip_height}
use Rattle.layouts.specs.Placement.{Opened, opened, turn, Placement, stack_lines, strip_lines, board_lines, set_lines, lines_of}
use Rattle.layouts.specs.Lines.{Level, stack, strip, board, level_of, begun, in_strip, in_board, in_set, beside, before, grouped}
use Rattle.layouts.specs.Rules.{Every, Filled, StripOk, SheetOk, SetOk}
use Rattle.layouts.proofs.lists.Every.{every_map}

-- nothing of it is empty
abbrev pub FullStrip : Strip → Type 0
FullStrip s = Filled s × Every Filled s

abbrev pub FullBoard : Board → Type 0
FullBoard b = Filled b × Every FullStrip b

abbrev pub FullSet : List Sheet → Type 0
FullSet bs = Every (λ b. FullBoard (strips_of b)) bs

-- so it is with a set that keeps the rules
pub ok-full : (job : Job) (bs : List Sheet) → SetOk job bs → FullSet bs
ok-full job bs h =
    every_map (λ b (k : SheetOk job b).
    (k.1.filled, every_map (λ s (q : StripOk job (size_at job (sheet_size b)) s). (q.filled, q.stacks)) (strips_of b) k.1.strips))
    bs h

later : (p : ℕ) → 1 ≤ p → eqb (suc p) 1 ≡ false
later p h = ne_eqb (suc p) 1 (λ e. omega arith)

-- what a turn begins: nothing, a stack, a strip
pub goes_on : (b : Opened) (s k p : ℕ) → 1 ≤ p → level_of (turn b s k (suc p)) ≡ none
unfolding level_of
goes_on b s k p h = rw (later p h, level_of)

pub new-stack : (b : Opened) (s k : ℕ) → 1 ≤ k → level_of (turn b s (suc k) 1) ≡ some stack
unfolding level_of
new-stack b s k h = rw (level_of, later k h)

pub new-strip : (b : Opened) (s : ℕ) → 1 ≤ s → level_of (turn b (suc s) 1 1) ≡ some strip
unfolding level_of
new-strip b s h = rw (level_of, later s h)

-- a line, by what the lines after it begin
pub grouped-on : (r : Placement) (rs : List Placement) → begun rs ≡ none → grouped (r ∷ rs) ≡ in_set r.turn.board.size r.item (grouped rs)
unfolding grouped
grouped-on r rs e = rw (e, grouped)

pub grouped-new :
    (r : Placement) (rs : List Placement) (v : Level)
    → begun rs ≡ some v
    → grouped (r ∷ rs) ≡ before r.turn.board.size v (r.item ∷ []) (grouped rs)
unfolding grouped
grouped-new r rs v e = rw (e, grouped)

-- an item below a stack that stands before a set
pub in-before : (z : ℕ) (v : Level) (i : ℕ) (k : Stack) (bs : List Sheet) → in_set z i (before z v k bs) ≡ before z v (i ∷ k) bs
unfolding in_set in_board in_strip before beside
in-before z v i k [] = refl
in-before z stack i k (sheet j [] ∷ bs) = refl
in-before z stack i k (sheet j (s ∷ ss) ∷ bs) = refl
in-before z strip i k (sheet j b ∷ bs) = refl
in-before z board i k (b ∷ bs) = refl

-- a strip before a set whose first line begins a board (true) or a strip (false)
abbrev level_at : Bool → Level
level_at true = board
level_at false = strip

abbrev strip_before : ℕ → Bool → Strip → List Sheet → List Sheet
strip_before z w s [] = sheet z (s ∷ []) ∷ []
strip_before z true s (b ∷ bs) = sheet z (s ∷ []) ∷ b ∷ bs
strip_before z false s (sheet j b ∷ bs) = sheet z (s ∷ b) ∷ bs

before-one : (z : ℕ) (w : Bool) (k : Stack) (bs : List Sheet) → before z (level_at w) k bs ≡ strip_before z w (k ∷ []) bs
unfolding before
before-one z w k [] = refl
before-one z true k (b ∷ bs) = refl
before-one z false k (sheet j b ∷ bs) = refl

before-strip : (z : ℕ) (w : Bool) (k : Stack) (s : Strip) (bs : List Sheet) → before z stack k (strip_before z w s bs) ≡ strip_before z w (k ∷ s) bs
unfolding before beside
before-strip z w k s [] = refl
before-strip z true k s (b ∷ bs) = refl
before-strip z false k s (sheet j b ∷ bs) = refl

board-one : (z : ℕ) (s : Strip) (bs : List Sheet) → strip_before z true s bs ≡ sheet z (s ∷ []) ∷ bs
board-one z s [] = refl
board-one z s (b ∷ bs) = refl

module _ (job : Job) where
  -- the lines of a stack, before other lines
  stack-lines :
      (b : Opened) (s k p x y i : ℕ) (is : Stack) (rs : List Placement) (v : Level)
      → 1 ≤ p
      → begun rs ≡ some v
      → grouped (stack_lines job b s k p x y (i ∷ is) ++ rs) ≡ before b.size v (i ∷ is) (grouped rs)
  unfolding stack_lines begun
  stack-lines b s k p x y i [] rs v h e = grouped-new _ rs v e
  stack-lines b s k p x y i (i' ∷ is) rs v h e =
      grouped-on _ (stack_lines job b s k (suc p) x (y + height_of job i + job.blade) (i' ∷ is) ++ rs) (goes_on b s k p h)
      ∙ ap (in_set b.size i) (stack-lines b s k (suc p) x (y + height_of job i + job.blade) i' is rs v (omega arith) e)
      ∙ in-before b.size v i (i' ∷ is) (grouped rs)

  full-stack :
      (b : Opened) (s k x y : ℕ) (st : Stack) (rs : List Placement) (v : Level)
      → Filled st
      → begun rs ≡ some v
      → grouped (stack_lines job b s k 1 x y st ++ rs) ≡ before b.size v st (grouped rs)
  full-stack b s k x y [] rs v f e = absurd f
  full-stack b s k x y (i ∷ is) rs v f e = stack-lines b s k 1 x y i is rs v (omega arith) e

  -- what the lines of a strip, from stack k on, and of a board, from strip s on, begin
  strip-begins :
      (b : Opened) (s k x y : ℕ) (st : Stack) (sts : Strip) (rs : List Placement)
      → Filled st
      → begun (strip_lines job b s k x y (st ∷ sts) ++ rs) ≡ level_of (turn b s k 1)
  unfolding strip_lines stack_lines begun
  strip-begins b s k x y [] sts rs f = absurd f
  strip-begins b s k x y (i ∷ is) sts rs f = refl

  board-begins :
      (b : Opened) (s y : ℕ) (st : Strip) (sts : Board) (rs : List Placement)
      → FullStrip st
      → begun (board_lines job b s y (st ∷ sts) ++ rs) ≡ level_of (turn b s 1 1)
  unfolding board_lines strip_lines stack_lines begun
  board-begins b s y [] sts rs f = absurd f.0
  board-begins b s y ([] ∷ ks) sts rs f = absurd f.1.0
  board-begins b s y ((i ∷ is) ∷ ks) sts rs f = refl

  -- the lines of a strip, before lines that begin a strip or a board
  strip-lines :
      (b : Opened) (s k x y : ℕ) (st : Stack) (sts : Strip) (rs : List Placement) (w : Bool)
      → 1 ≤ k
      → Every Filled (st ∷ sts)
      → begun rs ≡ some (level_at w)
      → grouped (strip_lines job b s k x y (st ∷ sts) ++ rs) ≡ strip_before b.size w (st ∷ sts) (grouped rs)
  unfolding strip_lines
  strip-lines b s k x y st [] rs w h f e =
      ap grouped (append_assoc (stack_lines job b s k 1 x y st) [] rs)
      ∙ full-stack b s k x y st rs (level_at w) f.0 e
      ∙ before-one b.size w st (grouped rs)
  strip-lines b s k x y st (st' ∷ sts) rs w h f e =
      let more = strip_lines job b s (suc k) (x + stack_width job st + job.blade) y (st' ∷ sts) in
      ap grouped (append_assoc (stack_lines job b s k 1 x y st) more rs)
      ∙ full-stack b s k x y st (more ++ rs) stack f.0
      (strip-begins b s (suc k) (x + stack_width job st + job.blade) y st' sts rs f.1.0 ∙ new-stack b s k h)
      ∙ ap (before b.size stack st) (strip-lines b s (suc k) (x + stack_width job st + job.blade) y st' sts rs w (omega arith) f.1 e)
      ∙ before-strip b.size w st (st' ∷ sts) (grouped rs)

  full-strip :
      (b : Opened) (s y : ℕ) (st : Strip) (rs : List Placement) (w : Bool)
      → FullStrip st
      → begun rs ≡ some (level_at w)
      → grouped (strip_lines job b s 1 0 y st ++ rs) ≡ strip_before b.size w st (grouped rs)
  full-strip b s y [] rs w f e = absurd f.0
  full-strip b s y (k ∷ ks) rs w f e = strip-lines b s 1 0 y k ks rs w (omega arith) f.1 e

  -- the lines of a board, before lines that begin a board
  board-lines :
      (b : Opened) (s y : ℕ) (st : Strip) (sts : Board) (rs : List Placement)
      → 1 ≤ s
      → Every FullStrip (st ∷ sts)
      → begun rs ≡ some board
      → grouped (board_lines job b s y (st ∷ sts) ++ rs) ≡ sheet b.size (st ∷ sts) ∷ grouped rs
  unfolding board_lines
  board-lines b s y st [] rs h f e =
      ap grouped (append_assoc (strip_lines job b s 1 0 y st) [] rs)
      ∙ full-strip b s y st rs true f.0 e
      ∙ board-one b.size st (grouped rs)
  board-lines b s y st (st' ∷ sts) rs h f e =
      let more = board_lines job b (suc s) (y + strip_height job st + job.blade) (st' ∷ sts) in
      ap grouped (append_assoc (strip_lines job b s 1 0 y st) more rs)
      ∙ full-strip b s y st (more ++ rs) false f.0
      (board-begins b (suc s) (y + strip_height job st + job.blade) st' sts rs f.1.0 ∙ new-strip b s h)
      ∙ ap (strip_before b.size false st) (board-lines b (suc s) (y + strip_height job st + job.blade) st' sts rs (omega arith) f.1 e)

  -- the lines of a set
  set-begins : (b : ℕ) (bs : List Sheet) → FullSet bs → begun (set_lines job b bs) ≡ some board
  unfolding set_lines board_lines strip_lines stack_lines begun level_of
  set-begins b [] f = refl
  set-begins b (sheet z [] ∷ bs) f = absurd f.0.0
  set-begins b (sheet z ([] ∷ ss) ∷ bs) f = absurd f.0.1.0.0
  set-begins b (sheet z (([] ∷ ks) ∷ ss) ∷ bs) f = absurd f.0.1.0.1.0
  set-begins b (sheet z (((i ∷ is) ∷ ks) ∷ ss) ∷ bs) f = refl

  set_lines_lem : (b : ℕ) (bs : List Sheet) → FullSet bs → grouped (set_lines job b bs) ≡ bs
  unfolding set_lines grouped
  set_lines_lem b [] f = refl
  set_lines_lem b (sheet z [] ∷ bs) f = absurd f.0.0
  set_lines_lem b (sheet z (s ∷ ss) ∷ bs) f =
      board-lines (opened b z) 1 0 s ss (set_lines job (suc b) bs) (omega arith) f.0.1 (set-begins (suc b) bs f.1)
      ∙ ap (λ (r : List Sheet). sheet z (s ∷ ss) ∷ r) (set_lines_lem (suc b) bs f.1)

-- the lines of a set give the set back
pub lines-grouped : (job : Job) (bs : List Sheet) → FullSet bs → grouped (lines_of job bs) ≡ bs
unfolding lines_of
lines-grouped job bs f = set_lines_lem job 1 bs f
