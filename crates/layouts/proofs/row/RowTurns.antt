-- Lines in turn: what 15 tests, in plain statements, and that the lines of a set of layouts run in turn.
use Prim.Native.Nat.{ℕ, suc, ◌+◌, ◌≤◌}
use native.Mathlib.Omega.{arith}
use mathlib.Core.Path.{◌≡◌, refl, sym, ap₂, subst}
use mathlib.Core.Logic.{◌⊎◌, inl, inr, ◌↔◌}
use mathlib.Core.Bool.{Bool, true, false}
use mathlib.Core.List.{List, [], ◌∷◌, ◌++◌, append_assoc}
use lib.ListN.{length}
use Rattle.job.specs.Verdict.{pass, refuse}
use Rattle.job.specs.Job.{Job}
use Rattle.job.proofs.Verdicts.{pass-not-refuse}
use Rattle.job.proofs.Decides.{decides_eq, decides_and, decides-four}
use Rattle.layouts.specs.Layout.{Stack, Strip, Board, Sheet, sheet, height_of, stack_width, strip_height}
use Rattle.layouts.specs.Placement.{Opened, opened, Turn, turn, Placement, stack_lines, strip_lines, board_lines, set_lines, lines_of}
use Rattle.layouts.specs.Lines.{same_turn, follows, in_turn, turns}
use Rattle.layouts.specs.Rules.{Every, Filled}
use Rattle.layouts.proofs.row.Grouping.{FullStrip, FullBoard, FullSet}

-- two turns are the same
same_parts : (b : Opened) (s k p : ℕ) (b' : Opened) (s' k' p' : ℕ) → b ≡ b' → s ≡ s' → k ≡ k' → p ≡ p' → turn b s k p ≡ turn b' s' k' p'
same_parts b s k p b' s' k' p' e1 e2 e3 e4 = rw (e1, e2, e3, e4) refl

same_tests :
    (t u : Turn)
    → (same_turn t u ≡ true)
    ↔ (((((t.board.number ≡ u.board.number) × (t.board.size ≡ u.board.size)) × (t.strip ≡ u.strip)) × (t.stack ≡ u.stack)) × (t.place ≡ u.place))
unfolding same_turn
same_tests t u =
    decides_and
    (decides_and
    (decides_and (decides_and (decides_eq t.board.number u.board.number) (decides_eq t.board.size u.board.size)) (decides_eq t.strip u.strip))
    (decides_eq t.stack u.stack))
    (decides_eq t.place u.place)

pub same-exact : (t u : Turn) → (same_turn t u ≡ true) ↔ (t ≡ u)
same-exact t u = (
  λ e.
      let q = (same_tests t u).0 e in
      same_parts t.board t.strip t.stack t.place u.board u.strip u.stack u.place
      (ap₂ opened q.0.0.0.0 q.0.0.0.1) q.0.0.1 q.0.1 q.1,
  λ e. rw e ((same_tests u u).1 ((((refl, refl), refl), refl), refl)),
)

-- the next in turn after t, of four forms
pub data Next (t : Turn) : Turn → Type 0 where
  same-stack : Next t (turn t.board t.strip t.stack (suc t.place))
  next-stack : Next t (turn t.board t.strip (suc t.stack) 1)
  next-strip : Next t (turn t.board (suc t.strip) 1 1)
  next-board : {z : ℕ} → Next t (turn (opened (suc t.board.number) z) 1 1 1)

abbrev OneOf : Turn → Turn → Type 0
OneOf t u =
    (u ≡ turn t.board t.strip t.stack (suc t.place))
    ⊎ (u ≡ turn t.board t.strip (suc t.stack) 1)
    ⊎ (u ≡ turn t.board (suc t.strip) 1 1)
    ⊎ (u ≡ turn (opened (suc t.board.number) u.board.size) 1 1 1)

one-of-next : (t u : Turn) → OneOf t u → Next t u
one-of-next t u (inl e) = rw e same-stack
one-of-next t u (inr (inl e)) = rw e next-stack
one-of-next t u (inr (inr (inl e))) = rw e next-strip
one-of-next t u (inr (inr (inr e))) = subst (Next t) (sym e) next-board

next-one-of : {t u : Turn} → Next t u → OneOf t u
next-one-of same-stack = inl refl
next-one-of next-stack = inr (inl refl)
next-one-of next-strip = inr (inr (inl refl))
next-one-of next-board = inr (inr (inr refl))

follows-tests : (t u : Turn) → (follows t u ≡ true) ↔ OneOf t u
unfolding follows
follows-tests t u =
    decides-four
    (same-exact u (turn t.board t.strip t.stack (suc t.place)))
    (same-exact u (turn t.board t.strip (suc t.stack) 1))
    (same-exact u (turn t.board (suc t.strip) 1 1))
    (same-exact u (turn (opened (suc t.board.number) u.board.size) 1 1 1))

pub follows-exact : (t u : Turn) → (follows t u ≡ true) ↔ Next t u
follows-exact t u =
    (λ e. one-of-next t u ((follows-tests t u).0 e), λ n. (follows-tests t u).1 (next-one-of n))

-- each line is the next in turn after the one before, the first after t
abbrev pub InTurn : Turn → List Placement → Type 0
InTurn t [] = Unit {0}
InTurn t (r ∷ rs) = Next t r.turn × InTurn r.turn rs

pub in-turn-pass : (k : ℕ) (t : Turn) (rs : List Placement) → in_turn k t rs ≡ pass → InTurn t rs
unfolding in_turn
in-turn-pass k t [] e = tt
in-turn-pass k t (r ∷ rs) e = go (follows t r.turn) refl e (in-turn-pass (suc k) r.turn rs)
  where
    go : (a : Bool) → follows t r.turn ≡ a → elim a [ false ↦ refuse 15 k | true ↦ in_turn (suc k) r.turn rs ] ≡ pass
        → (in_turn (suc k) r.turn rs ≡ pass → InTurn r.turn rs) → Next t r.turn × InTurn r.turn rs
    go true h q rec = ((follows-exact t r.turn).0 h, rec q)
    go false h q rec = absurd (pass-not-refuse q refl)

pub pass-in-turn : (k : ℕ) (t : Turn) (rs : List Placement) → InTurn t rs → in_turn k t rs ≡ pass
unfolding in_turn
pass-in-turn k t [] h = refl
pass-in-turn k t (r ∷ rs) h = rw ((follows-exact t r.turn).1 h.0, in_turn) (pass-in-turn (suc k) r.turn rs h.1)

-- the first is 1, 1, 1, 1, of any size
abbrev pub FromOne : List Placement → Type 0
FromOne [] = Unit {0}
FromOne (r ∷ rs) = (r.turn ≡ turn (opened 1 r.turn.board.size) 1 1 1) × InTurn r.turn rs

pub turns-pass : (k : ℕ) (rs : List Placement) → turns k rs ≡ pass → FromOne rs
unfolding turns
turns-pass k [] e = tt
turns-pass k (r ∷ rs) e = go (same_turn r.turn (turn (opened 1 r.turn.board.size) 1 1 1)) refl e
  where
    go : (a : Bool) → same_turn r.turn (turn (opened 1 r.turn.board.size) 1 1 1) ≡ a → elim a [ false ↦ refuse 15 k | true ↦ in_turn (suc k) r.turn rs ] ≡ pass
        → (r.turn ≡ turn (opened 1 r.turn.board.size) 1 1 1) × InTurn r.turn rs
    go true h q = ((same-exact r.turn (turn (opened 1 r.turn.board.size) 1 1 1)).0 h, in-turn-pass (suc k) r.turn rs q)
    go false h q = absurd (pass-not-refuse q refl)

pub pass-turns : (k : ℕ) (rs : List Placement) → FromOne rs → turns k rs ≡ pass
unfolding turns
pass-turns k [] h = refl
pass-turns k (r ∷ rs) h = rw ((same-exact r.turn (turn (opened 1 r.turn.board.size) 1 1 1)).1 h.0, turns) (pass-in-turn (suc k) r.turn rs h.1)

-- the numbers of a turn are from 1 to n
pub record UpTo (n : ℕ) (t : Turn) : Type 0 where
  pub board : (1 ≤ t.board.number) × (t.board.number ≤ n)
  pub strip : (1 ≤ t.strip) × (t.strip ≤ n)
  pub stack : (1 ≤ t.stack) × (t.stack ≤ n)
  pub place : (1 ≤ t.place) × (t.place ≤ n)

up-to-next : (n : ℕ) {t u : Turn} → Next t u → UpTo n t → UpTo (suc n) u
up-to-next n same-stack h = search arith
up-to-next n next-stack h = search arith
up-to-next n next-strip h = search arith
up-to-next n next-board h = search arith

up-to-more : (n m : ℕ) (t : Turn) → n ≤ m → UpTo n t → UpTo m t
up-to-more n m t le h = search arith

-- none of the numbers of lines in turn passes the number of lines
in-turn-up-to : (n m : ℕ) (t : Turn) (rs : List Placement) → n + length rs ≤ m → UpTo n t → InTurn t rs → Every (λ r. UpTo m r.turn) rs
in-turn-up-to n m t [] le u h = tt
in-turn-up-to n m t (r ∷ rs) le u h =
    let v = up-to-next n h.0 u in
    (up-to-more (suc n) m r.turn (omega arith) v, in-turn-up-to (suc n) m r.turn rs (omega arith) v h.1)

pub turns-up-to : (rs : List Placement) → FromOne rs → Every (λ r. UpTo (length rs) r.turn) rs
turns-up-to [] h = tt
turns-up-to (r ∷ rs) h =
    let v : UpTo 1 r.turn = subst (UpTo 1) (sym h.0) (one r.turn.board.size) in
    (up-to-more 1 (length (r ∷ rs)) r.turn (omega arith) v, in-turn-up-to 1 (length (r ∷ rs)) r.turn rs (omega arith) v h.1)
  where
    one : (z : ℕ) → UpTo 1 (turn (opened 1 z) 1 1 1)
    one z = search arith

module _ (job : Job) where
  -- the further lines of a stack, where what comes after them is in turn after each of its places
  stack-on :
      (b : Opened) (s k p x y : ℕ) (st : Stack) (rs : List Placement)
      → ((q : ℕ) → InTurn (turn b s k q) rs)
      → InTurn (turn b s k p) (stack_lines job b s k (suc p) x y st ++ rs)
  unfolding stack_lines
  stack-on b s k p x y [] rs h = h p
  stack-on b s k p x y (i ∷ is) rs h = (same-stack, stack-on b s k (suc p) x (y + height_of job i + job.blade) is rs h)

  -- a stack that is begun after t
  stack-begun :
      (t : Turn) (b : Opened) (s k x y : ℕ) (st : Stack) (rs : List Placement)
      → Next t (turn b s k 1)
      → Filled st
      → ((q : ℕ) → InTurn (turn b s k q) rs)
      → InTurn t (stack_lines job b s k 1 x y st ++ rs)
  unfolding stack_lines
  stack-begun t b s k x y [] rs n f h = absurd f
  stack-begun t b s k x y (i ∷ is) rs n f h = (n, stack-on b s k 1 x (y + height_of job i + job.blade) is rs h)

  -- the further stacks of a strip, and a strip that is begun after t
  strip-on :
      (b : Opened) (s k p x y : ℕ) (st : Strip) (rs : List Placement)
      → Every Filled st
      → ((j q : ℕ) → InTurn (turn b s j q) rs)
      → InTurn (turn b s k p) (strip_lines job b s (suc k) x y st ++ rs)
  unfolding strip_lines
  strip-on b s k p x y [] rs f h = h k p
  strip-on b s k p x y (l ∷ ls) rs f h =
      let more = strip_lines job b s (suc (suc k)) (x + stack_width job l + job.blade) y ls in
      rw (append_assoc (stack_lines job b s (suc k) 1 x y l) more rs)
      (stack-begun (turn b s k p) b s (suc k) x y l (more ++ rs) next-stack f.0
      (λ q. strip-on b s (suc k) q (x + stack_width job l + job.blade) y ls rs f.1 h))

  strip-begun :
      (t : Turn) (b : Opened) (s y : ℕ) (st : Strip) (rs : List Placement)
      → Next t (turn b s 1 1)
      → FullStrip st
      → ((j q : ℕ) → InTurn (turn b s j q) rs)
      → InTurn t (strip_lines job b s 1 0 y st ++ rs)
  unfolding strip_lines
  strip-begun t b s y [] rs n f h = absurd f.0
  strip-begun t b s y (l ∷ ls) rs n f h =
      let more = strip_lines job b s 2 (0 + stack_width job l + job.blade) y ls in
      rw (append_assoc (stack_lines job b s 1 1 0 y l) more rs)
      (stack-begun t b s 1 0 y l (more ++ rs) n f.1.0 (λ q. strip-on b s 1 q (0 + stack_width job l + job.blade) y ls rs f.1.1 h))

  -- the further strips of a board, and a board that is begun after t
  board-on :
      (b : Opened) (s k p y : ℕ) (bd : Board) (rs : List Placement)
      → Every FullStrip bd
      → ((j l q : ℕ) → InTurn (turn b j l q) rs)
      → InTurn (turn b s k p) (board_lines job b (suc s) y bd ++ rs)
  unfolding board_lines
  board-on b s k p y [] rs f h = h s k p
  board-on b s k p y (st ∷ sts) rs f h =
      let more = board_lines job b (suc (suc s)) (y + strip_height job st + job.blade) sts in
      rw (append_assoc (strip_lines job b (suc s) 1 0 y st) more rs)
      (strip-begun (turn b s k p) b (suc s) y st (more ++ rs) next-strip f.0
      (λ j q. board-on b (suc s) j q (y + strip_height job st + job.blade) sts rs f.1 h))

  board-begun :
      (t : Turn) (b : Opened) (bd : Board) (rs : List Placement)
      → Next t (turn b 1 1 1)
      → FullBoard bd
      → ((j l q : ℕ) → InTurn (turn b j l q) rs)
      → InTurn t (board_lines job b 1 0 bd ++ rs)
  unfolding board_lines
  board-begun t b [] rs n f h = absurd f.0
  board-begun t b (st ∷ sts) rs n f h =
      let more = board_lines job b 2 (0 + strip_height job st + job.blade) sts in
      rw (append_assoc (strip_lines job b 1 1 0 0 st) more rs)
      (strip-begun t b 1 0 st (more ++ rs) n f.1.0 (λ j q. board-on b 1 j q (0 + strip_height job st + job.blade) sts rs f.1.1 h))

  -- the further boards of a set
  set_on : (b : Opened) (s k p : ℕ) (bs : List Sheet) → FullSet bs → InTurn (turn b s k p) (set_lines job (suc b.number) bs)
  unfolding set_lines
  set_on b s k p [] f = tt
  set_on b s k p (sheet z bd ∷ bs) f =
      let b₁ : Opened = opened (suc b.number) z in
      board-begun (turn b s k p) b₁ bd (set_lines job (suc (suc b.number)) bs) next-board f.0 (λ j l q. set_on b₁ j l q bs f.1)

  -- the lines of a set of which nothing is empty run in turn from 1
  pub lines-from-one : (bs : List Sheet) → FullSet bs → FromOne (lines_of job bs)
  unfolding lines_of set_lines board_lines strip_lines stack_lines
  lines-from-one [] f = tt
  lines-from-one (sheet z [] ∷ bs) f = absurd f.0.0
  lines-from-one (sheet z ([] ∷ ss) ∷ bs) f = absurd f.0.1.0.0
  lines-from-one (sheet z (([] ∷ ks) ∷ ss) ∷ bs) f = absurd f.0.1.0.1.0
  lines-from-one (sheet z (((i ∷ is) ∷ ks) ∷ ss) ∷ bs) f = (refl, (set_on (opened 0 0) 0 0 0 (sheet z (((i ∷ is) ∷ ks) ∷ ss) ∷ bs) f).1)

  pub lines-turns : (k : ℕ) (bs : List Sheet) → FullSet bs → turns k (lines_of job bs) ≡ pass
  lines-turns k bs f = pass-turns k (lines_of job bs) (lines-from-one bs f)
