-- Lines that run in turn, with right positions, are the lines of the set that they make.
use Prim.Native.Nat.{ℕ, suc, ◌+◌, ◌≤◌}
use native.Mathlib.Omega.{arith}
use mathlib.Core.Path.{◌≡◌, refl, sym, ap, ap₂, subst, ◌∙◌}
use mathlib.Core.Logic.{◌↔◌}
use mathlib.Core.Bool.{Bool, true, false, ◌&&◌}
use mathlib.Core.List.{List, [], ◌∷◌, ◌++◌, map, map-append, append_assoc}
use mathlib.Core.Option.{Option, none, some}
use lib.Dec.{eqb}
use Rattle.job.specs.Verdict.{pass, refuse}
use Rattle.job.specs.Job.{Job}
use Rattle.job.proofs.Verdicts.{pass-not-refuse}
use Rattle.job.proofs.Decides.{decides_eq, decides_and}
use Rattle.layouts.specs.Layout.{Stack, Strip, Board, Sheet, sheet, sheet_size, height_of, stack_width, strip_height}
use Rattle.layouts.specs.Placement.{Opened, opened, Turn, turn, Placement, stack_lines, strip_lines, board_lines, set_lines, lines_of}
use Rattle.layouts.specs.Lines.{Level, stack, strip, board, level_of, begun, in_strip, in_board, in_set, beside, before, grouped, turns}
use Rattle.layouts.specs.LayoutsRow.{positioned}
use Rattle.layouts.specs.Rules.{Every, Filled}
use Rattle.layouts.proofs.row.Grouping.{FullSet, goes_on, new-stack, new-strip, grouped-on, grouped-new}
use Rattle.layouts.proofs.row.RowTurns.{Next, same-stack, next-stack, next-strip, next-board, InTurn, FromOne, turns-pass}

-- a line without its position
abbrev pub bare : Placement → Placement
bare r = record { turn = r.turn; item = r.item; x = 0; y = 0 }

-- two lines of one position
at_exact : (r p : Placement) → (eqb r.x p.x && eqb r.y p.y ≡ true) ↔ ((r.x ≡ p.x) × (r.y ≡ p.y))
at_exact r p = decides_and (decides_eq r.x p.x) (decides_eq r.y p.y)

-- 18: a list of lines passes against itself
pub positioned-self : (k : ℕ) (rs : List Placement) → positioned k rs rs ≡ pass
unfolding positioned
positioned-self k [] = refl
positioned-self k (r ∷ rs) = rw ((at_exact r r).1 (refl, refl), positioned) (positioned-self (suc k) rs)

-- lines that are the same without their positions, and have the same positions, are the same
line-parts : (t t' : Turn) (i i' x x' y y' : ℕ) → t ≡ t' → i ≡ i' → x ≡ x' → y ≡ y'
    → ◌≡◌ {A = Placement} (record { turn = t; item = i; x = x; y = y }) (record { turn = t'; item = i'; x = x'; y = y' })
line-parts t t' i i' x x' y y' e1 e2 e3 e4 = rw (e1, e2, e3, e4) refl

same_line : (r p : Placement) → bare r ≡ bare p → r.x ≡ p.x → r.y ≡ p.y → r ≡ p
same_line r p e a b =
    line-parts r.turn p.turn r.item p.item r.x p.x r.y p.y
    (ap (λ (q : Placement). q.turn) e) (ap (λ (q : Placement). q.item) e) a b

-- lines that pass against lines of the same turns and items are those lines
pub positioned-same : (k : ℕ) (rs ps : List Placement) → map bare rs ≡ map bare ps → positioned k rs ps ≡ pass → rs ≡ ps
unfolding positioned
positioned-same k [] [] e q = refl
positioned-same k [] (p ∷ ps) e q = absurd (let z : ◌≡◌ {A = ℕ} 0 1 = cc in omega arith)
positioned-same k (r ∷ rs) [] e q = absurd (let z : ◌≡◌ {A = ℕ} 0 1 = cc in omega arith)
positioned-same k (r ∷ rs) (p ∷ ps) e q = go (eqb r.x p.x && eqb r.y p.y) refl q (positioned-same (suc k) rs ps (cc))
  where
    go : (t : Bool) → eqb r.x p.x && eqb r.y p.y ≡ t → elim t [ false ↦ refuse 18 k | true ↦ positioned (suc k) rs ps ] ≡ pass
        → (positioned (suc k) rs ps ≡ pass → rs ≡ ps) → r ∷ rs ≡ p ∷ ps
    go false h q rec = absurd (pass-not-refuse q refl)
    go true h q rec =
        let z = (at_exact r p).0 h in
        ap₂ (λ (a : Placement) (l : List Placement). a ∷ l) (same_line r p (cc) z.0 z.1) (rec q)

-- the set that some lines make has nothing empty
in-full : (z i : ℕ) (bs : List Sheet) → FullSet bs → FullSet (in_set z i bs)
unfolding in_set in_board in_strip
in-full z i [] h = ((tt, ((tt, (tt, tt)), tt)), tt)
in-full z i (sheet j [] ∷ bs) h = absurd h.0.0
in-full z i (sheet j ([] ∷ b) ∷ bs) h = absurd h.0.1.0.0
in-full z i (sheet j ((k ∷ s) ∷ b) ∷ bs) h = ((tt, ((tt, (tt, h.0.1.0.1.1)), h.0.1.1)), h.1)

before-full : (z : ℕ) (v : Level) (k : Stack) (bs : List Sheet) → Filled k → FullSet bs → FullSet (before z v k bs)
unfolding before beside
before-full z v k [] f h = ((tt, ((tt, (f, tt)), tt)), tt)
before-full z stack k (sheet j [] ∷ bs) f h = absurd h.0.0
before-full z stack k (sheet j (s ∷ b) ∷ bs) f h = ((tt, ((tt, (f, h.0.1.0.1)), h.0.1.1)), h.1)
before-full z strip k (sheet j b ∷ bs) f h = ((tt, ((tt, (f, tt)), h.0.1)), h.1)
before-full z board k (b ∷ bs) f h = ((tt, ((tt, (f, tt)), tt)), h)

pub grouped-full : (rs : List Placement) → FullSet (grouped rs)
unfolding grouped
grouped-full [] = tt
grouped-full (r ∷ rs) = go (begun rs) (grouped-full rs)
  where
    go :
        (o : Option Level)
        → FullSet (grouped rs)
        → FullSet (elim o [ none ↦ in_set r.turn.board.size r.item (grouped rs) | some v ↦ before r.turn.board.size v (r.item ∷ []) (grouped rs) ])
    go none h = in-full r.turn.board.size r.item (grouped rs) h
    go (some v) h = before-full r.turn.board.size v (r.item ∷ []) (grouped rs) tt h

-- the numbers of a turn are at least 1
abbrev Counted : Turn → Type 0
Counted t = (1 ≤ t.board.number) × (1 ≤ t.strip) × (1 ≤ t.stack) × (1 ≤ t.place)

counted_next : {t u : Turn} → Next t u → Counted t → Counted u
counted_next same-stack c = (c.0, c.1, c.2, omega arith)
counted_next next-stack c = (c.0, c.1, omega arith, omega arith)
counted_next next-strip c = (c.0, omega arith, omega arith, omega arith)
counted_next next-board c = (omega arith, omega arith, omega arith, omega arith)

-- a turn that begins a board
new-board : (b : Opened) → level_of (turn b 1 1 1) ≡ some board
unfolding level_of
new-board b = refl

-- some lines make some board
in_some : (z i : ℕ) (bs : List Sheet) → Filled (in_set z i bs)
unfolding in_set
in_some z i [] = tt
in_some z i (sheet j b ∷ bs) = tt

before-some : (z : ℕ) (v : Level) (k : Stack) (bs : List Sheet) → Filled (before z v k bs)
unfolding before
before-some z v k [] = tt
before-some z stack k (sheet j b ∷ bs) = tt
before-some z strip k (sheet j b ∷ bs) = tt
before-some z board k (b ∷ bs) = tt

pub grouped-some : (r : Placement) (rs : List Placement) → Filled (grouped (r ∷ rs))
unfolding grouped
grouped-some r rs = go (begun rs)
  where
    go :
        (o : Option Level)
        → Filled {A = Sheet} (elim o [ none ↦ in_set r.turn.board.size r.item (grouped rs) | some v ↦ before r.turn.board.size v (r.item ∷ []) (grouped rs) ])
    go none = in_some r.turn.board.size r.item (grouped rs)
    go (some v) = before-some r.turn.board.size v (r.item ∷ []) (grouped rs)

-- the sizes of the boards are those of lines
module _ (P : ℕ → Type 0) where
  in-sizes : (z i : ℕ) (bs : List Sheet) → P z → Every (λ b. P (sheet_size b)) bs → Every (λ b. P (sheet_size b)) (in_set z i bs)
  unfolding in_set
  in-sizes z i [] p h = (p, tt)
  in-sizes z i (sheet j b ∷ bs) p h = (p, h.1)

  before-sizes : (z : ℕ) (v : Level) (k : Stack) (bs : List Sheet) → P z → Every (λ b. P (sheet_size b)) bs → Every (λ b. P (sheet_size b)) (before z v k bs)
  unfolding before
  before-sizes z v k [] p h = (p, tt)
  before-sizes z stack k (sheet j b ∷ bs) p h = (p, h.1)
  before-sizes z strip k (sheet j b ∷ bs) p h = (p, h.1)
  before-sizes z board k (b ∷ bs) p h = (p, h)

  pub grouped-sizes : (rs : List Placement) → Every (λ r. P r.turn.board.size) rs → Every (λ b. P (sheet_size b)) (grouped rs)
  unfolding grouped
  grouped-sizes [] h = tt
  grouped-sizes (r ∷ rs) h = go (begun rs) (grouped-sizes rs h.1)
    where
      go :
          (o : Option Level)
          → Every (λ b. P (sheet_size b)) (grouped rs)
          → Every (λ b. P (sheet_size b)) (elim o [ none ↦ in_set r.turn.board.size r.item (grouped rs) | some v ↦ before r.turn.board.size v (r.item ∷ []) (grouped rs) ])
      go none q = in-sizes r.turn.board.size r.item (grouped rs) h.0 q
      go (some v) q = before-sizes r.turn.board.size v (r.item ∷ []) (grouped rs) h.0 q

-- the first board of some lines has the size of the first line
abbrev FirstSize : ℕ → List Sheet → Type 0
FirstSize z [] = Unit {0}
FirstSize z (b ∷ bs) = sheet_size b ≡ z

in-first : (z i : ℕ) (bs : List Sheet) → FirstSize z (in_set z i bs)
unfolding in_set
in-first z i [] = refl
in-first z i (sheet j b ∷ bs) = refl

before-first : (z : ℕ) (v : Level) (k : Stack) (bs : List Sheet) → FirstSize z (before z v k bs)
unfolding before
before-first z v k [] = refl
before-first z stack k (sheet j b ∷ bs) = refl
before-first z strip k (sheet j b ∷ bs) = refl
before-first z board k (b ∷ bs) = refl

grouped-first : (r : Placement) (rs : List Placement) → FirstSize r.turn.board.size (grouped (r ∷ rs))
unfolding grouped
grouped-first r rs = go (begun rs)
  where
    go :
        (o : Option Level)
        → FirstSize r.turn.board.size (elim o [ none ↦ in_set r.turn.board.size r.item (grouped rs) | some v ↦ before r.turn.board.size v (r.item ∷ []) (grouped rs) ])
    go none = in-first r.turn.board.size r.item (grouped rs)
    go (some v) = before-first r.turn.board.size v (r.item ∷ []) (grouped rs)

module _ (job : Job) where
  -- turns and items do not depend on the position
  stack-bare : (b : Opened) (s k p x y x' y' : ℕ) (st : Stack) → map bare (stack_lines job b s k p x y st) ≡ map bare (stack_lines job b s k p x' y' st)
  unfolding stack_lines
  stack-bare b s k p x y x' y' [] = refl
  stack-bare b s k p x y x' y' (i ∷ is) =
      ap (λ (l : List Placement). record { turn = turn b s k p; item = i; x = 0; y = 0 } ∷ l)
      (stack-bare b s k (suc p) x (y + height_of job i + job.blade) x' (y' + height_of job i + job.blade) is)

  strip-bare : (b : Opened) (s k x y x' y' : ℕ) (st : Strip) → map bare (strip_lines job b s k x y st) ≡ map bare (strip_lines job b s k x' y' st)
  unfolding strip_lines
  strip-bare b s k x y x' y' [] = refl
  strip-bare b s k x y x' y' (l ∷ ls) =
      map-append bare (stack_lines job b s k 1 x y l) (strip_lines job b s (suc k) (x + stack_width job l + job.blade) y ls)
      ∙ ap₂ (λ (m n : List Placement). m ++ n) (stack-bare b s k 1 x y x' y' l)
      (strip-bare b s (suc k) (x + stack_width job l + job.blade) y (x' + stack_width job l + job.blade) y' ls)
      ∙ sym (map-append bare (stack_lines job b s k 1 x' y' l) (strip_lines job b s (suc k) (x' + stack_width job l + job.blade) y' ls))

  board-bare : (b : Opened) (s y y' : ℕ) (bd : Board) → map bare (board_lines job b s y bd) ≡ map bare (board_lines job b s y' bd)
  unfolding board_lines
  board-bare b s y y' [] = refl
  board-bare b s y y' (st ∷ sts) =
      map-append bare (strip_lines job b s 1 0 y st) (board_lines job b (suc s) (y + strip_height job st + job.blade) sts)
      ∙ ap₂ (λ (m n : List Placement). m ++ n) (strip-bare b s 1 0 y 0 y' st)
      (board-bare b (suc s) (y + strip_height job st + job.blade) (y' + strip_height job st + job.blade) sts)
      ∙ sym (map-append bare (strip_lines job b s 1 0 y' st) (board_lines job b (suc s) (y' + strip_height job st + job.blade) sts))

  -- the lines of a set whose first line has the turn b, s, k, p: from there to the end of the stack, of the strip, of the board, and of the set
  abbrev to_strip : Opened → ℕ → ℕ → Strip → List Placement → List Placement
  to_strip b s k ks rs = map bare (strip_lines job b s k 0 0 ks) ++ rs

  abbrev to_board : Opened → ℕ → Board → List Placement → List Placement
  to_board b s ss rs = map bare (board_lines job b s 0 ss) ++ rs

  abbrev to_set : ℕ → List Sheet → List Placement
  to_set b bs = map bare (set_lines job b bs)

  abbrev from : Turn → List Sheet → List Placement
  from t [] = []
  from t (sheet j [] ∷ bs) = []
  from t (sheet j ([] ∷ ss) ∷ bs) = []
  from t (sheet j ((st ∷ ks) ∷ ss) ∷ bs) =
      map bare (stack_lines job t.board t.strip t.stack t.place 0 0 st)
      ++ to_strip t.board t.strip (suc t.stack) ks
      (to_board t.board (suc t.strip) ss (to_set (suc t.board.number) bs))

  -- a strip is its first stack and the further ones, a board its first strip and the further ones, a set its first board and the further ones
  open-strip :
      (b : Opened) (s k : ℕ) (st : Stack) (ks : Strip) (rs : List Placement)
      → to_strip b s k (st ∷ ks) rs ≡ map bare (stack_lines job b s k 1 0 0 st) ++ to_strip b s (suc k) ks rs
  unfolding strip_lines
  open-strip b s k st ks rs =
      ap (λ (l : List Placement). l ++ rs)
      (map-append bare (stack_lines job b s k 1 0 0 st) (strip_lines job b s (suc k) (0 + stack_width job st + job.blade) 0 ks)
      ∙ ap (λ (l : List Placement). map bare (stack_lines job b s k 1 0 0 st) ++ l) (strip-bare b s (suc k) (0 + stack_width job st + job.blade) 0 0 0 ks))
      ∙ append_assoc (map bare (stack_lines job b s k 1 0 0 st)) (map bare (strip_lines job b s (suc k) 0 0 ks)) rs

  open-board :
      (b : Opened) (s : ℕ) (st : Strip) (ss : Board) (rs : List Placement)
      → to_board b s (st ∷ ss) rs ≡ to_strip b s 1 st (to_board b (suc s) ss rs)
  unfolding board_lines
  open-board b s st ss rs =
      ap (λ (l : List Placement). l ++ rs)
      (map-append bare (strip_lines job b s 1 0 0 st) (board_lines job b (suc s) (0 + strip_height job st + job.blade) ss)
      ∙ ap (λ (l : List Placement). map bare (strip_lines job b s 1 0 0 st) ++ l) (board-bare b (suc s) (0 + strip_height job st + job.blade) 0 ss))
      ∙ append_assoc (map bare (strip_lines job b s 1 0 0 st)) (map bare (board_lines job b (suc s) 0 ss)) rs

  open-set : (b z : ℕ) (bd : Board) (bs : List Sheet) → to_set b (sheet z bd ∷ bs) ≡ to_board (opened b z) 1 bd (to_set (suc b) bs)
  unfolding set_lines
  open-set b z bd bs = map-append bare (board_lines job (opened b z) 1 0 bd) (set_lines job (suc b) bs)

  -- a line of turn t before the lines of a set
  abbrev line : Turn → ℕ → Placement
  line t i = record { turn = t; item = i; x = 0; y = 0 }

  -- .. that go on with its stack, or begin a stack, a strip or a board
  from_place :
      (t : Turn) (z i : ℕ) (bs : List Sheet)
      → Filled bs
      → FullSet bs
      → from t (in_set z i bs) ≡ line t i ∷ from (turn t.board t.strip t.stack (suc t.place)) bs
  unfolding in_set in_board in_strip stack_lines
  from_place t z i [] n f = absurd n
  from_place t z i (sheet j [] ∷ bs) n f = absurd f.0.0
  from_place t z i (sheet j ([] ∷ ss) ∷ bs) n f = absurd f.0.1.0.0
  from_place t z i (sheet j ((st ∷ ks) ∷ ss) ∷ bs) n f =
      let after = to_strip t.board t.strip (suc t.stack) ks (to_board t.board (suc t.strip) ss (to_set (suc t.board.number) bs)) in
      ap (λ (l : List Placement). line t i ∷ (l ++ after))
      (stack-bare t.board t.strip t.stack (suc t.place) 0 (0 + height_of job i + job.blade) 0 0 st)

  from-stack :
      (t : Turn) (z i : ℕ) (bs : List Sheet)
      → Filled bs
      → FullSet bs
      → from t (before z stack (i ∷ []) bs) ≡ line t i ∷ from (turn t.board t.strip (suc t.stack) 1) bs
  unfolding before beside stack_lines
  from-stack t z i [] n f = absurd n
  from-stack t z i (sheet j [] ∷ bs) n f = absurd f.0.0
  from-stack t z i (sheet j ([] ∷ ss) ∷ bs) n f = absurd f.0.1.0.0
  from-stack t z i (sheet j ((st ∷ ks) ∷ ss) ∷ bs) n f =
      ap (λ (l : List Placement). line t i ∷ l)
      (open-strip t.board t.strip (suc t.stack) st ks (to_board t.board (suc t.strip) ss (to_set (suc t.board.number) bs)))

  from-strip :
      (t : Turn) (z i : ℕ) (bs : List Sheet)
      → Filled bs
      → FullSet bs
      → from t (before z strip (i ∷ []) bs) ≡ line t i ∷ from (turn t.board (suc t.strip) 1 1) bs
  unfolding before stack_lines strip_lines
  from-strip t z i [] n f = absurd n
  from-strip t z i (sheet j [] ∷ bs) n f = absurd f.0.0
  from-strip t z i (sheet j ([] ∷ ss) ∷ bs) n f = absurd f.0.1.0.0
  from-strip t z i (sheet j ((st ∷ ks) ∷ ss) ∷ bs) n f =
      ap (λ (l : List Placement). line t i ∷ l)
      (open-board t.board (suc t.strip) (st ∷ ks) ss (to_set (suc t.board.number) bs)
      ∙ open-strip t.board (suc t.strip) 1 st ks (to_board t.board (suc (suc t.strip)) ss (to_set (suc t.board.number) bs)))

  open-from : (b z : ℕ) (bs : List Sheet) → Filled bs → FullSet bs → FirstSize z bs → to_set b bs ≡ from (turn (opened b z) 1 1 1) bs
  open-from b z [] n f e = absurd n
  open-from b z (sheet j [] ∷ bs) n f e = absurd f.0.0
  open-from b z (sheet j ([] ∷ ss) ∷ bs) n f e = absurd f.0.1.0.0
  open-from b z (sheet j ((st ∷ ks) ∷ ss) ∷ bs) n f e =
      let o : Opened = opened b j in
      open-set b j ((st ∷ ks) ∷ ss) bs
      ∙ open-board o 1 (st ∷ ks) ss (to_set (suc b) bs)
      ∙ open-strip o 1 1 st ks (to_board o 2 ss (to_set (suc b) bs))
      ∙ ap (λ (k : ℕ). from (turn (opened b k) 1 1 1) (sheet j ((st ∷ ks) ∷ ss) ∷ bs)) e

  from-board :
      (t : Turn) (z i y : ℕ) (bs : List Sheet)
      → Filled bs
      → FullSet bs
      → FirstSize y bs
      → from t (before z board (i ∷ []) bs) ≡ line t i ∷ from (turn (opened (suc t.board.number) y) 1 1 1) bs
  unfolding before stack_lines strip_lines board_lines
  from-board t z i y [] n f e = absurd n
  from-board t z i y (bd ∷ bs) n f e = ap (λ (l : List Placement). line t i ∷ l) (open-from (suc t.board.number) y (bd ∷ bs) n f e)

  from_last : (r : Placement) → map bare (r ∷ []) ≡ from r.turn (grouped (r ∷ []))
  unfolding grouped begun before set_lines board_lines strip_lines stack_lines
  from_last r = refl

  begins : (r : Placement) (rs : List Placement) → begun (r ∷ rs) ≡ level_of r.turn
  unfolding begun
  begins r rs = refl

  nothing : map bare [] ≡ map bare (set_lines job 1 (grouped []))
  unfolding grouped set_lines
  nothing = refl

  from_step : {t u : Turn} (r : Placement) (rs : List Placement) → Next t u → Counted t → begun rs ≡ level_of u → Filled (grouped rs) → FirstSize u.board.size (grouped rs)
      → from t (grouped (r ∷ rs)) ≡ line t r.item ∷ from u (grouped rs)
  from_step {t} r rs same-stack c e n w =
      ap (from t) (grouped-on r rs (e ∙ goes_on t.board t.strip t.stack t.place c.3))
      ∙ from_place t r.turn.board.size r.item (grouped rs) n (grouped-full rs)
  from_step {t} r rs next-stack c e n w =
      ap (from t) (grouped-new r rs stack (e ∙ new-stack t.board t.strip t.stack c.2))
      ∙ from-stack t r.turn.board.size r.item (grouped rs) n (grouped-full rs)
  from_step {t} r rs next-strip c e n w =
      ap (from t) (grouped-new r rs strip (e ∙ new-strip t.board t.strip c.1))
      ∙ from-strip t r.turn.board.size r.item (grouped rs) n (grouped-full rs)
  from_step {t} r rs (next-board {z = y}) c e n w =
      ap (from t) (grouped-new r rs board (e ∙ new-board (opened (suc t.board.number) y)))
      ∙ from-board t r.turn.board.size r.item y (grouped rs) n (grouped-full rs) w

  -- lines in turn are but for their positions the lines, from their first turn on, of the set that they make
  from-lines :
      (r : Placement) (rs : List Placement)
      → Counted r.turn
      → InTurn r.turn rs
      → map bare (r ∷ rs) ≡ from r.turn (grouped (r ∷ rs))
  from-lines r [] c h = from_last r
  from-lines r (r' ∷ rs) c h =
      ap (λ (l : List Placement). bare r ∷ l) (from-lines r' rs (counted_next h.0 c) h.1)
      ∙ sym (from_step r (r' ∷ rs) h.0 c (begins r' rs) (grouped-some r' rs) (grouped-first r' rs))

  bare-lines : (rs : List Placement) → FromOne rs → map bare rs ≡ map bare (lines_of job (grouped rs))
  unfolding lines_of
  bare-lines [] h = nothing
  bare-lines (r ∷ rs) h =
      from-lines r rs (subst Counted (sym h.0) (omega arith, omega arith, omega arith, omega arith)) h.1
      ∙ ap (λ (t : Turn). from t (grouped (r ∷ rs))) h.0
      ∙ sym (open-from 1 r.turn.board.size (grouped (r ∷ rs)) (grouped-some r rs) (grouped-full (r ∷ rs)) (grouped-first r rs))

  -- lines that run in turn, with right positions, are the lines of the set that they make
  pub rows-lines :
      (k : ℕ) (rs : List Placement)
      → turns k rs ≡ pass
      → positioned k rs (lines_of job (grouped rs)) ≡ pass
      → rs ≡ lines_of job (grouped rs)
  rows-lines k rs e q = positioned-same k rs (lines_of job (grouped rs)) (bare-lines rs (turns-pass k rs e)) q
