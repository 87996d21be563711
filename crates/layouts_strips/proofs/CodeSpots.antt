-- Item positions line by line: they are those of the lines of the set that the lines make.
use mathlib.Core.Path.{◌≡◌, refl, sym, ap, ◌∙◌}
use Prim.Native.Nat.{ℕ, suc, ◌+◌, ◌-◌, ◌*◌, ◌≤◌, ◌<◌, max}
use mathlib.Core.Bool.{Bool, true, false, not, ◌&&◌}
use mathlib.Core.List.{List, [], ◌∷◌, ◌++◌}
use mathlib.Core.Option.{Option, none, some}
use native.Mathlib.Omega.{arith}
use borrow.Author.Tests.{not-true, not-false}
use lib.Dec.{eqb}
use lib.ListN.{length, drop}
use Rattle.job.specs.Sizes.{words_of_placement}
use Rattle.job.specs.declared.item.Position.{Position}
use Rattle.job.specs.Lists.{sum_of, gaps_after, gap_sum, max_of}
use Rattle.job.specs.Verdict.{Verdict, pass, refuse}
use Rattle.job.specs.Job.{Job, position_at}
use Rattle.layouts.specs.Layout.{Stack, Strip, Board, Sheet, sheet, width_of, height_of, stack_width, stack_height, strip_height}
use Rattle.layouts.specs.Placement.{Opened, opened, Turn, turn, Placement, stack_lines, strip_lines, board_lines, set_lines, lines_of}
use Rattle.layouts.specs.Lines.{Level, stack, strip, board, begun, rows_of, in_strip, in_board, in_set, beside, before, grouped}
use Rattle.layouts.specs.LayoutsRow.{positioned}
use Rattle.placement.specs.PlacementRead.{placement_at}
use Rattle.placement.proofs.Rows.{rows-from, rows_end}
use Rattle.layouts.proofs.row.Grouping.{grouped-on, grouped-new}
use Rattle.layouts_strips.specs.declared.spot.Spot.{Spot}
use Rattle.layouts_strips.specs.First.{first_size}
use Rattle.layouts_strips.specs.Measures.{max_word, max_step}
use Rattle.layouts_strips.specs.Spots.{spot, put_on, moved_to, SpotSmall}

-- the turn of the next line; another board is of size z
abbrev next_turn : Option Level → ℕ → Turn → Turn
next_turn none z t = turn t.board t.strip t.stack (suc t.place)
next_turn (some stack) z t = turn t.board t.strip (suc t.stack) 1
next_turn (some strip) z t = turn t.board (suc t.strip) 1 1
next_turn (some board) z t = turn (opened (suc t.board.number) z) 1 1 1

module _ (job : Job) where
  -- the lines of a set from a turn and a spot on: the rest of the stack, of the strip, of the board, whose size the turn has, and the boards after it
  abbrev rest : Turn → Spot → Stack → Strip → Board → List Sheet → List Placement
  rest t s k ks ss bs =
      stack_lines job t.board t.strip t.stack t.place s.x s.y k
      ++ strip_lines job t.board t.strip (suc t.stack) (s.x + max s.width (stack_width job k) + job.blade) s.base ks
      ++ board_lines job t.board (suc t.strip) (max s.above (max (s.y + gaps_after job.blade (height_of job) k) (s.base + strip_height job ks + job.blade))) ss
      ++ set_lines job (suc t.board.number) bs

  abbrev lines_from : Turn → Spot → List Sheet → List Placement
  lines_from t s [] = rest t s [] [] [] []
  lines_from t s (sheet z [] ∷ bs) = rest t s [] [] [] bs
  lines_from t s (sheet z ([] ∷ ss) ∷ bs) = rest t s [] [] ss bs
  lines_from t s (sheet z ((k ∷ ks) ∷ ss) ∷ bs) = rest t s k ks ss bs

  abbrev line_on : Turn → ℕ → Spot → Placement
  line_on t i s = record { turn = t; item = i; x = s.x; y = s.y }

  -- the further lines of a stack that an item lies in
  same_rest :
      (t : Turn) (i : ℕ) (s : Spot) (k : Stack) (ks : Strip) (ss : Board) (bs : List Sheet)
      → rest t s (i ∷ k) ks ss bs ≡ line_on t i s ∷ rest (next_turn none 0 t) (put_on job.blade s (position_at job i)) k ks ss bs
  unfolding stack_lines stack_width max_of sum_of width_of height_of
  same_rest t i s k ks ss bs =
      let w = (position_at job i).width in
      let h = (position_at job i).height in
      let g = job.blade in
      let hs = gaps_after g (height_of job) k in
      let a : max s.width (max w (max_of (width_of job) k)) ≡ max (max s.width w) (max_of (width_of job) k) = omega arith in
      let b : max s.above (max (s.y + (h + g + hs)) (s.base + strip_height job ks + g)) ≡ max (max s.above (s.y + h + g)) (max (s.y + h + g + hs) (s.base + strip_height job ks + g)) = omega arith in
      rw (a, b)

  -- where the lines after an item go on with its stack
  lines-place :
      (t : Turn) (z i : ℕ) (s : Spot) (bs : List Sheet)
      → lines_from t s (in_set z i bs) ≡ line_on t i s ∷ lines_from (next_turn none 0 t) (put_on job.blade s (position_at job i)) bs
  unfolding in_set in_board in_strip
  lines-place t z i s [] = same_rest t i s [] [] [] []
  lines-place t z i s (sheet j [] ∷ bs) = same_rest t i s [] [] [] bs
  lines-place t z i s (sheet j ([] ∷ ss) ∷ bs) = same_rest t i s [] [] ss bs
  lines-place t z i s (sheet j ((k ∷ ks) ∷ ss) ∷ bs) = same_rest t i s k ks ss bs

  -- the lines of a strip from a stack on, of a board from a strip on, of a set
  from-stack :
      (b : Opened) (s k x y above z : ℕ) (ks : Strip) (ss : Board) (bs : List Sheet)
      → strip_lines job b s (suc k) x y ks ++ board_lines job b (suc s) (max above (y + strip_height job ks + job.blade)) ss ++ set_lines job (suc b.number) bs
      ≡ lines_from (turn b s (suc k) 1) (spot x y y 0 above) (sheet z (ks ∷ ss) ∷ bs)
  unfolding strip_lines stack_lines stack_height strip_height stack_width max_of sum_of gap_sum
  from-stack b s k x y above z [] ss bs =
      let g = job.blade in
      let e : max above (max (y + 0) (y + 0 + g)) ≡ max above (y + 0 + g) = omega arith in
      rw e
  from-stack b s k x y above z (l ∷ ls) ss bs =
      let g = job.blade in
      let hs = gaps_after g (height_of job) l in
      let a : x + max 0 (stack_width job l) ≡ x + stack_width job l = omega arith in
      let h : max above (max (y + hs) (y + max_of (stack_height job) ls + g)) ≡ max above (y + max (hs - g) (max_of (stack_height job) ls) + g) = omega arith in
      rw (a, h)

  from-strip :
      (b : Opened) (s base z : ℕ) (ss : Board) (bs : List Sheet)
      → board_lines job b (suc s) base ss ++ set_lines job (suc b.number) bs ≡ lines_from (turn b (suc s) 1 1) (spot 0 base base 0 base) (sheet z ss ∷ bs)
  unfolding board_lines strip_lines stack_lines
  from-strip b s base z [] bs = refl
  from-strip b s base z (ks ∷ ss) bs =
      let e : base + strip_height job ks + job.blade ≡ max base (base + strip_height job ks + job.blade) = omega arith in
      ap (λ (y : ℕ). strip_lines job b (suc s) 1 0 base ks ++ board_lines job b (suc (suc s)) y ss ++ set_lines job (suc b.number) bs) e
      ∙ from-stack b (suc s) 0 0 base base z ks ss bs

  from-board : (b : ℕ) (bs : List Sheet) → set_lines job (suc b) bs ≡ lines_from (turn (opened (suc b) (first_size bs)) 1 1 1) (spot 0 0 0 0 0) bs
  unfolding set_lines board_lines strip_lines stack_lines
  from-board b [] = refl
  from-board b (sheet z bd ∷ bs) = from-strip (opened (suc b) z) 0 0 z bd bs

  -- a stack that has ended
  stack-opened :
      (t : Turn) (p : Spot) (z : ℕ) (ks : Strip) (ss : Board) (bs : List Sheet)
      → p.y ≤ p.above
      → rest (next_turn none 0 t) p [] ks ss bs ≡ lines_from (next_turn (some stack) 0 t) (moved_to job.blade (some stack) p) (sheet z (ks ∷ ss) ∷ bs)
  unfolding stack_lines stack_width max_of sum_of
  stack-opened t p z ks ss bs h =
      let g = job.blade in
      let a : p.x + max p.width 0 ≡ p.x + p.width = omega arith in
      let e : max p.above (max (p.y + 0) (p.base + strip_height job ks + g)) ≡ max p.above (p.base + strip_height job ks + g) = omega arith in
      rw (a, e) (from-stack t.board t.strip t.stack (p.x + p.width + g) p.base p.above z ks ss bs)

  -- a strip that has ended
  strip-opened :
      (t : Turn) (p : Spot) (z : ℕ) (ss : Board) (bs : List Sheet)
      → p.y ≤ p.above
      → p.base + job.blade ≤ p.above
      → rest (next_turn none 0 t) p [] [] ss bs ≡ lines_from (next_turn (some strip) 0 t) (moved_to job.blade (some strip) p) (sheet z ss ∷ bs)
  unfolding stack_lines strip_lines strip_height max_of sum_of
  strip-opened t p z ss bs h l =
      let e : max p.above (max (p.y + 0) (p.base + 0 + job.blade)) ≡ p.above = omega arith in
      rw e (from-strip t.board t.strip p.above z ss bs)

  -- where they begin a stack, a strip, a board
  lines-stack :
      (t : Turn) (z i : ℕ) (s : Spot) (bs : List Sheet)
      → lines_from t s (before z stack (i ∷ []) bs) ≡ line_on t i s ∷ lines_from (next_turn (some stack) 0 t) (moved_to job.blade (some stack) (put_on job.blade s (position_at job i))) bs
  unfolding before beside stack_lines strip_lines board_lines set_lines
  lines-stack t z i s [] = refl
  lines-stack t z i s (sheet j [] ∷ bs) = refl
  lines-stack t z i s (sheet j (ks ∷ ss) ∷ bs) = same_rest t i s [] ks ss bs ∙ ap (λ (l : List Placement). line_on t i s ∷ l) (stack-opened t (put_on job.blade s (position_at job i)) j ks ss bs (omega arith))

  lines-strip :
      (t : Turn) (z i : ℕ) (s : Spot) (bs : List Sheet)
      → s.base ≤ s.y
      → lines_from t s (before z strip (i ∷ []) bs) ≡ line_on t i s ∷ lines_from (next_turn (some strip) 0 t) (moved_to job.blade (some strip) (put_on job.blade s (position_at job i))) bs
  unfolding before stack_lines strip_lines board_lines set_lines
  lines-strip t z i s [] h = refl
  lines-strip t z i s (sheet j ss ∷ bs) h =
      same_rest t i s [] [] ss bs ∙ ap (λ (l : List Placement). line_on t i s ∷ l) (strip-opened t (put_on job.blade s (position_at job i)) j ss bs (omega arith) (omega arith))

  lines-board :
      (t : Turn) (z i : ℕ) (s : Spot) (bs : List Sheet)
      → lines_from t s (before z board (i ∷ []) bs) ≡ line_on t i s ∷ lines_from (next_turn (some board) (first_size bs) t) (moved_to job.blade (some board) (put_on job.blade s (position_at job i))) bs
  unfolding before stack_lines strip_lines board_lines set_lines
  lines-board t z i s [] = refl
  lines-board t z i s (b ∷ bs) = ap (λ (l : List Placement). line_on t i s ∷ l) (from-board t.board.number (b ∷ bs))

  -- a line before the lines that are left, by what these begin
  lines_step :
      (t : Turn) (s : Spot) (r : Placement) (rs : List Placement)
      → s.base ≤ s.y
      → lines_from t s (grouped (r ∷ rs)) ≡ line_on t r.item s ∷ lines_from (next_turn (begun rs) (first_size (grouped rs)) t) (moved_to job.blade (begun rs) (put_on job.blade s (position_at job r.item))) (grouped rs)
  lines_step t s r rs h = go (begun rs) refl
    where
      go : (o : Option Level) → begun rs ≡ o
          → lines_from t s (grouped (r ∷ rs)) ≡ line_on t r.item s ∷ lines_from (next_turn o (first_size (grouped rs)) t) (moved_to job.blade o (put_on job.blade s (position_at job r.item))) (grouped rs)
      go none e = ap (lines_from t s) (grouped-on r rs e) ∙ lines-place t r.turn.board.size r.item s (grouped rs)
      go (some stack) e = ap (lines_from t s) (grouped-new r rs stack e) ∙ lines-stack t r.turn.board.size r.item s (grouped rs)
      go (some strip) e = ap (lines_from t s) (grouped-new r rs strip e) ∙ lines-strip t r.turn.board.size r.item s (grouped rs) h
      go (some board) e = ap (lines_from t s) (grouped-new r rs board e) ∙ lines-board t r.turn.board.size r.item s (grouped rs)

  -- 18, line by line
  unfoldable pub spotted : ℕ → Spot → List Placement → Verdict
  spotted k s [] = pass
  spotted k s (r ∷ rs) =
      elim (eqb r.x s.x && eqb r.y s.y) [
        | false ↦ refuse 18 k
        | true ↦ spotted (suc k) (moved_to job.blade (begun rs) (put_on job.blade s (position_at job r.item))) rs
      ]

  based : (o : Option Level) (s : Spot) → s.base ≤ s.y → (moved_to job.blade o s).base ≤ (moved_to job.blade o s).y
  based none s h = h
  based (some stack) s h = omega arith
  based (some strip) s h = omega arith
  based (some board) s h = omega arith

  spotted-lines : (k : ℕ) (t : Turn) (s : Spot) (rs : List Placement) → s.base ≤ s.y → positioned k rs (lines_from t s (grouped rs)) ≡ spotted k s rs
  unfolding positioned spotted
  spotted-lines k t s [] h = refl
  spotted-lines k t s (r ∷ rs) h =
      let next = moved_to job.blade (begun rs) (put_on job.blade s (position_at job r.item)) in
      ap (positioned k (r ∷ rs)) (lines_step t s r rs h)
      ∙ ap (λ (v : Verdict). elim (eqb r.x s.x && eqb r.y s.y) as (λ _. Verdict) [ false ↦ refuse 18 k | true ↦ v ])
      (spotted-lines (suc k) (next_turn (begun rs) (first_size (grouped rs)) t) next rs (based (begun rs) (put_on job.blade s (position_at job r.item)) (omega arith)))

  -- from the first line on
  spotted-whole : (k : ℕ) (rs : List Placement) → positioned k rs (lines_of job (grouped rs)) ≡ spotted k (spot 0 0 0 0 0) rs
  unfolding lines_of
  spotted-whole k rs = ap (positioned k rs) (from-board 0 (grouped rs)) ∙ spotted-lines k (turn (opened 1 (first_size (grouped rs))) 1 1 1) (spot 0 0 0 0 0) rs (omega arith)

  pub spots-begin : (k : ℕ) (rs : List Placement) → positioned k rs (lines_of job (grouped rs)) ≡ spotted (k + 0) (spot 0 0 0 0 0) rs
  spots-begin k rs = let e : k + 0 ≡ k = omega arith in rw e (spotted-whole k rs)

  module _ (k : ℕ) (s : Spot) (r : Placement) (rs : List Placement) where
    -- whether its x and y are those of the spot
    abbrev at_spot : Bool
    at_spot = eqb r.x s.x && eqb r.y s.y

    spotted-off : at_spot ≡ false → spotted k s (r ∷ rs) ≡ refuse 18 k
    unfolding spotted
    spotted-off h = rw (h, spotted)

    spotted-on : at_spot ≡ true → spotted k s (r ∷ rs) ≡ spotted (suc k) (moved_to job.blade (begun rs) (put_on job.blade s (position_at job r.item))) rs
    unfolding spotted
    spotted-on h = rw (h, spotted)

  -- at the line behind c others, whose words are read
  module _ (ws : List ℕ) (n k c : ℕ) (s : Spot) {whole : Verdict} (l : length ws ≡ words_of_placement * n) (w : whole ≡ spotted (k + c) s (drop c (rows_of ws))) where
    pub spots-end : n ≤ c → pass ≡ whole
    unfolding spotted
    spots-end h = sym (w ∙ rw (rows_end ws n c l h))

    module _ (h : c < n) {r : Placement} (read : r ≡ placement_at ws c) where
      at-line : whole ≡ spotted (k + c) s (r ∷ drop (c + 1) (rows_of ws))
      at-line = w ∙ rw (rows-from ws n c l h, read)

      -- by the test of the code, whether the line lies elsewhere
      module _ {b : Bool} (test : b ≡ not (eqb r.x s.x && eqb r.y s.y)) where
        pub spots-off : b ≡ true → refuse 18 (k + c) ≡ whole
        spots-off t = sym (at-line ∙ spotted-off (k + c) s r (drop (c + 1) (rows_of ws)) (not-true _ (sym test ∙ t)))

        pub spots-next :
            b ≡ false → {s' : Spot}
            → s' ≡ moved_to job.blade (begun (drop (c + 1) (rows_of ws))) (put_on job.blade s (position_at job (placement_at ws c).item))
            → whole ≡ spotted (k + (c + 1)) s' (drop (c + 1) (rows_of ws))
        spots-next t e =
            let q : k + (c + 1) ≡ suc (k + c) = omega arith in
            at-line ∙ spotted-on (k + c) s r (drop (c + 1) (rows_of ws)) (not-false _ (sym test ∙ t)) ∙ rw (q, e, read)

-- the spot of the next line, as the code makes it
pub spot-said : (b : Option Level) {o : Option Level} (s : Spot) {p r : Spot} {it it' : Position} {g g' : ℕ} → r ≡ moved_to g b p → b ≡ o → p ≡ put_on g s it → it ≡ it' → g ≡ g' → r ≡ moved_to g' o (put_on g' s it')
spot-said b s e f g h q = rw (← q, ← f, ← h, ← g) e

-- limits: an item and a gap add at most a step
module _ {c g : ℕ} (s : Spot) (it : Position) (small : SpotSmall c s) (wide : it.width ≤ max_word) (high : it.height ≤ max_word) (gap : g ≤ max_word) where
  pub put-across : {p : Spot} → p ≡ put_on g s it → p.x + p.width + g ≤ max_step * (c + 1)
  put-across e = rw e (omega arith)

  pub spot-small : (o : Option Level) {p r : Spot} → p ≡ put_on g s it → r ≡ moved_to g o p → SpotSmall (c + 1) r
  spot-small o e f = rw (f, e) (go o)
    where
      go : (v : Option Level) → SpotSmall (c + 1) (moved_to g v (put_on g s it))
      go none = record { across = omega arith; up = omega arith; below = omega arith; high = omega arith }
      go (some stack) = record { across = omega arith; up = omega arith; below = omega arith; high = omega arith }
      go (some strip) = record { across = omega arith; up = omega arith; below = omega arith; high = omega arith }
      go (some board) = record { across = omega arith; up = omega arith; below = omega arith; high = omega arith }
