-- The lines of a set of layouts: they hold its items in order, and as words they are read back.
use Prim.Native.Nat.{ℕ, suc, ◌+◌, ◌*◌, ◌%◌, ◌≤◌}
use native.Mathlib.Omega.{arith}
use native.Mathlib.Nat.{mul-mod_right}
use mathlib.Core.Path.{◌≡◌, refl, ap, ap₂, sym, ◌∙◌}
use mathlib.Core.Logic.{◌↔◌}
use mathlib.Core.List.{List, [], ◌∷◌, ◌++◌, map, flat_map, map-append, map-map, map-id}
use lib.ListN.{length, length-map}
use Rattle.job.specs.Sizes.{words_of_placement}
use Rattle.job.specs.Job.{Job, type_of, turn_of}
use Rattle.job.proofs.Positions.{type-turn, type-of, turn-of}
use Rattle.job.proofs.Records.{words-length as records-length}
use Rattle.layouts.specs.Layout.{Stack, Strip, Board, Sheet, sheet, strips_of, height_of, stack_width, strip_height}
use Rattle.layouts.specs.Placement.{Opened, opened, Placement, placement_words, stack_lines, strip_lines, board_lines, set_lines, lines_of, items_of_strip, items_of_board, items_of_set, types_of_set}
use Rattle.layouts.specs.Lines.{Line, lines_in, rows_of}
use Rattle.layouts.specs.Rules.{Every}
use Rattle.layouts.proofs.lists.Every.{every_map, every-of-parts, parts-every}

-- the item of a line
abbrev pub line_item : Placement → ℕ
line_item r = r.item

-- what holds of every item of a set holds of every item of every stack of every strip of every board
pub items_every : (P : ℕ → Type 0) (bs : List Sheet) → Every P (items_of_set bs) ↔ Every (λ b. Every (Every (Every P)) (strips_of b)) bs
unfolding items_of_set items_of_board items_of_strip
items_every P bs = (
  λ h.
      every_map (λ b (q : Every P (items_of_board (strips_of b))).
      every_map (λ s (r : Every P (items_of_strip s)). parts-every P (λ k. k) s r) (strips_of b) (parts-every P items_of_strip (strips_of b) q))
      bs (parts-every P (λ b. items_of_board (strips_of b)) bs h),
  λ h.
      every-of-parts P (λ b. items_of_board (strips_of b)) bs
      (every_map (λ b (q : Every (Every (Every P)) (strips_of b)).
      every-of-parts P items_of_strip (strips_of b) (every_map (λ s (r : Every (Every P) s). every-of-parts P (λ k. k) s r) (strips_of b) q))
      bs h),
)

module _ (job : Job) where
  stack-items : (b : Opened) (s k p x y : ℕ) (st : Stack) → map line_item (stack_lines job b s k p x y st) ≡ st
  unfolding stack_lines
  stack-items b s k p x y [] = refl
  stack-items b s k p x y (i ∷ is) = ap (λ (r : Stack). i ∷ r) (stack-items b s k (suc p) x (y + height_of job i + job.blade) is)

  strip-items : (b : Opened) (s k x y : ℕ) (st : Strip) → map line_item (strip_lines job b s k x y st) ≡ items_of_strip st
  unfolding strip_lines items_of_strip flat_map
  strip-items b s k x y [] = refl
  strip-items b s k x y (l ∷ ls) =
      map-append line_item (stack_lines job b s k 1 x y l) (strip_lines job b s (suc k) (x + stack_width job l + job.blade) y ls)
      ∙ ap₂ (λ (a c : List ℕ). a ++ c) (stack-items b s k 1 x y l) (strip-items b s (suc k) (x + stack_width job l + job.blade) y ls)

  board-items : (b : Opened) (s y : ℕ) (bd : Board) → map line_item (board_lines job b s y bd) ≡ items_of_board bd
  unfolding board_lines items_of_board flat_map
  board-items b s y [] = refl
  board-items b s y (st ∷ sts) =
      map-append line_item (strip_lines job b s 1 0 y st) (board_lines job b (suc s) (y + strip_height job st + job.blade) sts)
      ∙ ap₂ (λ (a c : List ℕ). a ++ c) (strip-items b s 1 0 y st) (board-items b (suc s) (y + strip_height job st + job.blade) sts)

  set-items : (b : ℕ) (bs : List Sheet) → map line_item (set_lines job b bs) ≡ items_of_set bs
  unfolding set_lines items_of_set flat_map
  set-items b [] = refl
  set-items b (sheet z bd ∷ bs) =
      map-append line_item (board_lines job (opened b z) 1 0 bd) (set_lines job (suc b) bs)
      ∙ ap₂ (λ (a c : List ℕ). a ++ c) (board-items (opened b z) 1 0 bd) (set-items (suc b) bs)

  -- the lines of a set hold its items, in order
  pub lines-items : (bs : List Sheet) → map line_item (lines_of job bs) ≡ items_of_set bs
  unfolding lines_of
  lines-items bs = set-items 1 bs

  -- and so their types
  pub lines-types : (bs : List Sheet) → map (λ r. type_of r.item) (lines_of job bs) ≡ types_of_set bs
  unfolding types_of_set
  lines-types bs = sym (map-map type_of line_item (lines_of job bs)) ∙ ap (map type_of) (lines-items bs)

  pub lines-length : (bs : List Sheet) → length (lines_of job bs) ≡ length (items_of_set bs)
  lines-length bs = sym (length-map (lines_of job bs) line_item) ∙ ap length (lines-items bs)

-- a placement as a line of layout words
abbrev pub line_of : Placement → Line
line_of p = record { type = type_of p.item; turned = turn_of p.item; placement = p }

-- placements as words are read back
pub words_lines : (ps : List Placement) → lines_in (placement_words ps) ≡ map line_of ps
unfolding lines_in placement_words flat_map
words_lines [] = refl
words_lines (p ∷ ps) =
    let e : 2 * type_of p.item + turn_of p.item ≡ p.item = type-turn p.item in
    ap₂ (λ (q : ℕ) (r : List Line). record { type = type_of p.item; turned = turn_of p.item; placement = record { turn = p.turn; item = q; x = p.x; y = p.y } } ∷ r) e (words_lines ps)

pub words-rows : (ps : List Placement) → rows_of (placement_words ps) ≡ ps
unfolding rows_of
words-rows ps = ap (map (λ (r : Line). r.placement)) (words_lines ps) ∙ map-map (λ (r : Line). r.placement) line_of ps ∙ map-id ps

-- and whole lines of words, with turns of 0 and 1, are written back
pub rows_words : (ws : List ℕ) → length ws % words_of_placement ≡ 0 → Every (λ r. r.turned ≤ 1) (lines_in ws) → placement_words (rows_of ws) ≡ ws
unfolding lines_in rows_of placement_words flat_map
rows_words [] e h = refl
rows_words (b ∷ []) e h = absurd (omega arith)
rows_words (b ∷ z ∷ []) e h = absurd (omega arith)
rows_words (b ∷ z ∷ s ∷ []) e h = absurd (omega arith)
rows_words (b ∷ z ∷ s ∷ k ∷ []) e h = absurd (omega arith)
rows_words (b ∷ z ∷ s ∷ k ∷ p ∷ []) e h = absurd (omega arith)
rows_words (b ∷ z ∷ s ∷ k ∷ p ∷ i ∷ []) e h = absurd (omega arith)
rows_words (b ∷ z ∷ s ∷ k ∷ p ∷ i ∷ x ∷ []) e h = absurd (omega arith)
rows_words (b ∷ z ∷ s ∷ k ∷ p ∷ i ∷ x ∷ y ∷ []) e h = absurd (omega arith)
rows_words (b ∷ z ∷ s ∷ k ∷ p ∷ i ∷ x ∷ y ∷ t ∷ ws) e h =
    rw (type-of i t h.0, turn-of i t h.0) (ap (λ (r : List ℕ). b ∷ z ∷ s ∷ k ∷ p ∷ i ∷ x ∷ y ∷ t ∷ r) (rows_words ws (omega arith) h.1))

-- nine words for each
pub words-length : (ps : List Placement) → length (placement_words ps) ≡ words_of_placement * length ps
unfolding placement_words
words-length ps = records-length _ words_of_placement (λ p. refl) ps

pub words-whole : (ps : List Placement) → length (placement_words ps) % words_of_placement ≡ 0
words-whole ps = ap (λ (n : ℕ). n % words_of_placement) (words-length ps) ∙ mul-mod_right words_of_placement (length ps)
