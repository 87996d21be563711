-- The line row of layout words, both ways: the words of a set that demand 3 names pass it, and words that pass it are whole lines within
-- their limits.
use Prim.Native.Nat.{ℕ, suc, ◌≤◌, ◌<◌, ◌/◌, ◌%◌}
use native.Mathlib.Omega.{arith}
use mathlib.Core.Path.{◌≡◌}
use mathlib.Core.Logic.{◌↔◌}
use mathlib.Core.Bool.{true}
use mathlib.Core.List.{List}
use lib.ListN.{length}
use borrow.Author.Tests.{ltb-true, lt-ltb}
use Rattle.job.specs.Sizes.{words_of_placement}
use Rattle.job.specs.Verdict.{pass}
use Rattle.job.specs.Job.{Job, size_at, max_side, max_pieces}
use Rattle.job.specs.Admitted.{SizeLimits}
use Rattle.job.proofs.Positions.{permitted-exact}
use Rattle.job.proofs.Decides.{decides_eq, decides_and, decides-seven, decides-within, passes_then, passes-test}
use Rattle.layouts.specs.Layout.{Sheet, sheet_size, strips_of, layout_rules}
use Rattle.layouts.specs.Placement.{Placement, placement_words, lines_of, items_of_set}
use Rattle.layouts.specs.Lines.{Line, lines_in, rows_of, row_right, layout_words}
use Rattle.layouts.specs.LayoutsRow.{layouts_row}
use Rattle.layouts.specs.Rules.{Every, OfJob, StripOk, SheetOk, SetOk}
use Rattle.layouts.proofs.lists.Every.{every_map, every-both, every-of-map, map-every, passes-every}
use Rattle.layouts.proofs.rules.RulesExact.{set-exact}
use Rattle.layouts.proofs.row.Grouping.{ok-full}
use Rattle.layouts.proofs.row.RowTurns.{UpTo, turns-up-to, lines-from-one}
use Rattle.layouts.proofs.row.RowLines.{items_every, lines-items, lines-length, line_of, words_lines, words-rows, words-whole}
use Rattle.layouts.proofs.rules.Geometry.{OnBoard, lines-between}
use Rattle.layouts.proofs.row.Row.{SetOfRows, row-set}

module _ (job : Job) where
  -- a line within its limits: "board, strip, stack, place 1 to 4,000", "type 1 to n", "x, y 0 to 10,000", the turn 0 or 1, a size below t
  pub record LineOk (r : Line) : Type 0 where
    pub numbers : UpTo max_pieces r.placement.turn
    pub type : (1 ≤ r.type) × (r.type ≤ length job.items)
    pub across : r.placement.x ≤ max_side
    pub up : r.placement.y ≤ max_side
    pub turned : r.turned ≤ 1
    pub sized : r.placement.turn.board.size < length job.sizes

  right-tests :
      (r : Line)
      → (row_right job r ≡ true)
      ↔ (((((1 ≤ r.placement.turn.board.number) × (r.placement.turn.board.number ≤ max_pieces))
      × ((1 ≤ r.placement.turn.strip) × (r.placement.turn.strip ≤ max_pieces))
      × ((1 ≤ r.placement.turn.stack) × (r.placement.turn.stack ≤ max_pieces))
      × ((1 ≤ r.placement.turn.place) × (r.placement.turn.place ≤ max_pieces))
      × ((1 ≤ r.type) × (r.type ≤ length job.items))
      × ((0 ≤ r.placement.x) × (r.placement.x ≤ max_side))
      × ((0 ≤ r.placement.y) × (r.placement.y ≤ max_side)))
      × ((0 ≤ r.turned) × (r.turned ≤ 1)))
      × (r.placement.turn.board.size < length job.sizes))
  unfolding row_right
  right-tests r =
      decides_and
      (decides_and
      (decides-seven
      (decides-within 1 max_pieces r.placement.turn.board.number)
      (decides-within 1 max_pieces r.placement.turn.strip)
      (decides-within 1 max_pieces r.placement.turn.stack)
      (decides-within 1 max_pieces r.placement.turn.place)
      (decides-within 1 (length job.items) r.type)
      (decides-within 0 max_side r.placement.x)
      (decides-within 0 max_side r.placement.y))
      (decides-within 0 1 r.turned))
      (ltb-true _ _, lt-ltb _ _)

  pub right-exact : (r : Line) → (row_right job r ≡ true) ↔ LineOk r
  right-exact r = (
    λ e.
        let ((q, t), z) = (right-tests r).0 e in
        record {
          numbers = record { board = q.0; strip = q.1; stack = q.2; place = q.3 };
          type = q.4;
          across = q.5.1;
          up = q.6.1;
          turned = t.1;
          sized = z;
        },
    λ h.
        let u = h.numbers in
        (right-tests r).1 (
          ((u.board, u.strip, u.stack, u.place, h.type, (omega arith, h.across), (omega arith, h.up)), (omega arith, h.turned)),
          h.sized,
        ),
  )

  -- layout words pass exactly if they are whole lines, each within its limits and in a permitted position
  pub words-exact :
      (ws : List ℕ)
      → (layout_words job ws ≡ pass)
      ↔ ((length ws % words_of_placement ≡ 0) × (Every LineOk (lines_in ws) × Every (λ r. OfJob job r.item) (rows_of ws)))
  unfolding layout_words
  words-exact ws =
      passes_then (passes-test 1 (suc (length ws / words_of_placement)) (decides_eq (length ws % words_of_placement) 0))
      (passes_then (passes-every 2 1 right-exact (lines_in ws)) (passes-every 19 1 (λ r. permitted-exact job r.item) (rows_of ws)))

  -- a placement within its limits
  pub record RowOk (r : Placement) : Type 0 where
    pub turned : UpTo max_pieces r.turn
    pub type : OfJob job r.item
    pub across : r.x ≤ max_side
    pub up : r.y ≤ max_side
    pub sized : r.turn.board.size < length job.sizes

  -- as a line of words it is within its limits too
  row_line : (r : Placement) → RowOk r → LineOk (line_of r)
  row_line r h =
      record {
        numbers = h.turned;
        type = h.type.type;
        across = h.across;
        up = h.up;
        turned = h.type.turn.1;
        sized = h.sized;
      }

  -- the lines of a set that keeps the rules, within 4,000 pieces, on sizes within their limits, are within their limits, ..
  pub lines-right :
      (bs : List Sheet)
      → ((j : ℕ) → j < length job.sizes → SizeLimits (size_at job j))
      → layout_rules job bs ≡ true
      → length (items_of_set bs) ≤ max_pieces
      → Every RowOk (lines_of job bs)
  lines-right bs small rules few =
      every_map (λ r (q : UpTo (length rs) r.turn × (OfJob job r.item × OnBoard job r)).
      let u = q.0 in
      let f : length rs ≤ max_pieces = omega (arith, lines-length job bs) in
      let on : OnBoard job r = q.1.1 in
      let z : SizeLimits (size_at job r.turn.board.size) = small r.turn.board.size on.0 in
      record {
        turned = search arith;
        type = q.1.0;
        across = omega (arith, on.1.right, z.width-limits);
        up = omega (arith, on.1.high, z.height-limits);
        sized = on.0;
      })
      rs
      (every-both (λ r. UpTo (length rs) r.turn) (λ r. OfJob job r.item × OnBoard job r) rs
      (turns-up-to rs (lines-from-one job bs (ok-full job bs ok)))
      (every-both (λ r. OfJob job r.item) (OnBoard job) rs types (lines-between job bs ok)))
    where
      rs : List Placement
      rs = lines_of job bs

      ok : SetOk job bs
      ok = (set-exact job bs).0 rules

      types : Every (λ r. OfJob job r.item) (lines_of job bs)
      types =
          map-every (OfJob job) (λ r. r.item) (lines_of job bs)
          (rw (lines-items job bs)
          ((items_every (OfJob job) bs).1
          (every_map (λ b (h : SheetOk job b).
          every_map (λ s (q : StripOk job (size_at job (sheet_size b)) s). q.types) (strips_of b) h.1.strips)
          bs ok)))

  -- .. and its words pass the line row
  pub lines-words :
      (bs : List Sheet)
      → ((j : ℕ) → j < length job.sizes → SizeLimits (size_at job j))
      → layout_rules job bs ≡ true
      → length (items_of_set bs) ≤ max_pieces
      → layout_words job (placement_words (lines_of job bs)) ≡ pass
  lines-words bs small rules few =
      let right : Every RowOk (lines_of job bs) = lines-right bs small rules few in
      (words-exact (placement_words (lines_of job bs))).1 (
        words-whole (lines_of job bs),
        (
          rw (words_lines (lines_of job bs)) (every-of-map LineOk line_of (lines_of job bs) (every_map row_line (lines_of job bs) right)),
          rw (words-rows (lines_of job bs)) (every_map (λ r (h : RowOk r). h.type) (lines_of job bs) right),
        ),
      )

  -- words that pass the line row and the layouts row are the lines of a set that demand 3 names
  pub words-set : (k : ℕ) (ws : List ℕ) → layout_words job ws ≡ pass → layouts_row k job (rows_of ws) ≡ pass → SetOfRows job (rows_of ws)
  unfolding rows_of
  words-set k ws e q =
      let right : Every LineOk (lines_in ws) = ((words-exact ws).0 e).1.0 in
      row-set job k (rows_of ws) ((words-exact ws).0 e).1.1
      (every-of-map (λ r. r.turn.board.size < length job.sizes) (λ r. r.placement) (lines_in ws) (every_map (λ r (h : LineOk r). h.sized) (lines_in ws) right)) q
