-- The line row of layout words, on plain values: whole lines, the limits of each, and its position.
use mathlib.Core.Path.{◌≡◌, sym, ◌∙◌}
use Prim.Native.Nat.{ℕ, ◌+◌, ◌*◌, ◌<◌, ◌/◌, ◌%◌}
use mathlib.Core.Bool.{Bool, not}
use mathlib.Core.List.{List}
use native.Mathlib.Omega.{arith}
use native.Mathlib.Numerals.{add-one}
use native.Mathlib.Nat.{div-add-mod}
use borrow.Author.Tests.{eq-eqb, ne_eqb}
use lib.ListN.{length, get_or}
use Rattle.job.specs.Sizes.{words_of_placement}
use Rattle.job.specs.Verdict.{Verdict, pass, refuse, ◌then◌, lowest}
use Rattle.job.specs.Job.{Job, permitted}
use Rattle.layouts.specs.Lines.{Line, lines_in, rows_of, row_right, layout_words}
use Rattle.layouts.specs.Rules.{Every, OfJob}
use Rattle.layouts.proofs.lists.Every.{every-at, passes-every}
use Rattle.layouts.proofs.row.RowWords.{LineOk, right-exact, words-exact}
use Rattle.placement.specs.PlacementRead.{no_placement, placement_at, line_at, no_line}
use Rattle.placement.proofs.Rows.{whole-rows, row_read, line_read}
use Rattle.placement.proofs.Rows.{whole-lines as lines-number}
use Rattle.layouts_lines.specs.LineSums.{OfType, OfTypes}

-- words that leave nothing over are whole lines
pub whole-lines : (ws : List ℕ) → length ws % words_of_placement ≡ 0 → length ws ≡ words_of_placement * (length ws / words_of_placement)
whole-lines ws h = omega (arith, div-add-mod (length ws) words_of_placement)

module _ (job : Job) (ws : List ℕ) where
  -- a line cut short is 1
  pub cut_short : (length ws % words_of_placement ≡ 0 → ⊥) → refuse 1 (length ws / words_of_placement + 1) ≡ layout_words job ws
  unfolding layout_words
  cut_short h = rw (ne_eqb _ _ h, add-one (length ws / words_of_placement))

  -- else the limits of the lines decide, and then their positions
  pub by-limits : length ws % words_of_placement ≡ 0 → {v : Verdict} → v ≡ (lowest 2 (λ _ r. not (row_right job r)) 1 (lines_in ws) then lowest 19 (λ _ r. not (permitted job r.item)) 1 (rows_of ws)) → v ≡ layout_words job ws
  unfolding layout_words
  by-limits h e = rw (eq-eqb _ _ h) e

  -- what the test says of the line read it says of the line behind c others
  pub line-tested : (lines c : ℕ) → length ws ≡ words_of_placement * lines → c < lines → {f b : Bool} {r : Line} → f ≡ row_right job r → r ≡ line_at ws c → not f ≡ b → not (row_right job (get_or (lines_in ws) c no_line)) ≡ b
  line-tested lines c w h e i t = rw (line_read ws c (omega arith), ← i, ← e) t

  -- a line within its limits is of an item type of the job
  line-typed : (lines : ℕ) → Every (LineOk job) (lines_in ws) → length ws ≡ words_of_placement * lines → OfTypes (length job.items) lines ws
  line-typed lines every w = record { each = λ c h. of-type c h (ok c h) }
    where
      ok : (c : ℕ) → c < lines → LineOk job (line_at ws c)
      ok c h = rw (line_read ws c (omega arith)) at (every-at (LineOk job) (lines_in ws) every no_line c (rw (lines-number ws lines w) h))

      of-type : (c : ℕ) → c < lines → LineOk job (line_at ws c) → OfType (length job.items) (line_at ws c)
      of-type c h k = record { from_one = k.type.0; to_last = k.type.1; turn = k.turned }

  -- lines whose limits passed
  pub limits-typed : (lines : ℕ) → {v : Verdict} → v ≡ lowest 2 (λ _ r. not (row_right job r)) 1 (lines_in ws) → v ≡ pass → length ws ≡ words_of_placement * lines → OfTypes (length job.items) lines ws
  limits-typed lines e p w = line-typed lines ((passes-every 2 1 (right-exact job) (lines_in ws)).0 (sym e ∙ p)) w

  -- lines of words that passed name sizes of the job (request Six), ..
  pub passed-sized : (lines : ℕ) → layout_words job ws ≡ pass → length ws ≡ words_of_placement * lines → (c : ℕ) → c < lines → (placement_at ws c).turn.board.size < length job.sizes
  passed-sized lines p w c h =
      let ok : LineOk job (get_or (lines_in ws) c no_line) = every-at (LineOk job) (lines_in ws) ((words-exact job ws).0 p).1.0 no_line c (rw (lines-number ws lines w) h) in
      (rw (line_read ws c (omega arith)) at ok).sized

  -- .. are of its item types,
  pub passed-typed : (lines : ℕ) → layout_words job ws ≡ pass → length ws ≡ words_of_placement * lines → OfTypes (length job.items) lines ws
  passed-typed lines p w = line-typed lines ((words-exact job ws).0 p).1.0 w

  -- and in permitted positions
  pub passed-item : (lines c : ℕ) → layout_words job ws ≡ pass → length ws ≡ words_of_placement * lines → c < lines → OfJob job (placement_at ws c).item
  passed-item lines c p w h =
      let ok : OfJob job (get_or (rows_of ws) c no_placement).item = every-at (λ r. OfJob job r.item) (rows_of ws) ((words-exact job ws).0 p).1.1 no_placement c (rw (whole-rows ws lines w) h) in
      rw (row_read ws c (omega arith)) at ok
