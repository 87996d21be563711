-- The lines 7 of layout words: one more of them, how many they are, how many bytes, and their limits as those of layout words.
use Prim.Native.Nat.{ℕ, suc, ◌+◌, ◌*◌, ◌/◌, ◌≤◌}
use native.Mathlib.Omega.{arith}
use mathlib.Core.Path.{◌≡◌, refl, ap, ◌∙◌}
use mathlib.Core.Bool.{true}
use mathlib.Core.List.{List, [], ◌∷◌, ◌++◌, map}
use lib.ListN.{length, length-append}
use Rattle.job.specs.Sizes.{words_of_placement}
use Rattle.job.specs.Verdict.{pass}
use Rattle.job.specs.Job.{Job, type_of, turn_of, permitted, job_of}
use Rattle.job.proofs.Positions.{type-turn, permitted-lies, lies-permitted}
use Rattle.layouts.specs.Placement.{opened, Placement, placement_words, placement_of}
use Rattle.layouts.specs.Lines.{Line, lines_in, rows_of, layout_words}
use Rattle.layouts.specs.Rules.{Every, OfJob}
use Rattle.layouts.proofs.lists.Every.{every_append, every-both, every_map, map-every}
use Rattle.layouts.proofs.row.RowLines.{line_of, words_lines, words-rows, rows_words}
use Rattle.layouts.proofs.row.RowWords.{LineOk, RowOk, words-exact}
use Rattle.texts.specs.Widths.{placement_line_bytes}
use Rattle.texts.specs.Shape.{layout_line}
use Rattle.texts.specs.JobLines.{board_sizes, types_of}
use Rattle.texts.specs.Admitted.{InLimits, OfShape}
use Rattle.texts.specs.SawText.{placement_row}
use Rattle.texts.proofs.WordGroups.{Nines, no_line, one_line, nines}
use Rattle.texts.proofs.Lists.{bytes_of, bytes-cons, map-append}

-- the placement of a line
abbrev placed : Line → Placement
placed r = r.placement

-- one part of the words after another
lines-append : {ws : List ℕ} {k : ℕ} → Nines ws k → (us : List ℕ) → lines_in (ws ++ us) ≡ lines_in ws ++ lines_in us
unfolding lines_in
lines-append no_line us = refl
lines-append (one_line {a = a} {b = b} {c = c} {d = d} {e = e} {f = f} {g = g} {h = h} {i = i} s) us =
    ap (λ (l : List Line). record { type = f; turned = i; placement = placement_of (opened a b) c d e (2 * f + i) g h } ∷ l) (lines-append s us)

pub rows_append : {ws : List ℕ} {k : ℕ} → Nines ws k → (us : List ℕ) → rows_of (ws ++ us) ≡ rows_of ws ++ rows_of us
unfolding rows_of
rows_append {ws} s us = ap (map placed) (lines-append s us) ∙ map-append placed (lines_in ws) (lines_in us)

-- a line for each nine words
pub rows-length : {ws : List ℕ} {k : ℕ} → Nines ws k → length (rows_of ws) ≡ k
unfolding rows_of lines_in
rows-length no_line = refl
rows-length (one_line s) = ap suc (rows-length s)

-- as many lines as placements, of 91 bytes each
pub placement_rows-size :
    (ps : List Placement)
    → (length (map placement_row ps) ≡ length ps) × (length (bytes_of (map placement_row ps)) ≡ placement_line_bytes * length ps)
unfolding placement_row mathlib.Core.List.flat_map
placement_rows-size [] = (refl, refl)
placement_rows-size (p ∷ ps) =
    let q = placement_rows-size ps in
    (ap suc q.0, bytes-cons (placement_row p) (map placement_row ps) ∙ omega arith)

-- ---- words that pass

module _ (job : Job) (ws : List ℕ) (h : layout_words job ws ≡ pass) where
  -- nine words a line
  pub nine_words : length ws ≡ words_of_placement * length (rows_of ws)
  nine_words =
      let e = ((words-exact job ws).0 h).0 in
      omega (arith, rows-length (nines (length ws / words_of_placement) ws (omega arith)))

  -- the words of their lines again
  pub words-again : placement_words (rows_of ws) ≡ ws
  words-again =
      let e = (words-exact job ws).0 h in
      rows_words ws e.0 (every_map (λ r (o : LineOk job r). o.turned) (lines_in ws) e.1.0)

-- placements whose words pass are within their limits
pub rows_ok : (job : Job) (ps : List Placement) → layout_words job (placement_words ps) ≡ pass → Every (RowOk job) ps
rows_ok job ps h =
    let e = (words-exact job (placement_words ps)).0 h in
    every_map (λ p (o : LineOk job (line_of p) × OfJob job p.item). record { turned = o.0.numbers; type = o.1; across = o.0.across; up = o.0.up; sized = o.0.sized }) ps
    (every-both (λ p. LineOk job (line_of p)) (λ p. OfJob job p.item) ps
    (map-every (LineOk job) line_of ps (rw (words_lines ps) at e.1.0))
    (rw (words-rows ps) at e.1.1))

module _ (ws : List ℕ) (z : length (job_of ws).sizes ≡ board_sizes ws) (n : length (job_of ws).items ≡ types_of ws) (some_size : 1 ≤ board_sizes ws) where
  -- a line more whose numbers are within their limits, in a permitted position
  pub words_more :
      (us : List ℕ) (b j s k p i x y t : ℕ)
      → layout_words (job_of ws) us ≡ pass
      → InLimits (layout_line ws).limits (b ∷ j ∷ s ∷ k ∷ p ∷ i ∷ x ∷ y ∷ t ∷ [])
      → permitted (job_of ws) (2 * i + t) ≡ true
      → layout_words (job_of ws) (us ++ (b ∷ j ∷ s ∷ k ∷ p ∷ i ∷ x ∷ y ∷ t ∷ [])) ≡ pass
  unfolding lines_in rows_of
  words_more us b j s k p i x y t h l q =
      let job : Job = job_of ws in
      let vs : List ℕ = b ∷ j ∷ s ∷ k ∷ p ∷ i ∷ x ∷ y ∷ t ∷ [] in
      let e = (words-exact job us).0 h in
      let whole = nines (length us / words_of_placement) us (omega (arith, e.0)) in
      let line : Line = record { type = i; turned = t; placement = placement_of (opened b j) s k p (2 * i + t) x y } in
      let right : LineOk job line = record { numbers = omega arith; type = omega arith; across = omega arith; up = omega arith; turned = omega arith; sized = omega arith } in
      (words-exact job (us ++ vs)).1 (
        rw length-append (omega (arith, e.0)),
        (
          rw (lines-append whole vs) (every_append (LineOk job) (lines_in us) (line ∷ []) e.1.0 (right, tt)),
          rw (rows_append whole vs) (every_append (λ r. OfJob job r.item) (rows_of us) (line.placement ∷ []) e.1.1 (permitted-lies job (2 * i + t) q, tt)),
        ),
      )

  -- a placement within its limits is a line 7
  pub ok-row : (q : Placement) → RowOk (job_of ws) q → OfShape (layout_line ws) (placement_row q)
  unfolding placement_row
  ok-row q h =
      let u = h.turned in
      let m = h.type in
      record {
        others =
            q.turn.board.number
            ∷ q.turn.board.size
            ∷ q.turn.strip
            ∷ q.turn.stack
            ∷ q.turn.place
            ∷ type_of q.item
            ∷ q.x
            ∷ q.y
            ∷ turn_of q.item
            ∷ [];
        numbers = refl;
        limits = omega (arith, u.board, u.strip, u.stack, u.place, m.type, m.turn, h.across, h.up, h.sized);
        turned = rw (type-turn q.item) (lies-permitted (job_of ws) q.item m);
      }
