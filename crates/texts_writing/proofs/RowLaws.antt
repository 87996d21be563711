-- Placements read from words, one by one, and their lines.
use Prim.Native.Nat.{ℕ, ◌+◌, ◌*◌, ◌-◌, ◌≤◌, ◌<◌}
use native.Mathlib.Omega.{arith}
use mathlib.Core.Path.{◌≡◌, refl, ap, ◌∙◌}
use mathlib.Core.List.{List, [], ◌∷◌, ◌++◌, flat_map}
use lib.ListN.{length, get_or, take, drop, replicate, length-drop}
use lib.Seq.{take-add, take_at, get_or-drop, get_or-take, length-take-le}
use Rattle.job.specs.Sizes.{words_of_placement, RecordIn}
use Rattle.job.specs.Buffers.{filled}
use Rattle.job.proofs.Records.{words_last, words-length}
use Rattle.listing.specs.Holds.{Holds}
use Rattle.layouts.specs.Placement.{Placement, placement_words}
use Rattle.layouts.specs.Lines.{rows_of}
use Rattle.layouts.proofs.row.RowLines.{words-rows}
use Rattle.layouts.proofs.row.RowLines.{words-length as placement-words-length}
use Rattle.columns.specs.Group.{put}
use Rattle.columns.proofs.LineLaws.{length-line}
use Rattle.placement.specs.PlacementRead.{placement_at}
use Rattle.placement.proofs.Rows.{whole-rows, rows-from, rows_end}
use Rattle.texts.specs.Widths.{placement_line_bytes}
use Rattle.texts.specs.SawText.{placement_row, placement_line}
use Rattle.texts.proofs.WordGroups.{nines}
use Rattle.texts.proofs.LayoutRows.{rows_append}
use Rattle.texts_writing.specs.Wrote.{Wrote}
use Rattle.texts_writing.proofs.WroteLaws.{wrote-more}

-- the row of the words behind i placements
row_at : (ws : List ℕ) (i : ℕ) → RecordIn words_of_placement i ws → rows_of (take words_of_placement (drop (words_of_placement * i) ws)) ≡ placement_at ws i ∷ []
row_at ws i h =
    rows-from us 1 0 size (omega arith)
    ∙ rw (rows_end us 1 1 size (omega arith), at 0 (omega arith), at 1 (omega arith), at 2 (omega arith), at 3 (omega arith), at 4 (omega arith), at 5 (omega arith), at 6 (omega arith), at 7 (omega arith), at 8 (omega arith), none)
  where
    us : List ℕ
    us = take words_of_placement (drop (words_of_placement * i) ws)

    size : length us ≡ words_of_placement * 1
    size = length-take-le words_of_placement (drop (words_of_placement * i) ws) (simp length-drop (omega arith))

    at : (k : ℕ) → k < words_of_placement → get_or us k 0 ≡ get_or ws (words_of_placement * i + k) 0
    at k l = rw (get_or-take, get_or-drop)

    none : words_of_placement * i + 0 ≡ words_of_placement * i
    none = omega arith

-- one row more
rows_more :
    (ws : List ℕ) (i : ℕ)
    → RecordIn words_of_placement i ws
    → rows_of (take (words_of_placement * (i + 1)) ws) ≡ rows_of (take (words_of_placement * i) ws) ++ placement_at ws i ∷ []
rows_more ws i h =
    let j : words_of_placement * (i + 1) ≡ words_of_placement * i + words_of_placement = omega arith in
    let whole = nines i (take (words_of_placement * i) ws) (length-take-le (words_of_placement * i) ws (omega arith)) in
    rw (j, take-add (words_of_placement * i) words_of_placement ws, rows_append whole (take words_of_placement (drop (words_of_placement * i) ws)), row_at ws i h)

-- the bytes of each line 7
pub length-placement : (p : Placement) → length (placement_line p) ≡ placement_line_bytes
unfolding placement_row placement_line
length-placement p = length-line _

pub lines-length : (ps : List Placement) → length (flat_map placement_line ps) ≡ placement_line_bytes * length ps
lines-length ps = words-length placement_line placement_line_bytes length-placement ps

-- the lines of k rows
pub lines-size : (ws : List ℕ) (k : ℕ) → words_of_placement * k ≤ length ws → length (flat_map placement_line (rows_of (take (words_of_placement * k) ws))) ≡ placement_line_bytes * k
lines-size ws k h =
    lines-length (rows_of (take (words_of_placement * k) ws))
    ∙ ap (λ (n : ℕ). placement_line_bytes * n) (whole-rows (take (words_of_placement * k) ws) k (length-take-le (words_of_placement * k) ws h))

-- one line more
pub lines_more :
    (ws : List ℕ) (i : ℕ)
    → RecordIn words_of_placement i ws
    → flat_map placement_line (rows_of (take (words_of_placement * (i + 1)) ws))
    ≡ flat_map placement_line (rows_of (take (words_of_placement * i) ws)) ++ placement_line (placement_at ws i)
lines_more ws i h = rw (rows_more ws i h) (words_last placement_line (rows_of (take (words_of_placement * i) ws)) (placement_at ws i))

-- a buffer that holds the words of some placements has these as its rows
pub held_rows : {buffer : List ℕ} (ps : List Placement) (k : ℕ) → Holds buffer (placement_words ps) → length ps ≡ k → rows_of (take (words_of_placement * k) buffer) ≡ ps
unfolding filled
held_rows {buffer} ps k h e =
    let size : length (placement_words ps) ≡ words_of_placement * k = placement-words-length ps ∙ ap (λ (n : ℕ). words_of_placement * n) e in
    ap (λ (b : List ℕ). rows_of (take (words_of_placement * k) b)) h.words
    ∙ ap rows_of (take_at (placement_words ps) (replicate (length buffer - length (placement_words ps)) 0) (words_of_placement * k) size)
    ∙ words-rows ps

-- the lines of the first i rows
abbrev pub lines_to : ℕ → List ℕ → List ℕ
lines_to i ws = flat_map placement_line (rows_of (take (words_of_placement * i) ws))

-- one line more is written
pub placed-more :
    {d out out' : List ℕ} {at : ℕ} (ws : List ℕ) (i : ℕ)
    → RecordIn words_of_placement i ws
    → placement_line_bytes * i ≤ length d
    → Wrote d 0 (lines_to i ws) at out
    → out' ≡ put out at (placement_line (placement_at ws i))
    → Wrote d 0 (lines_to (i + 1) ws) (at + placement_line_bytes) out'
placed-more {at = at} ws i h r w e =
    rw (lines_more ws i h)
    (wrote-more w (rw (lines-size ws i (omega arith)) (omega arith)) (record { bytes-put = e; end-at = rw length-placement refl }))
