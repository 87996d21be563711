use native.Mathlib.Omega.{arith}
use lib.ListN.{length-drop}
use Rattle.texts_reading.proofs.CodeWords.{part-rest}
use Rattle.fold_text_reader.proofs.CodeRows.{size_is, row-passed, row_kept}
use Rattle.fold_text_reader.proofs.lines.keep_row.Goals as goal

-- `keep_row` passes over a line past the first 4,000, and writes the words of another.
pub returns-then-rows-ge-MOST_ROWS : goal.returns-then-rows-ge-MOST_ROWS
returns-then-rows-ge-MOST_ROWS c ws e h =
    let a = c.args in
    row-passed a.layouts.now ws _ a.rows e c.if-rows-ge-MOST_ROWS.true h

pub put_words-requires : goal.put_words-requires
put_words-requires c =
    let ns = c.args.numbers.now in
    rw (part-rest ns 1, length-drop) (omega (arith, size_is, c.requires.0, c.requires.1.0, c.if-rows-ge-MOST_ROWS.false), λ k l. c.requires.1.1 k (omega (arith, l, c.requires.1.0)))

pub returns : goal.returns
returns c ws e h = row_kept c.args.layouts.now _ ws c.args.numbers.now c.args.rows c.requires.1.0 c.requires.0 c.if-rows-ge-MOST_ROWS.false c.put_words.ensures e h
