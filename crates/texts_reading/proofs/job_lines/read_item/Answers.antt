use mathlib.Core.Path.{◌≡◌, refl}
use native.Mathlib.Omega.{arith}
use lib.ListN.{length}
use Rattle.texts.specs.Shape.{item_line}
use Rattle.texts.proofs.ShapeLaws.{shape-groups}
use Rattle.texts_reading.proofs.CodeJobLines.{said-passed, part-size, part-words, item-shape, item-read}
use Rattle.texts_reading.proofs.job_lines.read_item.Goals as goal

pub slice_bounds-put_words-count : goal.slice_bounds-put_words-count
slice_bounds-put_words-count c =
    let sized : length c.args.numbers.now ≡ 6 = let a = c.args in shape-groups (item_line a.i.0) _ (item-shape a.i.0 a.numbers.now a.job.now _ c.item_line.ensures (said-passed c.in_ok-item_line.was)) in
    omega (arith, sized)

pub slice_bounds-put_words-start : goal.slice_bounds-put_words-start
slice_bounds-put_words-start c =
    let sized : length c.args.numbers.now ≡ 6 = let a = c.args in shape-groups (item_line a.i.0) _ (item-shape a.i.0 a.numbers.now a.job.now _ c.item_line.ensures (said-passed c.in_ok-item_line.was)) in
    omega (arith, sized)

pub put_words-requires : goal.put_words-requires
put_words-requires c =
    let ns = c.args.numbers.now in
    let s = item_line c.args.i.0 in
    let o = item-shape c.args.i.0 ns c.args.job.now _ c.item_line.ensures (said-passed c.in_ok-item_line.was) in
    (omega (arith, part-size s ns 2 refl (omega arith) o, c.requires), part-words s ns 2 refl (omega arith) o)

pub returns : goal.returns
returns c = item-read c.args.i.0 c.args.numbers.now c.args.job.now _ c.item_line.ensures (said-passed c.in_ok-item_line.was) c.requires.0 c.requires.1 c.put_words.ensures
