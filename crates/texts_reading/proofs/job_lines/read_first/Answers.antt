use mathlib.Core.Path.{◌≡◌, refl}
use native.Mathlib.Omega.{arith}
use lib.ListN.{length}
use Rattle.texts.specs.Shape.{job_line}
use Rattle.texts.proofs.ShapeLaws.{shape-groups}
use Rattle.texts_reading.proofs.CodeJobLines.{said-passed, part-size, part-words, first-shape, first_read}
use Rattle.texts_reading.proofs.job_lines.read_first.Goals as goal

pub slice_bounds-put_words-count : goal.slice_bounds-put_words-count
slice_bounds-put_words-count c =
    let sized : length c.args.numbers.now ≡ 6 = shape-groups job_line _ (first-shape c.args.numbers.now c.args.job.now _ c.job_line.ensures (said-passed c.in_ok-job_line.was)) in
    omega (arith, sized)

pub slice_bounds-put_words-start : goal.slice_bounds-put_words-start
slice_bounds-put_words-start c =
    let sized : length c.args.numbers.now ≡ 6 = shape-groups job_line _ (first-shape c.args.numbers.now c.args.job.now _ c.job_line.ensures (said-passed c.in_ok-job_line.was)) in
    omega (arith, sized)

pub put_words-requires : goal.put_words-requires
put_words-requires c =
    let ns = c.args.numbers.now in
    let o = first-shape ns c.args.job.now _ c.job_line.ensures (said-passed c.in_ok-job_line.was) in
    (omega (arith, part-size job_line ns 1 refl (omega arith) o), part-words job_line ns 1 refl (omega arith) o)

pub returns : goal.returns
returns c = first_read c.args.numbers.now c.args.job.now _ c.job_line.ensures (said-passed c.in_ok-job_line.was) c.requires c.put_words.ensures
