use mathlib.Core.Path.{◌≡◌, sym, subst}
use mathlib.Core.List.{[], ◌∷◌}
use Prim.Native.Nat.{suc, ◌≤◌}
use native.Mathlib.Omega.{arith}
use lib.ListN.{length, length-drop}
use lib.Seq.{get_or-take}
use Rattle.job.specs.Sizes.{max_sizes, max_types, words_of_placement, job_size}
use Rattle.texts.specs.Shape.{layout_line}
use Rattle.texts.specs.JobLines.{board_sizes, types_of}
use Rattle.texts.proofs.ShapeLaws.{shape-groups}
use Rattle.texts_reading.specs.declared.text.Place.{Place}
use Rattle.texts_reading.proofs.CodeJobLines.{refusal-number, said-passed, passed, of-shape, shape-words}
use Rattle.fold_text_reader.specs.FoldKept.{held_words, PlaceReady}
use Rattle.fold_text_reader.proofs.CodeLines.{numbers-refused, admits-layout}
use Rattle.fold_text_reader.proofs.CodeAdmitted.{layout-step}
use Rattle.fold_text_reader.proofs.fold.FoldReader.layout.Goals as goal

pub returns-in-Err : goal.returns-in-Err
returns-in-Err c =
    let f = c.args.self in
    let job = c.args.job.now in
    let layouts = c.args.layouts.now in
    let x = rw c.in-Err.is at c.judge_layout.ensures in
    numbers-refused c.args.numbers.now f _ job layouts c.requires.fold_ready (layout_line (held_words job) ∷ []) (λ r k. admits-layout f job layouts r k c.requires.place_value.0) _ (refusal-number _) x (rw c.number.ensures at c.refused.ensures)

pub keep_row-requires : goal.keep_row-requires
keep_row-requires c =
    let few : (board_sizes c.args.job.now ≤ max_sizes) × (types_of c.args.job.now ≤ max_types) = subst (λ (p : Place). PlaceReady p (board_sizes c.args.job.now) (types_of c.args.job.now) c.args.self.rows) c.requires.place_value.0 c.requires.fold_ready.place in
    let ns = c.args.numbers.now in
    let job = c.args.job.now in
    let ws = held_words job in
    let o = of-shape 1 (layout_line ws) ns (passed 1 (said-passed c.in-Ok.is) (c.judge_layout.ensures 1)) in
    let all = job_size (board_sizes job) (types_of job) in
    let z : board_sizes ws ≡ board_sizes job = get_or-take all job 2 0 (omega arith) in
    let n : types_of ws ≡ types_of job = get_or-take all job 3 0 (omega arith) in
    let size : length ns ≡ suc words_of_placement = shape-groups (layout_line ws) ns o in
    (c.requires.fold_ready.layouts-size, (size, λ k l. shape-words (layout_line ws) ns (omega (arith, z, n, few)) o k (rw length-drop (omega (arith, size, l)))))

pub returns-in-Ok : goal.returns-in-Ok
returns-in-Ok c =
    let x = c.judge_layout in
    let y = c.keep_row in
    layout-step c.args.numbers.now c.args.self _ c.args.job.now c.args.layouts.now _ c.requires.fold_ready c.requires.place_value.0 y.auto.layouts c.requires.place_value.1 (λ line. sym (passed line (said-passed c.in-Ok.is) (x.ensures line))) c.admitted.ensures y.ensures
