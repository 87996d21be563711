use native.Mathlib.Omega.{arith}
use Rattle.job.proofs.CodeAdmission.{passed_length}
use Rattle.fold_call.proofs.Passed.{lent-lines, staged}
use Rattle.fold_text_ending.proofs.Folded.{lines_fit, lines-written}
use Rattle.fold_text_ending.proofs.fold_part.write_fold.Goals as goal

-- `write_fold` folds the lines and writes the lines 3 of their cuts.
pub head_of-head-requires : goal.head_of-head-requires
head_of-head-requires c = omega (arith, passed_length c.args.job.now c.requires.listed_lent.words)

pub fold_into-requires : goal.fold_into-requires
fold_into-requires c =
    let ws = c.args.job.now in
    let ls = c.args.layouts.now in record { lines_lent = lent-lines ws ls c.requires.listed_lent.words c.requires.layouts_value.0 c.requires.layouts_value.1; mode_value = (c.head_of-head.ensures.of-mode, staged ws ls c.requires.listed_lent.words c.requires.layouts_value.0 c.requires.layouts_value.1); cuts_lent = (c.requires.listed_lent.lent, omega (arith, c.requires.listed_lent.few-cuts, c.requires.counts_size_in_bounds.0)) }

pub write_counts-requires : goal.write_counts-requires
write_counts-requires c =
    let x = c.fold_into in record { k_in_bounds = (c.requires.listed_lent.lent.cut-words, omega (arith, c.requires.listed_lent.few-cuts, c.requires.counts_size_in_bounds.0, x.auto.counts)); by_index = c.requires.listed_lent.plates-there; counts_in_bounds = omega (arith, lines_fit c.args.job.now c.args.layouts.now c.args.plates.now c.args.cuts.now c.args.k.0 c.requires.listed_lent c.requires.layouts_value.0 c.requires.layouts_value.1 _ _ x.ensures, c.requires.counts_size_in_bounds.1) }

pub returns : goal.returns
returns c =
    let x = c.fold_into in record { wrote = lines-written c.args.job.now c.args.layouts.now c.args.plates.now c.args.cuts.now c.args.k.0 c.requires.listed_lent c.requires.layouts_value.0 c.requires.layouts_value.1 _ _ x.ensures c.write_counts.ensures; counts_after = x.ensures }
