use Rattle.std.proofs.Common.{arith, refl, sym, ◌∙◌, length}
use borrow.Author.Tests.{le-leb}
use Rattle.texts.specs.FoldText.{fold_text}
use Rattle.fold_text_ending.proofs.Room.{by_out}
use Rattle.fold.proofs.FoldTextText.finish.Goals as goal

pub returns : goal.returns
unfolding fold_text
returns c =
    let s = c.args.self.now in
    let by-out = by_out (length s.job) (length s.layouts) (length s.plates) (length s.cuts) (length s.counts) (length c.args.out.now) in
    let room = sym (by-out (omega arith) (omega arith) (omega arith) (omega arith) (omega arith)) ∙ le-leb _ _ c.requires.room in
    record {
      counted = λ text kept. (c.finish.ensures.finished room _ text refl kept).size;
      written = λ text kept. (c.finish.ensures.finished room _ text refl kept).output;
    }
