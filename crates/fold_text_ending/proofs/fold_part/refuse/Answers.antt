use Rattle.fold_text_ending.proofs.Answers.{refused-answer}
use Rattle.fold_text_ending.proofs.fold_part.refuse.Goals as goal

pub returns : goal.returns
returns c v ws ls e h = refused-answer ws ls e c.write_refusal.ensures c.clear.ensures c.clear-2.ensures c.clear-3.ensures
