use mathlib.Core.Path.{refl}
use Rattle.saw_text_body.proofs.PlanSteps.{line_stays, line-falls, line-rises}
use Rattle.saw_text_body.proofs.plan_lines.PlanLines.named.Goals as goal

-- `named` goes three ways: a line has fallen before, this line falls, or it rises.
pub returns-then-self-ne0 : goal.returns-then-self-ne0
returns-then-self-ne0 c l first rs r here cut few other count kept = line_stays l first c.args.line c.args.c.0 c.args.other rs r c.args.self _ c.args.counts.now here c.requires.0 cut other c.first_line.ensures c.first_line-2.ensures kept c.if-self-ne0.true refl refl

pub returns-then-c-self : goal.returns-then-c-self
returns-then-c-self c l first rs r here cut few other count kept = line-falls l first c.args.line c.args.c.0 c.args.other rs r c.args.self _ c.args.counts.now here c.requires.0 cut other c.first_line.ensures c.first_line-2.ensures kept c.if-self-ne0.false c.if-c-self.true refl refl

pub returns : goal.returns
returns c l first rs r here cut few other count kept = line-rises l first c.args.line c.args.c.0 c.args.other rs r c.args.self _ c.args.counts.now here c.requires.0 cut other c.first_line.ensures c.first_line-2.ensures kept c.if-self-ne0.false c.args.count count c.if-c-self.false few c.if-self-ne0.false refl
