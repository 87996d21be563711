use mathlib.Core.Path.{ap, ◌∙◌}
use Rattle.columns.specs.Group.{put}
use Rattle.job.specs.Job.{type_of, turn_of}
use Rattle.layouts.specs.Lines.{Line}
use Rattle.texts.specs.SawText.{placement_row, placement_line}
use Rattle.texts_writing.proofs.lines7.write_placement.Goals as goal

-- `write_placement` writes the line of the placement that is read, the kind first.
pub returns : goal.returns
unfolding placement_row placement_line type_of turn_of
returns c =
    let a = c.args in
    c.put_line.ensures ∙ ap (λ (r : Line). put a.out.now a.at (placement_line r.placement)) c.placement_at-p.ensures
