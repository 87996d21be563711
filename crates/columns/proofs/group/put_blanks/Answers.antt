use Rattle.columns.proofs.GroupLaws.{put-eight}
use Rattle.columns.proofs.group.put_blanks.Goals as goal

-- `columns::group::put_blanks` meets its contract: each store goes on just after the last.
pub returns : goal.returns
returns c = put-eight _ _ c.requires
