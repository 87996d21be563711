-- Document 01, "Layouts and folding", the stage rule of a strip, stack by stack.
use Rattle.std.specs.Prelude.{Bool, cond, not, ◌&&◌, ◌||◌}
use Rattle.job.specs.declared.mode.Mode.{Mode}
use Rattle.job.specs.Mode.{three, exact}

-- a stack, of one item or not, of equally wide items or not, of the strip's height or not: two stages take single items, in 2E of the strip's height;
-- 3E takes equally wide ones
unfoldable pub stack_kept : Mode → Bool → Bool → Bool → Bool
stack_kept m alone even level = cond (three m) (not (exact m) || even) (alone && (not (exact m) || level))

-- three stages ask for a single item of the strip's height
unfoldable pub full_enough : Mode → Bool → Bool
full_enough m full = not (three m) || full
