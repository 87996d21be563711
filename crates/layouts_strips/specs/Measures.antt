-- Document 01, "Layouts and folding": the sides of stacks and strips, as the code measures them line by line; what it knows of its lines.
use Rattle.std.specs.Prelude.{ℕ, ◌+◌, ◌*◌, ◌≤◌, ◌<◌, max, ◌≡◌, ◌&&◌, eqb, List, length}
use Rattle.job.specs.Sizes.{max_types, max_pieces, words_before, words_of_placement, job_size}
use Rattle.job.specs.declared.item.Position.{Position}
use Rattle.job.specs.Lists.{gaps_after}
use Rattle.job.specs.Job.{Job, type_of, board_sizes}
use Rattle.layouts.specs.Layout.{Stack, Strip, stack_width, stack_height, strip_height, same_widths}
use Rattle.layouts.specs.Placement.{items_of_strip}
use Rattle.placement.specs.PlacementRead.{placement_at}
use Rattle.layouts_strips.specs.declared.stack.StackMeasure.{StackMeasure}
use Rattle.layouts_strips.specs.declared.strip.StripMeasure.{StripMeasure}

-- the greatest word: what a side is at most, and the blade's width
abbrev pub max_word : ℕ
max_word = 65535

-- what a line adds to a width or a height at most: a side, and a gap of the blade's width (request Four)
abbrev pub max_step : ℕ
max_step = 2 * max_word

-- an item in position q is of an item type whose words the job has, of which there are at most 40
pub record Typed (job : List ℕ) (q : ℕ) : Type 0 where
  pub from_one : 1 ≤ type_of q
  pub words : job_size (board_sizes job) (type_of q) ≤ length job
  pub few : type_of q ≤ max_types

-- the job has the words of its head and its sizes, and the layout words lent are whole lines, at most 4,000, each of an item type and on a board of a size
-- of the job
pub record LentLines (job layouts : List ℕ) (lines : ℕ) : Type 0 where
  pub sizes : words_before (board_sizes job) ≤ length job
  pub whole : length layouts ≡ words_of_placement * lines
  pub few : lines ≤ max_pieces
  pub typed : (c : ℕ) → c < lines → Typed job (placement_at layouts c).item
  pub sized : (c : ℕ) → c < lines → (placement_at layouts c).turn.board.size < board_sizes job

-- one item more on a stack; request Four, a gap of the blade's width b between it and the item below
abbrev pub item_on : ℕ → StackMeasure → Position → StackMeasure
item_on b m it =
    record {
      end = m.end + 1;
      width = max m.width it.width;
      height = m.height + b + it.height;
      even = m.even && eqb it.width m.width;
    }

-- the measures of a stack that begins behind c lines: "a stack's width is its widest item, its height the sum", the gaps between its items counted
-- (request Four)
pub record StackIs (job : Job) (c : ℕ) (k : Stack) (m : StackMeasure) : Type 0 where
  pub ended : m.end ≡ c + length k
  pub wide : m.width ≡ stack_width job k
  pub high : m.height ≡ stack_height job k
  pub evenly : m.even ≡ same_widths job k

-- limits of these measures: a line adds a side and a gap
pub record StackSmall (c lines : ℕ) (m : StackMeasure) : Type 0 where
  pub begun : c < m.end
  pub inside : m.end ≤ lines
  pub narrow : m.width ≤ max_word
  pub low : m.height + max_step * c ≤ max_step * m.end

-- one stack more in a strip; request Four, a gap of the blade's width b after it
abbrev pub stack_in : ℕ → StripMeasure → StackMeasure → StripMeasure
stack_in b m k = record { end = k.end; across = m.across + k.width + b; height = max m.height k.height }

-- the measures of a strip that begins behind a lines: stack widths added up, a gap after each (request Four), and "a strip's height is its highest stack"
pub record StripIs (job : Job) (a : ℕ) (s : Strip) (m : StripMeasure) : Type 0 where
  pub ended : m.end ≡ a + length (items_of_strip s)
  pub wide : m.across ≡ gaps_after job.blade (stack_width job) s
  pub high : m.height ≡ strip_height job s

pub record StripSmall (a lines : ℕ) (m : StripMeasure) : Type 0 where
  pub begun : a ≤ m.end
  pub inside : m.end ≤ lines
  pub narrow : m.across + max_step * a ≤ max_step * m.end
  pub low : m.height + max_step * a ≤ max_step * m.end
