-- Document 01, "Texts": where the line that begins or goes on at a place of a part ends.
use Rattle.std.specs.Prelude.{ℕ, ◌+◌, ◌≤◌, ◌<◌, ◌≡◌, List, length, get_or}

-- from `at` to `end` at most `most` bytes of the part, none of them 10; at `end` stands byte 10, or `most` bytes have been passed, or the part is over
pub record LineEnd (part : List ℕ) (at most end : ℕ) : Type 0 where
  pub from : at ≤ end
  pub inside : end ≤ length part
  pub near : end ≤ at + most
  pub inner : (k : ℕ) → k < end → at ≤ k → get_or part k 0 ≡ 10 → ⊥
  pub stops : end < length part → end < at + most → get_or part end 0 ≡ 10
