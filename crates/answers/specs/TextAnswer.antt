-- What a host gets of a text: the bytes of its answer, at the start of the output, and how many they are.
use Rattle.std.specs.Prelude.{ℕ, ◌≤◌, ◌<◌, ◌≡◌, List, length}
use Rattle.columns.specs.Group.{put}

-- where the output has room for the longest answer, the answer stands in it from the first byte on, and the bytes behind stay; else nothing is written
pub record TextAnswer (longest : ℕ) (answer out : List ℕ) (n : ℕ) (out' : List ℕ) : Type 0 where
  pub written : longest ≤ length out → (n ≡ length answer) × (out' ≡ put out 0 answer)
  pub short : length out < longest → (n ≡ 0) × (out' ≡ out)
