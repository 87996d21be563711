-- Document 01, "Texts": the bytes of a line that has begun, as the code keeps them.
use Rattle.std.specs.Prelude.{ℕ, ◌≡◌, List, length}
use Rattle.job.specs.Buffers.{filled}
use Rattle.texts.specs.Reader.{longest_line}
use Rattle.texts_reading.specs.declared.pending.Pending.{Pending}

-- the bytes bs of the line have been kept, and zeros stand behind them
pub record Begun (p : Pending) (bs : List ℕ) : Type 0 where
  pub bytes : p.bytes ≡ filled longest_line bs
  pub size : p.length ≡ length bs
