use mathlib.Core.Path.{◌≡◌}
use Prim.Native.Nat.{ℕ}
use native.Mathlib.Omega.{arith}
use lib.ListN.{length, replicate, length-replicate}
use Rattle.job.specs.Sizes.{max_plates}
use Rattle.job.specs.Job.{job_of}
use Rattle.job.proofs.CodeJobWords.{words-sizes}
use Rattle.listing_index.specs.Index.{index_size}
use Rattle.listing_positions.specs.Table.{table_size}
use Rattle.listing_call.proofs.Sizing.{sizes-known}
use Rattle.listing_call.proofs.Walking.{last-position, walk_start_lem}
use Rattle.listing_call.proofs.walk.walk.Goals as goal

-- `walk` fills the tables, and then takes the rows.
-- so many zeros
zeros : (n : ℕ) → length (replicate {A = ℕ} n 0) ≡ n
zeros n = length-replicate {0} {A = ℕ} n 0

pub walk_rows-requires : goal.walk_rows-requires
walk_rows-requires c =
    let p = c.requires.room in
    let j = c.args.job.now in
    let t = c.learn in
    let l = c.put_leasts in record {
      ready = record {
        of-mode = j.read.of-mode;
        of-blade = j.blade;
        sided = p.sided;
        few-positions = omega (arith, last-position j.read, j.read.few);
        of-table = t.ensures;
        table-room = omega (arith, t.auto.table, zeros table_size);
        plate-room = p.plate-room;
        index-room = omega (arith, zeros index_size);
        least-room = omega (arith, l.auto.leasts, zeros max_plates);
        cut-room = p.cut-room;
      };
      stands = walk_start_lem (job_of j.words.now) c.requires.rep (sizes-known (job_of j.words.now) j.head.sizes.0 (words-sizes j.read) (omega (arith, j.read.few-sizes)) l.ensures);
    }
