-- What is written to an output: nothing, one part after another, and a line.
use Prim.Native.Nat.{ℕ, ◌+◌, ◌≤◌}
use native.Mathlib.Omega.{arith}
use mathlib.Core.Path.{◌≡◌, sym, ◌∙◌}
use mathlib.Core.List.{List, [], ◌∷◌, ◌++◌}
use lib.ListN.{length, length-append}
use Rattle.job.specs.Verdict.{Verdict, pass, refuse}
use Rattle.columns.specs.Widths.{line_bytes}
use Rattle.columns.specs.Group.{put}
use Rattle.columns.specs.Line.{line_of}
use Rattle.columns.proofs.GroupLaws.{put-nil, put-put}
use Rattle.columns.proofs.LineLaws.{length-line}
use Rattle.texts.specs.Reader.{written}
use Rattle.texts_writing.specs.Wrote.{Wrote}

-- nothing is written yet
pub wrote_none : (d : List ℕ) (at : ℕ) → Wrote d at [] at d
wrote_none d at = record { bytes-put = sym (put-nil d at); end-at = omega arith }

-- one part after another
pub wrote-more :
    {d xs ys out out' : List ℕ} {at end end' : ℕ}
    → Wrote d at xs end out
    → at + length xs ≤ length d
    → Wrote out end ys end' out'
    → Wrote d at (xs ++ ys) end' out'
wrote-more {d} {xs} {ys} {at = at} w h v =
    record {
      bytes-put = v.bytes-put ∙ rw (w.bytes-put, w.end-at) (put-put d at xs ys h);
      end-at = v.end-at ∙ simp length-append (omega (arith, w.end-at));
    }

-- a line of k numbers
pub wrote-line :
    {d out : List ℕ} {at end : ℕ} (ns : List ℕ) (k : ℕ)
    → out ≡ put d at (line_of ns)
    → length ns ≡ k
    → end ≡ at + line_bytes k
    → Wrote d at (line_of ns) end out
wrote-line ns k e l p = record { bytes-put = e; end-at = rw length-line (omega arith) }

-- the answer of a program by its verdict: the lines, or line 9
pub written-passed : (v : Verdict) (ls : List ℕ) → v ≡ pass → written v ls ≡ ls
unfolding written
written-passed v ls e = rw e

pub written-refused : (v : Verdict) (ls : List ℕ) {number place : ℕ} → v ≡ refuse number place → written v ls ≡ line_of (9 ∷ number ∷ place ∷ [])
unfolding written
written-refused v ls e = rw e
