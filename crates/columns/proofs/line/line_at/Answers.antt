use mathlib.Core.Path.{refl}
use lib.ListN.{drop}
use Rattle.columns.proofs.LineLaws.{line-complete}
use Rattle.columns.proofs.ReadLaws.{one_line}
use Rattle.columns.proofs.line.line_at.Goals as goal

pub returns-then-found-k : goal.returns-then-found-k
returns-then-found-k c =
    let a = c.args in
    let line = rw c.in_ok-found.was at (c.complete_line.ensures refl) in
    rw (one_line c.in_ok-found.found a.k (drop a.at a.s.now) line.1.0 line.1.1 c.if-found-k.true)

pub returns : goal.returns
returns c =
    let a = c.args in
    let line = rw c.in_ok-found.was at (c.complete_line.ensures refl) in
    rw (← c.if-found-k.false) (line-complete c.in_ok-found.found (drop a.at a.s.now) line.1.0 _ line.1.1 line.1.2)
