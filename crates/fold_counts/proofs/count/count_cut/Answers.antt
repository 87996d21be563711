use mathlib.Core.Path.{refl}
use Rattle.fold_counts.proofs.CodeCount.{found_at, found-none, none_left, none-counted, top_left, right-left, count_fits, count-more}
use Rattle.fold_counts.proofs.count.count_cut.Goals as goal

-- where there is no cut, the search says so
pub returns-in_default : goal.returns-in_default
returns-in_default c =
    let a = c.args in
    let none = found-none a.cuts.now a.k.0 a.j.0 a.i.0 c.find_cut.ensures.among c.find_cut.ensures.result_value c.in_default.is in
    record {
      left_by = λ l lent. none_left l a.j.0 a.i.0 (none l lent) a.three _ refl refl;
      holds = λ l lent ks. none-counted l a.j.0 a.i.0 (none l lent) a.k.0 ks;
    }

pub overflow_add-counts : goal.overflow_add-counts
overflow_add-counts c =
    let a = c.args in
    let f = found_at a.cuts.now a.k.0 a.j.0 a.i.0 c.find_cut.ensures.among c.find_cut.ensures.result_value c.in-Some.is in
    record { fits = count_fits f c.requires.counting }

-- the cut that is found is counted, and leaves its top and its right
pub returns-then-three : goal.returns-then-three
returns-then-three c =
    let a = c.args in
    let f = found_at a.cuts.now a.k.0 a.j.0 a.i.0 c.find_cut.ensures.among c.find_cut.ensures.result_value c.in-Some.is in
    let cut = c.cut_at-cut in
    record {
      left_by = λ l lent. top_left f cut.result cut.ensures l lent c.if-three.true _ refl refl;
      holds = λ l lent. count-more f c.requires.counting l lent;
    }

pub returns : goal.returns
returns c =
    let a = c.args in
    let f = found_at a.cuts.now a.k.0 a.j.0 a.i.0 c.find_cut.ensures.among c.find_cut.ensures.result_value c.in-Some.is in
    let cut = c.cut_at-cut in
    record {
      left_by = λ l lent. right-left f cut.result cut.ensures l lent c.if-three.false _ refl refl;
      holds = λ l lent. count-more f c.requires.counting l lent;
    }
