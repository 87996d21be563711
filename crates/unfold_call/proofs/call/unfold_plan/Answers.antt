use mathlib.Core.Path.{◌≡◌, sym, ap, ◌∙◌}
use mathlib.Core.List.{List}
use Prim.Native.Nat.{ℕ}
use native.Mathlib.Omega.{arith}
use lib.ListN.{length, take, replicate, length-replicate}
use Rattle.job.specs.Sizes.{counts_size}
use Rattle.job.proofs.SizeWords.{sizes-length}
use Rattle.unfold_waiting.specs.Begins.{begins_size}
use Rattle.unfold_step.proofs.CodeCut.{cuts-there}
use Rattle.unfold_call.proofs.CodeAccepted.{parts-lent, copy-counted, copy-few, copy-few-offcuts, copy-results, copy-words, copy-list}
use Rattle.unfold_call.proofs.call.unfold_plan.Goals as goal

-- `unfold_plan` writes where cuts begin, and runs a copy of the counts with the job's blade: what the run gives is the
-- unfolding of the plan.
-- the array's length
size : counts_size ≡ length (replicate {A = ℕ} counts_size 0)
size = sym {0} (length-replicate {0} {A = ℕ} counts_size 0)

-- the words that are copied
copy :
    (counts : List ℕ) {left : List ℕ}
    → left ≡ take (length (replicate {A = ℕ} counts_size 0)) counts
    → left ≡ take counts_size counts
copy counts e = e ∙ ap (λ (n : ℕ). take n counts) (sym size)

-- and that of the beginnings
size-begins : begins_size ≡ length (replicate {A = ℕ} begins_size 0)
size-begins = sym {0} (length-replicate {0} {A = ℕ} begins_size 0)

pub cut_begins-requires : goal.cut_begins-requires
cut_begins-requires c =
    let lent = c.requires.model_lent in
    (omega (arith, cuts-there _ _ _ lent.lent, lent.cuts-number), omega (arith, size-begins))

pub run-ran-requires : goal.run-ran-requires
run-ran-requires c =
    let a = c.args in
    let lent = c.requires.model_lent.lent in
    let begins = c.cut_begins in
    let ns = a.counts.now in
    let size = c.requires.counts_size_in_bounds in
    let e = copy ns c.copy_counts.ensures in
    let sizes = c.head_of-head.ensures.of-sizes ∙ sym (sizes-length a.job.now (omega (arith, lent.words))) in
    let parts = parts-lent a.job.now a.plates.now a.cuts.now _ a.k.0 c.requires.model_lent in
    let few = copy-few a.job.now lent.admitted lent.model ns size.0 size.1 e in
    record {
      parts_lent = parts (begins.auto.begins ∙ sym size-begins) begins.ensures;
      job_in_bounds = (copy-counted a.job.now lent.admitted lent.model ns size.0 size.1 e, sizes);
      holds = (c.requires.holds.0, c.requires.holds.1.0);
      counts_len_bound = (few, copy-few-offcuts a.job.now lent.admitted lent.model ns size.0 size.1 e);
      holds_2 = c.requires.holds.1.1;
      blade_value = c.head_of-head.ensures.of-blade;
    }

pub returns : goal.returns
returns c =
    let a = c.args in
    let lent = c.requires.model_lent.lent in
    let ns = a.counts.now in
    let size = c.requires.counts_size_in_bounds in
    let e = copy ns c.copy_counts.ensures in
    let r = c.run-ran in
    let m = lent.model in
    let list = copy-list a.job.now lent.admitted m ns size.0 size.1 e a.lengths r.result _ _ r.ensures in
    record {
      result_value = copy-results a.job.now lent.admitted m ns size.0 size.1 e a.lengths r.result _ _ r.ensures;
      holds_2 = copy-words a.job.now lent.admitted m ns size.0 size.1 e a.lengths r.result _ _ r.ensures;
      holds_3 = λ full. list (rw (← r.auto.offcuts) at full);
    }
