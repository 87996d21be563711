use mathlib.Core.Path.{sym, ap, ◌∙◌}
use Prim.Native.Nat.{ℕ}
use native.Mathlib.Omega.{arith}
use Rattle.layouts.specs.Unfold.{taken, Step}
use Rattle.layouts.specs.Demand3.{J, L}
use Rattle.unfold_waiting.specs.Meaning.{piece_of, waiting_of, found_means}
use Rattle.unfold_waiting.proofs.CodeWaiting.{picked_none}
use Rattle.unfold_step.specs.Meaning.{state_of, counts_after}
use Rattle.unfold_step.proofs.CodeParts.{part-there}
use Rattle.unfold_step.proofs.Steps.{step-idle, step-over}
use Rattle.unfold_step.proofs.CodeStep.{picked-rest, rest-ready, taken-listed, found-cuttable, done-step, done-spends}
use Rattle.unfold_step.proofs.state.State.step.Goals as goal

-- `step` takes the piece of the highest stage, searches a cut for it, and does the cut or leaves the piece over.
pub returns-in_default : goal.returns-in_default
returns-in_default c =
    let a = c.args in
    let none = picked_none a.self.waiting (sym c.next_of.ensures ∙ c.in_default.is) in
    let ends = λ (z : ℕ). sym (step-idle (J a.job.now) (L a.job.now) (state_of z a.self a.counts.now) none) in
    record {
      by_index = λ z. ends z;
      by_index_2 = λ z. ap (λ (s : Step). counts_after s a.counts.now) (ends z);
      by_index_3 = λ j. omega arith;
    }

pub find_cut-requires : goal.find_cut-requires
find_cut-requires c =
    let a = c.args in
    let ready = c.requires.ready_on in
    let took = picked-rest a.self.waiting _ c.in-Some.p c.next_of.ensures c.in-Some.is c.without.ensures in
    let st = state_of ready.size a.self a.counts.now in
    let listed = taken-listed _ _ c.requires.parts_lent.lent.model st _ took ready.ready in
    part-there _ _ _ _ c.requires.parts_lent a.counts.now ready.ready.counted _ listed

pub returns-in_default-find_cut : goal.returns-in_default-find_cut
returns-in_default-find_cut c =
    let a = c.args in
    let lent = c.requires.parts_lent.lent in
    let took = picked-rest a.self.waiting _ c.in-Some.p c.next_of.ensures c.in-Some.is c.without.ensures in
    let search = c.find_cut.ensures _ (L a.job.now) lent.model c.requires.parts_lent.begins-are in
    let none = sym search ∙ ap found_means c.in_default-find_cut.is in
    let over = λ (z : ℕ). sym (step-over (J a.job.now) (L a.job.now) (state_of z a.self a.counts.now) _ took none) in
    record {
      by_index = λ z. over z;
      by_index_2 = λ z. ap (λ (s : Step). counts_after s a.counts.now) (over z);
      by_index_3 = λ j. omega arith;
    }

pub cut-requires : goal.cut-requires
cut-requires c =
    let a = c.args in
    let lent = c.requires.parts_lent.lent in
    let job = J a.job.now in
    let l = L a.job.now in
    let ready = c.requires.ready_on in
    let st = state_of ready.size a.self a.counts.now in
    let took = picked-rest a.self.waiting _ c.in-Some.p c.next_of.ensures c.in-Some.is c.without.ensures in
    let t = taken (piece_of c.in-Some.p) c.in-Some.stage (waiting_of c.without.result) in
    let search = c.find_cut.ensures _ l lent.model c.requires.parts_lent.begins-are in
    let found = sym search ∙ ap found_means c.in-Some-find_cut.is in
    record {
      job_lent = lent;
      ready_on = record { size = ready.size; ready = rest-ready job l lent.model st t took ready.ready };
      cuttable = found-cuttable job l lent.model st t took _ found ready.ready;
      blade_value = c.requires.blade_value;
    }

pub returns : goal.returns
returns c =
    let a = c.args in
    let lent = c.requires.parts_lent.lent in
    let l = L a.job.now in
    let took = picked-rest a.self.waiting _ c.in-Some.p c.next_of.ensures c.in-Some.is c.without.ensures in
    let t = taken (piece_of c.in-Some.p) c.in-Some.stage (waiting_of c.without.result) in
    let search = c.find_cut.ensures _ l lent.model c.requires.parts_lent.begins-are in
    let found = sym search ∙ ap found_means c.in-Some-find_cut.is in
    let st = λ (z : ℕ). state_of z a.self a.counts.now in
    let done = λ (z : ℕ). done-step (J a.job.now) l lent.model (st z) t took _ found in
    let spends = λ (z : ℕ). done-spends (J a.job.now) l (st z) t _ in
    let after = λ (z : ℕ). ap (λ (s : Step). counts_after s a.counts.now) (done z) in
    record {
      by_index = λ z. c.cut.ensures.by_index z ∙ done z;
      by_index_2 = λ z. c.cut.ensures.counts_after ∙ spends z ∙ after z;
      by_index_3 = c.cut.ensures.by_index_2;
    }
