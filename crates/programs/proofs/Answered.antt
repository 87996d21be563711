-- An answer that stands at the start of an output: its bytes are within it, and they are the first.
use Rattle.std.proofs.Common.{◌≡◌, ℕ, ◌≤◌, ◌<◌, Bool, Option, Some, None, IfSome, Result, Ok, Err, IfOk, OnOk, OnErr, List, ◌++◌, arith, length, take, sym, ap, ◌∙◌, append-nil, subst, inl, inr}
use Rattle.std.proofs.Math.ListN.{length-append, length-take, length-drop}
use Rattle.std.proofs.lemmas.Bool.{cases_lt}
use lib.Seq.{take-append_seam, length-take-le}
use Rattle.std.specs.Io.KnownBytes.{Consumes, IsAtEnd, Appends}
use Rattle.columns.specs.Group.{put}
use Rattle.programs.specs.Program.{Decides, ReadFrom, WholeAnswer, AnswersSome, AnswersFrom, WritesFrom}

module _ (answer : List ℕ → List ℕ) {out out' : List ℕ} {n : ℕ} (a : AnswersSome answer out n out') where
  pub answer-within : length out' ≡ length out → n ≤ length out'
  unfolding put
  answer-within e =
      omega (arith, a.size, simp (length-append, length-take, length-drop) at (ap length a.output))

  pub answer-bytes : take n out' ≡ answer a.text
  unfolding put
  answer-bytes = rw (a.size, a.output) (take-append_seam (answer a.text) _)

  pub answer-first : WholeAnswer answer (take n out')
  answer-first = record { text = a.text; whole = answer-bytes }

-- the text of a reading, the bytes that an input had before it and those that it has left
module _ (answer : List ℕ → List ℕ) where
  -- what follows the text does not change the answer, if no read has failed
  nothing_lost :
      (given left : Option (List ℕ)) {text : List ℕ} {asked last : ℕ}
      → Consumes given left text
      → (asked ≤ last → Decides answer text)
      → (last < asked → IsAtEnd left)
      → IfSome given (λ bytes. answer bytes ≡ answer text)
  nothing_lost None left c d e = tt
  nothing_lost (Some xs) None c d e = absurd c
  nothing_lost (Some xs) (Some ys) {text} {asked} {last} c d e =
      elim (cases_lt last asked) [
        | inl short ↦ ap answer (c ∙ ap (λ l. text ++ l) (e short) ∙ append-nil text)
        | inr full ↦ ap answer c ∙ d full ys
      ]

  module _ {given left : Option (List ℕ)} {failed : Bool} {F W : Type 0} {After : List ℕ → F → W → Type 0} {f : F} {w : W} {asked last : ℕ} (r : ReadFrom answer given left failed After f w asked last) where
    -- the answer to the text that was read
    pub answers-read : {out out' : List ℕ} {n : ℕ} → n ≡ length (answer r.some.text) → out' ≡ put out 0 (answer r.some.text) → AnswersFrom answer given left failed out n out'
    answers-read size output =
        record {
          some = record { text = r.some.text; size = size; output = output };
          consumed = r.consumed;
          whole = λ none. nothing_lost given left r.consumed r.some.decided (λ short. r.ended short none);
        }

-- an answer from an input, whose first bytes are handed to a write: by what the write handed back
module _ (answer : List ℕ → List ℕ) {given left : Option (List ℕ)} {failed : Bool} {out out' : List ℕ} {n : ℕ} (a : AnswersFrom answer given left failed out n out') {E : Type 0} where
  -- all of them were counted
  pub answer-counted : (r : Result ℕ E) → length out' ≡ length out → IfOk r (λ m. m ≡ length (take n out')) → IfOk r (λ m. AnswersFrom answer given left failed out m out')
  answer-counted (Ok m) e h =
      let same : n ≡ m = sym (length-take-le n out' (answer-within answer a.some e)) ∙ sym h in
      subst (λ k. AnswersFrom answer given left failed out k out') same a
  answer-counted (Err x) e h = tt

  -- all of them were written
  pub answer-written : (before after : Option (List ℕ)) (r : Result ℕ E) → OnOk r (Appends before after (take n out')) → OnOk r (WritesFrom answer given left failed before after)
  answer-written before after (Ok m) w =
      record { text = a.some.text; consumed = a.consumed; appended = subst (Appends before after) (answer-bytes answer a.some) w; whole = a.whole }
  answer-written before after (Err x) w = tt

-- what holds whatever a write gives holds where it fails
pub on-err : {T E P : Type 0} (r : Result T E) → P → OnErr r P
on-err (Ok _) _ = tt
on-err (Err _) p = p
