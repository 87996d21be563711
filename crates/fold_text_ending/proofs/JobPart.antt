-- The job and the model of a fold text that ends, listed: what the listing says of the text's rows, and the words that are kept.
use Prim.Native.Nat.{ℕ, ◌+◌, ◌*◌, ◌≤◌, ◌<◌}
use native.Mathlib.Omega.{arith}
use mathlib.Core.Path.{◌≡◌, refl, sym, ap, ap₂, ◌∙◌, subst}
use mathlib.Core.List.{List}
use lib.ListN.{length, take}
use lib.Seq.{take_all}
use Rattle.job.specs.Sizes.{words_of_placement, job_size}
use Rattle.job.specs.Verdict.{pass, refuse, ◌then◌}
use Rattle.job.specs.Buffers.{sized, plates_size, cuts_size}
use Rattle.job.specs.Job.{Job, job_of, job_words, admission, max_pieces}
use Rattle.job.proofs.Verdicts.{then-assoc, then-first, then-second, then-passed, then-refused}
use Rattle.job.proofs.CodeEnds.{given-pass, refused-refuse}
use Rattle.listing.specs.Listing.{Cut, model_row}
use Rattle.listing.specs.Holds.{Holds}
use Rattle.listing.specs.CutRead.{cut_read}
use Rattle.listing.specs.CutRead.{Lent as CutsSound}
use Rattle.listing.proofs.CodeCuts.{length-cuts_from, cut-read}
use Rattle.listing.specs.ListCall.{list_verdict, list_answer, plates_end, cuts_end}
use Rattle.std.specs.Prelude.{Result, Ok, Err}
use Rattle.job.specs.declared.refused.Refused.{Refused}
use Rattle.job.specs.Refused.{number_of}
use Rattle.listing_call.specs.declared.walk.Listed.{Listed}
use Rattle.listing_call.specs.ListSays.{says_of, SizesListed}
use Rattle.listing_call.proofs.CodeEnding.{sizes-listed}
use Rattle.plan_test.proofs.CodeListed.{Ready, ready}
use Rattle.layouts.specs.Lines.{rows_of, layout_words}
use Rattle.layouts.specs.LayoutsRow.{layouts_row}
use Rattle.layouts_row.proofs.CodeRows.{too_many}
use Rattle.fold_call.proofs.Passed.{listed-cuts}
use Rattle.texts.specs.JobLines.{board_sizes, types_of, body_line}
use Rattle.texts.specs.FoldText.{Fold, fold_rows}
use Rattle.fold_text_reader.specs.FoldKept.{layouts_size}
use Rattle.texts_reading.specs.TextEnd.{job_model_row}
use Rattle.texts_reading.proofs.JobKept.{held-take, words-kept, list-refused}
use Rattle.fold_text_ending.specs.FoldEnd.{last_rows, ListedLent, WholeKept, Answered}

-- each of k cuts that are lent is on one of m plate types
on-plate : (ws cuts : List ℕ) (t n m k : ℕ) → CutsSound ws cuts t n m k → (c : ℕ) → c < k → (cut_read cuts c).plate < m
on-plate ws cuts t n m k lent c h = omega (arith, ap (λ (x : Cut). x.plate) (cut-read k c cuts h), (lent.sound.each c (rw length-cuts_from h)).on-plate)

-- what the listing call says and leaves, lent buffers of full size
module _ (ws plates cuts plates' cuts' : List ℕ) (np : length plates' ≡ length plates) (nc : length cuts' ≡ length cuts) (ps : plates_size ≤ length plates) (cs : cuts_size ≤ length cuts) (a : Result Listed Refused) (all : SizesListed (job_of ws) a) (says : says_of (job_of ws) a ≡ list_answer ws plates cuts) (pe : plates' ≡ plates_end (list_verdict ws plates cuts) ws plates) (ce : cuts' ≡ cuts_end (list_verdict ws plates cuts) ws cuts) where
  pub listed-so : (x : Listed) → a ≡ Ok x → ListedLent ws plates' cuts' x.cuts.0
  unfolding list_answer list_verdict plates_end cuts_end
  listed-so x e =
      let m = x.plates in
      let k = x.cuts in
      let job = job_of ws in
      let told = sym (ap (says_of (job_of ws)) e) ∙ says in
      let v = given-pass (list_verdict ws plates cuts) _ told in
      let v1 = then-second (job_words ws) _ v in
      let v2 = then-second (admission job) _ v1 in
      let v3 = then-second (sized 1 plates_size plates) _ v2 in
      let p : model_row job ≡ pass = then-second (sized 2 cuts_size cuts) _ v3 in
      let w : job_words ws ≡ pass = then-first (job_words ws) _ v in
      let a' : admission job ≡ pass = then-first (admission job) _ v1 in
      let r : Ready ws cuts' (board_sizes ws) (types_of ws) m.0 k.0 = ready ws cuts cuts' (board_sizes ws) (types_of ws) m.0 k.0 w a' refl refl (rw p (rw v at told)) (sizes-listed job e all) (rw p (rw v at ce)) nc cs in
      record {
        words = w;
        admitted = a';
        modelled = p;
        plates-hold = record { words = rw np (rw v at pe) };
        cuts-hold = record { words = rw nc (rw v at ce) };
        lent = listed-cuts ws w a' p r;
        few-cuts = r.lent.few-cuts;
        plates-there = λ c h. omega (arith, on-plate ws cuts' (board_sizes ws) (types_of ws) m.0 k.0 r.lent c h, r.lent.few-plates, np, ps);
      }

  pub rows-refused : (r : Refused) → a ≡ Err r → job_words ws ≡ pass → job_model_row ws ≡ refuse (number_of r.refusal) r.place
  unfolding list_answer
  rows-refused r e w =
      list-refused ws plates cuts ps cs w (refused-refuse (list_verdict ws plates cuts) _ (sym (ap (says_of (job_of ws)) e) ∙ says))

-- the words of a job of t sizes and n types in the buffer that keeps them
module _ (job : List ℕ) (t n : ℕ) where
  pub words_are : (ws : List ℕ) → t ≡ board_sizes job → n ≡ types_of job → Holds job ws → job_words ws ≡ pass → take (job_size t n) job ≡ ws
  words_are ws z e held passed = ap (λ (m : ℕ). take m job) (ap₂ job_size z e) ∙ words-kept job ws held passed

-- the lines 7, where at most 4,000 are kept
module _ (ws ls layouts : List ℕ) (rows : ℕ) (size : length ls ≡ words_of_placement * rows) where
  pub lines-kept : rows ≤ max_pieces → Holds layouts (take layouts_size ls) → take (words_of_placement * rows) layouts ≡ ls
  unfolding layouts_size
  lines-kept h held = held-take (words_of_placement * rows) size (subst (Holds layouts) (take_all layouts_size ls (omega arith)) held)

  pub lines-many : (k : ℕ) (job : Job) → layout_words job ls ≡ pass → max_pieces < rows → layouts_row k job (rows_of ls) ≡ refuse 10 0
  lines-many k job p h = sym (too_many k job ls p (omega arith))

-- the first line after the job's, of t sizes and n types
pub first-line : (ws ls : List ℕ) {t n : ℕ} → t ≡ board_sizes ws → n ≡ types_of ws → layouts_row (t + n + 2) (job_of ws) (rows_of ls) ≡ layouts_row (body_line ws) (job_of ws) (rows_of ls)
first-line ws ls z e = ap (λ (k : ℕ). layouts_row k (job_of ws) (rows_of ls)) (omega arith)

-- the answer to words that are the text's
pub by-words :
    {out out' plates' cuts' counts' : List ℕ} {plates cuts counts n : ℕ} (k : ℕ) (job : Job) (ws zs ls : List ℕ)
    → zs ≡ ls
    → (layout_words job zs ≡ pass → Answered (layouts_row k job (rows_of zs)) ws zs out plates cuts counts n out' plates' cuts' counts')
    → layout_words job ls ≡ pass
    → Answered (layouts_row k job (rows_of ls)) ws ls out plates cuts counts n out' plates' cuts' counts'
by-words {out} {out'} {plates'} {cuts'} {counts'} {plates} {cuts} {counts} {n} k job ws zs ls e f =
    subst (λ (us : List ℕ). layout_words job us ≡ pass → Answered (layouts_row k job (rows_of us)) ws us out plates cuts counts n out' plates' cuts' counts') e f

-- the rows of a fold text: the job and the model, then the layouts
last-rows : (ws ls : List ℕ) → last_rows ws ls ≡ (job_model_row ws then layouts_row (body_line ws) (job_of ws) (rows_of ls))
last-rows ws ls = sym (then-assoc (admission (job_of ws)) (model_row (job_of ws)) (layouts_row (body_line ws) (job_of ws) (rows_of ls)))

pub fold-rows : (f : Fold) → last_rows f.job f.layouts ≡ fold_rows f
unfolding fold_rows
fold-rows f = refl

module _ (ws ls : List ℕ) (rows : ℕ) (job layouts : List ℕ) (w : WholeKept ws ls rows job layouts) (us : List ℕ) (e : us ≡ ws) where
  pub words-pass : job_words us ≡ pass
  words-pass = ap job_words e ∙ w.passed

  -- refused by the job or the model
  pub job-refused : {number place : ℕ} → job_model_row us ≡ refuse number place → last_rows ws ls ≡ refuse number place
  job-refused {number} {place} r =
      last-rows ws ls ∙ then-refused (job_model_row ws) (layouts_row (body_line ws) (job_of ws) (rows_of ls)) number place (ap job_model_row (sym e) ∙ r)

  -- else by the layouts row
  module _ (out : List ℕ) (plates cuts counts n : ℕ) (out' plates' cuts' counts' : List ℕ) where
    abbrev Rest : List ℕ → Type 0
    Rest xs =
        job_model_row xs ≡ pass
        → ((zs : List ℕ)
        → length zs ≡ words_of_placement * rows
        → layout_words (job_of xs) zs ≡ pass
        → Holds layouts (take layouts_size zs)
        → Answered (layouts_row (body_line xs) (job_of xs) (rows_of zs)) xs zs out plates cuts counts n out' plates' cuts' counts')
        → Answered (last_rows ws ls) ws ls out plates cuts counts n out' plates' cuts' counts'

    rest-here : Rest ws
    rest-here p f =
        rw (last-rows ws ls, then-passed (job_model_row ws) (layouts_row (body_line ws) (job_of ws) (rows_of ls)) p)
        (f ls w.size w.lines w.first-lines)

    pub job-passed : Rest us
    job-passed = subst Rest (sym e) rest-here
