-- What is kept of a saw text beside where it stands is determined by the text: the model, the lines 3, the prices, and the lent buffers.
use Prim.Native.Nat.{ℕ, zero, suc, ◌+◌, ◌-◌, ◌≤◌}
use native.Mathlib.Omega.{arith}
use mathlib.Core.Path.{◌≡◌, refl, sym, ap, ◌∙◌}
use mathlib.Core.List.{List, [], ◌∷◌}
use mathlib.Core.Option.{Option, some-injective}
use lib.ListN.{length, replicate}
use borrow.Author.Tests.{le-ltb}
use Rattle.job.specs.Verdict.{Verdict, pass, refuse}
use Rattle.job.specs.Buffers.{Answer, given, refused, filled, ends, sized, plates_size, cuts_size}
use Rattle.job.specs.Job.{Job, job_of, job_words, admission}
use Rattle.job.proofs.CodeEnds.{Not5, not5-then, ends-zeros}
use Rattle.job.proofs.CodeAdmission.{words-not5, admission-not5}
use Rattle.listing.specs.Holds.{Holds}
use Rattle.listing.specs.ListCall.{list_verdict, list_answer, plates_end, cuts_end}
use Rattle.listing.proofs.Limits.{model-not5}
use Rattle.saw_text_body.specs.declared.model.Model.{Model}
use Rattle.saw_text_body.specs.declared.model.Model.TheVariants.{Listed, Refused}
use Rattle.saw_text_body.specs.ModelRead.{says_of, SizesListed}
use Rattle.texts.specs.JobLines.{Place, first, sizes, types, body, item_prices, plate_prices, done, board_sizes}
use Rattle.texts.specs.SawText.{Counted, PriceLines, Saw}
use Rattle.texts_reading.proofs.CodeSplits.{held_same}
use Rattle.saw_text_body.specs.declared.plan_lines.PlanLines.{PlanLines}
use Rattle.saw_text_body.specs.declared.price_lines.PriceLines.{PriceLines as CodePrices}
use Rattle.saw_text_body.specs.PlanRead.{at_line}
use Rattle.saw_text_body.specs.ModelRead.{ModelKept}
use Rattle.saw_text_body.proofs.ModelLaws.{verdict-again}
use Rattle.saw_text_lines.specs.declared.held.SawHeld.{SawHeld}
use Rattle.saw_text_lines.specs.SawKept.{Lent, Room, NoPlan, Unlisted, PlanHeld, ListedJob, JobHeld, NoPrices, PricesTo, PricesHeld, HeldAs}
use Rattle.saw_text_reader.specs.Parts.{AsLong}

-- ---- the model

-- an answer of the listing call, from what it says of a job of t sizes
abbrev listed_from : ℕ → Answer → Model
listed_from t (given []) = Refused 0 0
listed_from t (given (m ∷ [])) = Refused 0 0
listed_from t (given (m ∷ k ∷ ws)) = Listed (record { 0 = m + t }) (record { 0 = k })
listed_from t (refused number place) = Refused number place

listed-from : (job : Job) (a : Model) → SizesListed job a → listed_from (length job.sizes) (says_of job a) ≡ a
listed-from job (Listed m k) all = let e : m.0 - length job.sizes + length job.sizes ≡ m.0 = omega arith in λ i. Listed (record { 0 = e i }) k
listed-from job (Refused number place) all = refl

-- with buffers of full size the listing call does not refuse with 5
pub list-not5 : (ws plates cuts : List ℕ) → plates_size ≤ length plates → cuts_size ≤ length cuts → Not5 (list_verdict ws plates cuts)
unfolding list_verdict sized
list-not5 ws plates cuts p c =
    rw (le-ltb _ _ p, le-ltb _ _ c) (not5-then (job_words ws) _ (words-not5 ws) (not5-then (admission (job_of ws)) _ (admission-not5 (job_of ws)) (model-not5 (job_of ws))))

ends_same : (v : Verdict) (b b' ws : List ℕ) → Not5 v → b ≡ ends v b ws → b' ≡ ends v b' ws → length b ≡ length b' → b ≡ b'
ends_same pass b b' ws n e f l = e ∙ ap (λ (k : ℕ). filled k ws) l ∙ sym f
ends_same (refuse number place) b b' ws n e f l =
    (e ∙ ends-zeros (refuse number place) refl n b ws) ∙ ap (λ (k : ℕ). replicate k 0) l ∙ sym (f ∙ ends-zeros (refuse number place) refl n b' ws)

module _ (ws : List ℕ) (a a' : Model) (plates cuts plates' cuts' : List ℕ) (k : ModelKept ws a plates cuts) (k' : ModelKept ws a' plates' cuts') (p : length plates ≡ length plates') (c : length cuts ≡ length cuts') where
  model-same : a ≡ a'
  unfolding list_answer
  model-same =
      let v = verdict-again ws plates' cuts' plates cuts p c in
      let e : list_answer ws plates cuts ≡ list_answer ws plates' cuts' = rw v in
      sym (listed-from (job_of ws) a k.sizes-listed) ∙ ap (listed_from (length (job_of ws).sizes)) (k.says ∙ e ∙ sym k'.says) ∙ listed-from (job_of ws) a' k'.sizes-listed

  module _ (rp : plates_size ≤ length plates) (rc : cuts_size ≤ length cuts) where
    plates-same : plates ≡ plates'
    unfolding plates_end
    plates-same =
        let v = verdict-again ws plates' cuts' plates cuts p c in
        ends_same (list_verdict ws plates cuts) plates plates' _ (list-not5 ws plates cuts rp rc) k.plates-are (rw v k'.plates-are) p

    cuts-same : cuts ≡ cuts'
    unfolding cuts_end
    cuts-same =
        let v = verdict-again ws plates' cuts' plates cuts p c in
        ends_same (list_verdict ws plates cuts) cuts cuts' _ (list-not5 ws plates cuts rp rc) k.cuts_are (rw v k'.cuts_are) c

-- ---- the lines 3

abbrev line_of : Verdict → ℕ
line_of pass = 0
line_of (refuse number line) = line

line-of : (number line : ℕ) → line_of (at_line number line) ≡ line
line-of number zero = refl
line-of number (suc line) = refl

first-same : (number m n : ℕ) {v : Verdict} → v ≡ at_line number m → v ≡ at_line number n → m ≡ n
first-same number m n e f = sym (line-of number m) ∙ ap line_of (sym e ∙ f) ∙ line-of number n

plan-is : (p p' : PlanLines) → p.unnamed ≡ p'.unnamed → p.misshown ≡ p'.misshown → p.fallen ≡ p'.fallen → p.last.0 ≡ p'.last.0 → p ≡ p'
plan-is p p' u s f l = λ i. record { unnamed = u i; misshown = s i; fallen = f i; last = record { 0 = l i } }

no-plan-same : (p p' : PlanLines) → NoPlan p → NoPlan p' → p ≡ p'
no-plan-same p p' n n' = plan-is p p' (n.unnamed ∙ sym n'.unnamed) (n.misshown ∙ sym n'.misshown) (n.fallen ∙ sym n'.fallen) (n.last ∙ sym n'.last)

plan-same :
    (ws : List ℕ) (a : Model) (rs : List Counted) (p p' : PlanLines) (counts counts' : List ℕ)
    → PlanHeld ws a rs p counts
    → PlanHeld ws a rs p' counts'
    → length counts ≡ length counts'
    → (p ≡ p') × (counts ≡ counts')
plan-same ws (Listed m k) rs p p' counts counts' h h' l =
    (plan-is p p' (first-same 8 _ _ h.unnamed-is h'.unnamed-is) (first-same 20 _ _ h.misshown-is h'.misshown-is) (first-same 9 _ _ h.fallen-is h'.fallen-is) (h.last-is ∙ sym h'.last-is), held_same counts counts' _ h.counts-are h'.counts-are l)
plan-same ws (Refused number place) rs p p' counts counts' h h' l = (no-plan-same p p' h.0 h'.0, held_same counts counts' [] h.1 h'.1 l)

-- ---- the prices

prices-are : (p p' : CodePrices) → p.given ≡ p'.given → p.types.0 ≡ p'.types.0 → p.residuals ≡ p'.residuals → p ≡ p'
prices-are p p' g t r = λ i. record { given = g i; types = record { 0 = t i }; residuals = r i }

module _ (o : Option PriceLines) (p p' : CodePrices) (b b' : List ℕ) (l : length b ≡ length b') where
  none-same : NoPrices o p b → NoPrices o p' b' → (p ≡ p') × (b ≡ b')
  none-same h h' =
      (prices-are p p' (h.given ∙ sym h'.given) (h.types ∙ sym h'.types) (h.residuals ∙ sym h'.residuals), held_same b b' [] h.words h'.words l)

  some_same : {n n' : ℕ} → PricesTo n o p b → PricesTo n' o p' b' → (p ≡ p') × (b ≡ b')
  some_same h h' =
      let e : h.lines ≡ h'.lines = some-injective h.lines h'.lines (sym h.some_is ∙ h'.some_is) in
      let t : p.types.0 ≡ p'.types.0 = h.types ∙ ap (λ (x : PriceLines). x.types) e ∙ sym h'.types in
      let r : p.residuals ≡ p'.residuals = h.residuals ∙ ap (λ (x : PriceLines). x.residuals) e ∙ sym h'.residuals in
      let w : Holds b h'.lines.words = rw (← e) h.words in
      (prices-are p p' (h.given ∙ sym h'.given) t r, held_same b b' h'.lines.words w h'.words l)

  prices-same : (t : ℕ) (q : Place) → PricesHeld t q o p b → PricesHeld t q o p' b' → (p ≡ p') × (b ≡ b')
  prices-same t first h h' = none-same h h'
  prices-same t (sizes j) h h' = none-same h h'
  prices-same t (types i) h h' = none-same h h'
  prices-same t body h h' = none-same h h'
  prices-same t (item_prices i) h h' = some_same h.1.1 h'.1.1
  prices-same t (plate_prices j) h h' = some_same h.1.1 h'.1.1
  prices-same t done h h' = some_same h h'

-- ---- the job and the lines 3

-- model, plan, plates, cuts and counts
pub record JobSame (h h' : SawHeld) (b b' : Lent) : Type 0 where
  pub model : h.model ≡ h'.model
  pub plan : h.plan ≡ h'.plan
  pub plates : b.plates ≡ b'.plates
  pub cuts : b.cuts ≡ b'.cuts
  pub counts : b.counts ≡ b'.counts

module _ (h h' : SawHeld) (ws : List ℕ) (rs : List Counted) (b b' : Lent) (l : AsLong b b') (room : Room b) where
  unlisted-same : Unlisted h rs b → Unlisted h' rs b' → JobSame h h' b b'
  unlisted-same u u' =
      record {
        model = u.model ∙ sym u'.model;
        plan = no-plan-same h.plan h'.plan u.no-plan u'.no-plan;
        plates = held_same b.plates b'.plates [] u.plates u'.plates l.plates;
        cuts = held_same b.cuts b'.cuts [] u.cuts u'.cuts l.cuts;
        counts = held_same b.counts b'.counts [] u.counts u'.counts l.counts;
      }

  listed_same : ListedJob h ws rs b → ListedJob h' ws rs b' → JobSame h h' b b'
  listed_same k k' =
      let m : h.model ≡ h'.model = model-same ws h.model h'.model b.plates b.cuts b'.plates b'.cuts k.model k'.model l.plates l.cuts in
      let q : PlanHeld ws h'.model rs h.plan b.counts = rw (← m) k.plan in
      let w = plan-same ws h'.model rs h.plan h'.plan b.counts b'.counts q k'.plan l.counts in
      record {
        model = m;
        plan = w.0;
        plates = plates-same ws h.model h'.model b.plates b.cuts b'.plates b'.cuts k.model k'.model l.plates l.cuts room.for-plates room.for-cuts;
        cuts = cuts-same ws h.model h'.model b.plates b.cuts b'.plates b'.cuts k.model k'.model l.plates l.cuts room.for-plates room.for-cuts;
        counts = w.1;
      }

  job-same : (q : Place) → JobHeld q h ws rs b → JobHeld q h' ws rs b' → JobSame h h' b b'
  job-same first k k' = unlisted-same k.1 k'.1
  job-same (sizes j) k k' = unlisted-same k.1 k'.1
  job-same (types i) k k' = unlisted-same k.1 k'.1
  job-same body k k' = listed_same k k'
  job-same (item_prices i) k k' = listed_same k k'
  job-same (plate_prices j) k k' = listed_same k k'
  job-same done k k' = listed_same k k'

-- ---- all that is held

pub held-as-same : (s : Saw) (lines lines' : ℕ) (h h' : SawHeld) (b b' : Lent) → AsLong b b' → Room b → HeldAs s lines h b → HeldAs s lines' h' b' → (h ≡ h') × (b ≡ b')
held-as-same s lines lines' h h' b b' l room k k' =
    let j = job-same h h' s.job s.plan b b' l room s.place k.of-job k'.of-job in
    let p = prices-same s.prices h.prices h'.prices b.prices b'.prices l.prices (board_sizes s.job) s.place k.of-prices k'.of-prices in
    let w = held_same b.job b'.job s.job k.words k'.words l.job in
    (λ i. record { model = j.model i; plan = j.plan i; prices = p.0 i }, λ i. record { job = w i; plates = j.plates i; cuts = j.cuts i; counts = j.counts i; prices = p.1 i })
