-- What the reader of a saw text keeps, as the words of each lent buffer.
use Prim.Native.Nat.{ℕ}
use mathlib.Core.Path.{◌≡◌, refl, sym, ap, ◌∙◌}
use mathlib.Core.List.{List, []}
use mathlib.Core.Option.{Option}
use lib.ListN.{length, replicate}
use Rattle.job.specs.Verdict.{Verdict, pass, refuse}
use Rattle.job.specs.Buffers.{filled, ends}
use Rattle.job.specs.Job.{job_of}
use Rattle.job.proofs.Buffers.{filled_none}
use Rattle.job.proofs.CodeEnds.{Not5, ends-zeros, given-pass, refused-refuse}
use Rattle.listing.specs.Holds.{Holds}
use Rattle.listing.specs.ListCall.{list_verdict, list_answer, plates_end, cuts_end}
use Rattle.saw_text_body.specs.declared.model.Model.{Model}
use Rattle.saw_text_body.specs.declared.model.Model.TheVariants.{Listed, Refused}
use Rattle.saw_text_body.specs.ModelRead.{says_of}
use Rattle.texts.specs.JobLines.{Place, first, sizes, types, body, item_prices, plate_prices, done, board_sizes}
use Rattle.texts.specs.SawText.{PriceLines, Saw}
use Rattle.saw_text_body.specs.declared.price_lines.PriceLines.{PriceLines as CodePrices}
use Rattle.saw_text_lines.specs.declared.held.SawHeld.{SawHeld}
use Rattle.saw_text_body.specs.declared.plan_lines.PlanLines.{PlanLines}
use Rattle.saw_text_lines.specs.SawKept.{Lent, Room, Unlisted, PlanHeld, ListedJob, JobHeld, NoPrices, PricesTo, PricesHeld, HeldAs}
use Rattle.saw_text_reader.specs.Parts.{AsLong}
use Rattle.saw_text_body.proofs.ModelLaws.{verdict-again}
use Rattle.saw_text_reader.proofs.HeldSame.{list-not5}
use Rattle.saw_text_call.specs.TextCall.{listed_by, counts_by, prices_by, LentAfter}

-- a buffer that holds words, by its length alone
held-as : {buffer ws : List ℕ} (n : ℕ) → length buffer ≡ n → Holds buffer ws → buffer ≡ filled n ws
held-as {buffer} {ws} n e h = h.words ∙ ap (λ (k : ℕ). filled k ws) e

none-held : {buffer : List ℕ} (n : ℕ) → length buffer ≡ n → Holds buffer [] → buffer ≡ replicate n 0
none-held n e h = held-as n e h ∙ filled_none n

-- a buffer that ends by a verdict other than 5
ends_as : (v : Verdict) (b b' ws : List ℕ) → Not5 v → length b' ≡ length b → b' ≡ ends v b' ws → b' ≡ ends v b ws
ends_as pass b b' ws n l e = e ∙ ap (λ (k : ℕ). filled k ws) l
ends_as (refuse number place) b b' ws n l e =
    (e ∙ ends-zeros (refuse number place) refl n b' ws)
    ∙ ap (λ (k : ℕ). replicate k 0) l
    ∙ sym (ends-zeros (refuse number place) refl n b ws)

-- plates, cuts and counts, by a verdict
record ModelLeft (v : Verdict) (s : Saw) (b b' : Lent) : Type 0 where
  plates : b'.plates ≡ plates_end v s.job b.plates
  cuts : b'.cuts ≡ cuts_end v s.job b.cuts
  counts : b'.counts ≡ filled (length b.counts) (counts_by v s)

module _ (s : Saw) (h : SawHeld) (b b' : Lent) (long : AsLong b' b) (room : Room b') where
  -- before the job is listed
  unlisted : Unlisted h s.plan b' → ModelLeft (refuse 1 0) s b b'
  unfolding plates_end cuts_end
  unlisted u =
      record {
        plates = none-held (length b.plates) long.plates u.plates;
        cuts = none-held (length b.cuts) long.cuts u.cuts;
        counts = held-as (length b.counts) long.counts u.counts;
      }

  counts-left :
      (a : Model) (v : Verdict) (p : PlanLines)
      → says_of (job_of s.job) a ≡ list_answer s.job b'.plates b'.cuts
      → list_verdict s.job b'.plates b'.cuts ≡ v
      → PlanHeld s.job a s.plan p b'.counts
      → b'.counts ≡ filled (length b.counts) (counts_by v s)
  unfolding list_answer
  counts-left (Listed m k) v p says e q =
      rw (sym e ∙ given-pass (list_verdict s.job b'.plates b'.cuts) _ says) (held-as (length b.counts) long.counts q.counts-are)
  counts-left (Refused number place) v p says e q =
      rw (sym e ∙ refused-refuse (list_verdict s.job b'.plates b'.cuts) _ says) (held-as (length b.counts) long.counts q.1)

  -- from then on
  listed : ListedJob h s.job s.plan b' → ModelLeft (list_verdict s.job b.plates b.cuts) s b b'
  unfolding plates_end cuts_end
  listed k =
      let v : Verdict = list_verdict s.job b.plates b.cuts in
      let e : list_verdict s.job b'.plates b'.cuts ≡ v = verdict-again s.job b.plates b.cuts b'.plates b'.cuts long.plates long.cuts in
      let n : Not5 v = rw (← e) (list-not5 s.job b'.plates b'.cuts room.for-plates room.for-cuts) in
      let m = k.model in
      record {
        plates = ends_as v b.plates b'.plates _ n long.plates (rw e at m.plates-are);
        cuts = ends_as v b.cuts b'.cuts _ n long.cuts (rw e at m.cuts_are);
        counts = counts-left h.model v h.plan m.says e k.plan;
      }

  modelled : (p : Place) → JobHeld p h s.job s.plan b' → ModelLeft (listed_by p s.job b) s b b'
  modelled first k = unlisted k.1
  modelled (sizes j) k = unlisted k.1
  modelled (types i) k = unlisted k.1
  modelled body k = listed k
  modelled (item_prices i) k = listed k
  modelled (plate_prices j) k = listed k
  modelled done k = listed k

-- the prices
module _ (o : Option PriceLines) (p : CodePrices) (b : List ℕ) (n : ℕ) (long : length b ≡ n) where
  no-prices : NoPrices o p b → b ≡ filled n (prices_by o)
  no-prices h = rw h.none_is (held-as n long h.words)

  some-prices : {m : ℕ} → PricesTo m o p b → b ≡ filled n (prices_by o)
  some-prices h = rw h.some_is (held-as n long h.words)

  prices-left : (t : ℕ) (q : Place) → PricesHeld t q o p b → b ≡ filled n (prices_by o)
  prices-left t first h = no-prices h
  prices-left t (sizes j) h = no-prices h
  prices-left t (types i) h = no-prices h
  prices-left t body h = no-prices h
  prices-left t (item_prices i) h = some-prices h.1.1
  prices-left t (plate_prices j) h = some-prices h.1.1
  prices-left t done h = some-prices h

-- all that is held
pub held_after : (s : Saw) (lines : ℕ) (h : SawHeld) (b b' : Lent) → AsLong b' b → Room b' → HeldAs s lines h b' → LentAfter s b b'
held_after s lines h b b' long room k =
    let m = modelled s h b b' long room s.place k.of-job in
    record {
      job = held-as (length b.job) long.job k.words;
      plates = m.plates;
      cuts = m.cuts;
      counts = m.counts;
      prices = prices-left s.prices h.prices b'.prices (length b.prices) long.prices (board_sizes s.job) s.place k.of-prices;
    }
