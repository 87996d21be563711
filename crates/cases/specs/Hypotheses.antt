-- Demand 3 speaks of a job whose listing is not refused, of accepted plans, of sets of layouts that it names and of accepted prices: job A has one of each.
-- A hypothesis that nothing meets would leave demand 3 saying nothing.
use Rattle.job.specs.Job.{job_of}
use Rattle.listing.specs.Listing.{listing_of}
use Rattle.layouts.specs.Lines.{set_of}
use Rattle.layouts.specs.Demand3.{Listed, Accepted, Named, Priced}
use Rattle.cases.specs.Jobs.{job_a, plan_a, prices_a, lines_a}

pub record Hypotheses : Type 0 where
  pub listed : Listed job_a
  pub accepted : Accepted (job_of job_a) (listing_of (job_of job_a)) plan_a
  pub named : Named (job_of job_a) (listing_of (job_of job_a)) (set_of lines_a)
  pub priced : Priced (job_of job_a) (listing_of (job_of job_a)) prices_a
