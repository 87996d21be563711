use Rattle.job.proofs.refused.Refused.end.Goals as goal

-- `Refused::end` ends by the refusal's number.
pub returns : goal.returns
returns c place ws = rw (← c.number.ensures) (c.end_refused.ensures place ws)
