use Rattle.mark_text.proofs.Dates.{small}
use Rattle.mark_text.proofs.stamping.date_of.Goals as goal

pub returns-clause-year : goal.returns-clause-year
returns-clause-year c = let s = small c.args.local.day c.in-Some.date c.in-Some.ensures in (s.low, s.high)

pub returns-clause-month : goal.returns-clause-month
returns-clause-month c = (small c.args.local.day c.in-Some.date c.in-Some.ensures).month

pub returns-clause-day : goal.returns-clause-day
returns-clause-day c = (small c.args.local.day c.in-Some.date c.in-Some.ensures).day
