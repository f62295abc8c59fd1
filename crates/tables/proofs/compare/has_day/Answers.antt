use Rattle.tables.proofs.OneDay.{found_day}
use Rattle.tables.proofs.compare.has_day.Goals as goal

pub returns : goal.returns
returns g c = rw c.eq.ensures (found_day (g.R.YearRule.years c.args.rule.now) c.args.date c.args.day _ c.day_of_date.ensures)
