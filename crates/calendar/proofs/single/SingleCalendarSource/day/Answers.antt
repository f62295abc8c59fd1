use Rattle.std.proofs.Common.{◌∙◌}
use Rattle.calendar.specs.Namings.{name_of}
use Rattle.calendar.specs.SingleLaws.{none_day, some_day, day_is}
use Rattle.calendar.proofs.single.SingleCalendarSource.day.Goals as goal

pub returns-in_err-rule_of : goal.returns-in_err-rule_of
returns-in_err-rule_of g c = c.from_residual.ensures ∙ none_day (g.R.YearRule.years c.args.self.now.rule) (name_of c.args.self.now.name) c.args.calendar c.args.date c.in_err-rule_of.ensures

pub returns : goal.returns
returns g c =
    let rule = c.in_ok-rule_of.ensures in
    day_is (g.R.YearRule.years c.args.self.now.rule) (g.met.R.YearRule.lawful c.args.self.now.rule) c.args.date _ (rw rule.1 at c.day_of_date.ensures)
    ∙ some_day (g.R.YearRule.years c.args.self.now.rule) (name_of c.args.self.now.name) c.args.calendar c.args.date rule.0
