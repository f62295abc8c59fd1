use Rattle.std.proofs.Common.{◌&&◌, leb, ◌∙◌}
use Rattle.calendar.specs.Calendars.{last_day}
use Rattle.calendar.specs.Namings.{name_of}
use Rattle.calendar.specs.SingleLaws.{none_one, some_one, date_is}
use Rattle.calendar.proofs.single.SingleCalendarSource.date.Goals as goal

pub returns-in_err-rule_of : goal.returns-in_err-rule_of
returns-in_err-rule_of g c = c.from_residual.ensures ∙ none_one (g.R.YearRule.years c.args.self.now.rule) (name_of c.args.self.now.name) c.args.calendar (λ _. leb 1 c.args.day && leb c.args.day last_day) (λ c'. c'.date c.args.day) c.in_err-rule_of.ensures

pub returns : goal.returns
returns g c =
    let rule = c.in_ok-rule_of.ensures in
    date_is (g.R.YearRule.years c.args.self.now.rule) (g.met.R.YearRule.lawful c.args.self.now.rule) c.args.day _ (rw rule.1 at c.date_of_day.ensures)
    ∙ some_one (g.R.YearRule.years c.args.self.now.rule) (name_of c.args.self.now.name) c.args.calendar (λ _. leb 1 c.args.day && leb c.args.day last_day) (λ c'. c'.date c.args.day) rule.0
