use Rattle.std.proofs.Common.{◌∙◌}
use Rattle.std.proofs.lemmas.Int.{to_z-of_z}
use Rattle.calendar.specs.Calendars.{year_there}
use Rattle.calendar.specs.Namings.{name_of}
use Rattle.calendar.specs.SingleLaws.{none_one, some_one}
use Rattle.calendar.proofs.single.SingleCalendarSource.months.Goals as goal

pub returns-in_err-rule_of : goal.returns-in_err-rule_of
returns-in_err-rule_of g c = c.from_residual.ensures ∙ none_one (g.R.YearRule.years c.args.self.now.rule) (name_of c.args.self.now.name) c.args.calendar (λ c'. year_there c' c.args.year) (λ c'. c'.months c.args.year) c.in_err-rule_of.ensures

pub returns : goal.returns
returns g c =
    let rule = c.in_ok-rule_of.ensures in
    let fyear = c.ranges.year in
    simp (to_z-of_z, rule.1) at c.months_of.ensures ∙ some_one (g.R.YearRule.years c.args.self.now.rule) (name_of c.args.self.now.name) c.args.calendar (λ c'. year_there c' c.args.year) (λ c'. c'.months c.args.year) rule.0
