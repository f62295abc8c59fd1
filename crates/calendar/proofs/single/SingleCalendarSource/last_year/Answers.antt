use Rattle.std.proofs.Common.{true, Some, ap, ◌∙◌, arith}
use Rattle.std.proofs.lemmas.Int.{ints}
use Rattle.calendar.specs.Namings.{name_of}
use Rattle.calendar.specs.SingleLaws.{none_one, some_one}
use Rattle.calendar.proofs.single.SingleCalendarSource.last_year.Goals as goal

pub returns-in_err-rule_of : goal.returns-in_err-rule_of
returns-in_err-rule_of g c = c.from_residual.ensures ∙ none_one (g.R.YearRule.years c.args.self.now.rule) (name_of c.args.self.now.name) c.args.calendar (λ _. true) (λ c'. c'.last) c.in_err-rule_of.ensures

pub returns : goal.returns
returns g c =
    let rule = c.in_ok-rule_of.ensures in
    let e = rw rule.1 at c.past_year.ensures in
    let f = (g.met.R.YearRule.lawful c.args.self.now.rule).fitting in
    ap Some (omega (arith, ints, e, f.near, f.far, f.some)) ∙ some_one (g.R.YearRule.years c.args.self.now.rule) (name_of c.args.self.now.name) c.args.calendar (λ _. true) (λ c'. c'.last) rule.0
