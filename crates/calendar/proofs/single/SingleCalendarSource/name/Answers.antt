use Rattle.std.proofs.Common.{sym, ◌∙◌, arith}
use Rattle.calendar.specs.Namings.{name_of}
use Rattle.calendar.specs.SingleLaws.{count_is, name_is}
use Rattle.calendar.proofs.single.SingleCalendarSource.name.Goals as goal

pub returns-in_err-_there : goal.returns-in_err-_there
returns-in_err-_there g c = rw c.from_residual.ensures (omega (arith, c.in_err-_there.ensures, count_is (g.R.YearRule.years c.args.self.now.rule) (name_of c.args.self.now.name) 0))

pub returns : goal.returns
returns g c =
    let rule = c.in_ok-_there.ensures in
    (omega (arith, rule.0, count_is (g.R.YearRule.years c.args.self.now.rule) (name_of c.args.self.now.name) 0), c.bytes.ensures ∙ sym (name_is (g.R.YearRule.years c.args.self.now.rule) (name_of c.args.self.now.name) c.args.calendar))
