use Rattle.std.proofs.Common.{◌≡◌, sym, ◌∙◌, rules}
use Rattle.calendar.specs.Namings.{name_of}
use Rattle.calendar.specs.Singles.{single_count}
use Rattle.calendar.specs.SingleLaws.{count_is}
use Rattle.calendar.proofs.single.SingleCalendarSource.count.Goals as goal

pub returns : goal.returns
returns g c = let one : c.from.result ≡ single_count (name_of c.args.self.now.name) = search rules in one ∙ sym (count_is (g.R.YearRule.years c.args.self.now.rule) (name_of c.args.self.now.name) 0)
