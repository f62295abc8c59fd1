use Rattle.std.proofs.Common.{◌∙◌}
use Rattle.std.proofs.lemmas.Int.{to_z-of_z}
use Rattle.calendar.specs.SingleLaws.{length_there}
use Rattle.calendar.proofs.one.length_of.Goals as goal

pub returns : goal.returns
returns g c =
    let fy = c.ranges.year in
    let y = simp to_z-of_z at c.in_ok-year.ensures in
    c.length_of.ensures ∙ length_there (g.R.YearRule.years c.args.rule.now) c.args.year c.args.month c.in_ok-year.year y ((g.met.R.YearRule.lawful c.args.rule.now).fitting.few c.args.year)
