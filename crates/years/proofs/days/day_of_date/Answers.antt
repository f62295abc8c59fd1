use Rattle.std.proofs.Common.{w32, SFits, rules}
use Rattle.std.proofs.lemmas.Int.{to_z-of_z}
use Rattle.years.proofs.Daily.{no_year, no_day, numbers}
use Rattle.years.proofs.Told.{answered, is_year}
use Rattle.years.proofs.days.day_of_date.Goals as goal

pub returns-in_err-year : goal.returns-in_err-year
returns-in_err-year g c =
    let fy : SFits w32 c.args.date.year = search rules in
    no_year _ (g.met.R.YearRule.lawful c.args.rule.now).fitting c.args.date _ (to_z-of_z w32 _ fy) c.in_err-year.ensures _ c.from_residual.ensures

-- a year has at most 14 months
pub days_into-requires : goal.days_into-requires
days_into-requires g c =
    let few = (g.met.R.YearRule.lawful c.args.rule.now).fitting.few in
    let ys = g.R.YearRule.years c.args.rule.now in
    let m = (is_year ys _ _ (answered ys _ _ c.in_ok-year.ensures).2).months in
    rw m (few _)

pub returns-in_err-into : goal.returns-in_err-into
returns-in_err-into g c =
    let fy : SFits w32 c.args.date.year = search rules in
    no_day _ (g.met.R.YearRule.lawful c.args.rule.now).fitting c.args.date c.in_ok-year.year _ (to_z-of_z w32 _ fy) c.in_ok-year.ensures
    c.in_err-into.ensures _ c.from_residual-in_err-into.ensures

pub returns : goal.returns
returns g c =
    let fy : SFits w32 c.args.date.year = search rules in
    let fs : SFits w32 c.in_ok-year.year.start = search rules in
    let into = c.in_ok-into.ensures in
    numbers _ (g.met.R.YearRule.lawful c.args.rule.now).fitting c.args.date c.in_ok-year.year _ c.in_ok-into.into (to_z-of_z w32 _ fy)
    c.in_ok-year.ensures into.0 into.1 _ (to_z-of_z w32 _ fs) c.numbered.result c.numbered.ensures
