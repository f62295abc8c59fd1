use Rattle.std.proofs.Common.{arith, w32, SFits, rules}
use Rattle.std.proofs.lemmas.Int.{ints, to_z-of_z}
use Rattle.years.proofs.Daily.{dated, not_dateless}
use Rattle.years.proofs.Told.{is_year}
use Rattle.years.proofs.days.date_of_day.Goals as goal

pub days_since_start-rest-requires : goal.days_since_start-rest-requires
days_since_start-rest-requires g c =
    let a = c.in_ok-number.ensures in
    let high = a.0.high in
    let low = a.1.low in
    let st = (is_year (g.R.YearRule.years c.args.rule.now) _ _ a.2).starts in
    (omega (arith, ints), high)

pub returns-in_err-month : goal.returns-in_err-month
returns-in_err-month g c =
    let a = c.in_ok-number.ensures in
    not_dateless _ (g.met.R.YearRule.lawful c.args.rule.now).fitting c.args.day c.days_since_start-rest.result c.in_ok-number.number c.in_ok-number.year
    a.0 a.1 a.2 c.days_since_start-rest.ensures c.in_err-month.ensures _ c.from_residual-in_err-month.ensures

pub returns : goal.returns
returns g c =
    let fy : SFits w32 c.in_ok-number.number = search rules in
    let a = c.in_ok-number.ensures in
    dated _ (g.met.R.YearRule.lawful c.args.rule.now).fitting c.args.day c.days_since_start-rest.result c.in_ok-number.number c.in_ok-number.year
    a.0 a.1 a.2 c.days_since_start-rest.ensures c.in_ok-month.month c.in_ok-month.day _ (to_z-of_z w32 _ fy) c.in_ok-month.ensures
