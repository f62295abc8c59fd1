use Rattle.std.proofs.Common.{◌≡◌, pos, ◌+ℤ◌, ◌-ℤ◌, arith, w32, SFits, to_z, of_z, rules}
use Rattle.std.proofs.lemmas.Int.{ints, to_z-of_z}
use Rattle.years.proofs.Daily.{turn_before, turn_after, stay, placed, some_near}
use Rattle.years.proofs.Told.{answered}
use Rattle.years.proofs.days.year_of_day.Goals as goal

pub returns-in_err-near : goal.returns-in_err-near
returns-in_err-near g c =
    let fy : SFits w32 c.near_year-guess.result = search rules in
    some_near _ (g.met.R.YearRule.lawful c.args.rule.now).fitting c.args.day c.near_year-guess.result _ (to_z-of_z w32 _ fy) c.near_year-guess.ensures c.in_err-near.ensures _ c.from_residual.ensures

pub overflow_sub-guess : goal.overflow_sub-guess
overflow_sub-guess g c =
    let f = (g.met.R.YearRule.lawful c.args.rule.now).fitting in
    let near = f.near in
    let far = f.far in
    let k = c.near_year-guess.ensures in
    omega (arith, ints)

pub overflow_add-guess : goal.overflow_add-guess
overflow_add-guess g c =
    let f = (g.met.R.YearRule.lawful c.args.rule.now).fitting in
    let near = f.near in
    let far = f.far in
    let k = c.near_year-guess.ensures in
    omega (arith, ints)

-- the year before, where the guessed one starts after the day
pub returns-then-starts_after : goal.returns-then-starts_after
returns-then-starts_after g c =
    let fy : SFits w32 c.near_year-guess.result = search rules in
    let f = (g.met.R.YearRule.lawful c.args.rule.now).fitting in
    let k = c.near_year-guess.ensures in
    let z : to_z w32 (of_z w32 (to_z w32 (of_z w32 c.near_year-guess.result) -ℤ pos 1)) ≡ c.near_year-guess.result -ℤ pos 1 =
    let near = f.near in let far = f.far in omega (arith, ints) in
    let r = c.in_range.ensures.0 c.if-not-in_range.false in
    placed _ f c.args.day _ _ r z
    (turn_before _ f c.args.day c.near_year-guess.result _ c.in_ok-near.near k r (to_z-of_z w32 _ fy) c.in_ok-near.ensures _ c.starts_after.ensures c.if-starts_after.true)
    _ c.labelled.ensures

-- the year after, where the guessed one is over
pub returns-then-ends_by : goal.returns-then-ends_by
returns-then-ends_by g c =
    let fy : SFits w32 c.near_year-guess.result = search rules in
    let f = (g.met.R.YearRule.lawful c.args.rule.now).fitting in
    let k = c.near_year-guess.ensures in
    let z : to_z w32 (of_z w32 (to_z w32 (of_z w32 c.near_year-guess.result) +ℤ pos 1)) ≡ c.near_year-guess.result +ℤ pos 1 =
    let near = f.near in let far = f.far in omega (arith, ints) in
    let r = c.in_range.ensures.0 c.if-not-in_range.false in
    placed _ f c.args.day _ _ r z
    (turn_after _ f c.args.day c.near_year-guess.result _ c.in_ok-near.near k r (to_z-of_z w32 _ fy) c.in_ok-near.ensures _ c.ends_by.ensures c.if-ends_by.true)
    _ c.labelled-then-ends_by.ensures

pub returns : goal.returns
returns g c =
    let fy : SFits w32 c.near_year-guess.result = search rules in
    let r = c.in_range.ensures.0 c.if-not-in_range.false in
    let a = c.in_ok-near.ensures in (
      r,
      stay _ (g.met.R.YearRule.lawful c.args.rule.now).fitting c.args.day c.near_year-guess.result _ c.in_ok-near.near c.near_year-guess.ensures r (to_z-of_z w32 _ fy) a
          _ _ c.starts_after.ensures c.if-starts_after.false c.ends_by.ensures c.if-ends_by.false,
      (answered (g.R.YearRule.years c.args.rule.now) _ _ a).2,
    )
