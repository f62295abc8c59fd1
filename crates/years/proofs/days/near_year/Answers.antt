use Rattle.std.proofs.Common.{◌≡◌, pos, ◌-ℤ◌, sym, ◌∙◌, subst, arith, w32, SFits, to_z, of_z, rules}
use Rattle.std.proofs.lemmas.Int.{ints, to_z-of_z}
use Rattle.years.specs.Days.{Near}
use Rattle.years.proofs.Daily.{beside}
use Rattle.years.proofs.days.near_year.Goals as goal

pub clamp-requires : goal.clamp-requires
clamp-requires g c =
    let f = (g.met.R.YearRule.lawful c.args.rule.now).fitting in
    let some = f.some in
    let near = f.near in
    let far = f.far in
    let a = c.first_year.ensures in
    let b = c.past_year.ensures in
    omega (arith, ints)

pub returns : goal.returns
returns g c =
    let fe : SFits w32 c.estimate.result = search rules in
    let fl : SFits w32 c.first_year.result = search rules in
    let fr : SFits w32 c.clamp.result = search rules in
    let f = (g.met.R.YearRule.lawful c.args.rule.now).fitting in
    let most : to_z w32 (of_z w32 (to_z w32 (of_z w32 c.past_year.result) -ℤ pos 1)) ≡ (g.R.YearRule.years c.args.rule.now).past -ℤ pos 1 =
    let b = c.past_year.ensures in
    let near = f.near in
    let some = f.some in
    omega (arith, ints) in
    beside _ f c.args.day c.estimate.result _ _ _ _ (λ r. subst (Near _ c.args.day) (sym c.estimate.ensures) ((g.met.R.YearRule.lawful c.args.rule.now).guessed c.args.day r)) (to_z-of_z w32 _ fe) (to_z-of_z w32 _ fl ∙ c.first_year.ensures) most
    (to_z-of_z w32 _ fr ∙ c.clamp.ensures.value)
