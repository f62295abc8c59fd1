use Rattle.std.proofs.Common.{◌≡◌, ◌≤◌, ◌∙◌, arith, w32, to_z, of_z}
use Rattle.std.proofs.lemmas.Int.{ints}
use Rattle.span_law.specs.Stepping.{signed}
use Rattle.calendar_steps.proofs.Plain.{left_some, left_none}
use Rattle.calendar_steps.proofs.calendar_at.CalendarAt.rest_days.Goals as goal

pub returns-in-Some : goal.returns-in-Some
returns-in-Some g c =
    let k = (g.C.CalendarSource.calendars c.args.self.now.source.now).calendar c.args.self.now.number in
    let few : c.abs_diff.result ≤ 3652059 = omega (arith, c.in-Some.ensures.inside, c.abs_diff.ensures, c.requires.between.end.last) in
    let y : to_z w32 (of_z w32 c.with_way.result) ≡ signed c.args.way c.args.years = (let e : to_z w32 (of_z w32 c.with_way.result) ≡ c.with_way.result = omega (arith, ints) in e) ∙ c.with_way.ensures in
    let m : to_z w32 (of_z w32 c.with_way-2.result) ≡ signed c.args.way c.args.months = (let e : to_z w32 (of_z w32 c.with_way-2.result) ≡ c.with_way-2.result = omega (arith, ints) in e) ∙ c.with_way-2.ensures in
    record {
      is = left_some k c.args.way c.args.from.number c.args.to.number c.args.years c.args.months _ _ y m c.in-Some.number c.abs_diff.result c.in-Some.ensures.is c.abs_diff.ensures;
      few = few;
    }

pub returns-in-None : goal.returns-in-None
returns-in-None g c =
    let k = (g.C.CalendarSource.calendars c.args.self.now.source.now).calendar c.args.self.now.number in
    let y : to_z w32 (of_z w32 c.with_way.result) ≡ signed c.args.way c.args.years = (let e : to_z w32 (of_z w32 c.with_way.result) ≡ c.with_way.result = omega (arith, ints) in e) ∙ c.with_way.ensures in
    let m : to_z w32 (of_z w32 c.with_way-2.result) ≡ signed c.args.way c.args.months = (let e : to_z w32 (of_z w32 c.with_way-2.result) ≡ c.with_way-2.result = omega (arith, ints) in e) ∙ c.with_way-2.ensures in
    record {
      is = left_none k c.args.way c.args.from.number c.args.to.number c.args.years c.args.months _ _ y m c.in-None.ensures.is;
      few = omega arith;
    }
